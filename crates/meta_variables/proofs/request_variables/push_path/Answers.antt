use Rattle.std.proofs.Common.{[], ◌∷◌, ◌++◌, ◌∙◌, codes, filter}
use Rattle.meta_variables.specs.Environment.{translated as translated_of}
use Rattle.meta_variables.specs.Variables.{pair, is_kept}
use Rattle.meta_variables.proofs.PushLaws.{on_ok, kept_next}
use Rattle.meta_variables.proofs.request_variables.push_path.Goals as goal

pub returns : goal.returns
returns c =
    let old = c.args.variables.now in
    let gateway = pair (codes "GATEWAY_INTERFACE") (codes "CGI/1.1") in
    let info = pair (codes "PATH_INFO") c.as_str-path_info.result.now in
    let translated = pair (codes "PATH_TRANSLATED") c.as_str-2.result.now in
    on_ok c.push_kept-3.result _ _
    (λ last.
    kept_next is_kept old c.push_kept-2.new.variables c.push_kept-3.new.variables (gateway ∷ info ∷ []) (translated ∷ [])
    (kept_next is_kept old c.push_kept.new.variables c.push_kept-2.new.variables (gateway ∷ []) (info ∷ []) c.in_ok-push_kept.ensures c.in_ok-push_kept-2.ensures)
    last
    ∙ (λ i. old ++ filter is_kept (gateway ∷ pair (codes "PATH_INFO") (c.as_str-path_info.ensures i)
    ∷ pair (codes "PATH_TRANSLATED") ((c.as_str-2.ensures.value ∙ c.in_ok-translated.ensures ∙ (λ j. translated_of (c.as_str.ensures j) (c.as_str-path_info.ensures j))) i) ∷ [])))
    c.push_kept-3.ensures
