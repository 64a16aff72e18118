use Rattle.std.proofs.Common.{[], ◌∷◌, ◌++◌, ap, ◌∙◌, codes, filter}
use Rattle.host_base.specs.FieldLists.{values_named}
use Rattle.meta_variables.specs.Variables.{pair, is_kept, joined_values}
use Rattle.meta_variables.proofs.PushLaws.{on_ok, kept_next}
use Rattle.meta_variables.proofs.request_variables.push_content.Goals as goal

pub returns : goal.returns
returns c =
    let old = c.args.variables.now in
    let length = pair (codes "CONTENT_LENGTH") c.as_str.result.now in
    let kind = pair (codes "CONTENT_TYPE") c.as_str-2.result.now in
    let values = c.as_str-2.ensures.value ∙ c.in_ok-content_type.ensures
    ∙ ap (λ fs. joined_values (codes ", ") (values_named (codes "Content-Type") fs)) c.as_slice-fields.ensures in
    on_ok c.push_kept-2.result _ _
    (λ last.
    kept_next is_kept old c.push_kept.new.variables c.push_kept-2.new.variables (length ∷ []) (kind ∷ []) c.in_ok-push_kept.ensures last
    ∙ (λ i. old ++ filter is_kept (pair (codes "CONTENT_LENGTH") ((c.as_str.ensures.value ∙ c.in_ok-length.ensures) i)
    ∷ pair (codes "CONTENT_TYPE") (values i) ∷ [])))
    c.push_kept-2.ensures
