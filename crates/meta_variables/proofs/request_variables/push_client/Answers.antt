use Rattle.std.proofs.Common.{[], ◌∷◌, ◌++◌, ◌∙◌, codes, filter}
use Rattle.meta_variables.specs.Variables.{pair, is_kept}
use Rattle.meta_variables.proofs.PushLaws.{on_ok, kept_next}
use Rattle.meta_variables.proofs.request_variables.push_client.Goals as goal

pub returns : goal.returns
returns c =
    let old = c.args.variables.now in
    let query = pair (codes "QUERY_STRING") c.query_text.result.now in
    let addr = pair (codes "REMOTE_ADDR") c.as_str.result.now in
    let host = pair (codes "REMOTE_HOST") c.as_str-2.result.now in
    let method = pair (codes "REQUEST_METHOD") c.known_text-method.result.now in
    let name = pair (codes "SCRIPT_NAME") c.as_str-3.result.now in
    let one = c.push_kept.new.variables in
    let two = c.push_kept-2.new.variables in
    let three = c.push_kept-3.new.variables in
    let four = c.push_kept-4.new.variables in
    on_ok c.push_kept-5.result _ _
    (λ last.
    kept_next is_kept old four c.push_kept-5.new.variables (query ∷ addr ∷ host ∷ method ∷ []) (name ∷ [])
    (kept_next is_kept old three four (query ∷ addr ∷ host ∷ []) (method ∷ [])
    (kept_next is_kept old two three (query ∷ addr ∷ []) (host ∷ [])
    (kept_next is_kept old one two (query ∷ []) (addr ∷ []) c.in_ok-push_kept.ensures c.in_ok-push_kept-2.ensures)
    c.in_ok-push_kept-3.ensures)
    c.in_ok-push_kept-4.ensures)
    last
    ∙ (λ i. old ++ filter is_kept (pair (codes "QUERY_STRING") (c.query_text.ensures i) ∷ pair (codes "REMOTE_ADDR") (c.as_str.ensures i)
    ∷ pair (codes "REMOTE_HOST") (c.as_str-2.ensures i) ∷ pair (codes "REQUEST_METHOD") ((c.known_text-method.ensures ∙ c.as_slice.ensures) i)
    ∷ pair (codes "SCRIPT_NAME") (c.as_str-3.ensures i) ∷ [])))
    c.push_kept-5.ensures
