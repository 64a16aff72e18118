use Rattle.std.proofs.Common.{[], ◌∷◌, ◌++◌, ap, ◌∙◌, codes, filter, decimal}
use Rattle.meta_variables.specs.Variables.{pair, is_kept}
use Rattle.meta_variables.proofs.PushLaws.{on_ok, kept_next}
use Rattle.meta_variables.proofs.request_variables.push_server.Goals as goal

pub returns : goal.returns
returns c =
    let old = c.args.variables.now in
    let name = pair (codes "SERVER_NAME") c.server_name.result.now in
    let port = pair (codes "SERVER_PORT") c.as_str.result.now in
    let protocol = pair (codes "SERVER_PROTOCOL") c.protocol_of.result.now in
    let software = pair (codes "SERVER_SOFTWARE") (codes "cgihost/1") in
    let one = c.push_kept.new.variables in
    let two = c.push_kept-2.new.variables in
    let three = c.push_kept-3.new.variables in
    on_ok c.push_kept-4.result _ _
    (λ last.
    kept_next is_kept old three c.push_kept-4.new.variables (name ∷ port ∷ protocol ∷ []) (software ∷ [])
    (kept_next is_kept old two three (name ∷ port ∷ []) (protocol ∷ [])
    (kept_next is_kept old one two (name ∷ []) (port ∷ []) c.in_ok-push_kept.ensures c.in_ok-push_kept-2.ensures)
    c.in_ok-push_kept-3.ensures)
    last
    ∙ (λ i. old ++ filter is_kept (pair (codes "SERVER_NAME") (c.server_name.ensures i)
    ∷ pair (codes "SERVER_PORT") ((c.as_str.ensures.value ∙ c.in_ok-port.ensures ∙ ap decimal c.from.ensures) i)
    ∷ pair (codes "SERVER_PROTOCOL") (c.protocol_of.ensures i) ∷ software ∷ [])))
    c.push_kept-4.ensures
