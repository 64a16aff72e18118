use Rattle.std.proofs.Common.{◌≡◌, List, ◌++◌, ap, ◌∙◌, filter}
use Rattle.host_base.specs.declared.launch.Pair.{Pair}
use Rattle.meta_variables.specs.Environment.{request_variables}
use Rattle.meta_variables.specs.HeaderVariables.{header_variables}
use Rattle.meta_variables.specs.Parts.{content_variables, path_variables, client_variables, server_variables}
use Rattle.meta_variables.specs.Variables.{is_kept}
use Rattle.meta_variables.proofs.PushLaws.{kept_next}
use Rattle.meta_variables.proofs.request_variables.environment_at.Goals as goal

pub returns : goal.returns
returns c =
    let site = c.args.site.now in
    let host = c.args.host.now in
    let peer = c.args.peer.now in
    let request = c.args.request.now in
    let mapped = c.args.mapped.now in
    let start = c.new-variables.result in
    let one = c.push_content.new.variables in
    let two = c.push_path.new.variables in
    let three = c.push_client.new.variables in
    let four = c.push_server.new.variables in
    let content = content_variables request in
    let path = path_variables host mapped in
    let client = client_variables peer request mapped in
    let server = server_variables site host request in
    let kept : four ≡ start ++ filter is_kept (request_variables site host peer request mapped) =
    kept_next is_kept start three four (content ++ path ++ client) server
    (kept_next is_kept start two three (content ++ path) client
    (kept_next is_kept start one two content path c.in_ok-push_content.ensures c.in_ok-push_path.ensures)
    c.in_ok-push_client.ensures)
    c.in_ok-push_server.ensures in
    c.in_ok-push_headers.ensures
    ∙ (λ i. kept i ++ header_variables (c.as_slice.ensures i))
    ∙ ap (λ (l : List Pair). l ++ filter is_kept (request_variables site host peer request mapped) ++ header_variables request.fields) c.new-variables.ensures
