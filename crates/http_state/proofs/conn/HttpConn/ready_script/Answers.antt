use Rattle.std.proofs.Common.{rules, ◌≡◌, Ok}
use Rattle.host_base.specs.declared.site.ScriptKind.TheVariants.{WebSocket}
use Rattle.ws_handshake.specs.Handshake.{handshake}
use Rattle.trace_model.specs.Places.{kind_of, origins_of}
use Rattle.http_state.specs.Kept.{site_of}
use Rattle.http_state.proofs.TakenLaws.{welcome_by}
use Rattle.http_state.proofs.conn.HttpConn.ready_script.Goals as goal

pub returns-in-Ok-clause-welcome : goal.returns-in-Ok-clause-welcome
returns-in-Ok-clause-welcome c =
    let kind : kind_of (site_of c.args.self.now) c.args.mapped ≡ WebSocket = search rules in
    let taken : handshake c.args.request (origins_of (site_of c.args.self.now) c.args.mapped) ≡ Ok c.in-Ok.accept.value = search rules in
    welcome_by c.args.hop c.args.request c.args.mapped c.args.self.now c.ready_welcome.new.self c.in-Ok.accept.value c.ready_welcome.result kind taken c.ready_welcome.ensures.waits c.ready_welcome.ensures.text c.ready_welcome.ensures.launch
