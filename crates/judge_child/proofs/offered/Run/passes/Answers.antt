-- The kind is no WebSocket's.
use Rattle.std.proofs.Common.{◌≡◌, ◌∙◌, false, sym}
use Rattle.host_trace.specs.Decider.{is_websocket}
use Rattle.judge_child.proofs.offered.Run.passes.Goals as goal

pub returns : goal.returns
returns g c =
    let other : is_websocket c.args.self.now.kind ≡ false = sym c.is_websocket.ensures ∙ c.if-is_websocket.false in
    rw other (c.passes_limit.ensures c.args.front.now c.requires.counted)
