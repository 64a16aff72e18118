use Rattle.ws_handshake.proofs.OrderLaws as laws
use Rattle.ws_handshake.proofs.laws.handshakes_are_judged_in_order.Goals as goal

pub returns : goal.returns
returns c = laws.handshakes_are_judged_in_order
