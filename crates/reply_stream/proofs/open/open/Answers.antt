use Rattle.std.proofs.Common.{sym, ◌∙◌}
use Rattle.reply_stream.proofs.OpenLaws.{opens_tested_empty, opens_tested_raw, opens_web}
use Rattle.reply_stream.proofs.open.open.Goals as goal

pub returns-in-Nph : goal.returns-in-Nph
returns-in-Nph c = opens_tested_empty c.args.asked c.args.close c.args.stamp c.args.output.now c.in-Nph.is (sym c.is_empty.ensures ∙ c.if-is_empty.true)

pub returns-in_ok-from_slice-in-Nph-2 : goal.returns-in_ok-from_slice-in-Nph-2
returns-in_ok-from_slice-in-Nph-2 c =
    opens_tested_raw c.args.asked c.args.close c.args.stamp c.args.output.now c.in_ok-from_slice-in-Nph-2.field-0 c.in-Nph.is
    (sym c.is_empty.ensures ∙ c.if-is_empty.false) c.in_ok-from_slice-in-Nph-2.ensures

pub returns-in-WebSocket : goal.returns-in-WebSocket
returns-in-WebSocket c = opens_web c.args.asked c.args.close c.args.stamp c.args.output.now c.in-WebSocket.is
