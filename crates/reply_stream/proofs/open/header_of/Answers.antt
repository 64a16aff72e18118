use Rattle.std.proofs.Common.{sym, ◌∙◌, subst}
use Rattle.host_base.specs.declared.site.ScriptKind.{ScriptKind}
use Rattle.reply_stream.specs.declared.stage.Header.TheVariants as Seen
use Rattle.reply_stream.specs.Openings.{Tells}
use Rattle.reply_stream.proofs.OpenLaws.{tells_empty, tells_raw, tells_web}
use Rattle.reply_stream.proofs.open.header_of.Goals as goal

pub returns-in-Nph : goal.returns-in-Nph
returns-in-Nph c = subst (λ (k : ScriptKind). Tells k c.args.output.now Seen.Open) (sym c.in-Nph.is) (tells_empty c.args.output.now (sym c.is_empty.ensures ∙ c.if-is_empty.true))

pub returns-in-Nph-2 : goal.returns-in-Nph-2
returns-in-Nph-2 c = subst (λ (k : ScriptKind). Tells k c.args.output.now Seen.Ready) (sym c.in-Nph.is) (tells_raw c.args.output.now (sym c.is_empty.ensures ∙ c.if-is_empty.false))

pub returns-in-WebSocket : goal.returns-in-WebSocket
returns-in-WebSocket c = subst (λ (k : ScriptKind). Tells k c.args.output.now Seen.Settled) (sym c.in-WebSocket.is) (tells_web c.args.output.now)
