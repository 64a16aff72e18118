use Rattle.std.proofs.Common.{sym, ◌∙◌}
use Rattle.reply_stream.proofs.OpenLaws.{tells_more, tells_bad, tells_whole}
use Rattle.reply_stream.proofs.open.cgi_header_of.Goals as goal

pub returns-in-More : goal.returns-in-More
returns-in-More c = tells_more c.args.output.now (sym c.in_ok-read_header.ensures.exact ∙ c.in-More.is)

pub returns-in-Bad : goal.returns-in-Bad
returns-in-Bad c = tells_bad c.args.output.now c.in-Bad.field-0 (sym c.in_ok-read_header.ensures.exact ∙ c.in-Bad.is)

pub returns-in-Whole : goal.returns-in-Whole
returns-in-Whole c =
    tells_whole c.args.output.now c.in-Whole.head c.in-Whole.used c.document_of.result (sym c.in_ok-read_header.ensures.exact ∙ c.in-Whole.is) c.document_of.ensures
