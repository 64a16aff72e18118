use Rattle.std.proofs.Common.{sym, ◌∙◌}
use Rattle.std.proofs.lemmas.Result.{IfOk-weaker}
use Rattle.cgi_header.proofs.HeaderLaws.{read_at, too_large, still_open}
use Rattle.cgi_header.proofs.read.read_header.Goals as goal

pub returns-in-Some-clause-exact : goal.returns-in-Some-clause-exact
returns-in-Some-clause-exact c =
    IfOk-weaker c.read_whole.result _ _
    (λ step by_lines. read_at c.args.buf.now c.in-Some.used step (sym c.header_len.ensures.value ∙ c.in-Some.is) by_lines)
    c.read_whole.ensures

pub returns-in-None-clause-exact : goal.returns-in-None-clause-exact
returns-in-None-clause-exact c = too_large c.args.buf.now (sym c.header_len.ensures.value ∙ c.in-None.is) c.if-buf-ge-MOST_HEADER.true

pub returns-in-None-2-clause-exact : goal.returns-in-None-2-clause-exact
returns-in-None-2-clause-exact c = still_open c.args.buf.now (sym c.header_len.ensures.value ∙ c.in-None.is) c.if-buf-ge-MOST_HEADER.false
