use Rattle.std.proofs.Common.{sym, ◌∙◌, ◌+◌}
use Rattle.std.proofs.lemmas.List.{take_rest}
use Rattle.cgi_header.proofs.HeaderLaws.{cut_at, no_lf_at}
use Rattle.cgi_header.proofs.lines.cut_line.Goals as goal

pub returns-in-Some-clause-cut : goal.returns-in-Some-clause-cut
returns-in-Some-clause-cut c =
    cut_at c.args.text.now _ _ c.in-Some.at (sym c.lf_at.ensures ∙ c.in-Some.is) c.strip_cr.ensures (take_rest c.args.text.now (c.in-Some.at + 1))

pub returns-in-None-clause-none : goal.returns-in-None-clause-none
returns-in-None-clause-none c = no_lf_at c.args.text.now (sym c.lf_at.ensures ∙ c.in-None.is)
