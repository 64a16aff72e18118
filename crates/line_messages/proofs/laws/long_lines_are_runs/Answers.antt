use Rattle.line_messages.proofs.LawLemmas as laws
use Rattle.line_messages.proofs.laws.long_lines_are_runs.Goals as goal

pub returns-clause-runs : goal.returns-clause-runs
returns-clause-runs c = laws.long_lines_are_runs

pub returns-clause-cut : goal.returns-clause-cut
returns-clause-cut c = laws.limits_cut
