use Rattle.http_state.proofs.KeptLaws.{settles_turned}
use Rattle.http_conn.proofs.GaveLaws.{gave_part, gave_then, gave_turned}
use Rattle.http_conn.proofs.serve.handle.Goals as goal

pub returns-clause-gave : goal.returns-clause-gave
returns-clause-gave g c n = gave_then (c.act_run_or_lose.ensures.gave n) (gave_part (gave_turned (settles_turned c.settle.ensures)))
