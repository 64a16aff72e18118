use Rattle.http_conn.specs.Parts.{the_one}
use Rattle.http_conn.proofs.GaveLaws.{gave_as}
use Rattle.http_conn.proofs.PartLaws.{gave_lost_and, must_have_acted}
use Rattle.http_conn.proofs.serve.act_run_or_lose.Goals as goal

pub returns-then-act_run-clause-gave : goal.returns-then-act_run-clause-gave
returns-then-act_run-clause-gave g c n = gave_as (λ moves d. the_one d) (c.act_run.ensures.gave c.if-act_run.true n)

pub returns-clause-gave : goal.returns-clause-gave
returns-clause-gave g c n =
    gave_lost_and (c.act_run.ensures.same c.if-act_run.false) (c.act_run.ensures.none c.if-act_run.false) (c.act_run.ensures.feeds c.if-act_run.false) c.lose.ensures.value
    (c.act_run-acted.ensures.gave (must_have_acted c.act_run.new.conn c.lose.new.self c.lose.ensures.value c.act_run-acted.result c.act_run-acted.ensures.feeds) n)
