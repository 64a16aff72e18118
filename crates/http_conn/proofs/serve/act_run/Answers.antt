use Rattle.std.proofs.Common.{Bool, Some, is_ok, sym, ap, subst, ◌∙◌}
use Rattle.host_trace.specs.Told.{Adds}
use Rattle.child_core.specs.Due.{acting_by}
use Rattle.child_core.specs.View.{View}
use Rattle.http_conn.proofs.PartLaws.{failed, serves_none, serves_run}
use Rattle.http_conn.proofs.serve.act_run.Goals as goal

pub returns-in-Some-clause-gave : goal.returns-in-Some-clause-gave
returns-in-Some-clause-gave g c acted n =
    serves_run (is_ok c.act.result) c.has_room-may_want.result c.in-Some.run' (sym c.is_ok.ensures.value ∙ acted) c.has_room-may_want.ensures c.in-Some.is
    (ap (λ (v : View). record c.args.conn.now { run = Some v }) c.act.ensures.run) c.act.ensures.told

pub returns-in-Some-clause-none : goal.returns-in-Some-clause-none
returns-in-Some-clause-none g c acted =
    subst (λ (found : Bool). Adds (g.O.Outside.trace c.args.out.now) (acting_by found c.has_room-may_want.result c.in-Some.run') (g.O.Outside.trace c.act.new.out))
    (sym c.is_ok.ensures.value ∙ acted) c.act.ensures.told

pub returns-in-None-clause-gave : goal.returns-in-None-clause-gave
returns-in-None-clause-gave g c acted n = serves_none c.in-None.is

pub returns-in-Some-clause-feeds : goal.returns-in-Some-clause-feeds
returns-in-Some-clause-feeds g c acted =
    record { v = c.in-Some.run'; run_is = c.in-Some.is; due = c.act.ensures.memory (failed c.act.result (sym c.is_ok.ensures.value ∙ acted)) }
