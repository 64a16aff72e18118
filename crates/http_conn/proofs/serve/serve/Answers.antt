use Rattle.std.proofs.Common.{ℕ, ◌+◌, sym, ap, subst, ◌∙◌}
use Rattle.host_base.specs.SiteRules.{IsServed}
use Rattle.http_conn.proofs.GaveLaws.{gave_then}
use Rattle.http_conn.proofs.PartLaws.{gave_rest, gave_rested}
use Rattle.http_conn.proofs.WelcomeLaws.{rounds_as}
use Rattle.http_conn.proofs.serve.serve.Goals as goal

pub go_on_for-requires-clause-served : goal.go_on_for-requires-clause-served
go_on_for-requires-clause-served g c =
    subst IsServed (sym ((c.handle.ensures.gave c.args.children.now).site ∙ (c.answer.ensures.gave c.args.children.now).site)) c.requires.served

pub returns-in-Spent-clause-gave : goal.returns-in-Spent-clause-gave
returns-in-Spent-clause-gave g c =
    gave_then (c.answer.ensures.gave c.args.children.now) (gave_then (c.handle.ensures.gave c.args.children.now)
    (gave_rest (c.kept_len.result + 2) (ap (λ (kept : ℕ). kept + 2) c.kept_len.ensures) (rounds_as (c.kept_len.result + 2) c.args.now c.in-Spent.is c.go_on_for.ensures.gave) c.rest.ensures.kept c.rest.ensures.rested c.rest.ensures.rests))

pub returns-in-Over-clause-gave : goal.returns-in-Over-clause-gave
returns-in-Over-clause-gave g c =
    gave_then (c.answer.ensures.gave c.args.children.now) (gave_then (c.handle.ensures.gave c.args.children.now)
    (gave_rested (rounds_as (c.kept_len.result + 2) c.args.now c.in-Over.is c.go_on_for.ensures.gave) (c.go_on_for.ensures.rests c.in-Over.is)))

pub returns-in-Greeted-clause-gave : goal.returns-in-Greeted-clause-gave
returns-in-Greeted-clause-gave g c =
    gave_then (c.answer.ensures.gave c.args.children.now) (gave_then (c.handle.ensures.gave c.args.children.now) (rounds_as (c.kept_len.result + 2) c.args.now c.in-Greeted.is c.go_on_for.ensures.gave))
