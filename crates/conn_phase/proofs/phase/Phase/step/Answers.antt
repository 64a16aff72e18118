use Rattle.std.proofs.Common.{◌≡◌, sym, ap, subst, ◌∙◌}
use Rattle.talk_conn.proofs.KeptLaws.{steps_keep}
use Rattle.conn_phase.specs.declared.phase.Phase.{Phase}
use Rattle.conn_phase.specs.Phase.{Steps, may_step, site_of}
use Rattle.conn_phase.proofs.StepLaws.{comes, stepped_talks}
use Rattle.conn_phase.proofs.phase.Phase.step.Goals as goal

pub returns-in-Http-clause-steps : goal.returns-in-Http-clause-steps
returns-in-Http-clause-steps g c =
    subst (λ (x : Phase). Steps x c.args.ev c.args.now c.args.children.now (g.O.Outside.trace c.args.out.now) c.go_on.new.self c.step-onward.new.children (g.O.Outside.trace c.step-onward.new.out)) (sym c.in-Http.is)
    (comes c.step-onward.result c.in-Http.conn c.step-onward.new.conn c.args.ev c.args.now c.args.children.now c.step-onward.new.children (g.O.Outside.trace c.args.out.now)
    (g.O.Outside.trace c.step-onward.new.out) c.site-site.result.now c.c-c.result c.go_on.new.self c.step-onward.ensures.gave c.site-site.ensures c.c-c.ensures c.go_on.ensures).steps

pub returns-in-Talk-clause-site : goal.returns-in-Talk-clause-site
returns-in-Talk-clause-site g c =
    (steps_keep c.in-Talk.talk c.step.new.self c.args.ev c.step.ensures.stepped.acts c.step.ensures.stepped.does).site ∙ ap site_of (sym c.in-Talk.is)

pub returns-in-Talk-clause-talks : goal.returns-in-Talk-clause-talks
returns-in-Talk-clause-talks g c =
    stepped_talks c.in-Talk.talk c.step.new.self c.args.ev (g.O.Outside.trace c.args.out.now) (g.O.Outside.trace c.step.new.out)
    (subst may_step c.in-Talk.is c.requires.talks) c.step.ensures.stepped
