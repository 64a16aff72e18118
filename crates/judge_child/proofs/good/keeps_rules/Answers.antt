-- Rule by rule.
use Rattle.std.proofs.Common.{◌∙◌, refl}
use Rattle.judge_child.proofs.good.keeps_rules.Goals as goal

pub returns : goal.returns
returns c = λ run heard items given f b is.
    c.all_of.ensures ∙ (rw (c.child_acts-is_given.ensures run heard items given f b is, c.feeds-is_fed.ensures run items f, c.handles_decided-is_handled.ensures run items f, c.lingers-may_linger.ensures run items f, c.stops_child-is_stopped.ensures run items f) refl)
