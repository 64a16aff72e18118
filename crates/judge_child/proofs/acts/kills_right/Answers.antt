use Rattle.host_trace.specs.Kinds.{is_kill}
use Rattle.judge_child.proofs.GivenLaws.{right}
use Rattle.judge_child.proofs.acts.kills_right.Goals as goal

pub returns : goal.returns
returns c = λ run heard items given f b is.
    right _ _ _ _ _ _ _ _ is_kill given f.child is c.kills.ensures c.once.ensures c.is_due.ensures (c.must_kill.ensures run items f) b.killed
