use Rattle.host_trace.specs.Kinds.{is_release}
use Rattle.judge_child.proofs.GivenLaws.{right}
use Rattle.judge_child.proofs.acts.releases_right.Goals as goal

pub returns : goal.returns
returns c = λ run heard items given f b is.
    right _ _ _ _ _ _ _ _ is_release given f.child is c.releases.ensures c.once.ensures c.is_due.ensures (c.must_release.ensures run items f) b.output_ended
