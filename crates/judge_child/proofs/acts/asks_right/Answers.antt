use Rattle.host_trace.specs.Kinds.{is_want_child}
use Rattle.judge_child.proofs.GivenLaws.{right}
use Rattle.judge_child.proofs.acts.asks_right.Goals as goal

pub returns : goal.returns
returns c = λ run heard items given f b is.
    right _ _ _ _ _ _ _ _ is_want_child given f.child is c.want_childs.ensures c.once.ensures c.is_due.ensures (c.must_ask.ensures run items f) b.wanted
