use Rattle.host_trace.specs.Kinds.{is_end_input}
use Rattle.judge_child.proofs.GivenLaws.{right}
use Rattle.judge_child.proofs.acts.ends_input_right.Goals as goal

pub returns : goal.returns
returns c = λ run heard items given f b is.
    right _ _ _ _ _ _ _ _ is_end_input given f.child is c.end_inputs.ensures c.once.ensures c.is_due.ensures (c.must_end_input.ensures run items f) b.input_ended
