use Rattle.trace_text.proofs.spelling.push_event.Goals as goal

pub returns-in-ChildBytes-clause-text : goal.returns-in-ChildBytes-clause-text
returns-in-ChildBytes-clause-text c = rw (c.in-ChildBytes.is, ← c.as_slice-in-ChildBytes.ensures) c.push_sized-in-ChildBytes.ensures.text

pub returns-in-ChildBroken-clause-text : goal.returns-in-ChildBroken-clause-text
returns-in-ChildBroken-clause-text c = rw c.in-ChildBroken.is c.push_one-in-ChildBroken.ensures.text
