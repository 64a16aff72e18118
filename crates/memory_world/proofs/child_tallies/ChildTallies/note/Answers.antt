-- The tally of the child that the item names goes on, and the others stay.
use Rattle.std.proofs.Common.{sym, ap, ◌∙◌}
use Rattle.trace_tallies.specs.ChildTallies.{child_with, waits, runs}
use Rattle.memory_world.specs.ChildTallies.{child_at}
use Rattle.trace_tallies.proofs.ChildTallyLaws.{child_rests}
use Rattle.memory_world.proofs.ChildTallyLaws.{children_kept, sets_kept}
use Rattle.memory_world.proofs.child_tallies.ChildTallies.note.Goals as goal

pub returns-in_default-clause-rows : goal.returns-in_default-clause-rows
returns-in_default-clause-rows c = λ noted q. sym (child_rests q c.args.item.now (child_at c.args.self.now.rows q) (c.in_default.ensures q))

pub returns-clause-rows : goal.returns-clause-rows
returns-clause-rows c = λ noted.
    children_kept c.args.self.now.rows c.keep.new.self.rows c.args.item.now c.in-Some.k c.in-Some-with.tally (c.keep.ensures.rows noted) c.in-Some.ensures
    (c.in-Some-with.ensures.some ∙ ap (child_with c.in-Some.k c.args.item.now) c.child_in.ensures)

pub returns-clause-waiting : goal.returns-clause-waiting
returns-clause-waiting c = λ noted.
    sets_kept waits c.args.self.now.rows c.keep.new.self.rows c.args.self.now.waiting c.keep.new.self.waiting c.in-Some.k c.in-Some-with.tally
    (c.keep.ensures.rows noted) (c.keep.ensures.waiting noted)

pub returns-clause-running : goal.returns-clause-running
returns-clause-running c = λ noted.
    sets_kept runs c.args.self.now.rows c.keep.new.self.rows c.args.self.now.running c.keep.new.self.running c.in-Some.k c.in-Some-with.tally
    (c.keep.ensures.rows noted) (c.keep.ensures.running noted)
