-- The events that were passed don't fit.
use Rattle.std.proofs.Common.{◌≡◌}
use Rattle.std.specs.VecDeque.{deque_len}
use Rattle.memory_world.specs.NextEvent.{first_listed, left_listed}
use Rattle.memory_world.specs.MemoryWords.{listed_of, items_of}
use Rattle.memory_world.proofs.outside.MemoryOutside.pick.Given as goal

abbrev pub invariant-loop-listed : goal.invariant-loop-listed
invariant-loop-listed l = record {
  first : first_listed l.fn.self.wild l.fn.self.limit (items_of l.fn.self) (listed_of l.self)
      ≡ first_listed l.fn.self.wild l.fn.self.limit (items_of l.fn.self) (listed_of l.fn.self);
  left : left_listed l.fn.self.wild l.fn.self.limit (items_of l.fn.self) (listed_of l.self)
      ≡ left_listed l.fn.self.wild l.fn.self.limit (items_of l.fn.self) (listed_of l.fn.self);
  same : l.self ≡ record l.fn.self { events = l.self.events };
}

abbrev pub decreases-loop-listed : goal.decreases-loop-listed
decreases-loop-listed l = deque_len l.self.events
