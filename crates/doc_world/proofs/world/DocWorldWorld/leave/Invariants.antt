-- What joins the traces of the rest joins those of all.
use Rattle.std.proofs.Common.{◌≡◌, ◌≤◌, ◌+◌, List, Option, map}
use Rattle.std.specs.Vec.Iter.{into_iter_len, into_iter_items}
use Rattle.host_trace.specs.declared.items.Item.{Item}
use Rattle.host_trace.specs.Told.{Joins}
use Rattle.doc_files.specs.Both.{both, given_by}
use Rattle.doc_world.specs.Given.{items_of}
use Rattle.doc_world.proofs.world.DocWorldWorld.leave.Given as goal

abbrev pub invariant-loop-out : goal.invariant-loop-out
invariant-loop-out g l = record {
  joins : (after : Option (List (List Item)))
      → Joins (given_by l.self.tells (map items_of l.self.given.items) (g.W.World.given l.self.world)) (map (λ o. both o.told (g.W.Out.Outside.trace o.inner)) (into_iter_items l.outs)) after
      → Joins (given_by l.initial.self.tells (map items_of l.initial.self.given.items) (g.W.World.given l.initial.self.world)) (map (λ o. both o.told (g.W.Out.Outside.trace o.inner)) (into_iter_items l.initial.outs)) after;
  entries : l.self.entries ≡ l.initial.self.entries;
  out : g.W.World.out l.self.world + into_iter_len l.initial.outs ≡ g.W.World.out l.initial.self.world + into_iter_len l.outs;
  room : into_iter_len l.outs ≤ g.W.World.out l.self.world;
  faults : g.W.World.faults l.initial.self.world ≤ g.W.World.faults l.self.world;
}

abbrev pub decreases-loop-out : goal.decreases-loop-out
decreases-loop-out g l = into_iter_len l.outs
