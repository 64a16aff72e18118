-- The event was picked, counted and kept.
use Rattle.std.proofs.Common.{◌≡◌, ◌∙◌, ap, length}
use Rattle.std.specs.Prelude.{nat_lt}
use Rattle.memory_world.specs.MemoryWords.{listed_of, items_of}
use Rattle.memory_world.proofs.NextLaws.{hears_next}
use Rattle.memory_world.proofs.outside.MemoryOutsideOutside.next.Goals as goal

pub returns-clause-told : goal.returns-clause-told
returns-clause-told c =
    let s = c.args.self.now in
    let wild : c.count.new.self.wild ≡ s.wild = ap (λ o. o.wild) c.count.ensures ∙ ap (λ o. o.wild) c.pick-told.ensures.same in
    let telling : c.count.new.self.telling ≡ s.telling =
    ap (λ o. o.telling) c.count.ensures ∙ ap (λ o. o.telling) c.pick-told.ensures.same in
    rw wild
    (hears_next s.limit s.wild s.telling.tells c.keep.new.self.tells (nat_lt (length (items_of s)) s.telling.room) (items_of s)
    c.keep.new.self.trace.items.items (listed_of s) c.pick-told.result.told c.pick-told.result.given c.pick-told.result.same
    c.pick-told.ensures.event (rw telling at c.keep.ensures.tells) (rw telling at c.keep.ensures.kept))
