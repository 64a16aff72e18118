-- Whom a bell wakes.
use Rattle.std.specs.Prelude.{◌≡◌, ⊤}
use Rattle.std.specs.Arc.{arc_value}
use Rattle.std.specs.declared.alloc.Global.{Global}
use Rattle.crossbeam_utils.specs.declared.sync.parker.RuledParker.{RuledParker}
use Rattle.crossbeam_utils.specs.declared.rule.Unruled.{Unruled}
use Rattle.mio.specs.declared.waker.Waker.{Waker}
use Rattle.loop_bell.specs.declared.bell.Bed.{Bed}
use Rattle.loop_bell.specs.declared.bell.Bed.TheVariants.{Parker, Poll}
use Rattle.loop_bell.specs.declared.bell.Bell.{Bell}

-- it wakes whoever sleeps at this parker
abbrev pub EndsAt : Bed → RuledParker ⊤ Unruled Global → Type 0
EndsAt (Parker unparker) sleeper = arc_value unparker.state ≡ arc_value sleeper.unparker.state
EndsAt (Poll waker) sleeper = ⊥

abbrev pub WakesAt : Bell → RuledParker ⊤ Unruled Global → Type 0
WakesAt bell sleeper = EndsAt bell.bed sleeper

-- .. whoever waits where this waker belongs
abbrev pub EndsBy : Bed → Waker → Type 0
EndsBy (Parker unparker) waker = ⊥
EndsBy (Poll shared) waker = arc_value shared ≡ waker

abbrev pub WakesBy : Bell → Waker → Type 0
WakesBy bell waker = EndsBy bell.bed waker

-- .. the same
abbrev pub EndsTheSame : Bed → Bed → Type 0
EndsTheSame (Parker unparker) (Parker other) = arc_value other.state ≡ arc_value unparker.state
EndsTheSame (Poll waker) (Poll other) = arc_value other ≡ arc_value waker
EndsTheSame _ _ = ⊥

abbrev pub WakesTheSame : Bell → Bell → Type 0
WakesTheSame bell other = EndsTheSame bell.bed other.bed
