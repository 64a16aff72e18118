-- What a kid tells of itself, and what its calls do to that.
use Rattle.std.specs.Prelude.{◌≡◌, ℕ, ◌≤◌, ◌⊎◌, Bool, true, false, Option, Some, None}
use Rattle.host_base.specs.Outsides.{Rose}
use Rattle.host_base.specs.declared.launch.Launch.{Launch}
use Rattle.pipe_pump.specs.declared.ends.PumpEnd.{PumpEnd}
use Rattle.pipe_pump.specs.declared.ends.PumpEnd.TheVariants.{AtEnd, Broken, Spent, Abandoned, LetGo}
use Rattle.pipe_pump.specs.declared.from_pipe.PumpRing.{PumpRing}
use Rattle.pipe_pump.specs.declared.feed_ring.FeedRing.{FeedRing}
use Rattle.child_edge.specs.declared.kid.Birth.{Birth}
use Rattle.child_edge.specs.declared.kid.Birth.TheVariants.{Unborn}
use Rattle.child_edge.specs.declared.kid.Reap.{Reap}
use Rattle.child_edge.specs.declared.kid.Reap.TheVariants.{Exited, Running, Failed}

pub record KidTells : Type 0 where
  -- the launch that it was started by
  pub launch : Launch
  -- the rings that the pumps of its output and its input were given
  pub ring : PumpRing
  pub feed : FeedRing
  -- what became of its start, once that was given
  pub birth : Option Birth
  -- how each pump ended, once that was given
  pub out_end : Option PumpEnd
  pub in_end : Option PumpEnd
  pub reaped : Bool
  -- how often it was killed
  pub kills : ℕ
  pub faults : ℕ
  -- how often each was asked
  pub out_looks : ℕ
  pub in_looks : ℕ
  pub reap_looks : ℕ
  pub start_looks : ℕ

-- it did not come to the end of its bytes
abbrev pub is_failed : PumpEnd → Bool
is_failed AtEnd = false
is_failed Broken = true
is_failed Spent = true
is_failed Abandoned = true
is_failed LetGo = true

-- nothing was given yet
pub record IsOpenKid (a : KidTells) : Type 0 where
  pub out_open : a.out_end ≡ None
  pub in_open : a.in_end ≡ None
  pub running : a.reaped ≡ false
  pub unborn : a.birth ≡ None

-- .. and it is to be started by this launch and on these rings
pub record IsNewKid (launch : Launch) (ring : PumpRing) (feed : FeedRing) (a : KidTells) : Type 0 where
  pub of_launch : a.launch ≡ launch
  pub of_ring : a.ring ≡ ring
  pub of_feed : a.feed ≡ feed
  pub open_kid : IsOpenKid a

-- what no call changes, and what never falls
pub record SameKid (a b : KidTells) : Type 0 where
  pub launch : b.launch ≡ a.launch
  pub ring : b.ring ≡ a.ring
  pub feed : b.feed ≡ a.feed
  pub kills : a.kills ≤ b.kills
  pub faults : a.faults ≤ b.faults
  pub out_looks : a.out_looks ≤ b.out_looks
  pub in_looks : a.in_looks ≤ b.in_looks
  pub reap_looks : a.reap_looks ≤ b.reap_looks
  pub start_looks : a.start_looks ≤ b.start_looks

abbrev pub SameOut : KidTells → KidTells → Type 0
SameOut a b = b.out_end ≡ a.out_end

abbrev pub SameIn : KidTells → KidTells → Type 0
SameIn a b = b.in_end ≡ a.in_end

abbrev pub SameReap : KidTells → KidTells → Type 0
SameReap a b = b.reaped ≡ a.reaped

abbrev pub SameBirth : KidTells → KidTells → Type 0
SameBirth a b = b.birth ≡ a.birth

-- what became of its start was given, for the first time, and a failure only where the count of faults rose
pub record BirthGiven (a b : KidTells) (birth : Birth) : Type 0 where
  pub was_open : a.birth ≡ None
  pub given : b.birth ≡ Some birth
  pub cause : birth ≡ Unborn → Rose a.faults b.faults

-- it never ran, or it was reaped
abbrev pub IsOver : KidTells → Type 0
IsOver a = (a.birth ≡ Some Unborn) ⊎ (a.reaped ≡ true)

-- it was ended, or that failed and was counted
pub record IsEnded (a b : KidTells) (done : Bool) : Type 0 where
  pub launch : b.launch ≡ a.launch
  pub over : done ≡ true → IsOver b
  pub cause : done ≡ false → Rose a.faults b.faults

-- an end was given, for the first time, and a failure only where the count of faults rose
pub record OutGiven (a b : KidTells) (end : PumpEnd) : Type 0 where
  pub was_open : a.out_end ≡ None
  pub given : b.out_end ≡ Some end
  pub cause : is_failed end ≡ true → Rose a.faults b.faults

pub record InGiven (a b : KidTells) (end : PumpEnd) : Type 0 where
  pub was_open : a.in_end ≡ None
  pub given : b.in_end ≡ Some end
  pub cause : is_failed end ≡ true → Rose a.faults b.faults

-- what reap answered
abbrev pub Reaps : KidTells → KidTells → Reap → Type 0
Reaps a b Exited = b.reaped ≡ true
Reaps a b Running = (a.reaped ≡ false) × (b.reaped ≡ false)
Reaps a b Failed = (a.reaped ≡ false) × (b.reaped ≡ false) × Rose a.faults b.faults
