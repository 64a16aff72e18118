-- What the set holds of each child, and what an event says of it.
use Rattle.std.specs.Prelude.{◌≡◌, ℕ, zero, suc, ◌≤◌, ◌<◌, ◌+◌, ◌-◌, ◌^◌, ◌==◌, ◌⊎◌, filter, ◌&&◌, Bool, true, false, not, List, [], ◌∷◌, ◌++◌, length, drop, Option, Some, None, is_some, ⊤}
use Rattle.std.specs.List.{position_or_len}
use Rattle.host_base.specs.Outsides.{Rose}
use Rattle.host_base.specs.declared.launch.Launch.{Launch}
use Rattle.host_trace.specs.declared.items.Event.{Event}
use Rattle.host_trace.specs.declared.items.Event.TheVariants.{Started, StartFailed, ChildBytes, ChildEof, ChildBroken, Took, InputGone, Exited, NoRoom}
use Rattle.pipe_pump.specs.declared.ends.PumpEnd.{PumpEnd}
use Rattle.pipe_pump.specs.declared.ends.PumpEnd.TheVariants.{AtEnd}
use Rattle.pipe_pump.specs.declared.tap.Tap.{Tap}
use Rattle.pipe_pump.specs.Rings.{IsRingOf, IsFeedOf, handed_up, standing, is_finished, fed, is_open, places, known_places}
use Rattle.child_edge.specs.declared.kid.Birth.TheVariants.{Born, Unborn}
use Rattle.child_edge.specs.Kids.{KidTells, SameKid, IsEnded, is_failed}
use Rattle.child_edge.specs.declared.row.Row.{Row}

-- how a pump ended, by what the kid told
abbrev pub has_failed : Option PumpEnd → Bool
has_failed None = false
has_failed (Some end) = is_failed end

-- each pump that had not ended, and the exit where it had not come, was asked about
pub record IsAsked (a b : KidTells) : Type 0 where
  pub output : b.out_end ≡ None → Rose a.out_looks b.out_looks
  pub input : b.in_end ≡ None → Rose a.in_looks b.in_looks
  pub exit : b.reaped ≡ false → Rose a.reap_looks b.reap_looks

-- what was asked for and what was told of a child; `taken` is how many bytes its input was told to have taken
pub record Marks : Type 0 where
  -- Started or StartFailed was told
  pub started : Bool
  pub wanted : Bool
  pub input_ended : Bool
  pub output_ended : Bool
  pub exited : Bool
  -- its input is to be closed once all that was fed has left
  pub closing : Bool
  pub taken : ℕ

-- the same after an event of the child
abbrev pub marks_after : Event → Marks → Marks
marks_after (Started k) m = record m { started = true }
marks_after (StartFailed k) m = record m { started = true; wanted = false; input_ended = true; output_ended = true; exited = true }
marks_after (ChildBytes k bytes) m = record m { wanted = false }
marks_after (ChildEof k) m = record m { wanted = false; output_ended = true }
marks_after (ChildBroken k) m = record m { wanted = false; output_ended = true }
marks_after (Took k n) m = record m { taken = m.taken + n }
marks_after (InputGone k) m = record m { input_ended = true }
marks_after (Exited k) m = record m { exited = true }
marks_after (NoRoom c) m = record m { wanted = false }
marks_after _ m = m

-- the same after one event of its output was asked for, after its input was closed, and after its output was
-- given up
abbrev pub want_marks : Marks → Marks
want_marks m = record m { wanted = not m.output_ended }

abbrev pub end_marks : Marks → Marks
end_marks m = record m { input_ended = true; closing = true }

abbrev pub release_marks : Marks → Marks
release_marks m = record m { wanted = false; output_ended = true }

-- what the tap of a child handed up, and what it knows to stand in its ring; nothing once it was dropped
abbrev pub handed_by : Option Tap → List ℕ
handed_by None = []
handed_by (Some tap) = handed_up tap

abbrev pub standing_in : Option Tap → List ℕ
standing_in None = []
standing_in (Some tap) = standing tap

-- all that the tap of a child could hand up was handed up
abbrev pub IsEmptied : Option Tap → Type 0
IsEmptied None = ⊥
IsEmptied (Some tap) = (is_finished tap ≡ true) × (standing tap ≡ [])

module _ {K : Type 0} where
  abbrev pub marks : Row K → Marks
  marks r =
      record { started = r.started; wanted = r.wanted; input_ended = r.input_ended; output_ended = r.output_ended; exited = r.exited; closing = r.closing; taken = r.told }

  -- the bytes that the child's feeder was given, and those still held for it
  abbrev pub fed_all : Row K → List ℕ
  fed_all r = fed r.feeder ++ drop r.moved r.backlog.items

  -- an InputGone is still to be given
  abbrev pub has_gone : Row K → Bool
  has_gone r = has_failed r.in_end && not r.input_ended

  -- an Exited is still to be given
  abbrev pub has_exit : Row K → Bool
  has_exit r = r.reaped && not r.exited

  -- its exit was told, and its input and its output ended
  abbrev pub is_settled : Row K → Bool
  is_settled r = r.exited && r.input_ended && r.output_ended

  -- what the row keeps of what its kid told, and that its tap is of the kid's ring
  pub record IsSound (tells : K → KidTells) (r : Row K) : Type 0 where
    pub out_is : r.out_end ≡ (tells r.kid).out_end
    pub in_is : r.in_end ≡ (tells r.kid).in_end
    pub reaped_is : r.reaped ≡ (tells r.kid).reaped
    pub born_is : r.started ≡ is_some (tells r.kid).birth
    pub not_yet : r.started ≡ false → r.exited ≡ false
    pub pair : (tap : Tap) → r.tap ≡ Some tap → IsRingOf (tells r.kid).ring tap
    pub finished : (tap : Tap) → r.tap ≡ Some tap → is_finished tap ≡ is_some r.out_end
    pub gone : r.tap ≡ None → (r.wanted ≡ false) × (r.output_ended ≡ true)
    -- .. and its feeder too
    pub feeds : IsFeedOf (tells r.kid).feed r.feeder
    pub held : r.moved ≤ length r.backlog.items
    -- the ring has places for no more than was put and not told to be taken, but for those known to be free
    pub behind : is_open r.feeder ≡ true → r.told + places r.feeder ≤ r.put + known_places r.feeder
    -- where it is to be closed and nothing is held, its feed was ended
    pub closed : r.closing ≡ true → r.moved ≡ length r.backlog.items → is_open r.feeder ≡ false
    pub told_taken : r.told ≤ r.put
    pub put_fed : r.put ≤ length (fed r.feeder)

  -- the same child; its feed grew by nothing; its tap handed up these bytes
  pub record Stays (tells : K → KidTells) (output : List ℕ) (r s : Row K) : Type 0 where
    pub number : s.k ≡ r.k
    pub connection : s.c ≡ r.c
    pub same : SameKid (tells r.kid) (tells s.kid)
    pub feed : fed_all s ≡ fed_all r
    pub taken : handed_by s.tap ≡ handed_by r.tap ++ output
    pub sound : IsSound tells s

  -- what was asked for and what was told is the same
  abbrev pub SameMarks : Row K → Row K → Type 0
  SameMarks r s = marks s ≡ marks r

  -- Bytes are held only where as many as the ring has places were put and not told to be taken: as far as a u64 counts
  -- them.
  abbrev pub IsPushed : Row K → Type 0
  IsPushed r = is_open r.feeder ≡ true → r.moved < length r.backlog.items → r.put + (length r.backlog.items - r.moved) < 2 ^ 64
      → r.told + places r.feeder ≤ r.put

  -- .. and what left the ring was told, as far as this end knows; all, once the input was closed and its pump came to
  -- the end
  pub record IsFedOn (tells : K → KidTells) (r : Row K) : Type 0 where
    pub pushed : IsPushed r
    pub told : is_open r.feeder ≡ true → r.put + known_places r.feeder ≤ r.told + places r.feeder
    pub all_told : is_open r.feeder ≡ false → (tells r.kid).in_end ≡ Some AtEnd → r.put ≤ r.told

  -- nothing of this child, which runs, is to be told, and of all that is open it was asked
  pub record IsQuietOn (tells : K → KidTells) (r s : Row K) : Type 0 where
    pub stays : Stays tells [] r s
    pub marks : SameMarks r s
    pub asked : IsAsked (tells r.kid) (tells s.kid)
    pub fed_on : IsFedOn tells s
    pub no_bytes : s.wanted ≡ true → standing_in s.tap ≡ []
    pub no_end : s.wanted ≡ true → (tells s.kid).out_end ≡ None
    pub no_gone : has_gone s ≡ false
    pub no_exit : has_exit s ≡ false

  -- nothing of this child is to be told: it was asked what became of its start, or of all that is open
  pub record IsQuiet (tells : K → KidTells) (r s : Row K) : Type 0 where
    pub stays : Stays tells [] r s
    pub marks : SameMarks r s
    pub unborn : s.started ≡ false → ((tells s.kid).birth ≡ None) × Rose (tells r.kid).start_looks (tells s.kid).start_looks
    pub rest : s.started ≡ true → IsQuietOn tells r s

  -- the row was not changed but for looks at its rings
  pub record Looked (tells : K → KidTells) (r s : Row K) : Type 0 where
    pub stays : Stays tells [] r s
    pub marks : SameMarks r s
    pub kid : s.kid ≡ r.kid

  -- .. and no output is to be told
  pub record HasNoOutput (tells : K → KidTells) (r s : Row K) : Type 0 where
    pub stays : Stays tells [] r s
    pub marks : SameMarks r s
    pub kid : s.kid ≡ r.kid
    pub fed_on : IsFedOn tells s
    pub no_bytes : s.wanted ≡ true → standing_in s.tap ≡ []
    pub no_end : s.wanted ≡ true → (tells s.kid).out_end ≡ None

  -- .. and nothing else
  pub record HasNothing (tells : K → KidTells) (r s : Row K) : Type 0 where
    pub no_output : HasNoOutput tells r s
    pub no_gone : has_gone s ≡ false
    pub no_exit : has_exit s ≡ false

  -- what was told to be taken left the ring, as far as this end knows: what still stands there was put behind it. Once
  -- the input was closed, its pump came to the end
  pub record HasLeft (tells : K → KidTells) (r : Row K) : Type 0 where
    pub behind : is_open r.feeder ≡ true → r.told + places r.feeder ≤ r.put + known_places r.feeder
    pub all : is_open r.feeder ≡ false → (tells r.kid).in_end ≡ Some AtEnd

  -- the event is of this child and its cause, besides what it does to the row
  abbrev pub IsDue : (K → KidTells) → Row K → Row K → Event → Type 0
  IsDue tells r s (ChildBytes k bytes) = (k ≡ r.k) × (r.wanted ≡ true) × (0 < length bytes) × (length bytes ≤ 65536) × Stays tells bytes r s
  IsDue tells r s (ChildEof k) = (k ≡ r.k) × (r.wanted ≡ true) × ((tells s.kid).out_end ≡ Some AtEnd) × IsEmptied s.tap × Stays tells [] r s
  IsDue tells r s (ChildBroken k) = (k ≡ r.k) × (r.wanted ≡ true) × (has_failed (tells s.kid).out_end ≡ true) × IsEmptied s.tap × Stays tells [] r s
  IsDue tells r s (Took k n) = (k ≡ r.k) × (0 < n) × HasLeft tells s × Stays tells [] r s
  IsDue tells r s (InputGone k) = (k ≡ r.k) × (r.input_ended ≡ false) × (has_failed (tells s.kid).in_end ≡ true) × Stays tells [] r s
  IsDue tells r s (Exited k) = (k ≡ r.k) × (r.exited ≡ false) × ((tells s.kid).reaped ≡ true) × Stays tells [] r s
  IsDue tells r s (NoRoom c) = (c ≡ r.c) × (r.wanted ≡ true) × Stays tells [] r s
  IsDue tells r s _ = ⊥

  -- the row gave the event of a child that runs
  pub record SaysOn (tells : K → KidTells) (r s : Row K) (event : Event) : Type 0 where
    pub due : IsDue tells r s event
    pub marks : marks s ≡ marks_after event (marks r)
    pub sound : IsSound tells s

  -- the event tells what became of the child's start
  abbrev pub IsStartDue : (K → KidTells) → Row K → Row K → Event → Type 0
  IsStartDue tells r s (Started k) = (k ≡ r.k) × ((tells s.kid).birth ≡ Some Born) × Stays tells [] r s
  IsStartDue tells r s (StartFailed k) = (k ≡ r.k) × (r.exited ≡ false) × ((tells s.kid).birth ≡ Some Unborn) × Rose (tells r.kid).faults (tells s.kid).faults × Stays tells [] r s
  IsStartDue tells r s _ = ⊥

  pub record SaysStart (tells : K → KidTells) (r s : Row K) (event : Event) : Type 0 where
    pub due : IsStartDue tells r s event
    pub first : r.started ≡ false
    pub marks : marks s ≡ marks_after event (marks r)
    pub sound : IsSound tells s

  -- The row gave the event: first of all what became of the start, once, and then all else.
  abbrev pub Says : (K → KidTells) → Row K → Row K → Event → Type 0
  Says tells r s event = SaysStart tells r s event ⊎ ((r.started ≡ true) × SaysOn tells r s event)

  -- the child was ended, or that failed and was counted
  pub record Ends (tells : K → KidTells) (r s : Row K) : Type 0 where
    pub number : s.k ≡ r.k
    pub over : Bool
    pub ended : IsEnded (tells r.kid) (tells s.kid) over

  -- each of the rows before i stands to its old one in the relation, and the others are as they were
  abbrev pub Front : (Row K → Row K → Type 0) → ℕ → List (Row K) → List (Row K) → Type 0
  Front R zero rows now = now ≡ rows
  Front R (suc i) (r ∷ rows) (s ∷ now) = R r s × Front R i rows now
  Front R (suc i) _ _ = ⊥

  -- each row stands to its old one in the relation
  abbrev pub Each : (Row K → Row K → Type 0) → List (Row K) → List (Row K) → Type 0
  Each R [] [] = ⊤
  Each R (r ∷ rows) (s ∷ now) = R r s × Each R rows now
  Each R _ _ = ⊥

  -- each child was ended, or that failed and was counted, before its row was dropped
  pub record AreEnded (tells : K → KidTells) (rows : List (Row K)) : Type 0 where
    pub last : List (Row K)
    pub ended : Each (Ends tells) rows last

  -- it was asked or not, and nothing of it was told
  pub record Rests (tells : K → KidTells) (r s : Row K) : Type 0 where
    pub stays : Stays tells [] r s
    pub marks : SameMarks r s

  -- one row gave the event, and the others rest
  abbrev pub OneSays : (K → KidTells) → Event → List (Row K) → List (Row K) → Type 0
  OneSays tells event (r ∷ rows) (s ∷ now) = (Says tells r s event × Each (Rests tells) rows now) ⊎ (Rests tells r s × OneSays tells event rows now)
  OneSays tells event _ _ = ⊥

  abbrev pub AllSound : (K → KidTells) → List (Row K) → Type 0
  AllSound tells [] = ⊤
  AllSound tells (r ∷ rows) = IsSound tells r × AllSound tells rows

  -- the same, said of each place
  abbrev pub EachSound : (K → KidTells) → List (Row K) → Type 0
  EachSound tells rows = (before after : List (Row K)) (r : Row K) → rows ≡ before ++ r ∷ after → IsSound tells r

  -- the row at i was changed so, if there is one, and no other
  abbrev pub At : (Row K → Row K → Type 0) → ℕ → List (Row K) → List (Row K) → Type 0
  At R i [] now = now ≡ []
  At R zero (r ∷ rows) [] = ⊥
  At R (suc i) (r ∷ rows) [] = ⊥
  At R zero (r ∷ rows) (s ∷ now) = R r s × (now ≡ rows)
  At R (suc i) (r ∷ rows) (s ∷ now) = (s ≡ r) × At R i rows now

  -- the index of child k, or the number of rows where it isn't kept
  abbrev pub place : ℕ → List (Row K) → ℕ
  place k rows = position_or_len (λ r. r.k == k) rows

  -- child k was changed so, if it is kept, and no other
  abbrev pub OnKept : (Row K → Row K → Type 0) → ℕ → List (Row K) → List (Row K) → Type 0
  OnKept R k rows now = At R (place k rows) rows now

  -- the feed grew by the bytes, and nothing else
  pub record Feeds (tells : K → KidTells) (bytes : List ℕ) (r s : Row K) : Type 0 where
    pub number : s.k ≡ r.k
    pub connection : s.c ≡ r.c
    pub kid : s.kid ≡ r.kid
    pub marks : SameMarks r s
    pub feed : fed_all s ≡ fed_all r ++ bytes
    pub tap : s.tap ≡ r.tap
    pub sound : IsSound tells s

  -- the child stays, and its marks change so
  pub record Changes (tells : K → KidTells) (change : Marks → Marks) (r s : Row K) : Type 0 where
    pub stays : Stays tells [] r s
    pub marks : marks s ≡ change (marks r)

  -- its kid was killed
  pub record Kills (tells : K → KidTells) (r s : Row K) : Type 0 where
    pub stays : Stays tells [] r s
    pub marks : SameMarks r s
    pub killed : Rose (tells r.kid).kills (tells s.kid).kills

  -- its output was given up: the tap is gone
  pub record Releases (tells : K → KidTells) (r s : Row K) : Type 0 where
    pub number : s.k ≡ r.k
    pub connection : s.c ≡ r.c
    pub kid : s.kid ≡ r.kid
    pub feed : fed_all s ≡ fed_all r
    pub tap : s.tap ≡ None
    pub marks : marks s ≡ release_marks (marks r)
    pub sound : IsSound tells s

  -- a new child of this launch, of which nothing was heard
  pub record IsNewRow (tells : K → KidTells) (k c : ℕ) (launch : Launch) (r : Row K) : Type 0 where
    pub of_launch : (tells r.kid).launch ≡ launch
    pub number : r.k ≡ k
    pub connection : r.c ≡ c
    pub feed : fed_all r ≡ []
    pub taken : handed_by r.tap ≡ []
    pub marks : marks r ≡ record { started = false; wanted = false; input_ended = false; output_ended = false; exited = false; closing = false; taken = 0 }
    pub sound : IsSound tells r

  abbrev pub is_kept : Row K → Bool
  is_kept r = not (is_settled r)

  abbrev pub kept : List (Row K) → List (Row K)
  kept rows = filter is_kept rows

  -- it is kept, and its exit was not told
  abbrev pub runs : Row K → Bool
  runs r = not r.exited

  -- a new child of this launch was added behind the others
  pub record StartsRow (tells : K → KidTells) (k c : ℕ) (launch : Launch) (rows now : List (Row K)) : Type 0 where
    pub row : Row K
    pub is_new : IsNewRow tells k c launch row
    pub added : now ≡ rows ++ row ∷ []
