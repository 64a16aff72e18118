-- What the outside of a loop of the real world tells.
use Rattle.std.specs.Prelude.{ℕ, ◌≡◌, List, [], Option, None}
use Rattle.host_trace.specs.declared.items.Event.{Event}
use Rattle.host_trace.specs.declared.items.Act.{Act}
use Rattle.host_trace.specs.declared.items.Item.{Item}
use Rattle.host_trace.specs.declared.outside.Acted.{Acted}
use Rattle.host_trace.specs.declared.world.Entry.{Entry}
use Rattle.host_trace.specs.declared.world.Mode.{Mode}
use Rattle.host_trace.specs.declared.world.Mode.TheVariants.{Once as ForOne, Serve as ForLoops}
use Rattle.std_spawner.specs.Kids.{kid_tells}
use Rattle.once_edge.specs.Once as once
use Rattle.edge_loop.specs.Loops as loops
use Rattle.once_edge.specs.Once.{OnceState}
use Rattle.edge_loop.specs.Loops.{LoopState}
use Rattle.std_spawner.specs.declared.kid.StdKid.{StdKid}
use Rattle.real_world.specs.declared.outside.Either.{Either}
use Rattle.real_world.specs.declared.outside.Either.TheVariants.{Once, Serve}

-- it tells no trace, and its world none that were given back and not what it was entered for
abbrev pub untold : {A : Type 0} → A → Option (List Item)
untold _ = None

abbrev pub none_given : {A : Type 0} → A → Option (List (List Item))
none_given _ = None

abbrev pub none_entered : {A : Type 0} → A → Option (List Entry)
none_entered _ = None

module _ {K : Type 0} where
  -- how often something failed, how often the book was full, and how many children may run
  abbrev pub faults_of : Either (OnceState K) (LoopState K) → ℕ
  faults_of (Once o) = o.faults
  faults_of (Serve o) = loops.faults_of o

  abbrev pub full_of : Either (OnceState K) (LoopState K) → ℕ
  full_of (Once o) = 0
  full_of (Serve o) = o.full

  abbrev pub limit_of : Either (OnceState K) (LoopState K) → ℕ
  limit_of (Once o) = o.limit
  limit_of (Serve o) = o.limit

  -- it is of the kind that the world was entered for, and new
  abbrev pub IsEntered : Mode → Either (OnceState K) (LoopState K) → Type 0
  IsEntered ForOne (Once o) = once.IsFresh o
  IsEntered ForLoops (Serve o) = loops.IsFresh o
  IsEntered _ _ = ⊥

  -- it has no child, and takes no further client
  abbrev pub IsHalted : Either (OnceState K) (LoopState K) → Type 0
  IsHalted (Once o) = o.rows ≡ []
  IsHalted (Serve o) = loops.IsHalted o

  -- What was written to its clients was sent or given up. What is written to standard output is gone at once.
  abbrev pub IsSent : Either (OnceState K) (LoopState K) → Type 0
  IsSent (Once o) = Unit {0}
  IsSent (Serve o) = loops.IsSent o

module _ {R T : Type 0} where
  -- the event is owed, by what each says of that
  abbrev pub Owes : Event → Either (OnceState (StdKid R T)) (LoopState (StdKid R T)) → Either (OnceState (StdKid R T)) (LoopState (StdKid R T)) → Type 0
  Owes event (Once old) (Once new) = once.IsOwed kid_tells event old new
  Owes event (Serve old) (Serve new) = loops.OwedAfterOrder kid_tells event old new
  Owes event _ _ = ⊥

  -- what an act does, by what each says of that
  abbrev pub Does : Act → Acted → Either (OnceState (StdKid R T)) (LoopState (StdKid R T)) → Either (OnceState (StdKid R T)) (LoopState (StdKid R T)) → Type 0
  Does act acted (Once old) (Once new) = once.Acts kid_tells act acted old new
  Does act acted (Serve old) (Serve new) = loops.Acts kid_tells act acted old new
  Does act acted _ _ = ⊥
