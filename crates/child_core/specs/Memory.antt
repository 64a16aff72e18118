-- Memory ran out for the connection: it ends the run before the Shut that says so, at the end of the step.
use Rattle.std.specs.Prelude.{ℕ, Bool, true, false, List, [], ◌∷◌, ◌++◌, ◌≡◌, length, drop, min, map}
use Rattle.host_trace.specs.declared.items.Act.{Act}
use Rattle.host_trace.specs.declared.items.Act.TheVariants.{Shut}
use Rattle.host_trace.specs.declared.items.Item.{Item}
use Rattle.host_trace.specs.declared.items.Item.TheVariants.{Out}
use Rattle.host_trace.specs.declared.items.Why.TheVariants.{NoMemory}
use Rattle.host_trace.specs.Projections.{shut_for_memory}
use Rattle.host_trace.specs.Decider.{is_websocket}
use Rattle.trace_child.specs.ChildForm.{may_be_given}
use Rattle.trace_child.specs.ChildGood.{ChildGood}
use Rattle.child_core.specs.declared.ending.Ending.TheVariants.{Dropped}
use Rattle.child_core.specs.View.{View, plain, noted}
use Rattle.child_core.specs.Calls.{ended}
use Rattle.child_core.specs.Due.{Due, Path, after, acting, acted, piece_of}
use Rattle.child_core.specs.Setting.{Setting, run_in}
use Rattle.child_core.specs.Knows.{KnowsRun}
use Rattle.child_core.specs.Walk.{MayAct, Walk, walked, Deserved}
use Rattle.child_core.specs.Laws.{IsStill}

-- ---- the acts of a run, one by one

-- the acts that a run gives are each due when they are given, and make of it what its call says
pub record AreDue (may : Bool) (v : View) : Type 0 where
  pub path : Path may v (acting may v)
  pub after_is : after v (acting may v) ≡ acted may v

abbrev pub ActsAreDue : Type 0
ActsAreDue = (may : Bool) (v : View) → AreDue may v

abbrev pub DueActsMayCome : Type 0
DueActsMayCome = (early : Bool) (s : Setting) → IsStill s → (may : Bool) (v : View) (L : List Item) (act : Act) → KnowsRun early s v L → Due may v act
    → MayAct early s v L act

-- An act that is due has the form of an act on a child.
abbrev pub DueActsAreInForm : Type 0
DueActsAreInForm = (early : Bool) (s : Setting) (may : Bool) (v : View) (L : List Item) (act : Act) → KnowsRun early s v L → Due may v act
    → may_be_given L act ≡ true

-- A Feed that is due is a text at once, or as much of the body as a piece may be.
pub record Piece (v : View) : Type 0 where
  pub text : is_websocket v.kind ≡ true → piece_of v ≡ v.unfed
  pub body : is_websocket v.kind ≡ false → length (piece_of v) ≡ min 65536 (length v.unfed)
  pub front : piece_of v ++ drop (length (piece_of v)) v.unfed ≡ v.unfed

abbrev pub PiecesAreFronts : Type 0
PiecesAreFronts = (v : View) → Piece v

-- ---- what is known until the Shut

-- What is known while memory is found is known too when it was wanting.
abbrev pub KnowsEarly : Type 0
KnowsEarly = (early : Bool) (s : Setting) (v : View) (L : List Item) → KnowsRun false s v L → KnowsRun early s v L

-- Once the Shut stands nothing is owed any more.
abbrev pub KnowsShut : Type 0
KnowsShut = (early : Bool) (s : Setting) (v : View) (L : List Item) → shut_for_memory L s.conn ≡ true → KnowsRun early s v L → KnowsRun false s v L

-- Between the two the run was ended and the list has not ended it: an act makes the same of both.
abbrev pub EndedActsAgree : Type 0
EndedActsAgree = (c : ℕ) (v : View) (act : Act) → noted c (ended v Dropped) plain (Out act) ≡ ended (noted c v plain (Out act)) Dropped

-- An act that is due for the ended run may come.
abbrev pub EndedActsMayCome : Type 0
EndedActsMayCome = (s : Setting) → IsStill s → (may : Bool) (v : View) (L : List Item) (act : Act) → KnowsRun true s v L → Due may (ended v Dropped) act
    → MayAct true s v L act

abbrev pub EndedActsAreInForm : Type 0
EndedActsAreInForm = (early : Bool) (s : Setting) (may : Bool) (v : View) (L : List Item) (act : Act) → KnowsRun early s v L → Due may (ended v Dropped) act
    → may_be_given L act ≡ true

-- ---- the end of the step

-- the last acts of such a step: those that are due for the ended run, and the Shut
abbrev pub last_acts : Bool → Setting → View → List Act
last_acts may s v = acting may (ended v Dropped) ++ Shut s.conn NoMemory ∷ []

abbrev pub EndedStepsAreKnown : Type 0
EndedStepsAreKnown = (early : Bool) (s : Setting) → IsStill s → (may : Bool) (v : View) (L : List Item) → KnowsRun early s v L
    → KnowsRun false s (acted may (ended v Dropped)) (L ++ map Out (last_acts may s v))

-- `acts` were given before memory ran out; what they did to the child was wanted, and they didn't ask for its output.
abbrev pub EndedStepsAreGood : Type 0
EndedStepsAreGood = (s : Setting) → IsStill s → (may : Bool) (w : View) (H : List Item) (acts : List Act) → KnowsRun false s w H → Walk false s w H acts
    → Deserved may w (walked s w acts) → ((walked s w acts).asked ≡ true → w.asked ≡ true)
    → ChildGood (run_in s w) may H (acts ++ last_acts may s (walked s w acts)) (H ++ map Out (acts ++ last_acts may s (walked s w acts)))
