-- A step turns nobody away: no Shut of it says that too many connections are held.
use Rattle.std.proofs.Common.{◌≡◌, ℕ, zero, suc, ◌+◌, ◌==◌, ◌&&◌, ◌||◌, Bool, true, false, not, List, [], ◌∷◌, ◌++◌, Option, Some, None, if◌then◌else◌, refl, ap, ◌∙◌, add-zero}
use Rattle.std.specs.Prelude.{fold}
use Rattle.std.specs.List.{list_any}
use Rattle.std.proofs.lemmas.Bool.{and_right, or_from, or_parts}
use Rattle.std.proofs.lemmas.List.Folds.{list_any-append}
use Rattle.host_base.specs.declared.cause.Cause.{Cause}
use Rattle.host_trace.specs.declared.items.Act.{Act}
use Rattle.host_trace.specs.declared.items.Act.TheVariants.{EndInput, Feed, Kill, Release, WantChild}
use Rattle.host_trace.specs.declared.items.Item.TheVariants.{Out}
use Rattle.host_trace.specs.declared.items.Why.{Why}
use Rattle.trace_child.specs.Words.{given as count_given}
use Rattle.child_core.specs.Due.{Path, given}
use Rattle.child_core.specs.View.{View}
use Rattle.child_core.proofs.MemoryLaws.{acting-due}
use Rattle.trace_model.specs.Between.{is_full, turns_away}
use Rattle.conn_flags.specs.View.{is_live}
use Rattle.exchange_stage.specs.declared.stage.Stage.{Stage}
use Rattle.exchange_stage.specs.declared.stage.Stage.TheVariants as At
use Rattle.conn_laws.specs.Moves.{Move, acts_of}
use Rattle.conn_laws.proofs.MoveLaws.{acts_of-append}
use Rattle.http_conn.specs.HttpConn.{HttpConn}
use Rattle.http_conn.specs.Parts.{Answers, AnswersBy, AnswersOn, Begins, BeginsBy, Closes, Continues, Deed, Ends, EndsBy, FinishesBy, Gives, GivesBy, GivesHop, GivesHopBy, Handles, LetsOn, LetsOnBy, LooksAt, Loses, LosesFeed, LosesHop, LosesLook, LosesReady, LosesText, LosesTurn, MakesHopReady, MakesReady, Nothing, Or, Part, ReadsBy, ReadsOn, Round, Rounds, RoundsOn, Serves, ServesBy, ServesChild, ServesOrLoses, ShutsBy, StartsScript, Steps, Then, Wants, WantsBy, WritesPart, WritesRest, gives_all, the_one, the_other}
use Rattle.http_conn.specs.Reasons.{or_cut, why_of}
use Rattle.http_conn.specs.Settles.{is_over}
use Rattle.http_conn.specs.Writes.{acts_written}

-- none of so many is counted
none_counted : (test : Act → Bool) (n : ℕ) (acts : List Act) → list_any test acts ≡ false → fold (λ (m : ℕ) (y : Act). m + (if test y then 1 else 0)) n acts ≡ n
none_counted test n [] none = refl
none_counted test n (a ∷ acts) none =
    let p = or_parts (test a) (list_any test acts) none in
    ap (λ (b : Bool). fold (λ (m : ℕ) (y : Act). m + (if test y then 1 else 0)) (n + (if b then 1 else 0)) acts) p.0
    ∙ (ap (λ (m : ℕ). fold (λ (m : ℕ) (y : Act). m + (if test y then 1 else 0)) m acts) (add-zero n) ∙ none_counted test n acts p.1)

-- ---- why it is shut

abbrev is_full_of : Option Why → Bool
is_full_of None = false
is_full_of (Some why) = is_full why

unfull_by : (live lost stopped gone idled done : Bool) (cut : Option Cause)
    → is_full_of (if not live then None else (if lost then Some Why.NoMemory else (if stopped then Some Why.Stopped else (if gone then Some Why.Gone else or_cut cut (if idled then Some Why.Idle else (if done then Some Why.Done else None)))))) ≡ false
unfull_by false lost stopped gone idled done cut = refl
unfull_by true true stopped gone idled done cut = refl
unfull_by true false true gone idled done cut = refl
unfull_by true false false true idled done cut = refl
unfull_by true false false false idled done (Some cause) = refl
unfull_by true false false false true done None = refl
unfull_by true false false false false true None = refl
unfull_by true false false false false false None = refl

unfull : (conn : HttpConn) (done : Bool) → is_full_of (why_of conn done) ≡ false
unfull conn done = unfull_by (is_live conn.flags) conn.lost conn.flags.stopped conn.flags.gone conn.idled (conn.closing || conn.closes || done) conn.cut

-- ---- acts of a child

all_of_moves : (acts : List Act) → acts_of (gives_all acts) ≡ acts
all_of_moves [] = refl
all_of_moves (a ∷ acts) = ap (λ (l : List Act). a ∷ l) (all_of_moves acts)

module _ (c : ℕ) where
  abbrev turns : Act → Bool
  turns act = turns_away c (Out act)

  -- it turns nobody away
  abbrev Spares : List Move → Type 0
  Spares moves = list_any turns (acts_of moves) ≡ false

  abbrev Sparing : Deed → Type 0
  Sparing D = (old new : HttpConn) (n : ℕ) (moves : List Move) → D old n moves new → Spares moves

  none_spares : (moves : List Move) → moves ≡ [] → Spares moves
  none_spares moves none = ap (λ (l : List Move). list_any turns (acts_of l)) none

  both_spare : (moves sooner later : List Move) → moves ≡ sooner ++ later → Spares sooner → Spares later → Spares moves
  both_spare moves sooner later are a b =
      ap (λ (l : List Move). list_any turns (acts_of l)) are
      ∙ (ap (λ (l : List Act). list_any turns l) (acts_of-append sooner later)
      ∙ (list_any-append turns (acts_of sooner) (acts_of later) ∙ or_from _ _ a b))

  pub acts_spare : (moves : List Move) (acts : List Act) → moves ≡ gives_all acts → list_any turns acts ≡ false → Spares moves
  acts_spare moves acts are none = ap (λ (l : List Move). list_any turns (acts_of l)) are ∙ (ap (λ (l : List Act). list_any turns l) (all_of_moves acts) ∙ none)

  path_spares : (may : Bool) (v : View) (acts : List Act) → Path may v acts → list_any turns acts ≡ false
  path_spares may v [] path = refl
  path_spares may v (Feed k bytes ∷ acts) path = path_spares may (given v (Feed k bytes)) acts path.1
  path_spares may v (EndInput k ∷ acts) path = path_spares may (given v (EndInput k)) acts path.1
  path_spares may v (Kill k ∷ acts) path = path_spares may (given v (Kill k)) acts path.1
  path_spares may v (Release k ∷ acts) path = path_spares may (given v (Release k)) acts path.1
  path_spares may v (WantChild k ∷ acts) path = path_spares may (given v (WantChild k)) acts path.1
  path_spares may v (_ ∷ acts) path = absurd path.0

  pub written_spares : (d : ℕ) (text : List ℕ) → list_any turns (acts_written d text true) ≡ false
  written_spares d [] = refl
  written_spares d (byte ∷ bytes) = refl

  -- ---- parts

  of_nothing : Sparing Nothing
  of_nothing old new n moves d = none_spares moves d.none

  pub of_then : (A B : Deed) → Sparing A → Sparing B → Sparing (Then A B)
  of_then A B a b old new n moves d = both_spare moves d.sooner d.later d.are (a old d.mid n d.sooner d.first) (b d.mid new _ d.later d.second)

  of_or : (A B : Deed) → Sparing A → Sparing B → Sparing (Or A B)
  of_or A B a b old new n moves (the_one d) = a old new n moves d
  of_or A B a b old new n moves (the_other d) = b old new n moves d

  pub of_part : (A : Deed) → Sparing A → Sparing (Part A)
  of_part A a old new n moves d = a old new n moves d.by

  of_loses : Sparing Loses
  of_loses old new n moves d = none_spares moves d.none

  of_ends : Sparing Ends
  of_ends old new n moves d = go (is_over old) d
    where
      go : (b : Bool) → EndsBy b old n moves new → Spares moves
      go true e = ap (λ (l : List Move). list_any turns (acts_of l)) e.0
      go false e = none_spares moves e.none

  of_reads : Sparing ReadsOn
  of_reads old new n moves d = go d.ending _ d.by
    where
      go : (ending unread : Bool) → ReadsBy ending unread old n moves new → Spares moves
      go false true e = of_or LooksAt LosesLook (λ a b m l x. none_spares l x.none) (λ a b m l x. of_loses a b m l x.loses) old new n moves e
      go false false e = none_spares moves e.none
      go true true e = none_spares moves e.none
      go true false e = none_spares moves e.none

  of_lets_on : Sparing LetsOn
  of_lets_on old new n moves d = go d.due d.by
    where
      go : (due : Bool) → LetsOnBy due old n moves new → Spares moves
      go true e = of_or Continues Loses (λ a b m l x. ap (λ (k : List Move). list_any turns (acts_of k)) x.moves_are) of_loses old new n moves e
      go false e = none_spares moves e.none

  of_finishes : (text : List ℕ) (closes : Bool) → Sparing (FinishesBy text closes)
  of_finishes text closes =
      of_or (Then (Part (WritesRest text closes)) (Part Ends)) (Part (LosesText text))
      (of_then (Part (WritesRest text closes)) (Part Ends) (of_part (WritesRest text closes) (λ a b m l x. acts_spare l _ x.moves_are (written_spares a.flags.c text))) (of_part Ends of_ends))
      (of_part (LosesText text) (λ a b m l x. of_loses a b m l x.loses))

  of_gives : Sparing Gives
  of_gives old new n moves d = go old.stage d
    where
      go : (s : Stage) → GivesBy s old n moves new → Spares moves
      go (At.Running leg) e =
          of_or (Part (WritesPart leg)) (Part (LosesText leg.text)) (of_part (WritesPart leg) (λ a b m l x. acts_spare l _ x.moves_are (written_spares a.flags.c leg.text)))
          (of_part (LosesText leg.text) (λ a b m l x. of_loses a b m l x.loses)) old new n moves e
      go (At.Finishing text closes) e = of_finishes text closes old new n moves e
      go _ e = none_spares moves e.none

  of_answers_on : (stamp : Option ℕ) → Sparing (AnswersOn stamp)
  of_answers_on stamp old new n moves d = go d.ending d.by
    where
      go : (ending : Bool) → AnswersBy ending stamp old n moves new → Spares moves
      go true e = none_spares moves e.none
      go false e =
          of_or (Then (Part (MakesReady stamp)) Gives) (Part LosesReady)
          (of_then (Part (MakesReady stamp)) Gives (of_part (MakesReady stamp) (λ a b m l x. none_spares l x.none)) of_gives)
          (of_part LosesReady (λ a b m l x. of_loses a b m l x.loses)) old new n moves e

  pub of_answers : (stamp : Option ℕ) → Sparing (Answers stamp)
  of_answers stamp = of_then (Part ReadsOn) (Then (Part LetsOn) (AnswersOn stamp)) (of_part ReadsOn of_reads) (of_then (Part LetsOn) (AnswersOn stamp) (of_part LetsOn of_lets_on) (of_answers_on stamp))

  of_child : Sparing ServesChild
  of_child old new n moves d = go old.run d
    where
      go : (run : Option View) → ServesBy run old n moves new → Spares moves
      go None e = none_spares moves e.none
      go (Some v) e = acts_spare moves _ e.by.moves_are (path_spares _ v _ (acting-due _ v).path)

  pub of_handles : Sparing Handles
  of_handles =
      of_then ServesOrLoses (Part Ends)
      (of_or ServesChild (Then (Part LosesFeed) ServesChild) of_child (of_then (Part LosesFeed) ServesChild (of_part LosesFeed (λ a b m l x. none_spares l x.none)) of_child))
      (of_part Ends of_ends)

  of_hop : Sparing GivesHop
  of_hop old new n moves d = go old.stage d
    where
      go : (s : Stage) → GivesHopBy s old n moves new → Spares moves
      go (At.Finishing text closes) e = of_finishes text closes old new n moves e
      go (At.Starting leg launch body whole) e =
          of_or (Part (StartsScript leg launch body whole)) (Part Loses) (of_part (StartsScript leg launch body whole) (λ a b m l x. ap (λ (k : List Move). list_any turns (acts_of k)) x.moves_are)) (of_part Loses of_loses) old new n moves e
      go _ e = none_spares moves e.none

  of_begins : (stamp : Option ℕ) → Sparing (Begins stamp)
  of_begins stamp old new n moves d = go d.turn d.by
    where
      go : (turn : Bool) → BeginsBy turn stamp old n moves new → Spares moves
      go false e = none_spares moves e.none
      go true e =
          of_or (Then (Part (MakesHopReady stamp)) GivesHop) (Part LosesHop)
          (of_then (Part (MakesHopReady stamp)) GivesHop (of_part (MakesHopReady stamp) (λ a b m l x. none_spares l x.none)) of_hop)
          (of_part LosesHop (λ a b m l x. of_loses a b m l x.loses)) old new n moves e

  pub of_rounds : (turns : ℕ) (stamp : Option ℕ) → Sparing (Rounds turns stamp)
  of_rounds zero stamp old new n moves d = none_spares moves d.none
  of_rounds (suc turns) stamp old new n moves d =
      of_then (Rounds turns stamp) (Round stamp) (of_rounds turns stamp)
      (λ a b m l x. of_then (Answers stamp) (Begins stamp) (of_answers stamp) (of_begins stamp) a b m l x.does) old new n moves d

  of_rounds_on : (stamp : Option ℕ) → Sparing (RoundsOn stamp)
  of_rounds_on stamp old new n moves d =
      of_then (Rounds d.turns stamp) (Or Nothing (Part LosesTurn)) (of_rounds d.turns stamp)
      (of_or Nothing (Part LosesTurn) of_nothing (of_part LosesTurn (λ a b m l x. of_loses a b m l x.loses))) old new n moves d.does

  of_closes : Sparing Closes
  of_closes old new n moves d = go d.why d.by (ap is_full_of d.tells.is ∙ unfull old d.tells.done)
    where
      go : (why : Option Why) → ShutsBy why old n moves new → is_full_of why ≡ false → Spares moves
      go None e other = none_spares moves e.none
      go (Some why) e other =
          ap (λ (l : List Move). list_any turns (acts_of l)) e.moves_are
          ∙ or_from (c == old.flags.c && is_full why) false (and_right (c == old.flags.c) (is_full why) other) refl

  of_wants : Sparing Wants
  of_wants old new n moves d = go d.due d.by
    where
      go : (due : Bool) → WantsBy due old n moves new → Spares moves
      go true e = ap (λ (l : List Move). list_any turns (acts_of l)) e.moves_are
      go false e = none_spares moves e.none

  pub of_steps : (stamp : Option ℕ) → Sparing (Steps stamp)
  of_steps stamp =
      of_then (Serves stamp) (Then (Part Closes) (Part Wants))
      (of_then (Answers stamp) (Then Handles (RoundsOn stamp)) (of_answers stamp) (of_then Handles (RoundsOn stamp) of_handles (of_rounds_on stamp)))
      (of_then (Part Closes) (Part Wants) (of_part Closes of_closes) (of_part Wants of_wants))

  pub none_given : (acts : List Act) → list_any turns acts ≡ false → count_given (turns_away c) acts ≡ 0
  none_given acts none = none_counted turns 0 acts none
