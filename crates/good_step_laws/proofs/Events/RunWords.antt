-- What an event makes of a run.
use Rattle.std.proofs.Common.{◌≡◌, ℕ, zero, suc, ◌==◌, Bool, true, false, ◌&&◌, ◌||◌, List, Option, Some, None, is_some, if◌then◌else◌, refl, sym, ap, ◌∙◌, subst}
use Rattle.std.proofs.lemmas.Bool.{false≢true}
use Rattle.host_base.specs.declared.site.Site.{Site}
use Rattle.host_trace.specs.declared.items.Event.{Event}
use Rattle.host_trace.specs.declared.items.Event.TheVariants.{ClientBytes, ClientEof, ClientGone, Started, StartFailed, StartFull, ChildBytes, ChildEof, ChildBroken, Took, InputGone, Exited, WsBinary, WsBad, NoRoom, Tick, Stop}
use Rattle.host_trace.specs.declared.items.Item.{Item}
use Rattle.host_trace.specs.declared.items.Item.TheVariants.{In}
use Rattle.host_trace.specs.First.{or_else}
use Rattle.host_trace.specs.Kinds.{is_client_gone, is_no_room, is_stop, is_ws_bad, is_ws_binary}
use Rattle.child_core.specs.declared.ending.Ending.{Ending}
use Rattle.child_core.specs.declared.ending.Ending.TheVariants.{Dropped, Gone, Incomplete, Refused}
use Rattle.child_core.specs.declared.ending.Outcome.{Outcome}
use Rattle.child_core.specs.declared.ending.Outcome.TheVariants as Ended
use Rattle.child_core.specs.Calls.{ended, hearing, is_settled, outcome_of_ending}
use Rattle.child_core.specs.View.{View, by_bytes, chosen, verdict}
use Rattle.trace_model.specs.Exchange.{Exchange, reading}
use Rattle.trace_model.specs.Legs.{Leg as Started_leg}
use Rattle.trace_model.specs.Readings.{is_whole}
use Rattle.child_laws.specs.Children.{dropped}
use Rattle.child_laws.specs.Heard.{cut_by, heard_by, last_hop, offered_by, run_heard}
use Rattle.http_conn.specs.Moves.{ended_run}
use Rattle.http_conn.specs.Ready.{outcome_of_run}
use Rattle.http_conn.specs.Slot.{run_settled}
use Rattle.http_stage_laws.specs.Inward.{IsDecided, StaysRun, is_left}
use Rattle.http_step_laws.specs.Standing.{goes_by}
use Rattle.http_step_laws.proofs.LossLaws.{same_dropped}

-- ---- a run that is decided

if_outcome : (b : Bool) (w v : View) (o : Option Outcome) → w.outcome ≡ o → v.outcome ≡ o → (if b then w else v).outcome ≡ o
if_outcome true w v o there here = there
if_outcome false w v o there here = here

ended_outcome : (ending : Ending) (v : View) (o : Outcome) → v.outcome ≡ Some o → (ended v ending).outcome ≡ Some o
ended_outcome ending v o at = ap (λ (p : Option Outcome). or_else p (Some (outcome_of_ending ending))) at

-- the client is gone, or the server is to end
abbrev pub ends : ℕ → Event → Bool
ends c ev = is_stop (In ev) || (is_client_gone c (In ev) || is_ws_bad c (In ev))

module _ (site : Site) (c : ℕ) (e : Exchange) where
  offered_outcome : (hop : ℕ) (x : Item) (v : View) → (offered_by site c e hop x v).outcome ≡ v.outcome
  offered_outcome zero x v = refl
  offered_outcome (suc hop) x v = refl

  cut_outcome : (hop : ℕ) (v : View) (o : Outcome) → v.outcome ≡ Some o → (cut_by site c e hop v).outcome ≡ Some o
  cut_outcome zero v o at = if_outcome (is_whole (reading site c e)) v (ended v Incomplete) (Some o) at (ended_outcome Incomplete v o at)
  cut_outcome (suc hop) v o at = at

  -- what was decided stays
  module _ (hop : ℕ) (found : Bool) (v : View) (o : Outcome) (at : v.outcome ≡ Some o) where
    noted_stays : (ev : Event) → or_else v.outcome (verdict 0 v (hearing found) (In ev)) ≡ Some o
    noted_stays ev = ap (λ (p : Option Outcome). or_else p (verdict 0 v (hearing found) (In ev))) at

    pub decided_stays : (ev : Event) → (heard_by site c e hop found ev v).outcome ≡ Some o
    decided_stays (ClientBytes d bytes) = if_outcome (c == d) (offered_by site c e hop (In (ClientBytes d bytes)) v) v (Some o) (offered_outcome hop (In (ClientBytes d bytes)) v ∙ at) at
    decided_stays (ClientEof d) = if_outcome (c == d) (cut_by site c e hop v) v (Some o) (cut_outcome hop v o at) at
    decided_stays (ClientGone d) = if_outcome (c == d) (ended v Gone) v (Some o) (ended_outcome Gone v o at) at
    decided_stays (WsBinary d) = if_outcome (c == d) (ended v Refused) v (Some o) (ended_outcome Refused v o at) at
    decided_stays (WsBad d) = if_outcome (c == d) (ended v Gone) v (Some o) (ended_outcome Gone v o at) at
    decided_stays (NoRoom d) = if_outcome (c == d) (ended v Dropped) v (Some o) (ended_outcome Dropped v o at) at
    decided_stays (Started k) = noted_stays (Started k)
    decided_stays (StartFailed k) = noted_stays (StartFailed k)
    decided_stays (StartFull k seen) = noted_stays (StartFull k seen)
    decided_stays (ChildBytes k bytes) = noted_stays (ChildBytes k bytes)
    decided_stays (ChildEof k) = noted_stays (ChildEof k)
    decided_stays (ChildBroken k) = noted_stays (ChildBroken k)
    decided_stays (Took k n) = noted_stays (Took k n)
    decided_stays (InputGone k) = noted_stays (InputGone k)
    decided_stays (Exited k) = noted_stays (Exited k)
    decided_stays (Tick secs) = noted_stays (Tick secs)
    decided_stays Stop = noted_stays Stop
    decided_stays ev = at

  -- ---- one that nothing had decided

  abbrev Left : ℕ → Bool → Event → View → Type 0
  Left hop found ev v = is_left (heard_by site c e hop found ev v).outcome ≡ true

  if_left : (b : Bool) (w v : View) → is_left v.outcome ≡ false → is_left (if b then w else v).outcome ≡ true → b ≡ true
  if_left true w v none is = refl
  if_left false w v none is = absurd (false≢true (sym none ∙ is))

  or_nothing : (b : Bool) → b ≡ true → (b || false) ≡ true
  or_nothing b is = ap (λ (x : Bool). x || false) is

  chosen_left : (o : Option Outcome) (b : Bool) (p : Outcome) → o ≡ None → is_left (Some p) ≡ false → is_left (or_else o (chosen b p)) ≡ false
  chosen_left None true p none other = other
  chosen_left None false p none other = refl
  chosen_left (Some o) b p none other = absurd (cc)

  bytes_left : (o : Option Outcome) (ws long : Bool) → o ≡ None → is_left (or_else o (by_bytes ws false long)) ≡ false
  bytes_left None true long none = refl
  bytes_left None false true none = refl
  bytes_left None false false none = refl
  bytes_left (Some o) ws long none = absurd (cc)

  module _ (hop : ℕ) (found : Bool) (v : View) (none : v.outcome ≡ None) where
    unleft : is_left v.outcome ≡ false
    unleft = ap is_left none

    never : {A : Type 0} (b : Bool) → b ≡ false → b ≡ true → A
    never b other is = absurd (false≢true (sym other ∙ is))

    incomplete_left : (hop : ℕ) → is_left (cut_by site c e hop v).outcome ≡ false
    incomplete_left zero = go (is_whole (reading site c e))
      where
        go : (b : Bool) → is_left (if b then v else ended v Incomplete).outcome ≡ false
        go true = unleft
        go false = ap (λ (o : Option Outcome). is_left (or_else o (Some (outcome_of_ending Incomplete)))) none
    incomplete_left (suc hop) = unleft

    eof_left : (d : ℕ) → Left hop found (ClientEof d) v → is_left (cut_by site c e hop v).outcome ≡ true
    eof_left d is = go (c == d) is
      where
        go : (b : Bool) → is_left (if b then cut_by site c e hop v else v).outcome ≡ true → is_left (cut_by site c e hop v).outcome ≡ true
        go true is = is
        go false is = absurd (false≢true (sym unleft ∙ is))

    unnoted : (o : Option Outcome) → o ≡ None → is_left (or_else v.outcome o) ≡ false
    unnoted o is = ap (λ (p : Option Outcome). is_left (or_else v.outcome p)) is ∙ ap (λ (p : Option Outcome). is_left (or_else p None)) none

    pub left_ends : (ev : Event) → is_ws_binary c (In ev) ≡ false → is_no_room c (In ev) ≡ false → Left hop found ev v → ends c ev ≡ true
    left_ends (ClientGone d) binary room is = or_nothing (c == d) (if_left (c == d) (ended v Gone) v unleft is)
    left_ends (WsBad d) binary room is = if_left (c == d) (ended v Gone) v unleft is
    left_ends (WsBinary d) binary room is = never (c == d) binary (if_left (c == d) (ended v Refused) v unleft is)
    left_ends (NoRoom d) binary room is = never (c == d) room (if_left (c == d) (ended v Dropped) v unleft is)
    left_ends Stop binary room is = refl
    left_ends (ClientBytes d bytes) binary room is =
        absurd (false≢true (sym (ap is_left (if_outcome (c == d) (offered_by site c e hop (In (ClientBytes d bytes)) v) v None (offered_outcome hop (In (ClientBytes d bytes)) v ∙ none) none)) ∙ is))
    left_ends (ClientEof d) binary room is = absurd (false≢true (sym (incomplete_left hop) ∙ eof_left d is))
    left_ends (Tick secs) binary room is = never _ (chosen_left v.outcome _ _ none refl) is
    left_ends (ChildBytes k bytes) binary room is = never _ (bytes_left v.outcome _ _ none) is
    left_ends (ChildEof k) binary room is = never _ (chosen_left v.outcome _ _ none refl) is
    left_ends (ChildBroken k) binary room is = never _ (chosen_left v.outcome _ _ none refl) is
    left_ends (StartFailed k) binary room is = never _ (chosen_left v.outcome _ _ none refl) is
    left_ends (StartFull k seen) binary room is = never _ (chosen_left v.outcome _ _ none refl) is
    left_ends (Started k) binary room is = never _ (unnoted None refl) is
    left_ends (Took k n) binary room is = never _ (unnoted None refl) is
    left_ends (InputGone k) binary room is = never _ (unnoted None refl) is
    left_ends (Exited k) binary room is = never _ (unnoted None refl) is
    left_ends ev binary room is = never _ unleft is

    -- .. and where one ends it, it neither goes on nor has its output ended
    pub ends_stop : (ev : Event) → ends c ev ≡ true → goes_by (heard_by site c e hop found ev v).outcome ≡ false
    ends_stop (ClientGone d) is = go (c == d) (or_false (c == d) is)
      where
        or_false : (b : Bool) → (b || false) ≡ true → b ≡ true
        or_false true is = refl
        or_false false is = is

        go : (b : Bool) → b ≡ true → goes_by (if b then ended v Gone else v).outcome ≡ false
        go true is = ap (λ (o : Option Outcome). goes_by (or_else o (Some Ended.Gone))) none
        go false is = absurd (false≢true is)
    ends_stop (WsBad d) is = go (c == d) is
      where
        go : (b : Bool) → b ≡ true → goes_by (if b then ended v Gone else v).outcome ≡ false
        go true is = ap (λ (o : Option Outcome). goes_by (or_else o (Some Ended.Gone))) none
        go false is = absurd (false≢true is)
    ends_stop Stop is = ap (λ (o : Option Outcome). goes_by (or_else o (Some Ended.Stopped))) none
    ends_stop ev is = absurd (false≢true is)

  -- ---- its child

  -- nothing of it is another
  pub record SameChild (v w : View) : Type 0 where
    pub settled : is_settled w ≡ is_settled v
    pub started : w.started ≡ v.started
    pub exited : w.exited ≡ v.exited

  if_same : (b : Bool) (w v : View) → SameChild v w → SameChild v (if b then w else v)
  if_same true w v s = s
  if_same false w v s = record { settled = refl; started = refl; exited = refl }

  pub ends_alike : (hop : ℕ) (found : Bool) (v : View) (ev : Event) → ends c ev ≡ true → SameChild v (heard_by site c e hop found ev v)
  ends_alike hop found v (ClientGone d) is = if_same (c == d) (ended v Gone) v (record { settled = refl; started = refl; exited = refl })
  ends_alike hop found v (WsBad d) is = if_same (c == d) (ended v Gone) v (record { settled = refl; started = refl; exited = refl })
  ends_alike hop found v Stop is = record { settled = refl; started = refl; exited = refl }
  ends_alike hop found v ev is = absurd (false≢true is)

-- ---- the run of a connection

module _ (site : Site) (c : ℕ) (e : Exchange) (legs : List Started_leg) (found : Bool) (ev : Event) where
  pub same_outcome : (run : Option View) → IsDecided run → outcome_of_run (run_heard site c e legs found ev run) ≡ outcome_of_run run
  same_outcome None d = refl
  same_outcome (Some v) d = go v.outcome refl
    where
      go : (o : Option Outcome) → v.outcome ≡ o → outcome_of_run (run_heard site c e legs found ev (Some v)) ≡ v.outcome
      go None at = absurd (false≢true (sym (ap (λ (p : Option Outcome). is_some p) at) ∙ d))
      go (Some o) at = decided_stays site c e (last_hop legs) found v o at ev ∙ sym at

  pub decided_heard : (run : Option View) → IsDecided run → IsDecided (run_heard site c e legs found ev run)
  decided_heard None d = tt
  decided_heard (Some v) d = ap (λ (p : Option Outcome). is_some p) (same_outcome (Some v) d) ∙ d

  pub settled_alike : (run : Option View) → ends c ev ≡ true → run_settled (run_heard site c e legs found ev run) ≡ run_settled run
  settled_alike None is = refl
  settled_alike (Some v) is = (ends_alike site c e (last_hop legs) found v ev is).settled

  pub stays_heard : (run : Option View) → ends c ev ≡ true → StaysRun run → StaysRun (run_heard site c e legs found ev run)
  stays_heard None is s = tt
  stays_heard (Some v) is s =
      let alike = ends_alike site c e (last_hop legs) found v ev is in
      (alike.settled ∙ s.0, ap (λ (b : Bool). b && (heard_by site c e (last_hop legs) found ev v).exited) alike.started ∙ (ap (λ (b : Bool). v.started && b) alike.exited ∙ s.1))

pub decided_ended : (ending : Ending) (run : Option View) → IsDecided (ended_run ending run)
decided_ended ending None = tt
decided_ended ending (Some v) = go v.outcome
  where
    go : (o : Option Outcome) → is_some (or_else o (Some (outcome_of_ending ending))) ≡ true
    go None = refl
    go (Some o) = refl

pub decided_dropped : (run : Option View) → IsDecided (dropped run)
decided_dropped run = subst (λ (r : Option View). IsDecided r) (sym (same_dropped run)) (decided_ended Dropped run)
