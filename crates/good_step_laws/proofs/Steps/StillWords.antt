-- What an event makes of a run that brings nothing for it: nothing becomes due that takes memory, or settles it.
use Rattle.std.proofs.Common.{◌≡◌, ℕ, ◌==◌, Bool, true, false, ◌&&◌, ◌||◌, not, nat_le, Some, is_some, if◌then◌else◌, refl, sym, ap, ◌∙◌}
use Rattle.std.proofs.lemmas.Bool.{false≢true}
use Rattle.host_trace.specs.declared.items.Event.{Event}
use Rattle.host_trace.specs.declared.items.Event.TheVariants.{Accepted, ClientGone, InputGone, Stop, WsBad, WsBinary, WsClosed}
use Rattle.host_trace.specs.declared.items.Item.TheVariants.{In}
use Rattle.host_trace.specs.Decider.{is_websocket}
use Rattle.host_trace.specs.First.{or_else}
use Rattle.host_trace.specs.Kinds.{is_ws_binary}
use Rattle.trace_child.specs.Words.{is_filled}
use Rattle.child_core.specs.declared.ending.Ending.{Ending}
use Rattle.child_core.specs.declared.ending.Ending.TheVariants.{Gone, Refused}
use Rattle.child_core.specs.declared.ending.Outcome.TheVariants as Ended
use Rattle.child_core.specs.Calls.{ended, hearing, is_settled}
use Rattle.child_core.specs.Due.{is_feed_due, is_input_due, wants_input_end}
use Rattle.child_core.specs.View.{View, noted}
use Rattle.child_core.proofs.ActLaws.{and_false, or_none}
use Rattle.host_base.specs.declared.site.Site.{Site}
use Rattle.trace_model.specs.Exchange.{Exchange}
use Rattle.conn_flags.specs.View.{View as Flags, has_room, more_by, noted as flags_noted}
use Rattle.child_laws.specs.Heard.{heard_by}
use Rattle.http_conn.specs.HttpConn.{HttpConn}
use Rattle.http_conn.specs.Hears.{Goes, HearsOwn}
use Rattle.good_step_laws.proofs.Events.HeedLaws.{when_stays}
use Rattle.good_step_laws.proofs.Events.RunWords.{ends}

-- ---- the events

-- the input of a child is gone
abbrev pub is_gone : Event → Bool
is_gone (InputGone k) = true
is_gone ev = false

pub gone_of : (ev : Event) → is_gone ev ≡ true → (k : ℕ) × (ev ≡ InputGone k)
gone_of (InputGone k) is = (k, refl)
gone_of ev is = absurd (false≢true is)

-- nothing comes with it, and no time passes
abbrev pub is_still : Event → Bool
is_still (Accepted peer) = true
is_still (ClientGone d) = true
is_still (InputGone k) = true
is_still (WsBinary d) = true
is_still (WsClosed d) = true
is_still (WsBad d) = true
is_still Stop = true
is_still ev = false

unsent : (m : Flags) (upgraded : Bool) → (m.shut || nat_le (more_by (if upgraded then 0 else 0) m.pending) 262144) ≡ has_room m
unsent m true = refl
unsent m false = refl

pub room_same : (m : Flags) (ev : Event) → is_still ev ≡ true → has_room (flags_noted m (In ev)) ≡ has_room m
room_same m (Accepted peer) still = unsent m m.upgraded
room_same m (ClientGone d) still = unsent m m.upgraded
room_same m (InputGone k) still = unsent m m.upgraded
room_same m (WsBinary d) still = unsent m m.upgraded
room_same m (WsClosed d) still = unsent m m.upgraded
room_same m (WsBad d) still = unsent m m.upgraded
room_same m Stop still = unsent m m.upgraded
room_same m ev still = absurd (false≢true still)

-- it leaves the stage
pub stage_same : (ev : Event) (first mid : HttpConn) → is_still ev ≡ true → HearsOwn ev first mid → mid.stage ≡ first.stage
stage_same (Accepted peer) first mid still own = ap (λ (c : HttpConn). c.stage) own
stage_same (ClientGone d) first mid still own = when_stays Goes (first.flags.c == d) first mid (λ by. ap (λ (c : HttpConn). c.stage) by) own
stage_same (InputGone k) first mid still own = ap (λ (c : HttpConn). c.stage) own
stage_same (WsBinary d) first mid still own = ap (λ (c : HttpConn). c.stage) own
stage_same (WsClosed d) first mid still own = ap (λ (c : HttpConn). c.stage) own
stage_same (WsBad d) first mid still own = when_stays Goes (first.flags.c == d) first mid (λ by. ap (λ (c : HttpConn). c.stage) by) own
stage_same Stop first mid still own = ap (λ (c : HttpConn). c.stage) own
stage_same ev first mid still own = absurd (false≢true still)

-- ---- the input of a child is gone

abbrev pub gone_at : ℕ → View → View
gone_at k v = record v { input_ended = v.number == k || v.input_ended }

pub input_gone : (v : View) (k : ℕ) → noted 0 v (hearing true) (In (InputGone k)) ≡ gone_at k v
input_gone v k = rw (or_none v.outcome, and_false (is_websocket v.kind), and_false (not (is_some v.outcome))) refl

feed_less : (a b i f z : Bool) → ((a && not i) && f && z) ≡ false → ((a && not (b || i)) && f && z) ≡ false
feed_less a false i f z none = none
feed_less true true i f z none = refl
feed_less false true i f z none = refl

input_less : (a b i : Bool) → (a && not i) ≡ false → (a && not (b || i)) ≡ false
input_less a false i none = none
input_less true true i none = refl
input_less false true i none = refl

pub gone_unfed : (k : ℕ) (v : View) → is_feed_due v ≡ false → is_feed_due (gone_at k v) ≡ false
gone_unfed k v none = feed_less (v.started && not (is_some v.outcome) && not v.exited) (v.number == k) v.input_ended (is_filled v.unfed) (v.untaken == 0) none

pub gone_input : (k : ℕ) (v : View) → is_input_due v ≡ false → is_input_due (gone_at k v) ≡ false
gone_input k v none = input_less (wants_input_end v) (v.number == k) v.input_ended none

-- it settles a child only where its input had not ended once it exited
pub gone_settled : (k : ℕ) (v : View) → (v.number == k ≡ true → v.exited ≡ true → v.input_ended ≡ true) → is_settled (gone_at k v) ≡ is_settled v
gone_settled k v ended = go (v.number == k) refl v.exited refl
  where
    go : (b : Bool) → (v.number == k) ≡ b → (x : Bool) → v.exited ≡ x → (v.refused || x && (b || v.input_ended) && v.output_ended) ≡ (v.refused || x && v.input_ended && v.output_ended)
    go false is x at = refl
    go true is false at = refl
    go true is true at = ap (λ (i : Bool). v.refused || i && v.output_ended) (sym (ended is at))

-- ---- no Feed becomes due

unfilled : (a z : Bool) → (a && false && z) ≡ false
unfilled true z = refl
unfilled false z = refl

pub ended_unfed : (ending : Ending) (v : View) → is_feed_due (ended v ending) ≡ false
ended_unfed ending v = unfilled (v.started && not (is_some (ended v ending).outcome) && not v.exited && not v.input_ended) (v.untaken == 0)

if_unfed : (b : Bool) (w v : View) → is_feed_due w ≡ false → is_feed_due v ≡ false → is_feed_due (if b then w else v) ≡ false
if_unfed true w v there here = there
if_unfed false w v there here = here

if_none : (b : Bool) (w v : View) → b ≡ false → (if b then w else v) ≡ v
if_none true w v none = absurd (false≢true (sym none))
if_none false w v none = refl

module _ (site : Site) (c : ℕ) (e : Exchange) (hop : ℕ) where
  pub unfed_heard : (ev : Event) → is_still ev ≡ true → (v : View) → is_feed_due v ≡ false → is_feed_due (heard_by site c e hop true ev v) ≡ false
  unfed_heard (Accepted peer) still v none = none
  unfed_heard (ClientGone d) still v none = if_unfed (c == d) (ended v Gone) v (ended_unfed Gone v) none
  unfed_heard (InputGone k) still v none = ap is_feed_due (input_gone v k) ∙ gone_unfed k v none
  unfed_heard (WsBinary d) still v none = if_unfed (c == d) (ended v Refused) v (ended_unfed Refused v) none
  unfed_heard (WsClosed d) still v none = none
  unfed_heard (WsBad d) still v none = if_unfed (c == d) (ended v Gone) v (ended_unfed Gone v) none
  unfed_heard Stop still v none = unfilled (v.started && not (is_some (or_else v.outcome (Some Ended.Stopped))) && not v.exited && not v.input_ended) (v.untaken == 0)
  unfed_heard ev still v none = absurd (false≢true still)

  or_last : (b : Bool) → (b || false) ≡ false → b ≡ false
  or_last true none = none
  or_last false none = refl

  -- where it ends nothing it leaves the run, unless its child's input is gone
  pub run_same : (ev : Event) → is_still ev ≡ true → ends c ev ≡ false → is_ws_binary c (In ev) ≡ false → is_gone ev ≡ false → (v : View) → heard_by site c e hop true ev v ≡ v
  run_same (Accepted peer) still on other not_gone v = refl
  run_same (ClientGone d) still on other not_gone v = if_none (c == d) (ended v Gone) v (or_last (c == d) on)
  run_same (InputGone k) still on other not_gone v = absurd (false≢true (sym not_gone))
  run_same (WsBinary d) still on other not_gone v = if_none (c == d) (ended v Refused) v other
  run_same (WsClosed d) still on other not_gone v = refl
  run_same (WsBad d) still on other not_gone v = if_none (c == d) (ended v Gone) v on
  run_same Stop still on other not_gone v = absurd (false≢true (sym on))
  run_same ev still on other not_gone v = absurd (false≢true still)
