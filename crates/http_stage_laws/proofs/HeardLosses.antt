-- Each event between two steps, where memory ran out.
use Rattle.std.proofs.Common.{◌≡◌, ℕ, zero, suc, ◌==◌, Bool, true, false, List, Option, Some, None, ◌-◌, if◌then◌else◌, refl, sym, ap, ◌∙◌, subst}
use Rattle.std.proofs.lemmas.Bool.{and_parts, false≢true}
use Rattle.host_base.specs.declared.cause.Cause.{Cause}
use Rattle.host_trace.specs.declared.items.Event.{Event}
use Rattle.host_trace.specs.declared.items.Event.TheVariants.{ClientBytes, ChildBytes, NoRoom}
use Rattle.host_trace.specs.declared.items.Item.{Item}
use Rattle.host_trace.specs.declared.items.Item.TheVariants.{In}
use Rattle.host_trace.specs.Fits.{is_asked, is_piece}
use Rattle.host_trace.specs.First.{or_else}
use Rattle.own_traces.specs.OwnFits.{fits_own}
use Rattle.child_core.specs.declared.ending.Ending.TheVariants.{Dropped}
use Rattle.child_core.specs.declared.ending.Outcome.{Outcome}
use Rattle.child_core.specs.declared.ending.Outcome.TheVariants as Ended
use Rattle.child_core.specs.Calls.{ended, is_kept}
use Rattle.child_core.specs.View.{View, by_bytes}
use Rattle.conn_flags.specs.View.{noted}
use Rattle.trace_model.specs.Exchange.{Exchange, pushed, reading}
use Rattle.trace_model.specs.Readings.{is_whole}
use Rattle.trace_model.specs.Legs.{Leg as StartedLeg}
use Rattle.exchange_request.specs.Knows.{is_looked_at}
use Rattle.exchange_stage.specs.declared.stage.Stage.{Stage}
use Rattle.exchange_stage.specs.declared.stage.Stage.TheVariants as At
use Rattle.exchange_laws.specs.Items.{noted_by}
use Rattle.child_laws.specs.Children.{dropped}
use Rattle.child_laws.specs.Heard.{body_more, last_hop, offered_by, run_heard}
use Rattle.child_laws.proofs.SpentLaws.{dropped_offered, dropped_twice}
use Rattle.http_conn.specs.HttpConn.{HttpConn}
use Rattle.http_conn.specs.Hears.{BodyBy, BreaksBy, CountsDown, EndsAt, EndsBy, FeedsBy, HearsBytes, IdlesBy, TicksBy, When, broken_if, heard_run, keeps_of, told_run}
use Rattle.http_conn.specs.Kept.{number_of, site_of}
use Rattle.http_conn.specs.Moves.{ended_run, losing}
use Rattle.http_conn.specs.Settles.{is_answered}
use Rattle.http_stage_laws.specs.HeardStages.{AtRest, HeardLost, Rested, SameAs}
use Rattle.http_stage_laws.proofs.HeardLaws.{Asked, asked, told}
use Rattle.http_stage_laws.proofs.HeardLose.{lost_by, loses_stage, noted_answered}
use Rattle.http_stage_laws.proofs.HeardQuiet.{passes, quiet_passes}
use Rattle.http_stage_laws.proofs.HeardRest.{asked_unended}

-- ---- words

or_bytes : (o : Option Outcome) (ws refused long : Bool) → or_else o (by_bytes ws refused long) ≡ Some Ended.Output → o ≡ Some Ended.Output
or_bytes (Some outcome) ws refused long e = e
or_bytes None true true long e = absurd (cc)
or_bytes None true false long e = absurd (cc)
or_bytes None false refused true e = absurd (cc)
or_bytes None false refused false e = absurd (cc)

or_dropped : (b : Bool) (v : View) → (if b then ended v Dropped else v).outcome ≡ Some Ended.Output → v.outcome ≡ Some Ended.Output
or_dropped false v e = e
or_dropped true v e = go v.outcome e
  where
    go : (o : Option Outcome) → or_else o (Some Ended.Dropped) ≡ Some Ended.Output → o ≡ Some Ended.Output
    go None is = absurd (cc)
    go (Some outcome) is = is

-- ---- memory that was not wanting before

pub breaks_lost : (cause : Cause) (b : Bool) (old new : HttpConn) → BreaksBy b cause old new → new.lost ≡ old.lost
breaks_lost cause true old new by = ap (λ (conn : HttpConn). conn.lost) by.is ∙ go by.begun
  where
    go : (b : Bool) → (broken_if b cause old).lost ≡ old.lost
    go true = refl
    go false = refl
breaks_lost cause false old new is = ap (λ (conn : HttpConn). conn.lost) is

ends_lost : (s : Stage) (old new : HttpConn) → EndsAt s old new → new.lost ≡ old.lost
ends_lost (At.Running held) old new is = ap (λ (conn : HttpConn). conn.lost) is
ends_lost At.Reading old new i = breaks_lost _ _ old new i
ends_lost (At.Rejected cause bare) old new i = breaks_lost _ _ old new i
ends_lost (At.Interrupted cause) old new i = breaks_lost _ _ old new i
ends_lost (At.Refused cause) old new i = breaks_lost _ _ old new i
ends_lost (At.Unstarted hop request) old new i = breaks_lost _ _ old new i
ends_lost (At.Starting held launch body whole) old new i = breaks_lost _ _ old new i
ends_lost (At.Finishing text closes) old new i = breaks_lost _ _ old new i
ends_lost At.Answered old new i = breaks_lost _ _ old new i
ends_lost At.Silent old new i = breaks_lost _ _ old new i

pub end_lost : (b : Bool) (old new : HttpConn) → EndsBy b old new → new.lost ≡ old.lost
end_lost true old new is = ap (λ (conn : HttpConn). conn.lost) is
end_lost false old new i = ends_lost old.stage old new i

idles_lost : (b : Bool) (old new : HttpConn) → IdlesBy b old new → new.lost ≡ old.lost
idles_lost true old new i = breaks_lost _ _ old new i
idles_lost false old new is = ap (λ (conn : HttpConn). conn.lost) is

counts_lost : (b : Bool) (old new : HttpConn) → CountsDown b old new → new.lost ≡ old.lost
counts_lost true old new i = idles_lost i.begun old new i.by
counts_lost false old new is = ap (λ (conn : HttpConn). conn.lost) is

pub ticks_lost : (b : Bool) (old new : HttpConn) → TicksBy b old new → new.lost ≡ old.lost
ticks_lost true old new i = counts_lost (old.idle_left == 1) (record old { idle_left = old.idle_left - 1 }) new i
ticks_lost false old new is = ap (λ (conn : HttpConn). conn.lost) is

pub when_lost : (By : HttpConn → HttpConn → Type 0) (b : Bool) (old new : HttpConn) → ((new : HttpConn) → By old new → new.lost ≡ old.lost) → When b By old new → new.lost ≡ old.lost
when_lost By true old new keeps by = keeps new by
when_lost By false old new keeps is = ap (λ (conn : HttpConn). conn.lost) is

pub unkept : (run : Option View) (ev : Event) → ((v : View) → is_kept v ev ≡ false) → keeps_of run ev ≡ true → ⊥
unkept None ev never keeps = absurd (false≢true keeps)
unkept (Some v) ev never keeps = absurd (false≢true (sym (never v) ∙ keeps))

module _ (old : HttpConn) (L : List Item) (e : Exchange) (legs : List StartedLeg) (next : ℕ) (rest : AtRest old L e legs next) (found : old.lost ≡ false) (rested : Rested old e legs) where
  abbrev pub FitsIn : Event → Type 0
  FitsIn ev = fits_own (site_of old).limits.children L ev ≡ true

  -- there was no room for output
  pub no_output : (k : ℕ) (bytes : List ℕ) → FitsIn (ChildBytes k bytes) → (mid : HttpConn) → mid ≡ told_run (ChildBytes k bytes) false (record old { flags = noted old.flags (In (ChildBytes k bytes)) })
      → HeardLost old mid e (ChildBytes k bytes) legs
  no_output k bytes fits mid is =
      subst (λ (conn : HttpConn). HeardLost old conn e (ChildBytes k bytes) legs) (sym is)
      (record {
        lost = lost_by old (told_run (ChildBytes k bytes) false (record old { flags = noted old.flags (In (ChildBytes k bytes)) })) (pushed e (In (ChildBytes k bytes))) legs (noted_by (In (ChildBytes k bytes)) old.stage)
            (record { site = refl; number = refl; cut = refl; closing = refl; closes = refl; continued = refl }) (sym (noted_answered (In (ChildBytes k bytes)) old.stage))
            (loses_stage old L e legs next (ChildBytes k bytes) rest fits rested false (λ v. or_bytes v.outcome _ _ _) (is_looked_at old.request)
            (quiet_passes old L e legs next (ChildBytes k bytes) rest fits rested refl (λ none. refl)));
        found = false;
        run = run_is old.run;
      })
    where
      run_is : (run : Option View) → ended_run Dropped (heard_run (ChildBytes k bytes) false run) ≡ dropped (run_heard (site_of old) (number_of old) e legs false (ChildBytes k bytes) run)
      run_is None = refl
      run_is (Some v) = refl

  -- there was none to hear the connection
  pub no_room : (d : ℕ) → FitsIn (NoRoom d) → (mid : HttpConn) → (number_of old == d) ≡ true → mid ≡ losing (told old L e legs next rest found rested (NoRoom d)) → HeardLost old mid e (NoRoom d) legs
  no_room d fits mid mine is =
      subst (λ (conn : HttpConn). HeardLost old conn e (NoRoom d) legs) (sym is)
      (record {
        lost = lost_by old (losing (told old L e legs next rest found rested (NoRoom d))) (pushed e (In (NoRoom d))) legs (noted_by (In (NoRoom d)) old.stage)
            (record { site = refl; number = refl; cut = refl; closing = refl; closes = refl; continued = refl }) (sym (noted_answered (In (NoRoom d)) old.stage))
            (loses_stage old L e legs next (NoRoom d) rest fits rested true (λ v. or_dropped (number_of old == d) v) (is_looked_at old.request)
            (quiet_passes old L e legs next (NoRoom d) rest fits rested refl (λ none. refl)));
        found = true;
        run = run_is old.run;
      })
    where
      run_is : (run : Option View) → ended_run Dropped (heard_run (NoRoom d) true run) ≡ dropped (run_heard (site_of old) (number_of old) e legs true (NoRoom d) run)
      run_is None = refl
      run_is (Some v) = ap (λ (w : View). Some w) (sym (dropped_twice v) ∙ ap (λ (b : Bool). ended (if b then ended v Dropped else v) Dropped) (sym mine))

  -- .. or for bytes of the client
  module _ (bytes : List ℕ) (fits : FitsIn (ClientBytes (number_of old) bytes)) where
    abbrev ev : Event
    ev = ClientBytes (number_of old) bytes

    ask : Asked old L e legs next rest found rested
    ask = asked old L e legs next rest found rested (and_parts (is_asked L (number_of old)) (is_piece bytes) fits).0

    unoffered : (b : Bool) (hop : ℕ) (v : View) → ended (if b then offered_by (site_of old) (number_of old) e hop (In ev) v else v) Dropped ≡ ended v Dropped
    unoffered false hop v = refl
    unoffered true zero v = dropped_offered v (body_more (site_of old) (number_of old) e (In ev)) (is_whole (reading (site_of old) (number_of old) (pushed e (In ev))))
    unoffered true (suc hop) v = refl

    same_outcome : (b : Bool) (hop : ℕ) (v : View) → (if b then offered_by (site_of old) (number_of old) e hop (In ev) v else v).outcome ≡ Some Ended.Output → v.outcome ≡ Some Ended.Output
    same_outcome false hop v is = is
    same_outcome true zero v is = is
    same_outcome true (suc hop) v is = is

    run_is : (run : Option View) → ended_run Dropped (heard_run ev true run) ≡ dropped (run_heard (site_of old) (number_of old) e legs true ev run)
    run_is None = refl
    run_is (Some v) = ap (λ (w : View). Some w) (sym (unoffered (number_of old == number_of old) (last_hop legs) v))

    lost_bytes : (mid : HttpConn) → SameAs old mid → is_answered mid.stage ≡ is_answered old.stage → mid.run ≡ ended_run Dropped (heard_run ev true old.run) → HeardLost old mid e ev legs
    lost_bytes mid same answered run = record {
      lost = lost_by old mid (pushed e (In ev)) legs (noted_by (In ev) old.stage) same (answered ∙ sym (noted_answered (In ev) old.stage))
          (loses_stage old L e legs next ev rest fits rested true (λ v. same_outcome (number_of old == number_of old) (last_hop legs) v) false
          (passes old L e legs next ev rest fits rested false (λ none. refl) (λ seen. absurd (false≢true seen)) (λ some. rested.let_on)
          (λ ended_it. absurd (asked_unended old L e legs next rest ask.wanted ended_it))));
      found = true;
      run = run ∙ run_is old.run;
    }

    by_body : (f b : Bool) (was mid : HttpConn) → mid.lost ≡ true → was.lost ≡ false → SameAs old was → was.stage ≡ old.stage → was.run ≡ heard_run ev true old.run → BodyBy b f was mid → HeardLost old mid e ev legs
    by_body f false was mid lost kept same stage run is = absurd (false≢true (sym kept ∙ (sym (ap (λ (conn : HttpConn). conn.lost) is) ∙ lost)))
    by_body true true was mid lost kept same stage run by = absurd (false≢true (sym kept ∙ (sym (ap (λ (conn : HttpConn). conn.lost) by.is) ∙ lost)))
    by_body false true was mid lost kept same stage run out =
        lost_bytes mid
        (record {
          site = ap (λ (conn : HttpConn). site_of conn) out.is ∙ same.site;
          number = ap (λ (conn : HttpConn). number_of conn) out.is ∙ same.number;
          cut = ap (λ (conn : HttpConn). conn.cut) out.is ∙ same.cut;
          closing = ap (λ (conn : HttpConn). conn.closing) out.is ∙ same.closing;
          closes = ap (λ (conn : HttpConn). conn.closes) out.is ∙ same.closes;
          continued = ap (λ (conn : HttpConn). conn.continued) out.is ∙ same.continued;
        })
        (out.answered ∙ ap is_answered stage) (ap (λ (conn : HttpConn). conn.run) out.is ∙ ap (ended_run Dropped) run)

    pub bytes_lost : (mid : HttpConn) → mid.lost ≡ true → HearsBytes bytes (told old L e legs next rest found rested ev) mid → HeardLost old mid e ev legs
    bytes_lost mid lost h = go h.fed h.by
      where
        go : (b : Bool) → FeedsBy b bytes h.found (told old L e legs next rest found rested ev) mid → HeardLost old mid e ev legs
        go false is =
            subst (λ (conn : HttpConn). HeardLost old conn e ev legs) (sym is)
            (lost_bytes (losing (record (told old L e legs next rest found rested ev) { idle_left = (site_of old).limits.idle_ticks }))
            (record { site = refl; number = refl; cut = refl; closing = refl; closes = refl; continued = refl }) refl refl)
        go true feed =
            by_body h.found _ (record (told old L e legs next rest found rested ev) { idle_left = (site_of old).limits.idle_ticks; request = feed.request }) mid lost found
            (record { site = refl; number = refl; cut = refl; closing = refl; closes = refl; continued = refl }) refl refl feed.body
