-- What the child of a connection came to, behind an event.
use Rattle.std.proofs.Common.{◌≡◌, ℕ, Bool, true, false, ◌||◌, not, List, Option, Some, None, is_some, refl, sym, ap, ◌∙◌, subst}
use Rattle.std.proofs.lemmas.Bool.{and_from, false≢true, or_parts}
use Rattle.host_base.specs.declared.cause.Cause.{Cause}
use Rattle.host_trace.specs.declared.items.Event.{Event}
use Rattle.host_trace.specs.declared.items.Item.{Item}
use Rattle.host_trace.specs.declared.items.Item.TheVariants.{In}
use Rattle.host_trace.specs.Kinds.{is_client_gone, is_stop, is_ws_bad}
use Rattle.own_traces.specs.OwnFits.{fits_own}
use Rattle.child_core.specs.declared.ending.Outcome.{Outcome}
use Rattle.child_core.specs.View.{View}
use Rattle.trace_model.specs.Exchange.{Exchange}
use Rattle.trace_model.specs.Legs.{Leg as Started}
use Rattle.conn_flags.specs.View.{is_live}
use Rattle.child_laws.specs.Heard.{last_hop, run_heard}
use Rattle.http_conn.specs.HttpConn.{HttpConn}
use Rattle.http_conn.specs.Hears.{Hears}
use Rattle.http_conn.specs.Kept.{flags_of, number_of, site_of}
use Rattle.http_conn.specs.Ready.{outcome_of_run}
use Rattle.http_conn.specs.Settles.{is_answered}
use Rattle.http_conn.specs.Slot.{run_settled}
use Rattle.http_stage_laws.specs.HeardStages.{AtRest}
use Rattle.http_stage_laws.specs.Inward.{CutBy, CutIs, IsDecided, StaysRun, is_left, is_running}
use Rattle.http_step_laws.proofs.EndsLaws.{Steady}
use Rattle.good_step_laws.proofs.Events.OutlineWords.{CutAt, answered_away, at_cut, cut_at, is_silent, same_running, same_silent, silent_still, untouched_speaks}
use Rattle.good_step_laws.proofs.Events.OwnLaws.{StageBy, broken, kept, lacked}
use Rattle.good_step_laws.proofs.Events.RestWords.{busy, going_now, stays_now}
use Rattle.good_step_laws.proofs.Events.RunWords.{decided_dropped, decided_heard, decided_stays, ends, left_ends, same_outcome, settled_alike, stays_heard}
use Rattle.good_step_laws.proofs.Events.BehindWords.{ends_is, found_before, has_room, keeps, lost_now, lost_still, no_binary, own, same_whole, shut_same, well}

more_ends : (x a y b : Bool) → (a || b) ≡ true → ((x || a) || (y || b)) ≡ true
more_ends true a y b is = refl
more_ends false true y b is = refl
more_ends false false true b is = refl
more_ends false false false b is = is

now_ends : (x a y b : Bool) → (x || y) ≡ true → ((x || a) || (y || b)) ≡ true
now_ends true a y b is = refl
now_ends false true y b is = refl
now_ends false false true b is = refl
now_ends false false false b is = absurd (false≢true is)

ends_now : (x a y b : Bool) → a ≡ false → b ≡ false → ((x || a) || (y || b)) ≡ true → (x || y) ≡ true
ends_now true a y b p q is = refl
ends_now false a true b p q is = refl
ends_now false true y b p q is = absurd (false≢true (sym p))
ends_now false false false true p q is = absurd (false≢true (sym q))
ends_now false false false false p q is = is

none_decided : (run : Option View) → is_some run ≡ false → IsDecided run
none_decided None none = tt
none_decided (Some v) none = absurd (false≢true (sym none))

module _ (old : HttpConn) (L : List Item) (e : Exchange) (legs : List Started) (next : ℕ) (ev : Event) (rest : AtRest old L e legs next)
    (fits : fits_own (site_of old).limits.children L ev ≡ true) (new : HttpConn) (h : Hears old ev new) where
  pub decided_before : (f : h.mid.lost ≡ false) → is_running h.mid.stage ≡ false → IsDecided old.run
  decided_before f still = go (own old L e legs next ev rest fits new h).stage
    where
      go : StageBy old h.mid → IsDecided old.run
      go (kept same) = rest.inward.decided (found_before old L e legs next ev rest fits new h f) (sym (same_running old.stage h.mid.stage same) ∙ still)
      go (broken b) = none_decided old.run b.none
      go (lacked lost same) = absurd (false≢true (sym f ∙ lost))

  pub decided_then : h.mid.lost ≡ false → is_running h.mid.stage ≡ false → IsDecided h.mid.run
  decided_then f still =
      subst (λ (r : Option View). IsDecided r) (sym (well old L e legs next ev rest fits new h f).run) (decided_heard (site_of old) (number_of old) e legs true ev old.run (decided_before f still))

  pub left_then : h.mid.lost ≡ false → is_left (outcome_of_run h.mid.run) ≡ true → ((flags_of h.mid).stopped || (flags_of h.mid).gone) ≡ true
  left_then f is = (ends_is old L e legs next ev rest fits new h) ∙ by_run old.run refl (sym (ap (λ (r : Option View). is_left (outcome_of_run r)) (well old L e legs next ev rest fits new h f).run) ∙ is)
    where
      by_run : (run : Option View) → old.run ≡ run → is_left (outcome_of_run (run_heard (site_of old) (number_of old) e legs true ev run)) ≡ true
          → ((is_stop (In ev) || (flags_of old).stopped) || ((is_client_gone (number_of old) (In ev) || is_ws_bad (number_of old) (In ev)) || (flags_of old).gone)) ≡ true
      by_run None none left = absurd (false≢true left)
      by_run (Some v) some left = by_outcome v.outcome refl
        where
          by_outcome : (o : Option Outcome) → v.outcome ≡ o
              → ((is_stop (In ev) || (flags_of old).stopped) || ((is_client_gone (number_of old) (In ev) || is_ws_bad (number_of old) (In ev)) || (flags_of old).gone)) ≡ true
          by_outcome (Some o) at =
              more_ends (is_stop (In ev)) (flags_of old).stopped (is_client_gone (number_of old) (In ev) || is_ws_bad (number_of old) (In ev)) (flags_of old).gone
              (rest.inward.left (found_before old L e legs next ev rest fits new h f)
              (ap (λ (r : Option View). is_left (outcome_of_run r)) some ∙ (ap is_left at ∙ (sym (ap is_left (decided_stays (site_of old) (number_of old) e (last_hop legs) true v o at ev)) ∙ left))))
          by_outcome None at =
              now_ends (is_stop (In ev)) (flags_of old).stopped (is_client_gone (number_of old) (In ev) || is_ws_bad (number_of old) (In ev)) (flags_of old).gone
              (left_ends (site_of old) (number_of old) e (last_hop legs) true v at ev (no_binary old L e legs next ev rest fits new h ev fits) (has_room old L e legs next ev rest fits new h f) left)

  pub cut_then : h.mid.lost ≡ false → CutIs h.mid.stage (outcome_of_run h.mid.run) h.mid.cut
  cut_then f = at_cut h.mid.stage (outcome_of_run h.mid.run) h.mid.cut (by_stage (own old L e legs next ev rest fits new h).stage)
    where
      was : CutAt (is_silent old.stage) (outcome_of_run old.run) old.cut
      was = cut_at old.stage (outcome_of_run old.run) old.cut (rest.inward.cut_is (found_before old L e legs next ev rest fits new h f))

      silent_cut : is_silent old.stage ≡ true → CutBy (outcome_of_run old.run) old.cut → CutBy (outcome_of_run h.mid.run) h.mid.cut
      silent_cut silent by =
          let outcome : outcome_of_run h.mid.run ≡ outcome_of_run old.run =
          ap outcome_of_run (well old L e legs next ev rest fits new h f).run
          ∙ same_outcome (site_of old) (number_of old) e legs true ev old.run (rest.inward.decided (found_before old L e legs next ev rest fits new h f) (silent_still old.stage silent)) in
          subst (λ (o : Option Outcome). CutBy o h.mid.cut) (sym outcome) (subst (λ (c : Option Cause). CutBy (outcome_of_run old.run) c) (sym (keeps old L e legs next ev rest fits new h).same.cut) by)

      go : (b : Bool) → is_silent old.stage ≡ b → CutAt b (outcome_of_run old.run) old.cut → CutAt b (outcome_of_run h.mid.run) h.mid.cut
      go true silent by = silent_cut silent by
      go false other none = (keeps old L e legs next ev rest fits new h).same.cut ∙ none

      uncut : is_silent old.stage ≡ false → h.mid.cut ≡ None
      uncut other = (keeps old L e legs next ev rest fits new h).same.cut ∙ subst (λ (b : Bool). CutAt b (outcome_of_run old.run) old.cut) other was

      by_stage : StageBy old h.mid → CutAt (is_silent h.mid.stage) (outcome_of_run h.mid.run) h.mid.cut
      by_stage (kept same) =
          subst (λ (b : Bool). CutAt b (outcome_of_run h.mid.run) h.mid.cut) (sym (same_silent old.stage h.mid.stage same)) (go (is_silent old.stage) refl was)
      by_stage (broken b) =
          subst (λ (x : Bool). CutAt x (outcome_of_run h.mid.run) h.mid.cut) (sym (ap is_silent b.at)) (uncut (untouched_speaks old.stage b.untouched))
      by_stage (lacked lost same) = absurd (false≢true (sym f ∙ lost))

  pub held_then : (flags_of h.mid).shut ≡ true → IsDecided h.mid.run
  held_then is = by_lost h.mid.lost refl
    where
      was : IsDecided old.run
      was = rest.inward.held (sym (shut_same old L e legs next ev rest fits new h) ∙ is)

      by_before : h.mid.lost ≡ true → (b : Bool) → old.lost ≡ b → IsDecided h.mid.run
      by_before lost true before = subst (λ (r : Option View). IsDecided r) (sym (lost_still old L e legs next ev rest fits new h before).run) (decided_heard (site_of old) (number_of old) e legs true ev old.run was)
      by_before lost false found =
          let l = lost_now old L e legs next ev rest fits new h found lost in
          subst (λ (r : Option View). IsDecided r) (sym l.run) (decided_dropped (run_heard (site_of old) (number_of old) e legs l.found ev old.run))

      by_lost : (b : Bool) → h.mid.lost ≡ b → IsDecided h.mid.run
      by_lost true lost = by_before lost old.lost refl
      by_lost false f = subst (λ (r : Option View). IsDecided r) (sym (well old L e legs next ev rest fits new h f).run) (decided_heard (site_of old) (number_of old) e legs true ev old.run was)

  module _ (f : h.mid.lost ≡ false) (unshut : (flags_of h.mid).shut ≡ false) (answered : is_answered h.mid.stage ≡ true) where
    answered_before : is_answered old.stage ≡ true
    answered_before = sym (same_whole old L e legs next ev rest fits new h) ∙ answered

    live : is_live (flags_of old) ≡ true
    live =
        and_from (flags_of old).accepted (not (flags_of old).shut) (rest.inward.accepted (answered_away old.stage answered_before))
        (ap not (sym (shut_same old L e legs next ev rest fits new h) ∙ unshut))

    -- then it is with this event
    ends_by_it : ((flags_of h.mid).stopped || (flags_of h.mid).gone) ≡ true → ends (number_of old) ev ≡ true
    ends_by_it is =
        let g = going_now old L e legs next rest (found_before old L e legs next ev rest fits new h f) live in
        ends_now (is_stop (In ev)) (flags_of old).stopped (is_client_gone (number_of old) (In ev) || is_ws_bad (number_of old) (In ev)) (flags_of old).gone g.unstopped g.here (sym (ends_is old L e legs next ev rest fits new h) ∙ is)

    pub stays_then : ((flags_of h.mid).stopped || (flags_of h.mid).gone) ≡ true → StaysRun h.mid.run
    stays_then is =
        subst (λ (r : Option View). StaysRun r) (sym (well old L e legs next ev rest fits new h f).run)
        (stays_heard (site_of old) (number_of old) e legs true ev old.run (ends_by_it is) (stays_now old L e legs next rest (found_before old L e legs next ev rest fits new h f) answered_before))

    -- .. and the exchange doesn't end with it
    pub steady_then : run_settled h.mid.run ≡ true → Steady h.mid
    steady_then settled = go ((flags_of h.mid).stopped || (flags_of h.mid).gone) refl
      where
        go : (b : Bool) → ((flags_of h.mid).stopped || (flags_of h.mid).gone) ≡ b → Steady h.mid
        go false none = let both = or_parts (flags_of h.mid).stopped (flags_of h.mid).gone none in record { unstopped = both.0; here = both.1 }
        go true is =
            let same : run_settled h.mid.run ≡ run_settled old.run = ap run_settled (well old L e legs next ev rest fits new h f).run ∙ settled_alike (site_of old) (number_of old) e legs true ev old.run (ends_by_it is) in
            absurd (false≢true (sym (busy old L e legs next rest answered_before) ∙ (sym same ∙ settled)))
