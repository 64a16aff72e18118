-- What is known behind an event, before its exchange is taken for ended.
use Rattle.std.proofs.Common.{◌≡◌, ℕ, ◌==◌, Bool, true, false, ◌&&◌, ◌||◌, not, List, refl, sym, ap, ◌∙◌}
use Rattle.std.proofs.lemmas.Bool.{and_parts, eqb-true, false≢true, false_from_ne_true, or_right}
use Rattle.host_trace.specs.declared.items.Event.{Event}
use Rattle.host_trace.specs.declared.items.Event.TheVariants.{WsBinary}
use Rattle.host_trace.specs.declared.items.Item.{Item}
use Rattle.host_trace.specs.declared.items.Item.TheVariants.{In}
use Rattle.host_trace.specs.Kinds.{is_accepted, is_client_gone, is_no_room, is_stop, is_ws_bad, is_ws_binary}
use Rattle.host_trace.specs.Projections.{client_wanted, shut, upgraded}
use Rattle.own_traces.specs.OwnFits.{fits_own}
use Rattle.trace_model.specs.Exchange.{Exchange}
use Rattle.trace_model.specs.Legs.{Leg as Started}
use Rattle.http_conn.specs.HttpConn.{HttpConn}
use Rattle.http_conn.specs.Hears.{Hears, told_run}
use Rattle.http_conn.specs.Kept.{flags_of, number_of, site_of}
use Rattle.http_conn.specs.Settles.{is_answered}
use Rattle.http_stage_laws.specs.HeardStages.{AtRest, HeardLost, HeardStill, HeardWell, KeepsRest}
use Rattle.http_stage_laws.proofs.HeardEvents.{events_are_staged}
use Rattle.http_stage_laws.proofs.HeardKeeps.{events_keep}
use Rattle.http_stage_laws.proofs.HeardLoss.{events_lose}
use Rattle.http_stage_laws.proofs.HeardStays.{events_stay_lost}
use Rattle.good_step_laws.proofs.Events.LostWords.{newly_live, no_room_lost}
use Rattle.good_step_laws.proofs.Events.HeedLaws.{heeds}
use Rattle.good_step_laws.proofs.Events.OwnLaws.{Own, answered_by}

lost_told : (old : HttpConn) (ev : Event) (found : Bool) → old.lost ≡ true → (told_run ev found old).lost ≡ true
lost_told old ev true lost = lost
lost_told old ev false lost = refl

module _ (old : HttpConn) (L : List Item) (e : Exchange) (legs : List Started) (next : ℕ) (ev : Event) (rest : AtRest old L e legs next)
    (fits : fits_own (site_of old).limits.children L ev ≡ true) (new : HttpConn) (h : Hears old ev new) where
  pub keeps : KeepsRest old ev h.mid
  keeps = events_keep old new ev h

  pub own : Own ev old h.mid
  own = heeds old new ev h

  pub same_whole : is_answered h.mid.stage ≡ is_answered old.stage
  same_whole = answered_by old h.mid own.stage

  pub shut_same : (flags_of h.mid).shut ≡ (flags_of old).shut
  shut_same = ap (λ m. m.shut) keeps.flags

  pub more_accepted : (flags_of old).accepted ≡ true → (flags_of h.mid).accepted ≡ true
  more_accepted is = ap (λ m. m.accepted) keeps.flags ∙ or_right (is_accepted (In ev)) (flags_of old).accepted is

  pub found_before : h.mid.lost ≡ false → old.lost ≡ false
  found_before f = false_from_ne_true old.lost (λ lost. false≢true (sym f ∙ h.lasts (lost_told old ev h.found lost)))

  pub well : (f : h.mid.lost ≡ false) → HeardWell old h.mid e ev legs
  well f = events_are_staged old new L e legs next ev rest fits (found_before f) h f

  pub lost_now : old.lost ≡ false → h.mid.lost ≡ true → HeardLost old h.mid e ev legs
  lost_now found lost = events_lose old new L e legs next ev rest fits found h lost

  pub lost_still : old.lost ≡ true → HeardStill old h.mid e ev legs
  lost_still lost = (events_stay_lost old new L e legs next ev rest fits lost h).1

  -- what was lost belongs to a connection that was accepted
  pub accepted_lost : h.mid.lost ≡ true → (flags_of old).accepted ≡ true
  accepted_lost lost = go old.lost refl
    where
      go : (b : Bool) → old.lost ≡ b → (flags_of old).accepted ≡ true
      go true is = rest.inward.lost_in is
      go false found = (and_parts (flags_of old).accepted (not (flags_of old).shut) (newly_live old L e legs next rest found ev new fits h lost)).0

  -- a connection that speaks HTTP hears no frame
  pub no_binary : (x : Event) → fits_own (site_of old).limits.children L x ≡ true → is_ws_binary (number_of old) (In x) ≡ false
  no_binary (WsBinary d) fit = false_from_ne_true (number_of old == d) (λ mine.
      let parts = and_parts (not (shut L d) && upgraded L d) (client_wanted L d) fit in
      false≢true (sym rest.inward.http ∙ (rest.flags.upgraded ∙ (ap (λ (k : ℕ). upgraded L k) (eqb-true (number_of old) d mine) ∙ (and_parts (not (shut L d)) (upgraded L d) parts.0).1))))
  no_binary x fit = refl

  pub has_room : h.mid.lost ≡ false → is_no_room (number_of old) (In ev) ≡ false
  has_room f = false_from_ne_true (is_no_room (number_of old) (In ev)) (λ is. false≢true (sym f ∙ no_room_lost old new ev h is))

  pub stopped_is : (flags_of h.mid).stopped ≡ (is_stop (In ev) || (flags_of old).stopped)
  stopped_is = ap (λ m. m.stopped) keeps.flags

  pub gone_is : (flags_of h.mid).gone ≡ ((is_client_gone (number_of old) (In ev) || is_ws_bad (number_of old) (In ev)) || (flags_of old).gone)
  gone_is = ap (λ m. m.gone) keeps.flags

  pub ends_is : ((flags_of h.mid).stopped || (flags_of h.mid).gone)
      ≡ ((is_stop (In ev) || (flags_of old).stopped) || ((is_client_gone (number_of old) (In ev) || is_ws_bad (number_of old) (In ev)) || (flags_of old).gone))
  ends_is = ap (λ (b : Bool). b || (flags_of h.mid).gone) stopped_is ∙ ap (λ (b : Bool). (is_stop (In ev) || (flags_of old).stopped) || b) gone_is
