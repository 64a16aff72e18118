-- What the fields of a connection say of one another, behind an event.
use Rattle.std.proofs.Common.{◌≡◌, ℕ, Bool, true, false, List, refl, sym, ap, ◌∙◌}
use Rattle.std.proofs.lemmas.Bool.{false≢true, false_from_ne_true, or_from, true_from_ne_false}
use Rattle.host_trace.specs.declared.items.Event.{Event}
use Rattle.host_trace.specs.declared.items.Item.{Item}
use Rattle.host_trace.specs.declared.items.Item.TheVariants.{In}
use Rattle.host_trace.specs.Kinds.{is_no_room}
use Rattle.own_traces.specs.OwnFits.{fits_own}
use Rattle.request_reader.specs.Request.{is_begun}
use Rattle.trace_model.specs.Exchange.{Exchange}
use Rattle.trace_model.specs.Legs.{Leg as Started}
use Rattle.http_conn.specs.HttpConn.{HttpConn}
use Rattle.http_conn.specs.Hears.{Hears}
use Rattle.http_conn.specs.Kept.{is_reading, flags_of, number_of, site_of}
use Rattle.http_conn.specs.Settles.{is_answered}
use Rattle.http_stage_laws.specs.HeardStages.{AtRest}
use Rattle.http_stage_laws.specs.Inward.{Inward, is_running}
use Rattle.http_stage_laws.proofs.HeardBreaks.{begun_is}
use Rattle.good_step_laws.proofs.Events.OutlineWords.{same_reading, same_running}
use Rattle.good_step_laws.proofs.Events.OwnLaws.{IdledBy, StageBy, broken, calm, idles, kept, lacked}
use Rattle.good_step_laws.proofs.Events.RestWords.{begun_tells, busy, rested}
use Rattle.good_step_laws.proofs.Events.BehindWords.{accepted_lost, found_before, has_room, keeps, more_accepted, own, same_whole}
use Rattle.good_step_laws.proofs.Events.HeardRunLaws.{cut_then, decided_then, held_then, left_then, stays_then}
use Rattle.good_step_laws.proofs.Events.ClientLaws.{asked_then, past_then, within_then}

module _ (old : HttpConn) (L : List Item) (e : Exchange) (legs : List Started) (next : ℕ) (ev : Event) (rest : AtRest old L e legs next)
    (fits : fits_own (site_of old).limits.children L ev ≡ true) (new : HttpConn) (h : Hears old ev new) where
  calm_then : h.mid.idled ≡ true → is_answered h.mid.stage ≡ false
  calm_then idle = (same_whole old L e legs next ev rest fits new h) ∙ go (own old L e legs next ev rest fits new h).idled
    where
      go : IdledBy ev old h.mid → is_answered old.stage ≡ false
      go (calm same) = rest.inward.calm (sym same ∙ idle)
      go (idles i) = false_from_ne_true (is_answered old.stage) (λ answered. false≢true (sym (busy old L e legs next rest answered) ∙ i.settled))

  calm_found_then : h.mid.lost ≡ false → h.mid.idled ≡ true → is_running h.mid.stage ≡ false
  calm_found_then f idle = by_stage (own old L e legs next ev rest fits new h).stage (by_idled (own old L e legs next ev rest fits new h).idled)
    where
      by_idled : IdledBy ev old h.mid → is_running old.stage ≡ false
      by_idled (calm same) = rest.inward.calm_found (found_before old L e legs next ev rest fits new h f) (sym same ∙ idle)
      by_idled (idles i) = false_from_ne_true (is_running old.stage) (λ running. false≢true (begun_tells old L e legs next rest (found_before old L e legs next ev rest fits new h f) running false i.tells))

      by_stage : StageBy old h.mid → is_running old.stage ≡ false → is_running h.mid.stage ≡ false
      by_stage (kept same) still = same_running old.stage h.mid.stage same ∙ still
      by_stage (broken b) still = ap is_running b.at
      by_stage (lacked lost same) still = absurd (false≢true (sym f ∙ lost))

  accepted_then : is_reading h.mid.stage ≡ false → (flags_of h.mid).accepted ≡ true
  accepted_then away = go (flags_of old).accepted refl
    where
      go : (b : Bool) → (flags_of old).accepted ≡ b → (flags_of h.mid).accepted ≡ true
      go true is = more_accepted old L e legs next ev rest fits new h is
      go false none = absurd (by_stage (own old L e legs next ev rest fits new h).stage)
        where
          found : old.lost ≡ false
          found = false_from_ne_true old.lost (λ lost. false≢true (sym none ∙ rest.inward.lost_in lost))

          reads : is_reading old.stage ≡ true
          reads = true_from_ne_false (is_reading old.stage) (λ other. false≢true (sym none ∙ rest.inward.accepted other))

          by_stage : StageBy old h.mid → ⊥
          by_stage (kept same) = false≢true (sym away ∙ (same_reading old.stage h.mid.stage same ∙ reads))
          by_stage (lacked lost same) = false≢true (sym none ∙ accepted_lost old L e legs next ev rest fits new h lost)
          by_stage (broken b) =
              false≢true (sym (ap is_begun (rest.unheard none).0) ∙ sym (begun_is old L e legs next rest found (rested old L e legs next rest found) b.unshut true b.tells))

  pub http_then : (flags_of h.mid).upgraded ≡ false
  http_then = ap (λ m. m.upgraded) (keeps old L e legs next ev rest fits new h).flags ∙ rest.inward.http

  closes_then : h.mid.closes ≡ true → is_answered h.mid.stage ≡ true
  closes_then is = (same_whole old L e legs next ev rest fits new h) ∙ rest.inward.closes_is (sym (keeps old L e legs next ev rest fits new h).same.closes ∙ is)

  room_then : h.mid.lost ≡ false → (flags_of h.mid).no_room ≡ false
  room_then f = ap (λ m. m.no_room) (keeps old L e legs next ev rest fits new h).flags ∙ or_from (is_no_room (number_of old) (In ev)) (flags_of old).no_room (has_room old L e legs next ev rest fits new h f) (rest.inward.room (found_before old L e legs next ev rest fits new h f))

  pub inward_then : Inward h.mid
  inward_then = record {
    calm = calm_then;
    calm_found = calm_found_then;
    accepted = accepted_then;
    http = http_then;
    lost_in = λ lost. more_accepted old L e legs next ev rest fits new h (accepted_lost old L e legs next ev rest fits new h lost);
    decided = decided_then old L e legs next ev rest fits new h;
    left = left_then old L e legs next ev rest fits new h;
    cut_is = cut_then old L e legs next ev rest fits new h;
    held = held_then old L e legs next ev rest fits new h;
    stays = λ f unshut is answered. stays_then old L e legs next ev rest fits new h f unshut answered is;
    closes_is = closes_then;
    room = room_then;
    asked = asked_then old L e legs next ev rest fits new h;
    within = within_then old L e legs next ev rest fits new h;
    past = past_then old L e legs next ev rest fits new h;
  }
