-- The client of a connection was asked, or ended its input, behind an event.
use Rattle.std.proofs.Common.{◌≡◌, ℕ, ◌==◌, Bool, true, false, ◌&&◌, ◌||◌, not, List, Option, refl, sym, ap, ◌∙◌, subst}
use Rattle.std.proofs.lemmas.Bool.{and_parts, eqb-true, false≢true, false_from_ne_true, not-true, or_from, or_left, or_parts}
use Rattle.host_trace.specs.declared.items.Event.{Event}
use Rattle.host_trace.specs.declared.items.Event.TheVariants.{ClientBytes, ClientEof}
use Rattle.host_trace.specs.declared.items.Item.{Item}
use Rattle.host_trace.specs.declared.items.Item.TheVariants.{In}
use Rattle.host_trace.specs.Fits.{is_asked, is_piece}
use Rattle.host_trace.specs.Kinds.{is_client_answer, is_client_bytes, is_client_eof, is_ws_bad, is_ws_binary, is_ws_closed, is_ws_text}
use Rattle.host_trace.specs.Projections.{client_wanted, shut, upgraded}
use Rattle.own_traces.specs.OwnFits.{fits_own}
use Rattle.child_core.specs.View.{View}
use Rattle.trace_model.specs.Exchange.{Exchange}
use Rattle.trace_model.specs.Legs.{Leg as Started}
use Rattle.exchange_request.specs.Knows.{is_looked_at, is_taken}
use Rattle.exchange_request.specs.declared.incoming.Incoming.{Incoming}
use Rattle.exchange_stage.specs.declared.stage.Stage.{Stage}
use Rattle.http_conn.specs.HttpConn.{HttpConn}
use Rattle.http_conn.specs.Hears.{Hears}
use Rattle.http_conn.specs.Kept.{is_reading, flags_of, number_of, site_of}
use Rattle.http_stage_laws.specs.HeardStages.{AtRest}
use Rattle.http_stage_laws.specs.Inward.{IsDecided, IsPast, IsWithin}
use Rattle.http_stage_laws.proofs.HeardRest.{says}
use Rattle.good_step_laws.proofs.Events.EofLaws.{eof_past}
use Rattle.good_step_laws.proofs.Events.OutlineWords.{outline, past_kept, same_reading}
use Rattle.good_step_laws.proofs.Events.OwnLaws.{StageBy, broken, kept, lacked}
use Rattle.good_step_laws.proofs.Events.RunWords.{decided_heard}
use Rattle.good_step_laws.proofs.Events.BehindWords.{found_before, keeps, more_accepted, own, shut_same, well}

-- an event that doesn't answer its client's question is no end of its input
no_eof : (c : ℕ) (x : Item) → is_client_answer c x ≡ false → is_client_eof c x ≡ false
no_eof c x none =
    let p = or_parts (is_client_bytes c x || is_client_eof c x || is_ws_text c x || is_ws_binary c x || is_ws_closed c x) (is_ws_bad c x) none in
    let q = or_parts (is_client_bytes c x || is_client_eof c x || is_ws_text c x || is_ws_binary c x) (is_ws_closed c x) p.0 in
    let r = or_parts (is_client_bytes c x || is_client_eof c x || is_ws_text c x) (is_ws_binary c x) q.0 in
    let s = or_parts (is_client_bytes c x || is_client_eof c x) (is_ws_text c x) r.0 in
    (or_parts (is_client_bytes c x) (is_client_eof c x) s.0).1

bytes_answer : (c : ℕ) (x : Item) → is_client_bytes c x ≡ true → is_client_answer c x ≡ true
bytes_answer c x is =
    or_left _ (is_ws_bad c x) (or_left _ (is_ws_closed c x) (or_left _ (is_ws_binary c x) (or_left _ (is_ws_text c x) (or_left (is_client_bytes c x) (is_client_eof c x) is))))

before : (a o x d : Bool) → x ≡ false → ((a && o) || (x || d)) ≡ true → (o || d) ≡ true
before true o false d none is = is
before false true false d none is = refl
before false false false d none is = is
before a o true d none is = absurd (false≢true (sym none))

module _ (old : HttpConn) (L : List Item) (e : Exchange) (legs : List Started) (next : ℕ) (ev : Event) (rest : AtRest old L e legs next)
    (fits : fits_own (site_of old).limits.children L ev ≡ true) (new : HttpConn) (h : Hears old ev new) where
  asked_is : (flags_of h.mid).asked ≡ (not (is_client_answer (number_of old) (In ev)) && (flags_of old).asked)
  asked_is = ap (λ m. m.asked) (keeps old L e legs next ev rest fits new h).flags

  ended_is : (flags_of h.mid).ended ≡ (is_client_eof (number_of old) (In ev) || (flags_of old).ended)
  ended_is = ap (λ m. m.ended) (keeps old L e legs next ev rest fits new h).flags

  pub asked_then : (flags_of h.mid).asked ≡ true → ((flags_of h.mid).accepted ≡ true) × ((flags_of h.mid).ended ≡ false)
  asked_then is =
      let parts = and_parts (not (is_client_answer (number_of old) (In ev))) (flags_of old).asked (sym asked_is ∙ is) in
      let was = rest.inward.asked parts.1 in
      (more_accepted old L e legs next ev rest fits new h was.0, ended_is ∙ or_from _ _ (no_eof (number_of old) (In ev) (not-true (is_client_answer (number_of old) (In ev)) parts.0)) was.1)

  asked_before : (d : ℕ) → is_asked L d ≡ true → (number_of old == d) ≡ true → (flags_of old).asked ≡ true
  asked_before d fit mine =
      (says old L e legs next rest).asked
      ∙ (ap (λ (k : ℕ). client_wanted L k) (eqb-true (number_of old) d mine) ∙ (and_parts (not (shut L d) && not (upgraded L d)) (client_wanted L d) fit).1)

  eof_asked : (x : Event) → fits_own (site_of old).limits.children L x ≡ true → is_client_eof (number_of old) (In x) ≡ true → (flags_of old).asked ≡ true
  eof_asked (ClientEof d) fit mine = asked_before d fit mine
  eof_asked x fit mine = absurd (false≢true mine)

  pub bytes_asked : (x : Event) → fits_own (site_of old).limits.children L x ≡ true → is_client_bytes (number_of old) (In x) ≡ true → ((flags_of old).asked ≡ true) × (is_client_eof (number_of old) (In x) ≡ false)
  bytes_asked (ClientBytes d bytes) fit mine = (asked_before d (and_parts (is_asked L d) (is_piece bytes) fit).0 mine, refl)
  bytes_asked x fit mine = absurd (false≢true mine)

  -- bytes of the client came where it was asked, and now it isn't
  quiet_then : ((flags_of h.mid).asked || (flags_of h.mid).ended) ≡ true → is_client_bytes (number_of old) (In ev) ≡ false
  quiet_then is = false_from_ne_true (is_client_bytes (number_of old) (In ev)) (λ bytes.
      let was = bytes_asked ev fits bytes in
      let answers : is_client_answer (number_of old) (In ev) ≡ true = bytes_answer (number_of old) (In ev) bytes in
      let unasked : (flags_of h.mid).asked ≡ false = asked_is ∙ ap (λ (b : Bool). not b && (flags_of old).asked) answers in
      let unended : (flags_of h.mid).ended ≡ false = ended_is ∙ or_from _ _ was.1 (rest.inward.asked was.0).1 in
      false≢true (sym (or_from _ _ unasked unended) ∙ is))

  pub within_then : h.mid.lost ≡ false → h.mid.closing ≡ false → ((flags_of h.mid).asked || (flags_of h.mid).ended) ≡ true → IsWithin h.mid
  within_then f open_yet is =
      let same : h.mid.request ≡ old.request = (own old L e legs next ev rest fits new h).request (quiet_then is) in
      let was : IsWithin old = rest.inward.within (found_before old L e legs next ev rest fits new h f) (sym (keeps old L e legs next ev rest fits new h).same.closing ∙ open_yet) (by_eof (is_client_eof (number_of old) (In ev)) refl) in
      record { untaken = ap (λ (i : Incoming). is_taken i) same ∙ was.untaken; looked = λ reads. ap (λ (i : Incoming). is_looked_at i) same ∙ was.looked (by_stage (own old L e legs next ev rest fits new h).stage reads) }
    where
      by_eof : (b : Bool) → is_client_eof (number_of old) (In ev) ≡ b → ((flags_of old).asked || (flags_of old).ended) ≡ true
      by_eof true eof = or_left (flags_of old).asked (flags_of old).ended (eof_asked ev fits eof)
      by_eof false none =
          before (not (is_client_answer (number_of old) (In ev))) (flags_of old).asked (is_client_eof (number_of old) (In ev)) (flags_of old).ended none
          (sym (ap (λ (b : Bool). b || (flags_of h.mid).ended) asked_is ∙ ap (λ (b : Bool). (not (is_client_answer (number_of old) (In ev)) && (flags_of old).asked) || b) ended_is) ∙ is)

      by_stage : StageBy old h.mid → is_reading h.mid.stage ≡ true → is_reading old.stage ≡ true
      by_stage (kept same) reads = sym (same_reading old.stage h.mid.stage same) ∙ reads
      by_stage (broken b) reads = absurd (false≢true (sym (ap is_reading b.at) ∙ reads))
      by_stage (lacked lost same) reads = absurd (false≢true (sym f ∙ lost))

  pub past_then : h.mid.lost ≡ false → h.mid.closing ≡ false → (flags_of h.mid).shut ≡ false → (flags_of h.mid).ended ≡ true → IsPast h.mid.stage h.mid.run
  past_then f open_yet unshut is = by_stage (own old L e legs next ev rest fits new h).stage
    where
      closing : old.closing ≡ false
      closing = sym (keeps old L e legs next ev rest fits new h).same.closing ∙ open_yet

      keeps_decided : IsDecided old.run → IsDecided h.mid.run
      keeps_decided d = subst (λ (r : Option View). IsDecided r) (sym (well old L e legs next ev rest fits new h f).run) (decided_heard (site_of old) (number_of old) e legs true ev old.run d)

      by_eof : outline h.mid.stage ≡ outline old.stage → (b : Bool) → is_client_eof (number_of old) (In ev) ≡ b → IsPast h.mid.stage h.mid.run
      by_eof same false none =
          past_kept old.stage h.mid.stage old.run h.mid.run same keeps_decided
          (rest.inward.past (found_before old L e legs next ev rest fits new h f) closing (sym (shut_same old L e legs next ev rest fits new h) ∙ unshut) (sym (ended_is ∙ ap (λ (b : Bool). b || (flags_of old).ended) none) ∙ is))
      by_eof same true eof =
          past_kept old.stage h.mid.stage h.mid.run h.mid.run same (λ d. d)
          (eof_past old L e legs next rest (found_before old L e legs next ev rest fits new h f) ev new h (sym (shut_same old L e legs next ev rest fits new h) ∙ unshut)
          (rest.inward.within (found_before old L e legs next ev rest fits new h f) closing (or_left (flags_of old).asked (flags_of old).ended (eof_asked ev fits eof))).untaken eof same)

      by_stage : StageBy old h.mid → IsPast h.mid.stage h.mid.run
      by_stage (kept same) = by_eof same (is_client_eof (number_of old) (In ev)) refl
      by_stage (broken b) = subst (λ (s : Stage). IsPast s h.mid.run) (sym b.at) tt
      by_stage (lacked lost same) = absurd (false≢true (sym f ∙ lost))
