-- A connection that speaks HTTP goes on to.
use Rattle.std.proofs.Common.{◌≡◌, ℕ, Bool, true, false, List, [], refl, sym, ap, subst, ◌∙◌, append-nil, arith, inl, inr}
use Rattle.std.specs.Prelude.{◌||◌, ◌&&◌, ◌==◌, not}
use Rattle.std.specs.List.{list_any}
use Rattle.std.proofs.lemmas.Bool.{cases_Bool, and_parts, eqb-true, false≢true, true≢false, or_parts}
use Rattle.host_base.specs.declared.site.Site.{Site}
use Rattle.host_trace.specs.declared.items.Act.{Act}
use Rattle.host_trace.specs.declared.items.Act.TheVariants.{WantClient, Write, Shut, Start, Feed, EndInput, WantChild, Kill, Release, Upgrade, Says, CloseWs}
use Rattle.host_trace.specs.declared.items.Event.{Event}
use Rattle.host_trace.specs.declared.items.Event.TheVariants.{ClientBytes, WsText, WsClosed}
use Rattle.host_trace.specs.declared.items.Item.{Item}
use Rattle.host_trace.specs.declared.items.Item.TheVariants.{In, Out}
use Rattle.host_trace.specs.Fits.{is_asked_upgraded}
use Rattle.host_trace.specs.Kinds.{bytes_heard, is_client_answer, is_client_bytes, is_upgrade, is_want_client}
use Rattle.host_trace.specs.Projections.{client_wanted, shut, upgraded}
use Rattle.own_traces.specs.OwnFits.{fits_own}
use Rattle.trace_model.specs.Exchange.{Exchange, all_of, pushed, reading}
use Rattle.trace_model.specs.Exchanges.{following}
use Rattle.trace_model.specs.Closes.{closes}
use Rattle.trace_model.specs.Readings.{is_whole}
use Rattle.conn_laws.proofs.QuietLaws.{reading-quiet}
use Rattle.talk_core.specs.Laws.{is_of_talk}
use Rattle.talk_laws.specs.Http.{ActsKeepHttp, AskedInTurn, EventsKeepHttp, FirstSpeaksHttp, IsOfHttp, NextSpeaksHttp}
use Rattle.talk_laws.proofs.ListLaws.{answer_asked, any_still, once_act, once_asked, once_heard, wanted_none, wanted_still}

pub first_speaks_http : FirstSpeaksHttp
first_speaks_http site c = record {
  http = refl;
  untalked = refl;
  once = record { answered = omega arith; once = omega arith };
  unasked = λ asked. absurd (false≢true asked);
}

-- ---- events

-- no text is heard where no WebSocket is spoken
asked_of : (L : List Item) (c d : ℕ) → (c == d) ≡ true → is_asked_upgraded L d ≡ true → upgraded L c ≡ true
asked_of L c d same asks =
    ap (upgraded L) (eqb-true c d same) ∙ (and_parts (not (shut L d)) (upgraded L d) (and_parts (not (shut L d) && upgraded L d) (client_wanted L d) asks).0).1

mine : (L : List Item) (c d : ℕ) → upgraded L c ≡ false → is_asked_upgraded L d ≡ true → (c == d) ≡ false
mine L c d http asks = elim (cases_Bool (c == d)) [
  | inl same ↦ absurd (false≢true (sym http ∙ asked_of L c d same asks))
  | inr other ↦ other
]

untalked_event : (n c : ℕ) (L : List Item) (ev : Event) → upgraded L c ≡ false → fits_own n L ev ≡ true → is_of_talk c (In ev) ≡ false
untalked_event n c L (WsText d bytes) http fits = rw (mine L c d http fits) refl
untalked_event n c L (WsClosed d) http fits = rw (mine L c d http fits) refl
untalked_event n c L ev http fits = refl

-- bytes are an answer
no_bytes : (c : ℕ) (x : Item) → is_client_bytes c x ≡ false → bytes_heard c x ≡ []
no_bytes c (In (ClientBytes d bytes)) none = rw none refl
no_bytes c x none = refl

answers_bytes : (a b d e f g : Bool) → (a || b || d || e || f || g) ≡ false → a ≡ false
answers_bytes true b d e f g none = absurd (all b d e f g none)
  where
    all : (b d e f g : Bool) → (true || b || d || e || f || g) ≡ false → ⊥
    all b d e f g none = absurd (true≢false none)
answers_bytes false b d e f g none = refl

no_answer : (c : ℕ) (x : Item) → is_client_answer c x ≡ false → bytes_heard c x ≡ []
no_answer c x none = no_bytes c x (answers_bytes (is_client_bytes c x) _ _ _ _ _ none)

pub events_keep_http : EventsKeepHttp
events_keep_http site c e ev fits h = record {
  http = any_still (is_upgrade c) e (In ev) refl ∙ h.http;
  untalked = any_still (is_of_talk c) e (In ev) (untalked_event site.limits.children c (all_of e) ev h.http fits) ∙ h.untalked;
  once = once_heard c e (In ev) refl (answer_asked site.limits.children c (all_of e) ev fits) h.once;
  unasked = λ asked unclosed. elim (cases_Bool (is_client_answer c (In ev))) [
    | inl answers ↦ absurd (false≢true (sym (wanted_none c e (In ev) refl answers h.once) ∙ asked))
    | inr none ↦
        ap is_whole (reading-quiet site c e (In ev) (no_answer c (In ev) none))
        ∙ h.unasked (sym (wanted_still c e (In ev) refl none) ∙ asked) unclosed
  ];
}

-- ---- acts

act_plain : (site : Site) (c : ℕ) (e : Exchange) (act : Act) → IsOfHttp site c e act → (is_upgrade c (Out act) ≡ false) × (is_of_talk c (Out act) ≡ false)
act_plain site c e (Upgrade d rest) is = absurd is
act_plain site c e (Says d texts) is = absurd is
act_plain site c e (CloseWs d code) is = absurd is
act_plain site c e _ is = (refl, refl)

-- an act that asks is one within the request
act_asks : (site : Site) (c : ℕ) (e : Exchange) (act : Act) → IsOfHttp site c e act → is_want_client c (Out act) ≡ true
    → (client_wanted (all_of e) c ≡ false) × (is_whole (reading site c e) ≡ false)
act_asks site c e (WantClient d) is asks = is
act_asks site c e act is asks = absurd (false≢true asks)

pub acts_keep_http : ActsKeepHttp
acts_keep_http site c e act is h =
    let plain = act_plain site c e act is in
    let same : is_whole (reading site c (pushed e (Out act))) ≡ is_whole (reading site c e) = ap is_whole (reading-quiet site c e (Out act) refl) in
    record {
      http = any_still (is_upgrade c) e (Out act) plain.0 ∙ h.http;
      untalked = any_still (is_of_talk c) e (Out act) plain.1 ∙ h.untalked;
      once = elim (cases_Bool (is_want_client c (Out act))) [
        | inl asks ↦ once_asked c e (Out act) refl (act_asks site c e act is asks).0 h.once
        | inr quiet ↦ once_act c e act quiet h.once
      ];
      unasked = λ asked unclosed. same ∙ elim (cases_Bool (is_want_client c (Out act))) [
        | inl asks ↦ (act_asks site c e act is asks).1
        | inr quiet ↦ h.unasked (sym (wanted_still c e (Out act) quiet refl) ∙ asked) unclosed
      ];
    }

-- ---- the next exchange

pub next_speaks_http : NextSpeaksHttp
next_speaks_http site c e read h =
    let same : all_of (following site c e) ≡ all_of e = append-nil (all_of e) in
    record {
      http = ap (λ l. upgraded l c) same ∙ h.http;
      untalked = ap (list_any (is_of_talk c)) same ∙ h.untalked;
      once = subst (AskedInTurn c) (sym same) h.once;
      unasked = λ asked unclosed.
          let p = or_parts e.closed (closes site c e) unclosed in
          absurd (false≢true (sym (h.unasked (sym (ap (λ l. client_wanted l c) same) ∙ asked) p.0) ∙ read unclosed));
    }
