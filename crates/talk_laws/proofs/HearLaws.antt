-- An event that fits: a talk and its run hear it.
use Rattle.std.proofs.Common.{◌≡◌, ◌≤◌, ℕ, Bool, true, false, List, [], ◌∷◌, ◌++◌, map, Option, Some, None, refl, sym, ap, subst, ◌∙◌, append-nil, inl, inr, ◌⊎◌}
use Rattle.std.specs.Prelude.{◌&&◌, ◌||◌, ◌==◌, not, if◌then◌else◌, is_some}
use Rattle.std.specs.List.{list_any}
use Rattle.std.proofs.lemmas.Bool.{cases_Bool, and_parts, eqb-true, false≢true, not-true, true≢false}
use Rattle.std.proofs.lemmas.List.Folds.{list_any-append}
use Rattle.host_base.specs.declared.site.Site.{Site}
use Rattle.host_trace.specs.declared.items.Event.{Event}
use Rattle.host_trace.specs.declared.items.Event.TheVariants.{ClientBytes, ClientGone, NoRoom, Stop, Tick, WsBad, WsText}
use Rattle.host_trace.specs.declared.items.Item.{Item}
use Rattle.host_trace.specs.declared.items.Item.TheVariants.{In, Out}
use Rattle.host_trace.specs.declared.items.Act.TheVariants.{Start}
use Rattle.host_trace.specs.Account.{has_unsettled}
use Rattle.host_trace.specs.First.{or_else}
use Rattle.host_trace.specs.Fits.{is_piece}
use Rattle.host_trace.specs.Kinds.{bytes_heard, bytes_written, child_of, child_started, is_client_answer, is_client_bytes, is_client_eof, is_shut, is_upgrade, is_want_client, is_ws_bad, is_ws_binary, is_ws_closed, is_ws_text}
use Rattle.host_trace.specs.Projections.{children_of, client_wanted, shut, start_stands, upgraded}
use Rattle.host_trace.proofs.FirstLaws.{flat_map-push}
use Rattle.host_trace.proofs.ProjectionLaws.{upgraded-push}
use Rattle.own_traces.specs.OwnFits.{fits_own}
use Rattle.trace_child.specs.Words.{is_filled}
use Rattle.trace_model.specs.Breaks.{idles_out}
use Rattle.trace_model.specs.Exchange.{Exchange, all_of, has_start, pushed, reading, up_to}
use Rattle.trace_model.specs.Legs.{Leg, offered_at}
use Rattle.trace_model.specs.Readings.{is_whole}
use Rattle.trace_model.proofs.AnswerLaws.{unbroken-push}
use Rattle.child_core.specs.Calls.{wants_text}
use Rattle.child_core.specs.declared.ending.Outcome.{Outcome}
use Rattle.child_core.specs.View.{View as Run}
use Rattle.child_core.proofs.ActLaws.{and_false}
use Rattle.child_core.proofs.WordLaws.{contra}
use Rattle.child_laws.proofs.ItemLaws.{fits_it}
use Rattle.exchange_laws.specs.Walked.{child_of_leg}
use Rattle.exchange_laws.proofs.WalkLaws.{has_children-push}
use Rattle.talk_core.specs.Hearing.{ends, heard, heard_unless, run_heard}
use Rattle.talk_core.specs.Laws.{MayHear}
use Rattle.talk_core.specs.Setting.{setting}
use Rattle.talk_core.specs.View.{View as Talk}
use Rattle.talk_core.proofs.HearLaws.{events_are_known, unfed_none}
use Rattle.talk_core.proofs.WantLaws.{texts_stay_wanted}
use Rattle.talk_laws.specs.Http.{AskedInTurn, is_parting}
use Rattle.talk_laws.specs.Moves.{EventsKeepTalks}
use Rattle.talk_laws.specs.TalkIs.{IsSpoken, MayBeAsked, TalkIs, TalkRests}
use Rattle.talk_laws.proofs.GreetedLaws.{items_leave_greeted}
use Rattle.talk_laws.proofs.ListLaws.{answer_asked, any_push, any_still, any_within, last_one, last_two, once_heard, wanted_none, wanted_still}
use Rattle.talk_laws.proofs.OpeningLaws.{idled_still}
use Rattle.talk_laws.proofs.StartLaws.{Sooner, split_last}
use Rattle.talk_laws.proofs.RestLaws.{acted_rests, no_feed}

-- ---- one more item of a WebSocket's exchange

-- an item that starts no child of the connection starts none of the exchange
no_child : (c j hop : ℕ) (x : Item) → child_started c x ≡ [] → child_of c j hop x ≡ []
no_child c j hop (Out (Start k d i h launch)) none = go (c == d) (j == i) (hop == h) none
  where
    go : (mine same_exchange same_hop : Bool) → (if mine then k ∷ [] else []) ≡ [] → (if mine && same_exchange && same_hop then k ∷ [] else []) ≡ []
    go true a b is = absurd (cc)
    go false a b is = refl
no_child c j hop x none = refl

module _ (site : Site) (c : ℕ) (e : Exchange) (legs : List Leg) (continued : Bool) (k : ℕ) (s : IsSpoken site c e legs continued k) where
  pub spoken_all : upgraded (all_of e) c ≡ true
  spoken_all = list_any-append (is_upgrade c) e.before e.items ∙ ap (λ b. list_any (is_upgrade c) e.before || b) s.upgraded_is ∙ or_true (list_any (is_upgrade c) e.before)
    where
      or_true : (b : Bool) → (b || true) ≡ true
      or_true true = refl
      or_true false = refl

  pub shut_within : shut (all_of e) c ≡ shut e.items c
  shut_within = any_within (is_shut c) e s.before.unshut

  pub spoken_started : has_start c e ≡ true
  spoken_started = ap is_filled (s.started ∙ ap (λ ls. map child_of_leg ls) s.are)

  whole_now : is_whole (reading site c e) ≡ true
  whole_now = ap is_whole s.greeted.accepted.reads

  -- no byte comes and none is written, no request idles out, no child is started, and the client is not asked
  pub spoken_push : (x : Item) → 2 ≤ site.limits.head → bytes_heard c x ≡ [] → bytes_written c x ≡ [] → child_started c x ≡ [] → idles_out c site e e.items x ≡ false
      → AskedInTurn c (all_of (pushed e x)) → IsSpoken site c (pushed e x) legs continued k
  spoken_push x two unheard unwritten starts quiet once = record {
    value = s.value;
    request = s.request;
    mapped = s.mapped;
    greeted =
        items_leave_greeted site c e x continued s.value s.request s.mapped two unheard unwritten
        (unbroken-push site c e x spoken_started s.greeted.accepted.unbroken) s.greeted;
    calm = idled_still site c e x quiet s.calm;
    upgraded_is = upgraded-push e.items x c ∙ ap (λ b. b || is_upgrade c x) s.upgraded_is;
    are = s.are;
    started = has_children-push c e x legs starts s.started;
    at_first =
        flat_map-push (child_of c e.number 0) e.items x ∙ ap (λ l. children_of e.items c e.number 0 ++ l) (no_child c e.number 0 x starts)
        ∙ append-nil (children_of e.items c e.number 0) ∙ s.at_first;
    whole_then = λ before y later is begun. by_place before y (split_last e.items x before y later is) begun;
    before = s.before;
    once = once;
  }
    where
      by_place : (before : List Item) (y : Item) → (before ≡ e.items) ⊎ Sooner e.items before y → start_stands before k ≡ true
          → (offered_at site c (up_to (pushed e x) []) 0 before).whole ≡ true
      by_place before y (inl same) begun = subst (λ l. is_whole (reading site c (up_to e l)) ≡ true) (sym same) whole_now
      by_place before y (inr sooner) begun = s.whole_then before y sooner.more sooner.is begun

-- ---- what fits

pub bytes_none : (n c : ℕ) (L : List Item) (ev : Event) → upgraded L c ≡ true → fits_own n L ev ≡ true → bytes_heard c (In ev) ≡ []
bytes_none n c L (ClientBytes d bytes) spoken fits = elim (cases_Bool (c == d)) [
  | inr other ↦ rw other refl
  | inl same ↦
      let asked = (and_parts (not (shut L d) && not (upgraded L d) && client_wanted L d) (is_piece bytes) fits).0 in
      let http = not-true (upgraded L d) (and_parts (not (shut L d)) (not (upgraded L d)) (and_parts (not (shut L d) && not (upgraded L d)) (client_wanted L d) asked).0).1 in
      absurd (false≢true (sym http ∙ ap (upgraded L) (sym (eqb-true c d same)) ∙ spoken))
]
bytes_none n c L ev spoken fits = refl

-- a text is heard where it was asked for, of a connection that is not shut
record IsAskedText (L : List Item) (c : ℕ) : Type 0 where
  open_then : shut L c ≡ false
  asked_then : client_wanted L c ≡ true

text_asked : (n c : ℕ) (L : List Item) (ev : Event) → fits_own n L ev ≡ true → is_ws_text c (In ev) ≡ true → IsAskedText L c
text_asked n c L (WsText d bytes) fits is =
    let same : c ≡ d = eqb-true c d is in
    let p = and_parts (not (shut L d) && upgraded L d) (client_wanted L d) fits in
    record {
      open_then = ap (shut L) same ∙ not-true (shut L d) (and_parts (not (shut L d)) (upgraded L d) p.0).0;
      asked_then = ap (client_wanted L) same ∙ p.1;
    }
text_asked n c L ev fits is = absurd (false≢true is)

pub no_idle : (site : Site) (c : ℕ) (e : Exchange) (ev : Event) → upgraded e.items c ≡ true → idles_out c site e e.items (In ev) ≡ false
no_idle site c e (Tick secs) spoken = rw (spoken, and_false (not (has_unsettled e.items c))) refl
no_idle site c e ev spoken = refl

answers_text : (a b d f g h : Bool) → (a || b || d || f || g || h) ≡ false → d ≡ false
answers_text a b true f g h none = absurd (true≢false (sym (all a b f g h) ∙ none))
  where
    all : (a b f g h : Bool) → (a || b || true || f || g || h) ≡ true
    all true b f g h = refl
    all false true f g h = refl
    all false false f g h = refl
answers_text a b false f g h none = refl

no_text_answer : (c : ℕ) (x : Item) → is_client_answer c x ≡ false → is_ws_text c x ≡ false
no_text_answer c x none = answers_text (is_client_bytes c x) (is_client_eof c x) (is_ws_text c x) (is_ws_binary c x) (is_ws_closed c x) (is_ws_bad c x) none

-- ---- events

module _ (site : Site) (c : ℕ) (e : Exchange) (legs : List Leg) (continued : Bool) (t : Talk) (v : Run) (ev : Event) (is : TalkIs site c e legs continued t v) (rest : TalkRests c e t v) where
  pub wants_at_rest : shut (all_of e) c ≡ false → client_wanted (all_of e) c ≡ true → wants_text v ≡ true
  wants_at_rest live asked = ap wants_text (sym (acted_rests rest.may v rest.rests)) ∙ is.asks live asked rest.may

  pub may_hear : fits_own site.limits.children (all_of e) ev ≡ true → MayHear c t v e.items ev
  may_hear fits = record {
    fits = fits_it false (setting c v.number site.limits) v e.before e.items ev is.spoken.before.unnamed is.stands.run fits;
    going = λ text. contra t.over (shut (all_of e) c) rest.over_shut (text_asked site.limits.children c (all_of e) ev fits text).open_then;
    wanted = λ text.
        let asked = text_asked site.limits.children c (all_of e) ev fits text in
        wants_at_rest asked.open_then asked.asked_then;
    shut = λ over. sym (shut_within site c e legs continued v.number is.spoken) ∙ rest.over_shut over;
    texts = rest.texts;
    code = rest.code;
    fed = no_feed rest.may v rest.rests;
  }

  pub unfed_now : v.unfed ≡ []
  unfed_now = unfed_none v is.stands.talk.due (no_feed rest.may v rest.rests)

  -- a question that stands still may be answered once what is due for the child is given
  asks_then : is_want_client c (In ev) ≡ false → MayBeAsked c (pushed e (In ev)) (run_heard t v ev)
  asks_then quiet live asked may = elim (cases_Bool (is_client_answer c (In ev))) [
    | inl answers ↦ absurd (false≢true (sym (wanted_none c e (In ev) refl answers is.spoken.once) ∙ asked))
    | inr none ↦
        let wants : wants_text v ≡ true =
        wants_at_rest (sym (any_still (is_shut c) e (In ev) refl) ∙ live) (sym (wanted_still c e (In ev) refl none) ∙ asked) in
        texts_stay_wanted may t v ev is.stands.talk.kind unfed_now
        (subst (λ d. is_ws_text d (In ev) ≡ false) (sym is.stands.talk.conn) (no_text_answer c (In ev) none)) wants
  ]

-- .. and it is over where the server is to end, or the client is gone or can't be heard
some_over : (o : Option Outcome) (x : Outcome) (b : Bool) → (is_some (or_else o (Some x)) || b) ≡ true
some_over None x b = refl
some_over (Some y) x b = refl

parts_now : (t : Talk) (v : Run) (ev : Event) → is_parting t.conn (In ev) ≡ true → ends t v ev ≡ true
parts_now t v Stop is = some_over v.outcome _ _
parts_now t v (ClientGone d) is = rw (last_two (t.conn == d) is) (some_over v.outcome _ _)
parts_now t v (WsBad d) is = rw (last_one (t.conn == d) is) (some_over v.outcome _ _)
parts_now t v (NoRoom d) is = rw is (some_over v.outcome _ _)
parts_now t v ev is = absurd (false≢true is)

over_then : (over : Bool) (t : Talk) (v : Run) (ev : Event) → t.over ≡ over → (over ≡ false → ends t v ev ≡ true) → (heard_unless over t v ev).over ≡ true
over_then true t v ev is now = is
over_then false t v ev is now = now refl

pub over_stays : (t : Talk) (v : Run) (ev : Event) → t.over ≡ true → (heard t v ev).over ≡ true
over_stays t v ev over = over_then t.over t v ev refl (λ going. absurd (false≢true (sym going ∙ over)))

parted_then : (c : ℕ) (e : Exchange) (t : Talk) (v : Run) (ev : Event) → t.conn ≡ c → (list_any (is_parting c) (all_of e) ≡ true → t.over ≡ true)
    → list_any (is_parting c) (all_of (pushed e (In ev))) ≡ true → (heard t v ev).over ≡ true
parted_then c e t v ev conn before gone = elim (cases_Bool (list_any (is_parting c) (all_of e))) [
  | inl was ↦ over_stays t v ev (before was)
  | inr not_yet ↦
      let now : is_parting c (In ev) ≡ true = sym (any_push (is_parting c) e (In ev) ∙ ap (λ b. b || is_parting c (In ev)) not_yet) ∙ gone in
      over_then t.over t v ev refl (λ going. parts_now t v ev (ap (λ d. is_parting d (In ev)) conn ∙ now))
]

pub events_keep_talks : EventsKeepTalks
events_keep_talks site c e legs continued t v ev two is rest fits = record {
  spoken =
      spoken_push site c e legs continued v.number is.spoken (In ev) two
      (bytes_none site.limits.children c (all_of e) ev (spoken_all site c e legs continued v.number is.spoken) fits) refl refl
      (no_idle site c e ev is.spoken.upgraded_is) (once_heard c e (In ev) refl (answer_asked site.limits.children c (all_of e) ev fits) is.spoken.once);
  kind = is.kind;
  stands = events_are_known false c site.limits t v e.items ev is.stands (may_hear site c e legs continued t v ev is rest fits);
  parted = parted_then c e t v ev is.stands.talk.conn is.parted;
  asks = asks_then site c e legs continued t v ev is rest refl;
}
