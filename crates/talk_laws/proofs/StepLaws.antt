-- A step of a connection that speaks WebSocket begins, or the program is started in it.
use Rattle.std.proofs.Common.{◌≡◌, ◌≤◌, ℕ, Bool, true, false, List, [], ◌∷◌, ◌++◌, map, Some, sym, ap, subst, ◌∙◌, append-nil, le_refl, arith, inl, inr}
use Rattle.std.specs.Prelude.{◌==◌}
use Rattle.std.specs.List.{list_any}
use Rattle.std.proofs.lemmas.Bool.{cases_Bool, eqb-true, false≢true, ne_eqb, or_parts}
use Rattle.std.proofs.lemmas.List.Folds.{list_any-append}
use Rattle.host_base.specs.declared.site.Site.{Site}
use Rattle.host_trace.specs.declared.items.Act.{Act}
use Rattle.host_trace.specs.declared.items.Act.TheVariants.{Start}
use Rattle.host_trace.specs.declared.items.Event.{Event}
use Rattle.host_trace.specs.declared.items.Item.{Item}
use Rattle.host_trace.specs.declared.items.Item.TheVariants.{In, Out}
use Rattle.host_trace.specs.Kinds.{names_child}
use Rattle.own_traces.specs.OwnFits.{fits_own}
use Rattle.trace_model.specs.Exchange.{Exchange, all_of, pushed}
use Rattle.trace_model.specs.Exchanges.{current, current_after, ended_after, ended_by, has_ended, next_by}
use Rattle.trace_model.specs.Legs.{Leg}
use Rattle.trace_model.proofs.ExchangeLaws.{all_of-current}
use Rattle.child_core.specs.Knows.{KnowsRun}
use Rattle.child_core.specs.View.{View as Run}
use Rattle.child_laws.proofs.DealLaws.{items_push, over_push}
use Rattle.child_laws.proofs.EventLaws.{fresh_heard}
use Rattle.child_laws.proofs.ItemLaws.{unnamed_push}
use Rattle.talk_core.specs.Hearing.{run_heard}
use Rattle.talk_core.specs.Setting.{setting}
use Rattle.talk_laws.specs.Deals.{LostEventsBegin, TalkDeals, TalkEventsBegin, TalkStartsDeal}
use Rattle.child_laws.specs.Step.{LastIs, waiting}
use Rattle.talk_laws.specs.TalkIs.{IsSpoken}
use Rattle.talk_laws.proofs.DealLaws.{goes_push, gone_push}
use Rattle.talk_laws.proofs.GreetedLaws.{greeted_unended}
use Rattle.talk_laws.proofs.HearLaws.{events_keep_talks}
use Rattle.talk_laws.proofs.ListLaws.{all_push}
use Rattle.talk_laws.proofs.StartLaws.{talks_start}
use Rattle.talk_laws.proofs.TurnLaws.{begins_first, waits_first}

-- ---- a step begins

module _ (site : Site) (c : ℕ) (L : List Item) (event : Event) (next : ℕ) (two : 2 ≤ site.limits.head) (fits : fits_own site.limits.children L event ≡ true)
    (fresh : (k : ℕ) → next ≤ k → list_any (names_child k) L ≡ false) where
  abbrev now : Exchange
  now = current site c L

  abbrev later : Exchange
  later = pushed (current site c L) (In event)

  whole : all_of now ≡ L
  whole = all_of-current site c L

  heard_is : all_of later ≡ L ++ In event ∷ []
  heard_is = all_push now (In event) ∙ ap (λ l. l ++ In event ∷ []) whole

  pub begins_by : (legs : List Leg) (continued : Bool) (v : Run) → IsSpoken site c later legs continued v.number → KnowsRun false (setting c v.number site.limits) v later.items
      → TalkDeals site c L event [] later [] waiting next v
  begins_by legs continued v s known =
      let on = greeted_unended site c later continued s.value s.request s.mapped s.greeted in
      record {
        items = heard_is ∙ sym (append-nil (L ++ In event ∷ []));
        fresh = fresh_heard site c now event true two (ap (λ l. fits_own site.limits.children l event) whole ∙ fits) next (λ k le. ap (list_any (names_child k)) whole ∙ fresh k le);
        last = subst (λ l. LastIs l [] waiting (Some v)) heard_is (waits_first (setting c v.number site.limits) v later.before later.items known s.before.unnamed);
        ended_then = tt;
        goes_on = ap (next_by site c later) on;
        gone = ap (λ b. ended_by later b ++ []) on;
      }

pub talk_events_begin : TalkEventsBegin
talk_events_begin site c L event legs continued t v next two fits is rest fresh =
    let heard = events_keep_talks site c (current site c L) legs continued t v event two is rest (ap (λ l. fits_own site.limits.children l event) (all_of-current site c L) ∙ fits) in
    begins_by site c L event next two fits fresh legs continued (run_heard t v event) heard.spoken heard.stands.run

pub lost_events_begin : LostEventsBegin
lost_events_begin site c L event legs continued held next two fits is fresh =
    begins_by site c L event next two fits fresh legs continued held
    (subst (λ (w : Run). IsSpoken site c (pushed (current site c L) (In event)) legs continued w.number) (sym is.held_as) is.spoken)
    (subst (λ (w : Run). KnowsRun false (setting c w.number site.limits) w (pushed (current site c L) (In event)).items) (sym is.held_as) is.run)

-- ---- the program is started

apart : (before : List Item) (k next : ℕ) → list_any (names_child next) before ≡ false → list_any (names_child k) before ≡ true → (k == next) ≡ false
apart before k next fresh named = elim (cases_Bool (k == next)) [
  | inr other ↦ other
  | inl same ↦ absurd (false≢true (sym fresh ∙ subst (λ n. list_any (names_child n) before ≡ true) (eqb-true k next same) named))
]

pub talk_starts_deal : TalkStartsDeal
talk_starts_deal site c L event acts e over turn next legs continued launch two o d =
    let a : Act = Start next c e.number 0 launch in
    let unnamed : list_any (names_child next) (all_of e) ≡ false = d.knows.fresh next (le_refl next) in
    let on : has_ended site c e ≡ false = greeted_unended site c e continued o.value o.request o.mapped o.greeted in
    let spoken = (talks_start site c e legs continued launch next two o unnamed).1.spoken in
    let then_on = greeted_unended site c (pushed e (Out a)) continued spoken.value spoken.request spoken.mapped spoken.greeted in
    let at : current_after site c (current site c L) (In event ∷ map Out acts) ≡ e = d.goes_on ∙ ap (next_by site c e) on in
    let was_gone : ended_after site c (current site c L) (In event ∷ map Out acts) ≡ over = d.gone ∙ (ap (λ b. over ++ ended_by e b) on ∙ append-nil over) in
    let parts = or_parts (list_any (names_child next) (L ++ In event ∷ [])) (list_any (names_child next) (map Out acts))
    (sym (list_any-append (names_child next) (L ++ In event ∷ []) (map Out acts)) ∙ (ap (list_any (names_child next)) (sym d.knows.items) ∙ unnamed)) in
    record {
      items = items_push e (L ++ In event ∷ []) acts a d.knows.items;
      fresh = λ k le. unnamed_push k e (Out a) (ne_eqb k next (omega (arith, le))) (d.knows.fresh k (omega (arith, le)));
      last = begins_first next site.limits (L ++ In event ∷ []) acts c e.number launch parts.0 parts.1;
      ended_then =
          over_push site c (L ++ In event ∷ []) acts a e.before over
          (λ k named. apart e.before k next (or_parts (list_any (names_child next) e.before) (list_any (names_child next) e.items) (sym (list_any-append (names_child next) e.before e.items) ∙ unnamed)).0 named)
          d.knows.ended;
      goes_on = goes_push site c L event acts e over a at then_on;
      gone = gone_push site c L event acts e over a at was_gone then_on;
    }
