-- The acts of a step on a connection that speaks WebSocket, as its child sees them.
use Rattle.std.proofs.Common.{◌≡◌, ◌≤◌, ℕ, Bool, true, false, List, [], ◌∷◌, ◌++◌, map, Option, Some, None, refl, sym, ap, subst, ◌∙◌, append-nil, append_assoc}
use Rattle.std.proofs.lemmas.List.{map-append}
use Rattle.host_base.specs.declared.site.Site.{Site}
use Rattle.host_trace.specs.declared.items.Act.{Act}
use Rattle.host_trace.specs.declared.items.Act.TheVariants.{Says}
use Rattle.host_trace.specs.declared.items.Event.{Event}
use Rattle.host_trace.specs.declared.items.Item.{Item}
use Rattle.host_trace.specs.declared.items.Item.TheVariants.{In, Out}
use Rattle.host_trace.specs.Told.{when}
use Rattle.trace_child.specs.Words.{is_filled}
use Rattle.trace_model.specs.Exchange.{Exchange, pushed}
use Rattle.trace_model.specs.Exchanges.{current, current_after, ended_after, ended_by, has_ended, next_by}
use Rattle.trace_model.specs.Legs.{Leg}
use Rattle.trace_model.proofs.ExchangeLaws.{current_after-append, ended_after-append}
use Rattle.child_core.specs.View.{View as Run}
use Rattle.conn_laws.specs.Form.{is_to_connection}
use Rattle.child_laws.specs.Laws.{with_acts}
use Rattle.child_laws.specs.Step.{Turn}
use Rattle.child_laws.proofs.ActLaws.{spared}
use Rattle.child_laws.proofs.DealLaws.{items_push, last_other, over_push}
use Rattle.child_laws.proofs.ItemLaws.{unnamed_push}
use Rattle.talk_core.specs.Acting.{acting, closing}
use Rattle.talk_core.specs.View.{View as Talk}
use Rattle.talk_laws.specs.Deals.{ConnActsDeal, TalkActsDeal, TalkDeals}
use Rattle.talk_laws.specs.TalkIs.{IsSpoken}
use Rattle.talk_laws.proofs.ActLaws.{IsSmall, small_quiet, with_more, with_none}
use Rattle.talk_laws.proofs.GreetedLaws.{greeted_unended}
use Rattle.talk_laws.proofs.HearLaws.{spoken_push}
use Rattle.talk_laws.proofs.ListLaws.{once_act}

-- ---- one act

module _ (site : Site) (c : ℕ) (L : List Item) (event : Event) (acts : List Act) (e : Exchange) (over : List Exchange) (act : Act) where
  pub goes_push : current_after site c (current site c L) (In event ∷ map Out acts) ≡ e → has_ended site c (pushed e (Out act)) ≡ false
      → current_after site c (current site c L) (In event ∷ map Out (acts ++ act ∷ [])) ≡ pushed e (Out act)
  goes_push now on =
      ap (λ l. current_after site c (current site c L) (In event ∷ l)) (map-append Out acts (act ∷ []))
      ∙ (current_after-append site c (current site c L) (In event ∷ map Out acts) (Out act ∷ [])
      ∙ (ap (λ g. current_after site c g (Out act ∷ [])) now ∙ ap (next_by site c (pushed e (Out act))) on))

  pub gone_push : current_after site c (current site c L) (In event ∷ map Out acts) ≡ e → ended_after site c (current site c L) (In event ∷ map Out acts) ≡ over
      → has_ended site c (pushed e (Out act)) ≡ false → ended_after site c (current site c L) (In event ∷ map Out (acts ++ act ∷ [])) ≡ over
  gone_push now gone on =
      ap (λ l. ended_after site c (current site c L) (In event ∷ l)) (map-append Out acts (act ∷ []))
      ∙ (ended_after-append site c (current site c L) (In event ∷ map Out acts) (Out act ∷ [])
      ∙ (ap (λ g. g ++ ended_after site c (current_after site c (current site c L) (In event ∷ map Out acts)) (Out act ∷ [])) gone
      ∙ (ap (λ g. over ++ ended_after site c g (Out act ∷ [])) now
      ∙ (ap (λ b. over ++ (ended_by (pushed e (Out act)) b ++ [])) on ∙ append-nil over))))

pub conn_acts_deal : ConnActsDeal
conn_acts_deal site c L event acts e over turn next v act to_conn on d = record {
  items = items_push e (L ++ In event ∷ []) acts act d.items;
  fresh = λ k le. unnamed_push k e (Out act) (spared act to_conn k) (d.fresh k le);
  last = last_other (L ++ In event ∷ []) acts act turn (Some v) (λ w same. spared act to_conn w.number) d.last;
  ended_then = over_push site c (L ++ In event ∷ []) acts act e.before over (λ k named. spared act to_conn k) d.ended_then;
  goes_on = goes_push site c L event acts e over act d.goes_on on;
  gone = gone_push site c L event acts e over act d.goes_on d.gone on;
}

-- ---- acts of the talk

abbrev IsOfConn : List Act → Type 0
IsOfConn [] = Unit {0}
IsOfConn (act ∷ acts) = (is_to_connection act ≡ true) × IsSmall act × IsOfConn acts

of_conn : (t : Talk) → IsOfConn (acting t)
of_conn t = said (is_filled t.texts) t.code
  where
    said : (b : Bool) (code : Option ℕ) → IsOfConn (when b (Says t.conn t.texts) ++ closing t.conn code)
    said true None = (refl, tt, tt)
    said true (Some code) = (refl, tt, (refl, tt, tt))
    said false None = tt
    said false (Some code) = (refl, tt, tt)

module _ (site : Site) (c : ℕ) (L : List Item) (event : Event) (over : List Exchange) (turn : Turn) (next : ℕ) (legs : List Leg) (continued : Bool) (v : Run) (two : 2 ≤ site.limits.head) where
  all_deal : (more acts : List Act) (e : Exchange) → IsOfConn more → IsSpoken site c e legs continued v.number → TalkDeals site c L event acts e over turn next v
      → TalkDeals site c L event (acts ++ more) (with_acts e more) over turn next v
  all_deal [] acts e small s d =
      subst (λ l. TalkDeals site c L event l (with_acts e []) over turn next v) (sym (append-nil acts))
      (subst (λ f. TalkDeals site c L event acts f over turn next v) (sym (with_none e)) d)
  all_deal (act ∷ more) acts e small s d =
      let q = small_quiet c act small.1 in
      let then_spoken = spoken_push site c e legs continued v.number s (Out act) two refl q.unwritten q.starts refl (once_act c e act q.asks_none s.once) in
      let g = then_spoken.greeted in
      let one = conn_acts_deal site c L event acts e over turn next v act small.0
      (greeted_unended site c (pushed e (Out act)) continued then_spoken.value then_spoken.request then_spoken.mapped g) d in
      subst (λ l. TalkDeals site c L event l (with_acts e (act ∷ more)) over turn next v) (append_assoc acts (act ∷ []) more)
      (subst (λ f. TalkDeals site c L event ((acts ++ act ∷ []) ++ more) f over turn next v) (with_more e act more)
      (all_deal more (acts ++ act ∷ []) (pushed e (Out act)) small.2 then_spoken one))

pub talk_acts_deal : TalkActsDeal
talk_acts_deal site c L event acts e over turn next legs continued t v two is d =
    all_deal site c L event over turn next legs continued v two (acting t) acts e (of_conn t) is.spoken d
