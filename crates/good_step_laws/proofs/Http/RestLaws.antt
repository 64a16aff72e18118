-- What a connection that is at rest tells: of its answer, and of its children.
use Rattle.std.proofs.Common.{◌≡◌, ℕ, ◌||◌, Bool, true, false, not, List, [], ◌∷◌, Option, Some, None, inl, inr, refl, sym, ap, ◌∙◌}
use Rattle.std.specs.List.{list_any}
use Rattle.std.proofs.lemmas.Bool.{and_from, false≢true, false_from_ne_true, or_cases, or_parts}
use Rattle.host_base.specs.declared.site.Site.{Site}
use Rattle.host_trace.specs.declared.items.Item.{Item}
use Rattle.host_trace.specs.Account.{has_unsettled, settled}
use Rattle.host_trace.specs.Kinds.{names_child}
use Rattle.child_core.specs.View.{View}
use Rattle.trace_model.specs.Exchange.{Exchange, all_of}
use Rattle.trace_model.specs.Exchanges.{has_ended}
use Rattle.trace_model.specs.Legs.{Leg}
use Rattle.trace_model.specs.Standing.{stands_whole}
use Rattle.trace_model.proofs.ExchangeLaws.{all_of-current}
use Rattle.exchange_request.specs.Knows.{is_looked_at}
use Rattle.exchange_stage.specs.declared.stage.Stage.{Stage}
use Rattle.exchange_stage.specs.declared.stage.Stage.TheVariants as At
use Rattle.exchange_laws.specs.StageIs.{LostIs, StageIs}
use Rattle.child_laws.specs.Children.{KnowsRuns, NoMore, is_over as is_settled_run}
use Rattle.child_laws.specs.Setting.{setting}
use Rattle.child_laws.proofs.DueLaws.{unrefused}
use Rattle.child_laws.proofs.KnowLaws.{ends_exact, unsettled_exact}
use Rattle.http_conn.specs.HttpConn.{HttpConn}
use Rattle.http_conn.specs.Kept.{number_of, site_of}
use Rattle.http_conn.specs.Settles.{is_answered}
use Rattle.http_conn.specs.Slot.{run_settled}
use Rattle.http_stage_laws.specs.HeardStages.{AtRest}
use Rattle.good_step_laws.proofs.Http.PassLaws.{Calm}
use Rattle.good_step_laws.proofs.Http.SettledLaws.{older_settled, settled_together}

same_settled : (run : Option View) → is_settled_run run ≡ run_settled run
same_settled None = refl
same_settled (Some v) = refl

whole_found : (site : Site) (c : ℕ) (e : Exchange) (legs : List Leg) (continued looked closing : Bool) (more : List ℕ) (s : Stage) → StageIs site c e legs continued looked closing more s
    → is_answered s ≡ true → stands_whole site c e ≡ true
whole_found site c e legs continued looked closing more At.Answered is e' = is.whole
whole_found site c e legs continued looked closing more s is e' = absurd (false≢true e')

whole_lost : (site : Site) (c : ℕ) (e : Exchange) (legs : List Leg) (continued closing : Bool) (s : Stage) → LostIs site c e legs continued closing s → is_answered s ≡ true → stands_whole site c e ≡ true
whole_lost site c e legs continued closing At.Answered is e' = is.whole
whole_lost site c e legs continued closing s is e' = absurd (false≢true e')

-- while its child is settled its answer doesn't stand, or the next exchange would have begun
pub unanswered : (conn : HttpConn) (L : List Item) (e : Exchange) (legs : List Leg) (n : ℕ) → AtRest conn L e legs n → run_settled conn.run ≡ true → is_answered conn.stage ≡ false
unanswered conn L e legs n r settled =
    false_from_ne_true (is_answered conn.stage) (λ answered.
    let whole : stands_whole (site_of conn) (number_of conn) e ≡ true = by conn.lost refl answered in
    let ended : has_ended (site_of conn) (number_of conn) e ≡ true =
    ends_exact (site_of conn) (number_of conn) e false n legs conn.run r.children ∙ and_from (is_settled_run conn.run) (stands_whole (site_of conn) (number_of conn) e) (same_settled conn.run ∙ settled) whole in
    false≢true (sym r.unended ∙ ended))
  where
    by : (b : Bool) → conn.lost ≡ b → is_answered conn.stage ≡ true → stands_whole (site_of conn) (number_of conn) e ≡ true
    by false found answered =
        let s = (r.found found).staged in
        whole_found (site_of conn) (number_of conn) e legs conn.continued (is_looked_at conn.request) (conn.closing || conn.closes) s.more conn.stage s.is answered
    by true lost answered = whole_lost (site_of conn) (number_of conn) e legs conn.continued (conn.closing || conn.closes) conn.stage (r.lost lost).lost answered

-- its child was started or refused, not both
pub run_calm : (conn : HttpConn) (L : List Item) (e : Exchange) (legs : List Leg) (n : ℕ) → AtRest conn L e legs n → run_settled conn.run ≡ true → Calm conn.run
run_calm conn L e legs n r settled v is = (
  ap run_settled (sym is) ∙ settled,
  go conn.run is r.children.runs,
)
  where
    go : (run : Option View) → run ≡ Some v → KnowsRuns NoMore (site_of conn) (number_of conn) e false legs run → v.started ≡ true → v.refused ≡ false
    go None some k on = let both : None ≡ Some v = some in absurd (cc)
    go (Some w) some k on =
        let same : w ≡ v = cc in
        let viewed : v ≡ k.view = sym same ∙ k.held_as in
        ap (λ (u : View). u.refused) viewed
        ∙ unrefused false (setting (site_of conn) (number_of conn) e k.leg.hop) k.view e.items k.known.knows (ap (λ (u : View). u.started) (sym viewed) ∙ on)

-- ---- the children of its list

-- where its child is settled all are
pub all_settled : (conn : HttpConn) (L : List Item) (e : Exchange) (legs : List Leg) (n : ℕ) → AtRest conn L e legs n → run_settled conn.run ≡ true → has_unsettled L (number_of conn) ≡ false
all_settled conn L e legs n r settled =
    let c = number_of conn in
    let s = site_of conn in
    let before : has_unsettled e.before c ≡ false = ap (λ (x : Exchange). has_unsettled x.before c) r.now ∙ older_settled s c L in
    let items : has_unsettled e.items c ≡ false = unsettled_exact s c e false n legs conn.run r.children ∙ ap not (same_settled conn.run ∙ settled) in
    ap (λ (l : List Item). has_unsettled l c) (sym (ap all_of r.now ∙ all_of-current s c L)) ∙ settled_together e.before e.items c before items

-- the item names a child that is settled
pub record NamesSettled (L : List Item) (x : Item) : Type 0 where
  pub child : ℕ
  pub named : names_child child x ≡ true
  pub settled_then : settled L child ≡ true

pub named_settled : (L : List Item) (x : Item) (ks : List ℕ) → list_any (λ k. not (settled L k)) ks ≡ false → list_any (λ k. names_child k x) ks ≡ true → NamesSettled L x
named_settled L x [] none some = absurd (false≢true some)
named_settled L x (k ∷ ks) none some =
    let p = or_parts (not (settled L k)) (list_any (λ j. not (settled L j)) ks) none in
    elim (or_cases (names_child k x) (list_any (λ j. names_child j x) ks) some) [
      | inl here ↦ record { child = k; named = here; settled_then = not_not (settled L k) p.0 }
      | inr later ↦ named_settled L x ks p.1 later
    ]
  where
    not_not : (b : Bool) → not b ≡ false → b ≡ true
    not_not true e = refl
    not_not false e = absurd (false≢true (sym e))
