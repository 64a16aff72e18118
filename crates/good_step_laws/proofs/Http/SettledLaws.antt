-- The one child of a connection that is not settled is that of its run.
use Rattle.std.proofs.Common.{◌≡◌, ℕ, ◌&&◌, ◌||◌, Bool, true, false, not, List, [], ◌∷◌, ◌++◌, Option, Some, None, if◌then◌else◌, refl, sym, ap, ◌∙◌, subst}
use Rattle.std.specs.Prelude.{filter}
use Rattle.std.specs.List.{list_any}
use Rattle.std.specs.Option.{option_to_list}
use Rattle.std.proofs.lemmas.Bool.{cond-false, cond-true, false≢true, or_from, or_parts}
use Rattle.std.proofs.lemmas.Grind.{flat_map-append}
use Rattle.std.proofs.lemmas.List.Elements.{filter-append}
use Rattle.std.proofs.lemmas.List.Folds.{list_any-append}
use Rattle.host_base.specs.declared.site.Site.{Site}
use Rattle.host_trace.specs.declared.items.Item.{Item}
use Rattle.host_trace.specs.Account.{has_unsettled, is_refusal, settled, start_refused}
use Rattle.host_trace.specs.Kinds.{child_started, is_exited, is_input_end, is_output_end, names_child}
use Rattle.host_trace.specs.Projections.{children, exited, input_ended, output_ended}
use Rattle.child_core.specs.Calls.{is_settled}
use Rattle.child_core.specs.View.{View}
use Rattle.trace_model.specs.Exchange.{Exchange, all_of, first_exchange, pushed}
use Rattle.trace_model.specs.Exchanges.{current, current_after, ends_by, has_ended, next_by, next_of}
use Rattle.trace_model.specs.Legs.{Leg}
use Rattle.trace_model.proofs.ExchangeLaws.{all_of-current}
use Rattle.own_traces.proofs.NameLaws.{exit_names, input_names, output_names, refusal_names}
use Rattle.child_laws.specs.Children.{KnowsChildren, KnowsRuns, NoMore}
use Rattle.child_laws.specs.Legs.{children_of_legs}
use Rattle.child_laws.proofs.KnowLaws.{is_last, last_settled}
use Rattle.http_conn.specs.HttpConn.{HttpConn}
use Rattle.http_conn.specs.Kept.{number_of, site_of}
use Rattle.http_conn.specs.Slot.{unsettled_child_of, unsettled_of}
use Rattle.good_step_laws.specs.Http.Stands.{ConnStands}
use Rattle.http_conn.specs.Kid.{number_in}

-- ---- what is settled stays so, whatever stands before or behind

abbrev is_account : Bool → Bool → Bool → Bool → Bool
is_account r x i o = r || x && i && o

or_true : (a b : Bool) → b ≡ true → (a || b) ≡ true
or_true true b e = refl
or_true false b e = e

more_left : (r x i o r' x' i' o' : Bool) → is_account r x i o ≡ true → is_account (r || r') (x || x') (i || i') (o || o') ≡ true
more_left true x i o r' x' i' o' e = refl
more_left false true true true r' x' i' o' e = or_true r' true refl
more_left false false i o r' x' i' o' e = absurd (false≢true e)
more_left false true false o r' x' i' o' e = absurd (false≢true e)
more_left false true true false r' x' i' o' e = absurd (false≢true e)

more_right : (r x i o r' x' i' o' : Bool) → is_account r' x' i' o' ≡ true → is_account (r || r') (x || x') (i || i') (o || o') ≡ true
more_right true x i o r' x' i' o' e = refl
more_right false x i o true x' i' o' e = refl
more_right false true true true false x' i' o' e = refl
more_right false false true true false true i' o' e = refl
more_right false true false true false x' true o' e = refl
more_right false true true false false x' i' true e = refl
more_right false false false true false true true o' e = refl
more_right false false true false false true i' true e = refl
more_right false true false false false x' true true e = refl
more_right false false false false false true true true e = refl
more_right false false i o false false i' o' e = absurd (false≢true e)
more_right false true false o false true false o' e = absurd (false≢true e)
more_right false true false o false false i' o' e = absurd (false≢true e)
more_right false false false o false true false o' e = absurd (false≢true e)
more_right false x i false false true true false e = absurd (false≢true e)
more_right false true i false false false i' o' e = absurd (false≢true e)
more_right false x true false false true false false e = absurd (false≢true e)

module _ (before after : List Item) (k : ℕ) where
  settled_parts : settled (before ++ after) k
      ≡ is_account (start_refused before k || start_refused after k) (exited before k || exited after k) (input_ended before k || input_ended after k) (output_ended before k || output_ended after k)
  settled_parts =
      rw (list_any-append (is_refusal k) before after, list_any-append (is_exited k) before after, list_any-append (is_input_end k) before after, list_any-append (is_output_end k) before after)
      refl

  settled_left : settled before k ≡ true → settled (before ++ after) k ≡ true
  settled_left e =
      settled_parts
      ∙ more_left (start_refused before k) (exited before k) (input_ended before k) (output_ended before k) (start_refused after k) (exited after k) (input_ended after k) (output_ended after k) e

  settled_right : settled after k ≡ true → settled (before ++ after) k ≡ true
  settled_right e =
      settled_parts
      ∙ more_right (start_refused before k) (exited before k) (input_ended before k) (output_ended before k) (start_refused after k) (exited after k) (input_ended after k) (output_ended after k) e

none_of : (test : Item → Bool) (k : ℕ) → ((x : Item) → names_child k x ≡ false → test x ≡ false) → (L : List Item) → list_any (names_child k) L ≡ false → list_any test L ≡ false
none_of test k other [] none = refl
none_of test k other (x ∷ L) none =
    let p = or_parts (names_child k x) (list_any (names_child k) L) none in
    or_from (test x) (list_any test L) (other x p.0) (none_of test k other L p.1)

-- of a child that no item before names
pub settled_behind : (before after : List Item) (k : ℕ) → list_any (names_child k) before ≡ false → settled (before ++ after) k ≡ settled after k
settled_behind before after k none =
    settled_parts before after k
    ∙ rw (none_of (is_refusal k) k (refusal_names k) before none, none_of (is_exited k) k (exit_names k) before none, none_of (is_input_end k) k (input_names k) before none, none_of (is_output_end k) k (output_names k) before none)
    refl

-- ---- the children of the exchanges that have ended

abbrev pub opens : List Item → ℕ → Bool
opens L k = not (settled L k)

none_more : (was now : List Item) → ((k : ℕ) → settled was k ≡ true → settled now k ≡ true) → (ks : List ℕ) → list_any (opens was) ks ≡ false → list_any (opens now) ks ≡ false
none_more was now stays [] none = refl
none_more was now stays (k ∷ ks) none =
    let p = or_parts (opens was k) (list_any (opens was) ks) none in
    or_from (opens now k) (list_any (opens now) ks) (ap not (stays k (not_not (settled was k) p.0))) (none_more was now stays ks p.1)
  where
    not_not : (b : Bool) → not b ≡ false → b ≡ true
    not_not true e = refl
    not_not false e = absurd (false≢true (sym e))

-- of two lists with all children settled, one after the other
pub settled_together : (before after : List Item) (c : ℕ) → has_unsettled before c ≡ false → has_unsettled after c ≡ false → has_unsettled (before ++ after) c ≡ false
settled_together before after c a b =
    ap (list_any (opens (before ++ after))) (flat_map-append (child_started c) before after)
    ∙ (list_any-append (opens (before ++ after)) (children before c) (children after c)
    ∙ or_from _ _ (none_more before (before ++ after) (λ k e. settled_left before after k e) (children before c) a)
    (none_more after (before ++ after) (λ k e. settled_right before after k e) (children after c) b))

older_after : (site : Site) (c : ℕ) (e : Exchange) (L : List Item) → has_unsettled e.before c ≡ false → has_unsettled (current_after site c e L).before c ≡ false
older_after site c e [] none = none
older_after site c e (x ∷ L) none = older_after site c (next_of site c e x) L (go (has_ended site c (pushed e x)) refl)
  where
    by_unsettled : (b : Bool) → ends_by site c (pushed e x) b ≡ true → b ≡ false
    by_unsettled true is = absurd (false≢true is)
    by_unsettled false is = refl

    go : (b : Bool) → has_ended site c (pushed e x) ≡ b → has_unsettled (next_by site c (pushed e x) b).before c ≡ false
    go true over = settled_together e.before (e.items ++ x ∷ []) c none (by_unsettled (has_unsettled (e.items ++ x ∷ []) c) over)
    go false on = none

-- before the exchange that goes on all children are settled
pub older_settled : (site : Site) (c : ℕ) (L : List Item) → has_unsettled (current site c L).before c ≡ false
older_settled site c L = older_after site c first_exchange L refl

-- ---- the child of the exchange that goes on

pub none_open : (L : List Item) (ks : List ℕ) → list_any (opens L) ks ≡ false → filter (opens L) ks ≡ []
none_open L [] none = refl
none_open L (k ∷ ks) none =
    let p = or_parts (opens L k) (list_any (opens L) ks) none in
    cond-false (opens L k) (k ∷ filter (opens L) ks) (filter (opens L) ks) p.0 ∙ none_open L ks p.1

-- .. and the other way round
pub filtered_none : (test : ℕ → Bool) (ks : List ℕ) → filter test ks ≡ [] → list_any test ks ≡ false
filtered_none test [] none = refl
filtered_none test (k ∷ ks) none = go (test k) refl (λ rest. filtered_none test ks rest)
  where
    go : (b : Bool) → test k ≡ b → (filter test ks ≡ [] → list_any test ks ≡ false) → list_any test (k ∷ ks) ≡ false
    go true is more = let some : k ∷ filter test ks ≡ [] = sym (cond-true (test k) (k ∷ filter test ks) (filter test ks) is) ∙ none in absurd (cc)
    go false is more = or_from (test k) (list_any test ks) is (more (sym (cond-false (test k) (k ∷ filter test ks) (filter test ks) is) ∙ none))

pub one_open : (L : List Item) (k : ℕ) (b : Bool) → settled L k ≡ b → filter (opens L) (k ∷ []) ≡ option_to_list (if b then None else Some k)
one_open L k true is = cond-false (opens L k) (k ∷ []) [] (ap not is)
one_open L k false is = cond-true (opens L k) (k ∷ []) [] (ap not is)

module _ (site : Site) (c : ℕ) (e : Exchange) (none : has_unsettled e.before c ≡ false) where
  pub older_none : filter (opens (all_of e)) (children e.before c) ≡ []
  older_none = none_open (all_of e) (children e.before c) (none_more e.before (all_of e) (λ k is. settled_left e.before e.items k is) (children e.before c) none)

  now_open : (legs : List Leg) (run : Option View) → KnowsRuns NoMore site c e false legs run → filter (opens (all_of e)) (children e.items c) ≡ option_to_list (unsettled_of run)
  now_open legs None r = ap (filter (opens (all_of e))) r.1
  now_open legs (Some v) r =
      let last = is_last NoMore site c e false legs v r in
      let at : settled (all_of e) r.leg.child ≡ is_settled v =
      settled_behind e.before e.items r.leg.child (subst (λ (k : ℕ). list_any (names_child k) e.before ≡ false) r.known.is.number r.known.unnamed)
      ∙ sym (last_settled NoMore site c e false legs v r) in
      let number : r.leg.child ≡ v.number = sym (ap number_in r.held_as ∙ r.known.is.number) in
      ap (filter (opens (all_of e))) last.are
      ∙ (filter-append (opens (all_of e)) (children_of_legs r.older) (r.leg.child ∷ [])
      ∙ (ap (λ (l : List ℕ). l ++ filter (opens (all_of e)) (r.leg.child ∷ []))
      (none_open (all_of e) (children_of_legs r.older) (none_more e.items (all_of e) (λ k is. settled_right e.before e.items k is) (children_of_legs r.older) last.settled_then))
      ∙ (one_open (all_of e) r.leg.child (is_settled v) at ∙ ap (λ (k : ℕ). option_to_list (if is_settled v then None else Some k)) number)))

  all_open : (next : ℕ) (legs : List Leg) (run : Option View) → KnowsChildren site c e false next legs run → filter (opens (all_of e)) (children (all_of e) c) ≡ option_to_list (unsettled_of run)
  all_open next legs run k =
      ap (filter (opens (all_of e))) (flat_map-append (child_started c) e.before e.items)
      ∙ (filter-append (opens (all_of e)) (children e.before c) (children e.items c)
      ∙ (ap (λ (l : List ℕ). l ++ filter (opens (all_of e)) (children e.items c)) older_none ∙ now_open legs run k.runs))

pub unsettled_is : (site : Site) (conn : HttpConn) (L : List Item) → ConnStands site conn L → filter (λ k. not (settled L k)) (children L (number_of conn)) ≡ option_to_list (unsettled_child_of conn)
unsettled_is site conn L t =
    let c = number_of conn in
    let s = site_of conn in
    let none : has_unsettled t.exchange.before c ≡ false = ap (λ (e : Exchange). has_unsettled e.before c) t.rest.now ∙ older_settled s c L in
    subst (λ (l : List Item). filter (opens l) (children l c) ≡ option_to_list (unsettled_child_of conn)) (ap all_of t.rest.now ∙ all_of-current s c L)
    (all_open s c t.exchange none t.next t.legs conn.run t.rest.children)
