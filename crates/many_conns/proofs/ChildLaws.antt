-- The unsettled child of a connection, in its list and by its slot.
use Rattle.std.proofs.Common.{◌≡◌, ℕ, Bool, true, false, List, [], ◌∷◌, Option, Some, None, refl, sym, ◌∙◌, ap, inl, inr}
use Rattle.std.specs.Prelude.{◌==◌, ◌||◌, not, filter, is_some}
use Rattle.std.specs.Option.{option_to_list}
use Rattle.std.proofs.lemmas.Bool.{cases_Bool, or_cases, or_left, or_right, false≢true, cond-true, cond-false}
use Rattle.host_base.specs.declared.site.Site.{Site}
use Rattle.host_trace.specs.declared.items.Item.{Item}
use Rattle.host_trace.specs.Projections.{children}
use Rattle.host_trace.specs.Account.{settled}
use Rattle.own_traces.specs.Whose.{has}
use Rattle.many_conns.specs.Kept.{is_child}
use Rattle.many_conns.specs.Kind.{Kind, Laws}

module _ {C : Type 0} (K : Kind C) (laws : Laws K) where
  pub has_own : (site : Site) (conn : C) (L : List Item) (k : ℕ) → K.stands site conn L → is_child (K.unsettled_child_of conn) k ≡ true → has (children L (K.number_of conn)) k ≡ true
  has_own site conn L k s h = has_filter (children L (K.number_of conn)) (ap (λ ks. has ks k) (laws.unsettled site conn L s) ∙ has_it (K.unsettled_child_of conn) h)
    where
      has_it : (o : Option ℕ) → is_child o k ≡ true → has (option_to_list o) k ≡ true
      has_it None h = absurd (false≢true h)
      has_it (Some j) h = or_left _ _ h

      has_filter : (ks : List ℕ) → has (filter (λ k. not (settled L k)) ks) k ≡ true → has ks k ≡ true
      has_filter [] h = h
      has_filter (j ∷ ks) h = elim (cases_Bool (not (settled L j))) [
        | inl e ↦ elim (or_cases (j == k) _ (sym (ap (λ l. has l k) (cond-true (not (settled L j)) (j ∷ filter (λ k. not (settled L k)) ks) (filter (λ k. not (settled L k)) ks) e)) ∙ h)) [
          | inl here ↦ or_left _ _ here
          | inr later ↦ or_right (j == k) _ (has_filter ks later)
        ]
        | inr e ↦ or_right (j == k) _ (has_filter ks (sym (ap (λ l. has l k) (cond-false (not (settled L j)) (j ∷ filter (λ k. not (settled L k)) ks) (filter (λ k. not (settled L k)) ks) e)) ∙ h))
      ]

  -- ---- its slot

  none_of : (shut : Bool) (o : Option ℕ) → (not shut || is_some o) ≡ false → o ≡ None
  none_of true None e = refl
  none_of true (Some k) e = absurd (false≢true (sym e))
  none_of false o e = absurd (false≢true (sym e))

  pub free_child : (conn : C) → K.needs conn ≡ false → K.unsettled_child_of conn ≡ None
  free_child conn free = none_of (K.was_shut conn) (K.unsettled_child_of conn) (sym (laws.needs_is conn) ∙ free)

  pub fresh_holds : (conn : C) → K.was_shut conn ≡ false → K.needs conn ≡ true
  fresh_holds conn unshut = laws.needs_is conn ∙ ap (λ (b : Bool). not b || is_some (K.unsettled_child_of conn)) unshut
