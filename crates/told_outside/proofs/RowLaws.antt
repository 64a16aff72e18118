-- What is put among rows, and the bound of those that were named.
use Rattle.std.proofs.Common.{◌≡◌, ◌≤◌, ◌<◌, ◌⊎◌, ℕ, ◌+◌, Bool, true, false, Option, Some, None, IfSome, refl, sym, ◌∙◌, ap, subst, inl, inr, arith}
use Rattle.std.specs.Prelude.{◌==◌, nat_lt, if◌then◌else◌}
use Rattle.std.specs.HashMap.{HashMap}
use Rattle.std.proofs.lemmas.Bool.{cond-true, cond-false, eqb-true, cases_Bool, ltb-true, ltb-false}
use Rattle.told_outside.specs.Rows.{row_at, Puts, past, kept}

pub some_is : {A : Type 0} (a b : A) → Some a ≡ Some b → a ≡ b
some_is a b e = cc

-- a row that is there now is the one that was put, or was there before under another number
pub put_cases : {A S : Type 0} (old new : HashMap ℕ A S) (n q : ℕ) (row : Option A) (t : A) → Puts old n row new → row_at new q ≡ Some t →
    ((q ≡ n) × (row ≡ Some t)) ⊎ (((q == n) ≡ false) × (row_at old q ≡ Some t))
put_cases old new n q row t puts e =
    elim (cases_Bool (q == n)) [
      | inl holds ↦ inl (eqb-true q n holds, sym (cond-true _ _ _ holds) ∙ puts q t e)
      | inr fails ↦ inr (fails, sym (cond-false _ _ _ fails) ∙ puts q t e)
    ]

pub past_both : (named d q : ℕ) → past named d ≤ q → (named ≤ q) × (d + 1 ≤ q)
past_both named d q h =
    elim (cases_Bool (nat_lt named (d + 1))) [
      | inl below ↦ let e : d + 1 ≤ q = subst (λ n. n ≤ q) (cond-true _ _ _ below) h in let b : named < d + 1 = ltb-true named (d + 1) below in let l : named ≤ q = omega arith in (l, e)
      | inr above ↦ let e : named ≤ q = subst (λ n. n ≤ q) (cond-false _ _ _ above) h in let b : d + 1 ≤ named = ltb-false named (d + 1) above in let l : d + 1 ≤ q = omega arith in (e, l)
    ]

pub not_same : (q d : ℕ) → d + 1 ≤ q → (q == d) ≡ false
not_same q d h =
    elim (cases_Bool (q == d)) [
      | inl is ↦ let e : q ≡ d = eqb-true q d is in absurd (omega arith)
      | inr is ↦ is
    ]

-- what is kept was there, and passes
pub kept_is : {A : Type 0} (test : A → Bool) (o : Option A) (t : A) → kept test o ≡ Some t → (o ≡ Some t) × (test t ≡ true)
kept_is test None t e = absurd (cc)
kept_is test (Some s) t e = by_case (test s) refl e
  where
    by_case : (b : Bool) → test s ≡ b → (if b then Some s else None) ≡ Some t → (Some s ≡ Some t) × (test t ≡ true)
    by_case true is e = (e, ap test (sym (some_is s t e)) ∙ is)
    by_case false is e = absurd (cc)

pub kept_row : {A : Type 0} (test : A → Bool) (P : A → Type 0) (o row : Option A) → row ≡ kept test o → IfSome o P → (t : A) → row ≡ Some t → P t × (test t ≡ true)
kept_row test P o row is h t e =
    let k = kept_is test o t (sym is ∙ e) in
    (subst (λ p. IfSome p P) k.0 h, k.1)
