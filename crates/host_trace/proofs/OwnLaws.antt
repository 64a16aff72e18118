-- The items of one connection, in a trace that goes on.
use Rattle.std.proofs.Common.{◌≡◌, ℕ, Bool, true, false, List, [], ◌∷◌, ◌++◌, refl, sym, ◌∙◌, ap, append_assoc, append-nil, add-zero, ◌+◌}
use Rattle.std.specs.Prelude.{if◌then◌else◌, ◌||◌, ◌&&◌, ◌==◌}
use Rattle.std.specs.List.{AllByRecursion}
use Rattle.std.proofs.lemmas.Bool.{cond-false}
use Rattle.host_trace.specs.declared.items.Act.TheVariants.{Start}
use Rattle.host_trace.specs.declared.items.Item.{Item}
use Rattle.host_trace.specs.declared.items.Item.TheVariants.{Out}
use Rattle.host_trace.specs.Kinds.{is_accepted, is_tick, is_stop, child_started, names}
use Rattle.host_trace.specs.Projections.{own, own_after, is_own, children, accepted_count, names_one_of}
use Rattle.host_trace.proofs.ProjectionLaws.{children-push, accepted_count-push}

pub own_after-append : (before : List Item) (c : ℕ) (items more : List Item) →
    own_after before c (items ++ more) ≡ own_after before c items ++ own_after (before ++ items) c more
own_after-append before c [] more = ap (λ b. own_after b c more) (sym (append-nil before))
own_after-append before c (x ∷ items) more =
    let later : own_after (before ++ x ∷ []) c (items ++ more)
    ≡ own_after (before ++ x ∷ []) c items ++ own_after (before ++ x ∷ items) c more =
    own_after-append (before ++ x ∷ []) c items more
    ∙ ap (λ b. own_after (before ++ x ∷ []) c items ++ own_after b c more) (append_assoc before (x ∷ []) items) in
    elim (is_own c (children before c) (accepted_count before) x)
    as (λ b. (if b then x ∷ own_after (before ++ x ∷ []) c (items ++ more) else own_after (before ++ x ∷ []) c (items ++ more))
    ≡ (if b then x ∷ own_after (before ++ x ∷ []) c items else own_after (before ++ x ∷ []) c items) ++ own_after (before ++ x ∷ items) c more) [
      | true ↦ ap (λ l. x ∷ l) later
      | false ↦ later
    ]

-- a trace that goes on
pub own-append : (T : List Item) (c : ℕ) (more : List Item) → own (T ++ more) c ≡ own T c ++ own_after T c more
own-append T c more = own_after-append [] c T more

-- one more item
pub own-push : (T : List Item) (c : ℕ) (x : Item) →
    own (T ++ x ∷ []) c ≡ own T c ++ (if is_own c (children T c) (accepted_count T) x then x ∷ [] else [])
own-push T c x = own-append T c (x ∷ [])

-- an item that does not name c starts no child of c
starts_none : (c : ℕ) (x : Item) → names c x ≡ false → child_started c x ≡ []
starts_none c (Out (Start k d j hop launch)) other = cond-false _ _ _ other
starts_none c _ other = refl

abbrev pub IsOther : ℕ → List ℕ → ℕ → Item → Type 0
IsOther c ks count x = (is_own c ks count x ≡ false) × (is_accepted x ≡ false)

left_false : (a b : Bool) → (a || b) ≡ false → a ≡ false
left_false true b both = absurd (cc)
left_false false b both = refl

right_false : (a b : Bool) → (a || b) ≡ false → b ≡ false
right_false true b both = absurd (cc)
right_false false b both = both

not_named : (c : ℕ) (ks : List ℕ) (count : ℕ) (x : Item) → is_own c ks count x ≡ false → names c x ≡ false
not_named c ks count x other =
    right_false (is_accepted x && count == c) (names c x)
    (left_false (is_accepted x && count == c || names c x) (names_one_of ks x)
    (left_false (is_accepted x && count == c || names c x || names_one_of ks x) (is_tick x)
    (left_false (is_accepted x && count == c || names c x || names_one_of ks x || is_tick x) (is_stop x) other)))

-- what others do, where nobody new is accepted, leaves the items of c as they were
pub own_after-others : (T : List Item) (c : ℕ) (items : List Item) →
    AllByRecursion (IsOther c (children T c) (accepted_count T)) items → own_after T c items ≡ []
own_after-others T c [] others = refl
own_after-others T c (x ∷ items) others =
    let named = not_named c (children T c) (accepted_count T) x others.0.0 in
    let same : children (T ++ x ∷ []) c ≡ children T c =
    children-push T x c ∙ (ap (λ ks. children T c ++ ks) (starts_none c x named) ∙ append-nil (children T c)) in
    let count : accepted_count (T ++ x ∷ []) ≡ accepted_count T =
    accepted_count-push T x ∙ (ap (λ (b : Bool). accepted_count T + (if b then 1 else 0)) others.0.1 ∙ add-zero (accepted_count T)) in
    let rest : AllByRecursion (IsOther c (children (T ++ x ∷ []) c) (accepted_count (T ++ x ∷ []))) items = rw (same, count) others.1 in
    cond-false (is_own c (children T c) (accepted_count T) x) _ _ others.0.0 ∙ own_after-others (T ++ x ∷ []) c items rest

pub own-others : (T : List Item) (c : ℕ) (items : List Item) →
    AllByRecursion (IsOther c (children T c) (accepted_count T)) items → own (T ++ items) c ≡ own T c
own-others T c items others =
    own-append T c items ∙ (ap (λ more. own T c ++ more) (own_after-others T c items others) ∙ append-nil (own T c))
