-- What a front is lengthened to.
use Rattle.std.proofs.Common.{◌≡◌, ℕ, ◌+◌, ◌-◌, ◌≤◌, ◌<◌, List, [], ◌∷◌, ◌++◌, ◌∙◌, refl, sym, ap, subst, inl, inr, append-nil, length, take, set, get_or, arith}
use Rattle.std.specs.Prelude.{◌==◌, if◌then◌else◌}
use Rattle.std.proofs.Math.Seq.{take-append-add}
use Rattle.std.proofs.lemmas.Bool.{cases_eq, cases_lt, cond-false, eq-eqb, ne_eqb}
use Rattle.std.proofs.lemmas.List.{get_or-set_other, get_or-set_same, length-append, length-take, length-take-le, take-append-le, take-take, take_all, take_more}
use Rattle.std.proofs.lemmas.List.Concat.{flat_map-append}
use Rattle.host_trace.specs.declared.items.Item.{Item}
use Rattle.host_trace.specs.Kinds.{bytes_written}
use Rattle.host_trace.specs.Projections.{client_out}

pub take_whole : (n : ℕ) (xs ys : List ℕ) → length xs + length ys ≤ n → take n (xs ++ ys) ≡ xs ++ ys
take_whole n xs ys few = take_all n (xs ++ ys) (omega (arith, length-append xs ys))

pub take_part : (n : ℕ) (xs ys : List ℕ) → length xs ≤ n → take n (xs ++ ys) ≡ xs ++ take (n - length xs) ys
take_part n xs ys few =
    let e : length xs + (n - length xs) ≡ n = omega arith in
    subst (λ (m : ℕ). take m (xs ++ ys) ≡ xs ++ take (n - length xs) ys) e (take-append-add xs ys (n - length xs))

-- a front that was cut goes on as the whole does
pub take_front : (n : ℕ) (xs ys : List ℕ) → take n (take n xs ++ ys) ≡ take n (xs ++ ys)
take_front n xs ys =
    elim (cases_lt (length xs) n) [
      | inl h ↦ ap (λ (zs : List ℕ). take n (zs ++ ys)) (take_all n xs (omega arith))
      | inr h ↦
          let l : length (take n xs) ≡ n = length-take-le n xs h in
          take-append-le n (take n xs) ys (omega arith) ∙ take-take n n xs (omega arith) ∙ sym (take-append-le n xs ys h)
    ]

pub take_same : (n : ℕ) (xs ys : List ℕ) → length xs ≤ n → ys ≡ [] → xs ≡ take n (xs ++ ys)
take_same n xs ys few none = rw (none, append-nil) (sym (take_all n xs few))

-- one front was lengthened, and the others have nothing to add
pub lengthened_at : (fronts : List (List ℕ)) (c : ℕ) (front bytes : List ℕ) → c < length fronts → front ≡ take 12 (get_or fronts c [] ++ bytes) →
    ((d : ℕ) → d < length fronts → length (get_or fronts d []) ≤ 12) → (added : ℕ → List ℕ) → ((d : ℕ) → added d ≡ (if d == c then bytes else [])) →
    (d : ℕ) → d < length fronts → get_or (set fronts c front) d [] ≡ take 12 (get_or fronts d [] ++ added d)
lengthened_at fronts c front bytes lt is short added adds d h =
    elim (cases_eq d c) [
      | inl e ↦
          let whole : added c ≡ bytes = adds c ∙ rw (eq-eqb c c refl) refl in
          rw (e, get_or-set_same fronts c front [] lt, whole) is
      | inr n ↦
          let none : added d ≡ [] = adds d ∙ cond-false (d == c) bytes [] (ne_eqb d c n) in
          rw (get_or-set_other fronts c d front [] n) (take_same 12 (get_or fronts d []) (added d) (short d h) none)
    ]

-- one item more
pub front_more : (T : List Item) (i : ℕ) (item : Item) (c : ℕ) (old new : List ℕ) → i < length T → item ≡ get_or T i item → old ≡ take 12 (client_out (take i T) c) →
    new ≡ take 12 (old ++ bytes_written c item) → new ≡ take 12 (client_out (take (i + 1) T) c)
front_more T i item c old new lt at was is =
    let grown : client_out (take (i + 1) T) c ≡ client_out (take i T) c ++ bytes_written c item =
    ap (λ (U : List Item). client_out U c) (take_more T i item lt) ∙ flat_map-append (bytes_written c) (take i T) (get_or T i item ∷ [])
    ∙ ap (λ (x : Item). client_out (take i T) c ++ (bytes_written c x ++ [])) (sym at) ∙ ap (λ (xs : List ℕ). client_out (take i T) c ++ xs) (append-nil (bytes_written c item)) in
    is ∙ ap (λ (xs : List ℕ). take 12 (xs ++ bytes_written c item)) was ∙ take_front 12 (client_out (take i T) c) (bytes_written c item) ∙ ap (λ (xs : List ℕ). take 12 xs) (sym grown)

pub front_short : (old xs : List ℕ) → old ≡ take 12 xs → length old ≤ 12
front_short old xs is = omega (arith, ap length is, length-take 12 xs)
