-- Pairs one after another.
use Rattle.std.proofs.Common.{arith, ◌≡◌, ℕ, zero, suc, ◌+◌, ◌-◌, ◌<◌, ◌≤◌, false, List, [], ◌∷◌, length, take, drop, refl, sym, ap, ◌∙◌, Option, Some, None, inl, inr, leb, ltb, length-drop, eqb, ◌*◌}
use Rattle.std.specs.Prelude.{option_map, option_and_then}
use Rattle.std.specs.List.{fold}
use Rattle.host_base.specs.declared.fields.Field.{Field}
use Rattle.host_base.proofs.SplitLaws.{chosen}
use Rattle.fcgi_records.specs.Pairs.{Sized, Cut, sized, cut, put, field_with, length_of, long_length, cut_by, cut_behind, front_pair, field_of, cut_some, cut_by_front, pairs_in, pairs_of, put_into}

-- ---- a pair has a byte at least

and_then_some : {X Y : Type 0} (f : X → Option Y) (o : Option X) (y : Y) → option_and_then f o ≡ Some y → (x : X) × (o ≡ Some x) × (f x ≡ Some y)
and_then_some f None y is = absurd (cc)
and_then_some f (Some x) y is = (x, refl, is)

long_less : (first : ℕ) (s : List ℕ) (r : Sized) → long_length first s ≡ Some r → length r.rest < suc (length s)
long_less first [] r is = absurd (cc)
long_less first (second ∷ []) r is = absurd (cc)
long_less first (second ∷ third ∷ []) r is = absurd (cc)
long_less first (second ∷ third ∷ fourth ∷ rest) r is =
    let same : sized (((first - 128) * 256 + second) * 65536 + (third * 256 + fourth)) rest ≡ r = cc in
    let len : length rest ≡ length r.rest = ap (λ (q : Sized). length q.rest) same in
    omega arith

sized_less : (s : List ℕ) (r : Sized) → length_of s ≡ Some r → length r.rest < length s
sized_less [] r is = absurd (cc)
sized_less (byte ∷ rest) r is =
    elim (chosen (ltb byte 128) (Some (sized byte rest)) (long_length byte rest) (Some r) is) [
      | inl short ↦
          let same : sized byte rest ≡ r = cc in
          let len : length rest ≡ length r.rest = ap (λ (q : Sized). length q.rest) same in
          omega arith
      | inr long ↦ long_less byte rest r long.1
    ]

cut_less : (s : List ℕ) (r : Cut) → front_pair s ≡ Some r → length r.rest < length s
cut_less s r is =
    let name = and_then_some cut_behind (length_of s) r is in
    let value = and_then_some (λ (v : Sized). cut_by name.0.len v.len v.rest) (length_of name.0.rest) r name.2 in
    let first = sized_less s name.0 name.1 in
    let second = sized_less name.0.rest value.0 value.1 in
    let bytes = value.0.rest in
    elim (chosen (leb (name.0.len + value.0.len) (length bytes)) (Some (cut (take name.0.len bytes) (take value.0.len (drop name.0.len bytes)) (drop value.0.len (drop name.0.len bytes)))) None (Some r) value.2) [
      | inr none ↦ absurd (cc)
      | inl found ↦
          let same : cut (take name.0.len bytes) (take value.0.len (drop name.0.len bytes)) (drop value.0.len (drop name.0.len bytes)) ≡ r = cc in
          let len : length (drop value.0.len (drop name.0.len bytes)) ≡ length r.rest = ap (λ (q : Cut). length q.rest) same in
          let one = length-drop value.0.len (drop name.0.len bytes) in
          let two = length-drop name.0.len bytes in
          omega arith
    ]

-- ---- no more pairs are asked for than there are bytes

cut_enough : (a b : ℕ) (s : List ℕ) → length s ≤ a → length s ≤ b → cut_some a s ≡ cut_some b s
cut_enough a b [] at_a at_b = refl
cut_enough zero b (byte ∷ s) at_a at_b = absurd (omega arith)
cut_enough (suc a) zero (byte ∷ s) at_a at_b = absurd (omega arith)
cut_enough (suc a) (suc b) (byte ∷ s) at_a at_b =
    by_cut (λ t here there. cut_enough a b t here there) (front_pair (byte ∷ s)) refl
  where
    by_cut : ((t : List ℕ) → length t ≤ a → length t ≤ b → cut_some a t ≡ cut_some b t)
        → (o : Option Cut) → front_pair (byte ∷ s) ≡ o → cut_by_front (cut_some a) o ≡ cut_by_front (cut_some b) o
    by_cut same None is = refl
    by_cut same (Some r) is =
        let less = cut_less (byte ∷ s) r is in
        ap (λ later. option_map (λ (fields : List Field). field_of r ∷ fields) later) (same r.rest (omega arith) (omega arith))

-- ---- the pairs of all, by those so far and those of the rest

with_one : (fields : List Field) (f : Field) (o : Option (List Field))
    → option_map (fold put_into fields) (option_map (λ (later : List Field). f ∷ later) o) ≡ option_map (fold put_into (put f fields)) o
with_one fields f None = refl
with_one fields f (Some later) = refl

pub front_is : (rest name value more : List ℕ) → eqb (length rest) 0 ≡ false → front_pair rest ≡ Some (cut name value more)
    → pairs_in rest ≡ option_map (λ (later : List Field). field_of (cut name value more) ∷ later) (pairs_in more)
front_is [] name value more some is = absurd (cc)
front_is (byte ∷ s) name value more some is =
    let less = cut_less (byte ∷ s) (cut name value more) is in
    ap (cut_by_front (cut_some (length s))) is
    ∙ ap (λ later. option_map (λ (fields : List Field). field_of (cut name value more) ∷ fields) later) (cut_enough (length s) (length more) more (omega arith) (omega arith))

pub pairs_more : (content rest name value more : List ℕ) (fields new : List Field) → eqb (length rest) 0 ≡ false
    → front_pair rest ≡ Some (cut name value more) → new ≡ put (field_with name value) fields
    → pairs_of content ≡ option_map (fold put_into fields) (pairs_in rest) → pairs_of content ≡ option_map (fold put_into new) (pairs_in more)
pairs_more content rest name value more fields new some is new_is so_far =
    so_far ∙ ap (option_map (fold put_into fields)) (front_is rest name value more some is)
    ∙ with_one fields (field_of (cut name value more)) (pairs_in more)
    ∙ ap (λ (all : List Field). option_map (fold put_into all) (pairs_in more)) (sym new_is)

pub pairs_bad : (content rest : List ℕ) (fields : List Field) → eqb (length rest) 0 ≡ false → front_pair rest ≡ None
    → pairs_of content ≡ option_map (fold put_into fields) (pairs_in rest) → pairs_of content ≡ None
pairs_bad content [] fields some is so_far = absurd (cc)
pairs_bad content (byte ∷ s) fields some is so_far = so_far ∙ ap (λ o. option_map (fold put_into fields) (cut_by_front (cut_some (length s)) o)) is
