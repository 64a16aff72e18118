-- Values in a slab in the order of keys: one more, one written, one taken out.
use Rattle.std.proofs.Common.{◌≡◌, ◌≢◌, ℕ, zero, suc, ◌<◌, true, List, [], ◌∷◌, ◌++◌, Option, Some, None, refl, sym, ◌∙◌, ap, arith, length, get_or, set}
use Rattle.std.specs.Prelude.{is_some}
use Rattle.std.specs.List.{remove}
use Rattle.std.specs.Option.{option_to_list}
use Rattle.std.proofs.lemmas.Bool.{false≢true}
use Rattle.std.proofs.lemmas.Grind.{flat_map-append}
use Rattle.slab.specs.Slab.{Slab, get, Updates}
use Rattle.live_conns.specs.Places.{AreKeys, in_order}

-- ---- keys

-- the key is none of these
abbrev pub IsNew : ℕ → List ℕ → Type 0
IsNew key [] = Unit {0}
IsNew key (other ∷ keys) = (other ≢ key) × IsNew key keys

-- each key has a value, and none stands twice
abbrev pub Keyed : {T : Type 0} → Slab T → List ℕ → Type 0
Keyed rows [] = Unit {0}
Keyed rows (key ∷ keys) = (is_some (get rows key) ≡ true) × IsNew key keys × Keyed rows keys

is_new : (key : ℕ) (keys : List ℕ) → ((j d : ℕ) → j < length keys → key ≢ get_or keys j d) → IsNew key keys
is_new key [] other = tt
is_new key (first ∷ keys) other = (λ same. other 0 first (omega arith) (sym same), is_new key keys (λ j d lt. other (suc j) d (omega (arith, lt))))

new_at : (key : ℕ) (keys : List ℕ) (i e : ℕ) → IsNew key keys → i < length keys → get_or keys i e ≢ key
new_at key [] i e n lt = absurd (omega (arith, lt))
new_at key (other ∷ keys) zero e n lt = n.0
new_at key (other ∷ keys) (suc i) e n lt = new_at key keys i e n.1 (omega (arith, lt))

new_push : (key last : ℕ) (keys : List ℕ) → IsNew key keys → last ≢ key → IsNew key (keys ++ last ∷ [])
new_push key last [] n other = (other, tt)
new_push key last (first ∷ keys) n other = (n.0, new_push key last keys n.1 other)

new_less : (key : ℕ) (keys : List ℕ) (i : ℕ) → IsNew key keys → IsNew key (remove keys i)
new_less key [] zero n = tt
new_less key [] (suc i) n = tt
new_less key (other ∷ keys) zero n = n.1
new_less key (other ∷ keys) (suc i) n = (n.0, new_less key keys i n.1)

module _ {T : Type 0} where
  some_is : (o : Option T) → is_some o ≡ true → (x : T) × (o ≡ Some x)
  some_is None e = absurd (false≢true e)
  some_is (Some x) e = (x, refl)

  -- ---- by place

  long_one : (o : Option T) (l : List T) → is_some o ≡ true → length (option_to_list o ++ l) ≡ suc (length l)
  long_one None l e = absurd (false≢true e)
  long_one (Some x) l e = refl

  pub long : (rows : Slab T) (keys : List ℕ) → Keyed rows keys → length (in_order rows keys) ≡ length keys
  long rows [] k = refl
  long rows (key ∷ keys) k = long_one (get rows key) (in_order rows keys) k.0 ∙ ap suc (long rows keys k.2)

  first_is : (o : Option T) (l : List T) (d : T) → is_some o ≡ true → o ≡ Some (get_or (option_to_list o ++ l) 0 d)
  first_is None l d e = absurd (false≢true e)
  first_is (Some x) l d e = refl

  later_is : (o : Option T) (l : List T) (i : ℕ) (d : T) → is_some o ≡ true → get_or (option_to_list o ++ l) (suc i) d ≡ get_or l i d
  later_is None l i d e = absurd (false≢true e)
  later_is (Some x) l i d e = refl

  pub value_at : (rows : Slab T) (keys : List ℕ) (i e : ℕ) (d : T) → Keyed rows keys → i < length keys → get rows (get_or keys i e) ≡ Some (get_or (in_order rows keys) i d)
  value_at rows [] i e d k lt = absurd (omega (arith, lt))
  value_at rows (key ∷ keys) zero e d k lt = first_is (get rows key) (in_order rows keys) d k.0
  value_at rows (key ∷ keys) (suc i) e d k lt =
      value_at rows keys i e d k.2 (omega (arith, lt)) ∙ ap Some (sym (later_is (get rows key) (in_order rows keys) i d k.0))

  -- ---- slabs that say the same at other keys

  same_new : (rows new : Slab T) (key : ℕ) (keys : List ℕ) → ((j : ℕ) → j ≢ key → get new j ≡ get rows j) → IsNew key keys → in_order new keys ≡ in_order rows keys
  same_new rows new key [] others n = refl
  same_new rows new key (other ∷ keys) others n =
      let one = others other n.0 in
      let rest = same_new rows new key keys others n.1 in
      (λ i. option_to_list (one i) ++ rest i)

  keys_same : (rows new : Slab T) (key : ℕ) (keys : List ℕ) → ((j : ℕ) → j ≢ key → get new j ≡ get rows j) → IsNew key keys → Keyed rows keys → Keyed new keys
  keys_same rows new key [] others n k = tt
  keys_same rows new key (other ∷ keys) others n k = (ap is_some (others other n.0) ∙ k.0, k.1, keys_same rows new key keys others n.1 k.2)

  -- ---- a value more, under a key that had none

  pub absent_new : (rows : Slab T) (key : ℕ) (keys : List ℕ) → Keyed rows keys → get rows key ≡ None → IsNew key keys
  absent_new rows key [] k none = tt
  absent_new rows key (other ∷ keys) k none =
      (λ same. false≢true (sym (ap is_some (ap (get rows) same ∙ none)) ∙ k.0), absent_new rows key keys k.2 none)

  pub keys_push : (rows : Slab T) (keys : List ℕ) (key : ℕ) → Keyed rows keys → IsNew key keys → is_some (get rows key) ≡ true → Keyed rows (keys ++ key ∷ [])
  keys_push rows [] key k n some = (some, tt, tt)
  keys_push rows (first ∷ keys) key k n some = (k.0, new_push first key keys k.1 (λ same. n.0 (sym same)), keys_push rows keys key k.2 n.1 some)

  pub pushed_keys : (rows new : Slab T) (keys : List ℕ) (key : ℕ) (x : T) → Keyed rows keys → get rows key ≡ None → Updates rows new key (Some x) → Keyed new (keys ++ key ∷ [])
  pushed_keys rows new keys key x k none u =
      let n : IsNew key keys = absent_new rows key keys k none in
      keys_push new keys key (keys_same rows new key keys u.others n k) n (ap is_some u.changed)

  pub pushed : (rows new : Slab T) (keys : List ℕ) (key : ℕ) (x : T) → Keyed rows keys → get rows key ≡ None → Updates rows new key (Some x)
      → in_order new (keys ++ key ∷ []) ≡ in_order rows keys ++ x ∷ []
  pushed rows new keys key x k none u =
      flat_map-append (λ key. option_to_list (get new key)) keys (key ∷ [])
      ∙ (λ i. same_new rows new key keys u.others (absent_new rows key keys k none) i ++ (option_to_list (u.changed i) ++ []))

  -- ---- a value written

  put_first : (o : Option T) (l : List T) (x : T) → is_some o ≡ true → x ∷ l ≡ set (option_to_list o ++ l) 0 x
  put_first None l x e = absurd (false≢true e)
  put_first (Some y) l x e = refl

  put_later : (o : Option T) (l : List T) (i : ℕ) (x : T) → is_some o ≡ true → option_to_list o ++ set l i x ≡ set (option_to_list o ++ l) (suc i) x
  put_later None l i x e = absurd (false≢true e)
  put_later (Some y) l i x e = refl

  pub written : (rows new : Slab T) (keys : List ℕ) (i e : ℕ) (x : T) → Keyed rows keys → i < length keys → Updates rows new (get_or keys i e) (Some x)
      → in_order new keys ≡ set (in_order rows keys) i x
  written rows new [] i e x k lt u = absurd (omega (arith, lt))
  written rows new (key ∷ keys) zero e x k lt u =
      (λ i. option_to_list (u.changed i) ++ same_new rows new key keys u.others k.1 i) ∙ put_first (get rows key) (in_order rows keys) x k.0
  written rows new (key ∷ keys) (suc i) e x k lt u =
      let other : key ≢ get_or keys i e = λ same. new_at key keys i e k.1 (omega (arith, lt)) (sym same) in
      let rest = written rows new keys i e x k.2 (omega (arith, lt)) u in
      (λ j. option_to_list (u.others key other j) ++ rest j) ∙ put_later (get rows key) (in_order rows keys) i x k.0

  pub written_keys : (rows new : Slab T) (keys : List ℕ) (i e : ℕ) (x : T) → Keyed rows keys → i < length keys → Updates rows new (get_or keys i e) (Some x) → Keyed new keys
  written_keys rows new [] i e x k lt u = absurd (omega (arith, lt))
  written_keys rows new (key ∷ keys) zero e x k lt u = (ap is_some u.changed, k.1, keys_same rows new key keys u.others k.1 k.2)
  written_keys rows new (key ∷ keys) (suc i) e x k lt u =
      let other : key ≢ get_or keys i e = λ same. new_at key keys i e k.1 (omega (arith, lt)) (sym same) in
      (ap is_some (u.others key other) ∙ k.0, k.1, written_keys rows new keys i e x k.2 (omega (arith, lt)) u)

  -- ---- a value taken out

  drop_first : (o : Option T) (l : List T) → is_some o ≡ true → l ≡ remove (option_to_list o ++ l) 0
  drop_first None l e = absurd (false≢true e)
  drop_first (Some y) l e = refl

  drop_later : (o : Option T) (l : List T) (i : ℕ) → is_some o ≡ true → option_to_list o ++ remove l i ≡ remove (option_to_list o ++ l) (suc i)
  drop_later None l i e = absurd (false≢true e)
  drop_later (Some y) l i e = refl

  pub taken : (rows new : Slab T) (keys : List ℕ) (i e : ℕ) → Keyed rows keys → i < length keys → Updates rows new (get_or keys i e) None
      → in_order new (remove keys i) ≡ remove (in_order rows keys) i
  taken rows new [] i e k lt u = absurd (omega (arith, lt))
  taken rows new (key ∷ keys) zero e k lt u = same_new rows new key keys u.others k.1 ∙ drop_first (get rows key) (in_order rows keys) k.0
  taken rows new (key ∷ keys) (suc i) e k lt u =
      let other : key ≢ get_or keys i e = λ same. new_at key keys i e k.1 (omega (arith, lt)) (sym same) in
      let rest = taken rows new keys i e k.2 (omega (arith, lt)) u in
      (λ j. option_to_list (u.others key other j) ++ rest j) ∙ drop_later (get rows key) (in_order rows keys) i k.0

  pub taken_keys : (rows new : Slab T) (keys : List ℕ) (i e : ℕ) → Keyed rows keys → i < length keys → Updates rows new (get_or keys i e) None → Keyed new (remove keys i)
  taken_keys rows new [] i e k lt u = absurd (omega (arith, lt))
  taken_keys rows new (key ∷ keys) zero e k lt u = keys_same rows new key keys u.others k.1 k.2
  taken_keys rows new (key ∷ keys) (suc i) e k lt u =
      let other : key ≢ get_or keys i e = λ same. new_at key keys i e k.1 (omega (arith, lt)) (sym same) in
      (ap is_some (u.others key other) ∙ k.0, new_less key keys i k.1, taken_keys rows new keys i e k.2 (omega (arith, lt)) u)

  -- ---- by index

  pub keyed : (rows : Slab T) (keys : List ℕ) → AreKeys rows keys → Keyed rows keys
  keyed rows [] k = tt
  keyed rows (key ∷ keys) k = (
    k.held 0 key (omega arith),
    is_new key keys (λ j d lt. k.differ 0 (suc j) d (omega arith) (omega (arith, lt))),
    keyed rows keys (record { held = λ j d lt. k.held (suc j) d (omega (arith, lt)); differ = λ i j d less lt. k.differ (suc i) (suc j) d (omega (arith, less)) (omega (arith, lt)) }),
  )

  held_at : (rows : Slab T) (keys : List ℕ) → Keyed rows keys → (i d : ℕ) → i < length keys → is_some (get rows (get_or keys i d)) ≡ true
  held_at rows [] k i d lt = absurd (omega (arith, lt))
  held_at rows (key ∷ keys) k zero d lt = k.0
  held_at rows (key ∷ keys) k (suc i) d lt = held_at rows keys k.2 i d (omega (arith, lt))

  differ_at : (rows : Slab T) (keys : List ℕ) → Keyed rows keys → (i j d : ℕ) → i < j → j < length keys → get_or keys i d ≢ get_or keys j d
  differ_at rows [] k i j d less lt = absurd (omega (arith, lt))
  differ_at rows (key ∷ keys) k i zero d less lt = absurd (omega (arith, less))
  differ_at rows (key ∷ keys) k zero (suc j) d less lt = λ same. new_at key keys j d k.1 (omega (arith, lt)) (sym same)
  differ_at rows (key ∷ keys) k (suc i) (suc j) d less lt = differ_at rows keys k.2 i j d (omega (arith, less)) (omega (arith, lt))

  pub are_keys : (rows : Slab T) (keys : List ℕ) → Keyed rows keys → AreKeys rows keys
  are_keys rows keys k = record { held = λ i d lt. held_at rows keys k i d lt; differ = λ i j d less lt. differ_at rows keys k i j d less lt }
