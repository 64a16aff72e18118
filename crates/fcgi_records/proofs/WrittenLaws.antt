-- Pairs are read as they were written, and one more pair stands in the place of its name.
use Rattle.std.proofs.Common.{arith, ◌≡◌, ℕ, suc, ◌+◌, ◌-◌, ◌*◌, ◌/◌, ◌%◌, ◌≤◌, Bool, true, false, List, [], ◌∷◌, ◌++◌, length, take, drop, refl, sym, ap, ◌∙◌, Option, Some, eqb, length-append}
use Rattle.std.specs.Prelude.{map, find, option_map, option_and_then, if◌then◌else◌, ◌||◌}
use Rattle.std.specs.List.{flat_map, list_any}
use Rattle.std.specs.Str.{bytes_eq}
use Rattle.std.proofs.lemmas.Bool.{cond-true, cond-false, le-leb, le-ltb, lt-ltb, ne_eqb}
use Rattle.std.proofs.lemmas.List.{append_assoc, take_at, drop_at}
use Rattle.std.proofs.lemmas.Slice.Eq.{bytes_eq-Decides}
use Rattle.host_base.specs.declared.fields.Field.{Field}
use Rattle.fcgi_records.specs.Pairs.{Sized, sized, cut, length_of, cut_by, cut_behind, front_pair, put}
use Rattle.fcgi_records.specs.PairLaws.{Written, length_bytes, HasForm, IsWritten, written_bytes, field_written, PairsAreRead, is_of_name, name_of, LastValueStands}
use Rattle.fcgi_records.proofs.PairLaws.{front_is}

-- ---- a length

long_again : (len : ℕ) → ((128 + len / 16777216 - 128) * 256 + len / 65536 % 256) * 65536 + (len / 256 % 256 * 256 + len % 256) ≡ len
long_again len = omega arith

length_read : (long : Bool) (len : ℕ) (more : List ℕ) → HasForm long len → length_of (length_bytes long len ++ more) ≡ Some (sized len more)
length_read false len more below = cond-true _ _ _ (lt-ltb len 128 below)
length_read true len more form =
    cond-false _ _ _ (le-ltb (128 + len / 16777216) 128 (omega arith)) ∙ ap (λ (n : ℕ). Some (sized n more)) (long_again len)

length_some : (long : Bool) (len : ℕ) (more : List ℕ) → eqb (length (length_bytes long len ++ more)) 0 ≡ false
length_some false len more = ne_eqb (suc (length more)) 0 (λ none. omega arith)
length_some true len more = ne_eqb (suc (suc (suc (suc (length more))))) 0 (λ none. omega arith)

-- ---- a pair

apart : (w : Written) (more : List ℕ)
    → written_bytes w ++ more ≡ length_bytes w.long_name (length w.name) ++ (length_bytes w.long_value (length w.value) ++ (w.name ++ (w.value ++ more)))
apart w more =
    let name_len = length_bytes w.long_name (length w.name) in
    let value_len = length_bytes w.long_value (length w.value) in
    append_assoc (name_len ++ value_len ++ w.name) w.value more
    ∙ append_assoc (name_len ++ value_len) w.name (w.value ++ more)
    ∙ append_assoc name_len value_len (w.name ++ (w.value ++ more))

cut_read : (name value more : List ℕ) → cut_by (length name) (length value) (name ++ (value ++ more)) ≡ Some (cut name value more)
cut_read name value more =
    let both = length-append name (value ++ more) in
    let back = length-append value more in
    let behind : drop (length name) (name ++ (value ++ more)) ≡ value ++ more = drop_at name (value ++ more) (length name) refl in
    let fits : length name + length value ≤ length (name ++ (value ++ more)) = omega arith in
    cond-true _ _ _ (le-leb _ _ fits)
    ∙ ap (λ (n : List ℕ). Some (cut n (take (length value) (drop (length name) (name ++ (value ++ more)))) (drop (length value) (drop (length name) (name ++ (value ++ more)))))) (take_at name (value ++ more) (length name) refl)
    ∙ ap (λ (s : List ℕ). Some (cut name (take (length value) s) (drop (length value) s))) behind
    ∙ ap (λ (v : List ℕ). Some (cut name v (drop (length value) (value ++ more)))) (take_at value more (length value) refl)
    ∙ ap (λ (r : List ℕ). Some (cut name value r)) (drop_at value more (length value) refl)

pair_read : (w : Written) (more : List ℕ) → IsWritten w → front_pair (written_bytes w ++ more) ≡ Some (cut w.name w.value more)
pair_read w more is =
    let values : List ℕ = w.name ++ (w.value ++ more) in
    ap front_pair (apart w more)
    ∙ ap (λ (o : Option Sized). option_and_then cut_behind o) (length_read w.long_name (length w.name) (length_bytes w.long_value (length w.value) ++ values) is.0)
    ∙ ap (λ (o : Option Sized). option_and_then (λ (v : Sized). cut_by (length w.name) v.len v.rest) o) (length_read w.long_value (length w.value) values is.1)
    ∙ cut_read w.name w.value more

pub pairs_are_read : PairsAreRead
pairs_are_read [] all = refl
pairs_are_read (w ∷ ws) all =
    let some : eqb (length (written_bytes w ++ flat_map written_bytes ws)) 0 ≡ false =
    ap (λ (s : List ℕ). eqb (length s) 0) (apart w (flat_map written_bytes ws))
    ∙ length_some w.long_name (length w.name) (length_bytes w.long_value (length w.value) ++ (w.name ++ (w.value ++ flat_map written_bytes ws))) in
    front_is (written_bytes w ++ flat_map written_bytes ws) w.name w.value (flat_map written_bytes ws) some (pair_read w (flat_map written_bytes ws) all.0)
    ∙ ap (λ (o : Option (List Field)). option_map (λ (later : List Field). field_written w ∷ later) o) (pairs_are_read ws all.1)

-- ---- one more pair

module _ (f : Field) (name : List ℕ) where
  abbrev Last : List Field → Type 0
  Last fields = find (is_of_name name) (put f fields) ≡ (if bytes_eq name f.name then Some f else find (is_of_name name) fields)

  -- in the place of a pair of its name
  last_there : (g : Field) (fields : List Field) → f.name ≡ g.name → (b : Bool) → bytes_eq name f.name ≡ b
      → find (is_of_name name) (f ∷ fields) ≡ (if bytes_eq name f.name then Some f else find (is_of_name name) (g ∷ fields))
  last_there g fields there true same = cond-true _ _ _ same ∙ sym (cond-true _ _ _ same)
  last_there g fields there false other =
      let not_there : bytes_eq name g.name ≡ false = ap (λ (n : List ℕ). bytes_eq name n) (sym there) ∙ other in
      cond-false _ _ _ other ∙ sym (cond-false _ _ _ not_there) ∙ sym (cond-false _ _ _ other)

  -- behind a pair of another name
  last_behind : (g : Field) (fields : List Field) → bytes_eq f.name g.name ≡ false → Last fields → (b : Bool) → bytes_eq name g.name ≡ b → (d : Bool) → bytes_eq name f.name ≡ d
      → find (is_of_name name) (g ∷ put f fields) ≡ (if bytes_eq name f.name then Some f else find (is_of_name name) (g ∷ fields))
  last_behind g fields apart later true here true there =
      let one : name ≡ g.name = (bytes_eq-Decides name g.name).0 here in
      let two : name ≡ f.name = (bytes_eq-Decides name f.name).0 there in
      let same : bytes_eq f.name g.name ≡ true = (bytes_eq-Decides f.name g.name).1 (sym two ∙ one) in
      absurd (cc)
  last_behind g fields apart later true here false there = cond-true _ _ _ here ∙ sym (cond-true _ _ _ here) ∙ sym (cond-false _ _ _ there)
  last_behind g fields apart later false here true there = cond-false _ _ _ here ∙ later ∙ cond-true _ _ _ there ∙ sym (cond-true _ _ _ there)
  last_behind g fields apart later false here false there =
      cond-false _ _ _ here ∙ later ∙ cond-false _ _ _ there ∙ sym (cond-false _ _ _ here) ∙ sym (cond-false _ _ _ there)

  last_if : (g : Field) (fields : List Field) → Last fields → (b : Bool) → bytes_eq f.name g.name ≡ b → Last (g ∷ fields)
  last_if g fields later true same =
      ap (λ (fs : List Field). find (is_of_name name) fs) (cond-true (bytes_eq f.name g.name) (f ∷ fields) (g ∷ put f fields) same)
      ∙ last_there g fields ((bytes_eq-Decides f.name g.name).0 same) (bytes_eq name f.name) refl
  last_if g fields later false other =
      ap (λ (fs : List Field). find (is_of_name name) fs) (cond-false (bytes_eq f.name g.name) (f ∷ fields) (g ∷ put f fields) other)
      ∙ last_behind g fields other later (bytes_eq name g.name) refl (bytes_eq name f.name) refl

  last_value : (fields : List Field) → Last fields
  last_value [] = refl
  last_value (g ∷ fields) = last_if g fields (last_value fields) (bytes_eq f.name g.name) refl

module _ (f : Field) where
  abbrev named : Bool → List (List ℕ) → List (List ℕ)
  named there names = if there then names else names ++ f.name ∷ []

  abbrev Named : List Field → Type 0
  Named fields = map name_of (put f fields) ≡ named (list_any (is_of_name f.name) fields) (map name_of fields)

  named_more : (b : Bool) (name : List ℕ) (names : List (List ℕ)) → name ∷ named b names ≡ named b (name ∷ names)
  named_more true name names = refl
  named_more false name names = refl

  named_if : (g : Field) (fields : List Field) → Named fields → (b : Bool) → bytes_eq f.name g.name ≡ b → Named (g ∷ fields)
  named_if g fields later true same =
      ap (λ (fs : List Field). map name_of fs) (cond-true (bytes_eq f.name g.name) (f ∷ fields) (g ∷ put f fields) same)
      ∙ ap (λ (n : List ℕ). n ∷ map name_of fields) ((bytes_eq-Decides f.name g.name).0 same)
      ∙ sym (ap (λ (b : Bool). named (b || list_any (is_of_name f.name) fields) (g.name ∷ map name_of fields)) same)
  named_if g fields later false other =
      ap (λ (fs : List Field). map name_of fs) (cond-false (bytes_eq f.name g.name) (f ∷ fields) (g ∷ put f fields) other)
      ∙ ap (λ (names : List (List ℕ)). g.name ∷ names) later
      ∙ named_more (list_any (is_of_name f.name) fields) g.name (map name_of fields)
      ∙ sym (ap (λ (b : Bool). named (b || list_any (is_of_name f.name) fields) (g.name ∷ map name_of fields)) other)

  name_order : (fields : List Field) → Named fields
  name_order [] = refl
  name_order (g ∷ fields) = named_if g fields (name_order fields) (bytes_eq f.name g.name) refl

pub last_value_stands : LastValueStands
last_value_stands f fields = record { value = λ name. last_value f name fields; names = name_order f fields }
