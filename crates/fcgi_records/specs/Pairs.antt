-- Pairs of a name and a value (FastCGI 1.0, 3.4): the length of the name, the length of the value, the name, the value.
use Rattle.std.specs.Prelude.{ℕ, zero, suc, ◌+◌, ◌-◌, ◌*◌, nat_lt, nat_le, List, [], ◌∷◌, length, take, drop, Option, Some, None, option_map, option_and_then, if◌then◌else◌}
use Rattle.std.specs.List.{fold}
use Rattle.std.specs.Str.{bytes_eq}
use Rattle.host_base.specs.declared.fields.Field.{Field}

-- ---- one length

-- a length and what stands behind it
pub record Sized : Type 0 where
  pub len : ℕ
  pub rest : List ℕ

abbrev pub sized : ℕ → List ℕ → Sized
sized len rest = record { len = len; rest = rest }

-- four bytes with the high bit of the first set, the greatest first
abbrev pub long_length : ℕ → List ℕ → Option Sized
long_length first (second ∷ third ∷ fourth ∷ rest) = Some (sized (((first - 128) * 256 + second) * 65536 + (third * 256 + fourth)) rest)
long_length first _ = None

-- a byte below 128, or four
abbrev pub length_of : List ℕ → Option Sized
length_of [] = None
length_of (byte ∷ rest) = if nat_lt byte 128 then Some (sized byte rest) else long_length byte rest

-- ---- one pair

-- a pair and what stands behind it
pub record Cut : Type 0 where
  pub name : List ℕ
  pub value : List ℕ
  pub rest : List ℕ

abbrev pub cut : List ℕ → List ℕ → List ℕ → Cut
cut name value rest = record { name = name; value = value; rest = rest }

-- by the two lengths and what stands behind them
abbrev pub cut_by : ℕ → ℕ → List ℕ → Option Cut
cut_by name_len value_len rest =
    if nat_le (name_len + value_len) (length rest)
    then Some (cut (take name_len rest) (take value_len (drop name_len rest)) (drop value_len (drop name_len rest)))
    else None

abbrev pub cut_behind : Sized → Option Cut
cut_behind name = option_and_then (λ value. cut_by name.len value.len value.rest) (length_of name.rest)

abbrev pub front_pair : List ℕ → Option Cut
front_pair s = option_and_then cut_behind (length_of s)

-- ---- all pairs

abbrev pub field_with : List ℕ → List ℕ → Field
field_with name value = record { name = name; value = value }

abbrev pub field_of : Cut → Field
field_of cut = field_with cut.name cut.value

-- of equal names the last value stands at the first one's place
abbrev pub put : Field → List Field → List Field
put f [] = f ∷ []
put f (g ∷ fields) = if bytes_eq f.name g.name then f ∷ fields else g ∷ put f fields

-- the pairs of a string that has nothing else, in their order, for at most so many. Each has two bytes at least.
abbrev pub cut_by_front : (List ℕ → Option (List Field)) → Option Cut → Option (List Field)
cut_by_front later None = None
cut_by_front later (Some cut) = option_map (λ fields. field_of cut ∷ fields) (later cut.rest)

abbrev pub cut_some : ℕ → List ℕ → Option (List Field)
cut_some most [] = Some []
cut_some zero (byte ∷ s) = None
cut_some (suc most) (byte ∷ s) = cut_by_front (cut_some most) (front_pair (byte ∷ s))

-- the pairs as they stand
abbrev pub pairs_in : List ℕ → Option (List Field)
pairs_in s = cut_some (length s) s

abbrev pub put_into : List Field → Field → List Field
put_into fields f = put f fields

abbrev pub merged : List Field → List Field
merged fields = fold put_into [] fields

abbrev pub pairs_of : List ℕ → Option (List Field)
pairs_of s = option_map merged (pairs_in s)
