-- What a character of a shown text is written as.
use Rattle.std.proofs.Common.{◌≡◌, ℕ, suc, ◌+◌, ◌<◌, ◌≤◌, ◌^◌, ◌-◌, List, ◌∷◌, [], ◌++◌, Some, true, arith, refl, sym, ◌∙◌, ap, length, get_or, take, encode_utf8, IsUtf8}
use Rattle.std.proofs.lemmas.Fmt.{hex_byte}
use Rattle.std.proofs.lemmas.Grind.{flat_map-append}
use Rattle.std.proofs.lemmas.List.{append-nil, take_more, take_all}
use Rattle.std.proofs.lemmas.Str.{chars_past_char, chars-nil}
use Rattle.std.specs.Fmt.{digits, digits_output, format_spec, option_append, styled_digits_output}
use Rattle.std.specs.List.{flat_map}
use Rattle.std.specs.Str.{chars}
use Rattle.shown_text.specs.Shown.{escaped, is_hidden, shown, shown_char}

-- what `\x{:02X}` writes of a byte
pub escaped-text : (d : _) (s : _) (b : ℕ) → b < 256
    → digits_output d ≡ Some (digits 16 true b) → s ≡ format_spec 32 0 4 2 (2 ^ 64 - 1)
    → option_append (Some (92 ∷ 120 ∷ [])) (styled_digits_output d s) ≡ Some (escaped b)
escaped-text d s b small value options = rw (value, options, hex_byte true b small) refl

-- the first character is shown first
pub shown-next : (text rest : List ℕ) (c : ℕ) → IsUtf8 text → text ≡ encode_utf8 c ++ rest → shown text ≡ shown_char c ++ shown rest
shown-next text rest c valid front = rw (chars_past_char text rest c valid front) refl

-- one byte more
pub escaped-more : (bytes : List ℕ) (i : ℕ) → i < length bytes
    → flat_map escaped (take (i + 1) bytes) ≡ flat_map escaped (take i bytes) ++ escaped (get_or bytes i 0)
escaped-more bytes i inside =
    ap (flat_map escaped) (take_more bytes i 0 inside)
    ∙ flat_map-append escaped (take i bytes) (get_or bytes i 0 ∷ [])
    ∙ ap (λ l. flat_map escaped (take i bytes) ++ l) (append-nil (escaped (get_or bytes i 0)))

-- all of them
pub all-escaped : (c i : ℕ) (bytes : List ℕ) → is_hidden c ≡ true → bytes ≡ encode_utf8 c → length bytes ≤ i
    → flat_map escaped (take i bytes) ≡ shown_char c
all-escaped c i bytes hidden same past = rw (take_all i bytes past, same, hidden) refl

-- nothing is shown as nothing
pub shown-nothing : (text : List ℕ) → length text ≡ 0 → shown text ≡ []
shown-nothing [] none = rw chars-nil refl
shown-nothing (b ∷ bs) none = absurd (omega (arith, none))
