-- A key decoded into a slice, and decoded whole.
use Rattle.std.proofs.Common.{◌≡◌, ℕ, ◌*◌, ◌==◌, Bool, false, nat_lt, cond, List, length, refl, sym, ap, ◌∙◌, arith, inl, inr}
use Rattle.std.proofs.lemmas.List.{length-append}
use Rattle.std.proofs.lemmas.Bool.{cases_lt, lt-ltb, le-ltb, ne_eqb}
use Rattle.std.specs.declared.option.Option.{Option}
use Rattle.std.specs.declared.option.Option.TheVariants.{None, Some}
use Rattle.std.specs.declared.result.Result.{Result}
use Rattle.std.specs.declared.result.Result.TheVariants.{Ok, Err}
use Rattle.base64.specs.declared.decode.DecodeError.{DecodeError}
use Rattle.base64.specs.declared.decode.DecodeSliceError.{DecodeSliceError}
use Rattle.base64.specs.declared.decode.DecodeSliceError.TheVariants.{OutputSliceTooSmall}
use Rattle.base64.specs.declared.engine.DecodePaddingMode.{DecodePaddingMode}
use Rattle.base64.specs.Decode.{bytes_fit, decode_outcome, decode_slice_result, decoded_bytes, groups_before_last, groups_bytes, groups_error, lone_error, or_else, or_error, suffix_bytes, suffix_error, decode_error}
use Rattle.base64.proofs.Decoding.{length-groups_bytes}
use Rattle.base64.specs.Engines.{standard}
use Rattle.base64.specs.GeneralPurpose.{decode_slice_of}
use Rattle.ws_handshake.specs.Handshake.{gives_bytes, is_key}

-- so many bytes were written
abbrev pub wrote : ℕ → Result ℕ DecodeSliceError → Bool
wrote count (Ok n) = n == count
wrote count (Err e) = false

-- whether it gives n bytes, where it has an error or m bytes
outcome_wrote : (x : Option DecodeError) (bytes : List ℕ) (count : ℕ) (r : Result ℕ DecodeSliceError)
    → wrote count r ≡ (length bytes == count) → wrote count (or_error x r) ≡ gives_bytes count (decode_outcome x bytes)
outcome_wrote None bytes count r is = is
outcome_wrote (Some e) bytes count r is = refl

or_error-or_else : (x y : Option DecodeError) (r : Result ℕ DecodeSliceError) → or_error x (or_error y r) ≡ or_error (or_else x y) r
or_error-or_else None y r = refl
or_error-or_else (Some e) y r = refl

fits_wrote : (n : ℕ) → wrote 16 (bytes_fit n 18) ≡ (n == 16)
fits_wrote n =
    elim (cases_lt 18 n) [
      | inl above ↦ ap (λ (b : Bool). wrote 16 (cond b (Err OutputSliceTooSmall) (Ok n))) (lt-ltb 18 n above) ∙ sym (ne_eqb n 16 (λ e. absurd (omega arith)))
      | inr within ↦ ap (λ (b : Bool). wrote 16 (cond b (Err OutputSliceTooSmall) (Ok n))) (le-ltb 18 n within)
    ]

-- Into 18 bytes exactly what decodes to 16 bytes is written as 16.
wrote-decode_slice : (dec : List ℕ) (pad : ℕ) (allow : Bool) (mode : DecodePaddingMode) (s : List ℕ)
    → wrote 16 (decode_slice_result dec pad allow mode s 18) ≡ gives_bytes 16 (decode_outcome (decode_error dec pad allow mode s) (decoded_bytes dec pad s))
wrote-decode_slice dec pad allow mode s =
    let q : ℕ = groups_before_last (length s) in
    let later : Option DecodeError = or_else (groups_error dec s q) (suffix_error dec pad allow mode (4 * q) s) in
    let all : List ℕ = decoded_bytes dec pad s in
    let own : Result ℕ DecodeSliceError = cond (nat_lt 6 q) (Err OutputSliceTooSmall) (or_error later (bytes_fit (length all) 18)) in
    let inner : wrote 16 own ≡ gives_bytes 16 (decode_outcome later all) =
    elim (cases_lt 6 q) [
      | inl many ↦
          ap (λ (b : Bool). wrote 16 (cond b (Err OutputSliceTooSmall) (or_error later (bytes_fit (length all) 18)))) (lt-ltb 6 q many)
          ∙ (let other : (length all == 16) ≡ false = ne_eqb (length all) 16 (λ e. absurd (omega (arith, length-append (groups_bytes dec s q) (suffix_bytes dec pad (4 * q) s), length-groups_bytes dec s q))) in
          too_many later all other)
      | inr few ↦
          ap (λ (b : Bool). wrote 16 (cond b (Err OutputSliceTooSmall) (or_error later (bytes_fit (length all) 18)))) (le-ltb 6 q few)
          ∙ outcome_wrote later all 16 (bytes_fit (length all) 18) (fits_wrote (length all))
    ] in
    lone (lone_error dec pad s) later own all inner
  where
    too_many : (x : Option DecodeError) (bytes : List ℕ) → (length bytes == 16) ≡ false → false ≡ gives_bytes 16 (decode_outcome x bytes)
    too_many None bytes other = sym other
    too_many (Some e) bytes other = refl

    lone : (x y : Option DecodeError) (r : Result ℕ DecodeSliceError) (bytes : List ℕ) → wrote 16 r ≡ gives_bytes 16 (decode_outcome y bytes)
        → wrote 16 (or_error x r) ≡ gives_bytes 16 (decode_outcome (or_else x y) bytes)
    lone None y r bytes is = is
    lone (Some e) y r bytes is = refl

-- a key is what is written as 16 bytes
pub written-is_key : (s : List ℕ) (r : Result ℕ DecodeSliceError) → r ≡ decode_slice_of standard s 18 → wrote 16 r ≡ is_key s
unfolding is_key
written-is_key s r is =
    let e = standard in
    ap (wrote 16) is ∙ wrote-decode_slice e.decode_table e.padding.value e.config.decode_allow_trailing_bits e.config.decode_padding_mode s
