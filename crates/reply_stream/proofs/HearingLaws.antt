-- What more that is told changes.
use Rattle.std.proofs.Common.{◌≡◌, ℕ, ◌<◌, Bool, true, false, List, [], ◌∷◌, ◌++◌, length, refl, sym, ap, ◌∙◌, arith, ltb, append_assoc, length-append, inl, inr}
use Rattle.std.specs.Prelude.{◌||◌}
use Rattle.std.proofs.lemmas.Bool.{and_parts, and_from, or_cases, or_left, or_right, ltb-true, lt-ltb}
use Rattle.std.proofs.lemmas.List.{append-nil}
use Rattle.host_base.specs.declared.site.ScriptKind.{ScriptKind}
use Rattle.reply_kinds.specs.Derived.{is_header_whole, is_streamable}
use Rattle.reply_kinds.proofs.DerivedLaws.{begun_goes_on}
use Rattle.reply_stream.specs.Hearing.{Told, piece, tick, output_of, is_long_enough, is_ticked_after, is_ticked, most_kept}
use Rattle.reply_stream.specs.HearingRules.{BeginningsStay, TicksCount}

pub output-append : (told more : List Told) → output_of (told ++ more) ≡ output_of told ++ output_of more
output-append [] more = refl
output-append (piece bytes ∷ told) more =
    ap (λ (l : List ℕ). bytes ++ l) (output-append told more) ∙ sym (append_assoc bytes (output_of told) (output_of more))
output-append (tick ∷ told) more = output-append told more

pub output-piece : (told : List Told) (bytes : List ℕ) → output_of (told ++ piece bytes ∷ []) ≡ output_of told ++ bytes
output-piece told bytes = output-append told (piece bytes ∷ []) ∙ ap (λ (l : List ℕ). output_of told ++ l) (append-nil bytes)

pub output-tick : (told : List Told) → output_of (told ++ tick ∷ []) ≡ output_of told
output-tick told = output-append told (tick ∷ []) ∙ append-nil (output_of told)

or-assoc : (a b c : Bool) → (a || (b || c)) ≡ ((a || b) || c)
or-assoc true b c = refl
or-assoc false b c = refl

ticked-append : (kind : ScriptKind) (output : List ℕ) (told more : List Told)
    → is_ticked_after kind output (told ++ more) ≡ (is_ticked_after kind output told || is_ticked_after kind (output ++ output_of told) more)
ticked-append kind output [] more = ap (λ (l : List ℕ). is_ticked_after kind l more) (sym (append-nil output))
ticked-append kind output (piece bytes ∷ told) more =
    ticked-append kind (output ++ bytes) told more
    ∙ ap (λ (l : List ℕ). is_ticked_after kind (output ++ bytes) told || is_ticked_after kind l more) (append_assoc output bytes (output_of told))
ticked-append kind output (tick ∷ told) more =
    ap (λ (b : Bool). is_header_whole kind output || b) (ticked-append kind output told more)
    ∙ or-assoc (is_header_whole kind output) (is_ticked_after kind output told) (is_ticked_after kind (output ++ output_of told) more)

or-false : (a b : Bool) → b ≡ false → (a || b) ≡ a
or-false true b is = refl
or-false false b is = is

pub ticked-piece : (kind : ScriptKind) (told : List Told) (bytes : List ℕ) → is_ticked kind (told ++ piece bytes ∷ []) ≡ is_ticked kind told
ticked-piece kind told bytes = ticked-append kind [] told (piece bytes ∷ []) ∙ or-false (is_ticked kind told) false refl

pub ticked-tick : (kind : ScriptKind) (told : List Told)
    → is_ticked kind (told ++ tick ∷ []) ≡ (is_ticked kind told || is_header_whole kind (output_of told))
ticked-tick kind told =
    ticked-append kind [] told (tick ∷ [])
    ∙ ap (λ (b : Bool). is_ticked kind told || b) (or-false (is_header_whole kind (output_of told)) false refl)

pub beginnings_stay : BeginningsStay
beginnings_stay kind told more must =
    let output = output-append told more in
    let parts = and_parts (is_streamable kind (output_of told)) (is_long_enough kind told) must in
    let can : is_streamable kind (output_of (told ++ more)) ≡ true =
    ap (is_streamable kind) output ∙ (begun_goes_on kind (output_of told) (output_of more) parts.0).2 in
    let due : is_long_enough kind (told ++ more) ≡ true =
    elim (or_cases (ltb most_kept (length (output_of told))) (is_ticked kind told) parts.1) [
      | inl long ↦
          let much : most_kept < length (output_of told) = ltb-true _ _ long in
          let still : most_kept < length (output_of (told ++ more)) =
          omega (arith, ap (λ (l : List ℕ). length l) output, length-append (output_of told) (output_of more)) in
          or_left _ _ (lt-ltb _ _ still)
      | inr ticked ↦ or_right _ _ (ticked-append kind [] told more ∙ or_left _ _ ticked)
    ] in
    and_from _ _ can due

-- ---- where a tick counts

tick_found : (kind : ScriptKind) (output : List ℕ) (told : List Told) → is_ticked_after kind output told ≡ true
    → (before : List Told) × ((after : List Told) × ((told ≡ before ++ tick ∷ after) × (is_header_whole kind (output ++ output_of before) ≡ true)))
tick_found kind output [] is = absurd (cc is)
tick_found kind output (piece bytes ∷ told) is =
    let found = tick_found kind (output ++ bytes) told is in
    (piece bytes ∷ found.0, (found.1.0, (ap (λ (l : List Told). piece bytes ∷ l) found.1.1.0, ap (is_header_whole kind) (sym (append_assoc output bytes (output_of found.0))) ∙ found.1.1.1)))
tick_found kind output (tick ∷ told) is =
    elim (or_cases (is_header_whole kind output) (is_ticked_after kind output told) is) [
      | inl whole ↦ ([], (told, (refl, ap (is_header_whole kind) (append-nil output) ∙ whole)))
      | inr later ↦
          let found = tick_found kind output told later in
          (tick ∷ found.0, (found.1.0, (ap (λ (l : List Told). tick ∷ l) found.1.1.0, found.1.1.1)))
    ]

pub ticks_count : TicksCount
ticks_count kind told = (
  λ is. let found = tick_found kind [] told is in record { before = found.0; after = found.1.0; whole = found.1.1.0; header = found.1.1.1 },
  λ has.
      ap (is_ticked kind) has.whole ∙ ticked-append kind [] has.before (tick ∷ has.after) ∙ or_right _ _ (or_left _ _ has.header),
)
