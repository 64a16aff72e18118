-- An answer's bytes, cut into records of STDOUT.
use Rattle.std.proofs.Common.{arith, ◌≡◌, ℕ, zero, suc, ◌<◌, ◌≤◌, List, [], ◌∷◌, ◌++◌, length, take, drop, refl, sym, ap, ◌∙◌, length-drop}
use Rattle.std.specs.Prelude.{map}
use Rattle.std.specs.List.{flat_map, AllByRecursion}
use Rattle.std.proofs.lemmas.List.{append-nil, append_assoc, length-take, take-append-drop}
use Rattle.std.proofs.lemmas.Grind.{flat_map-append}
use Rattle.fcgi_records.specs.declared.kinds.TheConstants.{END_REQUEST, STDOUT}
use Rattle.fcgi_records.specs.declared.record.Record.{Record}
use Rattle.fcgi_records.specs.Records.{record_of, record_bytes}
use Rattle.fcgi_records.specs.RecordLaws.{text_of}
use Rattle.fcgi_turns.specs.Texts.{complete, end_content, end_record, stdout_by}
use Rattle.fcgi_turns.specs.RequestLaws.{IsPiece, stdout_record, AnswersAreJoined}

abbrev pieces_by : ℕ → List ℕ → List (List ℕ)
pieces_by most [] = []
pieces_by zero (byte ∷ bytes) = []
pieces_by (suc most) (byte ∷ bytes) = take 65535 (byte ∷ bytes) ∷ pieces_by most (drop 65535 (byte ∷ bytes))

is_piece : (s : List ℕ) → 0 < length s → IsPiece (take 65535 s)
is_piece s some = let len = length-take 65535 s in (omega arith, omega arith)

module _ (id : ℕ) where
  are_sized : (most : ℕ) (bytes : List ℕ) → AllByRecursion IsPiece (pieces_by most bytes)
  are_sized most [] = tt
  are_sized zero (byte ∷ bytes) = tt
  are_sized (suc most) (byte ∷ bytes) = (is_piece (byte ∷ bytes) (omega arith), are_sized most (drop 65535 (byte ∷ bytes)))

  are_joined : (most : ℕ) (bytes : List ℕ) → length bytes ≤ most → flat_map (λ piece. piece) (pieces_by most bytes) ≡ bytes
  are_joined most [] within = refl
  are_joined zero (byte ∷ bytes) within = absurd (omega arith)
  are_joined (suc most) (byte ∷ bytes) within =
      let left = length-drop 65535 (byte ∷ bytes) in
      ap (λ (back : List ℕ). take 65535 (byte ∷ bytes) ++ back) (are_joined most (drop 65535 (byte ∷ bytes)) (omega arith)) ∙ take-append-drop 65535 (byte ∷ bytes)

  are_written : (most : ℕ) (bytes : List ℕ) → stdout_by most id bytes ≡ flat_map text_of (map (stdout_record id) (pieces_by most bytes))
  are_written most [] = refl
  are_written zero (byte ∷ bytes) = refl
  are_written (suc most) (byte ∷ bytes) =
      ap (λ (back : List ℕ). record_bytes STDOUT id (take 65535 (byte ∷ bytes)) ++ back) (are_written most (drop 65535 (byte ∷ bytes)))

pub answers_are_joined : AnswersAreJoined
answers_are_joined id bytes =
    let pieces : List (List ℕ) = pieces_by (length bytes) bytes in
    let outputs : List Record = map (stdout_record id) (pieces_by (length bytes) bytes) in
    record {
      pieces = pieces;
      sized = are_sized id (length bytes) bytes;
      joined = are_joined id (length bytes) bytes (omega arith);
      are =
          append_assoc (stdout_by (length bytes) id bytes) (record_bytes STDOUT id []) (end_record id complete)
          ∙ ap (λ (front : List ℕ). front ++ (record_bytes STDOUT id [] ++ end_record id complete)) (are_written id (length bytes) bytes)
          ∙ ap (λ (back : List ℕ). flat_map text_of outputs ++ (record_bytes STDOUT id [] ++ back)) (sym (append-nil (end_record id complete)))
          ∙ sym (flat_map-append text_of outputs (record_of STDOUT id [] ∷ record_of END_REQUEST id (end_content complete) ∷ []));
    }
