-- What an output is made of.
use Rattle.std.proofs.Common.{◌≡◌, ℕ, List, [], ◌∷◌, ◌++◌, All, length, refl, sym, ap, ◌∙◌, append_assoc, append-nil}
use Rattle.std.specs.List.{concat}
use Rattle.std.proofs.lemmas.List.Folds.{concat-append}
use Rattle.document_output.specs.declared.answer.Answer.{Answer}
use Rattle.document_output.specs.Output.{answered, text_of, file_part}

pub answered_is : (text part media file : List ℕ) (answer : Answer) (m f : List ℕ) (a : Answer) → text ≡ text_of media (length file) answer
    → part ≡ file_part answer file → media ≡ m → file ≡ f → answer ≡ a → text ++ part ≡ answered m f a
answered_is text part media file answer m f a is_text is_part is_media is_file is_answer = cc

-- a piece more
pub piece_more : (old now : List (List ℕ)) (piece more rest whole : List ℕ) → now ≡ old ++ piece ∷ [] → piece ++ more ≡ rest → concat old ++ rest ≡ whole
    → concat now ++ more ≡ whole
piece_more old now piece more rest whole is cut so =
    ap (λ (l : List (List ℕ)). concat l ++ more) is ∙ ap (λ (l : List ℕ). l ++ more) (concat-append old (piece ∷ []))
    ∙ append_assoc (concat old) (concat (piece ∷ [])) more ∙ ap (λ (l : List ℕ). concat old ++ (l ++ more)) (append-nil piece)
    ∙ ap (λ (l : List ℕ). concat old ++ l) cut ∙ so
