-- The words that are gathered from a query, part by part.
use Rattle.std.proofs.Common.{◌≡◌, ℕ, List, [], ◌∷◌, ◌++◌, length, map, Option, Some, None, refl, sym, ap, ◌∙◌, arith, ltb, inl, inr, append_assoc}
use Rattle.std.specs.Prelude.{option_map, count_by}
use Rattle.std.specs.List.{slice_split}
use Rattle.std.proofs.lemmas.Bool.{cases_lt, lt-ltb, le-ltb, le-leb, lt-leb}
use Rattle.std.proofs.lemmas.List.Splits.{length-slice_split}
use Rattle.search_words.specs.SearchWords.{is_plus, word_of, all_or_none, search_words_of, is_few}

-- the words of the query are those gathered so far, and then those of the rest
pub record IsGathered (query : List ℕ) (words : List (List ℕ)) (rest : List ℕ) : Type 0 where
  pub told : search_words_of query ≡ option_map (λ more. words ++ more) (search_words_of rest)

pub gathered_none_yet : (query : List ℕ) (words : List (List ℕ)) → words ≡ [] → IsGathered query words query
gathered_none_yet query words none = record { told = unchanged (search_words_of query) ∙ ap (λ l. option_map (λ more. l ++ more) (search_words_of query)) (sym none) }
  where
    unchanged : (o : Option (List (List ℕ))) → o ≡ option_map (λ more. [] ++ more) o
    unchanged None = refl
    unchanged (Some words) = refl

-- where a part is a word, it is the next one
at_word : (part : List ℕ) (parts : List (List ℕ)) (word : List ℕ) → word_of part ≡ Some word
    → all_or_none (map word_of (part ∷ parts)) ≡ option_map (λ xs. word ∷ xs) (all_or_none (map word_of parts))
at_word part parts word is = ap (λ o. all_or_none (o ∷ map word_of parts)) is

-- where a part is none, nothing is
at_none : (part : List ℕ) (parts : List (List ℕ)) → word_of part ≡ None → all_or_none (map word_of (part ∷ parts)) ≡ None
at_none part parts is = ap (λ o. all_or_none (o ∷ map word_of parts)) is

pub gathered_more : (query : List ℕ) (words : List (List ℕ)) (rest : List ℕ) (part more word : List ℕ) (now : List (List ℕ)) → IsGathered query words rest
    → slice_split is_plus rest ≡ part ∷ slice_split is_plus more → word_of part ≡ Some word → now ≡ words ++ word ∷ []
    → IsGathered query now more
gathered_more query words rest part more word now is cut here grown = record {
  told = is.told ∙ ap (λ ps. option_map (λ xs. words ++ xs) (all_or_none (map word_of ps))) cut
      ∙ ap (option_map (λ xs. words ++ xs)) (at_word part (slice_split is_plus more) word here)
      ∙ shifted (search_words_of more);
}
  where
    shifted : (o : Option (List (List ℕ))) → option_map (λ xs. words ++ xs) (option_map (λ xs. word ∷ xs) o) ≡ option_map (λ xs. now ++ xs) o
    shifted None = refl
    shifted (Some xs) = ap (λ (l : List (List ℕ)). Some l) (sym (append_assoc words (word ∷ []) xs) ∙ ap (λ (l : List (List ℕ)). l ++ xs) (sym grown))

pub gathered_fault : (query : List ℕ) (words : List (List ℕ)) (rest part : List ℕ) (parts : List (List ℕ)) → IsGathered query words rest
    → slice_split is_plus rest ≡ part ∷ parts → word_of part ≡ None → None ≡ search_words_of query
gathered_fault query words rest part parts is cut here =
    sym (is.told ∙ ap (λ ps. option_map (λ xs. words ++ xs) (all_or_none (map word_of ps))) cut
    ∙ ap (option_map (λ xs. words ++ xs)) (at_none part parts here))

pub gathered_all : (query : List ℕ) (words : List (List ℕ)) (rest word : List ℕ) (now : List (List ℕ)) → IsGathered query words rest
    → slice_split is_plus rest ≡ rest ∷ [] → word_of rest ≡ Some word → now ≡ words ++ word ∷ [] → Some now ≡ search_words_of query
gathered_all query words rest word now is alone here grown =
    ap (λ (l : List (List ℕ)). Some l) grown
    ∙ sym (is.told ∙ ap (λ ps. option_map (λ xs. words ++ xs) (all_or_none (map word_of ps))) alone
    ∙ ap (option_map (λ xs. words ++ xs)) (at_word rest [] word here))

-- there are as many parts as separators and one more
pub few_is : (count : ℕ) (query : List ℕ) → count ≡ count_by is_plus query → ltb count 64 ≡ is_few query
few_is count query is =
    let len = length-slice_split is_plus query in
    elim (cases_lt count 64) [
      | inl below ↦ lt-ltb count 64 below ∙ sym (le-leb (length (slice_split is_plus query)) 64 (omega arith))
      | inr above ↦ le-ltb count 64 above ∙ sym (lt-leb (length (slice_split is_plus query)) 64 (omega arith))
    ]
