-- Why the words of a query are those of a search string.
use Rattle.std.proofs.Common.{◌≡◌, ℕ, ◌≤◌, Bool, true, false, ◌&&◌, ◌||◌, ◌⊎◌, List, [], ◌∷◌, length, map, Option, Some, None, refl, sym, ap, ◌∙◌, arith, eqb, inl, inr, codes}
use Rattle.std.specs.Prelude.{All, option_map, option_and_then}
use Rattle.std.specs.List.{join_with_byte, list_any, list_all, slice_split}
use Rattle.std.specs.Str.{bytes_eq, is_utf8}
use Rattle.std.proofs.lemmas.Bool.{cases_Bool, and_parts, and_from, cond-true, cond-false, eqb-true, false≢true, le-leb, leb-true, lt-ltb, ltb-true, or_left, or_right}
use Rattle.std.proofs.lemmas.List.Elements.{All-cons, All-head, All-nil, All-tail}
use Rattle.std.proofs.lemmas.List.Splits.{join_with_byte-slice_split, length-slice_split, slice_split_at, slice_split_none}
use Rattle.std.proofs.lemmas.Slice.Eq.{bytes_eq-Decides}
use Rattle.host_base.proofs.SplitLaws.{chosen}
use Rattle.percent_encoding.specs.Percent.{percent_decode}
use Rattle.script_map.specs.Escapes.{has_whole_escapes}
use Rattle.script_map.specs.Mapping.{is_nul, decoded_text, text_or_none}
use Rattle.search_words.specs.declared.words.TheConstants.{MOST_WORDS}
use Rattle.search_words.specs.declared.words.Words.TheVariants.{Args, Nothing}
use Rattle.search_words.specs.SearchWords.{is_plus, is_word_byte, has_word_bytes, argument_or_none, word_of, all_or_none, search_words_of, is_search_method, is_few, args_or_nothing}
use Rattle.search_words.specs.SearchRules.{IsSearchWord, GivesSearchWords}

-- ---- one word

and_then_some : {X Y : Type 0} (f : X → Option Y) (o : Option X) (y : Y) → option_and_then f o ≡ Some y → (x : X) × (o ≡ Some x) × (f x ≡ Some y)
and_then_some f None y is = absurd (cc)
and_then_some f (Some x) y is = (x, refl, is)

word_from : (part word : List ℕ) → word_of part ≡ Some word → IsSearchWord part × (word ≡ percent_decode part)
unfolding decoded_text
word_from part word is =
    elim (chosen (has_word_bytes part) (option_and_then argument_or_none (decoded_text part)) None (Some word) is) [
      | inr other ↦ absurd (cc)
      | inl bytes ↦
          let read = and_then_some argument_or_none (decoded_text part) word bytes.1 in
          elim (chosen (has_whole_escapes part) (text_or_none (percent_decode part)) None (Some read.0) read.1) [
            | inr broken ↦ absurd (cc)
            | inl whole ↦
                elim (chosen (is_utf8 (percent_decode part)) (Some (percent_decode part)) None (Some read.0) whole.1) [
                  | inr other ↦ absurd (cc)
                  | inl text ↦
                      let same : percent_decode part ≡ read.0 = cc in
                      elim (chosen (list_any is_nul read.0) None (Some read.0) (Some word) read.2) [
                        | inl nul ↦ absurd (cc)
                        | inr clean ↦
                            let kept : read.0 ≡ word = cc in
                            let parts = and_parts _ (list_all is_word_byte part) bytes.0 in (
                              record {
                                some = ltb-true 0 (length part) parts.0;
                                chars = parts.1;
                                escapes = whole.0;
                                utf8 = text.0;
                                no_nul = ap (list_any is_nul) same ∙ clean.0;
                              },
                              sym (same ∙ kept),
                            )
                      ]
                ]
          ]
    ]

word_is : (part : List ℕ) → IsSearchWord part → word_of part ≡ Some (percent_decode part)
unfolding decoded_text
word_is part word =
    let bytes = and_from _ _ (lt-ltb 0 (length part) word.some) word.chars in
    cond-true (has_word_bytes part) _ None bytes
    ∙ ap (option_and_then argument_or_none)
    (cond-true (has_whole_escapes part) _ None word.escapes ∙ cond-true (is_utf8 (percent_decode part)) _ None word.utf8)
    ∙ cond-false (list_any is_nul (percent_decode part)) None _ word.no_nul

-- ---- all words

map_some : {X Y : Type 0} (f : X → Y) (o : Option X) (y : Y) → option_map f o ≡ Some y → (x : X) × (o ≡ Some x) × (f x ≡ y)
map_some f None y is = absurd (cc)
map_some f (Some x) y is = (x, refl, cc)

all_from : (parts args : List (List ℕ)) → all_or_none (map word_of parts) ≡ Some args → All IsSearchWord parts × (args ≡ map percent_decode parts)
all_from [] args is = (All-nil IsSearchWord, cc)
all_from (part ∷ parts) args is = by_word (λ later told. all_from parts later told) (word_of part) refl is
  where
    by_word : ((later : List (List ℕ)) → all_or_none (map word_of parts) ≡ Some later → All IsSearchWord parts × (later ≡ map percent_decode parts))
        → (o : Option (List ℕ)) → word_of part ≡ o → all_or_none (o ∷ map word_of parts) ≡ Some args
        → All IsSearchWord (part ∷ parts) × (args ≡ map percent_decode (part ∷ parts))
    by_word onward None none told = absurd (cc)
    by_word onward (Some word) some told =
        let later = map_some (λ xs. word ∷ xs) (all_or_none (map word_of parts)) args told in
        let here = word_from part word some in
        let rest = onward later.0 later.1 in
        (All-cons IsSearchWord part parts here.0 rest.0, sym later.2 ∙ (λ i. here.1 i ∷ rest.1 i))

all_is : (parts : List (List ℕ)) → All IsSearchWord parts → all_or_none (map word_of parts) ≡ Some (map percent_decode parts)
all_is [] all = refl
all_is (part ∷ parts) all =
    ap (λ o. all_or_none (o ∷ map word_of parts)) (word_is part (All-head IsSearchWord part parts all))
    ∙ ap (option_map (λ xs. percent_decode part ∷ xs)) (all_is parts (All-tail IsSearchWord part parts all))

-- ---- the words between the separators

other_byte : (b : ℕ) → is_word_byte b ≡ true → is_plus b ≡ false
other_byte b passes = differs (eqb b 43) refl
  where
    differs : (t : Bool) → eqb b 43 ≡ t → t ≡ false
    differs true same = absurd (false≢true (ap is_word_byte (sym (eqb-true b 43 same)) ∙ passes))
    differs false same = refl

no_plus : (word : List ℕ) → list_all is_word_byte word ≡ true → All (λ b. is_plus b ≡ false) word
no_plus [] all = All-nil (λ b. is_plus b ≡ false)
no_plus (b ∷ word) all =
    let parts = and_parts (is_word_byte b) (list_all is_word_byte word) all in
    All-cons (λ c. is_plus c ≡ false) b word (other_byte b parts.0) (no_plus word parts.1)

split_joined : (words : List (List ℕ)) → 1 ≤ length words → All IsSearchWord words → slice_split is_plus (join_with_byte 43 words) ≡ words
split_joined [] some all = absurd (omega arith)
split_joined (word ∷ []) some all = slice_split_none is_plus word (no_plus word (All-head IsSearchWord word [] all).chars)
split_joined (word ∷ next ∷ more) some all =
    slice_split_at is_plus word 43 (join_with_byte 43 (next ∷ more)) (no_plus word (All-head IsSearchWord word (next ∷ more) all).chars) refl
    ∙ ap (λ (l : List (List ℕ)). word ∷ l) (split_joined (next ∷ more) (omega arith) (All-tail IsSearchWord word (next ∷ more) all))

-- ---- the law

method_from : (method : List ℕ) → is_search_method method ≡ true → (method ≡ codes "GET") ⊎ (method ≡ codes "HEAD")
method_from method is =
    elim (cases_Bool (bytes_eq method (codes "GET"))) [
      | inl get ↦ inl ((bytes_eq-Decides method (codes "GET")).0 get)
      | inr other ↦ inr ((bytes_eq-Decides method (codes "HEAD")).0 (sym (ap (λ b. b || bytes_eq method (codes "HEAD")) other) ∙ is))
    ]

method_is : (method : List ℕ) → (method ≡ codes "GET") ⊎ (method ≡ codes "HEAD") → is_search_method method ≡ true
method_is method (inl get) = or_left _ _ ((bytes_eq-Decides method (codes "GET")).1 get)
method_is method (inr head) = or_right (bytes_eq method (codes "GET")) _ ((bytes_eq-Decides method (codes "HEAD")).1 head)

args_from : (o : Option (List (List ℕ))) (args : List (List ℕ)) → args_or_nothing o ≡ Args args → o ≡ Some args
args_from None args is = absurd (cc)
args_from (Some words) args is = let same : words ≡ args = cc in ap (λ (l : List (List ℕ)). Some l) same

pub gives_search_words : GivesSearchWords
gives_search_words method query args = (
  λ is. elim (chosen (is_search_method method && is_few query) (args_or_nothing (search_words_of query)) Nothing (Args args) is) [
    | inr other ↦ absurd (cc)
    | inl good ↦
        let tests = and_parts (is_search_method method) (is_few query) good.0 in
        let parts = slice_split is_plus query in
        let all = all_from parts args (args_from (search_words_of query) args good.1) in (
          method_from method tests.0,
          record {
            words = parts;
            joined = sym (join_with_byte-slice_split 43 query);
            some = omega (arith, length-slice_split is_plus query);
            few = leb-true (length parts) MOST_WORDS tests.1;
            each = all.0;
            decoded = all.1;
          },
        )
  ],
  λ told.
      let string = told.1 in
      let parts : slice_split is_plus query ≡ string.words = ap (slice_split is_plus) string.joined ∙ split_joined string.words string.some string.each in
      let few : is_few query ≡ true = le-leb (length (slice_split is_plus query)) MOST_WORDS (omega (arith, ap length parts, string.few)) in
      cond-true (is_search_method method && is_few query) _ Nothing (and_from _ _ (method_is method told.0) few)
      ∙ ap args_or_nothing (ap (λ (ps : List (List ℕ)). all_or_none (map word_of ps)) parts ∙ all_is string.words string.each ∙ ap (λ (l : List (List ℕ)). Some l) (sym string.decoded)),
)
