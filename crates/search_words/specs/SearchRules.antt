-- What the arguments of a request are, by the grammar of search strings.
use Rattle.std.specs.Prelude.{◌≡◌, ◌≤◌, ℕ, true, false, ◌⊎◌, ◌↔◌, List, map, length, All, Some, codes}
use Rattle.std.specs.List.{list_any, list_all, join_with_byte}
use Rattle.std.specs.Str.{is_utf8}
use Rattle.percent_encoding.specs.Percent.{percent_decode}
use Rattle.script_map.specs.Escapes.{has_whole_escapes}
use Rattle.script_map.specs.Mapping.{is_nul}
use Rattle.search_words.specs.declared.words.TheConstants.{MOST_WORDS}
use Rattle.search_words.specs.declared.words.Words.TheVariants.{Args}
use Rattle.search_words.specs.SearchWords.{is_word_byte, words_in}

-- search-word = 1*schar, where an escape is "%" and two hex digits; what it decodes to is UTF-8 without a NUL
pub record IsSearchWord (word : List ℕ) : Type 0 where
  pub some : 1 ≤ length word
  pub chars : list_all is_word_byte word ≡ true
  pub escapes : has_whole_escapes word ≡ true
  pub utf8 : is_utf8 (percent_decode word) ≡ true
  pub no_nul : list_any is_nul (percent_decode word) ≡ false

-- search-string = search-word *( "+" search-word ), of 64 words at most
pub record IsSearchString (query : List ℕ) (args : List (List ℕ)) : Type 0 where
  pub words : List (List ℕ)
  pub joined : query ≡ join_with_byte 43 words
  pub some : 1 ≤ length words
  pub few : length words ≤ MOST_WORDS
  pub each : All IsSearchWord words
  pub decoded : args ≡ map percent_decode words

-- arguments are given exactly for GET or HEAD with a search string: its words, decoded
abbrev pub GivesSearchWords : Type 0
GivesSearchWords = (method query : List ℕ) (args : List (List ℕ))
    → (words_in method (Some query) ≡ Args args)
    ↔ (((method ≡ codes "GET") ⊎ (method ≡ codes "HEAD")) × IsSearchString query args)
