-- The search words of a query (RFC 3875 4.4), on the parts of the whole query.
use Rattle.std.specs.Prelude.{ℕ, Bool, false, ◌&&◌, ◌||◌, ◌==◌, List, [], ◌∷◌, length, map, Option, Some, None, option_map, option_and_then, if◌then◌else◌, nat_lt, nat_le, codes, bytes_eq}
use Rattle.std.specs.Char.{is_ascii_alphanumeric}
use Rattle.std.specs.List.{list_any, list_all, slice_split}
use Rattle.script_map.specs.Escapes.{is_percent}
use Rattle.script_map.specs.Mapping.{is_nul, decoded_text}
use Rattle.search_words.specs.declared.words.TheConstants.{MOST_WORDS}
use Rattle.search_words.specs.declared.words.Words.{Words}
use Rattle.search_words.specs.declared.words.Words.TheVariants.{Args, Nothing}

abbrev pub is_plus : ℕ → Bool
is_plus byte = byte == 43

-- the marks of unreserved, and xreserved (RFC 3875 2.2 and 4.4)
abbrev pub is_word_mark : ℕ → Bool
is_word_mark byte = list_any (λ mark. mark == byte) (codes "-_.!~*'();/?:@&,$")

-- a byte of an schar = unreserved / escaped / xreserved
abbrev pub is_word_byte : ℕ → Bool
is_word_byte byte = is_ascii_alphanumeric byte || is_word_mark byte || is_percent byte

-- the bytes of 1*schar; that each "%" begins an escape is asked when it is decoded
abbrev pub has_word_bytes : List ℕ → Bool
has_word_bytes part = nat_lt 0 (length part) && list_all is_word_byte part

-- a text that an argument may be: it has no NUL
abbrev pub argument_or_none : List ℕ → Option (List ℕ)
argument_or_none text = if list_any is_nul text then None else Some text

-- search-word = 1*schar, decoded: a text without a NUL
abbrev pub word_of : List ℕ → Option (List ℕ)
word_of part = if has_word_bytes part then option_and_then argument_or_none (decoded_text part) else None

-- all of them, or none where one is missing
abbrev pub all_or_none : {X : Type 0} → List (Option X) → Option (List X)
all_or_none [] = Some []
all_or_none (None ∷ rest) = None
all_or_none (Some x ∷ rest) = option_map (λ xs. x ∷ xs) (all_or_none rest)

-- search-string = search-word *( "+" search-word ), as the words that it decodes to
abbrev pub search_words_of : List ℕ → Option (List (List ℕ))
search_words_of query = all_or_none (map word_of (slice_split is_plus query))

-- a search is asked for by GET or HEAD
abbrev pub is_search_method : List ℕ → Bool
is_search_method method = bytes_eq method (codes "GET") || bytes_eq method (codes "HEAD")

-- no more arguments are given than these
abbrev pub is_few : List ℕ → Bool
is_few query = nat_le (length (slice_split is_plus query)) MOST_WORDS

abbrev pub args_or_nothing : Option (List (List ℕ)) → Words
args_or_nothing None = Nothing
args_or_nothing (Some words) = Args words

-- The arguments of a request: all words of its query, or nothing at all.
abbrev pub words_in : List ℕ → Option (List ℕ) → Words
words_in method None = Nothing
words_in method (Some query) = if is_search_method method && is_few query then args_or_nothing (search_words_of query) else Nothing

-- whether words are looked for: a GET or HEAD with a query of few parts
abbrev pub asks_for_words : List ℕ → Option (List ℕ) → Bool
asks_for_words method None = false
asks_for_words method (Some query) = is_search_method method && is_few query
