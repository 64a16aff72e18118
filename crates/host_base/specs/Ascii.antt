-- The words of a comma list, and bytes without the blanks at their end.
use Rattle.std.specs.Prelude.{ℕ, Bool, ◌&&◌, List, ◌==◌, nat_lt, filter, map, length, reverse}
use Rattle.std.specs.List.{slice_split}
use Rattle.std.specs.Str.{str_eq_ignore_ascii_case}
use Rattle.httparse.specs.Grammar.{trim_ows, skip_ows}

abbrev pub is_comma : ℕ → Bool
is_comma byte = byte == 44

-- bytes without the spaces and tabs at their end
abbrev pub skip_end : List ℕ → List ℕ
skip_end bytes = reverse (skip_ows (reverse bytes))

abbrev pub is_filled : List ℕ → Bool
is_filled bytes = nat_lt 0 (length bytes)

-- the words of a comma list: its parts without the blanks around them, but for the empty ones (RFC 9110 5.6.1)
abbrev pub comma_words : List ℕ → List (List ℕ)
comma_words value = filter is_filled (map trim_ows (slice_split is_comma value))

-- whether a part between commas is the word
abbrev pub is_listed_as : List ℕ → List ℕ → Bool
is_listed_as word part = is_filled (trim_ows part) && str_eq_ignore_ascii_case word (trim_ows part)
