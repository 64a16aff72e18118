-- The range of a file that is asked for (RFC 9110 14.1.2), and the bytes of the file that it has.
use Rattle.std.specs.Prelude.{ℕ, Bool, ◌&&◌, ◌==◌, ◌-◌, min, List, length, Option, Some, None, option_and_then, if◌then◌else◌, nat_lt, nat_le, codes}
use Rattle.std.specs.List.{before_first, after_first, position_or_len}
use Rattle.document_output.specs.declared.range.RangeSpec.{RangeSpec}
use Rattle.document_output.specs.declared.range.RangeSpec.TheVariants.{From, Between, Suffix}
use Rattle.document_output.specs.declared.range.Span.{Span}
use Rattle.document_output.specs.Numbers.{number_in}
use Rattle.document_output.specs.Paths.{after_prefix}

abbrev pub is_dash : ℕ → Bool
is_dash byte = byte == 45

abbrev pub is_empty : List ℕ → Bool
is_empty bytes = length bytes == 0

-- what stands before and behind the dash, and the numbers that they are
abbrev pub range_with : List ℕ → List ℕ → Option ℕ → Option ℕ → Option RangeSpec
range_with first last (Some a) (Some b) = if nat_le a b then Some (Between a b) else None
range_with first last (Some a) None = if is_empty last then Some (From a) else None
range_with first last None (Some n) = if is_empty first then Some (Suffix n) else None
range_with first last None None = None

-- int-range = first-pos "-" [ last-pos ], suffix-range = "-" suffix-length
abbrev pub range_by : List ℕ → List ℕ → Option RangeSpec
range_by first last = range_with first last (number_in first) (number_in last)

abbrev pub range_parts : List ℕ → Option RangeSpec
range_parts set =
    if nat_lt (position_or_len is_dash set) (length set) then range_by (before_first is_dash set) (after_first is_dash set) else None

-- the range that a value of Range asks for: one of the unit bytes
abbrev pub range_spec : List ℕ → Option RangeSpec
range_spec value = option_and_then range_parts (after_prefix (codes "bytes=") value)

-- the bytes that a range has of a file of a length
abbrev pub span_of : RangeSpec → ℕ → Option Span
span_of (From a) len = if nat_lt a len then Some (record { first = a; last = len - 1 }) else None
span_of (Between a b) len = if nat_lt a len && nat_le a b then Some (record { first = a; last = min b (len - 1) }) else None
span_of (Suffix n) len = if nat_lt 0 n && nat_lt 0 len then Some (record { first = len - min n len; last = len - 1 }) else None
