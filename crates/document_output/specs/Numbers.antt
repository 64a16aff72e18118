-- Decimal numbers of 1 to 18 digits.
use Rattle.std.specs.Prelude.{ℕ, Bool, ◌&&◌, List, length, Option, Some, None, if◌then◌else◌, nat_lt, nat_le}
use Rattle.std.specs.Char.{is_ascii_digit}
use Rattle.std.specs.List.{list_all}
use Rattle.std.specs.Str.Parse.{digits_value}

abbrev pub is_number : List ℕ → Bool
is_number bytes = nat_lt 0 (length bytes) && nat_le (length bytes) 18 && list_all is_ascii_digit bytes

abbrev pub number_in : List ℕ → Option ℕ
number_in bytes = if is_number bytes then Some (digits_value 10 bytes) else None
