-- What a trace comes to: what was written to its connections, and how many children there were.
use Rattle.std.specs.Prelude.{ℕ, zero, suc, ◌+◌, ◌==◌, ◌&&◌, Bool, true, false, List, [], ◌++◌, length, take, drop, count_by, codes, if◌then◌else◌}
use Rattle.std.specs.Char.{is_ascii_digit}
use Rattle.std.specs.Fmt.{decimal}
use Rattle.std.specs.List.{list_all}
use Rattle.std.specs.Str.Parse.{digits_value}
use Rattle.host_trace.specs.declared.items.Event.TheVariants.{Exited}
use Rattle.host_trace.specs.declared.items.Act.TheVariants.{Start}
use Rattle.host_trace.specs.declared.items.Item.{Item}
use Rattle.host_trace.specs.declared.items.Item.TheVariants.{In, Out}
use Rattle.host_trace.specs.Projections.{accepted_count, client_out}

-- ---- children

abbrev pub is_any_start : Item → Bool
is_any_start (Out (Start k c j hop launch)) = true
is_any_start _ = false

abbrev pub is_any_exit : Item → Bool
is_any_exit (In (Exited k)) = true
is_any_exit _ = false

abbrev pub start_count : List Item → ℕ
start_count T = count_by is_any_start T

abbrev pub reap_count : List Item → ℕ
reap_count T = count_by is_any_exit T

-- ---- connections

-- the number of three digits
abbrev pub code_of_digits : List ℕ → ℕ
code_of_digits digits = if length digits == 3 && list_all is_ascii_digit digits then digits_value 10 digits else 0

-- the status code of a reply: the three digits at the places 9 to 11, counted from 0. It is 0 where there are none.
abbrev pub code_of : List ℕ → ℕ
code_of bytes = code_of_digits (take 3 (drop 9 bytes))

-- of how many numbers below this one that is so
abbrev pub count_below : (ℕ → Bool) → ℕ → ℕ
count_below test zero = 0
count_below test (suc c) = count_below test c + (if test c then 1 else 0)

-- nothing was written to c
abbrev pub is_unanswered : List Item → ℕ → Bool
is_unanswered T c = length (client_out T c) == 0

-- what was written to c has this code
abbrev pub has_code : List Item → ℕ → ℕ → Bool
has_code T code c = code_of (client_out T c) == code

abbrev pub none_count : List Item → ℕ
none_count T = count_below (is_unanswered T) (accepted_count T)

abbrev pub code_count : List Item → ℕ → ℕ
code_count T code = count_below (has_code T code) (accepted_count T)

-- ---- the text

abbrev pub line : List ℕ → ℕ → List ℕ
line word count = word ++ codes " " ++ decimal count ++ codes "\n"

-- a code that occurs has a line
abbrev pub code_line : ℕ → ℕ → List ℕ
code_line code count = if count == 0 then [] else line (codes "status " ++ decimal code) count

-- the lines of the codes from 100 on, so many of them, by how often each occurs
unfoldable pub code_lines : (ℕ → ℕ) → ℕ → List ℕ
code_lines count_of zero = []
code_lines count_of (suc n) = code_lines count_of n ++ code_line (100 + n) (count_of (100 + n))

-- the lines on connections, one for each code from 100 to 999 that occurs
abbrev pub connections_text : List Item → List ℕ
connections_text T = line (codes "connections") (accepted_count T) ++ line (codes "none") (none_count T) ++ code_lines (code_count T) 900

-- the report of a trace
abbrev pub sample_text : List Item → List ℕ
sample_text T = connections_text T ++ line (codes "starts") (start_count T) ++ line (codes "reaps") (reap_count T)
