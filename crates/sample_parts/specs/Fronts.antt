-- The counts of connections, where what was written to each is known up to and with its status code.
use Rattle.std.specs.Prelude.{ℕ, ◌==◌, Bool, List, [], ◌++◌, length, codes, slice_index, slice_index_or}
use Rattle.sample_parts.specs.Counts.{code_lines, code_of, count_below, line}

abbrev pub is_empty_at : List (List ℕ) → ℕ → Bool
is_empty_at fronts c = length (slice_index_or fronts c []) == 0

abbrev pub has_code_at : List (List ℕ) → ℕ → ℕ → Bool
has_code_at fronts code c = code_of (slice_index_or fronts c []) == code

abbrev pub is_code_at : List ℕ → ℕ → ℕ → Bool
is_code_at numbers code c = slice_index numbers c == code

-- how often a code is in a list of them
abbrev pub count_of : List ℕ → ℕ → ℕ
count_of numbers code = count_below (is_code_at numbers code) (length numbers)

abbrev pub of_fronts : List (List ℕ) → List ℕ
of_fronts fronts =
    line (codes "connections") (length fronts) ++ line (codes "none") (count_below (is_empty_at fronts) (length fronts))
    ++ code_lines (λ code. count_below (has_code_at fronts code) (length fronts)) 900
