-- The lines of codes, counts by equal tests, and what follows for the text.
use Rattle.std.proofs.Common.{◌≡◌, ℕ, zero, suc, ◌+◌, ◌<◌, ◌∙◌, Bool, List, [], ◌∷◌, ◌++◌, refl, sym, ap, arith, add-one, append_assoc, length, map, take, drop}
use Rattle.std.specs.Prelude.{◌==◌, slice_index_or}
use Rattle.std.proofs.Math.ListN.{get_or-map}
use Rattle.std.proofs.lemmas.Bool.{ne_eqb}
use Rattle.std.proofs.lemmas.List.{drop-take, length-map, take-take}
use Rattle.host_trace.specs.declared.items.Item.{Item}
use Rattle.host_trace.specs.Projections.{accepted_count, client_out}
use Rattle.sample_parts.specs.Counts.{code_count, code_line, code_lines, code_of, code_of_digits, connections_text, count_below, has_code, is_unanswered, none_count}
use Rattle.sample_parts.specs.Fronts.{count_of, has_code_at, is_empty_at, of_fronts}

pub code_lines_none : (often : ℕ → ℕ) → code_lines often 0 ≡ []
unfolding code_lines
code_lines_none often = refl

pub code_lines_more : (often : ℕ → ℕ) (n : ℕ) → code_lines often (n + 1) ≡ code_lines often n ++ code_line (100 + n) (often (100 + n))
unfolding code_lines
code_lines_more often n = rw add-one refl

pub code_lines_step : (t a r : List ℕ) (often : ℕ → ℕ) (n count : ℕ) → a ≡ t ++ code_lines often n → count ≡ often (100 + n) → r ≡ a ++ code_line (100 + n) count →
    r ≡ t ++ code_lines often (n + 1)
code_lines_step t a r often n count was is new =
    new ∙ ap (λ (xs : List ℕ). xs ++ code_line (100 + n) count) was ∙ append_assoc t (code_lines often n) (code_line (100 + n) count) ∙ ap (λ (xs : List ℕ). t ++ xs)
    (ap (λ m. code_lines often n ++ code_line (100 + n) m) is ∙ sym (code_lines_more often n))

pub code_lines_same : (f g : ℕ → ℕ) → ((code : ℕ) → f code ≡ g code) → (n : ℕ) → code_lines f n ≡ code_lines g n
unfolding code_lines
code_lines_same f g same zero = refl
code_lines_same f g same (suc n) = rw (code_lines_same f g same n, same (100 + n)) refl

pub count_below_same : (p q : ℕ → Bool) (n : ℕ) → ((c : ℕ) → c < n → p c ≡ q c) → count_below p n ≡ count_below q n
count_below_same p q zero same = refl
count_below_same p q (suc n) same = rw (count_below_same p q n (λ c h. same c (omega arith)), same n (omega arith)) refl

-- ---- the texts

pub joined : (t one two three a b r last : List ℕ) → a ≡ t ++ one → b ≡ a ++ two → r ≡ b ++ last → last ≡ three → r ≡ t ++ (one ++ two ++ three)
joined t one two three a b r last first second third same = rw (third, second, first, same) (simp append_assoc)

pub count_of_map : (fronts : List (List ℕ)) (code : ℕ) → count_of (map code_of fronts) code ≡ count_below (has_code_at fronts code) (length fronts)
count_of_map fronts code = rw length-map (count_below_same _ _ (length fronts) (λ c h. ap (λ n. n == code) (get_or-map code_of fronts c [])))

-- ---- what was written first says as much as the whole

code_of_front : (bytes : List ℕ) → code_of (take 12 bytes) ≡ code_of bytes
code_of_front bytes = ap code_of_digits (ap (λ (xs : List ℕ). take 3 xs) (drop-take 9 3 bytes) ∙ take-take 3 3 (drop 9 bytes) (omega arith))

none_of_front : (bytes : List ℕ) → (length (take 12 bytes) == 0) ≡ (length bytes == 0)
none_of_front [] = refl
none_of_front (byte ∷ bytes) =
    ne_eqb (length (byte ∷ take 11 bytes)) 0 (λ e. absurd (omega (arith, e))) ∙ sym (ne_eqb (length (byte ∷ bytes)) 0 (λ e. absurd (omega (arith, e))))

pub of_fronts_is : (T : List Item) (fronts : List (List ℕ)) → length fronts ≡ accepted_count T →
    ((c : ℕ) → c < accepted_count T → slice_index_or fronts c [] ≡ take 12 (client_out T c)) → of_fronts fronts ≡ connections_text T
of_fronts_is T fronts count each =
    let none : count_below (is_empty_at fronts) (accepted_count T) ≡ none_count T =
    count_below_same (is_empty_at fronts) (is_unanswered T) (accepted_count T) (λ c h. ap (λ (xs : List ℕ). length xs == 0) (each c h) ∙ none_of_front (client_out T c)) in
    let lines : code_lines (λ code. count_below (has_code_at fronts code) (accepted_count T)) 900 ≡ code_lines (code_count T) 900 =
    code_lines_same (λ code. count_below (has_code_at fronts code) (accepted_count T)) (code_count T)
    (λ code. count_below_same (has_code_at fronts code) (has_code T code) (accepted_count T) (λ c h. ap (λ (xs : List ℕ). code_of xs == code) (each c h) ∙ ap (λ n. n == code) (code_of_front (client_out T c)))) 900 in
    rw (count, none, lines) refl
