-- The codes are those of the fronts.
use Rattle.std.proofs.Common.{◌≡◌, ℕ, ◌∙◌, ap, length}
use Rattle.std.proofs.lemmas.Result.{on_ok_weaker}
use Rattle.sample_parts.specs.Counts.{count_below}
use Rattle.sample_parts.specs.Fronts.{count_of, has_code_at}
use Rattle.sample_parts.proofs.TextLaws.{code_lines_same, count_of_map, joined}
use Rattle.sample_parts.proofs.report.push_fronts.Goals as goal

pub returns : goal.returns
returns c =
    let fronts = c.args.fronts.now in
    let is : (code : ℕ) → count_of c.as_slice.result.now code ≡ count_below (has_code_at fronts code) (length fronts) =
    λ code. ap (λ ns. count_of ns code) (c.as_slice.ensures.value ∙ c.in_ok-codes.ensures) ∙ count_of_map fronts code in
    on_ok_weaker c.push_code_lines.result (λ e. joined _ _ _ _ _ _ _ _ c.in_ok-push_line.ensures (rw c.none_count.ensures at c.in_ok-push_line-2.ensures) e (code_lines_same (count_of c.as_slice.result.now) (λ code. count_below (has_code_at fronts code) (length fronts)) is 900)) c.push_code_lines.ensures
