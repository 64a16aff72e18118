-- The fronts are those of the trace.
use Rattle.std.proofs.Common.{◌≡◌, ◌∙◌, ◌++◌, ap, length}
use Rattle.std.specs.Prelude.{string_bytes}
use Rattle.std.proofs.lemmas.Result.{on_ok_weaker}
use Rattle.host_trace.specs.Projections.{accepted_count}
use Rattle.sample_parts.specs.Counts.{connections_text}
use Rattle.sample_parts.specs.Fronts.{of_fronts}
use Rattle.sample_parts.proofs.TextLaws.{of_fronts_is}
use Rattle.sample_parts.proofs.report.push_connections.Goals as goal

pub returns : goal.returns
returns c =
    let T = c.args.items.now in
    let count : length c.as_slice.result.now ≡ accepted_count T = c.as_slice.ensures.len ∙ c.in_ok-fronts.ensures.count ∙ c.accepted_count.ensures in
    let is : of_fronts c.as_slice.result.now ≡ connections_text T =
    of_fronts_is T c.as_slice.result.now count (rw (c.as_slice.ensures.value, ← c.accepted_count.ensures) c.in_ok-fronts.ensures.each) in
    on_ok_weaker c.push_fronts.result (λ e. e ∙ ap (λ t. string_bytes c.args.text.now ++ t) is) c.push_fronts.ensures
