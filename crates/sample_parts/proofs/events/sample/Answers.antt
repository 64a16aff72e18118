-- All groups of the plan, and Stop.
use Rattle.std.proofs.Common.{◌≡◌, ◌∙◌, refl}
use Rattle.sample_parts.specs.Plan.{plan}
use Rattle.sample_parts.proofs.PlanLaws.{plan_length}
use Rattle.sample_parts.proofs.events.sample.Goals as goal

pub returns : goal.returns
returns c =
    let all : c.as_slice.result.now ≡ plan c.args.seed c.args.count = c.as_slice.ensures.value ∙ c.in_ok-planned.ensures in
    rw (c.in_ok-push.ensures.ok, c.in_ok-push_groups.ensures, c.new-events.ensures, all, plan_length) refl
