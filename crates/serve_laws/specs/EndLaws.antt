-- When the loops of a world come to their end.
use Rattle.std.specs.Prelude.{ℕ, true, List, ◌≡◌, ◌<◌, Option}
use Rattle.std.specs.List.{AllByRecursion}
use Rattle.host_base.specs.declared.site.Site.{Site}
use Rattle.host_trace.specs.declared.items.Item.{Item}
use Rattle.host_trace.specs.Projections.{stopped}
use Rattle.trace_laws.specs.Promised.{Promised}
use Rattle.trace_laws.specs.TraceLaws.{all_answered, all_exited}
use Rattle.host_loop.specs.Given.{GaveLoops}
use Rattle.host_loop.specs.declared.serve.LoopEnd.{LoopEnd}
use Rattle.host_loop.specs.declared.serve.LoopEnd.TheVariants.{Done}

-- Stop was heard, an answer to each Start, and the exit of each child that was started
pub record IsHeardOut (T : List Item) : Type 0 where
  pub stop : stopped T ≡ true
  pub answered : all_answered T ≡ true
  pub exited : all_exited T ≡ true

-- Where so much was heard in each loop of those that a call gave back, they came to their end.
abbrev pub LoopsComeToTheirEnd : Type 0
LoopsComeToTheirEnd = (site : Site) (turns loops : ℕ) (end : LoopEnd) (before : Option (List (List Item))) (now : List (List Item)) → 0 < loops
    → (gave : GaveLoops (Promised site) turns loops end before now) → AllByRecursion IsHeardOut gave.added → end ≡ Done
