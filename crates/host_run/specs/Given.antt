-- What a run gives back to its world.
use Rattle.std.specs.Prelude.{ℕ, List, ◌≡◌, ◌^◌, ◌⊎◌, Option, Some, None, Ok}
use Rattle.host_base.specs.Outsides.{Stored}
use Rattle.host_base.specs.declared.site.Site.{Site}
use Rattle.host_trace.specs.declared.items.Item.{Item}
use Rattle.trace_laws.specs.Promised.{Promised}
use Rattle.host_loop.specs.Given.{GivesLoops}
use Rattle.host_loop.specs.declared.serve.LoopEnd.{LoopEnd}
use Rattle.host_loop.specs.declared.serve.LoopEnd.TheVariants.{Done as LoopDone, Spent as LoopSpent, NoMemory as LoopNoMemory}
use Rattle.host_loop.specs.declared.world.WorldEnd.TheVariants.{Ended}
use Rattle.host_run.specs.Statuses.{Says}
use Rattle.host_run.specs.Words.{Form, Does, Sample, Help, Version}
use Rattle.host_run.specs.declared.words.Task.TheVariants.{Once, Serve, Check, Upgrade, Explain}
use Rattle.host_run.specs.declared.top.Status.{Status}
use Rattle.host_run.specs.declared.top.Status.TheVariants.{Done, Usage, SiteRefused, SiteUnread, WorldRefused, Spent, ReportFault, NoMemory}

-- exactly so many traces were given back in this call, one for each loop: of each is so what is
-- promised for the site, and the loops, of so many turns each, ended so
abbrev pub GivesTraces : Site → ℕ → ℕ → LoopEnd → Option (List (List Item)) → Option (List (List Item)) → Type 0
GivesTraces site loops turns end before after = GivesLoops (Promised site) turns loops (Ended end) before after

-- .. for a site of which this is so
pub record IsServed (IsSite : Site → Type 0) (loops turns : ℕ) (end : LoopEnd) (before after : Option (List (List Item))) : Type 0 where
  pub site : Site
  pub said : IsSite site
  pub gives : GivesTraces site loops turns end before after

-- By the status: exactly one trace for each loop where the loops ended or one was spent, none where there was no loop, none
-- or one empty trace for each loop where memory was wanting.
abbrev pub GivesBy : (Site → Type 0) → ℕ → ℕ → Status → Option (List (List Item)) → Option (List (List Item)) → Type 0
GivesBy IsSite loops turns Done before after = IsServed IsSite loops turns LoopDone before after
GivesBy IsSite loops turns Spent before after = IsServed IsSite loops turns LoopSpent before after
GivesBy IsSite loops turns NoMemory before after = (after ≡ before) ⊎ IsServed IsSite loops turns LoopNoMemory before after
GivesBy IsSite loops turns Usage before after = after ≡ before
GivesBy IsSite loops turns WorldRefused before after = after ≡ before
GivesBy IsSite loops turns (SiteRefused fault) before after = after ≡ before
GivesBy IsSite loops turns SiteUnread before after = after ≡ before
GivesBy IsSite loops turns ReportFault before after = ⊥

-- What the form gives back, for the site that is said at its place. Of `explain` it is said beside its report.
abbrev pub GivesAt : Option (List Stored) → Option Form → Status → Option (List (List Item)) → Option (List (List Item)) → Type 0
GivesAt stored (Some (Does Once place)) status before after = GivesBy (λ site. Says stored place (Ok site)) 1 (2 ^ 62) status before after
GivesAt stored (Some (Does (Serve loops turns) place)) status before after = GivesBy (λ site. Says stored place (Ok site)) loops turns status before after
GivesAt stored (Some (Does Check place)) status before after = after ≡ before
GivesAt stored (Some (Does Upgrade place)) status before after = after ≡ before
GivesAt stored (Some (Does Explain place)) status before after = Unit {0}
GivesAt stored (Some (Sample seed count)) status before after = after ≡ before
GivesAt stored (Some Help) status before after = after ≡ before
GivesAt stored (Some Version) status before after = after ≡ before
GivesAt stored None status before after = after ≡ before
