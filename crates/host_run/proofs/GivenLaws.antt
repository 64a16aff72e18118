-- What was given back, by the status.
use Rattle.std.proofs.Common.{◌≡◌, ℕ, List, Option, sym, subst, inl, inr}
use Rattle.host_base.specs.declared.site.Site.{Site}
use Rattle.host_trace.specs.declared.items.Item.{Item}
use Rattle.host_loop.specs.declared.serve.LoopEnd.{LoopEnd}
use Rattle.host_run.specs.Given.{GivesBy, IsServed}
use Rattle.host_run.specs.declared.top.Status.{Status}
use Rattle.host_run.specs.declared.top.Status.TheVariants.{Done, Usage, SiteRefused, SiteUnread, WorldRefused, Spent, ReportFault, NoMemory}

module _ (IsSite : Site → Type 0) (site : Site) (said : IsSite site) (loops turns : ℕ) (before after : Option (List (List Item))) where
  served_as : (end : LoopEnd) → IsServed (λ s. s ≡ site) loops turns end before after → IsServed IsSite loops turns end before after
  served_as end s = record { site = s.site; said = subst IsSite (sym s.said) said; gives = s.gives }

  pub gives_by : (status : Status) → GivesBy (λ s. s ≡ site) loops turns status before after → GivesBy IsSite loops turns status before after
  gives_by Done gives = served_as _ gives
  gives_by Spent gives = served_as _ gives
  gives_by NoMemory (inl same) = inl same
  gives_by NoMemory (inr gives) = inr (served_as _ gives)
  gives_by Usage gives = gives
  gives_by WorldRefused gives = gives
  gives_by (SiteRefused fault) gives = gives
  gives_by SiteUnread gives = gives
  gives_by ReportFault gives = gives
