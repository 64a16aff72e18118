-- What a run enters its world for.
use Rattle.std.specs.Prelude.{ℕ, ◌≡◌, ◌⊎◌, List, Option, Some, None, Ok}
use Rattle.host_base.specs.Outsides.{Stored}
use Rattle.host_base.specs.declared.site.Site.{Site}
use Rattle.host_trace.specs.Entries.{Enters, entry_of}
use Rattle.host_trace.specs.declared.world.Entry.{Entry}
use Rattle.host_trace.specs.declared.world.Mode.{Mode}
use Rattle.host_trace.specs.declared.world.Mode.TheVariants.{Once as ModeOnce, Serve as ModeServe}
use Rattle.host_run.specs.Statuses.{Says}
use Rattle.host_run.specs.Words.{Form, Does, Sample, Help, Version}
use Rattle.host_run.specs.declared.words.Task.TheVariants.{Once, Serve, Check, Upgrade, Explain}
use Rattle.host_run.specs.declared.top.Status.{Status}
use Rattle.host_run.specs.declared.top.Status.TheVariants.{Done, Usage, SiteRefused, SiteUnread, WorldRefused, Spent, ReportFault, NoMemory}

-- the world was entered once, so, for so many loops over a site of which this is so
pub record IsEntered (IsSite : Site → Type 0) (mode : Mode) (loops : ℕ) (before after : Option (List Entry)) : Type 0 where
  pub site : Site
  pub said : IsSite site
  pub enters : Enters before (entry_of mode site loops) after

-- By the status: once where something was to be heard, never where no site was read. Where memory was wanting it
-- was not entered or once.
abbrev pub EntersBy : (Site → Type 0) → Mode → ℕ → Status → Option (List Entry) → Option (List Entry) → Type 0
EntersBy IsSite mode loops Done before after = IsEntered IsSite mode loops before after
EntersBy IsSite mode loops Spent before after = IsEntered IsSite mode loops before after
EntersBy IsSite mode loops WorldRefused before after = IsEntered IsSite mode loops before after
EntersBy IsSite mode loops ReportFault before after = IsEntered IsSite mode loops before after
EntersBy IsSite mode loops NoMemory before after = (after ≡ before) ⊎ IsEntered IsSite mode loops before after
EntersBy IsSite mode loops Usage before after = after ≡ before
EntersBy IsSite mode loops (SiteRefused fault) before after = after ≡ before
EntersBy IsSite mode loops SiteUnread before after = after ≡ before

-- by the form, for the site that is said at its place
abbrev pub EntersAt : Option (List Stored) → Option Form → Status → Option (List Entry) → Option (List Entry) → Type 0
EntersAt stored (Some (Does Once place)) status before after = EntersBy (λ site. Says stored place (Ok site)) ModeOnce 1 status before after
EntersAt stored (Some (Does (Serve loops turns) place)) status before after = EntersBy (λ site. Says stored place (Ok site)) ModeServe loops status before after
EntersAt stored (Some (Does Explain place)) status before after = EntersBy (λ site. Says stored place (Ok site)) ModeOnce 1 status before after
EntersAt stored (Some (Does Check place)) status before after = after ≡ before
EntersAt stored (Some (Does Upgrade place)) status before after = after ≡ before
EntersAt stored (Some (Sample seed count)) status before after = after ≡ before
EntersAt stored (Some Help) status before after = after ≡ before
EntersAt stored (Some Version) status before after = after ≡ before
EntersAt stored None status before after = after ≡ before
