-- What a world was entered for, by the status.
use Rattle.std.proofs.Common.{◌≡◌, ℕ, List, Option, true, refl, inr}
use Rattle.host_base.specs.declared.site.Site.{Site}
use Rattle.host_trace.specs.declared.world.Entry.{Entry}
use Rattle.host_trace.specs.declared.world.Mode.{Mode}
use Rattle.host_trace.specs.Entries.{Enters, entry_of}
use Rattle.host_run.specs.Entered.{EntersBy}
use Rattle.host_run.specs.ExplainSteps.{is_explain_status}
use Rattle.host_run.specs.Statuses.{is_run}
use Rattle.host_run.specs.declared.top.Status.{Status}
use Rattle.host_run.specs.declared.top.Status.TheVariants.{Done, Usage, SiteRefused, SiteUnread, WorldRefused, Spent, ReportFault, NoMemory}

pub entered_by : (IsSite : Site → Type 0) (mode : Mode) (loops : ℕ) (site : Site) (status : Status) (before after : Option (List Entry)) → is_explain_status status ≡ true →
    IsSite site → Enters before (entry_of mode site loops) after → EntersBy IsSite mode loops status before after
entered_by IsSite mode loops site Done before after is said enters = record { site = site; said = said; enters = enters }
entered_by IsSite mode loops site Spent before after is said enters = record { site = site; said = said; enters = enters }
entered_by IsSite mode loops site WorldRefused before after is said enters = record { site = site; said = said; enters = enters }
entered_by IsSite mode loops site ReportFault before after is said enters = record { site = site; said = said; enters = enters }
entered_by IsSite mode loops site NoMemory before after is said enters = inr (record { site = site; said = said; enters = enters })
entered_by IsSite mode loops site Usage before after is said enters = absurd (cc)
entered_by IsSite mode loops site (SiteRefused fault) before after is said enters = absurd (cc)
entered_by IsSite mode loops site SiteUnread before after is said enters = absurd (cc)

pub run_explains : (status : Status) → is_run status ≡ true → is_explain_status status ≡ true
run_explains Done is = refl
run_explains Spent is = refl
run_explains WorldRefused is = refl
run_explains NoMemory is = refl
run_explains ReportFault is = refl
run_explains Usage is = absurd (cc)
run_explains (SiteRefused fault) is = absurd (cc)
run_explains SiteUnread is = absurd (cc)
