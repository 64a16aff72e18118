-- What the parts of `explain` hand to each other.
use Rattle.std.specs.Prelude.{ℕ, ◌≡◌, ◌^◌, Bool, true, false, List, Option, string_bytes}
use Rattle.host_base.specs.declared.site.Site.{Site}
use Rattle.host_trace.specs.declared.items.Item.{Item}
use Rattle.explain.specs.Explained.{EndsBy}
use Rattle.explain.specs.declared.explain.Explained.{Explained}
use Rattle.explain.specs.declared.explain.Explained.TheVariants as Was
use Rattle.host_run.specs.Explains.{GivesAsking}
use Rattle.host_run.specs.Statuses.{IsReported, PutsBy}
use Rattle.host_run.specs.declared.top.Status.{Status}
use Rattle.host_run.specs.declared.top.Status.TheVariants.{Done, Usage, SiteRefused, SiteUnread, WorldRefused, Spent, ReportFault, NoMemory}

-- one trace came back, and by its end this is so of it
abbrev pub GivesEnd : Site → Explained → Option (List (List Item)) → Option (List (List Item)) → Type 0
GivesEnd site end given given' = GivesAsking (EndsBy site (2 ^ 22) end) given given'

-- a text was put, and of another end nothing
abbrev pub PutsEnd : Explained → Status → Option (List ℕ) → Option (List ℕ) → Type 0
PutsEnd (Was.Text text) status put put' = IsReported status × PutsBy (λ t. t ≡ string_bytes text) status put put'
PutsEnd Was.Spent status put put' = (status ≡ Spent) × (put' ≡ put)
PutsEnd Was.NoMemory status put put' = (status ≡ NoMemory) × (put' ≡ put)

-- a site was said
abbrev pub is_explain_status : Status → Bool
is_explain_status Done = true
is_explain_status WorldRefused = true
is_explain_status Spent = true
is_explain_status ReportFault = true
is_explain_status NoMemory = true
is_explain_status Usage = false
is_explain_status (SiteRefused fault) = false
is_explain_status SiteUnread = false
