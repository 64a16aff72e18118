-- What each status of a run says.
use Rattle.std.specs.Prelude.{ℕ, ◌≡◌, ◌≢◌, ◌++◌, Bool, true, false, List, Option, Some, None, Result, Ok, Err, sum_by, length, codes}
use Rattle.std.specs.Fmt.{decimal}
use Rattle.host_base.specs.Outsides.{Stored, Holds, Puts, PutsPart}
use Rattle.host_base.specs.declared.site.Site.{Site}
use Rattle.host_base.specs.declared.site.VHost.{VHost}
use Rattle.site_file.specs.OneScript.{site_of_one}
use Rattle.site_file.specs.SiteFile.{site_said}
use Rattle.site_file.specs.declared.fault.SiteFault.{SiteFault}
use Rattle.site_file.specs.declared.fault.SiteFault.TheVariants.{NoMemory as NoMemoryForSite}
use Rattle.sample_run.specs.Run.{IsSampleText}
use Rattle.host_run.specs.Words.{SitePlace, ByScript, InFile, is_file, Form, Does, Sample, Help, Version}
use Rattle.host_run.specs.declared.report.TheConstants.{HELP, VERSION}
use Rattle.host_run.specs.declared.top.Status.{Status}
use Rattle.host_run.specs.declared.top.Status.TheVariants.{Done, Usage, SiteRefused, SiteUnread, WorldRefused, Spent, ReportFault, NoMemory}
use Rattle.host_run.specs.declared.words.Task.TheVariants.{Once, Serve, Check, Upgrade, Explain}

-- ---- the site

-- What is said at a place: the site of a script; or the site, or the fault, of the bytes that the store holds under the name.
abbrev pub Says : Option (List Stored) → SitePlace → Result Site SiteFault → Type 0
Says stored (ByScript path program) said = said ≡ Ok (site_of_one path program)
Says stored (InFile name) said = (bytes : List ℕ) × (Holds stored name bytes × (site_said bytes ≡ said))

abbrev pub SaysSite : Option (List Stored) → SitePlace → Type 0
SaysSite stored place = (site : Site) × Says stored place (Ok site)

abbrev pub SaysFault : Option (List Stored) → SitePlace → SiteFault → Type 0
SaysFault stored place fault = (fault ≢ NoMemoryForSite) × Says stored place (Err fault)

-- by the status, what was said where a site was wanted
abbrev pub ReadsBy : Option (List Stored) → SitePlace → Status → Type 0
ReadsBy stored place Usage = ⊥
ReadsBy stored place SiteUnread = is_file place ≡ true
ReadsBy stored place (SiteRefused fault) = SaysFault stored place fault
ReadsBy stored place NoMemory = Unit {0}
ReadsBy stored place Done = SaysSite stored place
ReadsBy stored place WorldRefused = SaysSite stored place
ReadsBy stored place Spent = SaysSite stored place
ReadsBy stored place ReportFault = SaysSite stored place

-- the status of a report alone
abbrev pub IsReported : Status → Type 0
IsReported Done = Unit {0}
IsReported ReportFault = Unit {0}
IsReported NoMemory = Unit {0}
IsReported _ = ⊥

abbrev pub SitesBy : Option (List Stored) → Option Form → Status → Type 0
SitesBy stored None status = status ≡ Usage
SitesBy stored (Some (Does task place)) status = ReadsBy stored place status
SitesBy stored (Some (Sample seed count)) status = IsReported status
SitesBy stored (Some Help) status = IsReported status
SitesBy stored (Some Version) status = IsReported status

-- no site was read
abbrev pub is_early : Status → Bool
is_early SiteUnread = true
is_early (SiteRefused fault) = true
is_early NoMemory = true
is_early _ = false

-- a connection was to be served
abbrev pub is_run : Status → Bool
is_run Done = true
is_run WorldRefused = true
is_run Spent = true
is_run NoMemory = true
is_run _ = false

-- ---- the report

abbrev pub scripts_len : VHost → ℕ
scripts_len host = length host.scripts

abbrev pub script_count : Site → ℕ
script_count site = sum_by scripts_len site.hosts

abbrev pub check_text : Site → List ℕ
check_text site = codes "ok: " ++ decimal (script_count site) ++ codes " scripts\n"

-- by the status, what was put of a text: the whole, a front, or nothing
abbrev pub PutsBy : (List ℕ → Type 0) → Status → Option (List ℕ) → Option (List ℕ) → Type 0
PutsBy IsText Done before after = (text : List ℕ) × (IsText text × Puts before text after)
PutsBy IsText ReportFault before after = (text : List ℕ) × (IsText text × PutsPart before text after)
PutsBy IsText NoMemory before after = after ≡ before
PutsBy IsText Usage before after = after ≡ before
PutsBy IsText (SiteRefused fault) before after = after ≡ before
PutsBy IsText SiteUnread before after = after ≡ before
PutsBy IsText WorldRefused before after = after ≡ before
PutsBy IsText Spent before after = after ≡ before

-- how many scripts the site has; documents are counted as scripts are
abbrev pub IsCheckText : Option (List Stored) → SitePlace → List ℕ → Type 0
IsCheckText stored place text = (site : Site) × (Says stored place (Ok site) × (text ≡ check_text site))

-- a file that says the same site
abbrev pub IsUpgradeText : Option (List Stored) → SitePlace → List ℕ → Type 0
IsUpgradeText stored place text = (site : Site) × (Says stored place (Ok site) × (site_said text ≡ Ok site))

-- what `explain` puts is said beside the trace that it explains
abbrev pub ReportsBy : Option (List Stored) → Option Form → Status → Option (List ℕ) → Option (List ℕ) → Type 0
ReportsBy stored None status before after = after ≡ before
ReportsBy stored (Some (Does Once place)) status before after = after ≡ before
ReportsBy stored (Some (Does (Serve loops turns) place)) status before after = after ≡ before
ReportsBy stored (Some (Does Check place)) status before after = PutsBy (IsCheckText stored place) status before after
ReportsBy stored (Some (Does Upgrade place)) status before after = PutsBy (IsUpgradeText stored place) status before after
ReportsBy stored (Some (Does Explain place)) status before after = Unit {0}
ReportsBy stored (Some (Sample seed count)) status before after = PutsBy (IsSampleText seed count) status before after
ReportsBy stored (Some Help) status before after = PutsBy (λ text. text ≡ HELP.now) status before after
ReportsBy stored (Some Version) status before after = PutsBy (λ text. text ≡ VERSION.now) status before after

-- ---- the order

-- The words come first, then the site, the world and the report: by the status, what was left as it was.
abbrev pub InOrder : {F W S : Type 0} → Status → F → F → W → W → S → S → Type 0
InOrder Usage store store' world world' report report' = (store' ≡ store) × (world' ≡ world) × (report' ≡ report)
InOrder SiteUnread store store' world world' report report' = (world' ≡ world) × (report' ≡ report)
InOrder (SiteRefused fault) store store' world world' report report' = (world' ≡ world) × (report' ≡ report)
InOrder WorldRefused store store' world world' report report' = report' ≡ report
InOrder Spent store store' world world' report report' = report' ≡ report
InOrder Done store store' world world' report report' = Unit {0}
InOrder ReportFault store store' world world' report report' = Unit {0}
InOrder NoMemory store store' world world' report report' = Unit {0}

-- what a form uses
abbrev pub reads_store : Option Form → Bool
reads_store (Some (Does task place)) = is_file place
reads_store (Some (Sample seed count)) = false
reads_store (Some Help) = false
reads_store (Some Version) = false
reads_store None = false

abbrev pub enters_world : Option Form → Bool
enters_world (Some (Does Once place)) = true
enters_world (Some (Does (Serve loops turns) place)) = true
enters_world (Some (Does Explain place)) = true
enters_world (Some (Does Check place)) = false
enters_world (Some (Does Upgrade place)) = false
enters_world (Some (Sample seed count)) = false
enters_world (Some Help) = false
enters_world (Some Version) = false
enters_world None = false

abbrev pub writes_report : Option Form → Bool
writes_report (Some (Does Once place)) = false
writes_report (Some (Does (Serve loops turns) place)) = false
writes_report (Some (Does Explain place)) = true
writes_report (Some (Does Check place)) = true
writes_report (Some (Does Upgrade place)) = true
writes_report (Some (Sample seed count)) = true
writes_report (Some Help) = true
writes_report (Some Version) = true
writes_report None = false
