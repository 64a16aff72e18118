-- With which number the program ends, and what it says on standard error.
use Rattle.std.specs.Prelude.{ℕ, List, [], ◌++◌, codes}
use Rattle.std.specs.Fmt.{decimal}
use Rattle.shown_text.specs.Shown.{shown}
use Rattle.site_file.specs.declared.fault.SiteFault.{SiteFault}
use Rattle.site_file.specs.declared.fault.SiteFault.TheVariants.{NotToml, Missing, WrongKind, OutOfRange, Unknown, DoubleHost, DoubleScript, NoMemory as NoSiteMemory}
use Rattle.host_run.specs.declared.top.Status.{Status}
use Rattle.host_run.specs.declared.top.Status.TheVariants.{Done, Usage, SiteRefused, SiteUnread, WorldRefused, Spent, ReportFault, NoMemory}

abbrev pub number_of : Status → ℕ
number_of Done = 0
number_of Usage = 2
number_of (SiteRefused fault) = 3
number_of SiteUnread = 4
number_of WorldRefused = 5
number_of Spent = 6
number_of ReportFault = 7
number_of NoMemory = 8

-- what a site was refused for
abbrev pub refusal_of : SiteFault → List ℕ
refusal_of NotToml = codes "not TOML"
refusal_of (Missing key) = codes "missing " ++ shown key
refusal_of (WrongKind key) = codes "wrong kind " ++ shown key
refusal_of (OutOfRange key) = codes "out of range " ++ shown key
refusal_of (Unknown key) = codes "unknown " ++ shown key
refusal_of (DoubleHost name) = codes "double host " ++ shown name
refusal_of (DoubleScript path) = codes "double script " ++ shown path
refusal_of NoSiteMemory = codes "out of memory"

-- the line on standard error
abbrev pub line_of : Status → List ℕ
line_of Done = []
line_of Usage = codes "cgihost: usage: once SITE, serve SITE, check SITE, explain SITE, sample SEED N, upgrade SITE"
line_of (SiteRefused fault) = codes "cgihost: site refused: " ++ refusal_of fault
line_of SiteUnread = codes "cgihost: site file not read"
line_of WorldRefused = codes "cgihost: could not begin"
line_of Spent = codes "cgihost: turns spent"
line_of ReportFault = codes "cgihost: report not written"
line_of NoMemory = codes "cgihost: out of memory"

-- the line on standard error for where a site listens
abbrev pub listening_line : List ℕ → ℕ → List ℕ
listening_line address port = codes "cgihost: listens at " ++ address ++ codes ":" ++ decimal port

-- the line on standard error for as many events that didn't fit, where any was dropped
abbrev pub dropped_line : ℕ → List ℕ
dropped_line count = codes "cgihost: events dropped: " ++ decimal count
