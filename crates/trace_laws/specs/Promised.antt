-- What is promised of each trace that is told.
use Rattle.std.specs.Prelude.{true, ◌≡◌, List}
use Rattle.host_base.specs.LimitRanges.{AreInRange}
use Rattle.host_base.specs.declared.site.Site.{Site}
use Rattle.host_trace.specs.declared.items.Item.{Item}
use Rattle.host_trace.specs.Fits.{fits}
use Rattle.host_trace.specs.Trace.{AtEachStep, Step}
use Rattle.trace_model.specs.Good.{Good}

-- the event of the step could come where it stands
abbrev pub HasFitting : Site → Step → Type 0
HasFitting site s = fits site.limits.children s.before s.event ≡ true

-- it is good for the site, whose limits are in their ranges, and each of its events fits
pub record Promised (site : Site) (T : List Item) : Type 0 where
  pub good : Good site T
  pub fit : AtEachStep (HasFitting site) T
  pub limits : AreInRange site.limits
