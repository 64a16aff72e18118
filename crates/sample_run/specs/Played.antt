-- The run of a loop over a list of events.
use Rattle.std.specs.Prelude.{◌≡◌, ◌^◌, List, [], ◌∷◌, Option, Some}
use Rattle.host_base.specs.declared.site.Site.{Site}
use Rattle.host_trace.specs.declared.items.Event.{Event}
use Rattle.host_trace.specs.declared.items.Item.{Item}
use Rattle.trace_model.specs.Good.{Good}
use Rattle.host_loop.specs.Served.{Served}
use Rattle.host_loop.specs.declared.serve.LoopEnd.{LoopEnd}
use Rattle.host_loop.specs.declared.serve.LoopEnd.TheVariants.{Done}
use Rattle.sample_run.specs.Takes.{Takes}

-- the trace is good for the site, its events are those that the list names, and its loop ended so
pub record IsPlayed (site : Site) (listed : List Event) (end : LoopEnd) (T : List Item) : Type 0 where
  pub good : Good site T
  pub served : Served (2 ^ 62) end T
  pub takes : Takes site.limits.children listed T

-- exactly one trace was given back, of a loop that came to its end
pub record IsPlayedWorld (site : Site) (listed : List Event) (given : Option (List (List Item))) : Type 0 where
  pub trace : List Item
  pub told : given ≡ Some (trace ∷ [])
  pub played : IsPlayed site listed Done trace
