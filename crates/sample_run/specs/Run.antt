-- What is so of the run of a sample.
use Rattle.std.specs.Prelude.{ℕ, ◌≡◌, ◌+◌, ◌-◌, ◌^◌, ◌==◌, List, [], ◌∷◌, Option, Some, codes, if◌then◌else◌}
use Rattle.host_base.specs.declared.site.Site.{Site}
use Rattle.host_trace.specs.declared.items.Event.{Event}
use Rattle.host_trace.specs.declared.items.Item.{Item}
use Rattle.host_trace.specs.declared.items.Item.TheVariants.{In, Out}
use Rattle.host_trace.specs.Fits.{fits}
use Rattle.host_trace.specs.Kinds.{is_stop}
use Rattle.trace_model.specs.Good.{Good}
use Rattle.host_loop.specs.Served.{IsFirstOver}
use Rattle.site_file.specs.OneScript.{site_of_one}
use Rattle.sample_parts.specs.Counts.{sample_text}
use Rattle.sample_parts.specs.Listed.{sample_events}

-- what stands in a trace before the event of this number, counted from 0
abbrev pub before_event : ℕ → List Item → List Item
before_event number [] = []
before_event number (In event ∷ T) = if number == 0 then [] else In event ∷ before_event (number - 1) T
before_event number (Out act ∷ T) = Out act ∷ before_event number T

-- Of these events those that fit, in order, from the one that comes as the event of this number: each is judged by what
-- stands before its place in the trace.
abbrev pub fitting : ℕ → List Item → ℕ → List Event → List Event
fitting limit T number [] = []
fitting limit T number (event ∷ events) =
    if fits limit (before_event number T) event then event ∷ fitting limit T (number + 1) events else fitting limit T number events

-- the events of a trace up to and with its first Stop
abbrev pub heard_to_stop : List Item → List Event
heard_to_stop [] = []
heard_to_stop (In event ∷ T) = if is_stop (In event) then event ∷ [] else event ∷ heard_to_stop T
heard_to_stop (Out act ∷ T) = heard_to_stop T

abbrev pub sample_site : Site
sample_site = site_of_one (codes "/s") (codes "/bin/cat")

-- Up to its first Stop the events of the trace are those of the sample that fit, in order. The trace is good for the
-- site, and ends as soon as Stop was heard and all is settled.
pub record IsSampleRun (seed count : ℕ) (T : List Item) : Type 0 where
  pub heard : heard_to_stop T ≡ fitting sample_site.limits.children T 0 (sample_events seed count)
  pub good : Good sample_site T
  pub over : IsFirstOver (2 ^ 62) T

-- exactly one trace was given back, and it is told
pub record HasSampleRun (seed count : ℕ) (given : Option (List (List Item))) : Type 0 where
  pub trace : List Item
  pub told : given ≡ Some (trace ∷ [])
  pub run : IsSampleRun seed count trace

-- the text counts a trace of which that is so
pub record IsSampleText (seed count : ℕ) (text : List ℕ) : Type 0 where
  pub trace : List Item
  pub run : IsSampleRun seed count trace
  pub counts : text ≡ sample_text trace
