-- A step of all connections, one after another.
use Rattle.std.specs.Prelude.{ℕ, Bool, List, [], ◌∷◌, ◌++◌, ◌≡◌, ◌≤◌, ◌<◌, length, slice_index_or}
use Rattle.host_base.specs.declared.site.Site.{Site}
use Rattle.host_trace.specs.declared.items.Event.{Event}
use Rattle.host_trace.specs.declared.items.Act.{Act}
use Rattle.host_trace.specs.declared.items.Item.{Item}
use Rattle.host_trace.specs.declared.items.Item.TheVariants.{In}
use Rattle.host_trace.specs.Trace.{after_step}
use Rattle.own_traces.specs.Whose.{Rises}
use Rattle.many_conns.specs.Kind.{Kind}
use Rattle.many_conns.specs.Lists.{Mid}

-- those before place i have made their step
pub record Turn {C : Type 0} (K : Kind C) (waits : ℕ → Bool) (i : ℕ) (site : Site) (event : Event) (xs : List C) (T V : List Item) : Type 0 where
  pub mid : Mid K waits site site.limits.children event xs V
  pub acts : List Act
  pub grew : V ≡ after_step T event acts
  pub high : ℕ
  pub order : Rises (T ++ In event ∷ []) 0 acts high
  pub later : (j : ℕ) (d : C) → i ≤ j → j < length xs → high ≤ K.number_of (slice_index_or xs j d)
