-- One step of a connection is good: what the laws here stand on, and what they say.
use Rattle.std.specs.Prelude.{ℕ, true, false, ◌≡◌, ◌≤◌, List, [], ◌∷◌, ◌++◌, Option}
use Rattle.std.specs.Option.{option_map}
use Rattle.host_base.specs.SiteRules.{IsServed}
use Rattle.host_base.specs.declared.site.Site.{Site}
use Rattle.host_trace.specs.declared.items.Event.{Event}
use Rattle.host_trace.specs.declared.items.Item.{Item}
use Rattle.host_trace.specs.declared.items.Item.TheVariants.{In}
use Rattle.host_trace.specs.Kinds.{names_child}
use Rattle.host_trace.specs.Projections.{children, last_secs}
use Rattle.host_trace.specs.Trace.{after_step, step_of}
use Rattle.own_traces.specs.OwnFits.{fits_own}
use Rattle.own_traces.specs.Whose.{are_of, next_after}
use Rattle.conn_flags.specs.Form.{are_given}
use Rattle.conn_flags.specs.View.{noted}
use Rattle.trace_model.specs.Exchange.{Exchange}
use Rattle.trace_model.specs.Good.{StepGood}
use Rattle.trace_model.specs.Legs.{Leg}
use Rattle.conn_laws.specs.Moves.{Move, acts_of}
use Rattle.http_conn.specs.HttpConn.{HttpConn}
use Rattle.http_conn.specs.Hears.{Hears}
use Rattle.http_conn.specs.Kept.{flags_of, number_of, site_of}
use Rattle.http_conn.specs.New.{IsNew}
use Rattle.http_conn.specs.Parts.{Steps}
use Rattle.http_conn.specs.Step.{Stepped}
use Rattle.http_stage_laws.specs.HeardStages.{AtRest}
use Rattle.good_step_laws.specs.Steps.Laws.{StepsAreGood}
use Rattle.many_conns.specs.Kept.{is_child}
use Rattle.many_conns.specs.Kind.{AreTicks, Fitting, Gives, Laws}
use Rattle.good_step_laws.specs.Http.Stands.{ConnStands, conn_kind}
use Rattle.http_conn.specs.Kid.{number_in}

-- what a step leaves
pub record Rests (new : HttpConn) (L : List Item) (n : ℕ) : Type 0 where
  pub exchange : Exchange
  pub legs : List Leg
  pub rest : AtRest new L exchange legs n

-- So a step gives what the core of all connections asks of it.
abbrev pub StepsGive : Type 0
StepsGive = (old new : HttpConn) (ev : Event) (stamp : Option ℕ) (n m : ℕ) (before after : Option (List Item)) → StepsAreGood
    → Stepped old ev stamp n before new m after → Gives conn_kind old n ev stamp new m before after

-- An event of an earlier child changes nothing.
abbrev pub LateAreKept : Type 0
LateAreKept = (site : Site) (conn : HttpConn) (L : List Item) (limit n : ℕ) (stamp : Option ℕ) (k : ℕ) (ev : Event) → ConnStands site conn L
    → Fitting limit (number_of conn) n stamp L ev → names_child k (In ev) ≡ true → is_child (option_map number_in conn.run) k ≡ false → ConnStands site conn (L ++ In ev ∷ [])

-- All that holds of every connection.
abbrev pub ConnsKeepLaws : Type 0
ConnsKeepLaws = StepsAreGood → Laws conn_kind

-- A new connection stands for each list of Ticks.
abbrev pub ConnsBegin : Type 0
ConnsBegin = StepsAreGood → (conn : HttpConn) (site : Site) (L : List Item) → site_of conn ≡ site → IsServed site → (2 ≤ site.limits.head → IsNew conn) → AreTicks L → ConnStands site conn L
