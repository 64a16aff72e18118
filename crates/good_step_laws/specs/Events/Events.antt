-- An event leads a connection that is at rest to where the parts of a step begin.
use Rattle.std.specs.Prelude.{ℕ, ◌≡◌, true, List, [], ◌∷◌, ◌++◌}
use Rattle.std.specs.List.{list_all}
use Rattle.host_trace.specs.declared.items.Event.{Event}
use Rattle.host_trace.specs.declared.items.Item.{Item}
use Rattle.host_trace.specs.declared.items.Item.TheVariants.{In}
use Rattle.own_traces.specs.OwnFits.{fits_own}
use Rattle.trace_model.specs.Exchange.{Exchange, all_of, pushed}
use Rattle.trace_model.specs.Exchanges.{current, has_ended, next_by}
use Rattle.trace_model.specs.Legs.{Leg as Started}
use Rattle.trace_model.specs.Replies.{is_silent_once_closed}
use Rattle.conn_flags.specs.View.{noted}
use Rattle.child_laws.specs.Step.{waiting}
use Rattle.conn_laws.specs.Moves.{AreInStep, Move, acts_of, moved}
use Rattle.http_conn.specs.HttpConn.{HttpConn}
use Rattle.http_conn.specs.Hears.{Hears}
use Rattle.http_conn.specs.Kept.{flags_of, number_of, site_of}
use Rattle.http_stage_laws.specs.HeardStages.{AtRest}
use Rattle.http_step_laws.specs.Standing.{Apt, AreRight, Standing}

-- An event was heard after these items, at exchange e: where that is over then the next one begins. What the parts of a
-- step want to know is known, of the exchange to which the moves lead.
pub record Heard (old : HttpConn) (L : List Item) (e : Exchange) (n : ℕ) (ev : Event) (new : HttpConn) : Type 0 where
  pub moves : List Move
  pub none : acts_of moves ≡ []
  pub in_step : AreInStep (site_of old) (number_of old) (pushed e (In ev)) moves
  pub right : AreRight (site_of old) (number_of old) (pushed e (In ev)) moves
  pub site : site_of new ≡ site_of old
  pub number : number_of new ≡ number_of old
  pub flags : flags_of new ≡ noted (flags_of old) (In ev)
  pub standing : Standing L ev [] waiting n (moved (site_of old) (number_of old) (pushed e (In ev)) moves) new
  pub over_silent : list_all (is_silent_once_closed (number_of new)) standing.over ≡ true
  pub apt : Apt (moved (site_of old) (number_of old) (pushed e (In ev)) moves) new
  pub all : all_of (moved (site_of old) (number_of old) (pushed e (In ev)) moves) ≡ L ++ In ev ∷ []
  -- it is the one that goes on, unless it has ended and the connection doesn't take it for ended yet
  pub goes_on : current (site_of old) (number_of old) (L ++ In ev ∷ [])
      ≡ next_by (site_of old) (number_of old) (moved (site_of old) (number_of old) (pushed e (In ev)) moves)
      (has_ended (site_of old) (number_of old) (moved (site_of old) (number_of old) (pushed e (In ev)) moves))

-- So it is with each event that fits.
abbrev pub EventsStand : Type 0
EventsStand = (old new : HttpConn) (L : List Item) (e : Exchange) (legs : List Started) (n : ℕ) (ev : Event) → AtRest old L e legs n
    → fits_own (site_of old).limits.children L ev ≡ true → Hears old ev new → Heard old L e n ev new
