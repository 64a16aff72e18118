-- What a good step leaves.
use Rattle.std.proofs.Common.{◌≡◌, ℕ, true, List, sym, subst}
use Rattle.host_base.specs.declared.site.Site.{Site}
use Rattle.host_trace.specs.declared.items.Act.{Act}
use Rattle.host_trace.specs.declared.items.Event.{Event}
use Rattle.host_trace.specs.declared.items.Item.{Item}
use Rattle.host_trace.specs.Trace.{after_step, step_of}
use Rattle.trace_model.specs.Exchange.{Exchange}
use Rattle.trace_model.specs.Exchanges.{current}
use Rattle.trace_model.specs.Good.{StepGood}
use Rattle.trace_model.specs.Hears.{hears}
use Rattle.own_traces.specs.Whose.{next_after}
use Rattle.conn_laws.specs.Moves.{Move, acts_of}
use Rattle.http_conn.specs.HttpConn.{HttpConn}
use Rattle.http_conn.specs.Kept.{number_of, site_of}
use Rattle.good_step_laws.specs.Steps.Laws.{IsGoodStep}
use Rattle.good_step_laws.specs.Http.Laws.{Rests}

-- the rules hold, and it is at rest
pub as_pair : {old new : HttpConn} {L : List Item} {ev : Event} {n : ℕ} {moves : List Move} → IsGoodStep old new L ev n moves
    → StepGood (site_of old) (number_of old) (step_of L ev (acts_of moves)) × Rests new (after_step L ev (acts_of moves)) (next_after n (acts_of moves))
as_pair g = (g.good, record { exchange = g.exchange; legs = g.legs; rest = g.rests })

-- a client that must be heard was asked
pub asks_of : (site : Site) (c : ℕ) (L : List Item) (ev : Event) (acts : List Act) (e : Exchange) → StepGood site c (step_of L ev acts) → e ≡ current site c (after_step L ev acts) → hears site c e ≡ true
asks_of site c L ev acts e good now = subst (λ (x : Exchange). hears site c x ≡ true) (sym now) good.ready.hears
