-- The legs of an exchange: the child that was started for a hop, that of the request itself or one after local redirects
-- (RFC 3875 6.2.2).
use Rattle.std.specs.Prelude.{ℕ, zero, suc, List, []}
use Rattle.host_base.specs.declared.request.Request.{Request}
use Rattle.host_base.specs.declared.site.ScriptKind.{ScriptKind}
use Rattle.host_base.specs.declared.site.Site.{Site}
use Rattle.host_trace.specs.declared.items.Item.{Item}
use Rattle.trace_child.specs.Run.{Run, Offer, no_body}
use Rattle.trace_model.specs.Readings.{offer_of}
use Rattle.trace_model.specs.Exchange.{Exchange, up_to, reading}

-- a child, the number of local redirects before it, how its output is read, and the request that it was started for
pub record Leg : Type 0 where
  pub child : ℕ
  pub hop : ℕ
  pub kind : ScriptKind
  pub request : Request

abbrev pub leg_of : ℕ → ScriptKind → Request → ℕ → Leg
leg_of hop kind request k = record { child = k; hop = hop; kind = kind; request = request }

-- what there was for the input of a hop's child after these items of the exchange: the body of the request for the
-- first hop, and none after a local redirect
abbrev pub offered_at : Site → ℕ → Exchange → ℕ → List Item → Offer
offered_at site c e zero front = offer_of (reading site c (up_to e front))
offered_at site c e (suc hop) front = no_body front

-- the leg as a run of its child over the items of the exchange
abbrev pub run_of : Site → ℕ → Exchange → Leg → Run
run_of site c e leg = record {
  conn = c;
  child = leg.child;
  kind = leg.kind;
  limits = site.limits;
  offered = offered_at site c (up_to e []) leg.hop;
}
