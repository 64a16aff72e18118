-- The reply of a leg in an exchange that goes on.
use Rattle.std.specs.Prelude.{ℕ, ◌≡◌, ◌<◌, ◌^◌, Bool, length, is_some}
use Rattle.host_base.specs.declared.site.Site.{Site}
use Rattle.host_trace.specs.First.{first_front}
use Rattle.host_trace.specs.Projections.{child_out}
use Rattle.reply_stream.specs.declared.asked.Asked.{Asked}
use Rattle.reply_stream.specs.Writing.{Stood, nothing, begun, begun_way}
use Rattle.trace_model.specs.Closes.{version_by, way}
use Rattle.trace_model.specs.Demands.{is_tick_after_header}
use Rattle.trace_model.specs.Exchange.{Exchange, final, reading}
use Rattle.trace_model.specs.Legs.{Leg}
use Rattle.trace_model.specs.Readings.{headed, is_bare}
use Rattle.exchange_reply.specs.Standings.{Stands, bytes_of}

-- a Tick came after the header
abbrev pub has_ticked : Exchange → Leg → Bool
has_ticked e leg = is_some (first_front (is_tick_after_header leg) e.items)

-- the reply was made for this leg of the exchange
pub record IsMadeFor (site : Site) (c : ℕ) (e : Exchange) (leg : Leg) (asked : Asked) : Type 0 where
  pub kind : leg.kind ≡ asked.kind
  pub version : version_by (headed (reading site c e)) ≡ asked.version
  pub head_only : is_bare (reading site c e) ≡ asked.head_only

-- of a reply that has begun, its first byte fixed the way of the answer
abbrev pub IsFixed : Site → ℕ → Exchange → Asked → Stood → Type 0
IsFixed site c e asked nothing = Unit {0}
IsFixed site c e asked (begun close stamp bytes) = way site c e ≡ begun_way asked close stamp

-- what stands of the final answer is what stands of this reply
pub record IsReplyOf (site : Site) (c : ℕ) (e : Exchange) (leg : Leg) (asked : Asked) (stood : Stood) : Type 0 where
  pub kind : leg.kind ≡ asked.kind
  pub final_is : final site c e ≡ bytes_of stood
  pub fixed : IsFixed site c e asked stood
  pub stands : Stands asked (child_out e.items leg.child) (has_ticked e leg) stood
  pub short : length (child_out e.items leg.child) < 2 ^ 64
