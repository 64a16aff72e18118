-- An exchange whose answer is written by the reply of a leg.
use Rattle.std.specs.Prelude.{ℕ, ◌≡◌, ◌<◌, ◌^◌, Bool, true, false, ◌&&◌, ◌||◌, List, [], ◌∷◌, ◌++◌, length, Option, Some, None}
use Rattle.host_base.specs.declared.site.Site.{Site}
use Rattle.host_trace.specs.declared.items.Item.{Item}
use Rattle.host_trace.specs.Decider.{Outcome, derived, failed, unanswered}
use Rattle.host_trace.specs.Projections.{child_out, last_secs}
use Rattle.reply_kinds.specs.Derived.{is_header_whole}
use Rattle.reply_stream.specs.declared.asked.Asked.{Asked}
use Rattle.reply_stream.specs.Writing.{Stood}
use Rattle.trace_child.specs.Decided.{decided_at, outcome_of}
use Rattle.trace_model.specs.Closes.{closes_now}
use Rattle.trace_model.specs.Exchange.{Exchange, all_of, final, up_to}
use Rattle.trace_model.specs.Legs.{Leg, leg_of, run_of}
use Rattle.trace_model.specs.Streams.{begins_no_sooner}
use Rattle.exchange_reply.specs.declared.reply.LegReply.{LegReply}
use Rattle.exchange_reply.specs.Leg.{has_ticked}
use Rattle.exchange_reply.specs.Reply.{Gives, KnowsReply}
use Rattle.exchange_reply.specs.Standings.{Stands}
use Rattle.exchange_reply.specs.StepRules.{IsWrittenBy}
use Rattle.exchange_stage.specs.declared.stage.Leg.{Leg as Held}

-- The reply was told this output and whether a Tick came after its header; `more` output was heard that it wasn't told
-- of; and this stands of it. Nothing was written since the run was decided.
pub record IsOfRun (site : Site) (c : ℕ) (e : Exchange) (leg : Leg) (asked : Asked) (told : List ℕ) (ticked : Bool) (stood : Stood) (more : List ℕ) : Type 0 where
  pub written_by : IsWrittenBy site c e leg asked stood
  pub stands : Stands asked told ticked stood
  pub short : length told < 2 ^ 64
  pub output : child_out e.items leg.child ≡ told ++ more
  pub since_decided : (front : List Item) → decided_at (run_of site c e leg) e.items ≡ Some front → final site c (up_to e front) ≡ final site c e
  pub all_told : (front : List Item) → decided_at (run_of site c e leg) e.items ≡ Some front → outcome_of (run_of site c e leg) e.items ≡ Some derived
      → child_out front leg.child ≡ told
  pub no_sooner : begins_no_sooner site c e ≡ true

-- Nothing of it is to be written now: the reply knows what it was told, and `again` says that a Tick came that it wasn't
-- told of.
pub record IsTold (site : Site) (c : ℕ) (e : Exchange) (leg : Leg) (asked : Asked) (told : List ℕ) (ticked : Bool) (stood : Stood) (untold more : List ℕ) (again : Bool) (reply : LegReply) : Type 0 where
  pub more_is : untold ≡ more
  pub knows : KnowsReply reply asked told ticked stood
  pub ticked_is : decided_at (run_of site c e leg) e.items ≡ None → has_ticked e leg ≡ (ticked || again && is_header_whole asked.kind told)

-- This text of it is to be written now: the run goes on, and the reply was told all output and each Tick. `untold` is
-- what it was told since what stands was written.
pub record IsHanded (site : Site) (c : ℕ) (e : Exchange) (leg : Leg) (asked : Asked) (told : List ℕ) (stood : Stood) (untold more : List ℕ) (again : Bool) (text : List ℕ) (reply : LegReply) : Type 0 where
  pub none_more : more ≡ []
  pub unticked : again ≡ false
  pub goes_on : decided_at (run_of site c e leg) e.items ≡ None
  pub gives : Gives asked (told ++ untold) (has_ticked e leg) (closes_now site c e) (last_secs (all_of e)) stood text reply
  pub within : length (told ++ untold) < 2 ^ 64

-- by the text that is to be written now; `more` output was heard that the reply wasn't told of
abbrev pub IsReady : Site → ℕ → Exchange → Leg → Asked → List ℕ → Bool → Stood → List ℕ → List ℕ → Bool → List ℕ → LegReply → Type 0
IsReady site c e leg asked told ticked stood untold more again [] reply = IsTold site c e leg asked told ticked stood untold more again reply
IsReady site c e leg asked told ticked stood untold more again (byte ∷ text) reply =
    IsHanded site c e leg asked told stood untold more again (byte ∷ text) reply

-- the leg that the code holds, of this child
abbrev pub leg_held : Held → ℕ → Leg
leg_held held k = leg_of held.hop held.kind held.request k

-- decided, but not by the end of its output
abbrev pub is_cut_short : Option Outcome → Bool
is_cut_short None = false
is_cut_short (Some derived) = false
is_cut_short (Some (failed cause)) = true
is_cut_short (Some unanswered) = true
