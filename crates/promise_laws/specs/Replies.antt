-- What is written to a client, exchange by exchange.
use Rattle.std.specs.Prelude.{ℕ, true, false, List, [], ◌∷◌, ◌++◌, ◌≡◌, None, Ok}
use Rattle.std.specs.List.{flat_map}
use Rattle.host_base.specs.declared.cause.Cause.{Cause}
use Rattle.host_base.specs.declared.reply.Reply.{Reply}
use Rattle.host_base.specs.declared.request.Request.{Request}
use Rattle.host_base.specs.declared.site.Mapped.{Mapped}
use Rattle.host_base.specs.declared.site.ScriptKind.TheVariants.{WebSocket}
use Rattle.host_base.specs.declared.site.Site.{Site}
use Rattle.host_trace.specs.declared.items.Item.{Item}
use Rattle.host_trace.specs.Account.{has_unsettled}
use Rattle.host_trace.specs.Projections.{child_out, client_out, own, shut_for_memory}
use Rattle.reply_kinds.specs.declared.derived.Derived.{Derived}
use Rattle.reply_kinds.specs.declared.derived.Derived.TheVariants as Output
use Rattle.reply_kinds.specs.Derived.{derived_of, is_streamable}
use Rattle.reply_writer.specs.CutReply.{Cuts}
use Rattle.reply_writer.specs.FaultReply.{fault_reply_of}
use Rattle.reply_writer.specs.WholeReply.{Spells}
use Rattle.ws_handshake.specs.Handshake.{accept_text, handshake}
use Rattle.trace_child.specs.Decided.{decided_at}
use Rattle.trace_model.specs.Exchange.{Exchange, all_of, continue_part, final, up_to, written}
use Rattle.trace_model.specs.Places.{kind_of, origins_of, place_of}
use Rattle.trace_model.specs.Legs.{Leg, run_of}
use Rattle.trace_model.specs.Closes.{fault_way, way}
use Rattle.trace_model.specs.Exchanges.{current, ended}
use Rattle.promise_laws.specs.Grounds.{HasOutput, IsCause, IsLed, IsRun, StandsBehind}

-- ---- whole

-- These bytes are a whole reply of the exchange: the one that RFC 3875 derives from its child's whole output; that output
-- as it is, of a script that writes its own reply (RFC 3875 5); or the host's own for a cause that stands there.
pub data IsReply (site : Site) (c : ℕ) (e : Exchange) (bytes : List ℕ) : Type 0 where
  of_script : (leg : Leg) (output : List ℕ) (reply : Reply) → IsRun site c e leg → HasOutput site c e leg output
      → derived_of leg.kind output ≡ Output.Reply reply → Spells bytes (way site c e) reply → IsReply site c e bytes
  of_output : (leg : Leg) (output : List ℕ) → IsRun site c e leg → HasOutput site c e leg output → derived_of leg.kind output ≡ Output.Raw bytes
      → IsReply site c e bytes
  of_host : (cause : Cause) → IsCause site c e cause → Spells bytes (fault_way site c e) (fault_reply_of cause) → IsReply site c e bytes

-- after 100 Continue, where it was due, a whole reply stands, and no child of the exchange is left
pub record IsAnswered (site : Site) (c : ℕ) (e : Exchange) : Type 0 where
  pub bytes : List ℕ
  pub wrote : written c e ≡ continue_part site c e ++ bytes
  pub reply : IsReply site c e bytes
  pub settled : has_unsettled e.items c ≡ false

-- .. and so of each of several exchanges, behind those before them
abbrev pub AreAnswered : Site → ℕ → List Item → List Exchange → List Exchange → Type 0
AreAnswered site c L earlier [] = Unit {0}
AreAnswered site c L earlier (e ∷ es) = StandsBehind site c L earlier e × IsAnswered site c e × AreAnswered site c L (earlier ++ e ∷ []) es

-- ---- a front

-- the handshake of its request is accepted with this value (RFC 6455 4.2.2)
pub record IsAccepted (site : Site) (c : ℕ) (e : Exchange) (value : List ℕ) : Type 0 where
  pub hop : ℕ
  pub request : Request
  pub led : IsLed site c e hop request
  pub mapped : Mapped
  pub place : place_of site request ≡ Ok mapped
  pub kind : kind_of site mapped ≡ WebSocket
  pub taken : handshake request (origins_of site mapped) ≡ Ok value

-- why the reply of a run is not whole: nothing has decided the run; or an item did that is not the end of its output, and
-- no byte was written since; or memory was wanting
pub data IsOpen (site : Site) (c : ℕ) (e : Exchange) (leg : Leg) (bytes : List ℕ) : Type 0 where
  runs : decided_at (run_of site c e leg) e.items ≡ None → IsOpen site c e leg bytes
  stopped_at : (before : List Item) (item : Item) (later : List Item) → e.items ≡ before ++ item ∷ later
      → decided_at (run_of site c e leg) before ≡ None → bytes ≡ final site c (up_to e (before ++ item ∷ [])) → IsOpen site c e leg bytes
  left : shut_for_memory (all_of e) c ≡ true → IsOpen site c e leg bytes

-- what the output so far derives, where a reply to it may begin
pub record IsStreamed (e : Exchange) (leg : Leg) (so_far : Derived) : Type 0 where
  pub may : is_streamable leg.kind (child_out e.items leg.child) ≡ true
  pub derives : derived_of leg.kind (child_out e.items leg.child) ≡ so_far

-- These bytes may stand of an answer: none; a whole reply; the accept text; or a reply that is cut off after a front of
-- the body that was heard.
pub data IsFront (site : Site) (c : ℕ) (e : Exchange) (bytes : List ℕ) : Type 0 where
  nothing : bytes ≡ [] → IsFront site c e bytes
  whole : IsReply site c e bytes → IsFront site c e bytes
  accept : (value : List ℕ) → IsAccepted site c e value → bytes ≡ accept_text value → IsFront site c e bytes
  part : (leg : Leg) (reply : Reply) (sent unsent : List ℕ) → IsRun site c e leg → IsOpen site c e leg bytes → IsStreamed e leg (Output.Reply reply)
      → Cuts bytes (way site c e) reply sent → reply.body ≡ sent ++ unsent → IsFront site c e bytes
  raw_part : (leg : Leg) (output unsent : List ℕ) → IsRun site c e leg → IsOpen site c e leg bytes → IsStreamed e leg (Output.Raw output)
      → output ≡ bytes ++ unsent → IsFront site c e bytes

-- of the exchange that goes on: after 100 Continue, where it was due, such bytes; or nothing, where memory was wanting
pub data GoesOn (site : Site) (c : ℕ) (e : Exchange) : Type 0 where
  answers : (bytes : List ℕ) → written c e ≡ continue_part site c e ++ bytes → IsFront site c e bytes → GoesOn site c e
  gives_up : shut_for_memory (all_of e) c ≡ true → written c e ≡ [] → GoesOn site c e

-- ---- all that is written to a client

-- What was written is, exchange by exchange, a whole reply of each that has ended, and behind these what may stand of
-- the one that goes on. All items of the connection are of these exchanges.
pub record IsWrittenRight (site : Site) (T : List Item) (c : ℕ) : Type 0 where
  pub wrote : client_out T c ≡ flat_map (written c) (ended site c (own T c)) ++ written c (current site c (own T c))
  pub each : AreAnswered site c (own T c) [] (ended site c (own T c))
  pub behind : StandsBehind site c (own T c) (ended site c (own T c)) (current site c (own T c))
  pub nothing_more : behind.later ≡ []
  pub goes_on : GoesOn site c (current site c (own T c))
