-- What the reply of a leg knows, and what its calls give.
use Rattle.std.specs.Prelude.{ℕ, ◌≡◌, ◌||◌, Bool, true, List, Option, Some, None}
use Rattle.host_base.specs.declared.cause.Cause.{Cause}
use Rattle.host_base.specs.declared.request.Version.{Version}
use Rattle.reply_kinds.specs.Derived.{derived_of, is_header_whole}
use Rattle.reply_writer.specs.FaultReply.{fault_reply_of}
use Rattle.reply_writer.specs.WholeReply.{Spells}
use Rattle.reply_writer.specs.WholeRules.{known_way}
use Rattle.reply_stream.specs.Memory.{IsChunked}
use Rattle.reply_stream.specs.declared.asked.Asked.{Asked}
use Rattle.reply_stream.specs.Hearing.{Told, is_ticked, output_of}
use Rattle.reply_stream.specs.Stages.{IsAt}
use Rattle.reply_stream.specs.Writing.{Stood, nothing, begun, begun_way, IsQuiet}
use Rattle.exchange_reply.specs.declared.reply.LegReply.{LegReply}
use Rattle.exchange_reply.specs.Standings.{Stands, is_due, next}

-- of a reply that has begun it is known whether it closes
abbrev pub IsClosedBy : Bool → Stood → Type 0
IsClosedBy closes nothing = Unit {0}
IsClosedBy closes (begun close stamp bytes) = closes ≡ close

-- This output was heard, a Tick came after its header or none did, and this stands.
pub record KnowsReply (r : LegReply) (asked : Asked) (output : List ℕ) (ticked : Bool) (stood : Stood) : Type 0 where
  pub asked_is : r.asked ≡ asked
  pub told : List Told
  pub output_is : output_of told ≡ output
  pub ticked_is : is_ticked asked.kind told ≡ ticked
  pub is_at : IsAt asked told stood r.stream
  pub closes_is : IsClosedBy r.closes stood

-- with this text after what stood; it is empty where nothing stands still
pub record Gives (asked : Asked) (output : List ℕ) (ticked close : Bool) (stamp : Option ℕ) (stood : Stood) (text : List ℕ) (r : LegReply) : Type 0 where
  pub knows : KnowsReply r asked output ticked (next asked output ticked close stamp stood text)
  pub quiet : IsQuiet (next asked output ticked close stamp stood text) text

-- whether the connection closes after it, where it closes after an answer that begins now
abbrev pub closes_of : Stood → Bool → Bool
closes_of nothing closes_now = closes_now
closes_of (begun close stamp bytes) closes_now = close

-- ---- memory

-- at a Tick it can be wanting where the reply is to begin ..
abbrev pub MayTickWithout : Asked → List ℕ → Bool → Stood → Type 0
MayTickWithout asked output ticked nothing = is_due asked.kind output (ticked || is_header_whole asked.kind output) ≡ true
MayTickWithout asked output ticked (begun close stamp bytes) = ⊥

-- .. and at the end where nothing was written, or the end of the chunks is to be
abbrev pub MayEndWithout : Asked → List ℕ → Stood → Type 0
MayEndWithout asked output nothing = Unit {0}
MayEndWithout asked output (begun close stamp bytes) = IsChunked (begun_way asked close stamp) (derived_of asked.kind output)

-- ---- the host's own reply

-- text is the whole of the host's own reply, whatever the version of the request
abbrev pub SpellsFault : Cause → Bool → Bool → Option ℕ → List ℕ → Type 0
SpellsFault cause bare closes now text = (version : Version) → Spells text (known_way version bare closes now) (fault_reply_of cause)

abbrev pub Fails : Asked → Cause → Bool → Option ℕ → Stood → Option (List ℕ) → Type 0
Fails asked cause closes now nothing (Some text) = SpellsFault cause asked.head_only closes now text
Fails asked cause closes now nothing None = ⊥
Fails asked cause closes now (begun close stamp bytes) (Some text) = ⊥
Fails asked cause closes now (begun close stamp bytes) None = Unit {0}

-- ---- what is known stands

-- What stands of a reply is what is to stand.
abbrev pub KnownStand : Type 0
KnownStand = (r : LegReply) (asked : Asked) (output : List ℕ) (ticked : Bool) (stood : Stood) → KnowsReply r asked output ticked stood
    → Stands asked output ticked stood
