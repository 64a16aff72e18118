-- What a stream writes is what the model of a connection lets stand, and demands.
use Rattle.std.specs.Prelude.{ℕ, ◌≡◌, ◌<◌, ◌^◌, Bool, true, false, List, ◌++◌, length, Option}
use Rattle.host_base.specs.declared.cause.Cause.{Cause}
use Rattle.reply_kinds.specs.declared.derived.Derived.{Derived}
use Rattle.reply_kinds.specs.declared.derived.Derived.TheVariants as Output
use Rattle.reply_kinds.specs.Derived.{derived_of}
use Rattle.reply_writer.specs.FaultReply.{fault_reply_of}
use Rattle.reply_writer.specs.WholeReply.{Spells, Way, is_spelling}
use Rattle.reply_stream.specs.declared.asked.Asked.{Asked}
use Rattle.reply_stream.specs.declared.stream.Last.{Last}
use Rattle.reply_stream.specs.declared.stream.Last.TheVariants as Ended
use Rattle.reply_stream.specs.Writing.{Stood, begun, begun_way}
use Rattle.trace_child.specs.Words.{is_filled}
use Rattle.trace_model.specs.Streams.{is_same_part, part_due}
use Rattle.exchange_reply.specs.Standings.{Ends, Stands, bytes_of, is_cut_by, part_by, so_far, spells_by, way_of}

-- ---- while the output goes on

-- bytes are the reply cut off after all of the body heard, but where it has none
pub record IsFullCut (way : Way) (bytes : List ℕ) (derived : Option Derived) : Type 0 where
  pub cut : is_cut_by way bytes derived ≡ true
  pub all : is_same_part (part_by way bytes derived) (part_due way derived) ≡ true
  pub some : is_filled bytes ≡ true

-- What stands of a reply that has begun is that.
abbrev pub StandingsAreCuts : Type 0
StandingsAreCuts = (asked : Asked) (output : List ℕ) (ticked close : Bool) (stamp : Option ℕ) (bytes : List ℕ) → length output < 2 ^ 64
    → Stands asked output ticked (begun close stamp bytes) → IsFullCut (begun_way asked close stamp) bytes (so_far asked.kind output)

-- It stays a cut of the reply, whatever output follows.
abbrev pub CutsStay : Type 0
CutsStay = (asked : Asked) (output more : List ℕ) (ticked close : Bool) (stamp : Option ℕ) (bytes : List ℕ) → length output < 2 ^ 64
    → Stands asked output ticked (begun close stamp bytes) → is_cut_by (begun_way asked close stamp) bytes (so_far asked.kind (output ++ more)) ≡ true

-- ---- once it has ended

-- with this text after what stood before the whole answer stands, and no sooner
pub record Completes (way : Way) (derived : Derived) (before text : List ℕ) : Type 0 where
  pub whole : spells_by way (before ++ text) derived ≡ true
  pub some : is_filled (before ++ text) ≡ true
  pub no_sooner : is_filled before ≡ true → is_filled text ≡ true → spells_by way before derived ≡ false

-- by what the end of the output comes to, and what stood
abbrev pub Concludes : Way → Derived → List ℕ → Last → Type 0
Concludes way derived before (Ended.Written text) = Completes way derived before text
Concludes way derived before (Ended.Hop location) = (derived ≡ Output.Hop location) × (is_filled before ≡ false)
Concludes way derived before (Ended.Bad cause) = (derived ≡ Output.Bad cause) × (is_filled before ≡ false)

-- What a reply comes to at its end: its text completes it, a local redirect or a refusal is what the output derives.
abbrev pub EndsConclude : Type 0
EndsConclude = (asked : Asked) (output : List ℕ) (ticked close : Bool) (stamp : Option ℕ) (stood : Stood) (last : Last) → length output < 2 ^ 64
    → Stands asked output ticked stood → Ends asked output close stamp stood last
    → Concludes (way_of asked close stamp stood) (derived_of asked.kind output) (bytes_of stood) last

-- A text of the host's own reply is its whole spelling in any way that counts as known.
abbrev pub FaultsAreSpelled : Type 0
FaultsAreSpelled = (text : List ℕ) (way : Way) (cause : Cause) → Spells text (record way { known = true }) (fault_reply_of cause)
    → is_spelling text (record way { known = true }) (fault_reply_of cause) ≡ true
