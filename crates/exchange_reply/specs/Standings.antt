-- What stands of a leg's reply, by the output so far and by whether a Tick came after its header; and the words of the
-- model of a connection for it, over bytes and ways alone.
use Rattle.std.specs.Prelude.{ℕ, ◌≡◌, Bool, true, false, ◌&&◌, ◌||◌, nat_lt, if◌then◌else◌, List, [], ◌++◌, length, Option, Some, None}
use Rattle.host_base.specs.declared.site.ScriptKind.{ScriptKind}
use Rattle.reply_kinds.specs.declared.derived.Derived.{Derived}
use Rattle.reply_kinds.specs.declared.derived.Derived.TheVariants as Output
use Rattle.reply_kinds.specs.Derived.{derived_of, is_streamable}
use Rattle.reply_writer.specs.CutReply.{cut_part, raw_cut_part}
use Rattle.reply_writer.specs.FaultReply.{fault_reply_of}
use Rattle.reply_writer.specs.WholeReply.{Way, is_raw_spelling, is_spelling}
use Rattle.reply_stream.specs.declared.asked.Asked.{Asked}
use Rattle.reply_stream.specs.declared.stream.Last.{Last}
use Rattle.reply_stream.specs.Hearing.{most_kept}
use Rattle.reply_stream.specs.Writing.{Stood, nothing, begun, begun_way, whole_way, IsLastOf, IsPartOf, IsRestOf}
use Rattle.trace_model.specs.Standing.{body_begun, is_front_of}

-- ---- while the output goes on

-- the reply is to have begun
abbrev pub is_due : ScriptKind → List ℕ → Bool → Bool
is_due kind output ticked = is_streamable kind output && (nat_lt most_kept (length output) || ticked)

-- what the output derives, once its reply may begin
abbrev pub so_far : ScriptKind → List ℕ → Option Derived
so_far kind output = if is_streamable kind output then Some (derived_of kind output) else None

abbrev pub bytes_of : Stood → List ℕ
bytes_of nothing = []
bytes_of (begun close stamp bytes) = bytes

-- the reply has begun exactly where it is to, and then all of it stands that is known
abbrev pub Stands : Asked → List ℕ → Bool → Stood → Type 0
Stands asked output ticked nothing = is_due asked.kind output ticked ≡ false
Stands asked output ticked (begun close stamp bytes) =
    (is_due asked.kind output ticked ≡ true) × IsPartOf (begun_way asked close stamp) (derived_of asked.kind output) bytes

-- what stands once these bytes were written after what stood
abbrev pub next : Asked → List ℕ → Bool → Bool → Option ℕ → Stood → List ℕ → Stood
next asked output ticked close stamp nothing text = if is_due asked.kind output ticked then begun close stamp text else nothing
next asked output ticked close stamp (begun close_then stamp_then before) text = begun close_then stamp_then (before ++ text)

-- ---- once it has ended

-- the way in which it is spelled: of a reply that has begun that of its first byte, else the one that is given
abbrev pub way_of : Asked → Bool → Option ℕ → Stood → Way
way_of asked close stamp nothing = whole_way asked close stamp
way_of asked close stamp (begun close_then stamp_then bytes) = begun_way asked close_then stamp_then

-- what the whole output comes to
abbrev pub Ends : Asked → List ℕ → Bool → Option ℕ → Stood → Last → Type 0
Ends asked output close stamp nothing last = IsLastOf (whole_way asked close stamp) (derived_of asked.kind output) last
Ends asked output close stamp (begun close_then stamp_then before) last =
    IsRestOf (begun_way asked close_then stamp_then) (derived_of asked.kind output) before last

-- ---- the model's words, by the way

-- the part of the body that bytes have, if they are that reply cut off
abbrev pub part_by : Way → List ℕ → Option Derived → Option (List ℕ)
part_by way bytes (Some (Output.Reply reply)) = cut_part bytes way reply
part_by way bytes (Some (Output.Raw output)) = raw_cut_part bytes
part_by way bytes _ = None

-- bytes are that reply cut off after a front of the body heard
abbrev pub is_cut_by : Way → List ℕ → Option Derived → Bool
is_cut_by way bytes derived = is_front_of (body_begun derived) (part_by way bytes derived)

-- bytes are the whole answer of an output that derives this
abbrev pub spells_by : Way → List ℕ → Derived → Bool
spells_by way bytes (Output.Reply reply) = is_spelling bytes way reply
spells_by way bytes (Output.Raw output) = is_raw_spelling bytes output
spells_by way bytes (Output.Hop location) = false
spells_by way bytes (Output.Bad cause) = is_spelling bytes (record way { known = true }) (fault_reply_of cause)
