-- What may stand of an exchange's answer, and whether it stands whole.
use Rattle.std.specs.Prelude.{ℕ, Bool, true, false, ◌&&◌, ◌||◌, nat_eq, if◌then◌else◌, List, [], ◌∷◌, bytes_eq, Option, Some, None}
use Rattle.std.specs.List.{starts_with}
use Rattle.host_base.specs.declared.site.Site.{Site}
use Rattle.host_trace.specs.Projections.{child_out}
use Rattle.reply_kinds.specs.declared.derived.Derived.{Derived}
use Rattle.reply_kinds.specs.declared.derived.Derived.TheVariants as Output
use Rattle.reply_kinds.specs.Derived.{derived_of, is_streamable}
use Rattle.reply_writer.specs.FaultReply.{fault_reply_of}
use Rattle.reply_writer.specs.WholeReply.{is_spelling, is_raw_spelling}
use Rattle.reply_writer.specs.CutReply.{cut_part, raw_cut_part}
use Rattle.ws_handshake.specs.Handshake.{accept_text}
use Rattle.trace_model.specs.Exchange.{Exchange, written, continue_part, final}
use Rattle.trace_model.specs.Legs.{Leg}
use Rattle.trace_model.specs.Answer.{Stage, running, broken_off, answered, Answer, replied, given_raw, faulted, talking, cut_off, no_answer, undecided, answer, stage}
use Rattle.trace_model.specs.Closes.{way, fault_way}

-- ---- whole

-- these bytes are the whole spelling of an answer that there is
abbrev pub spells_answer : Site → ℕ → Exchange → List ℕ → Answer → Bool
spells_answer site c e bytes (replied reply) = is_spelling bytes (way site c e) reply
spells_answer site c e bytes (given_raw output) = is_raw_spelling bytes output
spells_answer site c e bytes (faulted cause) = is_spelling bytes (fault_way site c e) (fault_reply_of cause)
spells_answer site c e bytes (talking value) = false
spells_answer site c e bytes (cut_off cause) = false
spells_answer site c e bytes no_answer = false
spells_answer site c e bytes undecided = false

-- ---- a part

-- what the output of a leg derives as far as it was heard, once its reply may begin
abbrev pub derived_so_far : Leg → List ℕ → Option Derived
derived_so_far leg output = if is_streamable leg.kind output then Some (derived_of leg.kind output) else None

abbrev pub begun_of : Exchange → Stage → Option Derived
begun_of e (running leg) = derived_so_far leg (child_out e.items leg.child)
begun_of e (broken_off leg cause stood) = derived_so_far leg (child_out e.items leg.child)
begun_of e (answered leg output) = derived_so_far leg (child_out e.items leg.child)
begun_of e _ = None

-- the part of the body that bytes have, if they are that reply cut off
abbrev pub part_of : Site → ℕ → Exchange → List ℕ → Option Derived → Option (List ℕ)
part_of site c e bytes (Some (Output.Reply reply)) = cut_part bytes (way site c e) reply
part_of site c e bytes (Some (Output.Raw output)) = raw_cut_part bytes
part_of site c e bytes _ = None

-- the body of it that was heard
abbrev pub body_begun : Option Derived → List ℕ
body_begun (Some (Output.Reply reply)) = reply.body
body_begun (Some (Output.Raw output)) = output
body_begun _ = []

abbrev pub is_front_of : List ℕ → Option (List ℕ) → Bool
is_front_of body None = false
is_front_of body (Some part) = starts_with nat_eq body part

-- bytes are that reply cut off after a front of the body heard
abbrev pub is_cut_of : Site → ℕ → Exchange → List ℕ → Option Derived → Bool
is_cut_of site c e bytes begun = is_front_of (body_begun begun) (part_of site c e bytes begun)

abbrev pub is_cut : Site → ℕ → Exchange → List ℕ → Bool
is_cut site c e bytes = is_cut_of site c e bytes (begun_of e (stage site c e))

-- ---- what may stand

-- after a run was broken off, what stood of its reply then, and no byte more
abbrev pub is_left_standing : List ℕ → Stage → Bool
is_left_standing bytes (broken_off leg cause stood) = bytes_eq bytes stood
is_left_standing bytes _ = false

-- these bytes, of which there are some, may stand of an answer
abbrev pub may_follow : Site → ℕ → Exchange → List ℕ → Answer → Bool
may_follow site c e bytes (talking value) = bytes_eq bytes (accept_text value)
may_follow site c e bytes (cut_off cause) = is_left_standing bytes (stage site c e) && is_cut site c e bytes
may_follow site c e bytes undecided = is_cut site c e bytes
may_follow site c e bytes no_answer = false
may_follow site c e bytes (replied reply) = spells_answer site c e bytes (replied reply)
may_follow site c e bytes (given_raw output) = spells_answer site c e bytes (given_raw output)
may_follow site c e bytes (faulted cause) = spells_answer site c e bytes (faulted cause)

abbrev pub may_be_final : Site → ℕ → Exchange → List ℕ → Bool
may_be_final site c e [] = true
may_be_final site c e (byte ∷ bytes) = may_follow site c e (byte ∷ bytes) (answer site c e)

-- after 100 Continue where it was due: nothing; the whole answer; the accept text; or the reply cut off
abbrev pub may_stand : Site → ℕ → Exchange → Bool
may_stand site c e = starts_with nat_eq (written c e) (continue_part site c e) && may_be_final site c e (final site c e)

-- the output has ended, and these bytes are its reply cut off
abbrev pub is_left_unfinished : Site → ℕ → Exchange → List ℕ → Stage → Bool
is_left_unfinished site c e bytes (answered leg output) = is_cut_of site c e bytes (begun_of e (answered leg output))
is_left_unfinished site c e bytes _ = false

-- Where memory was wanting: no 100 Continue though it was due; or what may stand; or, of a reply that had begun and whose
-- output has ended, what stood before its end. So it is a front of what stands elsewhere.
abbrev pub may_be_left : Site → ℕ → Exchange → List ℕ → Bool
may_be_left site c e [] = true
may_be_left site c e (byte ∷ bytes) =
    may_follow site c e (byte ∷ bytes) (answer site c e) || is_left_unfinished site c e (byte ∷ bytes) (stage site c e)

abbrev pub is_nothing : List ℕ → Bool
is_nothing [] = true
is_nothing (byte ∷ bytes) = false

abbrev pub may_stand_in_part : Site → ℕ → Exchange → Bool
may_stand_in_part site c e =
    is_nothing (written c e)
    || starts_with nat_eq (written c e) (continue_part site c e) && may_be_left site c e (final site c e)

-- ---- the whole answer stands

abbrev pub is_whole_final : Site → ℕ → Exchange → List ℕ → Bool
is_whole_final site c e [] = false
is_whole_final site c e (byte ∷ bytes) = spells_answer site c e (byte ∷ bytes) (answer site c e)

abbrev pub stands_whole : Site → ℕ → Exchange → Bool
stands_whole site c e = starts_with nat_eq (written c e) (continue_part site c e) && is_whole_final site c e (final site c e)
