-- A reply that is to be streamed has begun, and all of the body heard stands, but where no body does; and it begins no
-- sooner.
use Rattle.std.specs.Prelude.{ℕ, Bool, false, ◌&&◌, if◌then◌else◌, List, [], Option, Some, None, bytes_eq}
use Rattle.host_base.specs.declared.site.Site.{Site}
use Rattle.reply_kinds.specs.declared.derived.Derived.{Derived}
use Rattle.reply_kinds.specs.declared.derived.Derived.TheVariants as Output
use Rattle.reply_writer.specs.Spelling.{is_head_alone}
use Rattle.reply_writer.specs.WholeReply.{Way}
use Rattle.trace_child.specs.Words.{implies}
use Rattle.trace_model.specs.Answer.{is_undecided, answer, stage}
use Rattle.trace_model.specs.Closes.{way, as_begun}
use Rattle.trace_model.specs.Demands.{must_stream, is_to_stream}
use Rattle.trace_model.specs.Exchange.{Exchange, final, has_final}
use Rattle.trace_model.specs.Standing.{begun_of, part_of}

-- all of the body heard, but where a reply has none (RFC 9110 9.3.2 and 15.3.5)
abbrev pub part_due : Way → Option Derived → Option (List ℕ)
part_due way (Some (Output.Reply reply)) = Some (if is_head_alone reply way.head_only then [] else reply.body)
part_due way (Some (Output.Raw output)) = Some output
part_due way _ = None

abbrev pub is_same_part : Option (List ℕ) → Option (List ℕ) → Bool
is_same_part (Some part) (Some due) = bytes_eq part due
is_same_part _ _ = false

abbrev pub is_streamed_by : Site → ℕ → Exchange → Option Derived → Bool
is_streamed_by site c e begun =
    has_final site c e && is_same_part (part_of site c e (final site c e) begun) (part_due (way site c e) begun)

abbrev pub streams : Site → ℕ → Exchange → Bool
streams site c e = implies (must_stream site c e) (is_streamed_by site c e (begun_of e (stage site c e)))

-- where its first byte was written before its run was decided, this was demanded there
abbrev pub is_undecided_at : Site → ℕ → Exchange → Bool
is_undecided_at site c e = is_undecided (answer site c e) && has_final site c e

abbrev pub begins_no_sooner : Site → ℕ → Exchange → Bool
begins_no_sooner site c e =
    implies (is_undecided_at site c (as_begun site c e)) (is_to_stream (as_begun site c e) (stage site c (as_begun site c e)))
