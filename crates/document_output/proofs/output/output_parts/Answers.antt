use Rattle.std.proofs.Common.{sym, ap, ◌∙◌, List, length}
use Rattle.std.specs.Prelude.{option_map}
use Rattle.host_base.specs.declared.launch.Pair.{Pair}
use Rattle.document_output.specs.Output.{answer_of, method_of, asked_range, bytes_of}
use Rattle.document_output.proofs.OutputLaws.{answered_is}
use Rattle.document_output.proofs.output.output_parts.Goals as goal

pub returns : goal.returns
returns c =
    answered_is c.text_bytes.result c.file_part.result.now c.in_ok-media.media.now c.file_of-file.result.now c.answer_to-answer.result _ _ _
    (c.text_bytes.ensures ∙ c.in_ok-text.ensures)
    c.file_part.ensures
    c.in_ok-media.ensures
    c.file_of-file.ensures
    (c.answer_to-answer.ensures
    ∙ ap (λ (env : List Pair). answer_of (method_of env) (asked_range env) (option_map length (bytes_of c.args.found.now))) c.as_slice.ensures)
