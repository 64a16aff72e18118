use Rattle.std.proofs.Common.{List, codes, min, length, ap, ◌∙◌}
use Rattle.std.specs.List.{list_any}
use Rattle.host_base.specs.FieldLists.{field_words}
use Rattle.host_base.specs.declared.fields.Field.{Field}
use Rattle.body_framing.specs.Framing.{is_other_word}
use Rattle.request_reader.proofs.Expect.{expects_are}
use Rattle.request_reader.proofs.asked.expects_by_words.Goals as goal

pub returns : goal.returns
returns c =
    c.expects_by.ensures
    ∙ expects_are (field_words (codes "Expect") c.args.fields.now) c.args.framing c.count_field_words-count.result c.has_other_word-is_other.result
    (c.count_field_words-count.ensures ∙ ap (λ (fields : List Field). min 2 (length (field_words (codes "Expect") fields))) c.as_slice-fields.ensures)
    (c.has_other_word-is_other.ensures
    ∙ ap (λ (fields : List Field). list_any (is_other_word (codes "100-continue")) (field_words (codes "Expect") fields)) c.as_slice-fields.ensures)
