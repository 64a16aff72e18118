use Rattle.std.proofs.Common.{codes, ◌∙◌}
use Rattle.body_framing.proofs.WordLaws.{codings_are}
use Rattle.body_framing.proofs.framing.framing_by_codings.Goals as goal

pub returns : goal.returns
returns c =
    c.framing_by.ensures
    ∙ codings_are (codes "Transfer-Encoding") c.args.fields.now c.has_other_word.result c.count_field_words-count.result
    c.has_other_word.ensures c.count_field_words-count.ensures
