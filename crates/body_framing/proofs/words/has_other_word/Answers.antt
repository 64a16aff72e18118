use Rattle.std.proofs.Common.{◌∙◌}
use Rattle.body_framing.proofs.WordLaws.{other_word_in}
use Rattle.body_framing.proofs.words.has_other_word.Goals as goal

pub returns : goal.returns
returns c = c.has_other_in_line.ensures ∙ other_word_in c.args.name.now c.args.word.now c.args.fields.now
