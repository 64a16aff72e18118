use Rattle.std.proofs.Common.{◌+◌, sym, ◌∙◌}
use Rattle.std.proofs.lemmas.List.{take_rest}
use Rattle.head_reader.proofs.SecondWord.{second_word_len_none, second_word_len_is}
use Rattle.head_reader.proofs.request_line.second_word_len.Goals as goal

pub returns-in_default : goal.returns-in_default
returns-in_default c = second_word_len_none c.args.line.now (sym c.space_at.ensures ∙ c.in_default.is)

pub returns : goal.returns
returns c =
    c.unwrap_or.ensures
    ∙ second_word_len_is c.args.line.now _ c.in-Some.first c.space_at-2.result (sym c.in-Some.ensures)
    (take_rest c.args.line.now (c.in-Some.first + 1)) c.space_at-2.ensures
