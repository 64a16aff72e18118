use Rattle.std.proofs.Common.{sym, ◌∙◌}
use Rattle.std.specs.List.{slice_split}
use Rattle.httparse.specs.Grammar.{trim_ows}
use Rattle.host_base.specs.Ascii.{is_comma, is_filled}
use Rattle.host_base.proofs.AnyLaws.{list_any-filter-map}
use Rattle.body_framing.specs.Framing.{is_other_word}
use Rattle.body_framing.proofs.words.has_other_comma_word.Goals as goal

pub returns : goal.returns
returns c =
    c.has_other_part.ensures
    ∙ sym (list_any-filter-map (is_other_word c.args.word.now) is_filled trim_ows (slice_split is_comma c.args.value.now))
