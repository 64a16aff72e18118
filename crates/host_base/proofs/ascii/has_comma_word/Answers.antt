-- The words of a comma list are its parts that are not empty once trimmed.
use Rattle.std.proofs.Common.{sym, ◌∙◌}
use Rattle.std.specs.List.{slice_split}
use Rattle.std.specs.Str.{str_eq_ignore_ascii_case}
use Rattle.httparse.specs.Grammar.{trim_ows}
use Rattle.host_base.specs.Ascii.{is_comma, is_filled}
use Rattle.host_base.proofs.AnyLaws.{list_any-filter-map}
use Rattle.host_base.proofs.ascii.has_comma_word.Goals as goal

pub returns : goal.returns
returns c =
    c.has_part.ensures
    ∙ sym (list_any-filter-map (str_eq_ignore_ascii_case c.args.word.now) is_filled trim_ows (slice_split is_comma c.args.value.now))
