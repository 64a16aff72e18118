-- The words of a field are those of its lines.
use Rattle.std.proofs.Common.{sym, ◌∙◌}
use Rattle.std.specs.Prelude.{filter}
use Rattle.std.specs.List.{list_any}
use Rattle.std.specs.Str.{str_eq_ignore_ascii_case}
use Rattle.host_base.specs.Ascii.{comma_words}
use Rattle.host_base.specs.FieldLists.{is_named, value_of, values_named}
use Rattle.host_base.proofs.AnyLaws.{list_any-map, list_any-flat_map}
use Rattle.host_base.proofs.fields.Sequence+Field.has_word.Goals as goal

pub returns : goal.returns
returns c =
    let test = str_eq_ignore_ascii_case c.args.word.now in
    c.has_word_in_line.ensures
    ∙ sym (list_any-flat_map test comma_words (values_named c.args.name.now c.args.self.now)
    ∙ list_any-map (λ value. list_any test (comma_words value)) value_of (filter (is_named c.args.name.now) c.args.self.now))
