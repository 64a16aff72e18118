use Rattle.std.proofs.Common.{sym, ap, ◌∙◌}
use Rattle.std.specs.Prelude.{string_bytes}
use Rattle.std.specs.Str.{str_eq_ignore_ascii_case}
use Rattle.httparse.specs.Grammar.{trim_ows}
use Rattle.meta_variables.specs.Parts.{joined_more}
use Rattle.meta_variables.proofs.TextLaws.{joined_line, other_line}
use Rattle.meta_variables.proofs.text.joined_values.Goals as goal
use Rattle.meta_variables.proofs.text.joined_values.Goals.{then-is_same_word+in_ok-push_joined, else-is_same_word}

pub loop-field-preserved : goal.loop-field-preserved
loop-field-preserved c =
    let name = c.args.name.now in
    let fields = c.args.fields.now in
    let i = c.loop-field.field-index in
    let f = c.field-item.result in
    let named = ap (str_eq_ignore_ascii_case name) (sym c.as_slice.ensures) ∙ sym c.is_same_word.ensures in
    elim c.if-is_same_word.branch [
      | then-is_same_word+in_ok-push_joined w ↦
          joined_line c.args.separator.now name fields i f (string_bytes c.loop-field.text) (string_bytes c.if-is_same_word.text)
          c.loop-field-test.true c.field-item.is (named ∙ w.if-is_same_word.true) c.loop-field.invariant
          (ap string_bytes w.text-is ∙ w.in_ok-push_joined.ensures
          ∙ ap (λ value. joined_more c.args.separator.now (string_bytes c.loop-field.text) (trim_ows value)) w.as_slice-then-is_same_word.ensures)
      | else-is_same_word w ↦
          ap string_bytes w.text-is
          ∙ other_line c.args.separator.now name fields i f (string_bytes c.loop-field.text) c.loop-field-test.true c.field-item.is
          (named ∙ w.if-is_same_word.false) c.loop-field.invariant
    ]
