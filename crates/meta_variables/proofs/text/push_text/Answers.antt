use Rattle.std.proofs.Common.{◌++◌, List, ℕ, sym, ap, ◌∙◌}
use Rattle.std.specs.Prelude.{string_bytes}
use Rattle.meta_variables.proofs.PushLaws.{on_ok}
use Rattle.meta_variables.proofs.TextLaws.{text_is, latin1_is}
use Rattle.meta_variables.proofs.text.push_text.Goals as goal

pub returns-in_ok-push_str-in-Ok : goal.returns-in_ok-push_str-in-Ok
returns-in_ok-push_str-in-Ok c =
    c.in_ok-push_str-in-Ok.ensures.bytes
    ∙ ap (λ (l : List ℕ). string_bytes c.args.text.now ++ l) (c.in-Ok.ensures.cases.0 ∙ sym (text_is c.args.bytes.now c.in-Ok.ensures.cases.1))

pub returns-in-Err : goal.returns-in-Err
returns-in-Err c =
    on_ok c.push_latin1.result _ _
    (λ made. made ∙ ap (λ (l : List ℕ). string_bytes c.args.text.now ++ l) (sym (latin1_is c.args.bytes.now c.in-Err.ensures.cases.0)))
    c.push_latin1.ensures
