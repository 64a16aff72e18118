use Rattle.std.proofs.Common.{sym, ap, ◌∙◌}
use Rattle.std.specs.Option.{option_map}
use Rattle.std.proofs.lemmas.List.{take_rest}
use Rattle.cgi_header.specs.declared.header.Given.{Given}
use Rattle.cgi_header.specs.ScriptHeader.{is_set_off}
use Rattle.cgi_header.proofs.StatusLaws.{some_status, no_digits, not_final, not_set_off}
use Rattle.cgi_header.proofs.status.status_code.Goals as goal

pub returns-in_default-3-clause-code : goal.returns-in_default-3-clause-code
returns-in_default-3-clause-code c =
    ap (option_map (λ (given : Given). given.code)) (sym (no_digits c.args.value.now (sym c.in_default.is ∙ c.three_digits.ensures)))

pub returns-in_default-2-clause-code : goal.returns-in_default-2-clause-code
returns-in_default-2-clause-code c =
    ap (option_map (λ (given : Given). given.code))
    (sym (not_final c.args.value.now c.in-Some.code c.in-Some.ensures (sym c.is_final.ensures ∙ c.if-is_final.false)))

pub returns-in_default-clause-code : goal.returns-in_default-clause-code
returns-in_default-clause-code c =
    let rest = ap is_set_off (take_rest c.args.value.now 3) in
    ap (option_map (λ (given : Given). given.code))
    (sym (not_set_off c.args.value.now (sym rest ∙ sym c.is_set_off.ensures ∙ c.if-is_set_off.false)))

pub returns-in-Some-clause-code : goal.returns-in-Some-clause-code
returns-in-Some-clause-code c =
    let rest = ap is_set_off (take_rest c.args.value.now 3) in
    ap (option_map (λ (given : Given). given.code))
    (sym (some_status c.args.value.now c.in-Some.code c.in-Some.ensures (sym c.is_final.ensures ∙ c.if-is_final.true)
    (sym rest ∙ sym c.is_set_off.ensures ∙ c.if-is_set_off.true)))
