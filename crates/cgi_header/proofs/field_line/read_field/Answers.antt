use Rattle.std.proofs.Common.{◌+◌, sym, ◌∙◌}
use Rattle.std.proofs.lemmas.List.{take_rest}
use Rattle.cgi_header.proofs.LineLaws.{no_field, no_name, no_value, some_field}
use Rattle.cgi_header.proofs.field_line.read_field.Goals as goal
use Rattle.cgi_header.proofs.field_line.read_field.Goals.{then-not-is_token-via-then-not-is_token, then-not-is_token-via-else-not-is_token+then-not-is_value}

pub returns-in_default : goal.returns-in_default
returns-in_default c = no_field c.args.line.now (sym c.colon_at.ensures ∙ c.in_default.is)

pub returns-then-not-is_token : goal.returns-then-not-is_token
returns-then-not-is_token c =
    let colon = sym c.colon_at.ensures ∙ c.in-Some.is in
    elim c.then-not-is_token.branch [
      | then-not-is_token-via-then-not-is_token w ↦
          no_name c.args.line.now c.in-Some.at colon (sym c.is_token.ensures ∙ w.if-not-is_token.true)
      | then-not-is_token-via-else-not-is_token+then-not-is_value w ↦
          no_value c.args.line.now _ c.in-Some.at colon (take_rest c.args.line.now (c.in-Some.at + 1)) (sym w.is_value.ensures ∙ w.if-not-is_value.true)
    ]

pub returns : goal.returns
returns c =
    let colon = sym c.colon_at.ensures ∙ c.in-Some.is in
    let is = some_field c.args.line.now _ c.in-Some.at colon (take_rest c.args.line.now (c.in-Some.at + 1))
    (sym c.is_token.ensures ∙ c.if-not-is_token.false) (sym c.is_value.ensures ∙ c.if-not-is_value.false) in
    cc (c.in_ok-from_slice.ensures, c.in_ok-from_slice-2.ensures, c.trim.ensures, is)
