use Rattle.std.proofs.Common.{sym, ap, ◌∙◌, Some, List, ℕ}
use Rattle.std.proofs.lemmas.List.{take_rest}
use Rattle.httparse.specs.Grammar.{trim_ows}
use Rattle.cgi_header.proofs.StatusLaws.{status_again}
use Rattle.cgi_header.proofs.status.read_status.Goals as goal

pub returns-in_ok-from_slice-in-Some : goal.returns-in_ok-from_slice-in-Some
returns-in_ok-from_slice-in-Some c =
    let phrase = c.in_ok-from_slice-in-Some.ensures ∙ c.trim.ensures ∙ ap trim_ows (take_rest c.args.value.now 3) in
    ap (λ (p : List ℕ). Some (record { code = c.in-Some.code; phrase = p })) phrase
    ∙ sym (status_again c.args.value.now c.in-Some.code c.in-Some.ensures.code)
