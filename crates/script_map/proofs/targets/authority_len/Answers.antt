use Rattle.std.proofs.Common.{length, ap, ◌∙◌, arith}
use Rattle.std.specs.Option.{unwrap_or}
use Rattle.script_map.specs.Targets.{is_authority_end}
use Rattle.script_map.proofs.ListLaws.{unwrap_or-position, position_or_len-le}
use Rattle.script_map.proofs.targets.authority_len.Goals as goal

pub returns-clause-value : goal.returns-clause-value
returns-clause-value c =
    c.unwrap_or.ensures ∙ ap (λ place. unwrap_or place (length c.args.text.now)) c.authority_end_at.ensures
    ∙ unwrap_or-position is_authority_end c.args.text.now

pub returns-clause-within : goal.returns-clause-within
returns-clause-within c =
    let value = c.unwrap_or.ensures ∙ ap (λ place. unwrap_or place (length c.args.text.now)) c.authority_end_at.ensures
    ∙ unwrap_or-position is_authority_end c.args.text.now in
    omega (arith, value, position_or_len-le is_authority_end c.args.text.now)
