use Rattle.std.proofs.Common.{◌==◌, length, ap, ◌∙◌, arith}
use Rattle.std.specs.Option.{unwrap_or}
use Rattle.script_map.proofs.ListLaws.{unwrap_or-position, position_or_len-le}
use Rattle.script_map.proofs.bytes.len_before.Goals as goal

pub returns-clause-value : goal.returns-clause-value
returns-clause-value c =
    c.unwrap_or.ensures ∙ ap (λ place. unwrap_or place (length c.args.bytes.now)) c.first_at.ensures
    ∙ unwrap_or-position (λ byte. byte == c.args.stop) c.args.bytes.now

pub returns-clause-within : goal.returns-clause-within
returns-clause-within c =
    let value = c.unwrap_or.ensures ∙ ap (λ place. unwrap_or place (length c.args.bytes.now)) c.first_at.ensures
    ∙ unwrap_or-position (λ byte. byte == c.args.stop) c.args.bytes.now in
    omega (arith, value, position_or_len-le (λ byte. byte == c.args.stop) c.args.bytes.now)
