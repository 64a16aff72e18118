use Rattle.std.proofs.Common.{sym, ◌∙◌, ◌+◌, length}
use Rattle.http_state.proofs.HearLaws.{only_body}
use Rattle.http_state.proofs.HearsLaws.{body_taken, not_reading}
use Rattle.http_state.proofs.conn.HttpConn.hear_body.Goals as goal
use Rattle.http_state.proofs.conn.HttpConn.hear_body.Goals.{in-Reading, in_default}
use Rattle.std.proofs.lemmas.Bool.{false≢true}

pub returns-in-Ok-clause-front : goal.returns-in-Ok-clause-front
returns-in-Ok-clause-front c =
    only_body c.more_body.new.self c.offer.ensures.kept c.in-Ok.ensures.limits c.in-Ok.ensures.ready
    (λ bytes taken known.
    let h = c.in-Ok.ensures.body bytes taken known (sym c.manner.ensures.ready ∙ c.if-is_none.ensures) (sym c.if-is_whole.ensures.value) in
    (taken + length c.in-Ok.body, h.knows))

pub returns-in-Ok-clause-own : goal.returns-in-Ok-clause-own
returns-in-Ok-clause-own c =
    body_taken c.args.self.now c.offer.new.self c.offer.result c.more_body.new.self c.in-Ok.body
    (elim c.match-matches.branch [
      | in-Reading w ↦ absurd (false≢true (sym c.if-matches.false ∙ w.matches-is))
      | in_default w ↦ not_reading c.args.self.now.stage w.in_default.not-Reading
    ])
    (sym c.if-is_whole.ensures.value) (sym c.manner.ensures.ready ∙ c.if-is_none.ensures) c.more_body.ensures.limits c.more_body.ensures.ready
    (λ bytes taken known. c.in-Ok.ensures.body bytes taken known (sym c.manner.ensures.ready ∙ c.if-is_none.ensures) (sym c.if-is_whole.ensures.value)) c.offer.ensures.own
