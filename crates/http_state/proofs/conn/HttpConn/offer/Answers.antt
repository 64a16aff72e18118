use Rattle.std.proofs.Common.{Bool, ◌&&◌, is_ok, sym, ap, ◌∙◌}
use Rattle.std.proofs.lemmas.Bool.{false≢true}
use Rattle.http_state.proofs.HearsLaws.{offers_by}
use Rattle.http_state.proofs.conn.HttpConn.offer.Goals as goal
use Rattle.http_state.proofs.conn.HttpConn.offer.Goals.{then-is_ok, else-is_ok, then-not-found, else-not-found}

pub returns-clause-own : goal.returns-clause-own
returns-clause-own c =
    offers_by c.args.self.now c.keep_body-kept.new.self c.offer_run-offered.new.self c.if-not-found.self c.args.body c.keep_body-kept.result c.offer_run-offered.result c.if-is_ok.found
    c.keep_body-kept.ensures.value c.keep_body-kept.ensures.rest c.keep_body-kept.ensures.answered c.offer_run-offered.ensures.value c.offer_run-offered.ensures.err
    (elim c.if-is_ok.branch [
      | then-is_ok w ↦ w.found-is ∙ (w.is_ok-found.ensures.value ∙ ap (λ (b : Bool). b && is_ok c.offer_run-offered.result) w.if-is_ok.ensures.value)
      | else-is_ok w ↦ w.found-is ∙ (w.if-is_ok.false ∙ ap (λ (b : Bool). b && is_ok c.offer_run-offered.result) w.if-is_ok.ensures.value)
    ])
    (λ found. elim c.if-not-found.branch [
      | then-not-found w ↦ absurd (false≢true (sym w.if-not-found.true ∙ found))
      | else-not-found w ↦ w.self-is
    ])
    (λ none. elim c.if-not-found.branch [
      | then-not-found w ↦ w.self-is ∙ w.lose.ensures.value
      | else-not-found w ↦ absurd (false≢true (sym none ∙ w.if-not-found.false))
    ])
