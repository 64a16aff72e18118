use Rattle.std.proofs.Common.{◌≡◌, ℕ, List, [], refl, ap, subst, ◌∙◌}
use Rattle.exchange_stage.specs.declared.stage.Stage.TheVariants.{Running}
use Rattle.http_state.specs.declared.conn.HttpConn.{HttpConn}
use Rattle.http_state.specs.Kept.{Gave}
use Rattle.http_state.specs.Settles.{is_answered}
use Rattle.http_conn.proofs.GaveLaws.{Wrote, gave_write}
use Rattle.http_conn.proofs.PartLaws.{gave_part_written}
use Rattle.http_conn.proofs.give.give_part.Goals as goal

pub returns-clause-gave : goal.returns-clause-gave
returns-clause-gave g c n =
    let put : c.put.new.self ≡ record c.write-found.new.conn { stage = Running (record c.args.leg { text = [] }) } =
    c.put.ensures.value ∙ ap (λ (text : List ℕ). record c.write-found.new.conn { stage = Running (record c.args.leg { text = text }) }) (c.replace-text.ensures.after ∙ c.new.ensures) in
    gave_part_written c.args.leg c.write-found.result c.requires.writing (ap (λ (conn : HttpConn). is_answered conn.stage) put) (c.put.ensures.kept refl) put
    (subst (λ (text : List ℕ). Gave (Wrote text c.write-found.result) c.args.conn.now n (g.O.Outside.trace c.args.out.now) c.write-found.new.conn n (g.O.Outside.trace c.write-found.new.out))
    c.replace-text.ensures.value
    (gave_write c.replace-text.result c.write-found.result c.args.conn.now c.requires.may c.write-found.ensures.place c.requires.open c.write-found.ensures.value c.write-found.ensures.told))
