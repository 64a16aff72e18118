use Rattle.http_conn.proofs.GaveLaws.{gave_write}
use Rattle.http_conn.proofs.PartLaws.{gave_finished, gave_unfinished}
use Rattle.http_conn.proofs.give.give_rest.Goals as goal

pub returns-clause-gave : goal.returns-clause-gave
returns-clause-gave g c n =
    gave_finished c.args.text c.args.closes c.write.result c.if-not-write.false
    (gave_write c.args.text c.write.result c.args.conn.now c.requires.may c.write.ensures.place c.requires.open c.write.ensures.value c.write.ensures.told) c.stand.ensures

pub returns-then-not-write-clause-gave : goal.returns-then-not-write-clause-gave
returns-then-not-write-clause-gave g c n =
    gave_unfinished c.args.text c.args.closes c.write.result c.if-not-write.true (c.write.ensures.filled c.if-not-write.true)
    (gave_write c.args.text c.write.result c.args.conn.now c.requires.may c.write.ensures.place c.requires.open c.write.ensures.value c.write.ensures.told)
