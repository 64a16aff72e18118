use Rattle.live_conns.proofs.LiveLaws.{at_number, lacks}
use Rattle.live_conns.proofs.live.Live.find.Goals as goal

pub returns-in-Ok : goal.returns-in-Ok
returns-in-Ok g c =
    let K = g.C.Connection.kind in
    let t = c.args.self.now in
    let f = rw c.deref.ensures.value at c.in-Ok.ensures.found in
    at_number K t.places.items t.rows t.keys t.numbers c.args.c c.in-Ok.at f

pub returns-in-Err : goal.returns-in-Err
returns-in-Err g c =
    let K = g.C.Connection.kind in
    let t = c.args.self.now in
    let f = rw c.deref.ensures.value at c.in-Err.ensures.absent in
    lacks K t.places.items t.rows t.numbers c.args.c f
