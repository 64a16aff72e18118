use Rattle.live_conns.proofs.LiveLaws.{number_is}
use Rattle.live_conns.proofs.live.Live.number.Goals as goal

pub returns : goal.returns
returns g c d =
    let K = g.C.Connection.kind in
    let t = c.args.self.now in
    number_is K t.places.items t.rows t.keys t.numbers c.args.i c.index.result.now d c.requires c.index.ensures
