use Rattle.std.proofs.Common.{◌∙◌, sym}
use Rattle.live_conns.proofs.LiveLaws.{found, held}
use Rattle.live_conns.proofs.live.Live.get.Goals as goal
use Rattle.live_conns.proofs.LiveLaws.{some_same}

pub index-requires-2 : goal.index-requires-2
index-requires-2 g c =
    let K = g.C.Connection.kind in
    let t = c.args.self.now in held K t.places.items t.rows t.keys c.args.i c.index.result.now c.requires c.index.ensures

pub returns : goal.returns
returns g c d =
    let K = g.C.Connection.kind in
    let t = c.args.self.now in
    some_same (sym c.index-2.ensures ∙ found K t.places.items t.rows t.keys c.args.i c.index.result.now d c.requires c.index.ensures)
