use Rattle.std.proofs.Common.{◌≡◌, take, refl}
use Rattle.std.specs.Option.{option_map}
use Rattle.std.specs.Io.Take.{take_remaining}
use Rattle.real_docs.proofs.Front.{front-known}
use Rattle.real_docs.proofs.store.front_of.Goals as goal

pub returns : goal.returns
returns g c =
    let known : take_remaining g.F.Read.remaining c.take.result ≡ option_map (take 8388609) (g.F.Read.remaining c.args.file)
    = rw (c.take.ensures.limit, c.take.ensures.inner) refl in
    front-known 8388609 _ _ _ known (rw c.new-bytes.ensures.items at c.in_ok-read_to_end.ensures.bytes)
