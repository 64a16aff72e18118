use Rattle.std.proofs.Common.{rules}
use Rattle.std.proofs.lemmas.List.Sorted.{answers_always}
use Rattle.live_conns.specs.Places.{number_in}
use Rattle.live_conns.proofs.PlaceLaws.{searched}
use Rattle.live_conns.proofs.place.place_of.Goals as goal

pub returns : goal.returns
returns c =
    let facts = c.binary_search_by_key.ensures in
    let by_key = facts.position (λ place. number_in place) (answers_always _ _ _ (λ f a r g called. search rules)) in
    searched c.args.places.now c.requires c.args.c _ facts.bound by_key
