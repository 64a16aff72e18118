-- A binary search over places by rising number.
use Rattle.std.proofs.Common.{rules}
use Rattle.std.proofs.lemmas.List.Sorted.{answers_always}
use Rattle.child_table.proofs.PlaceLaws.{searched}
use Rattle.child_table.proofs.places.place_of.Goals as goal

pub returns : goal.returns
returns c =
    let facts = c.binary_search_by_key.ensures in
    let by_key = facts.position (λ place. place.number) (answers_always _ _ _ (λ f a r g called. search rules)) in
    searched c.args.places.now c.requires c.args.k _ facts.bound by_key
