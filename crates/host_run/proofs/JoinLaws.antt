-- A world that was given one outside.
use Rattle.std.proofs.Common.{◌≡◌, List, [], ◌∷◌, ◌++◌, Option, Some, refl, map, length, arith}
use Rattle.std.proofs.Math.ListN.{set}
use Rattle.host_trace.specs.declared.items.Item.{Item}
use Rattle.host_trace.specs.Told.{JoinedTo}

pub record JoinedOne (before : Option (List (List Item))) (trace : Option (List Item)) (now : List (List Item)) : Type 0 where
  pub was : List (List Item)
  pub of : List Item
  pub told : before ≡ Some was
  pub is : trace ≡ Some of
  pub grew : now ≡ was ++ of ∷ []

one_of : (t : Option (List Item)) (added : List (List Item)) → t ∷ [] ≡ map Some added → (T : List Item) × (t ≡ Some T) × (added ≡ T ∷ [])
one_of t [] e = absurd (cc)
one_of t (T ∷ []) e = (T, cc, refl)
one_of t (T ∷ (V ∷ more)) e = absurd (cc)

pub joined_one : {O : Type 0} (trace : O → Option (List Item)) (os : List O) (o : O) (before : Option (List (List Item))) (now : List (List Item)) →
    length os ≡ 1 → JoinedTo before (map trace (set os 0 o)) now → JoinedOne before (trace o) now
joined_one trace [] o before now e j = absurd (cc)
joined_one trace (x ∷ []) o before now e j =
    let one = one_of (trace o) j.added j.each in
    record { was = j.was; of = one.0; told = j.told; is = one.1; grew = rw one.2 at j.grew }
joined_one trace (x ∷ (y ∷ os)) o before now e j = absurd (omega arith)
