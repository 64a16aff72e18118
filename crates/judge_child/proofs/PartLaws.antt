-- A test of each item with those before it, item by item; the last item; and what one item more adds.
use Rattle.std.proofs.Common.{◌≡◌, ℕ, ◌+◌, ◌-◌, ◌<◌, ◌∙◌, Bool, true, false, List, [], ◌∷◌, ◌++◌, refl, ap, arith, suc, add-one, length, take, drop, get_or, drop-cons, length-append}
use Rattle.std.proofs.Math.Seq.{take-suc}
use Rattle.std.specs.List.{slice_get}
use Rattle.host_trace.specs.First.{last_of}
use Rattle.host_trace.specs.Kinds.{count_took, input_fed, output_heard}
use Rattle.host_trace.specs.Projections.{child_out}
use Rattle.host_trace.proofs.ProjectionLaws.{child_in-push, child_out-push, took_sum-push}
use Rattle.trace_child.specs.Words.{each_from}
use Rattle.judge_child.specs.declared.bodies.Flow.{Flow}
use Rattle.judge_child.specs.Counts.{IsFlow}
use Rattle.host_trace.specs.declared.items.Item.{Item}

pub each_step : (test : List Item → Item → Bool) (xs : List Item) (i : ℕ) (x : Item) → i < length xs → x ≡ get_or xs i x → test (take i xs) x ≡ true
    → each_from test (take i xs) (drop i xs) ≡ each_from test (take (i + 1) xs) (drop (i + 1) xs)
each_step test xs i x inside is so = rw (add-one, take-suc xs i x inside, drop-cons xs i x inside, ← is) (rw so refl)

pub each_stop : (test : List Item → Item → Bool) (xs : List Item) (i : ℕ) (x : Item) → i < length xs → x ≡ get_or xs i x → test (take i xs) x ≡ false
    → each_from test (take i xs) (drop i xs) ≡ false
each_stop test xs i x inside is so = rw (drop-cons xs i x inside, ← is) (rw so refl)

pub last_is : (items : List Item) → slice_get items (length items - 1) ≡ last_of items
last_is [] = refl
last_is (x ∷ []) = refl
last_is (x ∷ y ∷ items) =
    let e : length (x ∷ y ∷ items) - 1 ≡ suc (length (y ∷ items) - 1) = omega arith in
    ap (slice_get (x ∷ y ∷ items)) e ∙ last_is (y ∷ items)

pub output_next : (T : List Item) (x : Item) (k : ℕ) → child_out (T ++ x ∷ []) k ≡ child_out T k ++ output_heard k x
output_next T x k = child_out-push T x k

pub flow_next : (flow : Flow) (k : ℕ) (front : List Item) (x : Item) (fed took : ℕ) → IsFlow flow k front → fed ≡ length (input_fed k x) → took ≡ count_took k x
    → IsFlow (record { fed = flow.fed + fed; took = flow.took + took }) k (front ++ x ∷ [])
flow_next flow k front x fed took was is is' = record {
  fed = rw (child_in-push, length-append, is, was.fed) refl;
  took = rw (took_sum-push, is', was.took) refl;
}
