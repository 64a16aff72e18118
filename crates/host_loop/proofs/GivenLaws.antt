-- What is so of each outside is so of each trace that it tells.
use Rattle.std.proofs.Common.{◌≡◌, ℕ, List, [], ◌∷◌, Option, Some, None, refl, ◌∙◌, ap, subst, map, length, suc, inl, inr}
use Rattle.std.specs.List.{AllByRecursion}
use Rattle.std.specs.Prelude.{All}
use Rattle.std.proofs.lemmas.List.Elements.{All-head, All-tail}
use Rattle.host_trace.specs.declared.items.Item.{Item}
use Rattle.host_trace.specs.Told.{IsNew, JoinedTo}
use Rattle.host_loop.specs.Given.{AreEnded, GaveLoops}
use Rattle.host_loop.specs.Loops.{HasEnded, IsAny, IsFresh, WhereTold}
use Rattle.host_loop.specs.Served.{Served}
use Rattle.host_loop.specs.declared.serve.LoopEnd.{LoopEnd}
use Rattle.host_loop.specs.declared.serve.LoopEnd.TheVariants.{Done, Spent, NoMemory}

head_is : {X : Type 0} (x y : X) (xs ys : List X) → x ∷ xs ≡ y ∷ ys → x ≡ y
head_is x y xs ys e = cc

tail_is : {X : Type 0} (x y : X) (xs ys : List X) → x ∷ xs ≡ y ∷ ys → xs ≡ ys
tail_is x y xs ys e = cc

module _ {O : Type 0} (trace : O → Option (List Item)) where
  told_len : (os : List O) (added : List (List Item)) → map trace os ≡ map Some added → length added ≡ length os
  told_len [] [] e = refl
  told_len [] (T ∷ added) e = absurd (cc)
  told_len (o ∷ os) [] e = absurd (cc)
  told_len (o ∷ os) (T ∷ added) e = ap suc (told_len os added (tail_is (trace o) (Some T) (map trace os) (map Some added) e))

  module _ (P : Option (List Item) → Type 0) (Q : List Item → Type 0) (reads : (T : List Item) → P (Some T) → Q T) where
    all_told : (os : List O) (added : List (List Item)) → map trace os ≡ map Some added → All (λ o. P (trace o)) os → AllByRecursion Q added
    all_told [] [] e all = tt
    all_told [] (T ∷ added) e all = absurd (cc)
    all_told (o ∷ os) [] e all = absurd (cc)
    all_told (o ∷ os) (T ∷ added) e all = (
      reads T (subst P (head_is (trace o) (Some T) (map trace os) (map Some added) e) (All-head (λ o. P (trace o)) o os all)),
      all_told os added (tail_is (trace o) (Some T) (map trace os) (map Some added) e) (All-tail (λ o. P (trace o)) o os all),
    )

    any_told : (os : List O) (added : List (List Item)) → map trace os ≡ map Some added → IsAny (λ o. P (trace o)) os → IsAny Q added
    any_told [] added e some = absurd some
    any_told (o ∷ os) [] e some = absurd (cc)
    any_told (o ∷ os) (T ∷ added) e (inl p) = inl (reads T (subst P (head_is (trace o) (Some T) (map trace os) (map Some added) e) p))
    any_told (o ∷ os) (T ∷ added) e (inr some) = inr (any_told os added (tail_is (trace o) (Some T) (map trace os) (map Some added) e) some)

-- what serving several outsides says of them
pub record AreServed {O : Type 0} (Promise : List Item → Type 0) (trace : O → Option (List Item)) (turns : ℕ) (end : LoopEnd) (os : List O) : Type 0 where
  pub good : All (λ o. WhereTold Promise (trace o)) os
  pub done : end ≡ Done → All (λ o. WhereTold (Served turns Done) (trace o)) os
  pub spent : end ≡ Spent → IsAny (λ o. WhereTold (Served turns Spent) (trace o)) os
  pub each : end ≡ Spent → All (λ o. WhereTold (HasEnded turns) (trace o)) os
  pub memory : end ≡ NoMemory → All (λ o. IsFresh (trace o)) os

module _ {O : Type 0} (Promise : List Item → Type 0) (trace : O → Option (List Item)) (turns : ℕ) where
  ended_by : (end : LoopEnd) (os : List O) (added : List (List Item)) → map trace os ≡ map Some added → AreServed Promise trace turns end os → AreEnded turns end added
  ended_by Done os added e s = all_told trace (WhereTold (Served turns Done)) (Served turns Done) (λ T p. p T refl) os added e (s.done refl)
  ended_by Spent os added e s = (
    any_told trace (WhereTold (Served turns Spent)) (Served turns Spent) (λ T p. p T refl) os added e (s.spent refl),
    all_told trace (WhereTold (HasEnded turns)) (HasEnded turns) (λ T p. p T refl) os added e (s.each refl),
  )
  ended_by NoMemory os added e s = all_told trace IsFresh (λ T. T ≡ []) (λ T p. p T refl) os added e (s.memory refl)

  pub gave_loops : (loops : ℕ) (end : LoopEnd) (os : List O) (before : Option (List (List Item))) (now : List (List Item)) →
      length os ≡ loops → AreServed Promise trace turns end os → JoinedTo before (map trace os) now → GaveLoops Promise turns loops end before now
  gave_loops loops end os before now len s j = record {
    was = j.was;
    added = j.added;
    told = j.told;
    grew = j.grew;
    count = told_len trace os j.added j.each ∙ len;
    good = all_told trace (WhereTold Promise) Promise (λ T p. p T refl) os j.added j.each s.good;
    ended = ended_by end os j.added j.each s;
  }

-- an outside that is new has heard nothing
pub new_is_fresh : (given : Option (List (List Item))) (told : Option (List Item)) → IsNew given told → IsFresh told
new_is_fresh None told new = λ T is. absurd (cc)
new_is_fresh (Some given) told new = λ T is. cc
