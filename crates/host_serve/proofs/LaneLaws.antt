-- What is so of lanes that took their turns.
use Rattle.std.proofs.Common.{◌≡◌, ℕ, ◌<◌, ◌++◌, List, Option, true, ◌∙◌, subst, ap, map, length, take, get_or, arith}
use Rattle.std.specs.Prelude.{All, reverse}
use Rattle.std.specs.List.{AllZip}
use Rattle.std.proofs.Math.Seq.{take-append_seam}
use Rattle.host_base.specs.declared.site.Site.{Site}
use Rattle.host_trace.specs.declared.items.Item.{Item}
use Rattle.many_conns.specs.declared.connection.Connection.{Ghosts}
use Rattle.host_core.specs.Owners.{served}
use Rattle.host_loop.specs.Loops.{WasServed, WasTold, is_ended}
use Rattle.host_loop.specs.declared.lanes.Lane.{Lane}
use Rattle.host_serve.proofs.PlaceLaws.{in_places}

-- a list that was written over whole
pub written : {X : Type 0} (n : ℕ) (ys rest : List X) → length ys ≡ n → take n (ys ++ rest) ≡ ys
written n ys rest all = subst (λ (m : ℕ). take m (ys ++ rest) ≡ ys) all (take-append_seam ys rest)

module _ {C O : Type 0} {G : Ghosts C} (trace : O → Option (List Item)) (before after : List (Lane C O G)) (same : length after ≡ length before)
    (keeps : (k : ℕ) (d : Lane C O G) → k < length before →
    (served (get_or after k d).core ≡ served (get_or before k d).core) × WasTold (trace (get_or before k d).out) (trace (get_or after k d).out)) where
  pub ended_all : (Promise : Site → List Item → Type 0) (site : Site) (turns : ℕ) → All (λ l. served l.core ≡ site) before →
      All (λ l. WasServed (Promise (served l.core)) turns l.end (trace l.out) × (is_ended l.end ≡ true)) after → All (λ l. WasServed (Promise site) turns l.end (trace l.out) × (is_ended l.end ≡ true)) after
  ended_all Promise site turns sites ended = λ k d lt.
      let below : k < length before = omega arith in
      let e : served (get_or after k d).core ≡ site = (keeps k d below).0 ∙ sites k d below in
      subst (λ s. WasServed (Promise s) turns (get_or after k d).end (trace (get_or after k d).out) × (is_ended (get_or after k d).end ≡ true)) e (ended k d lt)

  pub outs_kept : (os ps : List O) (whole : List (Lane C O G)) → reverse (map (λ l. l.out) before) ≡ os → whole ≡ after → ps ≡ reverse (map (λ l. l.out) whole) →
      AllZip (λ o p. WasTold (trace o) (trace p)) os ps
  outs_kept os ps whole was all is =
      in_places (λ l. l.out) (λ (a b : Lane C O G). (served b.core ≡ served a.core) × WasTold (trace a.out) (trace b.out)) (λ o p. WasTold (trace o) (trace p)) (λ a b h. h.1) before after os ps was
      (is ∙ ap (λ ls. reverse (map (λ l. l.out) ls)) all) same keeps
