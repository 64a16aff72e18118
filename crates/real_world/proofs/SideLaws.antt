-- What is so of outsides of one kind, where they were put among those of both.
use Rattle.std.proofs.Common.{◌≡◌, ◌∙◌, ◌++◌, ℕ, List, [], All, map, sym, ap, subst}
use Rattle.std.proofs.lemmas.List.Elements.{All-map, All-weaker}
use Rattle.host_base.specs.declared.limits.Limits.{Limits}
use Rattle.host_trace.specs.declared.world.Mode.TheVariants.{Once as ForOne, Serve as ForLoops}
use Rattle.once_edge.specs.Once.{OnceState, IsFresh as IsFreshOne}
use Rattle.edge_loop.specs.Loops.{LoopState, IsLimited, IsFresh as IsFreshLoop}
use Rattle.real_world.specs.Reals.{limit_of, IsEntered}
use Rattle.real_world.specs.declared.outside.Either.{Either}
use Rattle.real_world.specs.declared.outside.Either.TheVariants.{Once, Serve}

module _ {K : Type 0} where
  pub all_once : (n : ℕ) (outs zs : List (Either (OnceState K) (LoopState K))) (xs : List (OnceState K))
      → outs ≡ [] → zs ≡ outs ++ map Once xs → All (λ o. o.limit ≡ n) xs → All (λ o. limit_of o ≡ n) zs
  all_once n outs zs xs none e h =
      subst (λ w. All (λ o. limit_of o ≡ n) w) (sym (e ∙ ap (λ w. w ++ map Once xs) none)) (All-map (λ o. limit_of o ≡ n) Once xs h)

  pub all_loops : (limits : Limits) (outs zs : List (Either (OnceState K) (LoopState K))) (xs : List (LoopState K))
      → outs ≡ [] → zs ≡ outs ++ map Serve xs → All (IsLimited limits) xs → All (λ o. limit_of o ≡ limits.children) zs
  all_loops limits outs zs xs none e h =
      let runs : All (λ o. o.limit ≡ limits.children) xs = All-weaker (IsLimited limits) (λ o. o.limit ≡ limits.children) (λ o l. l.runs) xs h in
      subst (λ w. All (λ o. limit_of o ≡ limits.children) w) (sym (e ∙ ap (λ w. w ++ map Serve xs) none))
      (All-map (λ o. limit_of o ≡ limits.children) Serve xs runs)

  pub fresh_once : (outs zs : List (Either (OnceState K) (LoopState K))) (xs : List (OnceState K))
      → outs ≡ [] → zs ≡ outs ++ map Once xs → All IsFreshOne xs → All (IsEntered ForOne) zs
  fresh_once outs zs xs none e h =
      subst (λ w. All (IsEntered ForOne) w) (sym (e ∙ ap (λ w. w ++ map Once xs) none)) (All-map (IsEntered ForOne) Once xs h)

  pub fresh_loops : (outs zs : List (Either (OnceState K) (LoopState K))) (xs : List (LoopState K))
      → outs ≡ [] → zs ≡ outs ++ map Serve xs → All IsFreshLoop xs → All (IsEntered ForLoops) zs
  fresh_loops outs zs xs none e h =
      subst (λ w. All (IsEntered ForLoops) w) (sym (e ∙ ap (λ w. w ++ map Serve xs) none)) (All-map (IsEntered ForLoops) Serve xs h)
