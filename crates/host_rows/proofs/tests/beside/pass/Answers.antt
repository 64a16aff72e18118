-- Both outsides are new ones, and have the limit of the site.
use Rattle.std.proofs.Common.{◌≡◌, List, [], ◌∷◌, None, subst, sym}
use Rattle.std.specs.Prelude.{All}
use Rattle.std.proofs.lemmas.List.Elements.{All-from_recursion}
use Rattle.host_loop.specs.Loops.{IsFresh}
use Rattle.host_rows.proofs.tests.beside.pass.Goals as goal

two : {X : Type 0} (xs : List X) (a b : X) (P : X → Type 0) → xs ≡ a ∷ (b ∷ []) → P a → P b → All P xs
two xs a b P e p q = subst (All P) (sym e) (All-from_recursion P (a ∷ (b ∷ [])) (p, (q, tt)))

pub serve_all-end-requires-clause-outs : goal.serve_all-end-requires-clause-outs
serve_all-end-requires-clause-outs g c κs within =
    let fresh : IsFresh None = λ T told. absurd (cc) in
    two c.in_ok-outs.outs.items c.at_gate-waits.result c.at_gate-opens.result (λ o. IsFresh None × (o.limit ≡ c.in_ok-site.site.limits.children)) c.in_ok-outs.ensures.items (fresh, c.at_gate-waits.ensures)
    (fresh, c.at_gate-opens.ensures)
