use Rattle.std.proofs.Common.{◌≡◌, ℕ, List, IfOk, ◌∙◌, subst}
use Rattle.exchange_request.proofs.KnowsLaws.{knows_rest}
use Rattle.exchange_request.proofs.incoming.Incoming.rest.Goals as goal

pub returns-clause-value : goal.returns-clause-value
returns-clause-value c bytes taken k whole =
    subst (λ (l : List ℕ). IfOk c.from_slice.result (λ rest. rest ≡ l)) (c.rest.ensures ∙ knows_rest c.args.self.now bytes taken k whole)
    c.from_slice.ensures
