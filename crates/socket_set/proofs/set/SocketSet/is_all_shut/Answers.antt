use Rattle.std.proofs.Common.{◌≡◌, ◌∙◌, true, sym}
use Rattle.std.specs.Map.Iter.{deref_pair}
use Rattle.std.proofs.lemmas.Map.Iter.{rest_more}
use Rattle.std.proofs.lemmas.List.Elements.{All-cons}
use Rattle.socket_set.proofs.set.SocketSet.is_all_shut.Goals as goal

pub loop-client-preserved : goal.loop-client-preserved
loop-client-preserved g c =
    λ rest. c.loop-client.invariant (
    rw (rest_more deref_pair _ _ _ _ c.in-Some.is c.next.ensures.steps)
    (All-cons (λ row. row.1.shut ≡ true) _ _ (sym c.is_shut.ensures ∙ c.if-not-is_shut.false) rest)
    )
