-- An event, and a question where one is due.
use Rattle.std.proofs.Common.{◌++◌, refl}
use Rattle.explain.specs.Inputs.{bytes_of, peer_after}
use Rattle.explain.proofs.TextLaws.{texts_of}
use Rattle.explain.proofs.TurnLaws.{asked_turn, hearing, quiet_turn}
use Rattle.explain.proofs.explain.turn.Goals as goal

pub returns-in-Asks-clause-knows : goal.returns-in-Asks-clause-knows
returns-in-Asks-clause-knows g c = λ limits some on.
    (peer_after some.0 c.input_of.result, (some.1.0 ++ bytes_of c.input_of.result, c.hear-heard.ensures.knows limits some.0 some.1.0 some.1.1 on))

pub returns-in-Asks-clause-told : goal.returns-in-Asks-clause-told
returns-in-Asks-clause-told g c = λ site turns T U was stands told.
    let h = hearing _ _ _ c.next.result _ c.input_of.ensures (record { is = c.hear-heard.ensures.heard; knows = c.hear-heard.ensures.knows; same = c.hear-heard.ensures.peer }) in
    asked_turn site _ _ turns _ _ _ _ _ _ _ c.next.ensures.told c.act.ensures.told (c.act.ensures.room refl) c.in-Asks.is h T U was stands told

pub returns-in-Asks-clause-tells : goal.returns-in-Asks-clause-tells
returns-in-Asks-clause-tells g c = λ U told.
    let a = c.act.ensures.told U told in
    let h = c.next.ensures.told a.was a.told in
    (h.was, h.told)

pub returns-in_default : goal.returns-in_default
returns-in_default g c =
    let h = hearing _ _ _ c.next.result _ c.input_of.ensures (record { is = c.hear-heard.ensures.heard; knows = c.hear-heard.ensures.knows; same = c.hear-heard.ensures.peer }) in
    record {
      known = λ limits some. texts_of limits some.0 some.1.0 _ _ (c.hear-heard.ensures.heard limits some.0 some.1.0 some.1.1);
      knows = λ limits some on.
          (peer_after some.0 c.input_of.result, (some.1.0 ++ bytes_of c.input_of.result, c.hear-heard.ensures.knows limits some.0 some.1.0 some.1.1 on));
      told = λ site turns T U was stands told. quiet_turn site _ _ turns _ _ _ _ _ c.next.ensures.told c.in_default.not-Asks h T U was stands told;
      tells = λ U told. (let h = c.next.ensures.told U told in (h.was, h.told));
    }
