use Rattle.std.proofs.Common.{◌≡◌, ◌<◌, ◌-◌, ◌∙◌, sym, subst, ap, arith, refl, length, suc, ℕ, List, get_or}
use Rattle.host_core.specs.Owners.{conns}
use Rattle.host_core.specs.Stands.{freed_conns}
use Rattle.host_core.proofs.FreedLaws.{freed_all, freed_at, freed_from, freed_long, freed_step}
use Rattle.many_conns.specs.Kind.{Kind}
use Rattle.host_core.proofs.core_state.Core.free.Goals as goal

-- what lies at a place from which on slots were given back
at_place : {C : Type 0} (K : Kind C) (xs ys : List C) (rest i : ℕ) → rest ≡ suc i → ys ≡ freed_from K rest xs → i < length xs → i < length ys
at_place {C} K xs ys rest i is e lt = subst (λ (l : List C). i < length l) (sym (e ∙ ap (λ n. freed_from K n xs) is)) (freed_long K i xs lt)

pub loop-turn-init : goal.loop-turn-init
loop-turn-init g c = record {
  sound = c.requires;
  rest = record { site = refl; accepted = refl; children = refl; stopped = refl; clock = refl };
  conns_then = sym (ap (λ n. freed_from g.C.Connection.kind n (conns c.args.self.now)) (let len = c.len-count.ensures in omega (arith, len)) ∙ freed_all g.C.Connection.kind (conns c.args.self.now));
}

pub get-requires : goal.get-requires
get-requires g c =
    let len = c.len-count.ensures in
    let test = c.loop-turn-test.true in
    let end = c.loop-turn.auto in
    at_place g.C.Connection.kind (conns c.args.self.now) (conns c.loop-turn.self) (c.len-count.result - c.loop-turn.turn) (c.len-count.result - 1 - c.loop-turn.turn) (omega (arith, test, end)) c.loop-turn.invariant.conns_then (omega (arith, len, test, end))

pub free_at-requires-clause-place : goal.free_at-requires-clause-place
free_at-requires-clause-place g c =
    let len = c.len-count.ensures in
    let test = c.loop-turn-test.true in
    let end = c.loop-turn.auto in
    at_place g.C.Connection.kind (conns c.args.self.now) (conns c.loop-turn.self) (c.len-count.result - c.loop-turn.turn) (c.len-count.result - 1 - c.loop-turn.turn) (omega (arith, test, end)) c.loop-turn.invariant.conns_then (omega (arith, len, test, end))

pub free_at-requires-clause-held : goal.free_at-requires-clause-held
free_at-requires-clause-held g c d = c.needs_slot-held.ensures ∙ ap g.C.Connection.kind.needs (c.get.ensures d)

pub free_at-requires-clause-sound : goal.free_at-requires-clause-sound
free_at-requires-clause-sound g c = c.loop-turn.invariant.sound

pub loop-turn-preserved : goal.loop-turn-preserved
loop-turn-preserved g c =
    let xs = conns c.args.self.now in
    let i = c.len-count.result - 1 - c.loop-turn.turn in
    let len = c.len-count.ensures in
    let test = c.loop-turn-test.true in
    let end = c.loop-turn.auto in
    let lt : i < length xs = omega (arith, len, test, end) in
    let inv = c.loop-turn.invariant in
    let is : c.len-count.result - c.loop-turn.turn ≡ suc i = omega (arith, test, end) in
    let then : conns c.loop-turn.self ≡ freed_from g.C.Connection.kind (suc i) xs = inv.conns_then ∙ ap (λ n. freed_from g.C.Connection.kind n xs) is in
    let held : c.needs_slot-held.result ≡ g.C.Connection.kind.needs (get_or xs i c.get.result.now) =
    c.needs_slot-held.ensures ∙ ap g.C.Connection.kind.needs (c.get.ensures c.get.result.now ∙ (ap (λ l. get_or l i c.get.result.now) then ∙ freed_at g.C.Connection.kind i xs c.get.result.now lt)) in
    let fr = c.free_at.ensures.freed in
    record {
      sound = c.free_at.ensures.sound;
      rest = record {
        site = fr.rest.site ∙ inv.rest.site;
        accepted = fr.rest.accepted ∙ inv.rest.accepted;
        children = fr.rest.children ∙ inv.rest.children;
        stopped = fr.rest.stopped ∙ inv.rest.stopped;
        clock = fr.rest.clock ∙ inv.rest.clock;
      };
      conns_then =
          fr.conns_then
          ∙ (ap (λ l. freed_conns c.needs_slot-held.result l i) then
          ∙ (freed_step g.C.Connection.kind c.needs_slot-held.result i xs c.get.result.now lt held ∙ ap (λ n. freed_from g.C.Connection.kind n xs) (let test = c.loop-turn-test.true in omega (arith, test, end))));
    }

pub returns-clause-conns : goal.returns-clause-conns
returns-clause-conns g c =
    let test = c.loop-turn-test.false in
    let end = c.loop-turn.auto in
    let none : c.len-count.result - c.loop-turn.turn ≡ 0 = omega (arith, test, end) in
    c.loop-turn.invariant.conns_then ∙ ap (λ n. freed_from g.C.Connection.kind n (conns c.args.self.now)) none

pub returns-clause-rest : goal.returns-clause-rest
returns-clause-rest g c = c.loop-turn.invariant.rest

pub returns-clause-sound : goal.returns-clause-sound
returns-clause-sound g c = c.loop-turn.invariant.sound
