use Rattle.std.proofs.Common.{◌≡◌, ◌<◌, ◌∙◌, ap, subst, arith, length, refl}
use Rattle.std.proofs.lemmas.List.{length-set}
use Rattle.host_trace.specs.declared.items.Event.{Event}
use Rattle.host_core.specs.Owners.{conns}
use Rattle.host_core.specs.Stands.{Serves, common_event}
use Rattle.host_core.proofs.StandsLaws.{adds_more, adds_none, all_begins, all_ends, all_step}
use Rattle.host_core.proofs.core_state.Core.all.Goals as goal

pub loop-i-init : goal.loop-i-init
loop-i-init g c = record {
  sound = c.note.ensures.sound;
  all = all_begins g.met.C.Connection.laws c.args.self.now c.note.new.self c.args.secs (g.O.Outside.trace c.args.out.now) c.note.ensures.noted;
  told = adds_none g.met.C.Connection.laws (g.O.Outside.trace c.args.out.now);
  limit = refl;
  same = record { site = refl; accepted = refl; stopped = refl; clock = refl };
  end = c.len-i-end.ensures;
}

pub serve-held-requires-clause-place : goal.serve-held-requires-clause-place
serve-held-requires-clause-place g c = let end = c.loop-i.invariant.end in let test = c.loop-i-test.true in omega (arith, end, test)

pub serve-held-requires-clause-sound : goal.serve-held-requires-clause-sound
serve-held-requires-clause-sound g c = c.loop-i.invariant.sound

pub loop-i-preserved : goal.loop-i-preserved
loop-i-preserved g c =
    let inv = c.loop-i.invariant in
    let end = inv.end in
    let test = c.loop-i-test.true in
    let lt : c.loop-i.i < length (conns c.loop-i.self) = omega (arith, end, test) in
    let sv : Serves c.loop-i.self c.loop-i.i (common_event c.args.secs) c.serve-held.result c.serve-held.new.self (g.O.Outside.trace c.loop-i.out) (g.O.Outside.trace c.serve-held.new.out) =
    subst (λ (e : Event). Serves c.loop-i.self c.loop-i.i e c.serve-held.result c.serve-held.new.self (g.O.Outside.trace c.loop-i.out) (g.O.Outside.trace c.serve-held.new.out)) c.common.ensures c.serve-held.ensures.serves in
    let long : length (conns c.serve-held.new.self) ≡ length (conns c.loop-i.self) = ap length sv.conns_then ∙ length-set (conns c.loop-i.self) c.loop-i.i sv.now in
    record {
      sound = c.serve-held.ensures.sound;
      all = all_step g.met.C.Connection.laws c.args.self.now c.note.new.self c.loop-i.self c.serve-held.new.self c.loop-i.i c.args.secs c.serve-held.result _ _ _ c.note.ensures.noted inv.same.clock (inv.same.site ∙ c.note.ensures.noted.site) inv.all inv.sound lt sv;
      told = adds_more g.met.C.Connection.laws _ _ _ inv.told sv.gives.acts sv.gives.added;
      limit = c.serve-held.ensures.limit ∙ inv.limit;
      same = record {
        site = sv.site ∙ inv.same.site;
        accepted = sv.accepted ∙ inv.same.accepted;
        stopped = sv.stopped ∙ inv.same.stopped;
        clock = sv.clock ∙ inv.same.clock;
      };
      end = omega (arith, end, long);
    }

pub free-requires : goal.free-requires
free-requires g c = c.loop-i.invariant.sound

pub returns-clause-stands : goal.returns-clause-stands
returns-clause-stands g c =
    let inv = c.loop-i.invariant in
    let end = inv.end in
    let test = c.loop-i-test.false in
    let bound = c.loop-i.auto in
    all_ends g.met.C.Connection.laws c.args.self.now c.note.new.self c.loop-i.self c.free.new.self c.loop-i.i c.args.secs _ _ c.note.ensures.noted inv.all (omega (arith, end, test, bound)) inv.same c.free.ensures.conns c.free.ensures.rest

pub returns-clause-told : goal.returns-clause-told
returns-clause-told g c = c.loop-i.invariant.told

pub returns-clause-limit : goal.returns-clause-limit
returns-clause-limit g c = c.loop-i.invariant.limit

pub returns-clause-site : goal.returns-clause-site
returns-clause-site g c = c.free.ensures.rest.site ∙ (c.loop-i.invariant.same.site ∙ c.note.ensures.noted.site)
