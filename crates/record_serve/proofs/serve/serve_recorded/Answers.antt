-- The outside that came out is served under a record and given back.
use Rattle.std.proofs.Common.{◌≡◌, arith, length, subst, sym}
use Rattle.std.specs.Prelude.{All}
use Rattle.std.proofs.lemmas.List.Elements.{length_all_zip}
use Rattle.trace_laws.specs.Promised.{Promised}
use Rattle.host_loop.specs.Loops.{IsFresh, WasTold, WhereTold}
use Rattle.host_loop.proofs.GivenLaws.{gave_loops}
use Rattle.record_serve.proofs.RecordedLaws.{all_fresh, all_over, all_under, both, joined_over, recorded}
use Rattle.record_serve.proofs.serve.serve_recorded.Goals as goal

pub serve_all-end-requires-clause-outs : goal.serve_all-end-requires-clause-outs
serve_all-end-requires-clause-outs g c κs within =
    let trace = g.W.Out.Outside.trace in
    let limit = g.W.Out.Outside.limit in
    let outs = c.in-Ok-enter.outs.items in
    let fresh = all_fresh (g.W.World.given c.args.world.now) trace outs c.in-Ok-enter.ensures.told in
    all_over (λ o. IsFresh (trace o) × (limit o ≡ c.args.site.now.limits.children)) (λ o. o.inner) c.cover.new.covered.items outs c.cover.ensures.those
    (both (λ o. IsFresh (trace o)) (λ o. limit o ≡ c.args.site.now.limits.children) outs fresh c.in-Ok-enter.ensures.limit)

pub uncover-record-requires-clause-one : goal.uncover-record-requires-clause-one
uncover-record-requires-clause-one g c =
    let trace = g.W.Out.Outside.trace in
    let same = length_all_zip (λ o p. WasTold (trace o.inner) (trace p.inner)) c.cover.new.covered.items c.serve_all-end.new.outs.items c.serve_all-end.ensures.places in
    omega (arith, c.cover.ensures.one, same)

pub returns-clause-gives : goal.returns-clause-gives
returns-clause-gives g c = λ now told.
    let trace = g.W.Out.Outside.trace in
    let covered = c.serve_all-end.new.outs.items in
    let outs = c.in-Ok-enter.outs.items in
    let same = length_all_zip (λ o p. WasTold (trace o.inner) (trace p.inner)) c.cover.new.covered.items covered c.serve_all-end.ensures.places in
    let count : length covered ≡ 1 = omega (arith, c.cover.ensures.one, same) in
    let fresh = all_over (λ o. IsFresh (trace o)) (λ o. o.inner) c.cover.new.covered.items outs c.cover.ensures.those
    (all_fresh (g.W.World.given c.args.world.now) trace outs c.in-Ok-enter.ensures.told) in
    rw (← c.enter.ensures.given) (gave_loops (Promised c.args.site.now) (λ o. trace o.inner) c.args.turns 1 c.serve_all-end.result covered _ now count (record {
      good = c.serve_all-end.ensures.good;
      done = c.serve_all-end.ensures.done;
      spent = c.serve_all-end.ensures.spent;
      each = c.serve_all-end.ensures.each;
      memory = λ none. subst (λ v. All (λ o. IsFresh (trace o.inner)) v.items) (sym (c.serve_all-end.ensures.memory none)) fresh;
    }) (joined_over trace (λ o. o.inner) covered c.uncover-record.new.outs.items _ now c.uncover-record.ensures.those (c.leave.ensures.given now told)))

pub returns-clause-text : goal.returns-clause-text
returns-clause-text g c = λ now told.
    let trace = g.W.Out.Outside.trace in
    let covered = c.serve_all-end.new.outs.items in
    let outs = c.uncover-record.new.outs.items in
    let one : length outs ≡ 1 = omega (arith, c.uncover-record.ensures.one) in
    let good = subst (All (λ o. WhereTold (Promised c.args.site.now) (trace o))) (sym c.uncover-record.ensures.those)
    (all_under (λ o. WhereTold (Promised c.args.site.now) (trace o)) (λ o. o.inner) covered c.serve_all-end.ensures.good) in
    rw (← c.enter.ensures.given) (recorded trace c.args.site.now outs c.uncover-record.result _ now one c.uncover-record.ensures.text good (c.leave.ensures.given now told))
