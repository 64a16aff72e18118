-- Each turn goes on, or is the last one.
use Rattle.std.proofs.Common.{[], None}
use Rattle.explain.proofs.StartLaws.{ended_by, going, lost_by, on_by, stands_first}
use Rattle.explain.proofs.explain.explain_one.Goals as goal

pub loop-init : goal.loop-init
loop-init g c = record {
  knows = (None, ([], c.new-first.ensures));
  stands = λ T told. stands_first c.args.site.now c.new-first.result T (c.requires.empty T told) c.requires.served.limits.head.0 c.new-first.ensures;
}

pub finish-requires-clause-texts : goal.finish-requires-clause-texts
finish-requires-clause-texts g c =
    let texts = c.turn.ensures.known c.args.site.now.limits c.loop.invariant.knows in rw c.in-Ended.is at texts

pub returns-in-Ended-clause-asks : goal.returns-in-Ended-clause-asks
returns-in-Ended-clause-asks g c = λ T told.
    let before = c.turn.ensures.tells T told in
    let now = c.turn.ensures.told c.args.site.now c.loop.counter before.0 T before.1 (c.loop.invariant.stands before.0 before.1) told in
    let ended = rw c.in-Ended.is at now in ended.alone

pub returns-in-Ended-clause-ends : goal.returns-in-Ended-clause-ends
returns-in-Ended-clause-ends g c = λ T told.
    let before = c.turn.ensures.tells T told in
    let now = c.turn.ensures.told c.args.site.now c.loop.counter before.0 T before.1 (c.loop.invariant.stands before.0 before.1) told in
    let ended = rw c.in-Ended.is at now in
    ended_by c.args.site.now c.args.turns c.loop.counter _ c.in-Ended.ending c.finish.result T c.loop-test.true ended c.finish.ensures

pub returns-in-NoMemory-clause-asks : goal.returns-in-NoMemory-clause-asks
returns-in-NoMemory-clause-asks g c = λ T told.
    let before = c.turn.ensures.tells T told in
    let now = c.turn.ensures.told c.args.site.now c.loop.counter before.0 T before.1 (c.loop.invariant.stands before.0 before.1) told in
    let lost = rw c.in-NoMemory.is at now in lost.alone

pub returns-in-NoMemory-clause-ends : goal.returns-in-NoMemory-clause-ends
returns-in-NoMemory-clause-ends g c = λ T told.
    let before = c.turn.ensures.tells T told in
    let now = c.turn.ensures.told c.args.site.now c.loop.counter before.0 T before.1 (c.loop.invariant.stands before.0 before.1) told in
    let lost = rw c.in-NoMemory.is at now in
    lost_by c.args.site.now c.args.turns c.loop.counter T c.loop-test.true lost

pub loop-preserved : goal.loop-preserved
loop-preserved g c =
    let on = on_by c.turn.result c.in-Passed.is in
    record {
      knows = c.turn.ensures.knows c.args.site.now.limits c.loop.invariant.knows on;
      stands = λ T told.
          let before = c.turn.ensures.tells T told in
          going c.args.site.now c.turn.new.first c.loop.counter c.turn.result T on
          (c.turn.ensures.told c.args.site.now c.loop.counter before.0 T before.1 (c.loop.invariant.stands before.0 before.1) told);
    }
