use Rattle.std.proofs.Common.{◌≡◌, ◌∙◌, get_or}
use Rattle.judge_cut.specs.Views.{exchange_of}
use Rattle.judge_cut.proofs.ViewLaws.{goes_on}
use Rattle.judge_cut.proofs.cut.current.Goals as goal

pub loop-i-preserved : goal.loop-i-preserved
loop-i-preserved g c =
    let was = c.loop-i.invariant.at in
    let x = c.index-own-i.result in
    let here : x ≡ get_or c.loop-i.e.own.now c.loop-i.e.end x = rw (was.own, was.end) c.index-own-i.is in
    record {
      rest = goes_on (g.J.Cuts.site c.args.judge.now) (g.J.Cuts.conn c.args.judge.now) c.args.own.now (exchange_of c.loop-i.e) (exchange_of c.in_ok-e.e) c.loop-i.i x c.loop-i-test.true c.index-own-i.is (c.in_ok-e.ensures.next x here) ∙ c.loop-i.invariant.rest;
      at = rw (was.own, was.end) at c.in_ok-e.ensures.at;
    }
