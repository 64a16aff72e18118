use Rattle.std.proofs.Common.{◌≡◌, [], ◌++◌, refl, ◌∙◌, ap, le_refl, le_trans, arith}
use Rattle.std.proofs.KnownBytes.{Consumes-nil, Consumes-trans}
use Rattle.std.proofs.lemmas.Grind.{common_steps}
use Rattle.rtrb.specs.Ring.{sent, SameProducer}
use Rattle.pipe_pump.proofs.Gone.{send_known, sends_known}
use Rattle.pipe_pump.proofs.Steps.{same_producer_two, put_part, put_all}
use Rattle.pipe_pump.proofs.from_pipe.send.Goals as goal

pub loop-init : goal.loop-init
loop-init g c =
    (tt, tt, ((refl, refl, refl, refl), refl), refl, Consumes-nil (g.P.PipeIn.left c.args.pipe.now), le_refl (g.P.PipeIn.faults c.args.pipe.now), c.known_end-ended.ensures (g.P.PipeIn.left c.args.pipe.now) (g.P.PipeIn.faults c.args.pipe.now) (g.P.PipeIn.faults c.args.pipe.now))

pub returns-then-is_empty-clause-ring : goal.returns-then-is_empty-clause-ring
returns-then-is_empty-clause-ring g c =
    same_producer_two c.args.producer.now c.loop.producer c.push_partial_slice.new.self c.loop.invariant.2 c.push_partial_slice.ensures.ring

pub returns-then-is_empty-clause-sent : goal.returns-then-is_empty-clause-sent
returns-then-is_empty-clause-sent g c =
    let l : c.push_partial_slice.result.1.now ≡ [] = grind (arith, common_steps) in
    let e = put_part (sent c.loop.producer) (sent c.push_partial_slice.new.self) c.loop.rest.now c.push_partial_slice.result.0.now c.push_partial_slice.result.1.now (sent c.args.producer.now ++ c.args.piece.now) c.loop.invariant.3 c.push_partial_slice.ensures.parts c.push_partial_slice.ensures.sent in
    sends_known c.loop.ended c.args.is_last (g.P.PipeIn.left c.loop.pipe) (g.P.PipeIn.faults c.args.pipe.now) (g.P.PipeIn.faults c.loop.pipe) c.args.producer.now c.push_partial_slice.new.self c.args.piece.now c.loop.invariant.6 (put_all _ _ _ e l)

pub returns-then-is_empty-clause-ends : goal.returns-then-is_empty-clause-ends
returns-then-is_empty-clause-ends g c =
    send_known c.loop.ended c.args.is_last (g.P.PipeIn.left c.loop.pipe) (g.P.PipeIn.faults c.args.pipe.now) (g.P.PipeIn.faults c.loop.pipe) c.loop.invariant.6

pub returns-then-is_gone-clause-ring : goal.returns-then-is_gone-clause-ring
returns-then-is_gone-clause-ring g c =
    let s : SameProducer c.args.producer.now c.push_partial_slice.new.self = same_producer_two c.args.producer.now c.loop.producer c.push_partial_slice.new.self c.loop.invariant.2 c.push_partial_slice.ensures.ring in
    let t : SameProducer c.push_partial_slice.new.self c.is_full.new.self = same_producer_two c.push_partial_slice.new.self c.is_abandoned-is_gone.new.self c.is_full.new.self c.is_abandoned-is_gone.ensures.0 c.is_full.ensures.looked.0 in
    same_producer_two c.args.producer.now c.push_partial_slice.new.self c.is_full.new.self s t

pub returns-then-is_gone-clause-sent : goal.returns-then-is_gone-clause-sent
returns-then-is_gone-clause-sent g c =
    let e = put_part (sent c.loop.producer) (sent c.push_partial_slice.new.self) c.loop.rest.now c.push_partial_slice.result.0.now c.push_partial_slice.result.1.now (sent c.args.producer.now ++ c.args.piece.now) c.loop.invariant.3 c.push_partial_slice.ensures.parts c.push_partial_slice.ensures.sent in
    record {
      rest = c.push_partial_slice.result.1.now;
      some = grind (arith, common_steps);
      sent = ap (λ w. w ++ c.push_partial_slice.result.1.now) (c.is_full.ensures.looked.1 ∙ c.is_abandoned-is_gone.ensures.1) ∙ e;
      full = grind (arith, common_steps);
    }

pub loop-preserved-then-not-is_full : goal.loop-preserved-then-not-is_full
loop-preserved-then-not-is_full g c =
    let s : SameProducer c.args.producer.now c.push_partial_slice.new.self = same_producer_two c.args.producer.now c.loop.producer c.push_partial_slice.new.self c.loop.invariant.2 c.push_partial_slice.ensures.ring in
    let t : SameProducer c.push_partial_slice.new.self c.is_full.new.self = same_producer_two c.push_partial_slice.new.self c.is_abandoned-is_gone.new.self c.is_full.new.self c.is_abandoned-is_gone.ensures.0 c.is_full.ensures.looked.0 in
    let e = put_part (sent c.loop.producer) (sent c.push_partial_slice.new.self) c.loop.rest.now c.push_partial_slice.result.0.now c.push_partial_slice.result.1.now (sent c.args.producer.now ++ c.args.piece.now) c.loop.invariant.3 c.push_partial_slice.ensures.parts c.push_partial_slice.ensures.sent in
    (tt, tt, same_producer_two c.args.producer.now c.push_partial_slice.new.self c.is_full.new.self s t, ap (λ w. w ++ c.push_partial_slice.result.1.now) (c.is_full.ensures.looked.1 ∙ c.is_abandoned-is_gone.ensures.1) ∙ e, c.loop.invariant.4, c.loop.invariant.5, c.loop.invariant.6)

pub loop-preserved : goal.loop-preserved
loop-preserved g c =
    let s : SameProducer c.args.producer.now c.push_partial_slice.new.self = same_producer_two c.args.producer.now c.loop.producer c.push_partial_slice.new.self c.loop.invariant.2 c.push_partial_slice.ensures.ring in
    let t : SameProducer c.push_partial_slice.new.self c.is_full.new.self = same_producer_two c.push_partial_slice.new.self c.is_abandoned-is_gone.new.self c.is_full.new.self c.is_abandoned-is_gone.ensures.0 c.is_full.ensures.looked.0 in
    let e = put_part (sent c.loop.producer) (sent c.push_partial_slice.new.self) c.loop.rest.now c.push_partial_slice.result.0.now c.push_partial_slice.result.1.now (sent c.args.producer.now ++ c.args.piece.now) c.loop.invariant.3 c.push_partial_slice.ensures.parts c.push_partial_slice.ensures.sent in
    (tt, tt, same_producer_two c.args.producer.now c.push_partial_slice.new.self c.is_full.new.self s t, ap (λ w. w ++ c.push_partial_slice.result.1.now) (c.is_full.ensures.looked.1 ∙ c.is_abandoned-is_gone.ensures.1) ∙ e, Consumes-trans (g.P.PipeIn.left c.args.pipe.now) (g.P.PipeIn.left c.loop.pipe) (g.P.PipeIn.left c.tell_unless_ended-ended.new.pipe) [] [] c.loop.invariant.4 c.tell_unless_ended-ended.ensures.pipe, le_trans c.loop.invariant.5 c.tell_unless_ended-ended.ensures.count, c.tell_unless_ended-ended.ensures.ends c.args.is_last (g.P.PipeIn.faults c.args.pipe.now) c.loop.invariant.5 c.loop.invariant.6)
