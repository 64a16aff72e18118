use Rattle.std.proofs.Common.{◌≡◌, refl, ap, ◌∙◌, le_refl, le_trans, length, Ok, [], arith}
use Rattle.rtrb.specs.Ring.{received, known_items, SameConsumer}
use Rattle.pipe_pump.proofs.Fronts.{moves_start, moves_two, stops_two}
use Rattle.pipe_pump.proofs.Steps.{same_consumer_two, mark_kept, moves_same}
use Rattle.pipe_pump.proofs.to_pipe.pump_open.Goals as goal

pub loop-init : goal.loop-init
loop-init g c =
    (tt, tt, ((refl, refl, refl, refl), refl), moves_start (g.P.PipeOut.taken c.args.pipe.now) (received c.args.consumer.now), le_refl (g.P.PipeOut.faults c.args.pipe.now), c.requires.total, c.requires.most, c.requires.room, c.requires.mark)

pub move_some-requires-clause-total : goal.move_some-requires-clause-total
move_some-requires-clause-total g c = ap length c.is_abandoned-is_last.ensures.1 ∙ c.loop.invariant.5

pub take_hand-requires : goal.take_hand-requires
take_hand-requires g c =
    let s : SameConsumer c.loop.consumer c.move_some.new.consumer = same_consumer_two c.loop.consumer c.is_abandoned-is_last.new.self c.move_some.new.consumer c.is_abandoned-is_last.ensures.0 c.move_some.ensures.ring in
    mark_kept (received c.loop.hand) (received c.loop.hand) c.loop.consumer c.move_some.new.consumer refl s c.loop.invariant.8

pub loop-preserved-then-count-gt0 : goal.loop-preserved-then-count-gt0
loop-preserved-then-count-gt0 g c =
    let s : SameConsumer c.loop.consumer c.move_some.new.consumer = same_consumer_two c.loop.consumer c.is_abandoned-is_last.new.self c.move_some.new.consumer c.is_abandoned-is_last.ensures.0 c.move_some.ensures.ring in
    (tt, tt, same_consumer_two c.args.consumer.now c.loop.consumer c.move_some.new.consumer c.loop.invariant.2 s, moves_two _ _ _ _ _ _ (moves_same _ _ _ _ _ c.is_abandoned-is_last.ensures.1 c.loop.invariant.3) c.in-Ok.ensures.moved, le_trans c.loop.invariant.4 c.move_some.ensures.count, c.move_some.ensures.total, c.in-Ok.ensures.most, le_trans c.loop.invariant.7 c.grow.ensures.kept, mark_kept (received c.loop.hand) (received c.loop.hand) c.loop.consumer c.move_some.new.consumer refl s c.loop.invariant.8)

pub loop-preserved : goal.loop-preserved
loop-preserved g c =
    let s : SameConsumer c.loop.consumer c.move_some.new.consumer = same_consumer_two c.loop.consumer c.is_abandoned-is_last.new.self c.move_some.new.consumer c.is_abandoned-is_last.ensures.0 c.move_some.ensures.ring in
    (tt, tt, same_consumer_two c.args.consumer.now c.loop.consumer c.move_some.new.consumer c.loop.invariant.2 s, moves_two _ _ _ _ _ _ (moves_same _ _ _ _ _ c.is_abandoned-is_last.ensures.1 c.loop.invariant.3) c.in-Ok.ensures.moved, le_trans c.loop.invariant.4 c.move_some.ensures.count, c.move_some.ensures.total, c.in-Ok.ensures.most, c.loop.invariant.7, mark_kept (received c.loop.hand) (received c.take_hand.new.hand) c.loop.consumer c.move_some.new.consumer (c.take_hand.ensures.none c.in_default.is) s c.loop.invariant.8)

pub returns-in-Err : goal.returns-in-Err
returns-in-Err g c =
    let s : SameConsumer c.loop.consumer c.move_some.new.consumer = same_consumer_two c.loop.consumer c.is_abandoned-is_last.new.self c.move_some.new.consumer c.is_abandoned-is_last.ensures.0 c.move_some.ensures.ring in
    record {
      ring = same_consumer_two c.args.consumer.now c.loop.consumer c.move_some.new.consumer c.loop.invariant.2 s;
      moved = tt;
      pair = tt;
      count = le_trans c.loop.invariant.4 c.move_some.ensures.count;
      stops = stops_two ⊥ (known_items c.move_some.new.consumer ≡ []) c.in-Err.end (g.P.PipeOut.taken c.args.pipe.now) (g.P.PipeOut.taken c.loop.pipe) (g.P.PipeOut.taken c.move_some.new.pipe) (g.P.PipeOut.faults c.args.pipe.now) (g.P.PipeOut.faults c.loop.pipe) (g.P.PipeOut.faults c.move_some.new.pipe) (received c.args.consumer.now) (received c.is_abandoned-is_last.new.self) (received c.move_some.new.consumer) (moves_same _ _ _ _ _ c.is_abandoned-is_last.ensures.1 c.loop.invariant.3) c.loop.invariant.4 c.in-Err.ensures.stops;
      total = c.move_some.ensures.total;
      most = tt;
      room = tt;
    }

pub returns-in-Some-take_hand : goal.returns-in-Some-take_hand
returns-in-Some-take_hand g c =
    let s : SameConsumer c.loop.consumer c.move_some.new.consumer = same_consumer_two c.loop.consumer c.is_abandoned-is_last.new.self c.move_some.new.consumer c.is_abandoned-is_last.ensures.0 c.move_some.ensures.ring in
    record {
      ring = same_consumer_two c.args.consumer.now c.loop.consumer c.move_some.new.consumer c.loop.invariant.2 s;
      moved = moves_two _ _ _ _ _ _ (moves_same _ _ _ _ _ c.is_abandoned-is_last.ensures.1 c.loop.invariant.3) c.in-Ok.ensures.moved;
      pair = c.in-Some-take_hand.ensures.pair;
      count = le_trans c.loop.invariant.4 c.move_some.ensures.count;
      stops = tt;
      total = c.move_some.ensures.total;
      most = c.in-Ok.ensures.most;
      room = c.loop.invariant.7;
    }

pub returns-then-is_last-clause-ring : goal.returns-then-is_last-clause-ring
returns-then-is_last-clause-ring g c =
    let s : SameConsumer c.loop.consumer c.move_some.new.consumer = same_consumer_two c.loop.consumer c.is_abandoned-is_last.new.self c.move_some.new.consumer c.is_abandoned-is_last.ensures.0 c.move_some.ensures.ring in
    same_consumer_two c.args.consumer.now c.loop.consumer c.move_some.new.consumer c.loop.invariant.2 s

pub returns-then-is_last-clause-count : goal.returns-then-is_last-clause-count
returns-then-is_last-clause-count g c = le_trans c.loop.invariant.4 c.move_some.ensures.count

pub returns-then-is_last-clause-stops : goal.returns-then-is_last-clause-stops
returns-then-is_last-clause-stops g c =
    (c.in-Ok.ensures.none (ap (λ n. Ok n) (omega arith)), moves_two _ _ _ _ _ _ (moves_same _ _ _ _ _ c.is_abandoned-is_last.ensures.1 c.loop.invariant.3) c.in-Ok.ensures.moved, rw c.move_some.ensures.total c.in-Ok.ensures.most)
