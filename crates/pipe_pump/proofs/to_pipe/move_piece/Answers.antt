use Rattle.std.proofs.Common.{◌≤◌, ap, ◌∙◌, arith, length, take}
use Rattle.rtrb.specs.Ring.{received}
use Rattle.pipe_pump.proofs.Fronts.{moves_start, piece_moves, piece_front, cut_stops}
use Rattle.pipe_pump.proofs.Steps.{same_consumer_two, moves_same, none_taken, taken_total}
use Rattle.pipe_pump.proofs.to_pipe.move_piece.Goals as goal

pub returns-then-count-eq0-clause-moved : goal.returns-then-count-eq0-clause-moved
returns-then-count-eq0-clause-moved g c =
    let e = none_taken (received c.args.consumer.now) (received c.pop-count.new.consumer) c.pop-count.new.into c.pop-count.result c.pop-count.ensures.received c.if-count-eq0.true in
    moves_same _ _ _ _ _ e (moves_start (g.P.PipeOut.taken c.args.pipe.now) (received c.args.consumer.now))

pub returns-then-count-eq0-clause-total : goal.returns-then-count-eq0-clause-total
returns-then-count-eq0-clause-total g c =
    let e = none_taken (received c.args.consumer.now) (received c.pop-count.new.consumer) c.pop-count.new.into c.pop-count.result c.pop-count.ensures.received c.if-count-eq0.true in
    ap length e ∙ c.requires.total

pub returns-in-Err-clause-ring : goal.returns-in-Err-clause-ring
returns-in-Err-clause-ring g c =
    same_consumer_two c.args.consumer.now c.pop-count.new.consumer c.slots.new.self c.pop-count.ensures.ring c.slots.ensures.looked.0

pub returns-in-Err-clause-stops : goal.returns-in-Err-clause-stops
returns-in-Err-clause-stops g c =
    cut_stops ⊥ ⊥ c.in-Err.end (g.P.PipeOut.taken c.args.pipe.now) (g.P.PipeOut.taken c.put_told.new.pipe) (g.P.PipeOut.faults c.args.pipe.now) (g.P.PipeOut.faults c.put_told.new.pipe) (received c.args.consumer.now) (received c.slots.new.self)
    (piece_front _ _ (received c.args.consumer.now) (received c.slots.new.self) (take c.pop-count.result c.pop-count.new.into) (c.slots.ensures.looked.1 ∙ c.pop-count.ensures.received) c.put_told.ensures.part) c.in-Err.ensures.cuts

pub returns-in-Err-clause-total : goal.returns-in-Err-clause-total
returns-in-Err-clause-total g c =
    taken_total (received c.args.consumer.now) (received c.slots.new.self) c.pop-count.new.into c.pop-count.result c.args.total.now (c.slots.ensures.looked.1 ∙ c.pop-count.ensures.received) (omega arith) c.requires.total

pub returns-then-total-eq-MOST-clause-ring : goal.returns-then-total-eq-MOST-clause-ring
returns-then-total-eq-MOST-clause-ring g c =
    same_consumer_two c.args.consumer.now c.pop-count.new.consumer c.slots.new.self c.pop-count.ensures.ring c.slots.ensures.looked.0

pub returns-then-total-eq-MOST-clause-stops : goal.returns-then-total-eq-MOST-clause-stops
returns-then-total-eq-MOST-clause-stops g c =
    let e = c.slots.ensures.looked.1 ∙ c.pop-count.ensures.received in
    let h : c.pop-count.result ≤ length c.pop-count.new.into = omega arith in
    (piece_moves (g.P.PipeOut.taken c.args.pipe.now) (g.P.PipeOut.taken c.put_told.new.pipe) (received c.args.consumer.now) (received c.slots.new.self) (take c.pop-count.result c.pop-count.new.into) e c.in_default.ensures.all, taken_total (received c.args.consumer.now) (received c.slots.new.self) c.pop-count.new.into c.pop-count.result c.args.total.now e h c.requires.total ∙ c.if-total-eq-MOST.true)

pub returns-then-total-eq-MOST-clause-total : goal.returns-then-total-eq-MOST-clause-total
returns-then-total-eq-MOST-clause-total g c =
    taken_total (received c.args.consumer.now) (received c.slots.new.self) c.pop-count.new.into c.pop-count.result c.args.total.now (c.slots.ensures.looked.1 ∙ c.pop-count.ensures.received) (omega arith) c.requires.total

pub returns-clause-ring : goal.returns-clause-ring
returns-clause-ring g c =
    same_consumer_two c.args.consumer.now c.pop-count.new.consumer c.slots.new.self c.pop-count.ensures.ring c.slots.ensures.looked.0

pub returns-clause-moved : goal.returns-clause-moved
returns-clause-moved g c =
    piece_moves (g.P.PipeOut.taken c.args.pipe.now) (g.P.PipeOut.taken c.put_told.new.pipe) (received c.args.consumer.now) (received c.slots.new.self) (take c.pop-count.result c.pop-count.new.into) (c.slots.ensures.looked.1 ∙ c.pop-count.ensures.received) c.in_default.ensures.all

pub returns-clause-total : goal.returns-clause-total
returns-clause-total g c =
    taken_total (received c.args.consumer.now) (received c.slots.new.self) c.pop-count.new.into c.pop-count.result c.args.total.now (c.slots.ensures.looked.1 ∙ c.pop-count.ensures.received) (omega arith) c.requires.total
