use Rattle.std.proofs.Common.{◌≡◌, [], ap, ◌∙◌, subst}
use Rattle.rtrb.specs.Ring.{sent, received}
use Rattle.pipe_pump.specs.Moved.{Moves}
use Rattle.pipe_pump.proofs.Gone.{takes_all}
use Rattle.pipe_pump.proofs.to_pipe.pump_in.Goals as goal

pub returns-clause-moved : goal.returns-clause-moved
returns-clause-moved g c =
    let e : received c.parts-consumer.result.0 ≡ [] = ap (λ x. received x) c.parts-consumer.ensures.consumer ∙ c.requires.1 in
    let d = c.done-in-Ok.ensures in
    rw (d.end, d.pipe, d.ring) (takes_all (received c.pump_rest-end.new.consumer ≡ sent c.pump_rest-end.new.producer) ⊥ c.pump_rest-end.result (g.P.PipeOut.taken c.args.pipe) (g.P.PipeOut.taken c.pump_open.new.pipe) (g.P.PipeOut.taken c.pump_rest-end.new.pipe) (g.P.PipeOut.faults c.pump_open.new.pipe) (g.P.PipeOut.faults c.pump_rest-end.new.pipe) (received c.pump_open.new.consumer) (received c.pump_rest-end.new.consumer)
    (subst (λ w. Moves (g.P.PipeOut.taken c.args.pipe) (g.P.PipeOut.taken c.pump_open.new.pipe) w (received c.pump_open.new.consumer)) e c.in-Ok.ensures.moved)
    c.pump_rest-end.ensures.stops)
