use Rattle.exchange_laws.proofs.BodyStageLaws.{bodies_are_heard, bodies_may_grow, offers_are_bodies}
use Rattle.exchange_laws.proofs.laws.bodies_are_offered.Goals as goal

pub returns : goal.returns
returns c = record { grow = bodies_may_grow; heard = bodies_are_heard; offers = offers_are_bodies }
