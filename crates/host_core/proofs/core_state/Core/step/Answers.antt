use Rattle.std.proofs.Common.{sym, subst}
use Rattle.host_core.specs.Stands.{Ignores, Steps}
use Rattle.host_core.proofs.core_state.Core.step.Goals as goal

pub returns-in-Accepted-clause-stands : goal.returns-in-Accepted-clause-stands
returns-in-Accepted-clause-stands g c =
    subst (λ e. Steps c.args.self.now e (g.O.Outside.trace c.args.out.now) c.accept.new.self (g.O.Outside.trace c.accept.new.out)) (sym c.in-Accepted.is) c.accept.ensures.stands

pub returns-in-Tick-clause-stands : goal.returns-in-Tick-clause-stands
returns-in-Tick-clause-stands g c =
    subst (λ e. Steps c.args.self.now e (g.O.Outside.trace c.args.out.now) c.tick.new.self (g.O.Outside.trace c.tick.new.out)) (sym c.in-Tick.is) c.tick.ensures.stands

pub returns-in-Stop-clause-stands : goal.returns-in-Stop-clause-stands
returns-in-Stop-clause-stands g c =
    subst (λ e. Steps c.args.self.now e (g.O.Outside.trace c.args.out.now) c.stop.new.self (g.O.Outside.trace c.stop.new.out)) (sym c.in-Stop.is) c.stop.ensures.stands

pub returns-in-Accepted-clause-ignores : goal.returns-in-Accepted-clause-ignores
returns-in-Accepted-clause-ignores g c =
    subst (λ e. Ignores c.args.self.now e (g.O.Outside.trace c.args.out.now) c.accept.new.self (g.O.Outside.trace c.accept.new.out)) (sym c.in-Accepted.is) c.accept.ensures.ignores

pub returns-in-Tick-clause-ignores : goal.returns-in-Tick-clause-ignores
returns-in-Tick-clause-ignores g c =
    subst (λ e. Ignores c.args.self.now e (g.O.Outside.trace c.args.out.now) c.tick.new.self (g.O.Outside.trace c.tick.new.out)) (sym c.in-Tick.is) c.tick.ensures.ignores

pub returns-in-Stop-clause-ignores : goal.returns-in-Stop-clause-ignores
returns-in-Stop-clause-ignores g c =
    subst (λ e. Ignores c.args.self.now e (g.O.Outside.trace c.args.out.now) c.stop.new.self (g.O.Outside.trace c.stop.new.out)) (sym c.in-Stop.is) c.stop.ensures.ignores
