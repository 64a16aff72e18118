use Rattle.std.proofs.Common.{sym, ◌∙◌}
use Rattle.host_core.proofs.StandsLaws.{fit_ignores, none_stands, one_stands, unfit_stands}
use Rattle.host_core.proofs.core_state.Core.one.Goals as goal

pub returns-in_default-clause-stands : goal.returns-in_default-clause-stands
returns-in_default-clause-stands g c = none_stands g.met.C.Connection.laws c.args.self.now c.args.ev _ c.requires.sound c.in_default.ensures c.requires.kind

pub returns-then-fits-clause-stands : goal.returns-then-fits-clause-stands
returns-then-fits-clause-stands g c =
    one_stands g.met.C.Connection.laws c.args.self.now c.serve-held.new.self c.free_at.new.self c.in-Some.i c.args.ev c.serve-held.result _ _ c.requires.sound c.in-Some.ensures c.requires.kind c.serve-held.ensures.serves c.free_at.ensures.freed

pub returns-then-fits-clause-ignores : goal.returns-then-fits-clause-ignores
returns-then-fits-clause-ignores g c =
    fit_ignores g.met.C.Connection.laws c.args.self.now c.free_at.new.self c.in-Some.i c.args.ev c.get.result.now _ _ c.in-Some.ensures c.requires.kind (c.get.ensures c.get.result.now) (sym c.fits.ensures ∙ c.if-fits.true)

pub returns-else-fits-clause-stands : goal.returns-else-fits-clause-stands
returns-else-fits-clause-stands g c =
    unfit_stands g.met.C.Connection.laws c.args.self.now c.in-Some.i c.args.ev c.get.result.now _ c.in-Some.ensures c.requires.kind (c.get.ensures c.get.result.now) (sym c.fits.ensures ∙ c.if-fits.false)
