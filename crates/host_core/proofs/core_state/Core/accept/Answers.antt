use Rattle.std.proofs.Common.{◌≤◌, ◌∙◌, sym, refl, [], ◌∷◌, arith, length}
use Rattle.std.proofs.lemmas.Bool.{leb-true}
use Rattle.host_trace.specs.declared.items.Act.TheVariants.{Shut}
use Rattle.host_trace.specs.declared.items.Why.TheVariants.{Full}
use Rattle.host_core.specs.Owners.{conns, most_of}
use Rattle.host_core.proofs.StandsLaws.{accept_stands, full_stands}
use Rattle.host_core.proofs.core_state.Core.accept.Goals as goal

pub returns-then-is_full-clause-stands : goal.returns-then-is_full-clause-stands
returns-then-is_full-clause-stands g c =
    let core = c.args.self.now in
    let full : most_of core ≤ length (conns core) = leb-true (most_of core) (length (conns core)) (sym c.is_full.ensures.value ∙ c.if-is_full.true) in
    let some = c.requires.sound.site_good.limits.connections in
    full_stands g.met.C.Connection.laws core _ c.args.peer _ _ (record { kept = refl; site = refl; accepted = refl; children = refl; stopped = refl; clock = refl }) c.give_plain.ensures.told (λ T s. sym (c.is_full.ensures.slots T s) ∙ c.if-is_full.true) (omega (arith, full, some))

pub returns-then-is_full-clause-told : goal.returns-then-is_full-clause-told
returns-then-is_full-clause-told g c = λ now told. (Shut c.args.self.now.accepted Full ∷ [], c.give_plain.ensures.told now told)

pub returns-clause-stands : goal.returns-clause-stands
returns-clause-stands g c =
    accept_stands g.met.C.Connection.laws c.args.self.now c.add-last.new.self c.serve-held.new.self c.free_at.new.self c.add-last.result c.serve-held.result c.args.peer _ _ c.add-last.ensures.sound c.add-last.ensures.adds
    (λ T s. sym (c.is_full.ensures.slots T s) ∙ c.if-is_full.false) c.serve-held.ensures.serves c.free_at.ensures.freed
