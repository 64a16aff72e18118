use Rattle.std.proofs.Common.{◌≡◌, ◌∙◌, refl, sym, length, arith}
use Rattle.std.proofs.lemmas.List.Elements.{All-get_or, All-set, AllWithin-none, AllWithin-more_set, AllWithin-upto, All-from_all_within}
use Rattle.edge_loop.specs.Leaving.{both}
use Rattle.edge_loop.specs.declared.leaving.Sending.{Sending}
use Rattle.edge_loop.specs.declared.leaving.Sending.TheVariants.{Done, Moving, Blocked}
use Rattle.edge_loop.proofs.leaving.send_round.Goals as goal

both_done : (a b : Sending) → both a b ≡ Done → (a ≡ Done) × (b ≡ Done)
both_done Done b h = (refl, h)
both_done Moving b h = absurd (cc)
both_done Blocked Done h = absurd (cc)
both_done Blocked Moving h = absurd (cc)
both_done Blocked Blocked h = absurd (cc)

pub loop-i-init : goal.loop-i-init
loop-i-init g c = (λ h. h, λ _. AllWithin-none g.E.Leaving.is_sent _ 0)

pub loop-i-preserved : goal.loop-i-preserved
loop-i-preserved g c = (
  λ h. All-set g.E.Leaving.is_halted c.loop-i.outs c.loop-i.i c.send_some.new.self
      (c.send_some.ensures.halted (All-get_or g.E.Leaving.is_halted c.loop-i.outs c.loop-i.i c.index-outs-i.result (omega (arith, c.loop-i-test.true, c.loop-i.auto.outs)) (c.loop-i.invariant.0 h)))
      (c.loop-i.invariant.0 h),
  λ e. let d = both_done c.loop-i.all c.send_some.result (sym c.and-all.ensures ∙ e) in
      AllWithin-more_set c.loop-i.outs c.loop-i.i c.send_some.new.self (omega (arith, c.loop-i-test.true, c.loop-i.auto.outs)) g.E.Leaving.is_sent (c.loop-i.invariant.1 d.0) (c.send_some.ensures.sent d.1),
)

pub returns-clause-sent : goal.returns-clause-sent
returns-clause-sent g c =
    λ e. All-from_all_within g.E.Leaving.is_sent c.loop-i.outs
    (AllWithin-upto g.E.Leaving.is_sent c.loop-i.outs 0 c.loop-i.i (length c.loop-i.outs) (omega (arith, c.loop-i-test.false, c.loop-i.auto.outs)) (c.loop-i.invariant.1 e))
