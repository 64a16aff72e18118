-- What is counted goes on where the item was counted and kept.
use Rattle.std.proofs.Common.{◌≡◌, Bool, true, false, ◌∙◌, sym, refl, subst}
use Rattle.std.specs.Prelude.{◌&&◌, is_ok}
use Rattle.std.proofs.lemmas.Bool.{cond-true}
use Rattle.memory_world.specs.Ties.{Ties}
use Rattle.memory_world.proofs.counted.Counted.push.Goals as goal

all_true : (a b d : Bool) → (a && b && d) ≡ true → (a ≡ true) × (b ≡ true) × (d ≡ true)
all_true true true true is = (refl, refl, refl)
all_true true true false is = absurd (cc)
all_true true false d is = absurd (cc)
all_true false b d is = absurd (cc)

pub invariant_of-self : goal.invariant_of-self
invariant_of-self c = record {
  ties = λ counted.
      let is = all_true c.args.self.now.is_counted c.note-is_noted.result c.is_ok-is_kept.result (sym c.are_all-self.ensures ∙ counted) in
      let ok : is_ok c.push.result ≡ true = sym c.is_ok-is_kept.ensures.value ∙ is.2 in
      subst (λ items. Ties c.note-is_noted.new.self items) (sym (c.push.ensures.items ∙ cond-true _ _ _ ok))
      (c.note-is_noted.ensures is.1 c.args.self.now.items.items (c.args.self.now.ties is.0));
}
