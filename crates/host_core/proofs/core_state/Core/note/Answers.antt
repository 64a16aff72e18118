use Rattle.std.proofs.Common.{◌≡◌, ◌∙◌, sym, refl, true, false, Bool}
use Rattle.std.specs.Prelude.{◌||◌}
use Rattle.host_trace.specs.declared.items.Event.TheVariants.{Stop}
use Rattle.host_core.proofs.FreedLaws.{clock_more, clock_tick}
use Rattle.host_core.proofs.core_state.Core.note.Goals as goal

or_nothing : (b : Bool) → b ≡ (b || false)
or_nothing true = refl
or_nothing false = refl

or_all : (b : Bool) → true ≡ (b || true)
or_all true = refl
or_all false = refl

pub returns-in-Some-clause-noted : goal.returns-in-Some-clause-noted
returns-in-Some-clause-noted g c = rw c.in-Some.is (record {
  kept = refl;
  site = refl;
  accepted = refl;
  children = refl;
  stopped = or_nothing c.args.self.now.stopped;
  clock = λ T same. sym (clock_tick T c.in-Some.secs);
})

pub returns-in-None-clause-noted : goal.returns-in-None-clause-noted
returns-in-None-clause-noted g c = rw c.in-None.is (record {
  kept = refl;
  site = refl;
  accepted = refl;
  children = refl;
  stopped = or_all c.args.self.now.stopped;
  clock = λ T same. same ∙ sym (clock_more T Stop refl);
})
