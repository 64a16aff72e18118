-- One more outside is taken.
use Rattle.std.proofs.Common.{◌≡◌, Bool, true, false, [], ◌∷◌, ◌∙◌, refl, arith}
use Rattle.std.specs.Prelude.{◌&&◌}
use Rattle.std.specs.List.{list_all}
use Rattle.std.proofs.lemmas.List.{map-append}
use Rattle.std.proofs.lemmas.List.Folds.{list_all-append}
use Rattle.host_trace.proofs.JoinsLaws.{Joins-trans}
use Rattle.memory_world.specs.MemoryWords.{trace_of, tells_of}
use Rattle.memory_world.proofs.world.MemoryWorld.take_all.Goals as goal

and-last : (a b x : Bool) → (a && b && x) ≡ (a && (b && (x && true)))
and-last true true true = refl
and-last true true false = refl
and-last true false x = refl
and-last false b x = refl

pub loop-outside-preserved : goal.loop-outside-preserved
loop-outside-preserved c =
    let was = c.loop-outside.invariant in
    let now = c.take_back.ensures in
    record {
      joins = rw (map-append trace_of c.loop-outside.yielded (c.in-Some.outside ∷ [])) (Joins-trans was.joins now.given);
      tells = now.tells
          ∙ rw (was.tells, list_all-append tells_of c.loop-outside.yielded (c.in-Some.outside ∷ []))
          (and-last c.args.self.now.tells (list_all tells_of c.loop-outside.yielded) (tells_of c.in-Some.outside));
      same = record { fresh = now.same.fresh ∙ was.same.fresh; entries = now.same.entries ∙ was.same.entries; out = now.same.out ∙ was.same.out; faults = now.same.faults ∙ was.same.faults };
      room = omega (arith, was.room, now.grown, now.capacity, now.same.out, c.in-Some.ensures.steps.1);
    }
