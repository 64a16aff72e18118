-- The one outside came out, was served and was given back.
use Rattle.std.proofs.Common.{◌≡◌, true, [], ◌∷◌, ◌∙◌, Some, refl, sym, ap}
use Rattle.std.specs.List.{list_all}
use Rattle.memory_world.specs.MemoryWords.{tells_of}
use Rattle.memory_world.specs.WorldWords.{given_of_world}
use Rattle.sample_run.proofs.WorldLaws.{played_world}
use Rattle.sample_run.proofs.run.play_world.Goals as goal

pub returns-in-Done : goal.returns-in-Done
returns-in-Done c =
    let made = c.new-world.result in
    let outs = c.in-Ok.outs in
    let after = c.leave.new.self in
    let vec = c.in_ok-vec.field-0 in
    let same : outs ≡ vec = cc (c.in-Ok.ensures.those, c.new-world.ensures.fresh) in
    let one : outs.items ≡ c.args.outside ∷ [] = ap (λ v. v.items) same ∙ c.in_ok-vec.ensures.items in
    let tells : after.tells ≡ true = sym c.tells.ensures ∙ c.if-tells.true in
    let told : given_of_world after ≡ Some after.given.items = rw tells refl in
    played_world c.args.site.now c.args.outside c.take_last.result c.play-played.result.0 outs.items c.take_last.new.self.items c.push_reserved.new.self.items
    (given_of_world made) (given_of_world c.enter.new.self) (given_of_world after) (list_all tells_of vec.items) after.given.items c.play-played.result.1
    one c.take_last.ensures.items c.push_reserved.ensures.items c.new-world.ensures.told c.enter.ensures.given c.leave.ensures.given told c.play-played.ensures c.in-Done.is
