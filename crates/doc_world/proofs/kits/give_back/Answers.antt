-- The rest can be let go.
use Rattle.std.proofs.Common.{◌≡◌, ◌∙◌, [], sym, All}
use Rattle.std.specs.Vec.Iter.{into_iter_items}
use Rattle.std.proofs.lemmas.List.Elements.{All-head, All-rest, All-same}
use Rattle.doc_world.proofs.kits.give_back.Goals as goal

pub unmake_kit-requires : goal.unmake_kit-requires
unmake_kit-requires g c =
    All-head (λ kit. kit.single.items ≡ []) c.in-Some.kit (into_iter_items c.next.new.self)
    (All-same (λ kit. kit.single.items ≡ []) _ (into_iter_items c.loop-kit.kits) (sym c.in-Some.ensures.items) c.loop-kit.invariant.1)

pub loop-kit-preserved : goal.loop-kit-preserved
loop-kit-preserved g c = (
  c.unmake_kit.ensures ∙ c.loop-kit.invariant.0,
  All-rest (λ kit. kit.single.items ≡ []) c.in-Some.kit (into_iter_items c.next.new.self) (into_iter_items c.loop-kit.kits) c.in-Some.ensures.items c.loop-kit.invariant.1,
)
