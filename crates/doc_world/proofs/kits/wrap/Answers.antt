-- One more is put among those that are new.
use Rattle.std.proofs.Common.{◌≡◌, ◌≤◌, ◌∙◌, [], List, Option, Some, sym, subst, ap, All, arith, vec_len, vec_capacity}
use Rattle.std.specs.Vec.Iter.{into_iter_items}
use Rattle.std.proofs.lemmas.List.Elements.{All-head, All-pop, All-push, All-rest, All-same}
use Rattle.host_trace.specs.declared.items.Item.{Item}
use Rattle.host_trace.specs.Told.{IsNew}
use Rattle.doc_world.proofs.kits.wrap.Goals as goal

pub loop-inner-init : goal.loop-inner-init
loop-inner-init g c =
    let none = c.requires.empty in
    let same = c.into_iter-entered.ensures.rest in
    record {
      told = λ k d lt. absurd (omega (arith, lt, none, c.args.outs.ok.0));
      new = λ given all. (λ k d lt. absurd (omega (arith, lt, none, c.args.outs.ok.0)), all);
      fresh = All-same (λ o. (T : List Item) → g.O.Outside.trace o ≡ Some T → T ≡ []) _ _ same c.requires.fresh;
      limited = All-same (λ o. g.O.Outside.limit o ≡ c.args.limit) _ _ same c.requires.limited;
      made = c.requires.made;
      count = omega (arith, c.requires.count, c.into_iter-entered.ensures.len);
      len = omega (arith, none);
      room = omega (arith, none, c.requires.room, c.into_iter-entered.ensures.len);
    }

pub new-requires-clause-empty : goal.new-requires-clause-empty
new-requires-clause-empty g c =
    (All-pop (λ kit. (kit.told.tells ≡ c.args.tells) × (kit.told.items.items ≡ []) × (kit.single.items ≡ []) × (1 ≤ vec_capacity kit.single))
    c.loop-inner.kits.items c.pop.new.self.items (Some c.in-Some-pop.kit) c.in-Some-pop.ensures.items c.loop-inner.invariant.made).1.2

pub new-requires-clause-room : goal.new-requires-clause-room
new-requires-clause-room g c =
    (All-pop (λ kit. (kit.told.tells ≡ c.args.tells) × (kit.told.items.items ≡ []) × (kit.single.items ≡ []) × (1 ≤ vec_capacity kit.single))
    c.loop-inner.kits.items c.pop.new.self.items (Some c.in-Some-pop.kit) c.in-Some-pop.ensures.items c.loop-inner.invariant.made).1.3

pub new-requires-clause-told : goal.new-requires-clause-told
new-requires-clause-told g c =
    (All-pop (λ kit. (kit.told.tells ≡ c.args.tells) × (kit.told.items.items ≡ []) × (kit.single.items ≡ []) × (1 ≤ vec_capacity kit.single))
    c.loop-inner.kits.items c.pop.new.self.items (Some c.in-Some-pop.kit) c.in-Some-pop.ensures.items c.loop-inner.invariant.made).1.1

pub new-requires-clause-fresh : goal.new-requires-clause-fresh
new-requires-clause-fresh g c =
    All-head (λ o. (T : List Item) → g.O.Outside.trace o ≡ Some T → T ≡ []) c.in-Some.inner (into_iter_items c.next.new.self)
    (All-same (λ o. (T : List Item) → g.O.Outside.trace o ≡ Some T → T ≡ []) _ (into_iter_items c.loop-inner.entered) (sym c.in-Some.ensures.items) c.loop-inner.invariant.fresh)

pub loop-inner-preserved : goal.loop-inner-preserved
loop-inner-preserved g c =
    let was = c.loop-inner.invariant in
    let popped =
    All-pop (λ kit. (kit.told.tells ≡ c.args.tells) × (kit.told.items.items ≡ []) × (kit.single.items ≡ []) × (1 ≤ vec_capacity kit.single))
    c.loop-inner.kits.items c.pop.new.self.items (Some c.in-Some-pop.kit) c.in-Some-pop.ensures.items was.made in
    let limit =
    All-head (λ o. g.O.Outside.limit o ≡ c.args.limit) c.in-Some.inner (into_iter_items c.next.new.self)
    (All-same (λ o. g.O.Outside.limit o ≡ c.args.limit) _ (into_iter_items c.loop-inner.entered) (sym c.in-Some.ensures.items) was.limited) in
    record {
      told =
          subst (λ outs. All (λ o. (o.told.tells ≡ c.args.tells) × (o.told.items.items ≡ []) × (g.O.Outside.limit o.inner ≡ c.args.limit)) outs) (sym c.push_reserved.ensures.items)
          (All-push (λ o. (o.told.tells ≡ c.args.tells) × (o.told.items.items ≡ []) × (g.O.Outside.limit o.inner ≡ c.args.limit)) c.loop-inner.outs.items c.new.result was.told
          (ap (λ t. t.tells) c.new.ensures.told ∙ popped.1.0, ap (λ t. t.items.items) c.new.ensures.told ∙ popped.1.1, ap g.O.Outside.limit c.new.ensures.inner ∙ limit));
      new = λ given all.
          let before = was.new given all in
          let one =
          All-head (λ o. IsNew given (g.O.Outside.trace o)) c.in-Some.inner (into_iter_items c.next.new.self)
          (All-same (λ o. IsNew given (g.O.Outside.trace o)) _ (into_iter_items c.loop-inner.entered) (sym c.in-Some.ensures.items) before.1) in (
            subst (λ outs. All (λ o. IsNew given (g.O.Outside.trace o.inner)) outs) (sym c.push_reserved.ensures.items)
                (All-push (λ o. IsNew given (g.O.Outside.trace o.inner)) c.loop-inner.outs.items c.new.result before.0
                (subst (λ o. IsNew given (g.O.Outside.trace o)) (sym c.new.ensures.inner) one)),
            All-rest (λ o. IsNew given (g.O.Outside.trace o)) c.in-Some.inner (into_iter_items c.next.new.self) (into_iter_items c.loop-inner.entered) c.in-Some.ensures.items before.1,
          );
      fresh = All-rest (λ o. (T : List Item) → g.O.Outside.trace o ≡ Some T → T ≡ []) c.in-Some.inner (into_iter_items c.next.new.self) (into_iter_items c.loop-inner.entered) c.in-Some.ensures.items was.fresh;
      limited = All-rest (λ o. g.O.Outside.limit o ≡ c.args.limit) c.in-Some.inner (into_iter_items c.next.new.self) (into_iter_items c.loop-inner.entered) c.in-Some.ensures.items was.limited;
      made = popped.0;
      count = omega (arith, was.count, c.in-Some.ensures.len, c.in-Some-pop.ensures.cases);
      len = omega (arith, was.len, c.push_reserved.ensures.len, c.in-Some.ensures.len);
      room = omega (arith, was.room, c.push_reserved.ensures.len, c.push_reserved.ensures.capacity, c.in-Some.ensures.len);
    }

pub returns-clause-new : goal.returns-clause-new
returns-clause-new g c = λ given all.
    (c.loop-inner.invariant.new given (All-same (λ o. IsNew given (g.O.Outside.trace o)) _ _ c.into_iter-entered.ensures.rest all)).0
