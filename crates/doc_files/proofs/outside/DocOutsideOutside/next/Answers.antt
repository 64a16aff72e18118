use Rattle.std.proofs.Common.{◌∷◌, ◌++◌, [], refl, subst, sym}
use Rattle.host_trace.specs.declared.items.Item.TheVariants.{In}
use Rattle.doc_files.specs.Owed.{Knows}
use Rattle.doc_files.proofs.OutsideLaws.{where_hears, where_hears_inner}
use Rattle.doc_files.proofs.outside.DocOutsideOutside.next.Goals as goal

pub invariant_of-self : goal.invariant_of-self
invariant_of-self g c = record {
  empty = c.args.self.now.empty;
  roomy = c.args.self.now.roomy;
  keeps =
      where_hears c.args.self.now.docs (g.D.DocStore.held c.args.self.now.store) (g.D.DocStore.held c.next_of.new.store) c.next_of.ensures.same
      c.args.self.now.told c.hear_child.new.told (g.O.Outside.trace c.args.self.now.inner) (g.O.Outside.limit c.args.self.now.inner) c.in-Some.event
      c.args.self.now.children.items c.next_of.new.children.items c.args.self.now.keeps
      (c.hear_child.ensures.told (g.O.Outside.limit c.args.self.now.inner) (g.O.Outside.trace c.args.self.now.inner) c.in-Some.ensures.some.no_book)
      (λ T h holds known.
      subst (λ d. Knows h d (T ++ In c.in-Some.event ∷ []) c.next_of.new.children.items) c.as_slice.ensures
      (c.in-Some.ensures.kept T h holds (subst (λ d. Knows h d T c.args.self.now.children.items) (sym c.as_slice.ensures) known)));
}

pub invariant_of-self-in-None : goal.invariant_of-self-in-None
invariant_of-self-in-None g c = record {
  empty = c.args.self.now.empty;
  roomy = c.args.self.now.roomy;
  keeps =
      where_hears_inner c.args.self.now.docs (g.D.DocStore.held c.args.self.now.store) (g.D.DocStore.held c.next_of.new.store) c.next_of.ensures.same
      c.args.self.now.told c.hear_inner.new.told (g.O.Outside.trace c.args.self.now.inner) (g.O.Outside.trace c.hear_inner.new.inner)
      (g.O.Outside.limit c.args.self.now.inner) c.hear_inner.result c.args.self.now.children.items c.next_of.new.children.items c.args.self.now.keeps
      (c.in-None.ensures.none refl).0 c.hear_inner.ensures.heard c.hear_inner.ensures.told;
}
