use Rattle.std.proofs.Common.{◌≡◌, ◌∷◌, ◌++◌, [], Some, false, ap, refl, subst, sym}
use Rattle.host_trace.specs.declared.items.Item.TheVariants.{Out}
use Rattle.doc_files.specs.Owed.{Knows, starts_document}
use Rattle.doc_files.proofs.OutsideLaws.{where_acts, where_passed}
use Rattle.doc_files.proofs.outside.DocOutsideOutside.act.Goals as goal

pub invariant_of-self : goal.invariant_of-self
invariant_of-self g c = record {
  empty = c.args.self.now.empty;
  roomy = c.args.self.now.roomy;
  keeps =
      where_acts c.args.self.now.docs (g.D.DocStore.held c.args.self.now.store) (g.D.DocStore.held c.args.self.now.store) refl
      c.args.self.now.told c.note_child.new.told (g.O.Outside.trace c.args.self.now.inner) c.args.act.now c.in-Some.acted
      c.args.self.now.children.items c.act_of.new.children.items c.args.self.now.keeps
      (c.note_child.ensures.told (g.O.Outside.trace c.args.self.now.inner)) c.note_child.ensures.once
      (λ done T h orderly once known.
      subst (λ d. Knows h d (T ++ Out c.args.act.now ∷ []) c.act_of.new.children.items) c.as_slice.ensures
      (c.in-Some.ensures.kept (ap Some done) T h orderly once (subst (λ d. Knows h d T c.args.self.now.children.items) (sym c.as_slice.ensures) known)))
      (λ refused. c.in-Some.ensures.refused (ap Some refused));
}

pub invariant_of-self-in-None : goal.invariant_of-self-in-None
invariant_of-self-in-None g c = record {
  empty = c.args.self.now.empty;
  roomy = c.args.self.now.roomy;
  keeps =
      where_passed c.args.self.now.docs (g.D.DocStore.held c.args.self.now.store) (g.D.DocStore.held c.args.self.now.store) refl
      c.args.self.now.told c.act_inner.new.told (g.O.Outside.trace c.args.self.now.inner) (g.O.Outside.trace c.act_inner.new.inner) c.args.act.now c.act_inner.result
      c.args.self.now.children.items c.act_of.new.children.items c.args.self.now.keeps
      c.act_inner.ensures.acts c.act_inner.ensures.told c.act_inner.ensures.once
      (subst (λ d. starts_document d c.args.act.now ≡ false) c.as_slice.ensures (c.in-None.ensures.elsewhere refl))
      (λ T h known.
      subst (λ d. Knows h d T c.act_of.new.children.items) c.as_slice.ensures
      (c.in-None.ensures.other refl T h (subst (λ d. Knows h d T c.args.self.now.children.items) (sym c.as_slice.ensures) known)));
}
