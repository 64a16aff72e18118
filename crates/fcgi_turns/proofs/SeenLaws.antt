-- What the runs of a connection's children see.
use Rattle.std.proofs.Common.{◌≡◌, ℕ, Bool, true, false, cond, List, [], ◌∷◌, ◌++◌, refl, sym, ap, subst, ◌∙◌, Option, Some, None, inl, inr}
use Rattle.std.specs.List.{fold}
use Rattle.std.proofs.lemmas.Bool.{cond-false}
use Rattle.std.proofs.lemmas.List.{append-nil, append_assoc}
use Rattle.host_base.specs.declared.site.Site.{Site}
use Rattle.host_trace.specs.declared.items.Item.{Item}
use Rattle.host_trace.specs.Decider.{Outcome, derived, unanswered, failed}
use Rattle.host_trace.specs.Kinds.{is_client_bytes, is_client_eof, bytes_heard, child_started}
use Rattle.host_trace.specs.Projections.{child_out}
use Rattle.trace_child.specs.Decided.{decides_run, outcome_at}
use Rattle.fcgi_turns.specs.Turns.{Active, Turns, no_turns, next_turns, as_seen, decided, by_child, by_run, run_with, started_by, by_start, by_end, by_item, on_bytes}
use Rattle.fcgi_turns.specs.TurnLaws.{IsSeen, AreSeen, SeenAreItems}

-- ---- other items end no run by records

calm_if : (b : Bool) (x y : Turns) → x.broke_off ≡ false → y.broke_off ≡ false → (cond b x y).broke_off ≡ false
calm_if true x y a b = a
calm_if false x y a b = b

calm_decided : (a : Active) (output : List ℕ) (o : Outcome) (t : Turns) → t.broke_off ≡ false → (decided a output o t).broke_off ≡ false
calm_decided a output derived t calm = calm
calm_decided a output (failed cause) t calm = calm
calm_decided a output unanswered t calm = calm

module _ (site : Site) (c : ℕ) where
  calm_child : (t : Turns) (a : Active) (o : Option ℕ) (x : Item) → t.broke_off ≡ false → (by_child site c t a o x).broke_off ≡ false
  calm_child t a None x calm = calm
  calm_child t a (Some k) x calm =
      let run = run_with site c k a.stdin in
      calm_if (decides_run run t.seen x) (decided a (child_out (t.seen ++ x ∷ []) k) (outcome_at run x) t) t (calm_decided a (child_out (t.seen ++ x ∷ []) k) (outcome_at run x) t calm) calm

  calm_run : (t : Turns) (o : Option Active) (x : Item) → t.broke_off ≡ false → (by_run site c t o x).broke_off ≡ false
  calm_run t None x calm = calm
  calm_run t (Some a) x calm = calm_child t a a.child x calm

  calm_started : (k : ℕ) (t : Turns) (o : Option Active) → t.broke_off ≡ false → (started_by k t o).broke_off ≡ false
  calm_started k t None calm = calm
  calm_started k t (Some a) calm = calm

  calm_start : (t : Turns) (x : Item) (ks : List ℕ) → t.broke_off ≡ false → (by_start site c t x ks).broke_off ≡ false
  calm_start t x [] calm = calm_run t t.active x calm
  calm_start t x (k ∷ ks) calm = calm_started k t t.active calm

  calm_item : (t : Turns) (x : Item) → t.broke_off ≡ false → is_client_bytes c x ≡ false → (by_item site c t x).broke_off ≡ false
  calm_item t x calm other =
      ap (λ (u : Turns). u.broke_off) (cond-false (is_client_bytes c x) (on_bytes site t (bytes_heard c x)) (cond (is_client_eof c x) (by_end t) (by_start site c t x (child_started c x))) other)
      ∙ calm_if (is_client_eof c x) (by_end t) (by_start site c t x (child_started c x)) calm (calm_start t x (child_started c x) calm)

  -- ---- one more item

  seen_by : (x : Item) (b broke : Bool) → is_client_bytes c x ≡ b → (b ≡ false → broke ≡ false) → IsSeen c x (as_seen c broke x)
  seen_by x true true bytes calm = inr (bytes, refl)
  seen_by x true false bytes calm = inl refl
  seen_by x false true bytes calm = absurd (let e = calm refl in cc)
  seen_by x false false bytes calm = inl refl

  seen_more : (xs ys : List Item) (x y : Item) → AreSeen c xs ys → IsSeen c x y → AreSeen c (xs ++ x ∷ []) (ys ++ y ∷ [])
  seen_more [] [] x y all one = (one, tt)
  seen_more [] (z ∷ ys) x y all one = absurd all
  seen_more (z ∷ xs) [] x y all one = absurd all
  seen_more (w ∷ xs) (z ∷ ys) x y all one = (all.0, seen_more xs ys x y all.1 one)

  seen_next : (done : List Item) (t : Turns) (x : Item) → AreSeen c done t.seen → AreSeen c (done ++ x ∷ []) (next_turns site c t x).seen
  seen_next done t x all =
      let fresh : Turns = record t { broke_off = false } in
      seen_more done t.seen x (as_seen c (by_item site c fresh x).broke_off x) all
      (seen_by x (is_client_bytes c x) (by_item site c fresh x).broke_off refl (λ other. calm_item fresh x refl other))

  seen_all : (done L : List Item) (t : Turns) → AreSeen c done t.seen → AreSeen c (done ++ L) (fold (next_turns site c) t L).seen
  seen_all done [] t all = subst (λ M. AreSeen c M t.seen) (sym (append-nil done)) all
  seen_all done (x ∷ L) t all =
      subst (λ M. AreSeen c M (fold (next_turns site c) (next_turns site c t x) L).seen) (append_assoc done (x ∷ []) L)
      (seen_all (done ++ x ∷ []) L (next_turns site c t x) (seen_next done t x all))

pub seen_are_items : SeenAreItems
seen_are_items site c L = seen_all site c [] L no_turns tt
