-- Behind the end of an output no byte of it is heard.
use Rattle.std.proofs.Common.{◌≡◌, ℕ, Bool, true, false, List, [], ◌∷◌, ◌++◌, refl, sym, ap, ◌∙◌, subst, append-nil, append_assoc}
use Rattle.std.specs.Prelude.{◌&&◌, ◌==◌, if◌then◌else◌, not}
use Rattle.std.specs.List.{AllByRecursion}
use Rattle.std.proofs.lemmas.Bool.{and_parts, eq-eqb, eqb-true, false≢true, or_left}
use Rattle.std.proofs.lemmas.Grind.{flat_map-append}
use Rattle.std.proofs.lemmas.List.{map-append}
use Rattle.host_base.specs.declared.site.Site.{Site}
use Rattle.host_trace.specs.declared.items.Act.{Act}
use Rattle.host_trace.specs.declared.items.Event.{Event}
use Rattle.host_trace.specs.declared.items.Event.TheVariants.{ChildBytes, ChildEof}
use Rattle.host_trace.specs.declared.items.Item.{Item}
use Rattle.host_trace.specs.declared.items.Item.TheVariants.{In, Out}
use Rattle.host_trace.specs.Fits.{fits, is_output_asked, is_piece}
use Rattle.host_trace.specs.Kinds.{is_output_end, output_heard}
use Rattle.host_trace.specs.Projections.{child_out, child_wanted, output_ended, started}
use Rattle.host_trace.specs.Trace.{after_step, steps_from}
use Rattle.trace_laws.specs.Promised.{HasFitting, Promised}
use Rattle.trace_laws.proofs.ListLaws.{any-left, any-right}
use Rattle.promise_laws.proofs.RunLaws.{un_not}

-- ---- each event fits what stands before it

first_fits : (site : Site) (before : List Item) (event : Event) (acts : List Act) (L : List Item) → AllByRecursion (HasFitting site) (steps_from before event acts L)
    → fits site.limits.children before event ≡ true
first_fits site before event acts [] all = all.0
first_fits site before event acts (In e ∷ L) all = all.0
first_fits site before event acts (Out a ∷ L) all = first_fits site before event (acts ++ a ∷ []) L all

head_event : (e event : Event) (L later : List Item) → In e ∷ L ≡ In event ∷ later → e ≡ event
head_event e event L later is = cc

tail_is : (x y : Item) (L later : List Item) → x ∷ L ≡ y ∷ later → L ≡ later
tail_is x y L later is = cc

head_is : (x y : Item) (L later : List Item) → x ∷ L ≡ y ∷ later → x ≡ y
head_is x y L later is = cc

act_more : (before : List Item) (event : Event) (acts : List Act) (a : Act) (rest : List Item) →
    after_step before event (acts ++ a ∷ []) ++ rest ≡ after_step before event acts ++ Out a ∷ rest
act_more before event acts a rest = simp (map-append, append_assoc)

fits_from : (site : Site) (before : List Item) (event : Event) (acts : List Act) (L p : List Item) (next : Event) (q : List Item)
    → AllByRecursion (HasFitting site) (steps_from before event acts L) → L ≡ p ++ In next ∷ q → fits site.limits.children (after_step before event acts ++ p) next ≡ true
fits_from site before event acts [] [] next q all is = absurd (cc)
fits_from site before event acts [] (x ∷ p) next q all is = absurd (cc)
fits_from site before event acts (In e ∷ L) [] next q all is =
    subst (λ (n : Event). fits site.limits.children (after_step before event acts ++ []) n ≡ true) (head_event e next L q is)
    (subst (λ (l : List Item). fits site.limits.children l e ≡ true) (sym (append-nil (after_step before event acts))) (first_fits site (after_step before event acts) e [] L all.1))
fits_from site before event acts (In e ∷ L) (x ∷ p) next q all is =
    subst (λ (l : List Item). fits site.limits.children l next ≡ true)
    (append_assoc (after_step before event acts) (In e ∷ []) p ∙ ap (λ (y : Item). after_step before event acts ++ y ∷ p) (head_is (In e) x L (p ++ In next ∷ q) is))
    (fits_from site (after_step before event acts) e [] L p next q all.1 (tail_is (In e) x L (p ++ In next ∷ q) is))
fits_from site before event acts (Out a ∷ L) [] next q all is = absurd (cc)
fits_from site before event acts (Out a ∷ L) (x ∷ p) next q all is =
    subst (λ (l : List Item). fits site.limits.children l next ≡ true)
    (act_more before event acts a p ∙ ap (λ (y : Item). after_step before event acts ++ y ∷ p) (head_is (Out a) x L (p ++ In next ∷ q) is))
    (fits_from site before event (acts ++ a ∷ []) L p next q all (tail_is (Out a) x L (p ++ In next ∷ q) is))

pub event_fits : (site : Site) (T p : List Item) (next : Event) (q : List Item) → Promised site T → T ≡ p ++ In next ∷ q → fits site.limits.children p next ≡ true
event_fits site [] [] next q f is = absurd (cc)
event_fits site [] (x ∷ p) next q f is = absurd (cc)
event_fits site (Out a ∷ T) p next q f is = absurd (false≢true f.good.begun)
event_fits site (In e ∷ T) [] next q f is =
    subst (λ (n : Event). fits site.limits.children [] n ≡ true) (head_event e next T q is) (first_fits site [] e [] T f.fit)
event_fits site (In e ∷ T) (x ∷ p) next q f is =
    subst (λ (y : Item). fits site.limits.children (y ∷ p) next ≡ true) (head_is (In e) x T (p ++ In next ∷ q) is)
    (fits_from site [] e [] T p next q f.fit (tail_is (In e) x T (p ++ In next ∷ q) is))

-- ---- so no byte is heard of an output that has ended

none_heard : (site : Site) (T p q : List Item) (k : ℕ) → Promised site T → T ≡ p ++ q → output_ended p k ≡ true → child_out q k ≡ []
none_heard site T p [] k f is over = refl
none_heard site T p (In (ChildBytes d bytes) ∷ q) k f is over =
    go
    (none_heard site T (p ++ In (ChildBytes d bytes) ∷ []) q k f (is ∙ sym (append_assoc p (In (ChildBytes d bytes) ∷ []) q)) (any-left (is_output_end k) p (In (ChildBytes d bytes) ∷ []) over))
    (k == d) refl
  where
    asked : is_output_asked p d ≡ true
    asked = (and_parts (is_output_asked p d) (is_piece bytes) (event_fits site T p (ChildBytes d bytes) q f is)).0

    open_then : output_ended p d ≡ false
    open_then = un_not (output_ended p d) (and_parts (started p d) (not (output_ended p d)) (and_parts (started p d && not (output_ended p d)) (child_wanted p d) asked).0).1

    go : child_out q k ≡ [] → (b : Bool) → (k == d) ≡ b → (if b then bytes else []) ++ child_out q k ≡ []
    go rest true same = absurd (false≢true (sym open_then ∙ (ap (output_ended p) (sym (eqb-true k d same)) ∙ over)))
    go rest false other = rest
none_heard site T p (x ∷ q) k f is over =
    none_heard site T (p ++ x ∷ []) q k f (is ∙ sym (append_assoc p (x ∷ []) q)) (any-left (is_output_end k) p (x ∷ []) over)

pub whole_outputs : (site : Site) (T before : List Item) (k : ℕ) (later : List Item) → Promised site T → T ≡ before ++ In (ChildEof k) ∷ later → child_out T k ≡ child_out before k
whole_outputs site T before k later f is =
    let over : output_ended (before ++ In (ChildEof k) ∷ []) k ≡ true =
    any-right (is_output_end k) before (In (ChildEof k) ∷ []) (or_left (is_output_end k (In (ChildEof k))) false (or_left _ _ (or_left _ _ (eq-eqb k k refl)))) in
    let none : child_out later k ≡ [] =
    none_heard site T (before ++ In (ChildEof k) ∷ []) later k f (is ∙ sym (append_assoc before (In (ChildEof k) ∷ []) later)) over in
    ap (λ (l : List Item). child_out l k) is
    ∙ (flat_map-append (output_heard k) before (In (ChildEof k) ∷ later)
    ∙ (ap (λ (l : List ℕ). child_out before k ++ l) none ∙ append-nil (child_out before k)))
