-- What is known of the legs, with one item more.
use Rattle.std.proofs.Common.{◌≡◌, ◌≤◌, ℕ, zero, suc, ◌-◌, Bool, true, false, List, [], ◌∷◌, ◌++◌, refl, sym, ap, subst, ◌∙◌, append-nil, append_assoc, arith, length, length-append, inl, inr}
use Rattle.std.specs.Prelude.{not, ◌&&◌, ◌||◌, ◌==◌, is_some}
use Rattle.std.specs.List.{list_any, AllByRecursion}
use Rattle.std.proofs.lemmas.Bool.{cases_Bool, false≢true, and_parts, eqb-true, or_from}
use Rattle.host_base.specs.declared.site.Site.{Site}
use Rattle.host_trace.specs.declared.items.Event.{Event}
use Rattle.host_trace.specs.declared.items.Event.TheVariants.{Started, StartFailed, StartFull, ChildBytes, ChildEof, ChildBroken, Took, InputGone, Exited}
use Rattle.host_trace.specs.declared.items.Item.{Item}
use Rattle.host_trace.specs.declared.items.Item.TheVariants.{In}
use Rattle.host_trace.specs.Fits.{fits}
use Rattle.host_trace.specs.Kinds.{names_child, child_started, is_start, is_started, is_exited, is_input_end, is_output_end}
use Rattle.host_trace.specs.Account.{is_refusal}
use Rattle.host_trace.specs.Projections.{children, start_stands, started}
use Rattle.host_trace.proofs.FirstLaws.{list_any-push}
use Rattle.host_trace.proofs.ProjectionLaws.{children-push}
use Rattle.own_traces.specs.OwnFits.{fits_own}
use Rattle.own_traces.specs.Whose.{has}
use Rattle.trace_child.specs.Words.{is_filled}
use Rattle.child_core.specs.View.{View, Note, noted}
use Rattle.child_core.specs.Calls.{fits_run, is_settled}
use Rattle.child_core.specs.Setting.{Setting}
use Rattle.child_core.specs.Knows.{KnowsRun, Admits}
use Rattle.child_core.proofs.WordLaws.{none, start_names, started_names}
use Rattle.child_core.proofs.KnowsLaws.{Knows-noted}
use Rattle.child_core.proofs.BehindLaws.{fits-behind}
use Rattle.trace_model.specs.Exchange.{Exchange, pushed, all_of, has_start}
use Rattle.trace_model.specs.Legs.{Leg, offered_at}
use Rattle.trace_model.specs.Exchange.{up_to}
use Rattle.child_laws.specs.Setting.{setting}
use Rattle.child_laws.specs.Legs.{children_of_legs, ByHop}
use Rattle.child_laws.specs.Children.{KnowsLeg, SettledLeg, HeldAs, KnowsLast}
use Rattle.child_laws.proofs.LegLaws.{led_on, by_hop_on, by_hop_last}
use Rattle.child_laws.proofs.SpentLaws.{spent_noted}

-- ---- lists

pub all_map : {X : Type 0} (P Q : X → Type 0) (xs : List X) → ((x : X) → P x → Q x) → AllByRecursion P xs → AllByRecursion Q xs
all_map P Q [] f a = tt
all_map P Q (x ∷ xs) f a = (f x a.0, all_map P Q xs f a.1)

pub all_and : {X : Type 0} (P : X → Type 0) (xs ys : List X) → AllByRecursion P xs → AllByRecursion P ys → AllByRecursion P (xs ++ ys)
all_and P [] ys a b = b
all_and P (x ∷ xs) ys a b = (a.0, all_and P xs ys a.1 b)

-- ---- what an event that fits names

module _ (k : ℕ) (T : List Item) (unnamed : list_any (names_child k) T ≡ false) where
  unstarted : start_stands T k ≡ false
  unstarted = none (is_start k) k T (start_names k) unnamed

  idle : started T k ≡ false
  idle = none (is_started k) k T (started_names k) unnamed

  another : (P : ℕ → Bool) (d : ℕ) → P k ≡ false → P d ≡ true → (k == d) ≡ false
  another P d e is = elim (cases_Bool (k == d)) [
    | inl same ↦ absurd (false≢true (sym e ∙ (ap P (eqb-true k d same) ∙ is)))
    | inr other ↦ other
  ]

  pub fits_unnamed : (limit : ℕ) (ev : Event) → fits_own limit T ev ≡ true → names_child k (In ev) ≡ false
  fits_unnamed limit (Started d) f = another (start_stands T) d unstarted (and_parts (start_stands T d) _ f).0
  fits_unnamed limit (StartFailed d) f = another (start_stands T) d unstarted (and_parts (start_stands T d) _ f).0
  fits_unnamed limit (StartFull d seen) f = another (start_stands T) d unstarted (and_parts (start_stands T d) _ (and_parts _ (seen == limit) f).0).0
  fits_unnamed limit (ChildBytes d bytes) f = another (started T) d idle (and_parts (started T d) _ (and_parts (started T d && _) _ (and_parts _ _ f).0).0).0
  fits_unnamed limit (ChildEof d) f = another (started T) d idle (and_parts (started T d) _ (and_parts (started T d && _) _ f).0).0
  fits_unnamed limit (ChildBroken d) f = another (started T) d idle (and_parts (started T d) _ (and_parts (started T d && _) _ f).0).0
  fits_unnamed limit (Took d n) f = another (started T) d idle (and_parts (started T d) _ (and_parts (started T d && _) _ f).0).0
  fits_unnamed limit (InputGone d) f = another (started T) d idle (and_parts (started T d) _ f).0
  fits_unnamed limit (Exited d) f = another (started T) d idle (and_parts (started T d) _ f).0
  fits_unnamed limit ev f = refl

own_is : (limit k : ℕ) (T : List Item) (ev : Event) → names_child k (In ev) ≡ true → fits_own limit T ev ≡ fits limit T ev
own_is limit k T (Started d) e = refl
own_is limit k T (StartFailed d) e = refl
own_is limit k T (StartFull d seen) e = refl
own_is limit k T (ChildBytes d bytes) e = refl
own_is limit k T (ChildEof d) e = refl
own_is limit k T (ChildBroken d) e = refl
own_is limit k T (Took d n) e = refl
own_is limit k T (InputGone d) e = refl
own_is limit k T (Exited d) e = refl
own_is limit k T ev e = absurd (false≢true e)

pub fits_it : (early : Bool) (s : Setting) (v : View) (before L : List Item) (ev : Event) → list_any (names_child v.number) before ≡ false → KnowsRun early s v L
    → fits_own s.limits.children (before ++ L) ev ≡ true → fits_run v ev ≡ true
fits_it early s v before L ev unnamed k f = elim (cases_Bool (names_child v.number (In ev))) [
  | inl named ↦ fits-behind early s v before L unnamed k ev named ∙ (sym (own_is s.limits.children v.number (before ++ L) ev named) ∙ f)
  | inr other ↦ rw other refl
]

-- no item names a child of such a number
pub unnamed_push : (k : ℕ) (e : Exchange) (x : Item) → names_child k x ≡ false → list_any (names_child k) (all_of e) ≡ false → list_any (names_child k) (all_of (pushed e x)) ≡ false
unnamed_push k e x other none =
    ap (list_any (names_child k)) (sym (append_assoc e.before e.items (x ∷ [])))
    ∙ (list_any-push (names_child k) (all_of e) x ∙ or_from _ _ none other)

-- ---- a leg

pub offered_same : (site : Site) (c : ℕ) (e : Exchange) (hop : ℕ) (L : List Item) → offered_at site c (up_to e []) hop L ≡ offered_at site c e hop L
offered_same site c e zero L = refl
offered_same site c e (suc hop) L = refl

pub leg_noted : (site : Site) (c : ℕ) (e : Exchange) (early : Bool) (leg : Leg) (v : View) (n : Note) (x : Item) → Admits early (setting site c e leg.hop) v e.items n x
    → KnowsLeg site c e early leg v → KnowsLeg site c (pushed e x) early leg (noted c v n x)
leg_noted site c e early leg v n x admits k = record {
  is = record { number = k.is.number; kind = k.is.kind };
  plain = k.plain;
  knows = Knows-noted early (setting site c e leg.hop) v e.items n x k.knows admits;
  spent = spent_noted c v n x k.spent;
  unnamed = k.unnamed;
}

settles : (r x i o r' x' i' o' : Bool) → (r || x && i && o) ≡ true → ((r' || r) || (x' || x) && (i' || i) && (o' || o)) ≡ true
settles r x i o true x' i' o' e = refl
settles true x i o false x' i' o' e = refl
settles false true true true false x' i' o' e = go x' i' o'
  where
    go : (a b d : Bool) → ((a || true) && (b || true) && (d || true)) ≡ true
    go true true true = refl
    go true true false = refl
    go true false true = refl
    go true false false = refl
    go false true true = refl
    go false true false = refl
    go false false true = refl
    go false false false = refl
settles false false i o false x' i' o' e = absurd (false≢true e)
settles false true false o false x' i' o' e = absurd (false≢true e)
settles false true true false false x' i' o' e = absurd (false≢true e)

pub settled_noted : (c : ℕ) (v : View) (n : Note) (x : Item) → is_settled v ≡ true → is_settled (noted c v n x) ≡ true
settled_noted c v n x e =
    settles v.refused v.exited v.input_ended v.output_ended (is_refusal v.number x) (is_exited v.number x) (is_input_end v.number x) (is_output_end v.number x) e

pub settled_leg : (More Then : View → Type 0) (site : Site) (c : ℕ) (e : Exchange) (leg : Leg) (n : Note) (x : Item) (s : SettledLeg More site c e leg)
    → Admits false (setting site c e leg.hop) s.view e.items n x → Then (noted c s.view n x) → SettledLeg Then site c (pushed e x) leg
settled_leg More Then site c e leg n x s admits more = record {
  view = noted c s.view n x;
  known = leg_noted site c e false leg s.view n x admits s.known;
  settled = settled_noted c s.view n x s.settled;
  more = more;
}

-- ---- all legs

filled_last : (older : List Leg) (leg : Leg) → is_filled (children_of_legs (older ++ leg ∷ [])) ≡ true
filled_last [] leg = refl
filled_last (first ∷ older) leg = refl

module _ (More : View → Type 0) (site : Site) (c : ℕ) (e : Exchange) (early : Bool) (ls : List Leg) (held : View) (k : KnowsLast More site c e early ls held) where
  pub begun : has_start c e ≡ true
  begun = ap is_filled k.started ∙ (ap (λ l. is_filled (children_of_legs l)) k.are ∙ filled_last k.older k.leg)

  pub hops_are : ByHop c e 0 (k.older ++ k.leg ∷ [])
  hops_are = subst (ByHop c e 0) k.are k.hops

  pub hop_of_last : k.leg.hop ≡ length k.older
  hop_of_last = let h = by_hop_last c e 0 k.older k.leg hops_are in omega (arith, h)

  pub last_is : length ls - 1 ≡ k.leg.hop
  last_is = let n = ap length k.are ∙ length-append k.older (k.leg ∷ []) in let h = hop_of_last in omega (arith, n, h)

  -- an item that starts no child of the connection
  pub last_push : (Then : View → Type 0) (x : Item) (later : Bool) (view then_held : View) → 2 ≤ site.limits.head → child_started c x ≡ [] → view.number ≡ k.view.number
      → HeldAs later then_held view → KnowsLeg site c (pushed e x) (later && not (is_some view.outcome)) k.leg view
      → AllByRecursion (SettledLeg Then site c (pushed e x)) k.older → KnowsLast Then site c (pushed e x) later ls then_held
  last_push Then x later view then_held two none same held_as known settled = record {
    older = k.older;
    leg = k.leg;
    are = k.are;
    started = children-push e.items x c ∙ (ap (λ l. children e.items c ++ l) none ∙ (append-nil _ ∙ k.started));
    hops = by_hop_on c e x 0 ls none k.hops;
    view = view;
    held_as = held_as;
    known = known;
    apart = ap (has (children_of_legs k.older)) same ∙ k.apart;
    settled = settled;
    led = led_on site c e x k.older k.leg two begun k.led;
  }
