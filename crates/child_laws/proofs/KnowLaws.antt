-- Where nothing is started yet, and what is known tells.
use Rattle.std.proofs.Common.{◌≡◌, ◌≤◌, ℕ, Bool, true, false, List, [], ◌∷◌, ◌++◌, Option, Some, None, refl, sym, ap, subst, ◌∙◌, append-nil, append_assoc, map, arith, length}
use Rattle.std.specs.Prelude.{not, ◌&&◌, is_some, option_map}
use Rattle.std.specs.List.{list_any, AllByRecursion}
use Rattle.std.proofs.lemmas.Bool.{or_from}
use Rattle.host_base.specs.declared.site.Site.{Site}
use Rattle.host_trace.specs.declared.items.Act.{Act}
use Rattle.host_trace.specs.declared.items.Item.TheVariants.{Out}
use Rattle.host_trace.specs.Account.{has_unsettled, settled}
use Rattle.host_trace.specs.Kinds.{names_child}
use Rattle.trace_child.specs.ChildDemands.{is_all_taken}
use Rattle.trace_child.specs.Decided.{outcome_of}
use Rattle.child_core.specs.Knows.{read}
use Rattle.child_core.specs.View.{View}
use Rattle.child_core.specs.Calls.{is_settled, wants_more}
use Rattle.child_core.specs.Due.{Due, Path, acted, acting, after, given}
use Rattle.child_core.proofs.MemoryLaws.{acting-due}
use Rattle.child_core.proofs.TellLaws.{settled_is, wants_are}
use Rattle.trace_model.specs.Answer.{legs}
use Rattle.trace_model.specs.Exchange.{Exchange, first_exchange, pushed, all_of}
use Rattle.trace_model.specs.Exchanges.{ends_by, following, has_ended}
use Rattle.trace_model.specs.Standing.{stands_whole}
use Rattle.trace_model.specs.Legs.{Leg, offered_at, run_of}
use Rattle.conn_laws.specs.Ends.{has_unsettled_of, IsLastChild}
use Rattle.conn_laws.proofs.EndLaws.{last_decides}
use Rattle.child_laws.specs.Setting.{setting}
use Rattle.child_laws.specs.Legs.{children_of_legs, SameRuns}
use Rattle.child_laws.specs.Children.{IsSpent, SettledLeg, HeldAs, KnowsLast, KnowsRuns, KnowsChildren, NoMore, is_over}
use Rattle.child_laws.specs.Laws.{TellsLast, with_acts}
use Rattle.child_laws.proofs.SettingLaws.{setting_is}
use Rattle.child_laws.proofs.LegLaws.{children-last}
use Rattle.child_laws.proofs.WalkLaws.{no_legs, legs_same}
use Rattle.child_laws.proofs.ItemLaws.{hops_are, hop_of_last, offered_same}
use Rattle.child_laws.proofs.RunActLaws.{last_given, unsettled, fresh_given}
use Rattle.child_laws.proofs.StartLaws.{no_hops}

pub none_started : (site : Site) (c next : ℕ) → KnowsChildren site c first_exchange false next [] None
none_started site c next = record { fresh = λ k le. refl; runs = (refl, refl) }

pub exchanges_follow : (site : Site) (c : ℕ) (e : Exchange) (early later : Bool) (next : ℕ) (ls : List Leg) (run : Option View)
    → KnowsChildren site c e early next ls run → KnowsChildren site c (following site c e) later next [] None
exchanges_follow site c e early later next ls run k = record { fresh = λ j le. ap (list_any (names_child j)) (append-nil (all_of e)) ∙ k.fresh j le; runs = (refl, refl) }

pub numbers_rise : (site : Site) (c : ℕ) (e : Exchange) (early : Bool) (next more : ℕ) (ls : List Leg) (run : Option View) → next ≤ more
    → KnowsChildren site c e early next ls run → KnowsChildren site c e early more ls run
numbers_rise site c e early next more ls run le k = record { fresh = λ j later. k.fresh j (omega (arith, le, later)); runs = k.runs }

-- ---- the children

module _ (More : View → Type 0) (site : Site) (c : ℕ) (e : Exchange) where
  settled_all : (ls : List Leg) → AllByRecursion (SettledLeg More site c e) ls → has_unsettled_of e.items (children_of_legs ls) ≡ false
  settled_all [] a = refl
  settled_all (leg ∷ ls) a =
      let s = a.0 in
      let is : settled e.items leg.child ≡ true =
      ap (settled e.items) (sym s.known.is.number) ∙ (sym (settled_is false (setting site c e leg.hop) s.view e.items s.known.knows) ∙ s.settled) in
      or_from (not (settled e.items leg.child)) _ (ap not is) (settled_all ls a.1)

  module _ (early : Bool) (ls : List Leg) (held : View) (k : KnowsLast More site c e early ls held) where
    pub is_last : IsLastChild c e.items (children_of_legs k.older) k.leg.child
    is_last = record {
      are = k.started ∙ (ap children_of_legs k.are ∙ children-last k.older k.leg);
      settled_then = settled_all k.older k.settled;
    }

    held_settled : is_settled held ≡ is_settled k.view
    held_settled = go early k.held_as
      where
        go : (early : Bool) → HeldAs early held k.view → is_settled held ≡ is_settled k.view
        go false is = ap is_settled is
        go true is = ap is_settled is

    pub last_settled : is_settled held ≡ settled e.items k.leg.child
    last_settled =
        held_settled
        ∙ (settled_is (early && not (is_some k.view.outcome)) (setting site c e k.leg.hop) k.view e.items k.known.knows ∙ ap (settled e.items) k.known.is.number)

  pub unsettled_is : (early : Bool) (ls : List Leg) (run : Option View) → KnowsRuns More site c e early ls run → has_unsettled e.items c ≡ not (is_over run)
  unsettled_is early ls None k = ap (has_unsettled_of e.items) k.1
  unsettled_is early ls (Some held) k =
      last_decides c e.items (children_of_legs k.older) k.leg.child (is_last early ls held k) ∙ ap not (sym (last_settled early ls held k))

  pub legs_known : (early : Bool) (ls : List Leg) (run : Option View) → KnowsRuns More site c e early ls run → SameRuns ls (legs site c e)
  legs_known early ls None k =
      subst (λ l. SameRuns l (legs site c e)) (sym k.0) (subst (SameRuns []) (sym (no_legs site c e (no_hops c e.number 0 e.items k.1))) tt)
  legs_known early ls (Some held) k =
      subst (λ l. SameRuns l (legs site c e)) (sym k.are) (legs_same site c e k.older k.leg k.led (hops_are More site c e early ls held k))

-- ---- the laws

pub unsettled_exact : (site : Site) (c : ℕ) (e : Exchange) (early : Bool) (next : ℕ) (ls : List Leg) (run : Option View)
    → KnowsChildren site c e early next ls run → has_unsettled e.items c ≡ not (is_over run)
unsettled_exact site c e early next ls run k = unsettled_is NoMore site c e early ls run k.runs

pub ends_exact : (site : Site) (c : ℕ) (e : Exchange) (early : Bool) (next : ℕ) (ls : List Leg) (run : Option View)
    → KnowsChildren site c e early next ls run → has_ended site c e ≡ (is_over run && stands_whole site c e)
ends_exact site c e early next ls run k = ap (ends_by site c e) (unsettled_exact site c e early next ls run k) ∙ by_over (is_over run)
  where
    by_over : (b : Bool) → ends_by site c e (not b) ≡ (b && stands_whole site c e)
    by_over true = refl
    by_over false = refl

pub legs_are_known : (site : Site) (c : ℕ) (e : Exchange) (early : Bool) (next : ℕ) (ls : List Leg) (run : Option View)
    → KnowsChildren site c e early next ls run → SameRuns ls (legs site c e)
legs_are_known site c e early next ls run k = legs_known NoMore site c e early ls run k.runs

pub run_acts_known : (site : Site) (c : ℕ) (e : Exchange) (early may : Bool) (next : ℕ) (ls : List Leg) (held : View) (act : Act) → 2 ≤ site.limits.head
    → Due may held act → KnowsChildren site c e early next ls (Some held)
    → KnowsChildren site c (pushed e (Out act)) early next ls (Some (given held act)) × (has_unsettled e.items c ≡ true)
run_acts_known site c e early may next ls held act two due k = (
  record {
    fresh = fresh_given NoMore site c e early may ls held act due k.runs next k.fresh;
    runs = last_given NoMore site c e early may ls held act due k.runs NoMore two (λ v other settled more. tt);
  },
  unsettled_is NoMore site c e early ls (Some held) k.runs ∙ ap not (unsettled NoMore site c e early may ls held act due k.runs),
)

serve_path : (site : Site) (c : ℕ) (early may : Bool) (next : ℕ) (ls : List Leg) → 2 ≤ site.limits.head → (more : List Act) (e : Exchange) (held : View) → Path may held more
    → KnowsChildren site c e early next ls (Some held) → KnowsChildren site c (with_acts e more) early next ls (Some (after held more))
serve_path site c early may next ls two [] e held path k = subst (λ l. KnowsChildren site c (record e { items = l }) early next ls (Some held)) (sym (append-nil e.items)) k
serve_path site c early may next ls two (a ∷ more) e held path k =
    let one = run_acts_known site c e early may next ls held a two path.0 k in
    subst (λ l. KnowsChildren site c (record e { items = l }) early next ls (Some (after (given held a) more))) (append_assoc e.items (Out a ∷ []) (map Out more))
    (serve_path site c early may next ls two more (pushed e (Out a)) (given held a) path.1 one.0)

pub serves_known : (site : Site) (c : ℕ) (e : Exchange) (early may : Bool) (next : ℕ) (ls : List Leg) (held : View) → 2 ≤ site.limits.head
    → KnowsChildren site c e early next ls (Some held) → KnowsChildren site c (with_acts e (acting may held)) early next ls (Some (acted may held))
serves_known site c e early may next ls held two k =
    subst (λ v. KnowsChildren site c (with_acts e (acting may held)) early next ls (Some v)) (acting-due may held).after_is
    (serve_path site c early may next ls two (acting may held) e held (acting-due may held).path k)

-- of two lists with a last item each
last_one : (xs ys : List Leg) (a b : Leg) → xs ++ a ∷ [] ≡ ys ++ b ∷ [] → (xs ≡ ys) × (a ≡ b)
last_one [] [] a b e = (refl, cc)
last_one [] (x ∷ []) a b e = absurd (cc)
last_one [] (x ∷ y ∷ ys) a b e = absurd (cc)
last_one (x ∷ []) [] a b e = absurd (cc)
last_one (x ∷ y ∷ xs) [] a b e = absurd (cc)
last_one (x ∷ xs) (y ∷ ys) a b e =
    let rest : xs ++ a ∷ [] ≡ ys ++ b ∷ [] = cc in
    let r = last_one xs ys a b rest in
    let same : x ≡ y = cc in
    (ap (λ z. z ∷ xs) same ∙ ap (λ l. y ∷ l) r.0, r.1)

pub tells_last : (site : Site) (c : ℕ) (e : Exchange) (next : ℕ) (older : List Leg) (leg : Leg) (v : View)
    → KnowsChildren site c e false next (older ++ leg ∷ []) (Some v) → TellsLast site c e older leg v
tells_last site c e next older leg v k =
    let r = k.runs in
    let same = last_one older r.older leg r.leg r.are in
    tells r same.0 same.1
  where
    tells : (r : KnowsLast NoMore site c e false (older ++ leg ∷ []) v) → older ≡ r.older → leg ≡ r.leg → TellsLast site c e older leg v
    tells r o l = record {
      number = ap (λ (w : View). w.number) r.held_as ∙ (r.known.is.number ∙ sym (ap (λ (g : Leg). g.child) l));
      kind = ap (λ (w : View). w.kind) r.held_as ∙ (r.known.is.kind ∙ sym (ap (λ (g : Leg). g.kind) l));
      hop = ap (λ (g : Leg). g.hop) l ∙ (hop_of_last NoMore site c e false (older ++ leg ∷ []) v r ∙ ap length (sym o));
      last = subst (λ g. IsLastChild c e.items (children_of_legs older) g.child) (sym l)
          (subst (λ g. IsLastChild c e.items (children_of_legs g) r.leg.child) (sym o) (is_last NoMore site c e false (older ++ leg ∷ []) v r));
      outcome = ap (λ g. outcome_of (run_of site c e g) e.items) l
          ∙ (ap (λ run. outcome_of run e.items) (sym (setting_is site c e r.leg r.view r.known.is))
          ∙ (r.known.knows.outcome ∙ ap (λ (w : View). option_map read w.outcome) (sym r.held_as)));
      taken = ap wants_more r.held_as
          ∙ ((wants_are false (setting site c e r.leg.hop) r.view e.items r.known.knows).body r.known.plain
          ∙ ap (is_all_taken e.items) (r.known.is.number ∙ sym (ap (λ (g : Leg). g.child) l)));
      settled = last_settled NoMore site c e false (older ++ leg ∷ []) v r ∙ ap (λ (g : Leg). settled e.items g.child) (sym l);
      whole = λ u. ap (λ (w : View). w.whole) r.held_as
          ∙ (r.known.knows.whole (subst (λ w. is_some w.outcome ≡ false) r.held_as u) r.known.plain
          ∙ (ap (λ o. o.whole) (offered_same site c e r.leg.hop e.items) ∙ ap (λ (g : Leg). (offered_at site c e g.hop e.items).whole) (sym l)));
      spent = subst IsSpent (sym r.held_as) r.known.spent;
    }
