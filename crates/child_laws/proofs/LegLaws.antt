-- The legs of an exchange with one item more.
use Rattle.std.proofs.Common.{◌≡◌, ◌≤◌, ℕ, suc, ◌+◌, Bool, true, false, List, [], ◌∷◌, ◌++◌, refl, ap, ◌∙◌, append-nil, arith, length}
use Rattle.std.specs.Prelude.{if◌then◌else◌, ◌&&◌, ◌==◌}
use Rattle.std.proofs.lemmas.Bool.{eq-eqb, ne_eqb, and_from}
use Rattle.host_base.specs.declared.launch.Launch.{Launch}
use Rattle.host_base.specs.declared.request.Request.{Request}
use Rattle.host_base.specs.declared.site.Site.{Site}
use Rattle.host_trace.specs.declared.items.Act.TheVariants.{Start}
use Rattle.host_trace.specs.declared.items.Item.{Item}
use Rattle.host_trace.specs.declared.items.Item.TheVariants.{Out}
use Rattle.host_trace.specs.Kinds.{child_of, child_started}
use Rattle.host_trace.specs.Projections.{children_of}
use Rattle.host_trace.proofs.FirstLaws.{flat_map-push}
use Rattle.request_reader.specs.Request.{with_body}
use Rattle.trace_model.specs.Exchange.{Exchange, pushed, has_start}
use Rattle.trace_model.specs.Legs.{Leg}
use Rattle.trace_model.specs.Places.{place_of}
use Rattle.trace_model.proofs.AnswerLaws.{unbroken-push}
use Rattle.conn_laws.specs.Hops.{IsStarted, SameLegs, StillReaches}
use Rattle.conn_laws.proofs.HopLaws.{reaches_still}
use Rattle.child_laws.specs.Legs.{children_of_legs, ByHop, SameRun, SameRuns, Led}

-- ---- legs that differ in their requests alone

pub same_trans : (a b d : Leg) → SameRun a b → SameRun b d → SameRun a d
same_trans a b d p q = record { child = q.child ∙ p.child; hop = q.hop ∙ p.hop; kind = q.kind ∙ p.kind }

pub all_trans : (xs ys zs : List Leg) → SameRuns xs ys → SameRuns ys zs → SameRuns xs zs
all_trans [] [] [] p q = tt
all_trans [] [] (d ∷ zs) p q = absurd q
all_trans [] (b ∷ ys) zs p q = absurd p
all_trans (a ∷ xs) [] zs p q = absurd p
all_trans (a ∷ xs) (b ∷ ys) [] p q = absurd q
all_trans (a ∷ xs) (b ∷ ys) (d ∷ zs) p q = (same_trans a b d p.0 q.0, all_trans xs ys zs p.1 q.1)

pub only_bodies : (xs ys : List Leg) → SameLegs xs ys → SameRuns xs ys
only_bodies [] [] s = tt
only_bodies [] (b ∷ ys) s = absurd s
only_bodies (a ∷ xs) [] s = absurd s
only_bodies (a ∷ xs) (b ∷ ys) s =
    (record { child = ap (λ (l : Leg). l.child) s.0; hop = ap (λ (l : Leg). l.hop) s.0; kind = ap (λ (l : Leg). l.kind) s.0 }, only_bodies xs ys s.1)

pub and_last : (xs ys : List Leg) (a b : Leg) → SameRuns xs ys → SameRun a b → SameRuns (xs ++ a ∷ []) (ys ++ b ∷ [])
and_last [] [] a b s l = (l, tt)
and_last [] (d ∷ ys) a b s l = absurd s
and_last (d ∷ xs) [] a b s l = absurd s
and_last (x ∷ xs) (y ∷ ys) a b s l = (s.0, and_last xs ys a b s.1 l)

pub same_length : (xs ys : List Leg) → SameRuns xs ys → length ys ≡ length xs
same_length [] [] s = refl
same_length [] (b ∷ ys) s = absurd s
same_length (a ∷ xs) [] s = absurd s
same_length (a ∷ xs) (b ∷ ys) s = ap suc (same_length xs ys s.1)

pub children-last : (legs : List Leg) (leg : Leg) → children_of_legs (legs ++ leg ∷ []) ≡ children_of_legs legs ++ leg.child ∷ []
children-last [] leg = refl
children-last (first ∷ legs) leg = ap (λ ks. first.child ∷ ks) (children-last legs leg)

-- ---- the walk

pub started_on : (site : Site) (c : ℕ) (e : Exchange) (x : Item) (hop : ℕ) (request later : Request) (leg : Leg) → later ≡ with_body request later.body
    → IsStarted site c e hop request leg → IsStarted site c (pushed e x) hop later (record leg { request = later })
started_on site c e x hop request later leg body s = record {
  mapped = s.mapped;
  place = ap (place_of site) body ∙ s.place;
  kind = s.kind;
  plain = s.plain;
  others = s.others ++ child_of c e.number hop x;
  child = flat_map-push (child_of c e.number hop) e.items x ∙ ap (λ l. l ++ child_of c e.number hop x) s.child;
  same = ap (λ (l : Leg). record l { request = later }) s.same;
}

pub led_on : (site : Site) (c : ℕ) (e : Exchange) (x : Item) (older : List Leg) (leg : Leg) → 2 ≤ site.limits.head → has_start c e ≡ true
    → Led site c e older leg → Led site c (pushed e x) older leg
led_on site c e x older leg two begun l =
    let still : StillReaches site c (pushed e x) l.walked l.left l.hop l.request =
    reaches_still site c e x l.walked l.left l.hop l.request two (unbroken-push site c e x begun l.reaches.unbroken) l.reaches in
    record {
      walked = still.legs_then;
      left = l.left;
      hop = l.hop;
      request = still.request_then;
      last = record l.last { request = still.request_then };
      reaches = still.reaches;
      started = started_on site c e x l.hop l.request still.request_then l.last still.same_request l.started;
      same_older = all_trans older l.walked still.legs_then l.same_older (only_bodies l.walked still.legs_then still.same_legs);
      same_last = record { child = l.same_last.child; hop = l.same_last.hop; kind = l.same_last.kind };
    }

-- ---- the Starts

pub no_child : (c j hop : ℕ) (x : Item) → child_started c x ≡ [] → child_of c j hop x ≡ []
no_child c j hop (Out (Start k d i h launch)) none = go (c == d) (j == i) (hop == h) none
  where
    go : (mine same_exchange same_hop : Bool) → (if mine then k ∷ [] else []) ≡ [] → (if mine && same_exchange && same_hop then k ∷ [] else []) ≡ []
    go true a b e = absurd (cc)
    go false a b e = refl
no_child c j hop x none = refl

hop_same : (c : ℕ) (e : Exchange) (x : Item) (hop : ℕ) → child_of c e.number hop x ≡ [] → children_of (e.items ++ x ∷ []) c e.number hop ≡ children_of e.items c e.number hop
hop_same c e x hop none = flat_map-push (child_of c e.number hop) e.items x ∙ (ap (λ l. children_of e.items c e.number hop ++ l) none ∙ append-nil _)

pub by_hop_on : (c : ℕ) (e : Exchange) (x : Item) (hop : ℕ) (legs : List Leg) → child_started c x ≡ [] → ByHop c e hop legs → ByHop c (pushed e x) hop legs
by_hop_on c e x hop [] none b = λ later le. hop_same c e x later (no_child c e.number later x none) ∙ b later le
by_hop_on c e x hop (leg ∷ legs) none b =
    (b.0, hop_same c e x hop (no_child c e.number hop x none) ∙ b.1, by_hop_on c e x (suc hop) legs none b.2)

pub by_hop_later : (c : ℕ) (e : Exchange) (hop : ℕ) (legs : List Leg) (later : ℕ) → hop + length legs ≤ later → ByHop c e hop legs → children_of e.items c e.number later ≡ []
by_hop_later c e hop [] later le b = b later (omega (arith, le))
by_hop_later c e hop (leg ∷ legs) later le b = by_hop_later c e (suc hop) legs later (omega (arith, le)) b.2

pub by_hop_last : (c : ℕ) (e : Exchange) (hop : ℕ) (legs : List Leg) (leg : Leg) → ByHop c e hop (legs ++ leg ∷ []) → leg.hop ≡ hop + length legs
by_hop_last c e hop [] leg b = let h = b.0 in omega (arith, h)
by_hop_last c e hop (first ∷ legs) leg b = let h = by_hop_last c e (suc hop) legs leg b.2 in omega (arith, h)

started_here : (c j hop k : ℕ) (launch : Launch) → child_of c j hop (Out (Start k c j hop launch)) ≡ k ∷ []
started_here c j hop k launch = ap (λ (b : Bool). if b then k ∷ [] else []) (and_from _ _ (and_from _ _ (eq-eqb c c refl) (eq-eqb j j refl)) (eq-eqb hop hop refl))

started_elsewhere : (c j hop h k : ℕ) (launch : Launch) → (hop ≡ h → ⊥) → child_of c j hop (Out (Start k c j h launch)) ≡ []
started_elsewhere c j hop h k launch ne = ap (λ (b : Bool). if (c == c && j == j) && b then k ∷ [] else []) (ne_eqb hop h ne) ∙ go (c == c && j == j)
  where
    go : (b : Bool) → (if b && false then k ∷ [] else []) ≡ []
    go true = refl
    go false = refl

-- the Start of the next hop
pub by_hop_start : (c : ℕ) (e : Exchange) (launch : Launch) (hop : ℕ) (legs : List Leg) (leg : Leg) → leg.hop ≡ hop + length legs → ByHop c e hop legs
    → ByHop c (pushed e (Out (Start leg.child c e.number leg.hop launch))) hop (legs ++ leg ∷ [])
by_hop_start c e launch hop [] leg is b =
    let here : leg.hop ≡ hop = omega (arith, is) in
    let x : Item = Out (Start leg.child c e.number leg.hop launch) in (
      here,
      flat_map-push (child_of c e.number hop) e.items x
          ∙ (ap (λ l. l ++ child_of c e.number hop x) (b hop (omega arith))
          ∙ (ap (λ h. child_of c e.number hop (Out (Start leg.child c e.number h launch))) here ∙ started_here c e.number hop leg.child launch)),
      λ later le. hop_same c e x later (started_elsewhere c e.number later leg.hop leg.child launch (λ same. absurd (omega (arith, le, is, same)))) ∙ b later (omega (arith, le)),
    )
by_hop_start c e launch hop (first ∷ legs) leg is b =
    let x : Item = Out (Start leg.child c e.number leg.hop launch) in (
      b.0,
      hop_same c e x hop (started_elsewhere c e.number hop leg.hop leg.child launch (λ same. absurd (omega (arith, is, same)))) ∙ b.1,
      by_hop_start c e launch (suc hop) legs leg (omega (arith, is)) b.2,
    )
