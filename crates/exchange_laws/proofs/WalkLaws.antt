-- The hops that were reached, and the scripts that were started, with one more item.
use Rattle.std.proofs.Common.{◌≡◌, ◌≤◌, ℕ, suc, Bool, true, false, List, [], ◌∷◌, ◌++◌, map, Some, None, refl, ap, ◌∙◌, append-nil}
use Rattle.std.specs.Prelude.{if◌then◌else◌, ◌==◌, ◌&&◌}
use Rattle.host_base.specs.declared.request.Request.{Request}
use Rattle.host_base.specs.declared.site.Site.{Site}
use Rattle.host_trace.specs.declared.items.Act.TheVariants.{Start}
use Rattle.host_trace.specs.declared.items.Item.{Item}
use Rattle.host_trace.specs.declared.items.Item.TheVariants.{Out}
use Rattle.host_trace.specs.Kinds.{child_of, child_started}
use Rattle.host_trace.specs.Projections.{children, children_of}
use Rattle.host_trace.proofs.FirstLaws.{flat_map-push, or_else-some}
use Rattle.host_trace.proofs.ProjectionLaws.{children-push}
use Rattle.request_reader.specs.Request.{Reading, Whole, More, Bad, with_body}
use Rattle.trace_child.specs.Words.{is_filled}
use Rattle.trace_child.proofs.DecidedLaws.{decided_at-push}
use Rattle.trace_model.specs.Breaks.{broken}
use Rattle.trace_model.specs.Exchange.{Exchange, pushed, reading, has_start}
use Rattle.trace_model.specs.Legs.{Leg, run_of}
use Rattle.trace_model.specs.ModelLaws.{IsHeaded}
use Rattle.trace_model.specs.Readings.{startable}
use Rattle.trace_model.proofs.AnswerLaws.{unbroken-push}
use Rattle.conn_laws.specs.Hops.{IsStarted, LeadsOn, SameLegs, StillReaches}
use Rattle.conn_laws.proofs.HopLaws.{reaches_still}
use Rattle.exchange_laws.specs.Walked.{AtHop, HasChildren, IsLast, IsNew, child_of_leg}
use Rattle.exchange_laws.specs.StageIs.{IsWalked}

-- ---- legs that differ in the bodies of their requests alone

pub same_legs-trans : (a b d : List Leg) → SameLegs a b → SameLegs b d → SameLegs a d
same_legs-trans [] [] [] p q = tt
same_legs-trans [] [] (x ∷ d) p q = absurd q
same_legs-trans [] (y ∷ b) d p q = absurd p
same_legs-trans (x ∷ a) [] d p q = absurd p
same_legs-trans (x ∷ a) (y ∷ b) [] p q = absurd q
same_legs-trans (x ∷ a) (y ∷ b) (z ∷ d) p q =
    (q.0 ∙ ap (λ (l : Leg). record l { request = with_body l.request z.request.body }) p.0, same_legs-trans a b d p.1 q.1)

pub same_legs-refl : (a : List Leg) → SameLegs a a
same_legs-refl [] = tt
same_legs-refl (x ∷ a) = (refl, same_legs-refl a)

pub same_legs-append : (a b : List Leg) (leg : Leg) (body : List ℕ) → SameLegs a b
    → SameLegs (a ++ leg ∷ []) (b ++ record leg { request = with_body leg.request body } ∷ [])
same_legs-append [] [] leg body p = (refl, tt)
same_legs-append [] (y ∷ b) leg body p = absurd p
same_legs-append (x ∷ a) [] leg body p = absurd p
same_legs-append (x ∷ a) (y ∷ b) leg body p = (p.0, same_legs-append a b leg body p.1)

-- ---- one more item

pub still-push : (site : Site) (c : ℕ) (e : Exchange) (x : Item) (legs : List Leg) (left hop : ℕ) (request : Request) → 2 ≤ site.limits.head
    → broken site c (pushed e x) ≡ None → StillReaches site c e legs left hop request → StillReaches site c (pushed e x) legs left hop request
still-push site c e x legs left hop request two none r =
    let s : StillReaches site c (pushed e x) r.legs_then left hop r.request_then = reaches_still site c e x r.legs_then left hop r.request_then two none r.reaches in
    record {
      legs_then = s.legs_then;
      request_then = s.request_then;
      reaches = s.reaches;
      same_legs = same_legs-trans legs r.legs_then s.legs_then r.same_legs s.same_legs;
      same_request = s.same_request ∙ ap (λ (q : Request). with_body q s.request_then.body) r.same_request;
    }

no_child : (c j hop : ℕ) (x : Item) → child_started c x ≡ [] → child_of c j hop x ≡ []
no_child c j hop (Out (Start k d i h launch)) none = go (c == d) (j == i) (hop == h) none
  where
    go : (mine same_exchange same_hop : Bool) → (if mine then k ∷ [] else []) ≡ [] → (if mine && same_exchange && same_hop then k ∷ [] else []) ≡ []
    go true a b is = absurd (cc)
    go false a b is = refl
no_child c j hop x none = refl

pub has_children-push : (c : ℕ) (e : Exchange) (x : Item) (legs : List Leg) → child_started c x ≡ [] → HasChildren c e legs → HasChildren c (pushed e x) legs
has_children-push c e x legs none is =
    children-push e.items x c ∙ ap (λ l. children e.items c ++ l) none ∙ append-nil (children e.items c) ∙ is

pub is_new-push : (c : ℕ) (e : Exchange) (x : Item) (hop : ℕ) → child_started c x ≡ [] → IsNew c e hop → IsNew c (pushed e x) hop
is_new-push c e x hop none new later above =
    flat_map-push (child_of c e.number later) e.items x
    ∙ ap (λ l. children_of e.items c e.number later ++ l) (no_child c e.number later x none)
    ∙ append-nil (children_of e.items c e.number later) ∙ new later above

pub started-push : (site : Site) (c : ℕ) (e : Exchange) (x : Item) (hop : ℕ) (request : Request) (leg : Leg) → IsStarted site c e hop request leg
    → IsStarted site c (pushed e x) hop request leg
started-push site c e x hop request leg s = record {
  mapped = s.mapped;
  place = s.place;
  kind = s.kind;
  plain = s.plain;
  others = s.others ++ child_of c e.number hop x;
  child = flat_map-push (child_of c e.number hop) e.items x ∙ ap (λ l. l ++ child_of c e.number hop x) s.child;
  same = s.same;
}

pub leads-push : (site : Site) (c : ℕ) (e : Exchange) (x : Item) (hop : ℕ) (request : Request) (leg : Leg) (location : List ℕ)
    → LeadsOn site c e hop request leg location → LeadsOn site c (pushed e x) hop request leg location
leads-push site c e x hop request leg location l = record {
  started = started-push site c e x hop request leg l.started;
  front = l.front;
  item = l.item;
  decided = decided_at-push (run_of site c e leg) e.items x ∙ or_else-some _ _ l.front l.decided;
  last = l.last;
  by_output = l.by_output;
  derives = l.derives;
}

pub at_hop-push : (site : Site) (c : ℕ) (e : Exchange) (x : Item) (legs : List Leg) (left hop : ℕ) (request : Request) → 2 ≤ site.limits.head
    → broken site c (pushed e x) ≡ None → child_started c x ≡ [] → AtHop site c e legs left hop request → AtHop site c (pushed e x) legs left hop request
at_hop-push site c e x legs left hop request two none starts a = record {
  reached = still-push site c e x legs left hop request two none a.reached;
  children_are = has_children-push c e x legs starts a.children_are;
  new = is_new-push c e x hop starts a.new;
}

-- ---- the last leg

pub last_headed : (r : Reading) (request : Request) → startable r ≡ Some request → IsHeaded r
last_headed (Whole request used due) first is = tt
last_headed (More None due) first is = absurd (cc)
last_headed (More (Some request) due) first is = tt
last_headed (Bad cause bare) first is = absurd (cc)

pub last-headed : (site : Site) (c : ℕ) (e : Exchange) (legs : List Leg) (leg : Leg) → IsLast site c e legs leg → IsHeaded (reading site c e)
last-headed site c e legs leg l = last_headed (reading site c e) l.reached.reaches.first l.reached.reaches.start

some_child : (before : List Leg) (leg : Leg) (ks : List ℕ) → ks ≡ map child_of_leg (before ++ leg ∷ []) → is_filled ks ≡ true
some_child [] leg ks is = ap (λ l. is_filled l) is
some_child (first ∷ before) leg ks is = ap (λ l. is_filled l) is

pub last-start : (site : Site) (c : ℕ) (e : Exchange) (legs : List Leg) (leg : Leg) → IsLast site c e legs leg → has_start c e ≡ true
last-start site c e legs leg l = some_child l.before leg (children e.items c) (l.children_are ∙ ap (map child_of_leg) l.is)

pub last-unbroken : (site : Site) (c : ℕ) (e : Exchange) (x : Item) (legs : List Leg) (leg : Leg) → IsLast site c e legs leg → broken site c (pushed e x) ≡ None
last-unbroken site c e x legs leg l = unbroken-push site c e x (last-start site c e legs leg l) l.reached.reaches.unbroken

pub record LastStill (site : Site) (c : ℕ) (e : Exchange) (legs : List Leg) (leg : Leg) (left : ℕ) : Type 0 where
  pub last : IsLast site c e legs leg
  pub left_is : last.left ≡ left

pub last-push : (site : Site) (c : ℕ) (e : Exchange) (x : Item) (legs : List Leg) (leg : Leg) → 2 ≤ site.limits.head → child_started c x ≡ []
    → (l : IsLast site c e legs leg) → LastStill site c (pushed e x) legs leg l.left
last-push site c e x legs leg two starts l = record {
  last = record {
    before = l.before;
    left = l.left;
    is = l.is;
    reached = still-push site c e x l.before l.left leg.hop leg.request two (last-unbroken site c e x legs leg l) l.reached;
    started = started-push site c e x leg.hop leg.request leg l.started;
    children_are = has_children-push c e x legs starts l.children_are;
    new = is_new-push c e x (suc leg.hop) starts l.new;
  };
  left_is = refl;
}

pub walked-push : (site : Site) (c : ℕ) (e : Exchange) (x : Item) (legs : List Leg) → 2 ≤ site.limits.head → child_started c x ≡ []
    → IsWalked site c e legs → IsWalked site c (pushed e x) legs
walked-push site c e x [] two starts w = has_children-push c e x [] starts w
walked-push site c e x (first ∷ legs) two starts w = (w.0, (last-push site c e x (first ∷ legs) w.0 two starts w.1).last)
