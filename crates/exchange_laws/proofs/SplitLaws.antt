-- The last of the legs that led to a hop.
use Rattle.std.proofs.Common.{◌≡◌, ◌+◌, ℕ, zero, suc, List, [], ◌∷◌, ◌++◌, Some, None, refl, sym, ap, subst, ◌∙◌, arith}
use Rattle.host_base.specs.declared.request.Request.{Request}
use Rattle.host_base.specs.declared.site.Site.{Site}
use Rattle.host_trace.specs.Decider.{is_websocket}
use Rattle.host_trace.specs.Projections.{children_of}
use Rattle.request_reader.specs.Request.{with_body}
use Rattle.trace_model.specs.Answer.{request_of_hop}
use Rattle.trace_model.specs.Breaks.{broken}
use Rattle.trace_model.specs.Exchange.{Exchange, reading}
use Rattle.trace_model.specs.Legs.{Leg}
use Rattle.trace_model.specs.Places.{place_of}
use Rattle.trace_model.specs.Readings.{startable}
use Rattle.conn_laws.specs.Hops.{LeadsOn, Leads, SameLegs}
use Rattle.exchange_laws.specs.Walked.{AtHop, HasChildren, IsLast, IsNew}

-- ---- lists

pub record HasLast (legs : List Leg) : Type 0 where
  pub before : List Leg
  pub leg : Leg
  pub is : legs ≡ before ++ leg ∷ []

pub last_leg : (first : Leg) (legs : List Leg) → HasLast (first ∷ legs)
last_leg first [] = record { before = []; leg = first; is = refl }
last_leg first (next ∷ legs) =
    let rest = last_leg next legs in
    record { before = first ∷ rest.before; leg = rest.leg; is = ap (λ l. first ∷ l) rest.is }

record SameSplit (before : List Leg) (leg : Leg) (legs_then : List Leg) : Type 0 where
  pub before_then : List Leg
  pub leg_then : Leg
  pub is : legs_then ≡ before_then ++ leg_then ∷ []
  pub same_before : SameLegs before before_then
  pub same_leg : leg_then ≡ record leg { request = with_body leg.request leg_then.request.body }

same_split : (before : List Leg) (leg : Leg) (legs_then : List Leg) → SameLegs (before ++ leg ∷ []) legs_then → SameSplit before leg legs_then
same_split [] leg [] same = absurd same
same_split [] leg (x ∷ []) same = record { before_then = []; leg_then = x; is = refl; same_before = tt; same_leg = same.0 }
same_split [] leg (x ∷ y ∷ legs) same = absurd same.1
same_split (first ∷ before) leg [] same = absurd same
same_split (first ∷ before) leg (x ∷ legs) same =
    let rest = same_split before leg legs same.1 in
    record {
      before_then = x ∷ rest.before_then;
      leg_then = rest.leg_then;
      is = ap (λ l. x ∷ l) rest.is;
      same_before = (same.0, rest.same_before);
      same_leg = rest.same_leg;
    }

-- ---- the hop before

record Splits (site : Site) (c : ℕ) (e : Exchange) (left hop : ℕ) (request : Request) (legs : List Leg) (leg : Leg) (hop' : ℕ) : Type 0 where
  pub left_then : ℕ
  pub hop_then : ℕ
  pub request_then : Request
  pub leads : Leads site c e left hop request legs left_then hop_then request_then
  pub location : List ℕ
  pub on : LeadsOn site c e hop_then request_then leg location
  pub hop_is : suc hop_then ≡ hop'

splits : (site : Site) (c : ℕ) (e : Exchange) (left hop : ℕ) (request : Request) (legs : List Leg) (leg : Leg) (left' hop' : ℕ) (request' : Request)
    → Leads site c e left hop request (legs ++ leg ∷ []) left' hop' request' → Splits site c e left hop request legs leg hop'
splits site c e zero hop request [] leg left' hop' request' l = absurd l
splits site c e (suc left) hop request [] leg left' hop' request' l = record {
  left_then = suc left;
  hop_then = hop;
  request_then = request;
  leads = (refl, refl, refl);
  location = l.0;
  on = l.1;
  hop_is = l.2.1;
}
splits site c e zero hop request (first ∷ legs) leg left' hop' request' l = absurd l
splits site c e (suc left) hop request (first ∷ legs) leg left' hop' request' l =
    let rest = splits site c e left (suc hop) (request_of_hop request l.0) legs leg left' hop' request' l.2 in
    record {
      left_then = rest.left_then;
      hop_then = rest.hop_then;
      request_then = rest.request_then;
      leads = (l.0, l.1, rest.leads);
      location = rest.location;
      on = rest.on;
      hop_is = rest.hop_is;
    }

-- what is known of it, whatever came of the bodies since
last_of_split : (site : Site) (c : ℕ) (e : Exchange) (legs before : List Leg) (leg : Leg) (hop : ℕ) (first : Request) (before_then : List Leg) (leg_then : Leg)
    → legs ≡ before ++ leg ∷ [] → startable (reading site c e) ≡ Some first
    → broken site c e ≡ None → SameLegs before before_then → leg_then ≡ record leg { request = with_body leg.request leg_then.request.body }
    → Splits site c e site.limits.redirects 0 first before_then leg_then hop → HasChildren c e legs → IsNew c e hop → IsLast site c e legs leg
last_of_split site c e legs before leg hop first before_then leg_then is start unbroken same_before same_leg s are new =
    let hop_is : leg.hop ≡ s.hop_then = sym (ap (λ (l : Leg). l.hop) same_leg) ∙ ap (λ (l : Leg). l.hop) s.on.started.same in
    let request_is : s.request_then ≡ with_body leg.request leg_then.request.body =
    sym (ap (λ (l : Leg). l.request) s.on.started.same) ∙ ap (λ (l : Leg). l.request) same_leg in
    record {
      before = before;
      left = s.left_then;
      is = is;
      reached = record {
        legs_then = before_then;
        request_then = s.request_then;
        reaches = record {
          first = first;
          start = start;
          unbroken = unbroken;
          leads = subst (λ h. Leads site c e site.limits.redirects 0 first before_then s.left_then h s.request_then) (sym hop_is) s.leads;
        };
        same_legs = same_before;
        same_request = request_is ∙ ap (λ (q : Request). with_body leg.request q.body) (sym request_is);
      };
      started = record {
        mapped = s.on.started.mapped;
        place = ap (place_of site) (sym request_is) ∙ s.on.started.place;
        kind = s.on.started.kind ∙ ap (λ (l : Leg). l.kind) same_leg;
        plain = ap (λ (l : Leg). is_websocket l.kind) (sym same_leg) ∙ s.on.started.plain;
        others = s.on.started.others;
        child =
            ap (λ h. children_of e.items c e.number h) hop_is ∙ s.on.started.child
            ∙ ap (λ (l : Leg). l.child ∷ s.on.started.others) same_leg;
        same = refl;
      };
      children_are = are;
      new = subst (λ h. IsNew c e h) (sym s.hop_is ∙ ap suc (sym hop_is)) new;
    }

pub at_hop_last : (site : Site) (c : ℕ) (e : Exchange) (legs : List Leg) (left hop : ℕ) (request : Request) (l : HasLast legs) → AtHop site c e legs left hop request
    → IsLast site c e legs l.leg
at_hop_last site c e legs left hop request l a =
    let r = a.reached in
    let same = same_split l.before l.leg r.legs_then (subst (λ g. SameLegs g r.legs_then) l.is r.same_legs) in
    let s = splits site c e site.limits.redirects 0 r.reaches.first same.before_then same.leg_then left hop r.request_then
    (subst (λ g. Leads site c e site.limits.redirects 0 r.reaches.first g left hop r.request_then) same.is r.reaches.leads) in
    last_of_split site c e legs l.before l.leg hop r.reaches.first same.before_then same.leg_then l.is r.reaches.start r.reaches.unbroken same.same_before
    same.same_leg s a.children_are a.new

-- ---- how many local redirects are left

leads_count : (site : Site) (c : ℕ) (e : Exchange) (left hop : ℕ) (request : Request) (legs : List Leg) (left' hop' : ℕ) (request' : Request)
    → Leads site c e left hop request legs left' hop' request' → left' + hop' ≡ left + hop
leads_count site c e left hop request [] left' hop' request' l = omega (arith, l.0, l.1)
leads_count site c e zero hop request (leg ∷ legs) left' hop' request' l = absurd l
leads_count site c e (suc left) hop request (leg ∷ legs) left' hop' request' l =
    let rest = leads_count site c e left (suc hop) (request_of_hop request l.0) legs left' hop' request' l.2 in omega (arith, rest)

pub last_count : (site : Site) (c : ℕ) (e : Exchange) (legs : List Leg) (leg : Leg) → (l : IsLast site c e legs leg)
    → l.left + leg.hop ≡ site.limits.redirects
last_count site c e legs leg l =
    let all = leads_count site c e site.limits.redirects 0 l.reached.reaches.first l.reached.legs_then l.left leg.hop l.reached.request_then l.reached.reaches.leads in
    omega (arith, all)
