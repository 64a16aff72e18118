-- The Start of the next hop's child.
use Rattle.std.proofs.Common.{◌≡◌, ◌≤◌, ℕ, zero, suc, ◌+◌, Bool, true, false, List, [], ◌∷◌, ◌++◌, Option, Some, None, refl, sym, ap, subst, ◌∙◌, arith, length, add-zero, inl, inr}
use Rattle.std.specs.Prelude.{if◌then◌else◌, ◌||◌, ◌==◌}
use Rattle.std.specs.List.{list_any, AllByRecursion}
use Rattle.std.proofs.lemmas.Bool.{cases_Bool, false≢true, or_parts, or_from, eq-eqb, eqb-true, ne_eqb}
use Rattle.std.proofs.lemmas.List.Folds.{list_any-append}
use Rattle.host_base.specs.declared.launch.Launch.{Launch}
use Rattle.host_base.specs.declared.request.Request.{Request}
use Rattle.host_base.specs.declared.site.ScriptKind.{ScriptKind}
use Rattle.host_base.specs.declared.site.Site.{Site}
use Rattle.host_trace.specs.declared.items.Act.TheVariants.{Start}
use Rattle.host_trace.specs.declared.items.Item.{Item}
use Rattle.host_trace.specs.declared.items.Item.TheVariants.{Out}
use Rattle.host_trace.specs.Decider.{is_websocket}
use Rattle.host_trace.specs.Kinds.{names_child, child_started, is_stop}
use Rattle.host_trace.specs.Projections.{children, children_of, stopped}
use Rattle.host_trace.proofs.ProjectionLaws.{children-push}
use Rattle.own_traces.specs.Whose.{has}
use Rattle.request_reader.specs.Request.{with_body}
use Rattle.child_core.specs.View.{View}
use Rattle.child_core.specs.Calls.{is_settled}
use Rattle.child_core.specs.Laws.{just_begun}
use Rattle.child_core.proofs.StartLaws.{Knows-start}
use Rattle.trace_model.specs.Exchange.{Exchange, pushed, all_of}
use Rattle.trace_model.specs.Legs.{Leg, leg_of}
use Rattle.trace_model.specs.Answer.{request_of_hop}
use Rattle.trace_model.specs.Places.{place_of}
use Rattle.conn_laws.specs.Hops.{IsStarted, Leads, StillReaches}
use Rattle.conn_laws.specs.Starts.{IsUnstarted}
use Rattle.conn_laws.proofs.HopLaws.{reaches_still}
use Rattle.conn_laws.proofs.QuietLaws.{act_breaks_none}
use Rattle.conn_laws.proofs.StartLaws.{start_begins}
use Rattle.child_laws.specs.Setting.{setting}
use Rattle.child_laws.specs.Legs.{children_of_legs, ByHop, SameRuns, Led}
use Rattle.child_laws.specs.Children.{KnowsLeg, SettledLeg, KnowsLast, KnowsRuns, KnowsChildren, NoMore, is_over}
use Rattle.child_laws.specs.Laws.{MayStart}
use Rattle.child_laws.proofs.SettingLaws.{still}
use Rattle.child_laws.proofs.LegLaws.{no_child, all_trans, only_bodies, same_length, by_hop_start, by_hop_later, children-last}
use Rattle.child_laws.proofs.SpentLaws.{spent_begun}
use Rattle.child_laws.proofs.ItemLaws.{all_and, unnamed_push}
use Rattle.child_laws.proofs.ActLaws.{Stays, older_act, apart_all}
use Rattle.child_laws.proofs.RunActLaws.{is_another}

-- ---- an exchange without children

left_none : (xs ys : List ℕ) → xs ++ ys ≡ [] → xs ≡ []
left_none [] ys e = refl
left_none (x ∷ xs) ys e = absurd (cc)

right_none : (xs ys : List ℕ) → xs ++ ys ≡ [] → ys ≡ []
right_none [] ys e = e
right_none (x ∷ xs) ys e = absurd (cc)

pub no_hops : (c j hop : ℕ) (items : List Item) → children items c ≡ [] → children_of items c j hop ≡ []
no_hops c j hop [] none = refl
no_hops c j hop (x ∷ items) none =
    ap (λ l. l ++ children_of items c j hop) (no_child c j hop x (left_none (child_started c x) (children items c) none))
    ∙ no_hops c j hop items (right_none (child_started c x) (children items c) none)

-- ---- the legs so far

-- all of them are settled
pub all_settled : (More : View → Type 0) (site : Site) (c : ℕ) (e : Exchange) (ls : List Leg) (run : Option View) → ((v : View) → run ≡ Some v → More v) → is_over run ≡ true
    → KnowsRuns More site c e false ls run → AllByRecursion (SettledLeg More site c e) ls
all_settled More site c e ls None more over k = subst (AllByRecursion (SettledLeg More site c e)) (sym k.0) tt
all_settled More site c e ls (Some held) more over k =
    let last : SettledLeg More site c e k.leg =
    record { view = k.view; known = k.known; settled = subst (λ v. is_settled v ≡ true) k.held_as over; more = more k.view (ap (λ v. Some v) k.held_as) } in
    subst (AllByRecursion (SettledLeg More site c e)) (sym k.are) (all_and (SettledLeg More site c e) k.older (k.leg ∷ []) k.settled (last, tt))

hops_so_far : (More : View → Type 0) (site : Site) (c : ℕ) (e : Exchange) (ls : List Leg) (run : Option View) → KnowsRuns More site c e false ls run → ByHop c e 0 ls
hops_so_far More site c e ls None k = subst (ByHop c e 0) (sym k.0) (λ later le. no_hops c e.number later e.items k.1)
hops_so_far More site c e ls (Some held) k = k.hops

started_so_far : (More : View → Type 0) (site : Site) (c : ℕ) (e : Exchange) (ls : List Leg) (run : Option View) → KnowsRuns More site c e false ls run
    → children e.items c ≡ children_of_legs ls
started_so_far More site c e ls None k = k.1 ∙ sym (ap children_of_legs k.0)
started_so_far More site c e ls (Some held) k = k.started

swap : (a b : ℕ) → (a == b) ≡ false → (b == a) ≡ false
swap a b e = elim (cases_Bool (b == a)) [
  | inl same ↦ absurd (false≢true (sym e ∙ eq-eqb a b (sym (eqb-true b a same))))
  | inr other ↦ other
]

-- none of them is a child that no item names
none_of : (More : View → Type 0) (site : Site) (c : ℕ) (e : Exchange) (k : ℕ) (ls : List Leg) → list_any (names_child k) (all_of e) ≡ false → AllByRecursion (SettledLeg More site c e) ls
    → has (children_of_legs ls) k ≡ false
none_of More site c e k [] unnamed a = refl
none_of More site c e k (leg ∷ ls) unnamed a =
    let s = a.0 in
    let other : (k == leg.child) ≡ false = ap (λ n. k == n) (sym s.known.is.number) ∙ is_another false (setting site c e leg.hop) s.view e.before e.items k s.known.knows unnamed in
    or_from (leg.child == k) _ (swap k leg.child other) (none_of More site c e k ls unnamed a.1)

-- ---- the Start

started_as : (site : Site) (c : ℕ) (e : Exchange) (hop : ℕ) (request later : Request) (leg : Leg) → later ≡ with_body request later.body
    → IsStarted site c e hop request leg → IsStarted site c e hop later (record leg { request = later })
started_as site c e hop request later leg body s = record {
  mapped = s.mapped;
  place = ap (place_of site) body ∙ s.place;
  kind = s.kind;
  plain = s.plain;
  others = s.others;
  child = s.child;
  same = ap (λ (l : Leg). record l { request = later }) s.same;
}

-- the hop that legs led to
led_hop : (site : Site) (c : ℕ) (e : Exchange) (left hop : ℕ) (request : Request) (ls : List Leg) (left' hop' : ℕ) (request' : Request) → Leads site c e left hop request ls left' hop' request'
    → hop' ≡ hop + length ls
led_hop site c e left hop request [] left' hop' request' l = sym l.1 ∙ sym (add-zero hop)
led_hop site c e zero hop request (leg ∷ ls) left' hop' request' l = absurd l
led_hop site c e (suc left) hop request (leg ∷ ls) left' hop' request' l =
    let r = led_hop site c e left (suc hop) (request_of_hop request l.0) ls left' hop' request' l.2 in
    omega (arith, r)

module _ (site : Site) (c : ℕ) (e : Exchange) (next : ℕ) (ls : List Leg) (run : Option View) (hop : ℕ) (kind : ScriptKind) (request : Request) (launch : Launch)
    (body : List ℕ) (whole : Bool) (two : 2 ≤ site.limits.head) (may : MayStart site c e ls run hop kind request body whole) (unnamed : list_any (names_child next) (all_of e) ≡ false) where
  abbrev leg : Leg
  leg = leg_of hop kind request next

  abbrev x : Item
  x = Out (Start next c e.number hop launch)

  abbrev begun : View
  begun = just_begun (setting site c e hop) next kind body whole

  walked_runs : SameRuns ls may.reached.legs_then
  walked_runs = only_bodies ls may.reached.legs_then may.reached.same_legs

  next_hop : hop ≡ 0 + length ls
  next_hop =
      led_hop site c e site.limits.redirects 0 may.reached.reaches.first may.reached.legs_then may.left hop may.reached.request_then may.reached.reaches.leads
      ∙ ap (λ n. 0 + n) (same_length ls may.reached.legs_then walked_runs)

  parts : (list_any (names_child next) e.before || list_any (names_child next) e.items) ≡ false
  parts = sym (list_any-append (names_child next) e.before e.items) ∙ unnamed

  going : stopped e.items ≡ false
  going = (or_parts (stopped e.before) (stopped e.items) (sym (list_any-append is_stop e.before e.items) ∙ may.going)).1

  leg_begun : KnowsLeg site c (pushed e x) false leg begun
  leg_begun =
      let p = or_parts (list_any (names_child next) e.before) (list_any (names_child next) e.items) parts in
      let same = still site c e hop e.items (Start next c e.number hop launch) ∙ may.offers in
      record {
        is = record { number = refl; kind = refl };
        plain = may.plain;
        knows = Knows-start (setting site c e hop) next kind body whole c e.number hop launch e.items p.1 (λ ws. absurd (false≢true (sym may.plain ∙ ws))) going
            (ap (λ o. o.body) same) (λ ws. sym (ap (λ o. o.whole) same)) (λ ws. absurd (false≢true (sym may.plain ∙ ws)));
        spent = spent_begun (setting site c e hop) next kind body whole;
        unnamed = p.0;
      }

  -- its script was not started before
  none_yet : ByHop c e 0 ls → IsUnstarted site c e hop request may.mapped
  none_yet hops = record {
    place = may.place;
    plain = ap is_websocket may.kind_is ∙ may.plain;
    none = let h = next_hop in by_hop_later c e 0 ls hop (omega (arith, h)) hops;
  }

  led_begun : ByHop c e 0 ls → Led site c (pushed e x) ls leg
  led_begun hops =
      let still_there : StillReaches site c (pushed e x) may.reached.legs_then may.left hop may.reached.request_then =
      reaches_still site c e x may.reached.legs_then may.left hop may.reached.request_then two (act_breaks_none site c e (Start next c e.number hop launch) ∙ may.reached.reaches.unbroken) may.reached.reaches in
      let later : Request = still_there.request_then in
      let same : later ≡ with_body request later.body = still_there.same_request ∙ ap (λ r. with_body r later.body) may.reached.same_request in
      let started : IsStarted site c (pushed e x) hop request leg =
      subst (λ kind. IsStarted site c (pushed e x) hop request (leg_of hop kind request next)) may.kind_is (start_begins site c e hop request may.mapped next launch (none_yet hops)) in
      record {
        walked = still_there.legs_then;
        left = may.left;
        hop = hop;
        request = later;
        last = record leg { request = later };
        reaches = still_there.reaches;
        started = started_as site c (pushed e x) hop request later leg same started;
        same_older = all_trans ls may.reached.legs_then still_there.legs_then walked_runs (only_bodies may.reached.legs_then still_there.legs_then still_there.same_legs);
        same_last = record { child = refl; hop = refl; kind = refl };
      }

  mine : child_started c x ≡ next ∷ []
  mine = ap (λ (b : Bool). if b then next ∷ [] else []) (eq-eqb c c refl)

  pub runs_begun : (More Then : View → Type 0) → Stays More Then c (Start next c e.number hop launch) → ((v : View) → run ≡ Some v → More v) → KnowsRuns More site c e false ls run
      → KnowsLast Then site c (pushed e x) false (ls ++ leg ∷ []) begun
  runs_begun More Then stays more k =
      let settled = all_settled More site c e ls run more may.over k in
      let apart = none_of More site c e next ls unnamed settled in
      let hops = hops_so_far More site c e ls run k in
      record {
        older = ls;
        leg = leg;
        are = refl;
        started = children-push e.items x c ∙ (ap (λ l. l ++ child_started c x) (started_so_far More site c e ls run k) ∙ (ap (λ l. children_of_legs ls ++ l) mine ∙ sym (children-last ls leg)));
        hops = by_hop_start c e launch 0 ls leg next_hop hops;
        view = begun;
        held_as = refl;
        known = leg_begun;
        apart = apart;
        settled = apart_all (SettledLeg More site c e) (SettledLeg Then site c (pushed e x)) next ls apart
            (λ l other s. older_act More Then site c e (Start next c e.number hop launch) stays l s (ap (λ n. n == next) s.known.is.number ∙ other)) settled;
        led = led_begun hops;
      }

  pub fresh_begun : ((k : ℕ) → next ≤ k → list_any (names_child k) (all_of e) ≡ false) → (k : ℕ) → next + 1 ≤ k → list_any (names_child k) (all_of (pushed e x)) ≡ false
  fresh_begun fresh k le = unnamed_push k e x (ne_eqb k next (λ same. absurd (omega (arith, le, same)))) (fresh k (omega (arith, le)))

pub starts_known : (site : Site) (c : ℕ) (e : Exchange) (next : ℕ) (ls : List Leg) (run : Option View) (hop : ℕ) (kind : ScriptKind) (request : Request) (launch : Launch)
    (body : List ℕ) (whole : Bool) → 2 ≤ site.limits.head → MayStart site c e ls run hop kind request body whole → KnowsChildren site c e false next ls run
    → KnowsChildren site c (pushed e (Out (Start next c e.number hop launch))) false (next + 1) (ls ++ leg_of hop kind request next ∷ [])
    (Some (just_begun (setting site c e hop) next kind body whole))
starts_known site c e next ls run hop kind request launch body whole two may k =
    let unnamed : list_any (names_child next) (all_of e) ≡ false = k.fresh next (omega arith) in
    record {
      fresh = fresh_begun site c e next ls run hop kind request launch body whole two may unnamed k.fresh;
      runs = runs_begun site c e next ls run hop kind request launch body whole two may unnamed NoMore NoMore (λ v other settled more. tt) (λ v is. tt) k.runs;
    }
