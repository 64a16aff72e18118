-- What a Start and what decided a run make of the hop that was reached.
use Rattle.std.proofs.Common.{◌≡◌, ℕ, Bool, true, false, List, [], ◌∷◌, ◌++◌, Option, Some, None, refl, sym, ap, ◌∙◌, append-nil}
use Rattle.std.specs.Prelude.{if◌then◌else◌, ◌==◌, ◌&&◌, option_map, option_and_then}
use Rattle.std.proofs.lemmas.Bool.{eq-eqb, and_from}
use Rattle.host_base.specs.declared.launch.Launch.{Launch}
use Rattle.host_base.specs.declared.request.Request.{Request}
use Rattle.host_base.specs.declared.site.Mapped.{Mapped}
use Rattle.host_base.specs.declared.site.Site.{Site}
use Rattle.host_trace.specs.declared.items.Act.TheVariants.{Start}
use Rattle.host_trace.specs.declared.items.Item.{Item}
use Rattle.host_trace.specs.declared.items.Item.TheVariants.{Out}
use Rattle.host_trace.specs.Decider.{Outcome}
use Rattle.host_trace.specs.First.{last_of, or_else}
use Rattle.host_trace.specs.Kinds.{child_of, output_heard}
use Rattle.host_trace.specs.Projections.{child_out, children_of}
use Rattle.host_trace.proofs.FirstLaws.{flat_map-push, last_of-append}
use Rattle.host_trace.proofs.ProjectionLaws.{child_out-push}
use Rattle.trace_child.specs.Run.{Run}
use Rattle.trace_child.specs.Decided.{decides_run, decided_at, outcome_at, outcome_of}
use Rattle.trace_child.proofs.DecidedLaws.{decided_at-push, is_first}
use Rattle.trace_model.specs.Exchange.{Exchange, pushed}
use Rattle.trace_model.specs.Legs.{Leg, leg_of, run_of}
use Rattle.trace_model.specs.Places.{kind_of}
use Rattle.conn_laws.specs.Hops.{IsStarted}
use Rattle.conn_laws.specs.Laws.{IsDecidedBy}
use Rattle.conn_laws.specs.Starts.{IsUnstarted, Decided, OutcomesTell, OutputStays}

pub start_begins : (site : Site) (c : ℕ) (e : Exchange) (hop : ℕ) (request : Request) (mapped : Mapped) (k : ℕ) (launch : Launch)
    → IsUnstarted site c e hop request mapped
    → IsStarted site c (pushed e (Out (Start k c e.number hop launch))) hop request (leg_of hop (kind_of site mapped) request k)
start_begins site c e hop request mapped k launch u =
    let mine : (c == c && e.number == e.number && hop == hop) ≡ true =
    and_from (c == c && e.number == e.number) (hop == hop) (and_from (c == c) (e.number == e.number) (eq-eqb c c refl) (eq-eqb e.number e.number refl)) (eq-eqb hop hop refl) in
    record {
      mapped = mapped;
      place = u.place;
      kind = refl;
      plain = u.plain;
      others = [];
      child = flat_map-push (child_of c e.number hop) e.items (Out (Start k c e.number hop launch))
          ∙ (ap (λ ks. ks ++ child_of c e.number hop (Out (Start k c e.number hop launch))) u.none
          ∙ ap (λ (b : Bool). if b then k ∷ [] else []) mine);
      same = refl;
    }

-- ---- deciders

last_front : (run : Run) (items front : List Item) → decided_at run items ≡ Some front → (item : Item) × (last_of front ≡ Some item)
last_front run items front is =
    let f = is_first run items front is in
    (f.item, ap last_of f.ends ∙ last_of-append f.before (f.item ∷ []))

same_some : {X : Type 0} (a b : X) → Some a ≡ Some b → a ≡ b
same_some a b e = cc

none_some : {X : Type 0} (a : X) → Some a ≡ None → ⊥
none_some a e = absurd (cc)

module _ (site : Site) (c : ℕ) (e : Exchange) (leg : Leg) where
  abbrev run : Run
  run = run_of site c e leg

  some_by : (outcome : Outcome) (o : Option (List Item)) → decided_at run e.items ≡ o → option_map (outcome_at run) (option_and_then last_of o) ≡ Some outcome
      → Decided site c e leg outcome
  some_by outcome None is e' = absurd (cc)
  some_by outcome (Some front) is e' =
      let item = last_front run e.items front is in
      record {
        front = front;
        item = item.0;
        by = record { decided = is; last = item.1 };
        is = same_some (outcome_at run item.0) outcome (sym (ap (option_map (outcome_at run)) item.1) ∙ e');
      }

  none_by : (o : Option (List Item)) → decided_at run e.items ≡ o → option_map (outcome_at run) (option_and_then last_of o) ≡ None → o ≡ None
  none_by None is e' = refl
  none_by (Some front) is e' =
      let item = last_front run e.items front is in
      absurd (none_some (outcome_at run item.0) (sym (ap (option_map (outcome_at run)) item.1) ∙ e'))

pub outcomes_tell : (site : Site) (c : ℕ) (e : Exchange) (leg : Leg) → OutcomesTell site c e leg
outcomes_tell site c e leg = record {
  some = λ outcome is. some_by site c e leg outcome (decided_at (run_of site c e leg) e.items) refl is;
  none = λ is. none_by site c e leg (decided_at (run_of site c e leg) e.items) refl is;
}

-- ---- output

now_front : (test : Bool) (items front : List Item) → (if test then Some items else None) ≡ Some front → front ≡ items
now_front true items front e = sym (same_some items front e)
now_front false items front e = absurd (cc)

pub output_stays : (site : Site) (c : ℕ) (e : Exchange) (leg : Leg) (x : Item) → OutputStays site c e leg x
output_stays site c e leg x =
    let run : Run = run_of site c e leg in
    record {
      decided_now = λ not_yet front is.
          now_front (decides_run run e.items x) (e.items ++ x ∷ []) front
          (ap (λ o. or_else o (if decides_run run e.items x then Some (e.items ++ x ∷ []) else None)) (sym not_yet)
          ∙ (sym (decided_at-push run e.items x) ∙ is));
      later = λ front same quiet.
          same ∙ sym (child_out-push e.items x leg.child ∙ (ap (λ l. child_out e.items leg.child ++ l) quiet ∙ append-nil (child_out e.items leg.child)));
    }
