-- What the tests on a child say in words.
use Rattle.std.proofs.Common.{◌≡◌, ℕ, Bool, true, List, [], ◌∷◌, ◌++◌, Option, Some, None, refl, sym, ◌∙◌, ap, length, drop, inl, inr}
use Rattle.std.specs.Prelude.{◌&&◌, ◌||◌, nat_eq, bytes_eq, option_and_then}
use Rattle.std.specs.List.{starts_with}
use Rattle.std.proofs.lemmas.Bool.{cases_Bool, and_parts, and_from, or_left, or_right, not_from_false, false≢true}
use Rattle.std.proofs.lemmas.Bool.Decides.{Decides-eqb}
use Rattle.std.proofs.lemmas.Slice.Eq.{starts_is, bytes_eq-Decides}
use Rattle.std.proofs.lemmas.List.Folds.{list_any-append}
use Rattle.host_trace.specs.declared.items.Act.{Act}
use Rattle.host_trace.specs.declared.items.Item.{Item}
use Rattle.host_trace.specs.First.{last_of}
use Rattle.host_trace.specs.Kinds.{is_child_eof, is_output_end}
use Rattle.host_trace.specs.Projections.{child_in, started, exited, killed, input_ended, output_ended}
use Rattle.host_trace.specs.Account.{settled, start_refused}
use Rattle.host_trace.proofs.FirstLaws.{last_of-append, list_any-push}
use Rattle.trace_child.specs.Words.{implies, each}
use Rattle.trace_child.specs.Run.{Run, takes_body}
use Rattle.trace_child.specs.Decided.{decided_at, is_decided, is_by_output, is_by_other, is_output_end_of}
use Rattle.trace_child.specs.ChildDemands.{is_fed_whole}
use Rattle.trace_child.specs.Bodies.{bodies, is_fed_in_turn, owes_whole}
use Rattle.trace_child.specs.HandlesDecided.{handles_decided}
use Rattle.trace_child.specs.Feeds.{feeds}
use Rattle.trace_child.specs.Lingers.{lingers}
use Rattle.trace_child.specs.Stops.{stops_child}
use Rattle.trace_child.specs.ChildActs.{child_acts}
use Rattle.host_trace.specs.Account.{is_account}
use Rattle.trace_child.specs.ChildGood.{ChildGood, is_child_good}
use Rattle.trace_child.specs.ChildLaws.{IsFirst, IsFedOf, IsFedAll}
use Rattle.trace_child.proofs.WordLaws.{implied}
use Rattle.trace_child.proofs.DecidedLaws.{is_first}

-- ---- bodies

pub starts_with-front : (text front : List ℕ) → starts_with nat_eq text front ≡ true → text ≡ front ++ drop (length front) text
starts_with-front text front starts = (starts_is Decides-eqb text front _ refl).0 starts

pub fed_of : (run : Run) (items : List Item) → takes_body run ≡ true → bodies run items ≡ true → IsFedOf run items
fed_of run items takes is =
    let body = (run.offered items).body in
    let parts = and_parts (starts_with nat_eq body (child_in items run.child) && each (is_fed_in_turn run.child) items) (implies (owes_whole run items) (is_fed_whole run items)) (implied _ _ is takes) in
    record {
      unfed = drop (length (child_in items run.child)) body;
      front = starts_with-front body (child_in items run.child) (and_parts (starts_with nat_eq body (child_in items run.child)) (each (is_fed_in_turn run.child) items) parts.0).0;
    }

same_bytes : (xs ys : List ℕ) → bytes_eq xs ys ≡ true → xs ≡ ys
same_bytes xs ys is = (bytes_eq-Decides xs ys).0 is

pub fed_all : (run : Run) (items : List Item) → takes_body run ≡ true → bodies run items ≡ true → owes_whole run items ≡ true → IsFedAll run items
fed_all run items takes is owes =
    let body = (run.offered items).body in
    let parts = and_parts (starts_with nat_eq body (child_in items run.child) && each (is_fed_in_turn run.child) items) (implies (owes_whole run items) (is_fed_whole run items)) (implied _ _ is takes) in
    let whole = and_parts (takes_body run && (run.offered items).whole) (bytes_eq (child_in items run.child) body) (implied _ _ parts.1 owes) in
    record {
      whole = (and_parts (takes_body run) (run.offered items).whole whole.0).1;
      all = same_bytes _ _ whole.1;
    }

-- ---- after the exit

output_ends : (k : ℕ) (before : List Item) (x : Item) (later : List Item) → is_child_eof k x ≡ true → output_ended ((before ++ x ∷ []) ++ later) k ≡ true
output_ends k before x later is =
    list_any-append (is_output_end k) (before ++ x ∷ []) later
    ∙ or_left _ _ (list_any-push (is_output_end k) before x ∙ or_right _ _ (or_left _ _ (or_left _ _ is)))

by_output_ended : (run : Run) (items : List Item) → is_by_output run items ≡ true → output_ended items run.child ≡ true
by_output_ended run items is = go (decided_at run items) refl is
  where
    go : (front : Option (List Item)) → decided_at run items ≡ front → is_output_end_of run (option_and_then last_of front) ≡ true → output_ended items run.child ≡ true
    go None at is = absurd (false≢true is)
    go (Some front) at is =
        let f : IsFirst run items front = is_first run items front at in
        let last : last_of front ≡ Some f.item = ap last_of f.ends ∙ last_of-append f.before (f.item ∷ []) in
        let ends : is_child_eof run.child f.item ≡ true = sym (ap (is_output_end_of run) last) ∙ is in
        let whole : items ≡ (f.before ++ f.item ∷ []) ++ f.later = f.within ∙ ap (λ (l : List Item). l ++ f.later) f.ends in
        ap (λ (l : List Item). output_ended l run.child) whole ∙ output_ends run.child f.before f.item f.later ends

pub settled_at_exit : (run : Run) (room : Bool) (heard : List Item) (acts : List Act) (items : List Item) → ChildGood run room heard acts items
    → started items run.child ≡ true → exited items run.child ≡ true → is_decided run items ≡ true → settled items run.child ≡ true
settled_at_exit run room heard acts items good runs gone decided =
    let k = run.child in
    let handled = implied _ _ good.handles_decided runs in
    let parts = and_parts
    (implies (is_decided run items) (input_ended items k) && implies (is_by_other run items) (killed items k || exited items k))
    (implies (is_by_other run items && exited items k) (output_ended items k)) handled in
    let input = implied _ _ (and_parts (implies (is_decided run items) (input_ended items k)) _ parts.0).0 decided in
    let output : output_ended items k ≡ true = elim (cases_Bool (is_by_output run items)) [
      | inl by ↦ by_output_ended run items by
      | inr other ↦ implied _ _ parts.1 (and_from _ _ (and_from _ _ decided (not_from_false _ other)) gone)
    ] in
    or_right (start_refused items k) _ (and_from _ _ (and_from _ _ gone input) output)

-- ---- the test of all rules

pub child_good : (run : Run) (room : Bool) (heard : List Item) (acts : List Act) (items : List Item) → is_child_good run room heard acts items ≡ true → ChildGood run room heard acts items
child_good run room heard acts items is =
    let one = and_parts _ (stops_child run items) is in
    let two = and_parts _ (lingers run room items) one.0 in
    let three = and_parts _ (handles_decided run items) two.0 in
    let four = and_parts _ (feeds run items) three.0 in
    let five = and_parts _ (child_acts run room heard acts items) four.0 in
    let six = and_parts (is_account items run.child) (bodies run items) five.0 in
    record { account = six.0; bodies = six.1; acts_due = five.1; feeds = four.1; handles_decided = three.1; lingers = two.1; stops = one.1 }

pub is_child_good-true : (run : Run) (room : Bool) (heard : List Item) (acts : List Act) (items : List Item) → ChildGood run room heard acts items → is_child_good run room heard acts items ≡ true
is_child_good-true run room heard acts items good =
    and_from _ _ (and_from _ _ (and_from _ _ (and_from _ _ (and_from _ _ (and_from _ _ good.account good.bodies) good.acts_due) good.feeds) good.handles_decided) good.lingers) good.stops
