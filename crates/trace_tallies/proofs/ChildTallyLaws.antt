-- The tally of a child, with one item more.
use Rattle.std.proofs.Common.{◌≡◌, ℕ, ◌+◌, Bool, true, false, List, [], ◌∷◌, ◌++◌, refl, ◌∙◌, ap, add-zero, length, length-append, Option, Some, None, IfSome, IsNone, subst}
use Rattle.std.specs.Prelude.{◌||◌, if◌then◌else◌}
use Rattle.std.proofs.lemmas.Bool.{cond-false}
use Rattle.host_trace.specs.declared.items.Event.TheVariants.{Started, StartFailed, StartFull, ChildBytes, ChildEof, ChildBroken, Took, InputGone, Exited}
use Rattle.host_trace.specs.declared.items.Act.TheVariants.{Start, Feed, EndInput, WantChild, Release}
use Rattle.host_trace.specs.declared.items.Item.{Item}
use Rattle.host_trace.specs.declared.items.Event.{Event}
use Rattle.host_trace.specs.declared.items.Act.{Act}
use Rattle.host_trace.specs.declared.items.Item.TheVariants.{In, Out}
use Rattle.host_trace.specs.Kinds.{names_child, is_child_answer, is_want_child, is_start, is_start_answer, is_started, is_exited, is_input_end, is_output_end, input_fed, count_took}
use Rattle.host_trace.specs.Projections.{child_in}
use Rattle.host_trace.proofs.FirstLaws.{count_by-push, list_any-push}
use Rattle.host_trace.proofs.ProjectionLaws.{child_in-push, took_sum-push}
use Rattle.trace_tallies.specs.declared.child_tally.ChildTally.{ChildTally}
use Rattle.trace_tallies.specs.ChildTallies.{child_tally, child_with, child_heard, child_asked, holds_child}

same : (w w' a a' f f' t t' : ℕ) (s s' n n' r r' e e' i i' o o' : Bool) → w ≡ w' → a ≡ a' → f ≡ f' → t ≡ t' → s ≡ s' → n ≡ n' →
    r ≡ r' → e ≡ e' → i ≡ i' → o ≡ o' →
    (let one : ChildTally = record { wants = w; answers = a; fed = f; took = t; is_asked_for = s; is_answered = n; is_started = r; is_exited = e; is_input_over = i; is_output_over = o } in
    let two : ChildTally = record { wants = w'; answers = a'; fed = f'; took = t'; is_asked_for = s'; is_answered = n'; is_started = r'; is_exited = e'; is_input_over = i'; is_output_over = o' } in one ≡ two)
same w w' a a' f f' t t' s s' n n' r r' e e' i i' o o' p1 p2 p3 p4 p5 p6 p7 p8 p9 p10 =
    rw (p1, p2, p3, p4, p5, p6, p7, p8, p9, p10) refl

-- ---- an item that doesn't name it counts nothing

no_want : (k : ℕ) (x : Item) → names_child k x ≡ false → is_want_child k x ≡ false
no_want k (Out (WantChild d)) other = other
no_want k _ other = refl

no_answer : (k : ℕ) (x : Item) → names_child k x ≡ false → is_child_answer k x ≡ false
no_answer k (In (ChildBytes d bytes)) other = rw other refl
no_answer k (In (ChildEof d)) other = rw other refl
no_answer k (In (ChildBroken d)) other = rw other refl
no_answer k _ other = refl

nothing_fed : (k : ℕ) (x : Item) → names_child k x ≡ false → input_fed k x ≡ []
nothing_fed k (Out (Feed d bytes)) other = cond-false _ _ _ other
nothing_fed k _ other = refl

nothing_taken : (k : ℕ) (x : Item) → names_child k x ≡ false → count_took k x ≡ 0
nothing_taken k (In (Took d n)) other = cond-false _ _ _ other
nothing_taken k _ other = refl

no_start : (k : ℕ) (x : Item) → names_child k x ≡ false → is_start k x ≡ false
no_start k (Out (Start d c j hop launch)) other = other
no_start k _ other = refl

no_start_answer : (k : ℕ) (x : Item) → names_child k x ≡ false → is_start_answer k x ≡ false
no_start_answer k (In (Started d)) other = rw other refl
no_start_answer k (In (StartFailed d)) other = rw other refl
no_start_answer k (In (StartFull d seen)) other = rw other refl
no_start_answer k _ other = refl

not_started : (k : ℕ) (x : Item) → names_child k x ≡ false → is_started k x ≡ false
not_started k (In (Started d)) other = other
not_started k _ other = refl

no_exit : (k : ℕ) (x : Item) → names_child k x ≡ false → is_exited k x ≡ false
no_exit k (In (Exited d)) other = other
no_exit k _ other = refl

no_input_end : (k : ℕ) (x : Item) → names_child k x ≡ false → is_input_end k x ≡ false
no_input_end k (Out (EndInput d)) other = rw other refl
no_input_end k (In (InputGone d)) other = rw other refl
no_input_end k _ other = refl

no_output_end : (k : ℕ) (x : Item) → names_child k x ≡ false → is_output_end k x ≡ false
no_output_end k (In (ChildEof d)) other = rw other refl
no_output_end k (In (ChildBroken d)) other = rw other refl
no_output_end k (Out (Release d)) other = rw other refl
no_output_end k _ other = refl

or_no : (a b : Bool) → b ≡ false → (a || b) ≡ a
or_no true b fails = refl
or_no false b fails = fails

counts_none : (n : ℕ) (b : Bool) → b ≡ false → n + (if b then 1 else 0) ≡ n
counts_none n b fails = rw fails (add-zero n)

adds_none : (n m : ℕ) → m ≡ 0 → n + m ≡ n
adds_none n m fails = rw fails (add-zero n)

pub child_rests : (k : ℕ) (x : Item) (tally : ChildTally) → names_child k x ≡ false → child_with k x tally ≡ tally
child_rests k x tally other =
    same _ _ _ _ _ _ _ _ _ _ _ _ _ _ _ _ _ _ _ _
    (counts_none tally.wants _ (no_want k x other))
    (counts_none tally.answers _ (no_answer k x other))
    (adds_none tally.fed _ (ap length (nothing_fed k x other)))
    (adds_none tally.took _ (nothing_taken k x other))
    (or_no tally.is_asked_for _ (no_start k x other))
    (or_no tally.is_answered _ (no_start_answer k x other))
    (or_no tally.is_started _ (not_started k x other))
    (or_no tally.is_exited _ (no_exit k x other))
    (or_no tally.is_input_over _ (no_input_end k x other))
    (or_no tally.is_output_over _ (no_output_end k x other))

-- ---- the trace with one item more

fed_len-push : (T : List Item) (x : Item) (k : ℕ) → length (child_in (T ++ x ∷ []) k) ≡ length (child_in T k) + length (input_fed k x)
fed_len-push T x k = ap length (child_in-push T x k) ∙ length-append (child_in T k) (input_fed k x)

pub child_tally-push : (T : List Item) (x : Item) (k : ℕ) → child_tally (T ++ x ∷ []) k ≡ child_with k x (child_tally T k)
child_tally-push T x k =
    same _ _ _ _ _ _ _ _ _ _ _ _ _ _ _ _ _ _ _ _
    (count_by-push (is_want_child k) T x)
    (count_by-push (is_child_answer k) T x)
    (fed_len-push T x k)
    (took_sum-push T x k)
    (list_any-push (is_start k) T x)
    (list_any-push (is_start_answer k) T x)
    (list_any-push (is_started k) T x)
    (list_any-push (is_exited k) T x)
    (list_any-push (is_input_end k) T x)
    (list_any-push (is_output_end k) T x)

-- ---- one event, and one act

or_none : (b : Bool) → (b || false) ≡ b
or_none true = refl
or_none false = refl

pub heard_with : (k : ℕ) (event : Event) (t : ChildTally) → child_with k (In event) t ≡ child_heard k event t
heard_with k event t =
    same _ _ _ _ _ _ _ _ _ _ _ _ _ _ _ _ _ _ _ _
    (add-zero t.wants) refl (add-zero t.fed) refl (or_none t.is_asked_for) refl refl refl refl refl

pub asked_with : (k : ℕ) (act : Act) (t : ChildTally) → child_with k (Out act) t ≡ child_asked k act t
asked_with k act t =
    same _ _ _ _ _ _ _ _ _ _ _ _ _ _ _ _ _ _ _ _
    refl (add-zero t.answers) refl (add-zero t.took) refl (or_none t.is_answered) (or_none t.is_started) (or_none t.is_exited) refl refl

pub heard_push : (T : List Item) (event : Event) (k : ℕ) → child_tally (T ++ In event ∷ []) k ≡ child_heard k event (child_tally T k)
heard_push T event k = child_tally-push T (In event) k ∙ heard_with k event (child_tally T k)

pub asked_push : (T : List Item) (act : Act) (k : ℕ) → child_tally (T ++ Out act ∷ []) k ≡ child_asked k act (child_tally T k)
asked_push T act k = child_tally-push T (Out act) k ∙ asked_with k act (child_tally T k)

-- ---- a tally that is there goes on with the trace

pub goes_on : (o : Option ChildTally) (a b : ChildTally) → IfSome o (λ t. t ≡ a) → a ≡ b → IfSome o (λ t. t ≡ b)
goes_on None a b h e = tt
goes_on (Some t) a b h e = h ∙ e

pub none_with : (o : Option ChildTally) (a b : ChildTally) → (IsNone o → holds_child a ≡ false) → a ≡ b → IsNone o → holds_child b ≡ false
none_with o a b h e none = subst (λ t. holds_child t ≡ false) e (h none)
