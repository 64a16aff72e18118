-- The item that decides a run, by what it makes of it.
use Rattle.std.proofs.Common.{◌≡◌, ℕ, Bool, true, false, List, [], ◌∷◌, ◌++◌, Some, refl, sym, ap, ◌∙◌, append-nil, append_assoc, inl, inr, length}
use Rattle.std.specs.Prelude.{if◌then◌else◌, not, ◌&&◌, ◌||◌, ◌==◌, ◌+◌, nat_lt}
use Rattle.std.proofs.lemmas.Bool.{and_parts, eqb-true, false≢true, ltb-true, or_cases}
use Rattle.host_base.specs.declared.cause.Cause.{Cause}
use Rattle.host_base.specs.declared.cause.Cause.TheVariants.{StartFailed as StartFailedCause, OutputBroken, OutputTooLarge, RunTime, Full, Incomplete}
use Rattle.host_base.specs.declared.launch.Launch.{Launch}
use Rattle.host_base.specs.declared.site.Site.{Site}
use Rattle.host_trace.specs.declared.items.Act.TheVariants.{Start}
use Rattle.host_trace.specs.declared.items.Event.TheVariants.{ClientEof, StartFailed, StartFull, ChildBytes, ChildEof, ChildBroken, Tick}
use Rattle.host_trace.specs.declared.items.Item.{Item}
use Rattle.host_trace.specs.declared.items.Item.TheVariants.{In, Out}
use Rattle.host_trace.specs.Decider.{decides, derived, failed, is_last_tick, is_long_text, is_websocket, makes_long_line, passes_output, unanswered}
use Rattle.host_trace.specs.First.{last_of, since}
use Rattle.host_trace.specs.Kinds.{is_start, output_heard}
use Rattle.host_trace.specs.Projections.{child_out, children_of, shut, start_stands, tick_count}
use Rattle.host_trace.proofs.FirstLaws.{flat_map-push, last_of-append}
use Rattle.trace_child.specs.Decided.{cuts_body_short, decides_run, outcome_at}
use Rattle.trace_child.specs.Run.{Run}
use Rattle.trace_child.proofs.DecidedLaws.{Found}
use Rattle.trace_model.specs.Breaks.{break_cause_by, breaks, idle_count, is_breakable, is_idle, is_idle_end}
use Rattle.trace_model.specs.Exchange.{Exchange, has_begun, reading, request_bytes, up_to}
use Rattle.trace_model.specs.Readings.{is_whole}
use Rattle.request_reader.specs.Request.{is_begun}
use Rattle.promise_laws.specs.Grounds.{FailsBy, InterruptsBy}

pub un_not : (b : Bool) → not b ≡ true → b ≡ false
un_not true is = absurd (false≢true is)
un_not false is = refl

-- ---- what an item makes of a run

failed_same : (a b : Cause) → failed a ≡ failed b → b ≡ a
failed_same a b e = cc

unanswered_not_failed : (cause : Cause) → unanswered ≡ failed cause → ⊥
unanswered_not_failed cause e = cc

derived_not_failed : (cause : Cause) → derived ≡ failed cause → ⊥
derived_not_failed cause e = cc

failed_not_derived : (cause : Cause) → failed cause ≡ derived → ⊥
failed_not_derived cause e = cc

unanswered_not_derived : unanswered ≡ derived → ⊥
unanswered_not_derived e = cc

-- a test that passes gives a cause, and one that fails none
by_test : (b w : Bool) (own cause : Cause) → (if b then failed own else (if w then unanswered else unanswered)) ≡ failed cause → (b ≡ true) × (cause ≡ own)
by_test true w own cause is = (refl, failed_same own cause is)
by_test false true own cause is = absurd (unanswered_not_failed cause is)
by_test false false own cause is = absurd (unanswered_not_failed cause is)

-- .. of a script that is no WebSocket's
by_kind : (w b : Bool) (own cause : Cause) → (if w then unanswered else (if b then failed own else unanswered)) ≡ failed cause → (w ≡ false) × (b ≡ true) × (cause ≡ own)
by_kind true b own cause is = absurd (unanswered_not_failed cause is)
by_kind false true own cause is = (refl, refl, failed_same own cause is)
by_kind false false own cause is = absurd (unanswered_not_failed cause is)

no_cause : (w : Bool) (cause : Cause) → (if w then unanswered else unanswered) ≡ failed cause → ⊥
no_cause true cause is = unanswered_not_failed cause is
no_cause false cause is = unanswered_not_failed cause is

no_cause_by_output : (b w : Bool) (cause : Cause) → (if b then derived else (if w then unanswered else unanswered)) ≡ failed cause → ⊥
no_cause_by_output true w cause is = derived_not_failed cause is
no_cause_by_output false true cause is = unanswered_not_failed cause is
no_cause_by_output false false cause is = unanswered_not_failed cause is

-- the test of a kind of script, where it is known
of_kind : (w a b : Bool) → w ≡ false → (if w then a else b) ≡ true → b ≡ true
of_kind true a b other is = absurd (false≢true (sym other))
of_kind false a b other is = is

not_by_kind : (w a : Bool) → (if w then a && false else false) ≡ true → ⊥
not_by_kind true true is = absurd (false≢true is)
not_by_kind true false is = absurd (false≢true is)
not_by_kind false a is = absurd (false≢true is)

pub fails_by : (run : Run) (front : List Item) (item : Item) (cause : Cause) → decides_run run front item ≡ true → outcome_at run item ≡ failed cause → FailsBy run front item cause
fails_by run front (In (StartFailed k)) cause decides_it is =
    let p = by_test (run.child == k) (is_websocket run.kind) StartFailedCause cause is in
    (sym (eqb-true run.child k p.0), p.1)
fails_by run front (In (StartFull k seen)) cause decides_it is =
    let p = by_test (run.child == k) (is_websocket run.kind) (Full seen) cause is in
    (sym (eqb-true run.child k p.0), p.1)
fails_by run front (In (ChildBroken k)) cause decides_it is =
    let p = by_test (run.child == k) (is_websocket run.kind) OutputBroken cause is in
    (sym (eqb-true run.child k p.0), p.1)
fails_by run front (In (ChildBytes k bytes)) cause decides_it is =
    let p = by_kind (is_websocket run.kind) (run.child == k) OutputTooLarge cause is in
    let x : Item = In (ChildBytes k bytes) in
    let later : List Item = since (is_start run.child) front in
    let d = and_parts (start_stands front run.child) (decides run.limits run.kind run.conn run.child later x || cuts_body_short run front x) decides_it in
    elim (or_cases (decides run.limits run.kind run.conn run.child later x) (cuts_body_short run front x) d.1) [
      | inl passes ↦
          let rows = of_kind (is_websocket run.kind) (not (shut later run.conn) && (is_long_text run.limits run.conn x || makes_long_line run.limits run.child later x)) (passes_output run.limits run.child later x || is_last_tick run.limits later x) p.0 passes in
          elim (or_cases (passes_output run.limits run.child later x) (is_last_tick run.limits later x) rows) [
            | inl too_much ↦ (
              sym (eqb-true run.child k p.1),
              ltb-true run.limits.output (length (child_out (later ++ x ∷ []) run.child)) (and_parts (run.child == k) (nat_lt run.limits.output (length (child_out (later ++ x ∷ []) run.child))) too_much).1,
              p.2,
            )
            | inr tick ↦ absurd (false≢true tick)
          ]
      | inr never ↦ absurd (false≢true never)
    ]
fails_by run front (In (Tick secs)) cause decides_it is =
    let p = by_kind (is_websocket run.kind) true RunTime cause is in
    let x : Item = In (Tick secs) in
    let later : List Item = since (is_start run.child) front in
    let d = and_parts (start_stands front run.child) (decides run.limits run.kind run.conn run.child later x || cuts_body_short run front x) decides_it in
    elim (or_cases (decides run.limits run.kind run.conn run.child later x) (cuts_body_short run front x) d.1) [
      | inl passes ↦
          let rows = of_kind (is_websocket run.kind) (not (shut later run.conn) && (is_long_text run.limits run.conn x || makes_long_line run.limits run.child later x)) (passes_output run.limits run.child later x || is_last_tick run.limits later x) p.0 passes in
          (eqb-true (tick_count later + 1) run.limits.run_ticks rows, p.2)
      | inr never ↦ absurd (false≢true never)
    ]
fails_by run front (In (ClientEof c)) cause decides_it is =
    let p = by_test (run.conn == c) (is_websocket run.kind) Incomplete cause is in
    let x : Item = In (ClientEof c) in
    let later : List Item = since (is_start run.child) front in
    let d = and_parts (start_stands front run.child) (decides run.limits run.kind run.conn run.child later x || cuts_body_short run front x) decides_it in
    elim (or_cases (decides run.limits run.kind run.conn run.child later x) (cuts_body_short run front x) d.1) [
      | inl passes ↦ absurd (not_by_kind (is_websocket run.kind) (not (shut later run.conn)) passes)
      | inr short ↦
          let q = and_parts (run.conn == c) (not (run.offered front).whole) short in
          (sym (eqb-true run.conn c q.0), un_not (run.offered front).whole q.1, p.1)
    ]
fails_by run front (In (ChildEof k)) cause decides_it is = absurd (no_cause_by_output (run.child == k) (is_websocket run.kind) cause is)
fails_by run front _ cause decides_it is = absurd (no_cause (is_websocket run.kind) cause is)

-- ---- the end of its output

not_by_test : (b w : Bool) (own : Cause) → (if b then failed own else (if w then unanswered else unanswered)) ≡ derived → ⊥
not_by_test true w own is = failed_not_derived own is
not_by_test false true own is = unanswered_not_derived is
not_by_test false false own is = unanswered_not_derived is

not_of_kind : (w b : Bool) (own : Cause) → (if w then unanswered else (if b then failed own else unanswered)) ≡ derived → ⊥
not_of_kind true b own is = unanswered_not_derived is
not_of_kind false true own is = failed_not_derived own is
not_of_kind false false own is = unanswered_not_derived is

not_unanswered : (w : Bool) → (if w then unanswered else unanswered) ≡ derived → ⊥
not_unanswered true is = unanswered_not_derived is
not_unanswered false is = unanswered_not_derived is

is_output : (b w : Bool) → (if b then derived else (if w then unanswered else unanswered)) ≡ derived → b ≡ true
is_output true w is = refl
is_output false true is = absurd (unanswered_not_derived is)
is_output false false is = absurd (unanswered_not_derived is)

pub ends_by : (run : Run) (item : Item) → outcome_at run item ≡ derived → item ≡ In (ChildEof run.child)
ends_by run (In (ChildEof k)) is = ap (λ (n : ℕ). In (ChildEof n)) (sym (eqb-true run.child k (is_output (run.child == k) (is_websocket run.kind) is)))
ends_by run (In (StartFailed k)) is = absurd (not_by_test (run.child == k) (is_websocket run.kind) StartFailedCause is)
ends_by run (In (StartFull k seen)) is = absurd (not_by_test (run.child == k) (is_websocket run.kind) (Full seen) is)
ends_by run (In (ChildBroken k)) is = absurd (not_by_test (run.child == k) (is_websocket run.kind) OutputBroken is)
ends_by run (In (ClientEof c)) is = absurd (not_by_test (run.conn == c) (is_websocket run.kind) Incomplete is)
ends_by run (In (ChildBytes k bytes)) is = absurd (not_of_kind (is_websocket run.kind) (run.child == k) OutputTooLarge is)
ends_by run (In (Tick secs)) is = absurd (not_of_kind (is_websocket run.kind) true RunTime is)
ends_by run _ is = absurd (not_unanswered (is_websocket run.kind) is)

-- ---- the item that is found

pub last_found : {test : List Item → Item → Bool} {items front : List Item} → (f : Found test [] items front) → last_of front ≡ Some f.item
last_found f = ap last_of f.ends ∙ last_of-append f.before (f.item ∷ [])

pub found_within : {test : List Item → Item → Bool} {items front : List Item} → (f : Found test [] items front) → items ≡ f.before ++ f.item ∷ f.later
found_within f = f.within ∙ append_assoc f.before (f.item ∷ []) f.later

-- the end of an output brings no byte of it
pub out_at_end : (before : List Item) (k : ℕ) → child_out (before ++ In (ChildEof k) ∷ []) k ≡ child_out before k
out_at_end before k = flat_map-push (output_heard k) before (In (ChildEof k)) ∙ append-nil (child_out before k)

-- ---- the Start of a hop

pub record HasHop (c j hop : ℕ) (items : List Item) (k : ℕ) : Type 0 where
  pub before : List Item
  pub launch : Launch
  pub later : List Item
  pub stands : items ≡ before ++ Out (Start k c j hop launch) ∷ later

hop_behind : (c j hop : ℕ) (x : Item) (items : List Item) (k : ℕ) → HasHop c j hop items k → HasHop c j hop (x ∷ items) k
hop_behind c j hop x items k s = record { before = x ∷ s.before; launch = s.launch; later = s.later; stands = ap (λ (l : List Item). x ∷ l) s.stands }

hop_here : (c d j i hop h k m : ℕ) (launch : Launch) (items : List Item) → (c == d && j == i && hop == h) ≡ true → m ≡ k → HasHop c j hop (Out (Start m d i h launch) ∷ items) k
hop_here c d j i hop h k m launch items same is =
    let p = and_parts (c == d && j == i) (hop == h) same in
    let q = and_parts (c == d) (j == i) p.0 in
    record {
      before = [];
      launch = launch;
      later = items;
      stands = ap (λ (n : ℕ). Out (Start n d i h launch) ∷ items) is
          ∙ (ap (λ (n : ℕ). Out (Start k n i h launch) ∷ items) (sym (eqb-true c d q.0))
          ∙ (ap (λ (n : ℕ). Out (Start k c n h launch) ∷ items) (sym (eqb-true j i q.1))
          ∙ ap (λ (n : ℕ). Out (Start k c j n launch) ∷ items) (sym (eqb-true hop h p.1))));
    }

pub hop_start : (c j hop : ℕ) (items : List Item) (k : ℕ) (ks : List ℕ) → children_of items c j hop ≡ k ∷ ks → HasHop c j hop items k
hop_start c j hop [] k ks is = absurd (cc)
hop_start c j hop (Out (Start m d i h launch) ∷ items) k ks is = go (hop_start c j hop items k ks) (c == d && j == i && hop == h) refl is
  where
    first_is : (m k : ℕ) (ms ks : List ℕ) → m ∷ ms ≡ k ∷ ks → m ≡ k
    first_is m k ms ks e = cc

    go : (children_of items c j hop ≡ k ∷ ks → HasHop c j hop items k) → (b : Bool) → (c == d && j == i && hop == h) ≡ b
        → (if b then m ∷ [] else []) ++ children_of items c j hop ≡ k ∷ ks → HasHop c j hop (Out (Start m d i h launch) ∷ items) k
    go behind true same is = hop_here c d j i hop h k m launch items same (first_is m k (children_of items c j hop) ks is)
    go behind false same is = hop_behind c j hop (Out (Start m d i h launch)) items k (behind is)
hop_start c j hop (x ∷ items) k ks is = hop_behind c j hop x items k (hop_start c j hop items k ks is)

-- ---- the item that breaks a request

pub interrupts_by : (site : Site) (c : ℕ) (e : Exchange) (front : List Item) (item : Item) (cause : Cause) → breaks site c e front item ≡ true → break_cause_by (Some item) ≡ cause
    → InterruptsBy site c e front item cause
interrupts_by site c e front (In (ClientEof d)) cause passes named =
    let p = and_parts (c == d && not (is_whole (reading site c (up_to e front)))) (is_breakable site c e front) passes in
    let q = and_parts (c == d) (not (is_whole (reading site c (up_to e front)))) p.0 in
    (eqb-true c d q.0, un_not (is_whole (reading site c (up_to e front))) q.1, sym named)
interrupts_by site c e front (In (Tick secs)) cause passes named =
    let p = and_parts (is_idle_end site.limits c front) (is_breakable site c e front) passes in
    let q = and_parts (is_idle c front) (idle_count c front + 1 == site.limits.idle_ticks) p.0 in
    (eqb-true (idle_count c front + 1) site.limits.idle_ticks q.1, sym named)
interrupts_by site c e front _ cause passes named = absurd (false≢true passes)

pub was_breakable : (site : Site) (c : ℕ) (e : Exchange) (front : List Item) (item : Item) → breaks site c e front item ≡ true → is_breakable site c e front ≡ true
was_breakable site c e front (In (ClientEof d)) passes =
    (and_parts (c == d && not (is_whole (reading site c (up_to e front)))) (is_breakable site c e front) passes).1
was_breakable site c e front (In (Tick secs)) passes = (and_parts (is_idle_end site.limits c front) (is_breakable site c e front) passes).1
was_breakable site c e front _ passes = absurd (false≢true passes)

pub record WasBreakable (site : Site) (c : ℕ) (e : Exchange) (front : List Item) : Type 0 where
  pub begun : is_begun (request_bytes c (up_to e front)) ≡ true
  pub undone : has_begun site c (up_to e front) ≡ false

pub breakable_is : (site : Site) (c : ℕ) (e : Exchange) (front : List Item) → is_breakable site c e front ≡ true → WasBreakable site c e front
breakable_is site c e front is =
    let p = and_parts (not (shut e.before c || shut front c) && not (has_begun site c (up_to e front))) (is_begun (request_bytes c (up_to e front))) is in
    let q = and_parts (not (shut e.before c || shut front c)) (not (has_begun site c (up_to e front))) p.0 in
    record { begun = p.1; undone = un_not (has_begun site c (up_to e front)) q.1 }
