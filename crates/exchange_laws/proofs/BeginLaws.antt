-- How an exchange begins, and the Start of a script.
use Rattle.std.proofs.Common.{◌≡◌, ℕ, Bool, true, false, List, [], ◌∷◌, ◌++◌, Option, Some, None, refl, sym, ap, subst, ◌∙◌, append-nil, append_assoc, inl}
use Rattle.std.specs.Prelude.{◌||◌, ◌&&◌, if◌then◌else◌, is_some}
use Rattle.std.specs.List.{list_any}
use Rattle.std.proofs.lemmas.Bool.{false≢true, and_left, or_from, or_parts}
use Rattle.std.proofs.lemmas.List.Folds.{list_any-append}
use Rattle.head_lines.specs.Lines.{front_of_parts}
use Rattle.cgi_header.specs.ScriptHeader.{read_header}
use Rattle.host_base.specs.declared.launch.Launch.{Launch}
use Rattle.host_base.specs.declared.site.ScriptKind.{ScriptKind}
use Rattle.host_base.specs.declared.site.ScriptKind.TheVariants.{Cgi, Nph, WebSocket}
use Rattle.head_reader.specs.declared.step.HeadStep.TheVariants as Step
use Rattle.host_trace.specs.declared.items.Act.TheVariants.{Start}
use Rattle.host_trace.specs.declared.items.Event.TheVariants.{ChildBytes, Tick}
use Rattle.host_trace.specs.declared.items.Item.{Item}
use Rattle.host_trace.specs.declared.items.Item.TheVariants.{In, Out}
use Rattle.host_trace.specs.First.{first_front_from, or_else}
use Rattle.host_trace.specs.Kinds.{is_start, names_child, output_heard}
use Rattle.host_trace.specs.Projections.{child_out, start_stands}
use Rattle.reply_kinds.specs.Derived.{is_header_whole}
use Rattle.request_reader.specs.Request.{More, read_request}
use Rattle.request_reader.proofs.ReadingLaws.{reading_at}
use Rattle.request_reader.proofs.RequestLaws.{unbegun_more}
use Rattle.trace_child.specs.Decided.{decides_run, decided_at}
use Rattle.trace_child.specs.Run.{Run}
use Rattle.trace_child.proofs.DecidedLaws.{decided_at-push}
use Rattle.trace_model.specs.Closes.{closes}
use Rattle.trace_model.specs.Demands.{is_tick_after_header}
use Rattle.trace_model.specs.Exchange.{Exchange}
use Rattle.trace_model.specs.Exchanges.{following}
use Rattle.trace_model.specs.Legs.{Leg}
use Rattle.trace_model.specs.Readings.{is_due as due_by_reading}
use Rattle.exchange_reply.specs.Leg.{has_ticked}
use Rattle.exchange_laws.specs.Unanswered.{IsUnready, is_open}
use Rattle.exchange_laws.specs.Items.{FirstIsRead, NextIsRead}

-- ---- the first exchange, and the next

and_same : (b : Bool) → (b && false) ≡ false
and_same true = refl
and_same false = refl

pub first_is_read : FirstIsRead
first_is_read site c two =
    let none : read_request site.limits [] ≡ More None false = reading_at site.limits [] Step.More (unbegun_more site.limits [] two (inl refl)) in (
      record {
        unanswered = record { wrote_only = refl; continues_is = refl };
        none = refl;
        no_child = refl;
        unbroken = refl;
        unready = λ seen. subst (λ r. IsUnready r) (sym none) refl;
      },
      refl,
    )

pub next_is_read : NextIsRead
next_is_read site c e legs continued looked closing more is ended = (
  record {
    unanswered = record {
      wrote_only = refl;
      continues_is =
          ap (λ l. is_open c (following site c e) && due_by_reading (read_request site.limits l))
          (sym (append-nil (following site c e).rest));
    };
    none = refl;
    no_child = refl;
    unbroken = refl;
    unready = λ seen. absurd (false≢true seen);
  },
  ap (λ b. b || closes site c e) is.unclosed ∙ is.closes_is,
)

-- ---- a child that no item names

heard_none : (k : ℕ) (x : Item) → names_child k x ≡ false → output_heard k x ≡ []
heard_none k (In (ChildBytes d bytes)) none = ap (λ (b : Bool). if b then bytes else []) none
heard_none k x none = refl

start_none : (k : ℕ) (x : Item) → names_child k x ≡ false → is_start k x ≡ false
start_none k (Out (Start d c j hop launch)) none = none
start_none k x none = refl

pub no_output : (k : ℕ) (items : List Item) → list_any (names_child k) items ≡ false → child_out items k ≡ []
no_output k [] none = refl
no_output k (x ∷ items) none =
    let parts = or_parts (names_child k x) (list_any (names_child k) items) none in
    ap (λ o. o ++ child_out items k) (heard_none k x parts.0) ∙ no_output k items parts.1

no_start : (k : ℕ) (items : List Item) → list_any (names_child k) items ≡ false → start_stands items k ≡ false
no_start k [] none = refl
no_start k (x ∷ items) none =
    let parts = or_parts (names_child k x) (list_any (names_child k) items) none in
    or_from (is_start k x) (start_stands items k) (start_none k x parts.0) (no_start k items parts.1)

-- it is none of a list's front, then
front_none : (k : ℕ) (before items : List Item) → list_any (names_child k) (before ++ items) ≡ false → list_any (names_child k) before ≡ false
front_none k before items none =
    (or_parts (list_any (names_child k) before) (list_any (names_child k) items) (sym (list_any-append (names_child k) before items) ∙ none)).0

undecided_from : (run : Run) (before items : List Item) → list_any (names_child run.child) (before ++ items) ≡ false
    → first_front_from (decides_run run) before items ≡ None
undecided_from run before [] none = refl
undecided_from run before (x ∷ items) none =
    ap (λ (b : Bool). if b then Some (before ++ x ∷ []) else first_front_from (decides_run run) (before ++ x ∷ []) items)
    (and_left (start_stands before run.child) _ (no_start run.child before (front_none run.child before (x ∷ items) none)))
    ∙ undecided_from run (before ++ x ∷ []) items (ap (λ l. list_any (names_child run.child) l) (append_assoc before (x ∷ []) items) ∙ none)

pub undecided_started : (run : Run) (items : List Item) (d j hop : ℕ) (launch : Launch) → list_any (names_child run.child) items ≡ false
    → decided_at run (items ++ Out (Start run.child d j hop launch) ∷ []) ≡ None
undecided_started run items d j hop launch none =
    decided_at-push run items (Out (Start run.child d j hop launch))
    ∙ ap (λ o. or_else o (if decides_run run items (Out (Start run.child d j hop launch)) then Some (items ++ Out (Start run.child d j hop launch) ∷ []) else None))
    (undecided_from run [] items none)
    ∙ ap (λ (b : Bool). if b then Some (items ++ Out (Start run.child d j hop launch) ∷ []) else None) (and_left (start_stands items run.child) _ (no_start run.child items none))

none_yet : (kind : ScriptKind) → is_header_whole kind [] ≡ false
unfolding is_header_whole read_header front_of_parts
none_yet Cgi = refl
none_yet Nph = refl
none_yet WebSocket = refl

untimed : (leg : Leg) (before : List Item) (x : Item) → child_out before leg.child ≡ [] → is_tick_after_header leg before x ≡ false
untimed leg before (In (Tick secs)) none = ap (is_header_whole leg.kind) none ∙ none_yet leg.kind
untimed leg before x none = refl

unticked_from : (leg : Leg) (before items : List Item) → list_any (names_child leg.child) (before ++ items) ≡ false
    → first_front_from (is_tick_after_header leg) before items ≡ None
unticked_from leg before [] none = refl
unticked_from leg before (x ∷ items) none =
    ap (λ (b : Bool). if b then Some (before ++ x ∷ []) else first_front_from (is_tick_after_header leg) (before ++ x ∷ []) items)
    (untimed leg before x (no_output leg.child before (front_none leg.child before (x ∷ items) none)))
    ∙ unticked_from leg (before ++ x ∷ []) items (ap (λ l. list_any (names_child leg.child) l) (append_assoc before (x ∷ []) items) ∙ none)

pub unticked_yet : (e : Exchange) (leg : Leg) → list_any (names_child leg.child) e.items ≡ false → has_ticked e leg ≡ false
unticked_yet e leg none = ap (λ (o : Option (List Item)). is_some o) (unticked_from leg [] e.items none)
