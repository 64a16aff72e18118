-- No reply is left out.
use Rattle.std.proofs.Common.{◌≡◌, ℕ, ◌<◌, Bool, true, false, List, [], ◌∷◌, ◌++◌, map, Option, Some, None, refl, sym, ap, ◌∙◌, subst, inl, inr}
use Rattle.std.specs.Prelude.{if◌then◌else◌, is_some, not, ◌&&◌, ◌||◌, ◌==◌, ◌⊎◌}
use Rattle.std.specs.List.{AllByRecursion, list_any}
use Rattle.std.proofs.lemmas.Bool.{and_from, and_parts, cases_Bool, cond-false, eq-eqb, false≢true, lt-ltb, or_cases, or_left, or_parts, or_right}
use Rattle.std.proofs.lemmas.List.Folds.{list_any-append}
use Rattle.host_base.specs.declared.launch.Launch.{Launch}
use Rattle.host_base.specs.declared.site.Site.{Site}
use Rattle.host_trace.specs.declared.items.Act.{Act}
use Rattle.host_trace.specs.declared.items.Act.TheVariants.{Shut, Start}
use Rattle.host_trace.specs.declared.items.Event.{Event}
use Rattle.host_trace.specs.declared.items.Event.TheVariants.{ChildEof}
use Rattle.host_trace.specs.declared.items.Item.{Item}
use Rattle.host_trace.specs.declared.items.Item.TheVariants.{In, Out}
use Rattle.host_trace.specs.declared.items.Why.{Why}
use Rattle.host_trace.specs.declared.items.Why.TheVariants.{Done, Full, Gone, Idle, NoMemory, Stopped}
use Rattle.host_trace.specs.First.{or_else}
use Rattle.host_trace.specs.Kinds.{is_accepted, is_client_gone, is_event, is_no_room, is_shut, is_shut_for_memory, is_stop, is_ws_bad}
use Rattle.host_trace.specs.Projections.{accepted_count, children, own, shut, shut_for_memory, stopped}
use Rattle.host_trace.specs.Trace.{AtEachStep, Step, after_step, end_of, step_of, steps_from}
use Rattle.host_trace.proofs.FirstLaws.{first_front-push}
use Rattle.reply_kinds.specs.declared.derived.Derived.{Derived}
use Rattle.reply_kinds.specs.declared.derived.Derived.TheVariants as Output
use Rattle.request_reader.specs.Request.{is_begun}
use Rattle.trace_child.specs.Words.{is_filled}
use Rattle.trace_child.proofs.WordLaws.{implied}
use Rattle.trace_model.specs.Answer.{Stage, answer, answer_at, answered, is_final, stage}
use Rattle.trace_model.specs.Breaks.{idled, idles_out}
use Rattle.trace_model.specs.Closes.{closes}
use Rattle.trace_model.specs.Demands.{client_ended, is_live, may_go_on, must_answer, waits_its_turn}
use Rattle.trace_model.specs.Exchange.{Exchange, all_of, has_begun, has_final, has_start, pushed, request_bytes}
use Rattle.trace_model.specs.Exchanges.{current, current_after, has_ended, next_by, next_of}
use Rattle.trace_model.specs.Good.{GoodFor, StepGood, begins_with_event}
use Rattle.trace_model.specs.Legs.{Leg}
use Rattle.trace_model.specs.Sameness.{is_same_why}
use Rattle.trace_model.specs.Shuts.{are_whys, cut_cause, has_closed, is_client_done, is_done, is_gone, is_talk_over_at, is_turned_away, or_why, shuts, why_due, why_of_cut, whys_due, whys_given}
use Rattle.trace_model.specs.Standing.{stands_whole}
use Rattle.trace_model.proofs.SamenessLaws.{all_same, same_why}
use Rattle.trace_model.specs.Steps.{goes_on}
use Rattle.trace_model.proofs.ExchangeLaws.{all_of-current, current-append}
use Rattle.trace_laws.specs.Promised.{Promised}
use Rattle.trace_laws.proofs.ListLaws.{any-left, any-right}
use Rattle.trace_laws.proofs.PrefixLaws.{stands}
use Rattle.promise_laws.specs.Grounds.{HasOutput, IsRun}
use Rattle.promise_laws.specs.PromiseLaws.{IsCompleteAt}
use Rattle.promise_laws.proofs.GroundLaws.{Ground, stage_grounded}
use Rattle.promise_laws.proofs.RunLaws.{un_not}

-- ---- what an answered exchange has

pub record HasRun (site : Site) (c : ℕ) (e : Exchange) (leg : Leg) : Type 0 where
  pub run : IsRun site c e leg
  pub output : List ℕ
  pub ended : HasOutput site c e leg output

ground_of : (site : Site) (c : ℕ) (e : Exchange) (leg : Leg) (output : Derived) → Ground site c e (answered leg output) → HasRun site c e leg
ground_of site c e leg (Output.Hop location) g = absurd g
ground_of site c e leg (Output.Reply reply) g = record { run = g.0; output = g.1.output; ended = g.1.ended }
ground_of site c e leg (Output.Raw bytes) g = record { run = g.0; output = g.1.output; ended = g.1.ended }
ground_of site c e leg (Output.Bad cause) g = record { run = g.0; output = g.1.output; ended = g.1.ended }

run_of_stage : (site : Site) (c : ℕ) (e : Exchange) (leg : Leg) (output : Derived) → stage site c e ≡ answered leg output → HasRun site c e leg
run_of_stage site c e leg output is = ground_of site c e leg output (subst (Ground site c e) is (stage_grounded site c e))

-- an output that has ended is an event of the exchange
has_event : (site : Site) (c : ℕ) (e : Exchange) (leg : Leg) → HasRun site c e leg → list_any is_event e.items ≡ true
has_event site c e leg h = ap (λ (l : List Item). list_any is_event l) h.ended.ends ∙ any-right is_event h.ended.before (In (ChildEof leg.child) ∷ h.ended.later) refl

children_behind : (c k j hop : ℕ) (before later : List Item) (launch : Launch) → is_filled (children (before ++ Out (Start k c j hop launch) ∷ later) c) ≡ true
children_behind c k j hop [] later launch = ap (λ (b : Bool). is_filled ((if b then k ∷ [] else []) ++ children later c)) (eq-eqb c c refl)
children_behind c k j hop (Out (Start m d i h l) ∷ before) later launch = go (c == d) (children_behind c k j hop before later launch)
  where
    go : (b : Bool) → is_filled (children (before ++ Out (Start k c j hop launch) ∷ later) c) ≡ true
        → is_filled ((if b then m ∷ [] else []) ++ children (before ++ Out (Start k c j hop launch) ∷ later) c) ≡ true
    go true rest = refl
    go false rest = rest
children_behind c k j hop (x ∷ before) later launch = children_behind c k j hop before later launch

was_started : (site : Site) (c : ℕ) (e : Exchange) (leg : Leg) → HasRun site c e leg → has_start c e ≡ true
was_started site c e leg h =
    let r = h.run.ran in
    ap (λ (l : List Item). is_filled (children l c)) r.started ∙ children_behind c leg.child e.number leg.hop r.before r.later r.launch

-- ---- whys

no_whys : (c : ℕ) (acts : List Act) → shut (map Out acts) c ≡ false → whys_given c acts ≡ []
no_whys c [] none = refl
no_whys c (Shut d why ∷ acts) none =
    let p = or_parts (c == d) (shut (map Out acts) c) none in
    ap (λ (l : List Why). l ++ whys_given c acts) (cond-false (c == d) (why ∷ []) [] p.0) ∙ no_whys c acts p.1
no_whys c (act ∷ acts) none = no_whys c acts none

whys_shut : (c : ℕ) (acts : List Act) (whys : List Why) → whys_given c acts ≡ NoMemory ∷ whys → shut_for_memory (map Out acts) c ≡ true
whys_shut c [] whys is = absurd (cc)
whys_shut c (Shut d why ∷ acts) whys is = go (whys_shut c acts whys) (c == d) refl is
  where
    first_is : (a b : Why) (xs ys : List Why) → a ∷ xs ≡ b ∷ ys → a ≡ b
    first_is a b xs ys e = cc

    go : (whys_given c acts ≡ NoMemory ∷ whys → shut_for_memory (map Out acts) c ≡ true) → (b : Bool) → (c == d) ≡ b
        → (if b then why ∷ [] else []) ++ whys_given c acts ≡ NoMemory ∷ whys → shut_for_memory (map Out (Shut d why ∷ acts)) c ≡ true
    go rest true same is =
        or_left _ (shut_for_memory (map Out acts) c)
        (ap (λ (w : Why). is_shut_for_memory c (Out (Shut d w))) (first_is why NoMemory (whys_given c acts) whys is) ∙ and_from (c == d) true same refl)
    go rest false same is = or_right _ (shut_for_memory (map Out acts) c) (rest is)
whys_shut c (act ∷ acts) whys is = whys_shut c acts whys is

some_whys : (c : ℕ) (acts : List Act) → shut (map Out acts) c ≡ true → whys_given c acts ≡ [] → ⊥
some_whys c [] some none = false≢true some
some_whys c (Shut d why ∷ acts) some none = go (some_whys c acts) (c == d) some none
  where
    go : (shut (map Out acts) c ≡ true → whys_given c acts ≡ [] → ⊥) → (b : Bool) → (b || shut (map Out acts) c) ≡ true → (if b then why ∷ [] else []) ++ whys_given c acts ≡ [] → ⊥
    go rest true some none = cc
    go rest false some none = rest some none
some_whys c (act ∷ acts) some none = some_whys c acts some none

-- ---- what an open connection has no reason for

abbrev done_or_none : Site → ℕ → Exchange → Option Why
done_or_none site c e = if is_done site c e then Some Done else None

abbrev idle_or : Site → ℕ → Exchange → Option Why
idle_or site c e = if is_some (idled site c e) then Some Idle else done_or_none site c e

abbrev cut_or : Site → ℕ → Exchange → Option Why
cut_or site c e = or_why (why_of_cut (cut_cause (answer site c e))) (idle_or site c e)

abbrev memory_or : Site → ℕ → Exchange → Option Why
memory_or site c e = if list_any (is_no_room c) (all_of e) then Some NoMemory else cut_or site c e

abbrev gone_or : Site → ℕ → Exchange → Option Why
gone_or site c e = if is_gone c (all_of e) then Some Gone else memory_or site c e

abbrev stopped_or : Site → ℕ → Exchange → Option Why
stopped_or site c e = if stopped (all_of e) then Some Stopped else gone_or site c e

not_some : (b : Bool) (why : Why) (rest : Option Why) → (if b then Some why else rest) ≡ None → (b ≡ false) × (rest ≡ None)
not_some true why rest is = absurd (cc)
not_some false why rest is = (refl, is)

or_none : (a b : Option Why) → or_why a b ≡ None → b ≡ None
or_none None b is = is
or_none (Some why) b is = absurd (cc)

is_none : {X : Type 0} (o : Option X) → is_some o ≡ false → o ≡ None
is_none None is = refl
is_none (Some x) is = absurd (false≢true (sym is))

record NoReason (site : Site) (c : ℕ) (e : Exchange) : Type 0 where
  going : stopped (all_of e) ≡ false
  staying : is_gone c (all_of e) ≡ false
  roomy : list_any (is_no_room c) (all_of e) ≡ false
  calm : idled site c e ≡ None
  undone : is_done site c e ≡ false

no_reason : (site : Site) (c : ℕ) (e : Exchange) → list_any is_accepted (all_of e) ≡ true → why_due site c e ≡ None → NoReason site c e
no_reason site c e accepted none =
    let one = sym (cond-false (not (list_any is_accepted (all_of e))) None (stopped_or site c e) (ap not accepted)) ∙ none in
    let a = not_some (stopped (all_of e)) Stopped (gone_or site c e) one in
    let b = not_some (is_gone c (all_of e)) Gone (memory_or site c e) a.1 in
    let d = not_some (list_any (is_no_room c) (all_of e)) NoMemory (cut_or site c e) b.1 in
    let i = not_some (is_some (idled site c e)) Idle (done_or_none site c e) (or_none (why_of_cut (cut_cause (answer site c e))) (idle_or site c e) d.1) in
    record { going = a.0; staying = b.0; roomy = d.0; calm = is_none (idled site c e) i.0; undone = (not_some (is_done site c e) Done None i.1).0 }

abbrev or_memory : Site → ℕ → Step → List Why → Bool
or_memory site c s given = are_whys given (whys_due (why_due site c (goes_on site c s))) || are_whys given (NoMemory ∷ []) || is_turned_away s given

while_unshut : (site : Site) (c : ℕ) (s : Step) → shut s.before c ≡ false → shuts site c s ≡ true → or_memory site c s (whys_given c s.acts) ≡ true
while_unshut site c s unshut rule = sym (cond-false (shut s.before c) (are_whys (whys_given c s.acts) []) (or_memory site c s (whys_given c s.acts)) unshut) ∙ rule

none_due : (w : Option Why) → are_whys [] (whys_due w) ≡ true → w ≡ None
none_due None is = refl
none_due (Some why) is = absurd (false≢true is)

shut_parts : (c : ℕ) (s : Step) → shut (end_of s) c ≡ false → (shut s.before c ≡ false) × (shut (map Out s.acts) c ≡ false)
shut_parts c s none = or_parts (shut s.before c) (shut (map Out s.acts) c) (sym (list_any-append (is_shut c) s.before (In s.event ∷ map Out s.acts)) ∙ none)

-- at the end of a good step an open connection has none
open_after : (site : Site) (c : ℕ) (s : Step) → StepGood site c s → is_live c (end_of s) ≡ true → why_due site c (goes_on site c s) ≡ None
open_after site c s good live =
    let p = and_parts (list_any is_accepted (end_of s)) (not (shut (end_of s) c)) live in
    let q = shut_parts c s (un_not (shut (end_of s) c) p.1) in
    let rule : or_memory site c s [] ≡ true = ap (or_memory site c s) (sym (no_whys c s.acts q.1)) ∙ while_unshut site c s q.0 good.good.shuts in
    elim (or_cases (are_whys [] (whys_due (why_due site c (goes_on site c s))) || are_whys [] (NoMemory ∷ [])) (is_turned_away s []) rule) [
      | inl one ↦ elim (or_cases (are_whys [] (whys_due (why_due site c (goes_on site c s)))) (are_whys [] (NoMemory ∷ [])) one) [
        | inl due ↦ none_due (why_due site c (goes_on site c s)) due
        | inr memory ↦ absurd (false≢true memory)
      ]
      | inr away ↦ absurd (false≢true (and_parts (is_accepted (In s.event)) (are_whys [] (Full ∷ [])) away).1)
    ]

-- ---- an exchange that goes on, or one that begins within the step

record Calm (site : Site) (c : ℕ) (e : Exchange) : Type 0 where
  calm : idled site c e ≡ None
  open_or_new : (e.closed ≡ false) ⊎ (list_any is_event e.items ≡ false)

idled_push : (site : Site) (c : ℕ) (e : Exchange) (x : Item) → idled site c e ≡ None → idles_out c site e e.items x ≡ false → idled site c (pushed e x) ≡ None
idled_push site c e x none quiet =
    first_front-push (idles_out c site e) e.items x
    ∙ (ap (λ o. or_else o (if idles_out c site e e.items x then Some (e.items ++ x ∷ []) else None)) none
    ∙ ap (λ (b : Bool). if b then Some (e.items ++ x ∷ []) else None) quiet)

calm_event : (site : Site) (c : ℕ) (e : Exchange) (event : Event) → e.closed ≡ false → idled site c e ≡ None → idles_out c site e e.items (In event) ≡ false → Calm site c (next_of site c e (In event))
calm_event site c e event unclosed none quiet = go (has_ended site c (pushed e (In event)))
  where
    go : (b : Bool) → Calm site c (next_by site c (pushed e (In event)) b)
    go true = record { calm = refl; open_or_new = inr refl }
    go false = record { calm = idled_push site c e (In event) none quiet; open_or_new = inl unclosed }

calm_act : (site : Site) (c : ℕ) (e : Exchange) (act : Act) → Calm site c e → Calm site c (next_of site c e (Out act))
calm_act site c e act is = go (has_ended site c (pushed e (Out act)))
  where
    pushed_on : (e.closed ≡ false) ⊎ (list_any is_event e.items ≡ false) → (e.closed ≡ false) ⊎ (list_any is_event (e.items ++ Out act ∷ []) ≡ false)
    pushed_on (inl unclosed) = inl unclosed
    pushed_on (inr new) = inr (list_any-append is_event e.items (Out act ∷ []) ∙ ap (λ (b : Bool). b || false) new)

    go : (b : Bool) → Calm site c (next_by site c (pushed e (Out act)) b)
    go true = record { calm = refl; open_or_new = inr refl }
    go false = record { calm = idled_push site c e (Out act) is.calm refl; open_or_new = pushed_on is.open_or_new }

calm_acts : (site : Site) (c : ℕ) (e : Exchange) (acts : List Act) → Calm site c e → Calm site c (current_after site c e (map Out acts))
calm_acts site c e [] is = is
calm_acts site c e (act ∷ acts) is = calm_acts site c (next_of site c e (Out act)) acts (calm_act site c e act is)

no_acts : (test : Item → Bool) → ((act : Act) → test (Out act) ≡ false) → (acts : List Act) → list_any test (map Out acts) ≡ false
no_acts test none [] = refl
no_acts test none (act ∷ acts) = ap (λ (b : Bool). b || list_any test (map Out acts)) (none act) ∙ no_acts test none acts

-- ---- one step

module _ (site : Site) (c : ℕ) (s : Step) (good : StepGood site c s) (leg : Leg) (output : Derived) (is : stage site c (goes_on site c s) ≡ answered leg output) where
  final_output : (o : Derived) → Ground site c (goes_on site c s) (answered leg o) → is_final (answer_at (answered leg o)) ≡ true
  final_output (Output.Hop location) g = absurd g
  final_output (Output.Reply reply) g = refl
  final_output (Output.Raw bytes) g = refl
  final_output (Output.Bad cause) g = refl

  pub stands_open : is_live c (end_of s) ≡ true → stands_whole site c (goes_on site c s) ≡ true
  stands_open live =
      let e = goes_on site c s in
      let ground : Ground site c (goes_on site c s) (answered leg output) = subst (Ground site c (goes_on site c s)) is (stage_grounded site c (goes_on site c s)) in
      let due : must_answer site c (goes_on site c s) ≡ true =
      and_from (is_live c (all_of (goes_on site c s)) && is_final (answer site c (goes_on site c s))) (not (waits_its_turn (stage site c (goes_on site c s))) || may_go_on c (goes_on site c s))
      (and_from (is_live c (all_of (goes_on site c s))) (is_final (answer site c (goes_on site c s)))
      (ap (is_live c) (all_of-current site c (end_of s)) ∙ live) (ap (λ (t : Stage). is_final (answer_at t)) is ∙ final_output output ground))
      (or_left (not (waits_its_turn (stage site c (goes_on site c s)))) (may_go_on c (goes_on site c s)) (ap (λ (t : Stage). not (waits_its_turn t)) is)) in
      implied (must_answer site c (goes_on site c s)) (stands_whole site c (goes_on site c s)) good.ready.answers due

  module _ (was : why_due site c (current site c s.before) ≡ None) (live : is_live c s.before ≡ true) (k : ℕ) (eof : s.event ≡ ChildEof k) where
    accepted_before : list_any is_accepted s.before ≡ true
    accepted_before = (and_parts (list_any is_accepted s.before) (not (shut s.before c)) live).0

    unshut_before : shut s.before c ≡ false
    unshut_before = un_not (shut s.before c) (and_parts (list_any is_accepted s.before) (not (shut s.before c)) live).1

    has_run : HasRun site c (goes_on site c s) leg
    has_run = run_of_stage site c (goes_on site c s) leg output is

    reason : NoReason site c (current site c s.before)
    reason = no_reason site c (current site c s.before) (ap (list_any is_accepted) (all_of-current site c s.before) ∙ accepted_before) was

    unclosed : (current site c s.before).closed ≡ false
    unclosed =
        let p = or_parts (has_closed site c (current site c s.before) || is_client_done site c (current site c s.before)) (is_talk_over_at site c (current site c s.before) (stage site c (current site c s.before))) reason.undone in
        let q = or_parts (has_closed site c (current site c s.before)) (is_client_done site c (current site c s.before)) p.0 in
        (or_parts (current site c s.before).closed (stands_whole site c (current site c s.before) && closes site c (current site c s.before)) q.0).0

    calm_now : Calm site c (goes_on site c s)
    calm_now =
        subst (Calm site c) (sym (current-append site c s.before (In s.event ∷ map Out s.acts)))
        (calm_acts site c (next_of site c (current site c s.before) (In s.event)) s.acts
        (calm_event site c (current site c s.before) s.event unclosed reason.calm
        (ap (λ (ev : Event). idles_out c site (current site c s.before) (current site c s.before).items (In ev)) eof)))

    -- no item of the step passes a test that neither the end of an output nor an act does
    still_none : (test : Item → Bool) → test (In (ChildEof k)) ≡ false → ((act : Act) → test (Out act) ≡ false) → list_any test (all_of (current site c s.before)) ≡ false
        → list_any test (all_of (goes_on site c s)) ≡ false
    still_none test not_eof not_act none =
        ap (list_any test) (all_of-current site c (end_of s))
        ∙ (list_any-append test s.before (In s.event ∷ map Out s.acts)
        ∙ (ap (λ (b : Bool). b || (test (In s.event) || list_any test (map Out s.acts))) (ap (list_any test) (sym (all_of-current site c s.before)) ∙ none)
        ∙ (ap (λ (b : Bool). b || list_any test (map Out s.acts)) (ap (λ (ev : Event). test (In ev)) eof ∙ not_eof)
        ∙ no_acts test not_act s.acts)))

    uncut : (o : Derived) → why_of_cut (cut_cause (answer_at (answered leg o))) ≡ None
    uncut (Output.Hop location) = refl
    uncut (Output.Reply reply) = refl
    uncut (Output.Raw bytes) = refl
    uncut (Output.Bad cause) = refl

    due_is : why_due site c (goes_on site c s) ≡ done_or_none site c (goes_on site c s)
    due_is =
        let e = goes_on site c s in
        cond-false (not (list_any is_accepted (all_of (goes_on site c s)))) None (stopped_or site c (goes_on site c s))
        (ap not (ap (list_any is_accepted) (all_of-current site c (end_of s)) ∙ any-left is_accepted s.before (In s.event ∷ map Out s.acts) accepted_before))
        ∙ (cond-false (stopped (all_of (goes_on site c s))) (Some Stopped) (gone_or site c (goes_on site c s)) (still_none is_stop refl (λ act. refl) reason.going)
        ∙ (cond-false (is_gone c (all_of (goes_on site c s))) (Some Gone) (memory_or site c (goes_on site c s)) (still_none (λ x. is_client_gone c x || is_ws_bad c x) refl (λ act. refl) reason.staying)
        ∙ (cond-false (list_any (is_no_room c) (all_of (goes_on site c s))) (Some NoMemory) (cut_or site c (goes_on site c s)) (still_none (is_no_room c) refl (λ act. refl) reason.roomy)
        ∙ (ap (λ (w : Option Why). or_why w (idle_or site c (goes_on site c s))) (ap (λ (t : Stage). why_of_cut (cut_cause (answer_at t))) is ∙ uncut output)
        ∙ cond-false (is_some (idled site c (goes_on site c s))) (Some Idle) (done_or_none site c (goes_on site c s)) (ap is_some calm_now.calm)))))

    by_closed : (b : Bool) → (goes_on site c s).closed ≡ false → ((goes_on site c s).closed || (stands_whole site c (goes_on site c s) && b)) ≡ true → stands_whole site c (goes_on site c s) ≡ true
    by_closed b open_still closed_now = elim (or_cases (goes_on site c s).closed (stands_whole site c (goes_on site c s) && b) closed_now) [
      | inl closed ↦ absurd (false≢true (sym open_still ∙ closed))
      | inr stands ↦ (and_parts (stands_whole site c (goes_on site c s)) b stands).0
    ]

    still_open : (goes_on site c s).closed ≡ false
    still_open = go calm_now.open_or_new
      where
        go : ((goes_on site c s).closed ≡ false) ⊎ (list_any is_event (goes_on site c s).items ≡ false) → (goes_on site c s).closed ≡ false
        go (inl open_still) = open_still
        go (inr new) = absurd (false≢true (sym new ∙ has_event site c (goes_on site c s) leg has_run))

    -- where it is done its answer stands whole
    stands_done : is_done site c (goes_on site c s) ≡ true → stands_whole site c (goes_on site c s) ≡ true
    stands_done done =
        elim (or_cases (has_closed site c (goes_on site c s) || is_client_done site c (goes_on site c s)) (is_talk_over_at site c (goes_on site c s) (stage site c (goes_on site c s))) done) [
          | inr over ↦ absurd (false≢true (sym (ap (is_talk_over_at site c (goes_on site c s)) is) ∙ over))
          | inl early ↦ elim (or_cases (has_closed site c (goes_on site c s)) (is_client_done site c (goes_on site c s)) early) [
            | inl closed_now ↦ by_closed (closes site c (goes_on site c s)) still_open closed_now
            | inr gone ↦
                let none = (and_parts (client_ended c (all_of (goes_on site c s)) && not (is_begun (request_bytes c (goes_on site c s)))) (not (has_begun site c (goes_on site c s))) gone).1 in
                absurd (false≢true (sym (un_not (has_begun site c (goes_on site c s)) none) ∙ or_left (has_start c (goes_on site c s)) (has_final site c (goes_on site c s)) (was_started site c (goes_on site c s) leg has_run)))
          ]
        ]

    shut_within : shut (end_of s) c ≡ true → shut (map Out s.acts) c ≡ true
    shut_within now = elim (or_cases (shut s.before c) (shut (map Out s.acts) c) (sym (list_any-append (is_shut c) s.before (In s.event ∷ map Out s.acts)) ∙ now)) [
      | inl before ↦ absurd (false≢true (sym unshut_before ∙ before))
      | inr here ↦ here
    ]

    by_reason : shut (map Out s.acts) c ≡ true → are_whys (whys_given c s.acts) (whys_due (done_or_none site c (goes_on site c s))) ≡ true → stands_whole site c (goes_on site c s) ≡ true
    by_reason here given = elim (cases_Bool (is_done site c (goes_on site c s))) [
      | inl done ↦ stands_done done
      | inr undone ↦
          let none : whys_given c s.acts ≡ [] =
          all_same is_same_why same_why (whys_given c s.acts) []
          (ap (λ (w : Option Why). are_whys (whys_given c s.acts) (whys_due w)) (sym (cond-false (is_done site c (goes_on site c s)) (Some Done) None undone)) ∙ given) in
          absurd (some_whys c s.acts here none)
    ]

    pub stands_at_once : (stands_whole site c (goes_on site c s) ≡ true) ⊎ (shut_for_memory (end_of s) c ≡ true)
    stands_at_once = elim (cases_Bool (shut (end_of s) c)) [
      | inr open_still ↦ inl (stands_open (and_from (list_any is_accepted (end_of s)) (not (shut (end_of s) c)) (any-left is_accepted s.before (In s.event ∷ map Out s.acts) accepted_before) (ap not open_still)))
      | inl now ↦
          elim (or_cases (are_whys (whys_given c s.acts) (whys_due (why_due site c (goes_on site c s))) || are_whys (whys_given c s.acts) (NoMemory ∷ [])) (is_turned_away s (whys_given c s.acts))
          (while_unshut site c s unshut_before good.good.shuts)) [
            | inr away ↦
                absurd (false≢true (sym (ap (λ (ev : Event). is_accepted (In ev)) eof) ∙ (and_parts (is_accepted (In s.event)) (are_whys (whys_given c s.acts) (Full ∷ [])) away).0))
            | inl one ↦ elim (or_cases (are_whys (whys_given c s.acts) (whys_due (why_due site c (goes_on site c s)))) (are_whys (whys_given c s.acts) (NoMemory ∷ [])) one) [
              | inl due ↦ inl (by_reason (shut_within now) (ap (λ (w : Option Why). are_whys (whys_given c s.acts) (whys_due w)) (sym due_is) ∙ due))
              | inr memory ↦
                  inr (any-right (is_shut_for_memory c) s.before (In s.event ∷ map Out s.acts)
                  (whys_shut c s.acts [] (all_same is_same_why same_why (whys_given c s.acts) (NoMemory ∷ []) memory)))
            ]
          ]
    ]

-- ---- all of them

abbrev HasNoReason : Site → ℕ → List Item → Type 0
HasNoReason site c before = is_live c before ≡ true → why_due site c (current site c before) ≡ None

complete_step : (site : Site) (c : ℕ) (s : Step) → StepGood site c s → HasNoReason site c s.before → IsCompleteAt site c s
complete_step site c s good was = record {
  while_open = λ leg output is live. stands_open site c s good leg output is live;
  at_once = λ k leg output eof is live. stands_at_once site c s good leg output is (was live) live k eof;
}

complete_from : (site : Site) (c : ℕ) (before : List Item) (event : Event) (acts : List Act) (L : List Item) → AllByRecursion (StepGood site c) (steps_from before event acts L) → HasNoReason site c before
    → AllByRecursion (IsCompleteAt site c) (steps_from before event acts L)
complete_from site c before event acts [] all was = (complete_step site c (step_of before event acts) all.0 was, tt)
complete_from site c before event acts (In e ∷ L) all was =
    (complete_step site c (step_of before event acts) all.0 was, complete_from site c (after_step before event acts) e [] L all.1 (open_after site c (step_of before event acts) all.0))
complete_from site c before event acts (Out a ∷ L) all was = complete_from site c before event (acts ++ a ∷ []) L all was

complete_list : (site : Site) (c : ℕ) (L : List Item) → begins_with_event L ≡ true → GoodFor site c L → AtEachStep (IsCompleteAt site c) L
complete_list site c [] begins good = tt
complete_list site c (In event ∷ L) begins good = complete_from site c [] event [] L good (λ live. absurd (false≢true live))
complete_list site c (Out act ∷ L) begins good = absurd (false≢true begins)

pub answers_complete : (site : Site) (T : List Item) (c : ℕ) → Promised site T → c < accepted_count T → AtEachStep (IsCompleteAt site c) (own T c)
answers_complete site T c f known = complete_list site c (own T c) ((stands site T f).begins c) (f.good.connections c (lt-ltb c (accepted_count T) known))
