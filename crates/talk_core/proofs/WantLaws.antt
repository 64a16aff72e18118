-- What is wanted of the client stays wanted.
use Rattle.std.proofs.Common.{◌≡◌, ℕ, zero, suc, List, [], Bool, true, false, ◌||◌, ◌&&◌, refl, ◌∙◌, ap, Option, Some, None, inl, inr, arith}
use Rattle.std.specs.Prelude.{◌==◌, not, is_some}
use Rattle.std.proofs.lemmas.Bool.{and_parts, or_cases, or_left, or_right, and_from, eqb-true, eq-eqb}
use Rattle.host_trace.specs.declared.items.Event.{Event}
use Rattle.host_trace.specs.declared.items.Event.TheVariants.{WsText}
use Rattle.host_trace.specs.declared.items.Item.TheVariants.{In}
use Rattle.host_trace.specs.First.{or_else}
use Rattle.host_trace.specs.Kinds.{is_started, is_exited, is_input_end, is_ws_text, count_took}
use Rattle.host_trace.specs.Decider.{is_websocket}
use Rattle.child_core.specs.View.{View as RunView, cleared, more_if, less_by, verdict, drops_output}
use Rattle.child_core.specs.declared.ending.Outcome.{Outcome}
use Rattle.child_core.specs.Calls.{takes_input, wants_more, wants_text}
use Rattle.child_core.specs.Due.{acted, is_feed_due, feed_given, is_input_due}
use Rattle.talk_core.specs.View.{View}
use Rattle.talk_core.specs.Hearing.{kept, line_of, text_line, note_of, run_heard}
use Rattle.talk_core.specs.Laws.{TextsStayWanted, EndsOnce}
use Rattle.talk_core.proofs.HearLaws.{cleared_nil}

-- ---- the event

no_line : (t : View) (v : RunView) (ev : Event) → is_ws_text t.conn (In ev) ≡ false → line_of t v ev ≡ []
no_line t v (WsText d bytes) e = elim t.over as (λ o. kept (not o && t.conn == d) (text_line t.limit (takes_input v) bytes) ≡ []) [
  | true ↦ refl
  | false ↦ rw e refl
]
no_line t v ev e = refl

none_left : (m n : ℕ) → (n == 0) ≡ true → (less_by m n == 0) ≡ true
none_left zero n e = e
none_left (suc m) n e = eq-eqb _ 0 (let z = eqb-true n 0 e in omega (arith, z))

-- what is wanted, by its parts
wanted_by : (started ws taken input exited : Bool) → (started && (taken || ws && (input || exited))) ≡ true → (w : RunView) → w.started ≡ true
    → (taken ≡ true → (w.untaken == 0) ≡ true) → (input ≡ true → w.input_ended ≡ true) → (exited ≡ true → w.exited ≡ true) → is_websocket w.kind ≡ true
    → wants_text w ≡ true
wanted_by started ws taken input exited e w begun none ends exits talks =
    let p = and_parts started (taken || ws && (input || exited)) e in
    and_from _ _ begun (elim (or_cases taken (ws && (input || exited)) p.1) [
      | inl all ↦ or_left _ _ (none all)
      | inr closed ↦ or_right _ _ (and_from _ _ talks (elim (or_cases input exited (and_parts ws (input || exited) closed).1) [
        | inl input_over ↦ or_left _ _ (ends input_over)
        | inr gone ↦ or_right _ _ (exits gone)
      ]))
    ])

heard_wants : (t : View) (v : RunView) (ev : Event) → is_websocket v.kind ≡ true → wants_text v ≡ true → wants_text (run_heard t v ev) ≡ true
heard_wants t v ev talks wants =
    wanted_by v.started (is_websocket v.kind) (v.untaken == 0) v.input_ended v.exited wants (run_heard t v ev)
    (or_right (is_started v.number (In ev)) v.started (and_parts v.started (wants_more v) wants).0)
    (none_left (count_took v.number (In ev)) v.untaken)
    (or_right (is_input_end v.number (In ev)) v.input_ended)
    (or_right (is_exited v.number (In ev)) v.exited)
    talks

heard_unfed : (t : View) (v : RunView) (ev : Event) → v.unfed ≡ [] → is_ws_text t.conn (In ev) ≡ false → (run_heard t v ev).unfed ≡ []
heard_unfed t v ev none quiet =
    ap (λ u. cleared (is_some (verdict t.conn v (note_of t v ev) (In ev))) (more_if (line_of t v ev) (not (is_some v.outcome)) u)) none
    ∙ (ap (λ l. cleared (is_some (verdict t.conn v (note_of t v ev) (In ev))) (more_if l (not (is_some v.outcome)) [])) (no_line t v ev quiet)
    ∙ cleared_nil (is_some (verdict t.conn v (note_of t v ev) (In ev))))

-- ---- the acts

no_feed : (w : RunView) → w.unfed ≡ [] → is_feed_due w ≡ false
no_feed w none = rw none (and_nil (w.started && not (is_some w.outcome) && not w.exited && not w.input_ended) (w.untaken == 0))
  where
    and_nil : (a b : Bool) → (a && false && b) ≡ false
    and_nil true b = refl
    and_nil false b = refl

same_feed : (w : RunView) → is_feed_due w ≡ false → feed_given w ≡ w
same_feed w none = rw none refl

acted_wants : (may : Bool) (w : RunView) → is_websocket w.kind ≡ true → w.unfed ≡ [] → wants_text w ≡ true → wants_text (acted may w) ≡ true
unfolding acted
acted_wants may w talks none wants =
    wanted_by w.started (is_websocket w.kind) (w.untaken == 0) w.input_ended w.exited wants (acted may w)
    (and_parts w.started (wants_more w) wants).0
    (λ e. ap (λ u. u.untaken == 0) (same_feed w (no_feed w none)) ∙ e)
    (or_right (is_input_due (feed_given w)) w.input_ended)
    (λ e. e)
    talks

pub texts_stay_wanted : TextsStayWanted
texts_stay_wanted may t v ev talks none quiet wants = acted_wants may (run_heard t v ev) talks (heard_unfed t v ev none quiet) (heard_wants t v ev talks wants)

-- ---- an ending

twice : (o : Option Outcome) (x : Outcome) → or_else (or_else o (Some x)) (Some x) ≡ or_else o (Some x)
twice None x = refl
twice (Some y) x = refl

cleared_twice : (b : Bool) (bytes : List ℕ) → cleared b (cleared b bytes) ≡ cleared b bytes
cleared_twice true bytes = refl
cleared_twice false bytes = refl

or_twice : (a b : Bool) → (a || (a || b)) ≡ (a || b)
or_twice true b = refl
or_twice false b = refl

pub ends_once : EndsOnce
ends_once v ending = rw (twice v.outcome _, cleared_twice (drops_output v.kind _) v.output, or_twice _ v.abandoned) refl
