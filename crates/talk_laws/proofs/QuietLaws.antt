-- An event that carries nothing for the talk takes no memory.
use Rattle.std.proofs.Common.{◌≡◌, ℕ, Bool, true, false, List, [], refl, sym, ap, ◌∙◌}
use Rattle.std.specs.Prelude.{◌&&◌, ◌==◌, not, is_some}
use Rattle.host_trace.specs.declared.items.Event.{Event}
use Rattle.host_trace.specs.declared.items.Event.TheVariants.{ChildBytes, ChildEof, WsText}
use Rattle.host_trace.specs.declared.items.Item.TheVariants.{In}
use Rattle.child_core.specs.Calls.{takes_input}
use Rattle.child_core.specs.Due.{is_feed_due}
use Rattle.child_core.specs.View.{View as Run, cleared, more_if, verdict}
use Rattle.talk_core.specs.Hearing.{heard_unless, kept, line_of, messages, note_of, run_heard, takes_memory, text_line}
use Rattle.talk_core.specs.View.{View as Talk}
use Rattle.talk_core.proofs.HearLaws.{cleared_nil}
use Rattle.talk_laws.specs.Moves.{QuietEventsTakeNone}
use Rattle.talk_laws.proofs.HearLaws.{unfed_now}

-- no line is offered with it
no_line : (t : Talk) (v : Run) (ev : Event) → takes_memory t ev ≡ false → line_of t v ev ≡ []
no_line t v (WsText d bytes) none = ap (λ b. kept b (text_line t.limit (takes_input v) bytes)) none
no_line t v ev none = refl

-- no message is due of it
no_messages : (t : Talk) (ev : Event) → t.over ≡ false → takes_memory t ev ≡ false → messages t ev ≡ []
no_messages t (ChildBytes d bytes) going none = rw (sym (ap (λ b. not b && t.child == d) going) ∙ none) refl
no_messages t (ChildEof d) going none = rw (sym (ap (λ b. not b && t.child == d) going) ∙ none) refl
no_messages t ev going none = refl

no_texts : (over : Bool) (t : Talk) (v : Run) (ev : Event) → t.over ≡ over → t.texts ≡ [] → takes_memory t ev ≡ false → (heard_unless over t v ev).texts ≡ []
no_texts true t v ev is texts none = texts
no_texts false t v ev is texts none = no_messages t ev is none

no_feed : (w : Run) → w.unfed ≡ [] → is_feed_due w ≡ false
no_feed w none = rw none (and_nil (w.started && not (is_some w.outcome) && not w.exited && not w.input_ended) (w.untaken == 0))
  where
    and_nil : (a b : Bool) → (a && false && b) ≡ false
    and_nil true b = refl
    and_nil false b = refl

nothing_more : (old : List ℕ) (counts : Bool) → more_if [] counts old ≡ old
nothing_more old counts = refl

heard_unfed : (t : Talk) (v : Run) (ev : Event) → v.unfed ≡ [] → line_of t v ev ≡ [] → (run_heard t v ev).unfed ≡ []
heard_unfed t v ev none line =
    ap (λ u. cleared (is_some (verdict t.conn v (note_of t v ev) (In ev))) (more_if (line_of t v ev) (not (is_some v.outcome)) u)) none
    ∙ (ap (λ l. cleared (is_some (verdict t.conn v (note_of t v ev) (In ev))) (more_if l (not (is_some v.outcome)) [])) line
    ∙ cleared_nil (is_some (verdict t.conn v (note_of t v ev) (In ev))))

pub quiet_events_take_none : QuietEventsTakeNone
quiet_events_take_none site c e legs continued t v ev is rest none = record {
  texts = no_texts t.over t v ev refl rest.texts none;
  fed = no_feed (run_heard t v ev) (heard_unfed t v ev (unfed_now site c e legs continued t v ev is rest) (no_line t v ev none));
}
