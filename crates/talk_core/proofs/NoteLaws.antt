-- What the calls of a talk make of its run is what an item of the list makes of it.
use Rattle.std.proofs.Common.{◌≡◌, ℕ, true, false, ◌&&◌, refl, ◌∙◌, ap, length}
use Rattle.std.specs.Prelude.{not, is_some, ◌==◌, nat_lt}
use Rattle.std.proofs.lemmas.Bool.{and_parts}
use Rattle.host_trace.specs.declared.items.Event.{Event}
use Rattle.host_trace.specs.declared.items.Event.TheVariants.{ChildBytes, WsText}
use Rattle.host_trace.specs.declared.items.Item.TheVariants.{In}
use Rattle.host_trace.specs.Decider.{is_websocket}
use Rattle.child_core.specs.View.{View as RunView, plain, noted}
use Rattle.child_core.specs.declared.ending.Ending.TheVariants.{Refused}
use Rattle.child_core.specs.Calls.{ended, offered}
use Rattle.child_core.proofs.ActLaws.{and_false, or_none}
use Rattle.talk_core.specs.View.{View}
use Rattle.talk_core.specs.Hearing.{too_long, line_of, run_heard}

module _ (t : View) (v : RunView) (talks : is_websocket v.kind ≡ true) where
  short_note : (ev : Event) → too_long t ev ≡ false → noted t.conn (offered v (line_of t v ev) false) plain (In ev) ≡ run_heard t v ev
  short_note (WsText d bytes) e = rw e refl
  short_note (ChildBytes d bytes) e = rw e refl
  short_note ev e = refl

  long_note : (ev : Event) → too_long t ev ≡ true → ended (noted t.conn (offered v (line_of t v ev) false) plain (In ev)) Refused ≡ run_heard t v ev
  long_note (WsText d bytes) e =
      let p = and_parts (not t.over && t.conn == d) (nat_lt t.limit (length bytes)) e in
      rw (p.0, p.1, talks, and_false (not (is_some v.outcome)), or_none v.outcome) refl
  long_note (ChildBytes d bytes) e = rw (e, talks, and_false (not (is_some v.outcome)), or_none v.outcome) refl
  long_note ev e = absurd (cc)

  -- by what the calls made of it one after another
  pub heard_short : (w x : RunView) (c : ℕ) (ev : Event) → c ≡ t.conn → w ≡ offered v (line_of t v ev) false → x ≡ noted c w plain (In ev)
      → too_long t ev ≡ false → x ≡ run_heard t v ev
  heard_short w x c ev same offer heard e =
      heard ∙ (ap (λ d. noted d w plain (In ev)) same ∙ (ap (λ y. noted t.conn y plain (In ev)) offer ∙ short_note ev e))

  pub heard_long : (w x : RunView) (c : ℕ) (ev : Event) → c ≡ t.conn → w ≡ offered v (line_of t v ev) false → x ≡ noted c w plain (In ev)
      → too_long t ev ≡ true → ended x Refused ≡ run_heard t v ev
  heard_long w x c ev same offer heard e =
      ap (λ y. ended y Refused) (heard ∙ (ap (λ d. noted d w plain (In ev)) same ∙ ap (λ y. noted t.conn y plain (In ev)) offer)) ∙ long_note ev e
