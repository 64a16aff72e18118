-- What a run keeps of its output with an event.
use Rattle.std.proofs.Common.{◌≡◌, ℕ, Bool, true, false, ◌||◌, ◌&&◌, not, List, [], ◌∷◌, ◌++◌, Option, Some, None, is_some, if◌then◌else◌, zero, suc, ◌==◌, refl, sym, ap, ◌∙◌, append-nil}
use Rattle.std.proofs.lemmas.Bool.{false≢true}
use Rattle.host_base.specs.declared.site.ScriptKind.{ScriptKind}
use Rattle.host_base.specs.declared.site.Site.{Site}
use Rattle.host_trace.specs.declared.items.Event.{Event}
use Rattle.host_trace.specs.declared.items.Event.TheVariants.{Accepted, ClientBytes, ClientEof, ClientGone, Wrote, Started, StartFailed, StartFull, ChildBytes, ChildEof, ChildBroken, Took, InputGone, Exited, WsText, WsBinary, WsClosed, WsBad, NoRoom, Tick, Stop}
use Rattle.host_trace.specs.declared.items.Item.{Item}
use Rattle.host_trace.specs.declared.items.Item.TheVariants.{In}
use Rattle.host_trace.specs.Decider.{is_websocket}
use Rattle.host_trace.specs.First.{or_else}
use Rattle.host_trace.specs.Kinds.{output_heard}
use Rattle.child_core.specs.declared.ending.Ending.{Ending}
use Rattle.child_core.specs.declared.ending.Ending.TheVariants.{Dropped, Gone, Incomplete, Refused}
use Rattle.child_core.specs.declared.ending.Outcome.{Outcome}
use Rattle.child_core.specs.Calls.{ended, hearing, outcome_of_ending}
use Rattle.child_core.specs.View.{View, cleared, drops_output, is_other, more_if, noted, outcome_after, verdict}
use Rattle.trace_model.specs.Exchange.{Exchange, reading}
use Rattle.trace_model.specs.Readings.{is_whole}
use Rattle.child_laws.specs.Heard.{cut_by, heard_by, offered_by}

-- where its output is of use still, it was before, and what came is behind it
pub record KeepsOn (v w : View) (x : Item) : Type 0 where
  pub drops : drops_output w.kind w.outcome ≡ false → drops_output v.kind v.outcome ≡ false
  pub output : drops_output w.kind w.outcome ≡ false → w.output ≡ v.output ++ output_heard v.number x

or_left : (a b : Bool) → (a || b) ≡ false → a ≡ false
or_left true b e = e
or_left false b e = refl

or_kept : (kind : ScriptKind) (was other : Option Outcome) → drops_output kind (or_else was other) ≡ false → drops_output kind was ≡ false
or_kept kind None other e = ap (λ (b : Bool). b || false) (or_left (is_websocket kind) (is_other other) e)
or_kept kind (Some outcome) other e = e

kept_output : (drops some : Bool) (more old : List ℕ) → drops ≡ false → cleared (some && drops) (more_if more (true && not drops) old) ≡ old ++ more
kept_output true some more old e = absurd (false≢true (sym e))
kept_output false true [] old e = sym (append-nil old)
kept_output false true (byte ∷ more) old e = refl
kept_output false false [] old e = sym (append-nil old)
kept_output false false (byte ∷ more) old e = refl

noted_keeps : (v : View) (x : Item) → KeepsOn v (noted 0 v (hearing true) x) x
noted_keeps v x = record {
  drops = λ keeps. or_kept v.kind v.outcome (verdict 0 v (hearing true) x) keeps;
  output = λ keeps. kept_output (drops_output v.kind (outcome_after 0 v (hearing true) x)) (is_some (verdict 0 v (hearing true) x)) (output_heard v.number x) v.output keeps;
}

same_keeps : (v : View) (x : Item) → output_heard v.number x ≡ [] → KeepsOn v v x
same_keeps v x none = record {
  drops = λ keeps. keeps;
  output = λ keeps. sym (append-nil v.output) ∙ ap (λ (more : List ℕ). v.output ++ more) (sym none);
}

cleared_not : (drops : Bool) (output : List ℕ) → drops ≡ false → cleared drops output ≡ output
cleared_not true output e = absurd (false≢true (sym e))
cleared_not false output e = refl

ended_keeps : (v : View) (ending : Ending) (x : Item) → output_heard v.number x ≡ [] → KeepsOn v (ended v ending) x
ended_keeps v ending x none = record {
  drops = λ keeps. or_kept v.kind v.outcome (Some (outcome_of_ending ending)) keeps;
  output = λ keeps.
      cleared_not (drops_output v.kind (or_else v.outcome (Some (outcome_of_ending ending)))) v.output keeps
      ∙ (sym (append-nil v.output) ∙ ap (λ (more : List ℕ). v.output ++ more) (sym none));
}

keeps_if : (b : Bool) (v w : View) (x : Item) → KeepsOn v w x → KeepsOn v v x → KeepsOn v (if b then w else v) x
keeps_if true v w x one other = one
keeps_if false v w x one other = other

offered_keeps : (site : Site) (c : ℕ) (e : Exchange) (hop : ℕ) (v : View) (x y : Item) → output_heard v.number x ≡ [] → KeepsOn v (offered_by site c e hop y v) x
offered_keeps site c e zero v x y none = record {
  drops = λ keeps. keeps;
  output = λ keeps. sym (append-nil v.output) ∙ ap (λ (more : List ℕ). v.output ++ more) (sym none);
}
offered_keeps site c e (suc hop) v x y none = same_keeps v x none

cut_keeps : (site : Site) (c : ℕ) (e : Exchange) (hop : ℕ) (v : View) (x : Item) → output_heard v.number x ≡ [] → KeepsOn v (cut_by site c e hop v) x
cut_keeps site c e zero v x none = go (is_whole (reading site c e))
  where
    go : (b : Bool) → KeepsOn v (if b then v else ended v Incomplete) x
    go true = same_keeps v x none
    go false = ended_keeps v Incomplete x none
cut_keeps site c e (suc hop) v x none = same_keeps v x none

pub heard_keeps : (site : Site) (c : ℕ) (e : Exchange) (hop : ℕ) (ev : Event) (v : View) → KeepsOn v (heard_by site c e hop true ev v) (In ev)
heard_keeps site c e hop (ClientBytes d bytes) v =
    keeps_if (c == d) v (offered_by site c e hop (In (ClientBytes d bytes)) v) (In (ClientBytes d bytes))
    (offered_keeps site c e hop v (In (ClientBytes d bytes)) (In (ClientBytes d bytes)) refl) (same_keeps v (In (ClientBytes d bytes)) refl)
heard_keeps site c e hop (ClientEof d) v =
    keeps_if (c == d) v (cut_by site c e hop v) (In (ClientEof d)) (cut_keeps site c e hop v (In (ClientEof d)) refl) (same_keeps v (In (ClientEof d)) refl)
heard_keeps site c e hop (ClientGone d) v =
    keeps_if (c == d) v (ended v Gone) (In (ClientGone d)) (ended_keeps v Gone (In (ClientGone d)) refl) (same_keeps v (In (ClientGone d)) refl)
heard_keeps site c e hop (WsBinary d) v =
    keeps_if (c == d) v (ended v Refused) (In (WsBinary d)) (ended_keeps v Refused (In (WsBinary d)) refl) (same_keeps v (In (WsBinary d)) refl)
heard_keeps site c e hop (WsBad d) v =
    keeps_if (c == d) v (ended v Gone) (In (WsBad d)) (ended_keeps v Gone (In (WsBad d)) refl) (same_keeps v (In (WsBad d)) refl)
heard_keeps site c e hop (NoRoom d) v =
    keeps_if (c == d) v (ended v Dropped) (In (NoRoom d)) (ended_keeps v Dropped (In (NoRoom d)) refl) (same_keeps v (In (NoRoom d)) refl)
heard_keeps site c e hop (Accepted peer) v = same_keeps v (In (Accepted peer)) refl
heard_keeps site c e hop (Wrote d n) v = same_keeps v (In (Wrote d n)) refl
heard_keeps site c e hop (WsText d bytes) v = same_keeps v (In (WsText d bytes)) refl
heard_keeps site c e hop (WsClosed d) v = same_keeps v (In (WsClosed d)) refl
heard_keeps site c e hop (Started k) v = noted_keeps v (In (Started k))
heard_keeps site c e hop (StartFailed k) v = noted_keeps v (In (StartFailed k))
heard_keeps site c e hop (StartFull k seen) v = noted_keeps v (In (StartFull k seen))
heard_keeps site c e hop (ChildBytes k bytes) v = noted_keeps v (In (ChildBytes k bytes))
heard_keeps site c e hop (ChildEof k) v = noted_keeps v (In (ChildEof k))
heard_keeps site c e hop (ChildBroken k) v = noted_keeps v (In (ChildBroken k))
heard_keeps site c e hop (Took k n) v = noted_keeps v (In (Took k n))
heard_keeps site c e hop (InputGone k) v = noted_keeps v (In (InputGone k))
heard_keeps site c e hop (Exited k) v = noted_keeps v (In (Exited k))
heard_keeps site c e hop (Tick secs) v = noted_keeps v (In (Tick secs))
heard_keeps site c e hop Stop v = noted_keeps v (In Stop)
