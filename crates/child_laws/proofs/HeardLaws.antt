-- An event makes of a run what the calls of the run make of it.
use Rattle.std.proofs.Common.{◌≡◌, ℕ, zero, suc, Bool, true, false, List, [], refl, sym, ap, subst, ◌∙◌, inl, inr}
use Rattle.std.specs.Prelude.{if◌then◌else◌, not, ◌&&◌, ◌||◌, ◌==◌, is_some}
use Rattle.std.proofs.lemmas.Bool.{cases_Bool, eqb-true, eq-eqb}
use Rattle.host_base.specs.declared.site.Site.{Site}
use Rattle.host_trace.specs.declared.items.Event.{Event}
use Rattle.host_trace.specs.declared.items.Event.TheVariants.{Accepted, ClientBytes, ClientEof, ClientGone, Wrote, Started, StartFailed, StartFull, ChildBytes, ChildEof, ChildBroken, Took, InputGone, Exited, WsText, WsBinary, WsClosed, WsBad, NoRoom, Tick, Stop}
use Rattle.host_trace.specs.declared.items.Item.{Item}
use Rattle.host_trace.specs.declared.items.Item.TheVariants.{In, Out}
use Rattle.host_trace.specs.Decider.{is_websocket}
use Rattle.host_trace.specs.Kinds.{bytes_heard}
use Rattle.child_core.specs.declared.ending.Ending.TheVariants.{Incomplete}
use Rattle.child_core.specs.View.{View, plain, noted, verdict}
use Rattle.child_core.specs.Calls.{hearing, ended}
use Rattle.child_core.proofs.ActLaws.{and_false, or_none}
use Rattle.child_core.proofs.CallLaws.{heard-is, gone-is, bad-is, binary-is, no_room-is, cut-is, offered-is}
use Rattle.child_core.proofs.TellLaws.{noted-other}
use Rattle.trace_model.specs.Exchange.{Exchange, pushed, reading}
use Rattle.trace_model.specs.Legs.{offered_at}
use Rattle.trace_model.specs.Readings.{is_whole}
use Rattle.child_laws.specs.Children.{IsSpent}
use Rattle.child_laws.specs.Heard.{body_more, note_at, offered_by, cut_by, heard_by}
use Rattle.child_laws.proofs.NoteLaws.{nothing_more, reading_same}
use Rattle.child_laws.proofs.SpentLaws.{cut_spent}

-- ---- notes that bring nothing

verdict_same : (c : ℕ) (v : View) (more : List ℕ) (last found : Bool) (x : Item) → verdict c v (record plain { more = more; last = last; found = found }) x ≡ verdict c v (hearing found) x
verdict_same c v more last found (Out act) = refl
verdict_same c v more last found (In ev) = refl

last_idle : (c : ℕ) (v : View) (last found : Bool) (x : Item) → (is_some v.outcome ≡ false → v.whole ≡ last) → noted c v (record plain { more = []; last = last; found = found }) x ≡ noted c v (hearing found) x
last_idle c v last found x f = rw (verdict_same c v [] last found x, kept last v.whole (is_some v.outcome) f) refl
  where
    kept : (last whole d : Bool) → (d ≡ false → whole ≡ last) → (last && not d || whole) ≡ whole
    kept true whole true f = refl
    kept false whole true f = refl
    kept true whole false f = sym (f refl)
    kept false whole false f = refl

module _ (site : Site) (c : ℕ) (e : Exchange) (hop : ℕ) (found : Bool) (v : View) (ws : is_websocket v.kind ≡ false)
    (waits : is_some v.outcome ≡ false → v.whole ≡ (offered_at site c e hop e.items).whole) (spent : IsSpent v) where
  idle : (x : Item) → bytes_heard c x ≡ [] → noted c v (note_at site c e hop found x) x ≡ noted c v (hearing found) x
  idle x none = go hop waits
    where
      go : (hop : ℕ) → (is_some v.outcome ≡ false → v.whole ≡ (offered_at site c e hop e.items).whole) → noted c v (note_at site c e hop found x) x ≡ noted c v (hearing found) x
      go zero f =
          ap (λ m. noted c v (record plain { more = m; last = is_whole (reading site c (pushed e x)); found = found }) x) (nothing_more site c e x none)
          ∙ last_idle c v (is_whole (reading site c (pushed e x))) found x (λ u. f u ∙ sym (ap is_whole (reading_same site c e x none)))
      go (suc hop) f = refl

  -- ---- the client

  came : (hop : ℕ) (bytes : List ℕ) → noted c v (note_at site c e hop found (In (ClientBytes c bytes))) (In (ClientBytes c bytes)) ≡ offered_by site c e hop (In (ClientBytes c bytes)) v
  came zero bytes = offered-is c v bytes (body_more site c e (In (ClientBytes c bytes))) (is_whole (reading site c (pushed e (In (ClientBytes c bytes)))))
  came (suc hop) bytes = noted-other c v (In (ClientBytes c bytes)) refl

  eof_whole : v.whole ≡ true → noted c v (hearing found) (In (ClientEof c)) ≡ v
  eof_whole whole = rw (eq-eqb c c refl, ws, whole, and_false (not (is_some v.outcome)), or_none v.outcome) refl

  cut_is : (hop : ℕ) → cut_by site c e hop v ≡ (if (offered_at site c e hop e.items).whole then v else ended v Incomplete)
  cut_is zero = refl
  cut_is (suc hop) = refl

  eof_by : (b : Bool) → (is_some v.outcome ≡ false → v.whole ≡ b) → noted c v (hearing found) (In (ClientEof c)) ≡ (if b then v else ended v Incomplete)
  eof_by b f = elim (cases_Bool (is_some v.outcome)) [
    | inl d ↦ cut-is c v ws (spent.whole d) ∙ (cut_spent v d spent ∙ sym (either b (cut_spent v d spent)))
    | inr u ↦ undecided b (f u)
  ]
    where
      either : (b : Bool) → ended v Incomplete ≡ v → (if b then v else ended v Incomplete) ≡ v
      either true e = refl
      either false e = e

      undecided : (b : Bool) → v.whole ≡ b → noted c v (hearing found) (In (ClientEof c)) ≡ (if b then v else ended v Incomplete)
      undecided true w = eof_whole w
      undecided false w = cut-is c v ws w

  closed_plain : (d : ℕ) → noted c v (hearing found) (In (WsClosed d)) ≡ v
  closed_plain d = rw (ws, and_false (not (is_some v.outcome)), or_none v.outcome) refl

  -- ---- whoever the event names

  by_name : (d : ℕ) (mine : View) (x : ℕ → Item) → ((d : ℕ) → bytes_heard c (x d) ≡ []) → noted c v (hearing found) (x c) ≡ mine → ((c == d) ≡ false → noted c v (hearing found) (x d) ≡ v)
      → noted c v (note_at site c e hop found (x d)) (x d) ≡ (if c == d then mine else v)
  by_name d mine x none here elsewhere = idle (x d) (none d) ∙ elim (cases_Bool (c == d)) [
    | inl same ↦ ap (λ k. noted c v (hearing found) (x k)) (sym (eqb-true c d same)) ∙ (here ∙ sym (ap (λ (b : Bool). if b then mine else v) same))
    | inr other ↦ elsewhere other ∙ sym (ap (λ (b : Bool). if b then mine else v) other)
  ]

  pub heard_is : (ev : Event) → noted c v (note_at site c e hop found (In ev)) (In ev) ≡ heard_by site c e hop found ev v
  heard_is (ClientBytes d bytes) = elim (cases_Bool (c == d)) [
    | inl same ↦
        subst (λ k. noted c v (note_at site c e hop found (In (ClientBytes k bytes))) (In (ClientBytes k bytes)) ≡ offered_by site c e hop (In (ClientBytes k bytes)) v) (eqb-true c d same) (came hop bytes)
        ∙ sym (ap (λ (b : Bool). if b then offered_by site c e hop (In (ClientBytes d bytes)) v else v) same)
    | inr other ↦
        idle (In (ClientBytes d bytes)) (ap (λ (b : Bool). if b then bytes else []) other)
        ∙ (noted-other c v (In (ClientBytes d bytes)) refl ∙ sym (ap (λ (b : Bool). if b then offered_by site c e hop (In (ClientBytes d bytes)) v else v) other))
  ]
  heard_is (ClientEof d) = by_name d (cut_by site c e hop v) (λ k. In (ClientEof k)) (λ k. refl)
      (eof_by (offered_at site c e hop e.items).whole waits ∙ sym (cut_is hop)) (λ other. noted-other c v (In (ClientEof d)) (rw other refl))
  heard_is (ClientGone d) = by_name d _ (λ k. In (ClientGone k)) (λ k. refl) (gone-is c v) (λ other. noted-other c v (In (ClientGone d)) (rw other refl))
  heard_is (WsBinary d) = by_name d _ (λ k. In (WsBinary k)) (λ k. refl) (binary-is c v) (λ other. noted-other c v (In (WsBinary d)) (rw other refl))
  heard_is (WsBad d) = by_name d _ (λ k. In (WsBad k)) (λ k. refl) (bad-is c v) (λ other. noted-other c v (In (WsBad d)) (rw other refl))
  heard_is (NoRoom d) = by_name d _ (λ k. In (NoRoom k)) (λ k. refl) (no_room-is c v) (λ other. noted-other c v (In (NoRoom d)) (rw other refl))
  heard_is (Accepted peer) = idle (In (Accepted peer)) refl ∙ noted-other c v (In (Accepted peer)) refl
  heard_is (Wrote d n) = idle (In (Wrote d n)) refl ∙ noted-other c v (In (Wrote d n)) refl
  heard_is (WsText d bytes) = idle (In (WsText d bytes)) refl ∙ noted-other c v (In (WsText d bytes)) refl
  heard_is (WsClosed d) = idle (In (WsClosed d)) refl ∙ closed_plain d
  heard_is (Started k) = idle (In (Started k)) refl ∙ sym (heard-is c v (Started k) found refl)
  heard_is (StartFailed k) = idle (In (StartFailed k)) refl ∙ sym (heard-is c v (StartFailed k) found refl)
  heard_is (StartFull k seen) = idle (In (StartFull k seen)) refl ∙ sym (heard-is c v (StartFull k seen) found refl)
  heard_is (ChildBytes k bytes) = idle (In (ChildBytes k bytes)) refl ∙ sym (heard-is c v (ChildBytes k bytes) found refl)
  heard_is (ChildEof k) = idle (In (ChildEof k)) refl ∙ sym (heard-is c v (ChildEof k) found refl)
  heard_is (ChildBroken k) = idle (In (ChildBroken k)) refl ∙ sym (heard-is c v (ChildBroken k) found refl)
  heard_is (Took k n) = idle (In (Took k n)) refl ∙ sym (heard-is c v (Took k n) found refl)
  heard_is (InputGone k) = idle (In (InputGone k)) refl ∙ sym (heard-is c v (InputGone k) found refl)
  heard_is (Exited k) = idle (In (Exited k)) refl ∙ sym (heard-is c v (Exited k) found refl)
  heard_is (Tick secs) = idle (In (Tick secs)) refl ∙ sym (heard-is c v (Tick secs) found refl)
  heard_is Stop = idle (In Stop) refl ∙ sym (heard-is c v Stop found refl)
