-- What the calls of a run make of it is what an item of the list makes of it.
use Rattle.std.proofs.Common.{◌≡◌, ℕ, List, Bool, true, false, refl}
use Rattle.std.specs.Prelude.{not, is_some}
use Rattle.std.proofs.lemmas.Bool.{eq-eqb}
use Rattle.host_trace.specs.declared.items.Event.{Event}
use Rattle.host_trace.specs.declared.items.Event.TheVariants.{ClientBytes, ClientEof, ClientGone, Started, StartFailed, StartFull, ChildBytes, ChildEof, ChildBroken, Took, InputGone, Exited, WsText, WsBinary, WsClosed, WsBad, NoRoom, Tick, Stop}
use Rattle.host_trace.specs.declared.items.Act.TheVariants.{Shut}
use Rattle.host_trace.specs.declared.items.Item.TheVariants.{In, Out}
use Rattle.host_trace.specs.declared.items.Why.TheVariants.{NoMemory}
use Rattle.host_trace.specs.Decider.{is_websocket}
use Rattle.child_core.specs.declared.ending.Ending.TheVariants.{Gone, Dropped, Refused, Incomplete}
use Rattle.child_core.specs.View.{View, plain, noted}
use Rattle.child_core.specs.Calls.{is_heard, hearing, heard, ended, closed, offered}
use Rattle.child_core.proofs.ActLaws.{and_false, or_none}

pub heard-is : (c : ℕ) (v : View) (ev : Event) (found : Bool) → is_heard ev ≡ true → heard v ev found ≡ noted c v (hearing found) (In ev)
heard-is c v (Started k) found e = refl
heard-is c v (StartFailed k) found e = refl
heard-is c v (StartFull k seen) found e = refl
heard-is c v (ChildBytes k bytes) found e = refl
heard-is c v (ChildEof k) found e = refl
heard-is c v (ChildBroken k) found e = refl
heard-is c v (Took k n) found e = refl
heard-is c v (InputGone k) found e = refl
heard-is c v (Exited k) found e = refl
heard-is c v (Tick secs) found e = refl
heard-is c v Stop found e = refl
heard-is c v ev found e = absurd (cc)

module _ (c : ℕ) (v : View) where
  pub gone-is : noted c v plain (In (ClientGone c)) ≡ ended v Gone
  gone-is = rw (eq-eqb c c refl, and_false (is_websocket v.kind), and_false (not (is_some v.outcome))) refl

  pub bad-is : noted c v plain (In (WsBad c)) ≡ ended v Gone
  bad-is = rw (eq-eqb c c refl, and_false (is_websocket v.kind), and_false (not (is_some v.outcome))) refl

  pub binary-is : noted c v plain (In (WsBinary c)) ≡ ended v Refused
  binary-is = rw (eq-eqb c c refl, and_false (is_websocket v.kind), and_false (not (is_some v.outcome))) refl

  pub no_room-is : noted c v plain (In (NoRoom c)) ≡ ended v Dropped
  no_room-is = rw (eq-eqb c c refl, and_false (is_websocket v.kind), and_false (not (is_some v.outcome))) refl

  pub memory-is : noted c v plain (Out (Shut c NoMemory)) ≡ ended v Dropped
  memory-is = rw (eq-eqb c c refl, and_false (is_websocket v.kind), and_false (not (is_some v.outcome))) refl

  pub cut-is : is_websocket v.kind ≡ false → v.whole ≡ false → noted c v plain (In (ClientEof c)) ≡ ended v Incomplete
  cut-is ws whole = rw (eq-eqb c c refl, ws, whole, and_false (not (is_some v.outcome))) refl

  pub text-is : (bytes : List ℕ) → is_websocket v.kind ≡ true → noted c v (record plain { refused = true }) (In (WsText c bytes)) ≡ ended v Refused
  text-is bytes ws = rw (ws, and_false (not (is_some v.outcome))) refl

  pub closed-is : is_websocket v.kind ≡ true → noted c v plain (In (WsClosed c)) ≡ closed v
  closed-is ws = rw (eq-eqb c c refl, ws, and_false (not (is_some v.outcome)), or_none v.outcome) refl

  pub offered-is : (bytes more : List ℕ) (last : Bool) → noted c v (record plain { more = more; last = last }) (In (ClientBytes c bytes)) ≡ offered v more last
  offered-is bytes more last = rw (and_false (is_websocket v.kind), and_false (not (is_some v.outcome)), or_none v.outcome) refl
