-- What an event and an act are the cause of: full books, open connections, and counts that rise.
use Rattle.std.proofs.Common.{◌≡◌, inl, inr, ℕ, true, false, List, [], ◌∷◌, refl, sym, subst, arith}
use Rattle.host_trace.specs.Told.{is_full_book}
use Rattle.host_trace.specs.declared.items.Event.{Event}
use Rattle.host_trace.specs.declared.items.Event.TheVariants.{Accepted, ClientBytes, ClientEof, ClientGone, Wrote, Started, StartFailed, StartFull, ChildBytes, ChildEof, ChildBroken, Took, InputGone, Exited, WsText, WsBinary, WsClosed, WsBad, NoRoom, Tick, Stop}
use Rattle.host_trace.specs.declared.items.Act.{Act}
use Rattle.host_trace.specs.declared.items.Act.TheVariants.{WantClient, Write, Shut, Start, Feed, EndInput, WantChild, Kill, Release, Upgrade, Says, CloseWs}
use Rattle.host_trace.specs.declared.outside.Acted.{Acted}
use Rattle.host_trace.specs.declared.outside.Acted.TheVariants.{Done, NoRoom as HasNoRoom}
use Rattle.child_edge.specs.Kids.{KidTells}
use Rattle.child_edge.specs.declared.row.Row.{Row}
use Rattle.child_edge.specs.Rows.{OneSays, IsDue as IsDueRow, IsStartDue, Says as SaysRow}
use Rattle.socket_set.specs.Sets.{SetState, Acts as SetActs}
use Rattle.socket_set.specs.Sets.{Counted as CountedBySet}
use Rattle.socket_set.proofs.Sets.{counted_self as set_counts, counted_same as set_counts_same, counted_two as set_counts_two}
use Rattle.edge_loop.specs.Orders.{ordered_by}
use Rattle.edge_loop.specs.Loops.{LoopState, Counts, ToldNoRoom, TellsOpen, TakesOrder, SetObeys}
use Rattle.edge_loop.specs.declared.orders.Order.{Order}
use Rattle.edge_loop.specs.declared.orders.Order.TheVariants.{Stop as StopNow, Drain}
use Rattle.edge_loop.proofs.Quiet.{counts_self}

module _ {K : Type 0} where
  -- ---- events that are no full books

  full_row : (tells : K → KidTells) (e : Event) (r s : Row K) → IsDueRow tells r s e → is_full_book e ≡ true → ⊥
  full_row tells (Accepted p) r s h f = cc
  full_row tells (ClientBytes c b) r s h f = cc
  full_row tells (ClientEof c) r s h f = cc
  full_row tells (ClientGone c) r s h f = cc
  full_row tells (Wrote c n) r s h f = cc
  full_row tells (Started k) r s h f = cc
  full_row tells (StartFailed k) r s h f = cc
  full_row tells (StartFull k n) r s h f = h
  full_row tells (ChildBytes k b) r s h f = cc
  full_row tells (ChildEof k) r s h f = cc
  full_row tells (ChildBroken k) r s h f = cc
  full_row tells (Took k n) r s h f = cc
  full_row tells (InputGone k) r s h f = cc
  full_row tells (Exited k) r s h f = cc
  full_row tells (WsText c b) r s h f = cc
  full_row tells (WsBinary c) r s h f = cc
  full_row tells (WsClosed c) r s h f = cc
  full_row tells (WsBad c) r s h f = cc
  full_row tells (NoRoom c) r s h f = cc
  full_row tells (Tick n) r s h f = cc
  full_row tells Stop r s h f = cc

  full_start : (tells : K → KidTells) (e : Event) (r s : Row K) → IsStartDue tells r s e → is_full_book e ≡ true → ⊥
  full_start tells (Accepted p) r s h f = cc
  full_start tells (ClientBytes c b) r s h f = cc
  full_start tells (ClientEof c) r s h f = cc
  full_start tells (ClientGone c) r s h f = cc
  full_start tells (Wrote c n) r s h f = cc
  full_start tells (Started k) r s h f = cc
  full_start tells (StartFailed k) r s h f = cc
  full_start tells (StartFull k n) r s h f = h
  full_start tells (ChildBytes k b) r s h f = cc
  full_start tells (ChildEof k) r s h f = cc
  full_start tells (ChildBroken k) r s h f = cc
  full_start tells (Took k n) r s h f = cc
  full_start tells (InputGone k) r s h f = cc
  full_start tells (Exited k) r s h f = cc
  full_start tells (WsText c b) r s h f = cc
  full_start tells (WsBinary c) r s h f = cc
  full_start tells (WsClosed c) r s h f = cc
  full_start tells (WsBad c) r s h f = cc
  full_start tells (NoRoom c) r s h f = cc
  full_start tells (Tick n) r s h f = cc
  full_start tells Stop r s h f = cc

  full_says : (tells : K → KidTells) (e : Event) (r s : Row K) → SaysRow tells r s e → is_full_book e ≡ true → ⊥
  full_says tells e r s (inl h) f = full_start tells e r s h.due f
  full_says tells e r s (inr h) f = full_row tells e r s h.1.due f

  pub full_child : (tells : K → KidTells) (e : Event) (rows now : List (Row K)) → OneSays tells e rows now → is_full_book e ≡ true → ⊥
  full_child tells e [] now h f = h
  full_child tells e (r ∷ rows) [] h f = h
  full_child tells e (r ∷ rows) (s ∷ now) (inl h) f = full_says tells e r s h.0 f
  full_child tells e (r ∷ rows) (s ∷ now) (inr h) f = full_child tells e rows now h.1 f

-- an event but NoRoom is told of no connection that has to be open
pub open_other : (e : Event) (set : SetState) → ((c : ℕ) → e ≡ NoRoom c → ⊥) → TellsOpen e set
open_other (Accepted p) set h = tt
open_other (ClientBytes c b) set h = tt
open_other (ClientEof c) set h = tt
open_other (ClientGone c) set h = tt
open_other (Wrote c n) set h = tt
open_other (Started k) set h = tt
open_other (StartFailed k) set h = tt
open_other (StartFull k n) set h = tt
open_other (ChildBytes k b) set h = tt
open_other (ChildEof k) set h = tt
open_other (ChildBroken k) set h = tt
open_other (Took k n) set h = tt
open_other (InputGone k) set h = tt
open_other (Exited k) set h = tt
open_other (WsText c b) set h = tt
open_other (WsBinary c) set h = tt
open_other (WsClosed c) set h = tt
open_other (WsBad c) set h = tt
open_other (NoRoom c) set h = absurd (h c refl)
open_other (Tick n) set h = tt
open_other Stop set h = tt

-- an act fails nowhere
same_counts : (a b : SetState) → b ≡ a → CountedBySet a b
same_counts a b e = subst (λ w. CountedBySet a w) (sym e) (set_counts a)

pub set_counted : (act : Act) (acted : Acted) (a b : SetState) → SetActs act acted a b → CountedBySet a b
set_counted (WantClient c) acted a b h = set_counts_same a b h.1.devices
set_counted (Write c bytes) Done a b h = set_counts_same a b h.devices
set_counted (Write c bytes) HasNoRoom a b h = set_counts_same a b h.devices
set_counted (Upgrade c rest) Done a b h = set_counts_same a b h.devices
set_counted (Upgrade c rest) HasNoRoom a b h = set_counts_same a b h.devices
set_counted (Says c texts) acted a b h = set_counts_same a b h.1.devices
set_counted (CloseWs c code) acted a b h = set_counts_same a b h.1.devices
set_counted (Shut c why) acted a b h = set_counts_same a b h.1.devices
set_counted (Start k c j hop launch) acted a b h = same_counts a b h.1
set_counted (Feed k bytes) acted a b h = same_counts a b h.1
set_counted (EndInput k) acted a b h = same_counts a b h.1
set_counted (WantChild k) acted a b h = same_counts a b h.1
set_counted (Kill k) acted a b h = same_counts a b h.1
set_counted (Release k) acted a b h = same_counts a b h.1

-- an order fails nowhere
deaf_counts : (a : SetState) → CountedBySet a (record a { listening = false })
deaf_counts a = record { grown = omega arith; looks = omega arith; waits = omega arith; ports = inl refl }

set_obeys : (o : Order) (a b : SetState) → SetObeys o a b → CountedBySet a b
set_obeys StopNow a b h = subst (λ w. CountedBySet a w) (sym h) (deaf_counts a)
set_obeys Drain a b h =
    set_counts_two a (record a { listening = false }) b (deaf_counts a) (set_counts_same (record a { listening = false }) b h.devices)

module _ {K : Type 0} where
  order_same : (o : Order) (a : LoopState K) (set : SetState) → SetObeys o a.set set → Counts a (record a { ending = ordered_by o a.ending; set = set })
  order_same o a set h =
      record { limit = refl; room = refl; set = set_obeys o a.set set h; children = omega arith; full = omega arith }

  pub order_counts : (a b : LoopState K) → TakesOrder a b → Counts a b
  order_counts a b h =
      elim h [
        | inl same ↦ subst (λ w. Counts a w) (sym same) (counts_self a)
        | inr told ↦ subst (λ w. Counts a w) (sym told.1.is_now) (order_same told.0 a b.set told.1.set)
      ]

  -- where no memory was found, that is told of a connection that is open
  pub told_open : (k c : ℕ) (e : Event) (a b : LoopState K) → ToldNoRoom k c e a b → TellsOpen e a.set
  told_open k c e a b h =
      elim h [
        | inl w ↦ subst (λ x. TellsOpen x a.set) (sym w.1) w.0
        | inr w ↦ subst (λ x. TellsOpen x a.set) (sym w.1) tt
      ]
