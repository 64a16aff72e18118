-- No book of children is ever full.
use Rattle.std.proofs.Common.{◌≡◌, ◌∙◌, inl, inr, ◌<◌, arith, All, ℕ, true, false, List, [], ◌∷◌, refl, sym, ap, subst, codes, Result, Ok, Err, IfOk}
use Rattle.std.proofs.lemmas.List.Elements.{All-cons}
use Rattle.host_base.specs.declared.launch.Peer.{Peer}
use Rattle.host_trace.specs.declared.items.Event.{Event}
use Rattle.host_trace.specs.declared.items.Event.TheVariants.{Accepted, ClientBytes, ClientEof, ClientGone, Wrote, Started, StartFailed, StartFull, ChildBytes, ChildEof, ChildBroken, Took, InputGone, Exited, WsText, WsBinary, WsClosed, WsBad, NoRoom, Tick, Stop}
use Rattle.host_trace.specs.Told.{is_full_book}
use Rattle.child_edge.specs.Kids.{KidTells}
use Rattle.child_edge.specs.declared.row.Row.{Row}
use Rattle.child_edge.specs.Rows.{OneSays, Says, kept}
use Rattle.socket_set.specs.Sockets.{SocketTells}
use Rattle.once_edge.specs.Once.{OnceState, IsNew, IsFresh, IsDue, IsHeard, IsOwed}

no_full : false ≡ true → ⊥
no_full e = cc

module _ {K : Type 0} where
  no_row_full : (tells : K → KidTells) (k n : ℕ) (r s : Row K) → Says tells r s (StartFull k n) → ⊥
  no_row_full tells k n r s h = elim h [ inl w ↦ w.due | inr w ↦ w.1.due ]

  no_child_full : (tells : K → KidTells) (k n : ℕ) (a b : List (Row K)) → OneSays tells (StartFull k n) a b → ⊥
  no_child_full tells k n [] b h = absurd h
  no_child_full tells k n (r ∷ a) [] h = absurd h
  no_child_full tells k n (r ∷ a) (s ∷ b) h = elim h [ inl w ↦ no_row_full tells k n r s w.0 | inr w ↦ no_child_full tells k n a b w.1 ]

  never_due : (k n : ℕ) (a b : OnceState K) → IsDue (StartFull k n) a b → ⊥
  never_due k n a b h =
      elim h [
        | inl w ↦ no_full (sym (ap is_full_book w.event_is) ∙ refl)
        | inr v ↦ elim v [
          | inl w ↦ no_full (sym (ap is_full_book w.event_is) ∙ refl)
          | inr w ↦ w.refuses
        ]
      ]

  never_heard : (tells : K → KidTells) (k n : ℕ) (a b : OnceState K) → IsHeard tells (StartFull k n) a b → ⊥
  never_heard tells k n a b h =
      elim h [
        | inl w ↦ w.says.due
        | inr v ↦ elim v [
          | inl w ↦ no_child_full tells k n (kept a.rows) b.rows w.says
          | inr w ↦ no_full (sym (ap is_full_book w.0) ∙ refl)
        ]
      ]

  never_full : (tells : K → KidTells) (k n : ℕ) (a b : OnceState K) → IsOwed tells (StartFull k n) a b → ⊥
  never_full tells k n a b h = elim h [ inl w ↦ never_due k n w.mid b w.after | inr w ↦ never_heard tells k n w.mid b w.after ]

  pub full : (tells : K → KidTells) (e : Event) (a b : OnceState K) (X : Type 0) → IsOwed tells e a b → is_full_book e ≡ true → X
  full tells (StartFull k n) a b X h f = absurd (never_full tells k n a b h)
  full tells (Accepted p) a b X h f = absurd (no_full f)
  full tells (ClientBytes c w) a b X h f = absurd (no_full f)
  full tells (ClientEof c) a b X h f = absurd (no_full f)
  full tells (ClientGone c) a b X h f = absurd (no_full f)
  full tells (Wrote c n) a b X h f = absurd (no_full f)
  full tells (Started k) a b X h f = absurd (no_full f)
  full tells (StartFailed k) a b X h f = absurd (no_full f)
  full tells (ChildBytes k w) a b X h f = absurd (no_full f)
  full tells (ChildEof k) a b X h f = absurd (no_full f)
  full tells (ChildBroken k) a b X h f = absurd (no_full f)
  full tells (Took k n) a b X h f = absurd (no_full f)
  full tells (InputGone k) a b X h f = absurd (no_full f)
  full tells (Exited k) a b X h f = absurd (no_full f)
  full tells (WsText c w) a b X h f = absurd (no_full f)
  full tells (WsBinary c) a b X h f = absurd (no_full f)
  full tells (WsClosed c) a b X h f = absurd (no_full f)
  full tells (WsBad c) a b X h f = absurd (no_full f)
  full tells (NoRoom c) a b X h f = absurd (no_full f)
  full tells (Tick n) a b X h f = absurd (no_full f)
  full tells Stop a b X h f = absurd (no_full f)

  pub fresh_of : {E : Type 0} (socket : SocketTells) (who : Peer) (children : ℕ) (r : Result (OnceState K) E) → who.0 ≡ codes "127.0.0.1"
      → IfOk r (λ s. IsNew socket who children s) → IfOk r IsFresh
  fresh_of socket who children (Ok s) e h = record { who = who; at = e; socket = socket; children = children; is_new = h }
  fresh_of socket who children (Err x) e h = tt

  pub limit_of : {E : Type 0} (socket : SocketTells) (who : Peer) (children : ℕ) (r : Result (OnceState K) E)
      → IfOk r (λ s. IsNew socket who children s) → IfOk r (λ s. s.limit ≡ children)
  limit_of socket who children (Ok s) h = h.limit_is
  limit_of socket who children (Err x) h = tt

  pub room_of : {E : Type 0} (cap connections : ℕ) (r : Result (OnceState K) E) → cap ≡ connections
      → IfOk r (λ s. s.room ≡ cap) → IfOk r (λ s. s.room ≡ connections)
  room_of cap connections (Ok s) e h = h ∙ e
  room_of cap connections (Err x) e h = tt

none_below : (k : ℕ) → k < 0 → ⊥
none_below k h = omega arith

-- what holds of the one item of a list holds of all
pub all_only : {V X E : Type 0} (items : V → List X) (P : X → Type 0) (x : X) (r : Result V E) → P x → IfOk r (λ v. items v ≡ x ∷ []) → IfOk r (λ v. All P (items v))
all_only items P x (Ok v) p e = subst (λ w. All P w) (sym e) (All-cons P x [] p (λ k d h. absurd (none_below k h)))
all_only items P x (Err f) p e = tt
