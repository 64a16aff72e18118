-- Why Stop is due.
use Rattle.std.proofs.Common.{◌≡◌, ◌⊎◌, inl, inr, ◌≤◌, Bool, true, false, not, ◌&&◌, ◌||◌, nat_lt, refl, sym, subst}
use Rattle.std.proofs.lemmas.Bool.{ltb-false, not-true}
use Rattle.child_edge.specs.Kids.{KidTells}
use Rattle.host_trace.specs.declared.items.Event.TheVariants.{Stop}
use Rattle.socket_set.proofs.Sets.{quiet_self as set_self}
use Rattle.edge_loop.specs.Orders.{is_stop_due, stopped_by}
use Rattle.edge_loop.specs.Loops.{LoopState, IsStill, IsStopDue, EndsBy, OfOrder, Counted}
use Rattle.edge_loop.proofs.Quiet.{counts_self}
use Rattle.edge_loop.specs.declared.ending.Ending.{Ending}

pub stop_cases : (P Q : Type 0) (quiet stopped ordered draining late : Bool) → (not stopped && (ordered || draining && (quiet || late))) ≡ true
    → (quiet ≡ true → P) → (late ≡ true → Q) → (stopped ≡ false) × ((ordered ≡ true) ⊎ ((draining ≡ true) × (P ⊎ Q)))
stop_cases P Q quiet true ordered draining late h p q = absurd (cc)
stop_cases P Q quiet false true draining late h p q = (refl, inl refl)
stop_cases P Q true false false true late h p q = (refl, inr (refl, inl (p refl)))
stop_cases P Q false false false true true h p q = (refl, inr (refl, inr (q refl)))
stop_cases P Q false false false true false h p q = absurd (cc)
stop_cases P Q quiet false false false late h p q = absurd (cc)

-- whoever finds it due knows why
pub stop_why : (P : Type 0) (quiet : Bool) (e : Ending) → is_stop_due quiet e ≡ true → (quiet ≡ true → P)
    → (e.stopped ≡ false) × ((e.ordered ≡ true) ⊎ ((e.draining ≡ true) × (P ⊎ (300 ≤ e.ticks))))
stop_why P quiet e h p =
    stop_cases P (300 ≤ e.ticks) quiet e.stopped e.ordered e.draining (not (nat_lt e.ticks 300)) h p (λ late. ltb-false e.ticks 300 (not-true (nat_lt e.ticks 300) late))

module _ {K : Type 0} where
  pub due_why : (quiet : Bool) (a : LoopState K) → (quiet ≡ true → IsStill a) → is_stop_due quiet a.ending ≡ true → IsStopDue a
  due_why quiet a still h = let w = stop_why (IsStill a) quiet a.ending h still in record { first = w.0; cause = w.1 }

  abbrev stopped : LoopState K → LoopState K
  stopped a = record a { ending = stopped_by a.ending }

  still_stopped : (a : LoopState K) → IsStill a → IsStill (stopped a)
  still_stopped a h = record { none_kept = h.none_kept; none_asked = h.none_asked; none_open = h.none_open; sent = h.sent }

  ends_stopped : (a : LoopState K) → EndsBy a → EndsBy (stopped a)
  ends_stopped a h =
      elim h [
        | inl w ↦ inl w
        | inr w ↦ elim w.1 [
          | inl v ↦ inr (w.0, inl (still_stopped a v))
          | inr v ↦ inr (w.0, inr v)
        ]
      ]

  told_self : (tells : K → KidTells) (a : LoopState K) → IsStopDue a → OfOrder tells Stop a (stopped a)
  told_self tells a h =
      record {
        is_stop = refl;
        set = set_self a.set;
        rows = inl refl;
        due = record { starts = refl; unstarted = refl; tried = refl };
        first = h.first;
        ending = refl;
        cause = ends_stopped a h.cause;
      }

  pub stop_told : (tells : K → KidTells) (a b : LoopState K) → b ≡ record a { ending = stopped_by a.ending } → IsStopDue a → OfOrder tells Stop a b
  stop_told tells a b e h = subst (λ w. OfOrder tells Stop a w) (sym e) (told_self tells a h)

  counted_stop : (a : LoopState K) → Counted Stop a (stopped a)
  counted_stop a = record { counts = record { limit = refl; room = refl; set = (counts_self a).set; children = (counts_self a).children; full = (counts_self a).full }; failure = λ f. cc; full_book = λ f. cc }

  pub stop_counted : (a b : LoopState K) → b ≡ record a { ending = stopped_by a.ending } → Counted Stop a b
  stop_counted a b e = subst (λ w. Counted Stop a w) (sym e) (counted_stop a)
