-- An event of a row after it rested.
use Rattle.std.proofs.Common.{◌∙◌, ℕ, ◌≤◌, [], inl, inr, sym, ap, arith}
use Rattle.host_base.specs.Outsides.{Rose}
use Rattle.host_trace.specs.declared.items.Event.{Event}
use Rattle.host_trace.specs.declared.items.Event.TheVariants.{Accepted, ClientBytes, ClientEof, ClientGone, Wrote, Started, StartFailed, StartFull, ChildBytes, ChildEof, ChildBroken, Took, InputGone, Exited, WsText, WsBinary, WsClosed, WsBad, NoRoom, Tick, Stop}
use Rattle.child_edge.specs.Kids.{KidTells}
use Rattle.child_edge.specs.declared.row.Row.{Row}
use Rattle.child_edge.specs.Rows.{Stays, SameMarks, Says, SaysStart, IsStartDue, marks_after}
use Rattle.child_edge.proofs.Steps.{stays_two, says_two}

rose_more : (a b d : ℕ) → a ≤ b → Rose b d → Rose a d
rose_more a b d p q = omega (arith, p, q)

module _ {K : Type 0} where
  start_due_two : (tells : K → KidTells) (r m s : Row K) (e : Event) → Stays tells [] r m → SameMarks r m → IsStartDue tells m s e → IsStartDue tells r s e
  start_due_two tells r m s (Started k) g q h = (h.0 ∙ g.number, h.1, stays_two tells [] r m s g h.2)
  start_due_two tells r m s (StartFailed k) g q h = (
    h.0 ∙ g.number,
    sym (ap (λ w. w.exited) q) ∙ h.1,
    h.2,
    rose_more (tells r.kid).faults (tells m.kid).faults (tells s.kid).faults g.same.faults h.3,
    stays_two tells [] r m s g h.4,
  )
  start_due_two tells r m s (Accepted p) g q h = absurd h
  start_due_two tells r m s (ClientBytes c b) g q h = absurd h
  start_due_two tells r m s (ClientEof c) g q h = absurd h
  start_due_two tells r m s (ClientGone c) g q h = absurd h
  start_due_two tells r m s (Wrote c n) g q h = absurd h
  start_due_two tells r m s (StartFull k n) g q h = absurd h
  start_due_two tells r m s (ChildBytes k b) g q h = absurd h
  start_due_two tells r m s (ChildEof k) g q h = absurd h
  start_due_two tells r m s (ChildBroken k) g q h = absurd h
  start_due_two tells r m s (Took k n) g q h = absurd h
  start_due_two tells r m s (InputGone k) g q h = absurd h
  start_due_two tells r m s (Exited k) g q h = absurd h
  start_due_two tells r m s (WsText c b) g q h = absurd h
  start_due_two tells r m s (WsBinary c) g q h = absurd h
  start_due_two tells r m s (WsClosed c) g q h = absurd h
  start_due_two tells r m s (WsBad c) g q h = absurd h
  start_due_two tells r m s (NoRoom c) g q h = absurd h
  start_due_two tells r m s (Tick n) g q h = absurd h
  start_due_two tells r m s Stop g q h = absurd h

  start_two : (tells : K → KidTells) (r m s : Row K) (e : Event) → Stays tells [] r m → SameMarks r m → SaysStart tells m s e → SaysStart tells r s e
  start_two tells r m s e g q h =
      record {
        due = start_due_two tells r m s e g q h.due;
        first = sym (ap (λ w. w.started) q) ∙ h.first;
        marks = h.marks ∙ ap (λ w. marks_after e w) q;
        sound = h.sound;
      }

  pub says_later : (tells : K → KidTells) (r m s : Row K) (e : Event) → Stays tells [] r m → SameMarks r m → Says tells m s e → Says tells r s e
  says_later tells r m s e g q h =
      elim h [
        | inl w ↦ inl (start_two tells r m s e g q w)
        | inr w ↦ inr (sym (ap (λ x. x.started) q) ∙ w.0, says_two tells r m s e g q w.1)
      ]
