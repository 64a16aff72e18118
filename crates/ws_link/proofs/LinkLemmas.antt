-- From one read to the answer of a call.
use Rattle.std.proofs.Common.{◌≡◌, ◌⊎◌, ℕ, [], ◌∷◌, refl, ap, ◌∙◌, subst, inl, inr, Err}
use Rattle.host_base.specs.Outsides.{Rose}
use Rattle.tungstenite.specs.Socket.{Reads, Socket}
use Rattle.tungstenite.specs.declared.error.Error.{Error}
use Rattle.tungstenite.specs.declared.error.Error.TheVariants.{AlreadyClosed, ConnectionClosed}
use Rattle.ws_link.specs.declared.answer.Linked.{Linked}
use Rattle.ws_link.specs.Pipe.{Directions, coming_of}
use Rattle.ws_link.specs.State.{LinkState}
use Rattle.ws_link.specs.Answers.{Answers, AnswersError, AnswersOnce, HasPassed, IsAnswered, IsOnce, IsPassed, Says}

pub passed_none : (s : LinkState) → HasPassed s s
passed_none s = record { passed = []; passes = refl; count = refl }

pub passed_more : (old mid new : LinkState) → HasPassed old mid → IsPassed mid new → HasPassed old new
passed_more old mid new h p = record {
  passed = p.message ∷ h.passed;
  passes = (mid.socket, h.passes, p.reads, p.kind);
  count = p.count ∙ h.count;
}

answered_by : (answer : Linked) (old mid new : LinkState) → HasPassed old mid → IsOnce answer mid new → IsAnswered old new answer
answered_by answer old mid new h o = record { passed = h.passed; before = mid.socket; passes = h.passes; last = o.read; count = o.count ∙ h.count }

rose_from : (old mid new : ℕ) → mid ≡ old → Rose mid new → Rose old new
rose_from old mid new same rose = subst (λ (n : ℕ). Rose n new) same rose

pub answered : (answer : Linked) (old mid new : LinkState) → HasPassed old mid → AnswersOnce answer mid new → Answers answer old new
answered (Linked.Text words) old mid new h o = answered_by (Linked.Text words) old mid new h o
answered Linked.Binary old mid new h o = answered_by Linked.Binary old mid new h o
answered Linked.Closed old mid new h o = answered_by Linked.Closed old mid new h o
answered Linked.NotYet old mid new h o = answered_by Linked.NotYet old mid new h o
answered Linked.Bad old mid new h o = rose_from old.refusals mid.refusals new.refusals h.count o
answered Linked.NoMemory old mid new h o = o ∙ h.count

-- a read that failed, with its error answered
once_by : (answer : Linked) (e : Error) (old mid new : LinkState) → Reads coming_of old.socket mid.socket (Err e) → new.socket ≡ mid.socket
    → Says answer (Err e) new.socket.stream → new.refusals ≡ mid.refusals → mid.refusals ≡ old.refusals → IsOnce answer old new
once_by answer e old mid new reads socket says count same = record {
  read = record { read = Err e; after = mid.socket; reads = reads; handed_on = inl socket; says = says };
  count = count ∙ same;
}

closed_says : (e : Error) (pipe : Directions) → (e ≡ ConnectionClosed) ⊎ (e ≡ AlreadyClosed) → Says Linked.Closed (Err e) pipe
closed_says e pipe (inl is) = inr (inl (ap (λ (x : Error). Err x) is))
closed_says e pipe (inr is) = inr (inr (ap (λ (x : Error). Err x) is))

pub once_error : (answer : Linked) (e : Error) (old mid new : LinkState) → Reads coming_of old.socket mid.socket (Err e) → mid.refusals ≡ old.refusals
    → AnswersError answer e mid new → AnswersOnce answer old new
once_error (Linked.Text words) e old mid new reads same a = absurd a.says
once_error Linked.Binary e old mid new reads same a = absurd a.says
once_error Linked.Closed e old mid new reads same a = once_by Linked.Closed e old mid new reads a.socket (closed_says e new.socket.stream a.says.0) a.says.1 same
once_error Linked.NotYet e old mid new reads same a =
    once_by Linked.NotYet e old mid new reads a.socket (a.says.0, ap (λ (s : Socket Directions). s.stream.coming) a.socket ∙ a.says.1) a.says.2 same
once_error Linked.Bad e old mid new reads same a = rose_from old.refusals mid.refusals new.refusals same a.says
once_error Linked.NoMemory e old mid new reads same a = a.says ∙ same
