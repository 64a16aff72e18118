-- Clients that are shut one after another.
use Rattle.std.proofs.Common.{◌≡◌, ◌∙◌, ◌+◌, ◌≤◌, ◌<◌, ℕ, Bool, true, false, not, Option, Some, None, inl, inr, refl, ap, subst, arith}
use Rattle.std.proofs.lemmas.Bool.{cases_eq, cases_order}
use Rattle.std.specs.Option.{IfSome, IsNone}
use Rattle.host_trace.specs.declared.items.Event.{Event}
use Rattle.host_trace.specs.declared.items.Event.TheVariants.{Accepted, ClientBytes, ClientEof, ClientGone, Wrote, Started, StartFailed, StartFull, ChildBytes, ChildEof, ChildBroken, Took, InputGone, Exited, WsText, WsBinary, WsClosed, WsBad, NoRoom, Tick, Stop}
use Rattle.host_trace.specs.declared.outside.Acted.{Acted}
use Rattle.host_trace.specs.declared.outside.Acted.TheVariants.{Done}
use Rattle.socket_set.specs.Clients.{ClientState, Shuts}
use Rattle.socket_set.specs.declared.set.Polled.{Polled}
use Rattle.socket_set.specs.Sets.{SetState, Goes, OneSays, SameCounts, Tells, IsQuiet, On, OnClient, clients, is_open_at, told_by}
use Rattle.edge_loop.specs.Loops.{Closes, NoneOpen}

shut_at : (r s : Option ClientState) → OnClient Shuts r s → is_open_at s ≡ false
shut_at None s h = ap is_open_at h
shut_at (Some r) None h = elim h [ ]
shut_at (Some r) (Some s) h = ap (λ (w : ClientState). not w.shut) h

pub closed_by : (c : ℕ) (acted : Acted) (old new : SetState) → (acted ≡ Done) × On c Shuts old new → Closes c old new
closed_by c acted old new h =
    record {
      shut = shut_at (clients old c) (clients new c) h.1.one.client;
      others = h.1.one.others;
      accepted = h.1.one.counts.accepted;
      listening = h.1.one.counts.listening;
    }

pub closed_already : (c : ℕ) (old : SetState) → is_open_at (clients old c) ≡ false → Closes c old old
closed_already c old h = record { shut = h; others = λ d n. refl; accepted = refl; listening = refl }

-- those below c are shut or gone
pub record ClosedBelow (c : ℕ) (old new : SetState) : Type 0 where
  pub shut : (d : ℕ) → d < c → is_open_at (clients new d) ≡ false
  pub most : c ≤ new.accepted
  pub accepted : new.accepted ≡ old.accepted
  pub listening : new.listening ≡ old.listening

pub none_closed : (c : ℕ) (a : SetState) → ((d : ℕ) → 0 ≤ d → d < c → clients a d ≡ None) → c ≤ a.accepted → ClosedBelow c a a
none_closed c a none most =
    record { shut = λ d l. ap is_open_at (none d (omega arith) l); most = most; accepted = refl; listening = refl }

-- client c was shut, and there is none from the next number up to n
pub one_closed : (c n : ℕ) (a b d : SetState) → ClosedBelow c a b → Closes c b d → ((k : ℕ) → c + 1 ≤ k → k < n → clients d k ≡ None)
    → n ≤ d.accepted → ClosedBelow n a d
one_closed c n a b d h step none most =
    record {
      shut = λ k l. elim (cases_order k c) [
        | inl e ↦ rw e step.shut
        | inr apart ↦ elim apart [
          | inl less ↦ ap is_open_at (step.others k (λ e. omega (arith, less, e))) ∙ h.shut k less
          | inr more ↦ ap is_open_at (none k (omega (arith, more)) l)
        ]
      ];
      most = most;
      accepted = step.accepted ∙ h.accepted;
      listening = step.listening ∙ h.listening;
    }

-- ---- clients that were shut stay so

goes_shut : (a b : Option ClientState) → Goes a b → is_open_at a ≡ false → is_open_at b ≡ false
goes_shut None None g h = refl
goes_shut None (Some s) g h = absurd g
goes_shut (Some r) None g h = refl
goes_shut (Some r) (Some s) g h = ap not g.moved.shut ∙ h

pub closed_quiet : (a b : SetState) → NoneOpen a → IsQuiet a b → NoneOpen b
closed_quiet a b h q c l = goes_shut (clients a c) (clients b c) (q.rest c) (h c (subst (λ n. c < n) q.counts.accepted l))

not_both : (b : Bool) → b ≡ false → not b ≡ false → ⊥
not_both true e h = cc
not_both false e h = cc

never : (b : Bool) → b ≡ true → b ≡ false → ⊥
never true e h = cc
never false e h = cc

open_not : (a : Option ClientState) (r : ClientState) → a ≡ Some r → r.shut ≡ false → is_open_at a ≡ false → ⊥
open_not a r e s h = not_both r.shut s (subst (λ x. is_open_at x ≡ false) e h)

-- of a client that was shut nothing is told
closed_said : (e : Event) (a b : SetState) → NoneOpen a → SameCounts a b × OneSays e (clients a) (clients b) → NoneOpen b
closed_said e a b h q c l =
    let within : c < a.accepted = subst (λ n. c < n) q.0.accepted l in
    elim (cases_eq c q.1.c) [
      | inl same ↦ absurd (open_not (clients a c) q.1.r (ap (clients a) same ∙ q.1.was) q.1.says.not_shut (h c within))
      | inr apart ↦ goes_shut (clients a c) (clients b c) (q.1.others c apart) (h c within)
    ]

closed_told : (e : Event) (a b : SetState) → a.listening ≡ false → NoneOpen a → Tells e a b → NoneOpen b
closed_told (Accepted peer) a b d h q = absurd (never a.listening q.2 d)
closed_told (Tick secs) a b d h q = λ c l. goes_shut (clients a c) (clients b c) (q.6 c) (h c (subst (λ n. c < n) q.0 l))
closed_told (ClientBytes c x) a b d h q = closed_said (ClientBytes c x) a b h q
closed_told (ClientEof c) a b d h q = closed_said (ClientEof c) a b h q
closed_told (ClientGone c) a b d h q = closed_said (ClientGone c) a b h q
closed_told (Wrote c n) a b d h q = closed_said (Wrote c n) a b h q
closed_told (Started k) a b d h q = closed_said (Started k) a b h q
closed_told (StartFailed k) a b d h q = closed_said (StartFailed k) a b h q
closed_told (StartFull k n) a b d h q = closed_said (StartFull k n) a b h q
closed_told (ChildBytes k x) a b d h q = closed_said (ChildBytes k x) a b h q
closed_told (ChildEof k) a b d h q = closed_said (ChildEof k) a b h q
closed_told (ChildBroken k) a b d h q = closed_said (ChildBroken k) a b h q
closed_told (Took k n) a b d h q = closed_said (Took k n) a b h q
closed_told (InputGone k) a b d h q = closed_said (InputGone k) a b h q
closed_told (Exited k) a b d h q = closed_said (Exited k) a b h q
closed_told (WsText c x) a b d h q = closed_said (WsText c x) a b h q
closed_told (WsBinary c) a b d h q = closed_said (WsBinary c) a b h q
closed_told (WsClosed c) a b d h q = closed_said (WsClosed c) a b h q
closed_told (WsBad c) a b d h q = closed_said (WsBad c) a b h q
closed_told (NoRoom c) a b d h q = closed_said (NoRoom c) a b h q
closed_told Stop a b d h q = closed_said Stop a b h q

closed_if : (r : Option Event) (a b : SetState) → a.listening ≡ false → NoneOpen a → IfSome r (λ e. Tells e a b) → (IsNone r → IsQuiet a b) → NoneOpen b
closed_if None a b d h p q = closed_quiet a b h (q refl)
closed_if (Some e) a b d h p q = closed_told e a b d h p

-- whatever is told then
pub closed_polled : (r : Polled) (a b : SetState) → a.listening ≡ false → NoneOpen a → IfSome (told_by r) (λ e. Tells e a b) → (IsNone (told_by r) → IsQuiet a b)
    → NoneOpen b
closed_polled r a b d h p q = closed_if (told_by r) a b d h p q
