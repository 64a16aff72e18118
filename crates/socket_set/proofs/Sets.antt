-- Steps of the set one after another.
use Rattle.std.proofs.Common.{◌≡◌, ◌≢◌, ◌∙◌, ◌+◌, ◌≤◌, min, length, inl, inr, ℕ, List, [], ◌++◌, Option, Some, None, refl, sym, ap, subst, append-nil, Bool, true, false, arith}
use Rattle.std.specs.Io.KnownBytes.{append_known}
use Rattle.std.proofs.KnownBytes.{Consumes-nil, Consumes-trans, Appends-trans}
use Rattle.host_base.specs.Outsides.{Rose}
use Rattle.host_base.specs.declared.launch.Peer.{Peer}
use Rattle.host_trace.specs.declared.items.Event.{Event}
use Rattle.host_trace.specs.declared.items.Event.TheVariants.{Accepted, ClientBytes, ClientEof, ClientGone, Wrote, Started, StartFailed, StartFull, ChildBytes, ChildEof, ChildBroken, Took, InputGone, Exited, WsText, WsBinary, WsClosed, WsBad, NoRoom, Tick, Stop}
use Rattle.socket_set.specs.Clients.{ClientState, IsStillOrShut, Moved, Rests, Says, Keeps, Notes, noted, IsNewClient, IsDue, wanted_after}
use Rattle.std.specs.List.{All}
use Rattle.socket_set.specs.Sockets.{SocketTells, Moves}
use Rattle.std.proofs.lemmas.Bool.{cases_eq}
use Rattle.std.specs.Option.{IsSome, IfSome}
use Rattle.socket_set.specs.Sets.{SetState, clients, is_shut_at, OnClient, OnOne, On, Inserts, Leaves, SameDevices, SameClients, client_of, Goes, AllRest, OthersRest, OneSays, Arrives, SameCounts, Tells, IsQuiet, IsIdle, OwesNoTick, Counted}
use Rattle.socket_set.specs.Devices.{Waits, AsksClock, Shows}

moves_self : (t : Option (List ℕ)) (w : List ℕ) → Moves t w t w []
moves_self None w = tt
moves_self (Some t) w = sym (append-nil (t ++ w))

pub moved_self : (r : ClientState) → Moved [] r r
moved_self r =
    record {
      frames = [];
      sent = moves_self r.socket.taken r.outgoing;
      plain = λ _. refl;
      heard = λ _ _. Consumes-nil r.socket.left;
      upgraded = refl;
      shut = refl;
    }

-- trouble moves no bytes
moved_noted : (r : ClientState) (troubled : Bool) → Moved [] r (record r { troubled = troubled })
moved_noted r troubled =
    record { frames = []; sent = moves_self r.socket.taken r.outgoing; plain = λ _. refl; heard = λ _ _. Consumes-nil r.socket.left; upgraded = refl; shut = refl }

-- what is known stays known
noted_stays : (failed shut troubled : Bool) → troubled ≡ true → noted failed shut troubled ≡ true
noted_stays true false troubled h = refl
noted_stays true true troubled h = h
noted_stays false shut troubled h = h

pub moved_two : (bytes : List ℕ) (r m s : ClientState) → Moved [] r m → Moved bytes m s → Moved bytes r s
moved_two bytes r m s g h =
    record {
      frames = g.frames ++ h.frames;
      sent = Appends-trans (append_known r.socket.taken r.outgoing) (append_known m.socket.taken m.outgoing) (append_known s.socket.taken s.outgoing) g.frames h.frames g.sent h.sent;
      plain = λ p. rw (g.plain p, h.plain (g.upgraded ∙ p)) refl;
      heard = λ p q. Consumes-trans r.socket.left m.socket.left s.socket.left [] bytes (g.heard p q) (h.heard (g.upgraded ∙ p) (g.shut ∙ q));
      upgraded = h.upgraded ∙ g.upgraded;
      shut = h.shut ∙ g.shut;
    }

pub rests_self : (r : ClientState) → Rests r r
rests_self r = record { moved = moved_self r; wanted = refl; untold = refl; troubled = λ t. t }

pub rests_two : (r m s : ClientState) → Rests r m → Rests m s → Rests r s
rests_two r m s g h =
    record { moved = moved_two [] r m s g.moved h.moved; wanted = h.wanted ∙ g.wanted; untold = h.untold ∙ g.untold; troubled = λ t. h.troubled (g.troubled t) }

due_two : (c : ℕ) (r m s : ClientState) (e : Event) → Rests r m → IsDue c m s e → IsDue c r s e
due_two c r m s (ClientBytes d bytes) g h =
    (h.0, sym g.wanted ∙ h.1, sym g.moved.upgraded ∙ h.2, h.3, h.4, h.5 ∙ g.untold, moved_two bytes r m s g.moved h.6)
due_two c r m s (ClientEof d) g h =
    (h.0, sym g.wanted ∙ h.1, sym g.moved.upgraded ∙ h.2, h.3, h.4 ∙ g.untold, moved_two [] r m s g.moved h.5)
due_two c r m s (ClientGone d) g h = (h.0, h.1 ∙ g.untold, moved_two [] r m s g.moved h.2)
due_two c r m s (Wrote d n) g h =
    (h.0, h.1, h.2 ∙ g.untold, h.3 ∙ ap (λ u. min u (length s.outgoing)) g.untold, moved_two [] r m s g.moved h.4)
due_two c r m s (WsText d bytes) g h =
    (h.0, sym g.wanted ∙ h.1, sym g.moved.upgraded ∙ h.2, h.3 ∙ g.untold, moved_two [] r m s g.moved h.4)
due_two c r m s (WsBinary d) g h =
    (h.0, sym g.wanted ∙ h.1, sym g.moved.upgraded ∙ h.2, h.3 ∙ g.untold, moved_two [] r m s g.moved h.4)
due_two c r m s (WsClosed d) g h =
    (h.0, sym g.wanted ∙ h.1, sym g.moved.upgraded ∙ h.2, h.3 ∙ g.untold, moved_two [] r m s g.moved h.4)
due_two c r m s (WsBad d) g h =
    (h.0, sym g.wanted ∙ h.1, sym g.moved.upgraded ∙ h.2, h.3 ∙ g.untold, moved_two [] r m s g.moved h.4)
due_two c r m s (NoRoom d) g h = (h.0, h.1 ∙ g.untold, h.2 ∙ g.moved.shut)
due_two c r m s (Accepted p) g h = absurd h
due_two c r m s (Started k) g h = absurd h
due_two c r m s (StartFailed k) g h = absurd h
due_two c r m s (StartFull k n) g h = absurd h
due_two c r m s (ChildBytes k b) g h = absurd h
due_two c r m s (ChildEof k) g h = absurd h
due_two c r m s (ChildBroken k) g h = absurd h
due_two c r m s (Took k n) g h = absurd h
due_two c r m s (InputGone k) g h = absurd h
due_two c r m s (Exited k) g h = absurd h
due_two c r m s (Tick secs) g h = absurd h
due_two c r m s Stop g h = absurd h

pub says_two : (c : ℕ) (r m s : ClientState) (e : Event) → Rests r m → Says c m s e → Says c r s e
says_two c r m s e g h =
    record {
      due = due_two c r m s e g h.due;
      not_shut = sym g.moved.shut ∙ h.not_shut;
      trouble = λ t. h.trouble (g.troubled t);
      wanted = h.wanted ∙ ap (λ w. wanted_after e w) g.wanted;
    }

pub goes_self : (a : Option ClientState) → Goes a a
goes_self None = tt
goes_self (Some r) = rests_self r

pub goes_two : (a b d : Option ClientState) → Goes a b → Goes b d → Goes a d
goes_two None None None g h = tt
goes_two None None (Some s) g h = absurd h
goes_two None (Some m) d g h = absurd g
goes_two (Some r) None None g h = g
goes_two (Some r) None (Some s) g h = absurd h
goes_two (Some r) (Some m) None g h = sym g.moved.shut ∙ h
goes_two (Some r) (Some m) (Some s) g h = rests_two r m s g h

pub all_self : (f : ℕ → Option ClientState) → AllRest f f
all_self f c = goes_self (f c)

pub all_two : (f g h : ℕ → Option ClientState) → AllRest f g → AllRest g h → AllRest f h
all_two f g h p q c = goes_two (f c) (g c) (h c) (p c) (q c)

-- what a client was before it rested
rested : (a : Option ClientState) (m : ClientState) → Goes a (Some m) → (r : ClientState) × (a ≡ Some r) × Rests r m
rested None m g = absurd g
rested (Some r) m g = (r, refl, g)

one_two : (e : Event) (f g h : ℕ → Option ClientState) → AllRest f g → OneSays e g h → OneSays e f h
one_two e f g h p q =
    let r = rested (f q.c) q.r (subst (λ x. Goes (f q.c) x) q.was (p q.c)) in
    record {
      c = q.c;
      r = r.0;
      s = q.s;
      was = r.1;
      is_now = q.is_now;
      says = says_two q.c r.0 q.r q.s e r.2 q.says;
      others = λ d apart. goes_two (f d) (g d) (h d) (p d) (q.others d apart);
    }

arrives_two : (c b : ℕ) (f g h : ℕ → Option ClientState) → AllRest f g → b ≡ c → Arrives c g h → Arrives b f h
arrives_two c b f g h p e q =
    rw e record { s = q.s; is_now = q.is_now; fresh = q.fresh; others = λ d apart. goes_two (f d) (g d) (h d) (p d) (q.others d apart) }

pub counts_self : (a : SetState) → SameCounts a a
counts_self a = record { accepted = refl; ticked = refl; listening = refl }

pub quiet_self : (a : SetState) → IsQuiet a a
quiet_self a = record { counts = counts_self a; rest = all_self (clients a) }

pub counts_two : (a b d : SetState) → SameCounts a b → SameCounts b d → SameCounts a d
counts_two a b d p q = record { accepted = q.accepted ∙ p.accepted; ticked = q.ticked ∙ p.ticked; listening = q.listening ∙ p.listening }

pub quiet_two : (a b d : SetState) → IsQuiet a b → IsQuiet b d → IsQuiet a d
quiet_two a b d p q =
    record { counts = counts_two a b d p.counts q.counts; rest = all_two (clients a) (clients b) (clients d) p.rest q.rest }

pub counted_self : (a : SetState) → Counted a a
counted_self a = record { grown = omega arith; looks = omega arith; waits = omega arith; ports = inl refl }

rose_more : (a b d : ℕ) → a ≤ b → Rose b d → Rose a d
rose_more a b d p q = omega (arith, p, q)

rose_on : (a b d : ℕ) → Rose a b → b ≤ d → Rose a d
rose_on a b d p q = omega (arith, p, q)

pub counted_two : (a b d : SetState) → Counted a b → Counted b d → Counted a d
counted_two a b d p q =
    record {
      grown = omega (arith, p.grown, q.grown);
      looks = omega (arith, p.looks, q.looks);
      waits = omega (arith, p.waits, q.waits);
      ports = elim p.ports [
        | inl same ↦ elim q.ports [
          | inl still ↦ inl (still ∙ same)
          | inr rose ↦ inr (rose_more a.faults b.faults d.faults p.grown rose)
        ]
        | inr rose ↦ inr (rose_on a.faults b.faults d.faults rose q.grown)
      ];
    }

pub rose_later : (a b : SetState) (x : ℕ) → Counted a b → Rose b.faults x → Rose a.faults x
rose_later a b x p q = rose_more a.faults b.faults x p.grown q

others_two : (e : Event) (a b d : SetState) → IsQuiet a b → SameCounts b d × OneSays e (clients b) (clients d) → SameCounts a d × OneSays e (clients a) (clients d)
others_two e a b d p q = (counts_two a b d p.counts q.0, one_two e (clients a) (clients b) (clients d) p.rest q.1)

pub tells_two : (e : Event) (a b d : SetState) → IsQuiet a b → Tells e b d → Tells e a d
tells_two (Accepted peer) a b d p q = (
  q.0 ∙ ap (λ n. n + 1) p.counts.accepted,
  q.1 ∙ p.counts.ticked,
  sym p.counts.listening ∙ q.2,
  q.3,
  q.4,
  arrives_two b.accepted a.accepted (clients a) (clients b) (clients d) p.rest (sym p.counts.accepted) q.5,
)
tells_two (Tick secs) a b d p q =
    (q.0 ∙ p.counts.accepted, q.1 ∙ ap (λ n. n + 1) p.counts.ticked, q.2 ∙ p.counts.listening, q.3, q.4, q.5, all_two (clients a) (clients b) (clients d) p.rest q.6)
tells_two (ClientBytes c x) a b d p q = others_two (ClientBytes c x) a b d p q
tells_two (ClientEof c) a b d p q = others_two (ClientEof c) a b d p q
tells_two (ClientGone c) a b d p q = others_two (ClientGone c) a b d p q
tells_two (Wrote c n) a b d p q = others_two (Wrote c n) a b d p q
tells_two (Started k) a b d p q = others_two (Started k) a b d p q
tells_two (StartFailed k) a b d p q = others_two (StartFailed k) a b d p q
tells_two (StartFull k n) a b d p q = others_two (StartFull k n) a b d p q
tells_two (ChildBytes k x) a b d p q = others_two (ChildBytes k x) a b d p q
tells_two (ChildEof k) a b d p q = others_two (ChildEof k) a b d p q
tells_two (ChildBroken k) a b d p q = others_two (ChildBroken k) a b d p q
tells_two (Took k n) a b d p q = others_two (Took k n) a b d p q
tells_two (InputGone k) a b d p q = others_two (InputGone k) a b d p q
tells_two (Exited k) a b d p q = others_two (Exited k) a b d p q
tells_two (WsText c x) a b d p q = others_two (WsText c x) a b d p q
tells_two (WsBinary c) a b d p q = others_two (WsBinary c) a b d p q
tells_two (WsClosed c) a b d p q = others_two (WsClosed c) a b d p q
tells_two (WsBad c) a b d p q = others_two (WsBad c) a b d p q
tells_two (NoRoom c) a b d p q = others_two (NoRoom c) a b d p q
tells_two Stop a b d p q = others_two Stop a b d p q

-- ---- from one client to the set

-- all others are as they were
others_rest : (c : ℕ) (f g : ℕ → Option ClientState) → ((d : ℕ) → d ≢ c → g d ≡ f d) → OthersRest c f g
others_rest c f g h d apart = subst (λ x. Goes (f d) x) (sym (h d apart)) (goes_self (f d))

all_rest : (c : ℕ) (f g : ℕ → Option ClientState) → Goes (f c) (g c) → ((d : ℕ) → d ≢ c → g d ≡ f d) → AllRest f g
all_rest c f g one h d =
    elim (cases_eq d c) [
      | inl same ↦ rw same one
      | inr apart ↦ others_rest c f g h d apart
    ]

goes_on : (a b : Option ClientState) → OnClient Rests a b → Goes a b
goes_on None None h = tt
goes_on None (Some s) h = cc
goes_on (Some r) None h = absurd h
goes_on (Some r) (Some s) h = h

goes_kept : (a b : Option ClientState) → OnClient Keeps a b → Goes a b
goes_kept None None h = tt
goes_kept None (Some s) h = cc
goes_kept (Some r) None h = absurd h
goes_kept (Some r) (Some s) h = rw h (rests_self r)

pub quiet_on : (c : ℕ) (a b : SetState) → OnOne c Rests a b → IsQuiet a b
quiet_on c a b h =
    record {
      counts = h.counts;
      rest = all_rest c (clients a) (clients b) (goes_on (clients a c) (clients b c) h.client) h.others;
    }

pub quiet_kept : (c : ℕ) (a b : SetState) → On c Keeps a b → IsQuiet a b
quiet_kept c a b h =
    record {
      counts = h.one.counts;
      rest = all_rest c (clients a) (clients b) (goes_kept (clients a c) (clients b c) h.one.client) h.one.others;
    }

-- of one that was noted nothing was told
rests_noted : (failed : Bool) (r s : ClientState) → Notes failed r s → Rests r s
rests_noted failed r s h =
    rw h record { moved = moved_noted r (noted failed r.shut r.troubled); wanted = refl; untold = refl; troubled = noted_stays failed r.shut r.troubled }

goes_noted : (failed : Bool) (a b : Option ClientState) → OnClient (Notes failed) a b → Goes a b
goes_noted failed None None h = tt
goes_noted failed None (Some s) h = cc
goes_noted failed (Some r) None h = absurd h
goes_noted failed (Some r) (Some s) h = rests_noted failed r s h

pub quiet_noted : (c : ℕ) (failed : Bool) (a b : SetState) → On c (Notes failed) a b → IsQuiet a b
quiet_noted c failed a b h =
    record {
      counts = h.one.counts;
      rest = all_rest c (clients a) (clients b) (goes_noted failed (clients a c) (clients b c) h.one.client) h.one.others;
    }

pub noted_devices : (c : ℕ) (failed : Bool) (a b : SetState) → On c (Notes failed) a b → SameDevices a b
noted_devices c failed a b h = h.devices

goes_gone : (a b : Option ClientState) → is_shut_at a ≡ true → b ≡ None → Goes a b
goes_gone None b h e = rw e tt
goes_gone (Some r) b h e = rw e h

pub quiet_left : (c : ℕ) (a b : SetState) → is_shut_at (clients a c) ≡ true → Leaves c a b → IsQuiet a b
quiet_left c a b shut h =
    record {
      counts = h.counts;
      rest = all_rest c (clients a) (clients b) (goes_gone (clients a c) (clients b c) shut h.gone) h.others;
    }

-- the client that was accepted
pub accepted_told : (peer : Peer) (t : SocketTells) (n s : ClientState) (a b d : SetState) → a.listening ≡ true → b.ports.peer ≡ Some peer → SameClients a b
    → IsNewClient t n → s ≡ n → Inserts s b d → Tells (Accepted peer) a d
accepted_told peer t n s a b d on given same new e h =
    let clients_same : (c : ℕ) → clients b c ≡ clients a c = λ c. ap (λ rows. client_of rows c) same.rows in (
      h.accepted ∙ ap (λ k. k + 1) same.counts.accepted,
      h.ticked ∙ same.counts.ticked,
      on,
      h.listening ∙ (same.counts.listening ∙ on),
      ap (λ p. p.peer) h.devices.ports ∙ given,
      record {
        s = s;
        is_now = ap (λ k. clients d k) (sym same.counts.accepted) ∙ h.is_now;
        fresh = rw e record {
          nothing_waits = new.nothing_waits;
          nothing_untold = new.nothing_untold;
          unasked = new.unasked;
          plain = new.plain;
          untroubled = new.untroubled;
          not_shut = new.not_shut;
        };
        others = λ c apart. subst (λ x. Goes (clients a c) x) (sym (h.others c (λ z. apart (z ∙ same.counts.accepted)) ∙ clients_same c)) (goes_self (clients a c));
      },
    )

pub quiet_same : (a b : SetState) → SameClients a b → IsQuiet a b
quiet_same a b h =
    record {
      counts = h.counts;
      rest = λ c. subst (λ x. Goes (clients a c) x) (sym (ap (λ rows. client_of rows c) h.rows)) (goes_self (clients a c));
    }

-- a client that gave an event
said : (c : ℕ) (e : Event) (f g : ℕ → Option ClientState) (a b : Option ClientState) → f c ≡ a → g c ≡ b → IsSome a
    → OnClient (λ r s. Says c r s e) a b → ((d : ℕ) → d ≢ c → g d ≡ f d) → OneSays e f g
said c e f g None b p q known h others = absurd (cc)
said c e f g (Some r) None p q known h others = absurd h
said c e f g (Some r) (Some s) p q known h others =
    record { c = c; r = r; s = s; was = p; is_now = q; says = h; others = others_rest c f g others }

one_said : (c : ℕ) (e : Event) (a b : SetState) → IsSome (clients a c) → OnOne c (λ r s. Says c r s e) a b
    → SameCounts a b × OneSays e (clients a) (clients b)
one_said c e a b known h =
    (h.counts, said c e (clients a) (clients b) (clients a c) (clients b c) refl refl known h.client h.others)

none_said : (R : ClientState → ClientState → Type 0) (a b : Option ClientState) → IsSome a → ((r s : ClientState) → R r s → ⊥)
    → OnClient R a b → ⊥
none_said R None b known never h = absurd (cc)
none_said R (Some r) None known never h = absurd h
none_said R (Some r) (Some s) known never h = never r s h

pub tells_said : (c : ℕ) (e : Event) (a b : SetState) → IsSome (clients a c) → OnOne c (λ r s. Says c r s e) a b → Tells e a b
tells_said c (Accepted peer) a b known h = absurd (none_said (λ r s. Says c r s (Accepted peer)) (clients a c) (clients b c) known (λ r s said. said.due) h.client)
tells_said c (Tick secs) a b known h = absurd (none_said (λ r s. Says c r s (Tick secs)) (clients a c) (clients b c) known (λ r s said. said.due) h.client)
tells_said c (ClientBytes d x) a b known h = one_said c (ClientBytes d x) a b known h
tells_said c (ClientEof d) a b known h = one_said c (ClientEof d) a b known h
tells_said c (ClientGone d) a b known h = one_said c (ClientGone d) a b known h
tells_said c (Wrote d n) a b known h = one_said c (Wrote d n) a b known h
tells_said c (Started k) a b known h = one_said c (Started k) a b known h
tells_said c (StartFailed k) a b known h = one_said c (StartFailed k) a b known h
tells_said c (StartFull k n) a b known h = one_said c (StartFull k n) a b known h
tells_said c (ChildBytes k x) a b known h = one_said c (ChildBytes k x) a b known h
tells_said c (ChildEof k) a b known h = one_said c (ChildEof k) a b known h
tells_said c (ChildBroken k) a b known h = one_said c (ChildBroken k) a b known h
tells_said c (Took k n) a b known h = one_said c (Took k n) a b known h
tells_said c (InputGone k) a b known h = one_said c (InputGone k) a b known h
tells_said c (Exited k) a b known h = one_said c (Exited k) a b known h
tells_said c (WsText d x) a b known h = one_said c (WsText d x) a b known h
tells_said c (WsBinary d) a b known h = one_said c (WsBinary d) a b known h
tells_said c (WsClosed d) a b known h = one_said c (WsClosed d) a b known h
tells_said c (WsBad d) a b known h = one_said c (WsBad d) a b known h
tells_said c (NoRoom d) a b known h = one_said c (NoRoom d) a b known h
tells_said c Stop a b known h = one_said c Stop a b known h

pub counted_same : (a b : SetState) → SameDevices a b → Counted a b
counted_same a b h = record { grown = rw h.faults (omega arith); looks = rw h.ports (omega arith); waits = rw h.ports (omega arith); ports = inl (ap (λ p. p.failed) h.ports) }

-- the clock was asked
pub asked_counted : (a b : SetState) → b.faults ≡ a.faults → AsksClock a.ports b.ports → Counted a b
asked_counted a b f h =
    let waits : b.ports.waits ≡ a.ports.waits = ap (λ p. p.waits) h.rest in
    record { grown = omega (arith, f); looks = h.grown; waits = omega (arith, waits); ports = inl (ap (λ p. p.failed) h.rest) }

-- the clock was asked for its seconds
pub shown_counted : (secs : ℕ) (a b : SetState) → b.faults ≡ a.faults → Shows secs a.ports b.ports → Counted a b
shown_counted secs a b f h =
    let looks : b.ports.looks ≡ a.ports.looks = ap (λ p. p.looks) h in
    let waits : b.ports.waits ≡ a.ports.waits = ap (λ p. p.waits) h in
    record { grown = omega (arith, f); looks = omega (arith, looks); waits = omega (arith, waits); ports = inl (ap (λ p. p.failed) h) }

-- a client came
pub given_counted : (peer : Peer) (a b : SetState) → b.faults ≡ a.faults → b.ports ≡ record a.ports { peer = Some peer } → Counted a b
given_counted peer a b f h =
    let looks : b.ports.looks ≡ a.ports.looks = ap (λ p. p.looks) h in
    let waits : b.ports.waits ≡ a.ports.waits = ap (λ p. p.waits) h in
    record { grown = omega (arith, f); looks = omega (arith, looks); waits = omega (arith, waits); ports = inl (ap (λ p. p.failed) h) }

-- a wait was made
pub waited_counted : (a b : SetState) → b.faults ≡ a.faults → Waits true a.ports b.ports → Counted a b
waited_counted a b f h =
    let looks : b.ports.looks ≡ a.ports.looks = ap (λ p. p.looks) h.fails in
    record { grown = omega (arith, f); looks = omega (arith, looks); waits = h.grown; ports = inl (ap (λ p. p.failed) h.fails) }

pub failed_counted : (a b : SetState) → a.faults ≤ b.faults → Rose a.faults b.faults → Waits false a.ports b.ports → Counted a b
failed_counted a b g f h =
    let looks : b.ports.looks ≡ a.ports.looks = ap (λ p. p.looks) h.fails.0 in
    record { grown = g; looks = omega (arith, looks); waits = h.grown; ports = inr f }

pub rose_kept : (a b : SetState) (x : ℕ) → SameDevices a b → Rose x a.ports.waits → Rose x b.ports.waits
rose_kept a b x h r = subst (λ p. Rose x p.waits) (sym h.ports) r

-- the ports were asked after a turn that had nothing to tell
pub waits_later : (a b : SetState) (x : ℕ) → Counted a b → Rose b.ports.waits x → Rose a.ports.waits x
waits_later a b x c h = rose_more a.ports.waits b.ports.waits x c.waits h

-- a round brought nothing, and nothing more is there
pub idle_after : (a b d : SetState) → Counted a b → Rose a.ports.waits b.ports.waits → Counted b d → OwesNoTick b d
    → All (λ row. IsStillOrShut row.1) d.rows → IsIdle a d
idle_after a b d c asked e owes still =
    record {
      tick = record { asked = rose_more a.ports.looks b.ports.looks d.ports.looks c.looks owes.asked; none_owed = owes.none_owed };
      ready = rose_on a.ports.waits b.ports.waits d.ports.waits asked e.waits;
      still = still;
    }

pub devices_self : (a : SetState) → SameDevices a a
devices_self a = record { faults = refl; ports = refl }

pub devices_two : (a b d : SetState) → SameDevices a b → SameDevices b d → SameDevices a d
devices_two a b d p q = record { faults = q.faults ∙ p.faults; ports = q.ports ∙ p.ports }

pub kept_devices : (c : ℕ) (a b : SetState) → On c Keeps a b → SameDevices a b
kept_devices c a b h = h.devices

pub left_devices : (c : ℕ) (a b : SetState) → Leaves c a b → SameDevices a b
left_devices c a b h = h.devices

-- what is told after a turn that had nothing to tell
pub tells_if : (c : ℕ) (r : Option Event) (a b : SetState) → IfSome r (λ _. IsSome (clients a c)) → IfSome r (λ e. OnOne c (λ x y. Says c x y e) a b)
    → IfSome r (λ e. Tells e a b)
tells_if c None a b p q = tt
tells_if c (Some e) a b p q = tells_said c e a b p q

pub tells_later : (r : Option Event) (a b d : SetState) → IsQuiet a b → IfSome r (λ e. Tells e b d) → IfSome r (λ e. Tells e a d)
tells_later None a b d p q = tt
tells_later (Some e) a b d p q = tells_two e a b d p q
