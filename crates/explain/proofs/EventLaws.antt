-- What an event adds to what is known of the first client.
use Rattle.std.proofs.Common.{◌≡◌, ℕ, Bool, true, false, List, [], ◌∷◌, ◌++◌, Option, Some, None, refl, ◌∙◌, ap}
use Rattle.std.specs.Prelude.{◌||◌, ◌&&◌, ◌==◌, not, is_some, slice_get, if◌then◌else◌}
use Rattle.host_base.specs.declared.launch.Peer.{Peer}
use Rattle.host_trace.specs.declared.items.Event.{Event}
use Rattle.host_trace.specs.declared.items.Event.TheVariants as On
use Rattle.host_trace.specs.declared.items.Item.{Item}
use Rattle.host_trace.specs.declared.items.Item.TheVariants.{In}
use Rattle.host_trace.specs.Kinds.{bytes_heard, is_accepted, is_client_answer, is_client_eof, is_client_gone, is_stop, peer_of_item}
use Rattle.host_trace.specs.Projections.{client_wanted, peer_of, peers, shut, upgraded}
use Rattle.host_trace.specs.Fits.{fits, is_asked_upgraded}
use Rattle.host_trace.proofs.FirstLaws.{flat_map-push}
use Rattle.explain.specs.Inputs.{input_of, peer_after, bytes_of}
use Rattle.explain.specs.declared.input.Input.{Input}
use Rattle.explain.specs.declared.input.Input.TheVariants as Is

abbrev pub is_eof : Input → Bool
is_eof Is.Eof = true
is_eof _ = false

abbrev pub is_gone : Input → Bool
is_gone Is.Gone = true
is_gone _ = false

abbrev pub is_accept : Input → Bool
is_accept (Is.Accepted peer) = true
is_accept _ = false

-- an answer to a question
abbrev pub is_reply : Input → Bool
is_reply (Is.Bytes bytes) = true
is_reply Is.Eof = true
is_reply _ = false

abbrev pub peer_in : Input → List Peer
peer_in (Is.Accepted peer) = peer ∷ []
peer_in _ = []

-- what an event is by its input
pub record Says (x : Item) (input : Input) : Type 0 where
  pub bytes : bytes_heard 0 x ≡ bytes_of input
  pub eof : is_client_eof 0 x ≡ is_eof input
  pub gone : (is_client_gone 0 x || is_stop x) ≡ is_gone input
  pub accept : is_accepted x ≡ is_accept input
  pub peer : peer_of_item x ≡ peer_in input

pub says : (event : Event) → Says (In event) (input_of event)
says (On.Accepted peer) = record { bytes = refl; eof = refl; gone = refl; accept = refl; peer = refl }
says (On.ClientBytes c bytes) = bytes_say c bytes (0 == c) refl
  where
    bytes_say : (c : ℕ) (bytes : List ℕ) (b : Bool) → (0 == c) ≡ b → Says (In (On.ClientBytes c bytes)) (if b then Is.Bytes bytes else Is.Other)
    bytes_say c bytes true e = record { bytes = rw e refl; eof = refl; gone = refl; accept = refl; peer = refl }
    bytes_say c bytes false e = record { bytes = rw e refl; eof = refl; gone = refl; accept = refl; peer = refl }
says (On.ClientEof c) = eof_says c (0 == c) refl
  where
    eof_says : (c : ℕ) (b : Bool) → (0 == c) ≡ b → Says (In (On.ClientEof c)) (if b then Is.Eof else Is.Other)
    eof_says c true e = record { bytes = refl; eof = e; gone = refl; accept = refl; peer = refl }
    eof_says c false e = record { bytes = refl; eof = e; gone = refl; accept = refl; peer = refl }
says (On.ClientGone c) = gone_says c (0 == c) refl
  where
    gone_says : (c : ℕ) (b : Bool) → (0 == c) ≡ b → Says (In (On.ClientGone c)) (if b then Is.Gone else Is.Other)
    gone_says c true e = record { bytes = refl; eof = refl; gone = rw e refl; accept = refl; peer = refl }
    gone_says c false e = record { bytes = refl; eof = refl; gone = rw e refl; accept = refl; peer = refl }
says (On.NoRoom c) = elim (0 == c) as (λ b. Says (In (On.NoRoom c)) (if b then Is.NoRoom else Is.Other)) [
  | true ↦ record { bytes = refl; eof = refl; gone = refl; accept = refl; peer = refl }
  | false ↦ record { bytes = refl; eof = refl; gone = refl; accept = refl; peer = refl }
]
says On.Stop = record { bytes = refl; eof = refl; gone = refl; accept = refl; peer = refl }
says (On.Wrote c n) = record { bytes = refl; eof = refl; gone = refl; accept = refl; peer = refl }
says (On.Started k) = record { bytes = refl; eof = refl; gone = refl; accept = refl; peer = refl }
says (On.StartFailed k) = record { bytes = refl; eof = refl; gone = refl; accept = refl; peer = refl }
says (On.StartFull k seen) = record { bytes = refl; eof = refl; gone = refl; accept = refl; peer = refl }
says (On.ChildBytes k bytes) = record { bytes = refl; eof = refl; gone = refl; accept = refl; peer = refl }
says (On.ChildEof k) = record { bytes = refl; eof = refl; gone = refl; accept = refl; peer = refl }
says (On.ChildBroken k) = record { bytes = refl; eof = refl; gone = refl; accept = refl; peer = refl }
says (On.Took k n) = record { bytes = refl; eof = refl; gone = refl; accept = refl; peer = refl }
says (On.InputGone k) = record { bytes = refl; eof = refl; gone = refl; accept = refl; peer = refl }
says (On.Exited k) = record { bytes = refl; eof = refl; gone = refl; accept = refl; peer = refl }
says (On.WsText c bytes) = record { bytes = refl; eof = refl; gone = refl; accept = refl; peer = refl }
says (On.WsBinary c) = record { bytes = refl; eof = refl; gone = refl; accept = refl; peer = refl }
says (On.WsClosed c) = record { bytes = refl; eof = refl; gone = refl; accept = refl; peer = refl }
says (On.WsBad c) = record { bytes = refl; eof = refl; gone = refl; accept = refl; peer = refl }
says (On.Tick secs) = record { bytes = refl; eof = refl; gone = refl; accept = refl; peer = refl }

-- ---- an answer to a question, where no WebSocket is spoken

-- what comes over a WebSocket fits an upgraded connection alone
no_socket : (T : List Item) (c : ℕ) → ((d : ℕ) → upgraded T d ≡ false) → is_asked_upgraded T c ≡ true → ⊥
no_socket T c plain fit = no_and (not (shut T c)) (upgraded T c) (client_wanted T c) (plain c) fit
  where
    no_and : (a b d : Bool) → b ≡ false → (a && b && d) ≡ true → ⊥
    no_and true true d e fit = absurd (cc)
    no_and true false d e fit = absurd (cc)
    no_and false b d e fit = absurd (cc)

pub reply_is : (limit : ℕ) (T : List Item) (event : Event) → ((d : ℕ) → upgraded T d ≡ false) → fits limit T event ≡ true →
    is_client_answer 0 (In event) ≡ is_reply (input_of event)
reply_is limit T (On.ClientBytes c bytes) plain fit =
    elim (0 == c) as (λ b. (b || false || false || false || false || false) ≡ is_reply (if b then Is.Bytes bytes else Is.Other)) [ true ↦ refl | false ↦ refl ]
reply_is limit T (On.ClientEof c) plain fit =
    elim (0 == c) as (λ b. (false || b || false || false || false || false) ≡ is_reply (if b then Is.Eof else Is.Other)) [ true ↦ refl | false ↦ refl ]
reply_is limit T (On.ClientGone c) plain fit = elim (0 == c) as (λ b. false ≡ is_reply (if b then Is.Gone else Is.Other)) [ true ↦ refl | false ↦ refl ]
reply_is limit T (On.NoRoom c) plain fit = elim (0 == c) as (λ b. false ≡ is_reply (if b then Is.NoRoom else Is.Other)) [ true ↦ refl | false ↦ refl ]
reply_is limit T (On.Accepted peer) plain fit = refl
reply_is limit T On.Stop plain fit = refl
reply_is limit T (On.Wrote c n) plain fit = refl
reply_is limit T (On.Started k) plain fit = refl
reply_is limit T (On.StartFailed k) plain fit = refl
reply_is limit T (On.StartFull k seen) plain fit = refl
reply_is limit T (On.ChildBytes k bytes) plain fit = refl
reply_is limit T (On.ChildEof k) plain fit = refl
reply_is limit T (On.ChildBroken k) plain fit = refl
reply_is limit T (On.Took k n) plain fit = refl
reply_is limit T (On.InputGone k) plain fit = refl
reply_is limit T (On.Exited k) plain fit = refl
reply_is limit T (On.WsText c bytes) plain fit = absurd (no_socket T c plain fit)
reply_is limit T (On.WsBinary c) plain fit = absurd (no_socket T c plain fit)
reply_is limit T (On.WsClosed c) plain fit = absurd (no_socket T c plain fit)
reply_is limit T (On.WsBad c) plain fit = absurd (no_socket T c plain fit)
reply_is limit T (On.Tick secs) plain fit = refl

-- ---- the peer

first_with : (xs : List Peer) (input : Input) → slice_get (xs ++ peer_in input) 0 ≡ peer_after (slice_get xs 0) input
first_with (x ∷ xs) input = refl
first_with [] (Is.Accepted peer) = refl
first_with [] (Is.Bytes bytes) = refl
first_with [] Is.Eof = refl
first_with [] Is.Gone = refl
first_with [] Is.NoRoom = refl
first_with [] Is.Other = refl

pub peer_is : (T : List Item) (event : Event) → peer_of (T ++ In event ∷ []) 0 ≡ peer_after (peer_of T 0) (input_of event)
peer_is T event =
    ap (λ ps. slice_get ps 0) (flat_map-push peer_of_item T (In event) ∙ ap (λ ps. peers T ++ ps) (says event).peer)
    ∙ first_with (peers T) (input_of event)

-- a client is there from the first that connects on
pub some_peer : (peer : Option Peer) (input : Input) → is_some (peer_after peer input) ≡ (is_some peer || is_accept input)
some_peer (Some peer) input = refl
some_peer None (Is.Accepted peer) = refl
some_peer None (Is.Bytes bytes) = refl
some_peer None Is.Eof = refl
some_peer None Is.Gone = refl
some_peer None Is.NoRoom = refl
some_peer None Is.Other = refl
