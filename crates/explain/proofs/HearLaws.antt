-- What a reader knows after an input.
use Rattle.std.proofs.Common.{◌≡◌, ℕ, List, [], ◌++◌, Option, Some, None, refl, append-nil}
use Rattle.host_base.specs.declared.launch.Peer.{Peer}
use Rattle.host_base.specs.declared.limits.Limits.{Limits}
use Rattle.explain.specs.Inputs.{KnowsInputs, peer_after, bytes_of}
use Rattle.explain.specs.declared.first.First.{First}
use Rattle.explain.specs.declared.input.Input.{Input}
use Rattle.explain.specs.declared.input.Input.TheVariants as Is

pub accepted_knows : (first : First) (limits : Limits) (known : Option Peer) (bytes : List ℕ) (input : Input) (peer : Peer) → input ≡ Is.Accepted peer →
    KnowsInputs first limits (peer_after known (Is.Accepted peer)) bytes → KnowsInputs first limits (peer_after known input) (bytes ++ bytes_of input)
accepted_knows first limits known bytes input peer is k =
    let on : KnowsInputs first limits (peer_after known (Is.Accepted peer)) (bytes ++ []) = rw (append-nil bytes) k in rw is on

-- bytes bring no client
kept_peer : (known : Option Peer) (more : List ℕ) → peer_after known (Is.Bytes more) ≡ known
kept_peer (Some peer) more = refl
kept_peer None more = refl

pub read_knows : (first : First) (limits : Limits) (known : Option Peer) (bytes more : List ℕ) (input : Input) → input ≡ Is.Bytes more →
    KnowsInputs first limits known (bytes ++ more) → KnowsInputs first limits (peer_after known input) (bytes ++ bytes_of input)
read_knows first limits known bytes more input is k =
    let on : KnowsInputs first limits (peer_after known (Is.Bytes more)) (bytes ++ more) = rw (kept_peer known more) k in rw is on
