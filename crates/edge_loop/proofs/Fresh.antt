-- The outside of a loop that was just made, and those that are taken back.
use Rattle.std.proofs.Common.{◌≡◌, ◌∙◌, ◌++◌, ℕ, true, List, [], ◌∷◌, All, Option, Some, option_to_list, sym, ap, subst, length, drop, take, take_all, ◌≤◌, arith}
use Rattle.std.proofs.lemmas.List.{take-append-le}
use Rattle.std.proofs.lemmas.List.Elements.{All-nil, All-head, All-tail, All-same, All-weaker}
use Rattle.socket_set.specs.Clients.{ClientState}
use Rattle.socket_set.specs.Sets.{SetState}
use Rattle.edge_loop.specs.Loops.{LoopState, IsNew, IsFresh, IsSent}

module _ {K : Type 0} where
  pub is_fresh : (set : SetState) (room limit : ℕ) (s : LoopState K) → IsNew set room limit s → set.rows ≡ []
      → (set.accepted ≡ 0) × (set.ticked ≡ 0) × (set.faults ≡ 0) → set.listening ≡ true → IsFresh s
  is_fresh set room limit s h none counts on =
      record {
        nobody = (ap (λ x. x.rows) h.set_is ∙ none, ap (λ x. x.accepted) h.set_is ∙ counts.0, ap (λ x. x.ticked) h.set_is ∙ counts.1);
        listening = ap (λ x. x.listening) h.set_is ∙ on;
        none_kept = h.rows;
        none_asked = (h.starts, h.unstarted);
        ending = h.ending;
        counts = (ap (λ x. x.faults) h.set_is ∙ counts.2, h.counts.0, h.counts.1);
      }

  fresh_sent : (s : LoopState K) → IsFresh s → IsSent s
  fresh_sent s h =
      let P : ℕ × ClientState → Type 0 = λ row. row.1.outgoing ≡ [] in
      record { sent = All-same P s.set.rows [] h.nobody.0 (All-nil P) }

  -- nothing waits to be sent to those that were just made
  pub all_sent : (outs : List (LoopState K)) → All IsFresh outs → All IsSent outs
  all_sent outs h = All-weaker IsFresh IsSent fresh_sent outs h

  -- of those that are still to be taken back, the first and the others
  with_first : (o : LoopState K) (r : Option (LoopState K)) (all rest : List (LoopState K)) → all ≡ option_to_list r ++ rest → r ≡ Some o → All IsSent all
      → All IsSent (o ∷ rest)
  with_first o r all rest e is h = subst (λ w. All IsSent w) (e ∙ ap (λ w. option_to_list w ++ rest) is) h

  pub first_sent : (o : LoopState K) (r : Option (LoopState K)) (all rest : List (LoopState K)) → all ≡ option_to_list r ++ rest → r ≡ Some o → All IsSent all
      → IsSent o
  first_sent o r all rest e is h = All-head IsSent o rest (with_first o r all rest e is h)

  pub rest_sent : (o : LoopState K) (r : Option (LoopState K)) (all rest : List (LoopState K)) → all ≡ option_to_list r ++ rest → r ≡ Some o → All IsSent all
      → All IsSent rest
  rest_sent o r all rest e is h = All-tail IsSent o rest (with_first o r all rest e is h)

  -- a vector whose elements were all written through a slice of it
  pub all_written : (n : ℕ) (outs now : List (LoopState K)) → length now ≡ n → All IsSent now → All IsSent (take n (now ++ drop (length now) outs))
  all_written n outs now e h =
      let enough : n ≤ length now = omega arith in
      let whole : length now ≤ n = omega arith in
      subst (λ w. All IsSent w) (sym (take-append-le n now (drop (length now) outs) enough ∙ take_all n now whole)) h
