-- The tallies of all connections, with the tally of one more.
use Rattle.std.proofs.Common.{◌≡◌, ℕ, Some, refl, sym, ◌∙◌, ap, subst, inl, inr}
use Rattle.std.specs.Prelude.{◌==◌, if◌then◌else◌}
use Rattle.std.specs.Ordering.{nat_cmp}
use Rattle.std.specs.Option.{unwrap_or}
use Rattle.std.specs.BTreeMap.{BTreeMap, get}
use Rattle.std.proofs.lemmas.Bool.{cond-true, cond-false, eqb-true, cases_Bool}
use Rattle.host_trace.specs.declared.items.Item.{Item}
use Rattle.host_trace.specs.Kinds.{names}
use Rattle.trace_tallies.specs.declared.client_tally.ClientTally.{ClientTally}
use Rattle.trace_tallies.specs.ClientTallies.{client_with, no_client}
use Rattle.trace_tallies.proofs.ClientTallyLaws.{client_rests}
use Rattle.memory_world.specs.ClientTallies.{client_at}

pub clients_kept : (rows now : BTreeMap ℕ ClientTally) (x : Item) (c : ℕ) (tally : ClientTally) →
    ((q : ℕ) → get nat_cmp now q ≡ (if q == c then Some tally else get nat_cmp rows q)) → ((q : ℕ) → names q x ≡ (q == c)) →
    tally ≡ client_with c x (client_at rows c) → (q : ℕ) → client_at now q ≡ client_with q x (client_at rows q)
clients_kept rows now x c tally kept named is q =
    elim (cases_Bool (q == c)) [
      | inl holds ↦
          let same_one : q ≡ c = eqb-true q c holds in
          ap (λ o. unwrap_or o no_client) (kept q ∙ cond-true _ _ _ holds)
          ∙ (is ∙ subst (λ d. client_with d x (client_at rows d) ≡ client_with q x (client_at rows q)) same_one refl)
      | inr fails ↦
          ap (λ o. unwrap_or o no_client) (kept q ∙ cond-false _ _ _ fails)
          ∙ sym (client_rests q x (client_at rows q) (named q ∙ fails))
    ]
