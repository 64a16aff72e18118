-- What is counted beside a trace goes on with one item more.
use Rattle.std.proofs.Common.{◌≡◌, ℕ, ◌+◌, List, [], ◌∷◌, ◌++◌, sym, ◌∙◌, ap}
use Rattle.std.specs.Prelude.{◌||◌, if◌then◌else◌}
use Rattle.host_trace.specs.declared.items.Item.{Item}
use Rattle.host_trace.specs.Kinds.{is_accepted, is_stop}
use Rattle.host_trace.specs.Projections.{stopped}
use Rattle.host_trace.proofs.ProjectionLaws.{accepted_count-push, stopped-push}
use Rattle.trace_tallies.specs.ClientTallies.{client_with}
use Rattle.memory_world.specs.ClientTallies.{client_at}
use Rattle.trace_tallies.specs.ChildTallies.{child_with, waits, runs}
use Rattle.memory_world.specs.ChildTallies.{child_at, Sets}
use Rattle.memory_world.specs.Ties.{Ties}
use Rattle.memory_world.specs.declared.tallies.Tallies.{Tallies}
use Rattle.trace_tallies.proofs.ClientTallyLaws.{client_tally-push}
use Rattle.trace_tallies.proofs.ChildTallyLaws.{child_tally-push}

pub ties_go_on : (old now : Tallies) (T : List Item) (x : Item) → Ties old T →
    ((c : ℕ) → client_at now.clients c ≡ client_with c x (client_at old.clients c)) →
    ((k : ℕ) → child_at now.children.rows k ≡ child_with k x (child_at old.children.rows k)) →
    (Sets waits old.children.rows old.children.waiting → Sets waits now.children.rows now.children.waiting) →
    (Sets runs old.children.rows old.children.running → Sets runs now.children.rows now.children.running) →
    now.accepted ≡ old.accepted + (if is_accepted x then 1 else 0) → now.stopped ≡ (old.stopped || is_stop x) → Ties now (T ++ x ∷ [])
ties_go_on old now T x ties clients children waiting running accepted stops = record {
  clients = λ c. clients c ∙ (ap (client_with c x) (ties.clients c) ∙ sym (client_tally-push T x c));
  children = λ k. children k ∙ (ap (child_with k x) (ties.children k) ∙ sym (child_tally-push T x k));
  waiting = waiting ties.waiting;
  running = running ties.running;
  accepted = accepted ∙ (ap (λ n. n + (if is_accepted x then 1 else 0)) ties.accepted ∙ sym (accepted_count-push T x));
  stopped = stops ∙ (ap (λ b. b || is_stop x) ties.stopped ∙ sym (stopped-push T x));
}
