-- The tallies that are kept of the connections.
use Rattle.std.specs.Prelude.{ℕ, ◌≡◌, List}
use Rattle.std.specs.Option.{unwrap_or}
use Rattle.std.specs.Ordering.{nat_cmp}
use Rattle.std.specs.BTreeMap.{BTreeMap, get}
use Rattle.host_trace.specs.declared.items.Item.{Item}
use Rattle.trace_tallies.specs.declared.client_tally.ClientTally.{ClientTally}
use Rattle.trace_tallies.specs.ClientTallies.{client_tally, no_client}

-- the tally that is kept of connection c
abbrev pub client_at : BTreeMap ℕ ClientTally → ℕ → ClientTally
client_at rows c = unwrap_or (get nat_cmp rows c) no_client

-- the tallies are those of the trace
abbrev pub ClientsTie : BTreeMap ℕ ClientTally → List Item → Type 0
ClientsTie rows T = (c : ℕ) → client_at rows c ≡ client_tally T c
