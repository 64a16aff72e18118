-- What passes by the rows fits; and where no row is wanting, each that fits passes.
use Rattle.std.proofs.Common.{◌≡◌, ◌≤◌, ◌<◌, ℕ, Bool, true, false, List, Option, Some, None, refl, ap, subst, sym, ◌∙◌, arith}
use Rattle.std.specs.Prelude.{not, ◌&&◌, nat_lt, ◌==◌}
use Rattle.std.proofs.lemmas.Bool.{ltb-true, lt-ltb, eq-eqb}
use Rattle.host_trace.specs.declared.items.Event.{Event}
use Rattle.host_trace.specs.declared.items.Event.TheVariants.{Accepted, ClientBytes, ClientEof, ClientGone, Wrote, Started, StartFailed, StartFull, ChildBytes, ChildEof, ChildBroken, Took, InputGone, Exited, WsText, WsBinary, WsClosed, WsBad, NoRoom, Tick, Stop}
use Rattle.host_trace.specs.declared.items.Item.{Item}
use Rattle.host_trace.specs.declared.items.Item.TheVariants.{In}
use Rattle.host_trace.specs.Kinds.{names, names_child}
use Rattle.host_trace.specs.Projections.{accepted_count}
use Rattle.host_trace.specs.Fits.{fits, is_open, is_piece}
use Rattle.trace_tallies.specs.declared.client_tally.ClientTally.{ClientTally}
use Rattle.trace_tallies.specs.declared.child_tally.ChildTally.{ChildTally}
use Rattle.trace_tallies.specs.declared.fits.Rows.{Rows}
use Rattle.trace_tallies.specs.ClientTallies.{client_tally, asks, asks_upgraded, leaves, stays_open}
use Rattle.trace_tallies.specs.ChildTallies.{child_tally, waits, answers_next, takes, feeds, runs}
use Rattle.trace_tallies.specs.RowFits.{passes, fits_by, RowsOf, AllRowsOf}

-- a row that passes is that of the trace
passed : {A : Type 0} (test : A → Bool) (o : Option A) (real : A) → ((row : A) → o ≡ Some row → row ≡ real) → passes test o ≡ true → test real ≡ true
passed test None real is h = absurd (cc)
passed test (Some row) real is h = subst (λ u. test u ≡ true) (is row refl) h

left : (a b : Bool) → (a && b) ≡ true → a ≡ true
left true b h = refl
left false b h = absurd (cc)

right : (a b : Bool) → (a && b) ≡ true → b ≡ true
right true b h = h
right false b h = absurd (cc)

both : (a b : Bool) → a ≡ true → b ≡ true → (a && b) ≡ true
both a b p q = rw (p, q) refl

module _ (T : List Item) (event : Event) (r : Rows) (rows : RowsOf T event r) where
  client : (test : ClientTally → Bool) (c : ℕ) → names c (In event) ≡ true → passes test r.client ≡ true → test (client_tally T c) ≡ true
  client test c named h = passed test r.client (client_tally T c) (λ row is. rows.client c row named is) h

  child : (test : ChildTally → Bool) (k : ℕ) → names_child k (In event) ≡ true → passes test r.child ≡ true → test (child_tally T k) ≡ true
  child test k named h = passed test r.child (child_tally T k) (λ row is. rows.child k row named is) h

  opened : (c : ℕ) → names c (In event) ≡ true → (nat_lt c r.accepted && passes stays_open r.client) ≡ true → is_open T c ≡ true
  opened c named h =
      let below : c < r.accepted = ltb-true c r.accepted (left _ _ h) in
      let most : r.accepted ≤ accepted_count T = rows.accepted in
      let known : c < accepted_count T = omega arith in
      both _ _ (lt-ltb c (accepted_count T) known) (client stays_open c named (right _ _ h))

pub fits_law : (limit : ℕ) (r : Rows) (T : List Item) (event : Event) → RowsOf T event r → fits_by r limit event ≡ true → fits limit T event ≡ true
fits_law limit r T (Accepted peer) rows h = subst (λ b. not b ≡ true) rows.stops h
fits_law limit r T (ClientBytes c bytes) rows h = both _ _ (client T (ClientBytes c bytes) r rows asks c (eq-eqb c c refl) (left _ _ h)) (right _ _ h)
fits_law limit r T (ClientEof c) rows h = client T (ClientEof c) r rows asks c (eq-eqb c c refl) h
fits_law limit r T (ClientGone c) rows h = opened T (ClientGone c) r rows c (eq-eqb c c refl) h
fits_law limit r T (Wrote c n) rows h = client T (Wrote c n) r rows (leaves n) c (eq-eqb c c refl) h
fits_law limit r T (Started k) rows h = child T (Started k) r rows waits k (eq-eqb k k refl) h
fits_law limit r T (StartFailed k) rows h = child T (StartFailed k) r rows waits k (eq-eqb k k refl) h
fits_law limit r T (StartFull k seen) rows h = both _ _ (child T (StartFull k seen) r rows waits k (eq-eqb k k refl) (left _ _ h)) (right _ _ h)
fits_law limit r T (ChildBytes k bytes) rows h = both _ _ (child T (ChildBytes k bytes) r rows answers_next k (eq-eqb k k refl) (left _ _ h)) (right _ _ h)
fits_law limit r T (ChildEof k) rows h = child T (ChildEof k) r rows answers_next k (eq-eqb k k refl) h
fits_law limit r T (ChildBroken k) rows h = child T (ChildBroken k) r rows answers_next k (eq-eqb k k refl) h
fits_law limit r T (Took k n) rows h = child T (Took k n) r rows (takes n) k (eq-eqb k k refl) h
fits_law limit r T (InputGone k) rows h = child T (InputGone k) r rows feeds k (eq-eqb k k refl) h
fits_law limit r T (Exited k) rows h = child T (Exited k) r rows runs k (eq-eqb k k refl) h
fits_law limit r T (WsText c bytes) rows h = client T (WsText c bytes) r rows asks_upgraded c (eq-eqb c c refl) h
fits_law limit r T (WsBinary c) rows h = client T (WsBinary c) r rows asks_upgraded c (eq-eqb c c refl) h
fits_law limit r T (WsClosed c) rows h = client T (WsClosed c) r rows asks_upgraded c (eq-eqb c c refl) h
fits_law limit r T (WsBad c) rows h = client T (WsBad c) r rows asks_upgraded c (eq-eqb c c refl) h
fits_law limit r T (NoRoom c) rows h = opened T (NoRoom c) r rows c (eq-eqb c c refl) h
fits_law limit r T (Tick secs) rows h = h
fits_law limit r T Stop rows h = subst (λ b. not b ≡ true) rows.stops h

-- where no row is wanting

whole : {A : Type 0} (test : A → Bool) (o : Option A) (real : A) → o ≡ Some real → passes test o ≡ test real
whole test o real is = ap (passes test) is

module _ (T : List Item) (event : Event) (r : Rows) (rows : AllRowsOf T event r) where
  all_client : (test : ClientTally → Bool) (c : ℕ) → names c (In event) ≡ true → passes test r.client ≡ test (client_tally T c)
  all_client test c named = whole test r.client (client_tally T c) (rows.client c named)

  all_child : (test : ChildTally → Bool) (k : ℕ) → names_child k (In event) ≡ true → passes test r.child ≡ test (child_tally T k)
  all_child test k named = whole test r.child (child_tally T k) (rows.child k named)

  all_open : (c : ℕ) → names c (In event) ≡ true → (nat_lt c r.accepted && passes stays_open r.client) ≡ is_open T c
  all_open c named = rw (rows.accepted, all_client stays_open c named) refl

pub exact_law : (limit : ℕ) (r : Rows) (T : List Item) (event : Event) → AllRowsOf T event r → fits_by r limit event ≡ fits limit T event
exact_law limit r T (Accepted peer) rows = ap not rows.stops
exact_law limit r T (ClientBytes c bytes) rows = ap (λ b. b && is_piece bytes) (all_client T (ClientBytes c bytes) r rows asks c (eq-eqb c c refl))
exact_law limit r T (ClientEof c) rows = all_client T (ClientEof c) r rows asks c (eq-eqb c c refl)
exact_law limit r T (ClientGone c) rows = all_open T (ClientGone c) r rows c (eq-eqb c c refl)
exact_law limit r T (Wrote c n) rows = all_client T (Wrote c n) r rows (leaves n) c (eq-eqb c c refl)
exact_law limit r T (Started k) rows = all_child T (Started k) r rows waits k (eq-eqb k k refl)
exact_law limit r T (StartFailed k) rows = all_child T (StartFailed k) r rows waits k (eq-eqb k k refl)
exact_law limit r T (StartFull k seen) rows = ap (λ b. b && seen == limit) (all_child T (StartFull k seen) r rows waits k (eq-eqb k k refl))
exact_law limit r T (ChildBytes k bytes) rows = ap (λ b. b && is_piece bytes) (all_child T (ChildBytes k bytes) r rows answers_next k (eq-eqb k k refl))
exact_law limit r T (ChildEof k) rows = all_child T (ChildEof k) r rows answers_next k (eq-eqb k k refl)
exact_law limit r T (ChildBroken k) rows = all_child T (ChildBroken k) r rows answers_next k (eq-eqb k k refl)
exact_law limit r T (Took k n) rows = all_child T (Took k n) r rows (takes n) k (eq-eqb k k refl)
exact_law limit r T (InputGone k) rows = all_child T (InputGone k) r rows feeds k (eq-eqb k k refl)
exact_law limit r T (Exited k) rows = all_child T (Exited k) r rows runs k (eq-eqb k k refl)
exact_law limit r T (WsText c bytes) rows = all_client T (WsText c bytes) r rows asks_upgraded c (eq-eqb c c refl)
exact_law limit r T (WsBinary c) rows = all_client T (WsBinary c) r rows asks_upgraded c (eq-eqb c c refl)
exact_law limit r T (WsClosed c) rows = all_client T (WsClosed c) r rows asks_upgraded c (eq-eqb c c refl)
exact_law limit r T (WsBad c) rows = all_client T (WsBad c) r rows asks_upgraded c (eq-eqb c c refl)
exact_law limit r T (NoRoom c) rows = all_open T (NoRoom c) r rows c (eq-eqb c c refl)
exact_law limit r T (Tick secs) rows = refl
exact_law limit r T Stop rows = ap not rows.stops
