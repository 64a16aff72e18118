-- A client that is to be heard is within its request.
use Rattle.std.proofs.Common.{◌≡◌, ℕ, ◌==◌, Bool, true, false, ◌&&◌, not, List, Option, Some, None, is_some, refl, sym, ap, ◌∙◌, subst}
use Rattle.std.proofs.lemmas.Bool.{and_from, and_parts, eqb-true, false≢true, false_from_ne_true, not-true, true_from_ne_false}
use Rattle.host_trace.specs.declared.items.Act.{Act}
use Rattle.host_trace.specs.declared.items.Event.{Event}
use Rattle.host_trace.specs.declared.items.Item.{Item}
use Rattle.child_core.specs.Calls.{wants_more}
use Rattle.child_core.specs.View.{View}
use Rattle.trace_model.specs.Exchange.{Exchange, request_bytes}
use Rattle.exchange_request.specs.declared.found.Manner.{Manner}
use Rattle.exchange_request.specs.declared.incoming.Incoming.{Incoming}
use Rattle.exchange_request.specs.Knows.{KnowsRequest, StandsBy, is_looked_at, is_ready, is_taken}
use Rattle.exchange_stage.specs.declared.stage.Leg.{Leg}
use Rattle.exchange_stage.specs.declared.stage.Stage.{Stage}
use Rattle.exchange_stage.specs.declared.stage.Stage.TheVariants as At
use Rattle.child_laws.specs.Step.{Turn}
use Rattle.conn_laws.specs.Front.{IsHeard}
use Rattle.http_conn.specs.HttpConn.{HttpConn}
use Rattle.http_conn.specs.Kept.{is_reading, flags_of, number_of}
use Rattle.http_conn.specs.Reasons.{hears_at, is_done_with, takes_more_of}
use Rattle.http_conn.specs.Tells.{goes_at}
use Rattle.http_stage_laws.specs.Inward.{IsDecided, IsPast, IsWithin}
use Rattle.http_step_laws.specs.Standing.{Standing, ends_at}
use Rattle.http_step_laws.proofs.CloseLaws.{Closed}
use Rattle.http_step_laws.proofs.EndWords.{Going, going, live_of, unclosed_of, unshut_of}

untaken_by : (i : Incoming) (manner : Option Manner) (whole : Bool) (bytes : List ℕ) (taken : ℕ) → is_some manner ≡ false → StandsBy i manner whole bytes taken → whole ≡ false
untaken_by i None false bytes taken none h = refl
untaken_by i None true bytes taken none h = absurd h
untaken_by i (Some manner) whole bytes taken none h = absurd (false≢true (sym none))

-- a request that was not found ready was not read to its end
unready_untaken : (i : Incoming) (bytes : List ℕ) (taken : ℕ) → KnowsRequest i bytes taken → is_ready i ≡ false → is_taken i ≡ false
unready_untaken i bytes taken k none = untaken_by i i.manner i.whole bytes taken none k.stands

run_over : (run : Option View) → IsDecided run → takes_more_of run ≡ true → ⊥
run_over None decided more = false≢true more
run_over (Some v) decided more = false≢true (sym (not-true (is_some v.outcome) (and_parts (not (is_some v.outcome)) (wants_more v) more).0) ∙ decided)

-- the first hop's script runs, the request was not read to its end, and more is taken of it
record InBody (conn : HttpConn) (leg : Leg) : Type 0 where
  pub first : leg.hop ≡ 0
  pub untaken : is_taken conn.request ≡ false
  pub takes : takes_more_of conn.run ≡ true

in_body : (conn : HttpConn) (leg : Leg) → hears_at conn (At.Running leg) ≡ true → InBody conn leg
in_body conn leg h =
    let both = and_parts (leg.hop == 0 && not (is_taken conn.request)) (takes_more_of conn.run) h in
    let parts = and_parts (leg.hop == 0) (not (is_taken conn.request)) both.0 in
    record { first = eqb-true leg.hop 0 parts.0; untaken = not-true (is_taken conn.request) parts.1; takes = both.1 }

module _ (L : List Item) (ev : Event) (acts : List Act) (turn : Turn) (e : Exchange) (conn : HttpConn) (n : ℕ) (s : Standing L ev acts turn n e conn) (c : Closed turn e conn)
    (on : ends_at conn e ≡ false) (hears : hears_at conn conn.stage ≡ true) where
  g : Going conn (is_done_with conn (request_bytes (number_of conn) e))
  g = going conn (is_done_with conn (request_bytes (number_of conn) e)) on

  -- it has not ended its input
  pub unended : (flags_of conn).ended ≡ false
  unended = go conn.stage refl hears
    where
      go : (t : Stage) → conn.stage ≡ t → hears_at conn t ≡ true → (flags_of conn).ended ≡ false
      go At.Reading at h = not-true (flags_of conn).ended h
      go (At.Running leg) at h = false_from_ne_true (flags_of conn).ended (λ ended.
          let body : InBody conn leg = in_body conn leg h in
          let past : IsPast (At.Running leg) conn.run =
          subst (λ (t : Stage). IsPast t conn.run) at (s.inward.past g.found g.open_yet (unshut_of conn (is_done_with conn (request_bytes (number_of conn) e)) g) ended) in
          run_over conn.run (past body.first) body.takes)
      go _ at h = absurd (false≢true h)

  within_at : (t : Stage) → conn.stage ≡ t → hears_at conn t ≡ true → (is_taken conn.request ≡ false) × (is_reading t ≡ true → is_looked_at conn.request ≡ true)
  within_at At.Reading at h =
      let heard : IsHeard conn.request (is_reading conn.stage) (request_bytes (number_of conn) e) =
      s.front.request g.found (unclosed_of conn e (is_done_with conn (request_bytes (number_of conn) e)) s.front g) in
      let still : goes_at conn (is_done_with conn (request_bytes (number_of conn) e)) At.Reading ≡ false =
      subst (λ (t : Stage). goes_at conn (is_done_with conn (request_bytes (number_of conn) e)) t ≡ false) at (c.still (live_of conn (is_done_with conn (request_bytes (number_of conn) e)) g)) in (
        unready_untaken conn.request (request_bytes (number_of conn) e) heard.taken heard.knows (heard.unready (ap is_reading at)),
        λ r. true_from_ne_false (is_looked_at conn.request) (λ unread.
            false≢true (sym still ∙ and_from (not (ends_at conn e)) (not (is_looked_at conn.request)) (ap not on) (ap not unread))),
      )
  within_at (At.Running leg) at h = ((in_body conn leg h).untaken, λ r. absurd (false≢true r))
  within_at _ at h = absurd (false≢true h)

  -- .. and is within its request
  pub is_within : IsWithin conn
  is_within = let parts = within_at conn.stage refl hears in record { untaken = parts.0; looked = parts.1 }
