-- The client ended its input within a request: nothing more is begun of it.
use Rattle.std.proofs.Common.{◌≡◌, ◌≤◌, ℕ, zero, suc, ◌==◌, Bool, true, false, ◌&&◌, not, List, [], ◌∷◌, Option, is_some, if◌then◌else◌, refl, sym, ap, ◌∙◌, subst, arith}
use Rattle.std.proofs.lemmas.Bool.{and_from, eq-eqb, false≢true}
use Rattle.host_base.specs.declared.cause.Cause.TheVariants as Causes
use Rattle.host_base.specs.declared.request.Request.{Request}
use Rattle.host_base.specs.declared.site.Site.{Site}
use Rattle.host_trace.specs.declared.items.Event.{Event}
use Rattle.host_trace.specs.declared.items.Event.TheVariants.{ClientEof}
use Rattle.host_trace.specs.declared.items.Item.{Item}
use Rattle.host_trace.specs.declared.items.Item.TheVariants.{In}
use Rattle.host_trace.specs.Kinds.{is_client_eof}
use Rattle.child_core.specs.declared.ending.Ending.TheVariants.{Incomplete}
use Rattle.child_core.specs.View.{View}
use Rattle.trace_model.specs.Exchange.{Exchange, request_bytes}
use Rattle.trace_model.specs.Legs.{Leg as Started}
use Rattle.conn_laws.specs.Hops.{Leads, SameLegs}
use Rattle.request_reader.specs.Request.{is_begun}
use Rattle.exchange_request.specs.Knows.{is_taken}
use Rattle.exchange_request.specs.declared.incoming.Incoming.{Incoming}
use Rattle.exchange_stage.specs.declared.stage.Leg.{Leg}
use Rattle.exchange_stage.specs.declared.stage.Stage.{Stage}
use Rattle.exchange_stage.specs.declared.stage.Stage.TheVariants as At
use Rattle.exchange_laws.specs.StageIs.{IsUnstarted}
use Rattle.exchange_laws.proofs.ReasonParts.{startable_begun}
use Rattle.http_conn.specs.HttpConn.{HttpConn}
use Rattle.http_conn.specs.Hears.{BreaksBegun, BreaksBy, EndsAt, EndsBy, Hears, HearsEnd, HearsOwn, Interrupts, TellsBegun, When, broken_if, is_untouched, is_untouched_at}
use Rattle.http_conn.specs.Kept.{flags_of, number_of, site_of}
use Rattle.http_conn.specs.Moves.{ended_run}
use Rattle.http_stage_laws.specs.HeardStages.{AtRest}
use Rattle.http_stage_laws.specs.Inward.{IsDecided, IsPast}
use Rattle.http_stage_laws.proofs.HeardBreaks.{begun_is}
use Rattle.http_stage_laws.proofs.HeardRest.{at_stage, no_leg}
use Rattle.good_step_laws.proofs.Events.OutlineWords.{is_calm, outline}
use Rattle.good_step_laws.proofs.Events.HeedLaws.{Keeps, none_told, told, told_keeps}
use Rattle.good_step_laws.proofs.Events.RunWords.{decided_ended}
use Rattle.good_step_laws.proofs.Events.RestWords.{calm_now, rested}

-- ---- for the first hop no script was started before

leads_up : (site : Site) (c : ℕ) (e : Exchange) (legs : List Started) (left hop left' hop' : ℕ) (request request' : Request) → Leads site c e left hop request legs left' hop' request' → hop ≤ hop'
leads_up site c e [] left hop left' hop' request request' l = let same = l.1 in omega (arith, same)
leads_up site c e (leg ∷ legs) zero hop left' hop' request request' l = absurd l
leads_up site c e (leg ∷ legs) (suc left) hop left' hop' request request' l =
    let up = leads_up site c e legs left (suc hop) left' hop' _ request' l.2 in omega (arith, up)

none_led : (site : Site) (c : ℕ) (e : Exchange) (legs : List Started) (left left' : ℕ) (request request' : Request) → Leads site c e left 0 request legs left' 0 request' → legs ≡ []
none_led site c e [] left left' request request' l = refl
none_led site c e (leg ∷ legs) zero left' request request' l = absurd l
none_led site c e (leg ∷ legs) (suc left) left' request request' l =
    let up = leads_up site c e legs left 1 left' 0 _ request' l.2 in absurd (omega (arith, up))

none_same : (legs later : List Started) → SameLegs legs later → later ≡ [] → legs ≡ []
none_same [] later same none = refl
none_same (leg ∷ legs) [] same none = absurd same
none_same (leg ∷ legs) (first ∷ later) same none = absurd (cc)

first_legs : (site : Site) (c : ℕ) (e : Exchange) (legs : List Started) (continued : Bool) (request : Request) → IsUnstarted site c e legs continued 0 request → legs ≡ []
first_legs site c e legs continued request is =
    let r = is.at_hop.reached in
    none_same legs r.legs_then r.same_legs (none_led site c e r.legs_then site.limits.redirects is.left r.reaches.first r.request_then r.reaches.leads)

-- ---- what becomes of it

module _ (first mid : HttpConn) (untaken : is_taken first.request ≡ false) (heard : HearsEnd first mid) where
  ends_at : EndsAt first.stage first mid
  ends_at = subst (λ (b : Bool). EndsBy b first mid) untaken heard

  -- its script's run is cut short
  run_cut : (leg : Leg) → first.stage ≡ At.Running leg → leg.hop ≡ 0 → IsDecided mid.run
  run_cut leg at zeroth =
      let is : mid ≡ record first { run = if leg.hop == 0 then ended_run Incomplete first.run else first.run } = subst (λ (s : Stage). EndsAt s first mid) at ends_at in
      subst (λ (c : HttpConn). IsDecided c.run) (sym is)
      (subst (λ (b : Bool). IsDecided (if b then ended_run Incomplete first.run else first.run)) (sym (eq-eqb leg.hop 0 zeroth)) (decided_ended Incomplete first.run))

  -- or the request is broken
  stage_cut : (request : Request) → first.stage ≡ At.Unstarted 0 request → is_some first.run ≡ false → first.flags.shut ≡ false
      → ((begun : Bool) → TellsBegun first.request begun → begun ≡ true) → mid.stage ≡ At.Interrupted Causes.Incomplete
  stage_cut request at none unshut begun =
      let may : (is_untouched first && not first.flags.shut) ≡ true =
      and_from (is_untouched first) (not first.flags.shut) (and_from (is_untouched_at first.stage) (not (is_some first.run)) (ap is_untouched_at at) (ap not none)) (ap not unshut) in
      let i : Interrupts Causes.Incomplete first mid = subst (λ (s : Stage). EndsAt s first mid) at ends_at in
      let by : BreaksBegun Causes.Incomplete first mid = subst (λ (b : Bool). BreaksBy b Causes.Incomplete first mid) may i in
      ap (λ (c : HttpConn). c.stage) (by.is ∙ ap (λ (b : Bool). broken_if b Causes.Incomplete first) (begun by.begun by.tells))

ends_of : (x : Event) (first mid : HttpConn) → HearsOwn x first mid → is_client_eof first.flags.c (In x) ≡ true → HearsEnd first mid
ends_of (ClientEof d) first mid own mine = subst (λ (b : Bool). When b HearsEnd first mid) mine own
ends_of x first mid own mine = absurd (false≢true mine)

module _ (old : HttpConn) (L : List Item) (e : Exchange) (legs : List Started) (next : ℕ) (rest : AtRest old L e legs next) (found : old.lost ≡ false) (ev : Event) (new : HttpConn) (h : Hears old ev new)
    (unshut : (flags_of old).shut ≡ false) (untaken : is_taken old.request ≡ false) (eof : is_client_eof (number_of old) (In ev) ≡ true) (same : outline h.mid.stage ≡ outline old.stage) where
  abbrev first : HttpConn
  first = told old ev h.found

  k : Keeps old first
  k = told_keeps old ev h.found

  untaken_then : is_taken first.request ≡ false
  untaken_then = ap (λ (i : Incoming). is_taken i) k.request ∙ untaken

  heard : HearsEnd first h.mid
  heard = ends_of ev first h.mid h.own (ap (λ (c : ℕ). is_client_eof c (In ev)) k.number ∙ eof)

  -- a script that was to be started for the first hop isn't any more
  unbroken : (request : Request) → old.stage ≡ At.Unstarted 0 request → ⊥
  unbroken request at =
      let is : IsUnstarted (site_of old) (number_of old) e legs old.continued 0 request = (at_stage old L e legs next rest (rested old L e legs next rest found) (At.Unstarted 0 request) at).0 in
      let none : is_some old.run ≡ false = ap (λ (r : Option View). is_some r) (no_leg old L e legs next rest (first_legs (site_of old) (number_of old) e legs old.continued request is)) in
      let begun : is_begun (request_bytes (number_of old) e) ≡ true =
      startable_begun (site_of old) (number_of old) e is.at_hop.reached.reaches.first rest.two is.at_hop.reached.reaches.start in
      let cut : h.mid.stage ≡ At.Interrupted Causes.Incomplete =
      stage_cut first h.mid untaken_then heard request (k.stage ∙ at) (none_told old ev h.found ∙ none) (k.shut ∙ unshut) (λ b tells.
      begun_is old L e legs next rest found (rested old L e legs next rest found) unshut b (subst (λ (i : Incoming). TellsBegun i b) k.request tells) ∙ begun) in
      let never : At.Interrupted Causes.Incomplete ≡ outline (At.Unstarted 0 request) = sym (ap outline cut) ∙ (same ∙ ap outline at) in
      absurd (cc)

  pub eof_past : IsPast old.stage h.mid.run
  eof_past = go old.stage refl
    where
      go : (s : Stage) → old.stage ≡ s → IsPast s h.mid.run
      go (At.Running leg) at = λ zeroth. run_cut first h.mid untaken_then heard leg (k.stage ∙ at) zeroth
      go (At.Unstarted zero request) at = absurd (unbroken request at)
      go (At.Unstarted (suc hop) request) at = λ zeroth. absurd (omega (arith, zeroth))
      go (At.Starting leg launch body whole) at = absurd (false≢true (sym (ap is_calm at) ∙ calm_now old L e legs next rest found))
      go s at = tt
