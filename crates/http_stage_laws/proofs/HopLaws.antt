-- What is made ready of a hop leads from stage to stage.
use Rattle.std.proofs.Common.{◌≡◌, ℕ, Bool, true, false, ◌&&◌, ◌||◌, not, List, [], ◌∷◌, Option, Some, None, Result, Ok, Err, option_map, is_some, if◌then◌else◌, refl, sym, ap, ◌∙◌, subst}
use Rattle.std.specs.Prelude.{nat_lt}
use Rattle.std.proofs.lemmas.Bool.{false≢true}
use Rattle.host_base.specs.declared.cause.Cause.{Cause}
use Rattle.host_base.specs.declared.launch.Launch.{Launch}
use Rattle.host_base.specs.declared.launch.Peer.{Peer}
use Rattle.host_base.specs.declared.limits.Limits.{Limits}
use Rattle.host_base.specs.declared.request.Request.{Request}
use Rattle.host_base.specs.declared.site.Mapped.{Mapped}
use Rattle.host_base.specs.declared.site.ScriptKind.{ScriptKind}
use Rattle.host_base.specs.declared.site.ScriptKind.TheVariants.{Cgi, Nph, WebSocket}
use Rattle.host_base.specs.declared.site.Site.{Site}
use Rattle.host_trace.specs.Decider.{is_websocket}
use Rattle.host_trace.specs.Projections.{last_secs, peers}
use Rattle.meta_variables.specs.Launch.{launch_of}
use Rattle.request_reader.specs.Request.{Reading, Whole, More, Bad, is_length, read_request}
use Rattle.trace_model.specs.Closes.{persists_by}
use Rattle.trace_model.specs.Exchange.{Exchange, all_of, reading, request_bytes}
use Rattle.trace_model.specs.Launches.{launch_by}
use Rattle.trace_model.specs.Legs.{Leg as Started}
use Rattle.trace_model.specs.Places.{kind_of, place_of}
use Rattle.trace_model.specs.Readings.{headed, is_bare, is_whole, startable}
use Rattle.exchange_request.specs.Knows.{is_looked_at, is_taken}
use Rattle.exchange_request.specs.Manner.{manner_of}
use Rattle.exchange_reply.specs.Reply.{SpellsFault}
use Rattle.exchange_stage.specs.declared.stage.Stage.{Stage}
use Rattle.exchange_stage.specs.declared.stage.Stage.TheVariants as At
use Rattle.exchange_laws.specs.Moves.{FaultsMove, closes_early}
use Rattle.exchange_laws.specs.StageIs.{StageIs}
use Rattle.exchange_laws.proofs.FinishLaws.{faults_are_ready}
use Rattle.exchange_laws.proofs.PlaceLaws.{places_are_found}
use Rattle.conn_laws.specs.Front.{first_peer}
use Rattle.http_conn.specs.HttpConn.{HttpConn}
use Rattle.http_conn.specs.Kept.{number_of, site_of}
use Rattle.http_conn.specs.Begins.{PlaceBy, ReadiesHop, Refuses, ScriptBy, Starts, asked_of, bare_by, silenced}
use Rattle.http_stage_laws.specs.Staged.{MayHop, Staged}
use Rattle.http_stage_laws.proofs.StagedLaws.{fault_is, reads, staged_as}

-- ---- words

-- a request that a script may be started for has a body in its reply unless its method is HEAD
bare_started : (r : Reading) → is_some (startable r) ≡ true → bare_by (option_map manner_of (startable r)) ≡ is_bare r
bare_started (Whole request used due) some = refl
bare_started (More None due) some = absurd (false≢true some)
bare_started (More (Some request) due) some = go (is_length request.framing) some
  where
    go : (b : Bool) → is_some (if b then Some request else None) ≡ true → bare_by (option_map manner_of (if b then Some request else None)) ≡ is_bare (More (Some request) due)
    go true s = refl
    go false s = absurd (false≢true s)
bare_started (Bad cause bare) some = absurd (false≢true some)

abbrev held : Peer → Option Peer → Peer
held d None = d
held d (Some peer) = peer

pub launch_first : (site : Site) (ps : List Peer) (peer : Peer) (request : Request) (mapped : Mapped) (launch : Launch) → Some peer ≡ first_peer ps
    → launch_of site peer request mapped ≡ Some launch → launch_by site ps request mapped ≡ Some launch
launch_first site [] peer request mapped launch is l = absurd (cc)
launch_first site (p ∷ ps) peer request mapped launch is l = subst (λ (q : Peer). launch_of site q request mapped ≡ Some launch) (ap (held peer) is) l

-- ---- a hop

module _ (old new : HttpConn) (e : Exchange) (legs : List Started) (stamp : Option ℕ) (may : MayHop old e legs stamp) where
  at_stage : (stage : Stage) → old.stage ≡ stage
      → StageIs (site_of old) (number_of old) e legs old.continued (is_looked_at old.request) (old.closing || old.closes) may.may.staged.more stage
  at_stage stage at = subst (λ (s : Stage). StageIs (site_of old) (number_of old) e legs old.continued (is_looked_at old.request) (old.closing || old.closes) may.may.staged.more s) at may.may.staged.is

  faults : (text : List ℕ) → FaultsMove (site_of old) (number_of old) e legs old.continued (is_looked_at old.request) (old.closing || old.closes) may.may.staged.more text
  faults text = faults_are_ready (site_of old) (number_of old) e legs old.continued (is_looked_at old.request) (old.closing || old.closes) may.may.staged.more text may.may.let_on may.may.unclosed

  record Refused (cause : Cause) : Type 0 where
    pub text : List ℕ
    pub is : new ≡ record old { stage = At.Finishing text (closes_early (site_of old) (number_of old) e) }
    pub fault : SpellsFault cause (is_bare (reading (site_of old) (number_of old) e)) (closes_early (site_of old) (number_of old) e) (last_secs (all_of e)) text

  refuses : (cause : Cause) → is_some (startable (reading (site_of old) (number_of old) e)) ≡ true → Refuses cause stamp (silenced old) new → Refused cause
  refuses cause some r =
      let bytes : List ℕ = request_bytes (number_of old) e in
      let bare : r.bare ≡ is_bare (reading (site_of old) (number_of old) e) =
      r.bare_is bytes (reads old e legs stamp may.may)
      ∙ (ap (λ (l : Limits). bare_by (option_map manner_of (startable (read_request l bytes)))) may.may.front.limits ∙ bare_started (reading (site_of old) (number_of old) e) some) in
      let closes : r.closes ≡ closes_early (site_of old) (number_of old) e =
      r.closes_is bytes (reads old e legs stamp may.may)
      ∙ ap (λ (l : Limits). not (persists_by (headed (read_request l bytes)) && is_whole (read_request l bytes))) may.may.front.limits in
      record {
        text = r.fault.text;
        is = r.fault.is ∙ ap (λ (d : Bool). record old { stage = At.Finishing r.fault.text d }) closes;
        fault = fault_is old e legs stamp may.may cause r.bare r.closes (is_bare (reading (site_of old) (number_of old) e)) (closes_early (site_of old) (number_of old) e) r.fault.text bare closes r.fault.spells;
      }

  module _ (hop : ℕ) (request : Request) (at : old.stage ≡ At.Unstarted hop request) where
    some : is_some (startable (reading (site_of old) (number_of old) e)) ≡ true
    some = ap is_some (at_stage (At.Unstarted hop request) at).0.at_hop.reached.reaches.start

    starts : (kind : ScriptKind) (mapped : Mapped) → is_websocket kind ≡ false → place_of (site_of old) request ≡ Ok mapped → kind_of (site_of old) mapped ≡ kind
        → Starts hop kind request mapped (silenced old) new → Staged new e legs
    starts kind mapped plain place kind_is s =
        staged_as old new e legs may.may.staged (At.Starting s.leg s.launch request.body (nat_lt 0 hop || is_taken old.request)) s.is
        (places_are_found (site_of old) (number_of old) e legs old.continued (is_looked_at old.request) (old.closing || old.closes) may.may.staged.more hop request mapped s.leg (asked_of kind (record request { body = [] })) s.launch
        request.body (nat_lt 0 hop || is_taken old.request) (at_stage (At.Unstarted hop request) at) may.may.let_on may.may.unclosed place (ap is_websocket kind_is ∙ plain) (record {
          hop_is = s.leg_is.hop_is;
          kind_is = s.leg_is.kind_is ∙ sym kind_is;
          request_is = s.leg_is.request_is;
          text = s.leg_is.text;
          unticked = s.leg_is.unticked;
          asks_kind = sym kind_is;
          version = refl;
          head_only = refl;
          reply = s.leg_is.reply;
        }) (launch_first (site_of old) (peers (all_of e)) s.launch_is.peer request mapped s.launch (sym s.launch_is.peer_is ∙ may.may.front.peer_is) s.launch_is.launch_is) (may.offers hop request at))

    found : (kind : ScriptKind) (mapped : Mapped) → place_of (site_of old) request ≡ Ok mapped → kind_of (site_of old) mapped ≡ kind
        → ScriptBy kind hop request mapped stamp (silenced old) new → Staged new e legs
    found Cgi mapped place kind_is s = starts Cgi mapped refl place kind_is s
    found Nph mapped place kind_is s = starts Nph mapped refl place kind_is s
    found WebSocket mapped place kind_is s =
        let r : Refused s.0 = refuses s.0 some s.2 in
        staged_as old new e legs may.may.staged (At.Finishing r.text (closes_early (site_of old) (number_of old) e)) r.is
        ((faults r.text).no_handshake hop request mapped s.0 may.turn (at_stage (At.Unstarted hop request) at) place kind_is s.1 r.fault)

    placed : (answer : Result Mapped Cause) → place_of (site_of old) request ≡ answer → PlaceBy answer hop request stamp (silenced old) new → Staged new e legs
    placed (Ok mapped) place f = found f.kind mapped place f.kind_is f.by
    placed (Err cause) place refusal =
        let r : Refused cause = refuses cause some refusal in
        staged_as old new e legs may.may.staged (At.Finishing r.text (closes_early (site_of old) (number_of old) e)) r.is
        ((faults r.text).no_script hop request cause may.turn (at_stage (At.Unstarted hop request) at) place r.fault)

  by_stage : (stage : Stage) → old.stage ≡ stage → ReadiesHop stage stamp old new → Staged new e legs
  by_stage (At.Refused cause) at refusal =
      let r : Refused cause = refuses cause (ap is_some (at_stage (At.Refused cause) at).0.last.reached.reaches.start) refusal in
      staged_as old new e legs may.may.staged (At.Finishing r.text (closes_early (site_of old) (number_of old) e)) r.is
      ((faults r.text).refused cause may.turn (at_stage (At.Refused cause) at) r.fault)
  by_stage (At.Unstarted hop request) at p = placed hop request at p.answer p.place p.by
  by_stage (At.Running leg) at same = subst (λ (conn : HttpConn). Staged conn e legs) (sym same) may.may.staged
  by_stage At.Reading at same = subst (λ (conn : HttpConn). Staged conn e legs) (sym same) may.may.staged
  by_stage (At.Rejected cause bare) at same = subst (λ (conn : HttpConn). Staged conn e legs) (sym same) may.may.staged
  by_stage (At.Interrupted cause) at same = subst (λ (conn : HttpConn). Staged conn e legs) (sym same) may.may.staged
  by_stage (At.Starting leg launch body whole) at same = subst (λ (conn : HttpConn). Staged conn e legs) (sym same) may.may.staged
  by_stage (At.Finishing text closes) at same = subst (λ (conn : HttpConn). Staged conn e legs) (sym same) may.may.staged
  by_stage At.Answered at same = subst (λ (conn : HttpConn). Staged conn e legs) (sym same) may.may.staged
  by_stage At.Silent at same = subst (λ (conn : HttpConn). Staged conn e legs) (sym same) may.may.staged

pub hops_staged : (old new : HttpConn) (stamp : Option ℕ) (e : Exchange) (legs : List Started) → MayHop old e legs stamp → ReadiesHop old.stage stamp old new → Staged new e legs
hops_staged old new stamp e legs may readied = by_stage old new e legs stamp may old.stage refl readied
