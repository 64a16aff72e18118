-- What is known where an accept text is written: the handshake is accepted by the model too.
use Rattle.std.proofs.Common.{◌≡◌, ◌≤◌, ℕ, Bool, true, false, not, ◌&&◌, ◌||◌, List, [], ◌∷◌, Option, Some, None, is_some, refl, sym, ap, ◌∙◌, subst}
use Rattle.std.specs.Prelude.{drop}
use Rattle.std.specs.List.{list_any}
use Rattle.std.proofs.lemmas.Bool.{and_parts, false≢true, not-true, or_from, or_left, or_parts}
use Rattle.host_base.specs.declared.launch.Launch.{Launch}
use Rattle.host_base.specs.declared.limits.Limits.{Limits}
use Rattle.host_base.specs.declared.site.Site.{Site}
use Rattle.host_trace.specs.declared.items.Act.{Act}
use Rattle.host_trace.specs.declared.items.Event.{Event}
use Rattle.host_trace.specs.declared.items.Item.{Item}
use Rattle.host_trace.specs.Kinds.{is_client_gone, is_no_room, is_stop, is_ws_bad}
use Rattle.host_trace.specs.Projections.{peers, shut, stopped}
use Rattle.ws_handshake.specs.Handshake.{accept_text}
use Rattle.request_reader.specs.Request.{read_request, used_by}
use Rattle.child_core.specs.View.{View}
use Rattle.trace_model.specs.Breaks.{idled}
use Rattle.trace_model.specs.Exchange.{Exchange, all_of, reading, request_bytes}
use Rattle.trace_model.specs.Exchanges.{left_over}
use Rattle.trace_model.specs.Launches.{launch_by}
use Rattle.trace_model.specs.Legs.{Leg}
use Rattle.trace_model.specs.Places.{origins_of}
use Rattle.trace_model.specs.Readings.{is_whole}
use Rattle.exchange_request.specs.Knows.{is_looked_at, is_read, is_taken}
use Rattle.exchange_request.proofs.KnowsLaws.{knows_whole}
use Rattle.exchange_reply.specs.StepRules.{is_continued}
use Rattle.exchange_stage.specs.declared.stage.Stage.TheVariants as At
use Rattle.exchange_laws.specs.StageIs.{StageIs}
use Rattle.exchange_laws.proofs.HopStageLaws.{accepted_first}
use Rattle.conn_laws.proofs.FormLaws.{flags_say}
use Rattle.conn_flags.specs.View.{has_room}
use Rattle.conn_flags.specs.Knows.{is_gone_by}
use Rattle.child_laws.specs.Children.{KnowsRuns, NoMore}
use Rattle.child_laws.specs.Moves.{Deals}
use Rattle.child_laws.specs.Step.{Turn}
use Rattle.conn_laws.specs.Front.{IsHeard}
use Rattle.conn_laws.specs.Moves.{Move}
use Rattle.http_conn.specs.HttpConn.{HttpConn}
use Rattle.http_conn.specs.Kept.{is_reading, flags_of, number_of, site_of}
use Rattle.http_conn.specs.Opens.{IsRestOf}
use Rattle.http_conn.specs.Reasons.{ends_with, is_done_with}
use Rattle.http_conn.specs.Slot.{run_settled}
use Rattle.http_conn.specs.Welcomes.{Accepts}
use Rattle.http_stage_laws.proofs.HopLaws.{launch_first}
use Rattle.http_stage_laws.proofs.StagedLaws.{no_last}
use Rattle.http_step_laws.specs.Standing.{Quiet, Standing, ends_at}
use Rattle.http_step_laws.proofs.EndWords.{Going, accepted_of, ends_same, going, unclosed_of, unshut_of}
use Rattle.http_step_laws.proofs.HopWords.{continued_hop, may_turn}
use Rattle.http_step_laws.proofs.QuietWords.{quiet_goes_on}
use Rattle.http_step_laws.proofs.StageWords.{known, more_in, stage_at}
use Rattle.talk_core.specs.Laws.{is_of_talk}
use Rattle.talk_laws.specs.Http.{SpeaksHttp, is_parting}
use Rattle.talk_laws.specs.Welcome.{IsWelcoming}
use Rattle.talk_laws.proofs.WelcomeLaws.{handshakes_are_welcome}
use Rattle.good_step_laws.proofs.Opens.GreetWords.{Welcomed}
use Rattle.good_step_laws.proofs.Opens.UntalkedLaws.{asked_in_turn}

-- ---- small words

-- nothing parted the client or the server from it
none_parting : (c : ℕ) (L : List Item) → stopped L ≡ false → list_any (is_gone_by c) L ≡ false → list_any (is_no_room c) L ≡ false → list_any (is_parting c) L ≡ false
none_parting c [] going here room = refl
none_parting c (x ∷ L) going here room =
    let a = or_parts (is_stop x) (stopped L) going in
    let b = or_parts (is_gone_by c x) (list_any (is_gone_by c) L) here in
    let d = or_parts (is_no_room c x) (list_any (is_no_room c) L) room in
    let g = or_parts (is_client_gone c x) (is_ws_bad c x) b.0 in
    or_from (is_parting c x) (list_any (is_parting c) L) (four (is_stop x) (is_client_gone c x) (is_ws_bad c x) (is_no_room c x) a.0 g.0 g.1 d.0) (none_parting c L a.1 b.1 d.1)
  where
    four : (a b e f : Bool) → a ≡ false → b ≡ false → e ≡ false → f ≡ false → (a || b || e || f) ≡ false
    four a b e f p q r s = rw (p, q, r, s) refl

none_of : {A : Type 0} (o : Option A) → is_some o ≡ false → o ≡ None
none_of None is = refl
none_of (Some x) is = absurd (false≢true (sym is))

-- ---- the connection

module _ (L : List Item) (ev : Event) (acts : List Act) (turn : Turn) (d : Exchange) (conn new : HttpConn) (n k : ℕ) (tail : List Move) (launch : Launch) (s : Standing L ev acts turn n d conn)
    (two : 2 ≤ (site_of conn).limits.head) (q : Quiet d conn) (a : Accepts launch conn k tail new) (untalked : list_any (is_of_talk (number_of conn)) (all_of d) ≡ false) where
  abbrev site : Site
  site = site_of conn

  abbrev c : ℕ
  c = number_of conn

  abbrev bytes : List ℕ
  bytes = request_bytes (number_of conn) d

  -- it has its turn
  turn_on : (ends_at conn d ≡ false) × (run_settled conn.run ≡ true) × (has_room (flags_of conn) ≡ true)
  turn_on =
      let p = and_parts (not (ends_with conn a.turn.done) && run_settled conn.run) (has_room (flags_of conn)) (sym a.turn.is) in
      let r = and_parts (not (ends_with conn a.turn.done)) (run_settled conn.run) p.0 in
      (sym (ends_same conn d two s.front a.turn.done a.turn.tells) ∙ not-true (ends_with conn a.turn.done) r.0, r.1, p.1)

  g : Going conn (is_done_with conn (request_bytes (number_of conn) d))
  g = going conn (is_done_with conn (request_bytes (number_of conn) d)) turn_on.0

  pub found : conn.lost ≡ false
  found = g.found

  unclosed : d.closed ≡ false
  unclosed = unclosed_of conn d (is_done_with conn (request_bytes (number_of conn) d)) s.front g

  away : is_reading conn.stage ≡ false
  away = ap is_reading a.stage_is

  read_now : is_read conn.request ≡ true
  read_now = (s.heard found).looked away

  h : IsHeard conn.request (is_reading conn.stage) (request_bytes (number_of conn) d)
  h = s.front.request found unclosed

  -- the request was read to its end exactly where it is whole
  taken_is : is_taken conn.request ≡ is_whole (reading site c d)
  taken_is =
      knows_whole conn.request (request_bytes (number_of conn) d) h.taken h.knows read_now
      ∙ ap (λ (l : Limits). is_whole (read_request l (request_bytes (number_of conn) d))) s.front.limits

  waits : StageIs (site_of conn) (number_of conn) d s.legs conn.continued (is_looked_at conn.request) (conn.closing || conn.closes) (more_in conn d s.legs (s.staged found)) (At.Unstarted a.hop a.request)
  waits = stage_at conn d s.legs (At.Unstarted a.hop a.request) a.stage_is (s.staged found)

  first_hop : a.hop ≡ 0
  first_hop = accepted_first site c d s.legs waits.0.left a.hop a.request (origins_of site a.mapped) a.value waits.0.at_hop.reached a.taken

  waits_first : StageIs (site_of conn) (number_of conn) d s.legs conn.continued (is_looked_at conn.request) (conn.closing || conn.closes) (more_in conn d s.legs (s.staged found)) (At.Unstarted 0 a.request)
  waits_first =
      subst (λ (hop : ℕ). StageIs (site_of conn) (number_of conn) d s.legs conn.continued (is_looked_at conn.request) (conn.closing || conn.closes) (more_in conn d s.legs (s.staged found)) (At.Unstarted hop a.request))
      first_hop waits

  let_on : is_continued site c d ≡ true
  let_on = continued_hop L ev acts turn d conn n s q found turn_on.0 away turn_on.1 turn_on.2

  launched : launch_by site (peers (all_of d)) a.request a.mapped ≡ Some launch
  launched = launch_first site (peers (all_of d)) a.launches.peer a.request a.mapped launch (sym a.launches.peer_is ∙ s.front.peer_is) a.launches.launch_is

  calm : idled site c d ≡ None
  calm = none_of (idled site c d) (sym (s.front.idled_is found unclosed) ∙ g.calm)

  going_on : stopped (all_of d) ≡ false
  going_on = sym s.flags.stopped ∙ g.unstopped

  unshut : shut (all_of d) c ≡ false
  unshut = sym s.flags.shut ∙ unshut_of conn (is_done_with conn (request_bytes (number_of conn) d)) g

  staying : list_any (is_parting c) (all_of d) ≡ false
  staying = none_parting c (all_of d) going_on (sym s.flags.gone ∙ g.here) (sym s.flags.no_room ∙ s.inward.room found)

  http : SpeaksHttp site c d
  http = record {
    http = sym s.flags.upgraded ∙ s.inward.http;
    untalked = untalked;
    once = asked_in_turn (flags_of conn) (all_of d) s.flags;
    unasked = λ asked open_then.
        let held : (flags_of conn).asked ≡ true = (flags_say (flags_of conn) (all_of d) s.flags).asked ∙ asked in
        sym taken_is ∙ (s.inward.within found g.open_yet (or_left (flags_of conn).asked (flags_of conn).ended held)).untaken;
  }

  welcoming : IsWelcoming site c d s.legs conn.continued (accept_text a.value) launch
  welcoming =
      handshakes_are_welcome site c d s.legs conn.continued (is_looked_at conn.request) (conn.closing || conn.closes) (more_in conn d s.legs (s.staged found)) a.request a.mapped a.value launch waits_first
      let_on unclosed a.place a.kind a.taken launched calm going_on unshut staying http

  no_legs : s.legs ≡ []
  no_legs = welcoming.none

  no_run : conn.run ≡ None
  no_run = go conn.run refl (known L ev acts turn n d conn s found).runs
    where
      go : (run : Option View) → conn.run ≡ run → KnowsRuns NoMore (site_of conn) (number_of conn) d false s.legs run → conn.run ≡ None
      go None is k = is
      go (Some v) is k = absurd (no_last k.older k.leg (sym no_legs ∙ k.are))

  deals : Deals (site_of conn) (number_of conn) L ev acts d s.over false turn n [] None
  deals =
      subst (λ (r : Option View). Deals (site_of conn) (number_of conn) L ev acts d s.over false turn n [] r) no_run
      (subst (λ (ls : List Leg). Deals (site_of conn) (number_of conn) L ev acts d s.over false turn n ls conn.run) no_legs
      (subst (λ (b : Bool). Deals (site_of conn) (number_of conn) L ev acts d s.over b turn n s.legs conn.run) (ap (λ (b : Bool). b && not (flags_of conn).shut) found) s.children))

  pub ready_welcomed : Welcomed (site_of conn) (number_of conn) L ev acts d n (accept_text a.value) launch
  ready_welcomed = record {
    two = two;
    over = s.over;
    turn = turn;
    continued = conn.continued;
    welcoming = subst (λ (ls : List Leg). IsWelcoming (site_of conn) (number_of conn) d ls conn.continued (accept_text a.value) launch) no_legs welcoming;
    deals = deals;
    may = may_turn L ev acts turn d conn n s turn_on.1 turn_on.2;
    on = quiet_goes_on L ev acts turn d conn n s q;
    accepted = sym s.flags.accepted ∙ accepted_of conn (is_done_with conn (request_bytes (number_of conn) d)) g;
  }

  -- what came behind the request is what the model says
  pub rest_left : (rest : List ℕ) → IsRestOf conn rest → rest ≡ left_over (site_of conn) (number_of conn) d
  rest_left rest is =
      is (request_bytes (number_of conn) d) h.taken h.knows (taken_is ∙ ap is_whole welcoming.accepted.reads)
      ∙ ap (λ (l : Limits). drop (used_by (read_request l (request_bytes (number_of conn) d))) (request_bytes (number_of conn) d)) s.front.limits
