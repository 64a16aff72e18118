-- A hop begins, where it has its turn.
use Rattle.std.proofs.Common.{◌≡◌, ◌≤◌, ℕ, Bool, true, false, ◌&&◌, not, List, [], ◌∷◌, ◌++◌, Option, None, Result, Ok, Err, refl, sym, ap, ◌∙◌, subst, arith}
use Rattle.std.specs.Prelude.{◌||◌, nat_lt}
use Rattle.std.proofs.lemmas.Bool.{and_parts, false≢true, not-true}
use Rattle.host_base.specs.declared.cause.Cause.{Cause}
use Rattle.host_base.specs.declared.launch.Launch.{Launch}
use Rattle.host_base.specs.declared.request.Request.{Request}
use Rattle.host_base.specs.declared.site.Mapped.{Mapped}
use Rattle.host_base.specs.declared.site.ScriptKind.{ScriptKind}
use Rattle.host_base.specs.declared.site.ScriptKind.TheVariants.{Cgi, Nph, WebSocket}
use Rattle.host_base.specs.declared.site.Site.{Site}
use Rattle.host_trace.specs.declared.items.Act.{Act}
use Rattle.host_trace.specs.declared.items.Act.TheVariants.{CloseWs, EndInput, Feed, Kill, Release, Says, Shut, Start, Upgrade, WantChild, WantClient, Write}
use Rattle.host_trace.specs.declared.items.Event.{Event}
use Rattle.host_trace.specs.declared.items.Item.{Item}
use Rattle.host_trace.specs.declared.items.Item.TheVariants.{Out}
use Rattle.host_trace.specs.Account.{has_unsettled}
use Rattle.own_traces.specs.Whose.{next_after}
use Rattle.ws_handshake.specs.Handshake.{handshake}
use Rattle.trace_model.specs.Answer.{refused, stage}
use Rattle.trace_model.specs.Exchange.{Exchange, continue_text, pushed}
use Rattle.trace_model.specs.Exchanges.{following}
use Rattle.trace_model.specs.Form.{begins_anew, is_refused, rank}
use Rattle.trace_model.specs.Places.{kind_of, origins_of, place_of}
use Rattle.conn_laws.proofs.HopLaws.{reaches_stands}
use Rattle.exchange_stage.specs.declared.stage.Leg.{Leg}
use Rattle.exchange_stage.specs.declared.stage.Stage.{Stage}
use Rattle.exchange_stage.specs.declared.stage.Stage.TheVariants as At
use Rattle.exchange_laws.proofs.HopStageLaws.{handshake_same, refused_handshake}
use Rattle.exchange_laws.proofs.RuleLaws.{refused_way}
use Rattle.conn_flags.specs.View.{has_room}
use Rattle.child_laws.specs.Step.{Turn}
use Rattle.child_laws.proofs.KnowLaws.{unsettled_exact}
use Rattle.conn_laws.specs.Moves.{Move, acts_of, continues, gives, settles}
use Rattle.http_conn.specs.HttpConn.{HttpConn}
use Rattle.http_conn.specs.Begins.{PlaceBy, ReadiesHop, ScriptBy, silenced}
use Rattle.http_conn.specs.Kept.{flags_of, number_of, site_of}
use Rattle.child_core.specs.declared.ending.Outcome.{Outcome}
use Rattle.exchange_request.specs.Knows.{is_taken}
use Rattle.exchange_laws.specs.StageIs.{IsUnstarted}
use Rattle.http_conn.specs.Ready.{outcome_of_run}
use Rattle.http_conn.specs.Reasons.{ends_with}
use Rattle.http_conn.specs.Slot.{run_settled}
use Rattle.http_conn.specs.Tells.{has_turn}
use Rattle.http_conn.specs.Parts.{Begins, BeginsBy, GivesHop, GivesHopBy, Loses, Nothing, Or, Part, StartsScript, the_one, the_other}
use Rattle.http_stage_laws.specs.Inward.{is_running}
use Rattle.http_step_laws.specs.Standing.{Leaves, Quiet, QuietBy, Rest, RunQuiet, Standing, ends_at, is_early}
use Rattle.http_step_laws.proofs.EndWords.{going}
use Rattle.http_step_laws.proofs.StageWords.{known_now, same_settled, stage_at}
use Rattle.good_step_laws.proofs.Orders.PlaceWords.{AreOrdered, least_after, least_low, least_then}
use Rattle.good_step_laws.proofs.Orders.EachLaws.{Each, each_finishes}
use Rattle.good_step_laws.proofs.Orders.GoesLaws.{Goes, goes_as, goes_empty, goes_none}
use Rattle.good_step_laws.proofs.Orders.HandleLaws.{Calm, anew, dealt, lost_calm}

-- ---- Writes alone

abbrev pub is_write : Act → Bool
is_write (Write c bytes) = true
is_write act = false

pub writes_write : (c : ℕ) (bytes : List ℕ) → is_write (Write c bytes) ≡ true
writes_write c bytes = refl

write_first : (act : Act) → is_write act ≡ true → rank act ≡ 0
write_first (Write c bytes) e = refl
write_first _ e = absurd (false≢true e)

pub record Written (site : Site) (c : ℕ) (e : Exchange) (least : ℕ) (moves : List Move) : Type 0 where
  pub ordered : AreOrdered site c e least moves
  pub first : least_then site c e least moves ≡ 0

pub written_first : (site : Site) (c : ℕ) (moves : List Move) (e : Exchange) (least : ℕ) → least ≡ 0 → Each is_write moves → Written site c e least moves
written_first site c [] e least zero w = record { ordered = tt; first = zero }
written_first site c (gives act ∷ moves) e least zero w =
    let at : rank act ≡ 0 = write_first act w.0 in
    let low : least_after site c e act ≤ rank act = least_low (begins_anew site c e act) (rank act) in
    let rest : Written site c (pushed e (Out act)) (least_after site c e act) moves = written_first site c moves (pushed e (Out act)) (least_after site c e act) (omega (arith, at, low)) w.1 in
    record { ordered = (omega (arith, zero), rest.ordered); first = rest.first }
written_first site c (continues d ∷ moves) e least zero w =
    let act : Act = Write d continue_text in
    let low : least_after site c e act ≤ 0 = least_low (begins_anew site c e act) 0 in
    let rest : Written site c (pushed e (Out act)) (least_after site c e act) moves = written_first site c moves (pushed e (Out act)) (least_after site c e act) (omega (arith, low)) w.1 in
    record { ordered = (omega (arith, zero), rest.ordered); first = rest.first }
written_first site c (settles ending ∷ moves) e least zero w =
    let rest : Written site c (following site c e) least moves = written_first site c moves (following site c e) least zero w in
    record { ordered = rest.ordered; first = rest.first }

-- ---- what is said where parts lead

-- the script of a hop was started, and nothing ends the connection
pub record Started (least : ℕ) (e : Exchange) (conn : HttpConn) : Type 0 where
  pub top : least ≤ 10
  pub runs : is_running conn.stage ≡ true
  pub on : ends_at conn e ≡ false

pub data Low (site : Site) (c : ℕ) (least : ℕ) (e : Exchange) (conn : HttpConn) : Type 0 where
  calm : Calm site c least e conn → Low site c least e conn
  begun : Started least e conn → Low site c least e conn

module _ (L : List Item) (ev : Event) (acts : List Act) (turn : Turn) (e : Exchange) (old : HttpConn) (n : ℕ) (s : Standing L ev acts turn n e old) (two : 2 ≤ (site_of old).limits.head)
    (q : Quiet e old) (least : ℕ) (low : Calm (site_of old) (number_of old) least e old) where
  abbrev site : Site
  site = site_of old

  abbrev c : ℕ
  c = number_of old

  -- ---- what is ready is given

  pub zero_calm : (moves : List Move) (new : HttpConn) → least ≡ 0 → Each is_write moves → Goes (Low site c) site c e least moves new
  zero_calm moves new zero w =
      let t : Written site c e least moves = written_first site c moves e least zero w in
      record { ordered = t.ordered; low = calm (anew t.first) }

  low_top : least ≤ 10
  low_top = go low
    where
      go : Calm site c least e old → least ≤ 10
      go (anew zero) = omega (arith, zero)
      go (dealt top away waits unstarted) = omega (arith, top)

  -- from a connection that differs from the old one in its stage
  module _ (mid : HttpConn) (found : mid.lost ≡ false) (next : ℕ) (moves : List Move) (new : HttpConn) (l : Leaves Rest L ev acts e old n moves new) where
    start_goes : (leg : Leg) (launch : Launch) (body : List ℕ) (whole : Bool) → Or (Part (StartsScript leg launch body whole)) (Part Loses) mid next moves new → Goes (Low site c) site c e least moves new
    start_goes leg launch body whole (the_one p) =
        let act : Act = Start next mid.flags.c mid.number leg.hop launch in
        let l' : Leaves Rest L ev acts e old n (gives act ∷ []) new = subst (λ (x : List Move). Leaves Rest L ev acts e old n x new) p.by.moves_are l in
        let at : new.stage ≡ At.Running leg = ap (λ (d : HttpConn). d.stage) p.by.is in
        let none : outcome_of_run new.run ≡ None = ap (λ (d : HttpConn). outcome_of_run d.run) p.by.is in
        let here : new.lost ≡ false = ap (λ (d : HttpConn). d.lost) p.by.is ∙ found in
        let quiet : QuietBy new (pushed e (Out act)) (At.Running leg) = subst (λ (t : Stage). QuietBy new (pushed e (Out act)) t) at (l'.post.1.found here).quiet in
        let run = subst (λ (o : Option Outcome). RunQuiet new (pushed e (Out act)) leg o) none quiet.1 in
        goes_as (Low site c) site c e least moves (gives act ∷ []) new p.by.moves_are (record {
          ordered = (low_top, tt);
          low = begun (record { top = least_low (begins_anew site c e act) 10; runs = ap is_running at; on = run.2 });
        })
    start_goes leg launch body whole (the_other p) =
        goes_empty (Low site c) site c e least moves new p.by.none (calm (lost_calm site c least e old new (ap (λ (d : HttpConn). d.lost) p.by.gives_up.is) low))

    hop_goes : least ≡ 0 → (t : Stage) → GivesHopBy t mid next moves new → Goes (Low site c) site c e least moves new
    hop_goes zero (At.Finishing text closes) by = zero_calm moves new zero (each_finishes is_write writes_write text closes mid new next moves by)
    hop_goes zero (At.Starting leg launch body whole) by = start_goes leg launch body whole by
    hop_goes zero At.Reading nothing = goes_empty (Low site c) site c e least moves new nothing.none (calm (anew zero))
    hop_goes zero (At.Rejected cause bare) nothing = goes_empty (Low site c) site c e least moves new nothing.none (calm (anew zero))
    hop_goes zero (At.Interrupted cause) nothing = goes_empty (Low site c) site c e least moves new nothing.none (calm (anew zero))
    hop_goes zero (At.Refused cause) nothing = goes_empty (Low site c) site c e least moves new nothing.none (calm (anew zero))
    hop_goes zero (At.Unstarted hop request) nothing = goes_empty (Low site c) site c e least moves new nothing.none (calm (anew zero))
    hop_goes zero (At.Running leg) nothing = goes_empty (Low site c) site c e least moves new nothing.none (calm (anew zero))
    hop_goes zero At.Answered nothing = goes_empty (Low site c) site c e least moves new nothing.none (calm (anew zero))
    hop_goes zero At.Silent nothing = goes_empty (Low site c) site c e least moves new nothing.none (calm (anew zero))

    -- nothing was made ready
    stays : mid ≡ old → Nothing mid next moves new → Goes (Low site c) site c e least moves new
    stays same nothing = goes_empty (Low site c) site c e least moves new nothing.none (subst (λ (d : HttpConn). Low site c least e d) (sym (nothing.same ∙ same)) (calm low))

    same_goes : mid ≡ old → (t : Stage) → QuietBy old e t → GivesHopBy t mid next moves new → Goes (Low site c) site c e least moves new
    same_goes same (At.Finishing text closes) quiet by = absurd quiet
    same_goes same (At.Starting leg launch body whole) quiet by = absurd quiet
    same_goes same At.Reading quiet nothing = stays same nothing
    same_goes same (At.Rejected cause bare) quiet nothing = absurd quiet
    same_goes same (At.Interrupted cause) quiet nothing = absurd quiet
    same_goes same (At.Refused cause) quiet nothing = stays same nothing
    same_goes same (At.Unstarted hop request) quiet nothing = stays same nothing
    same_goes same (At.Running leg) quiet nothing = stays same nothing
    same_goes same At.Answered quiet nothing = stays same nothing
    same_goes same At.Silent quiet nothing = stays same nothing

  -- ---- it is made ready

  module _ (found : old.lost ≡ false) (settled : run_settled old.run ≡ true) where
    -- a refusal waits for no child any more
    refused_zero : (cause : Cause) → stage site c e ≡ refused cause → least ≡ 0
    refused_zero cause is = go low
      where
        none_left : has_unsettled e.items c ≡ false
        none_left = unsettled_exact site c e (is_early old) n s.legs old.run (known_now L ev acts turn n e old s) ∙ ap not (same_settled old.run ∙ settled)

        go : Calm site c least e old → least ≡ 0
        go (anew zero) = zero
        go (dealt top away waits unstarted) = waits (ap is_refused is) none_left

    module _ (stamp : Option ℕ) (mid : HttpConn) (here : mid.lost ≡ false) (next : ℕ) (moves : List Move) (new : HttpConn) (l : Leaves Rest L ev acts e old n moves new) (by : GivesHop mid next moves new) where
      refuses : (cause : Cause) → stage site c e ≡ refused cause → Goes (Low site c) site c e least moves new
      refuses cause is = hop_goes mid here next moves new l (refused_zero cause is) mid.stage by

      starts : (leg : Leg) (launch : Launch) (body : List ℕ) (whole : Bool) → mid.stage ≡ At.Starting leg launch body whole → Goes (Low site c) site c e least moves new
      starts leg launch body whole at = start_goes mid here next moves new l leg launch body whole (subst (λ (t : Stage). GivesHopBy t mid next moves new) at by)

      module _ (hop : ℕ) (request : Request) (at : old.stage ≡ At.Unstarted hop request) where
        abbrev waits_for : IsUnstarted site c e s.legs old.continued hop request
        waits_for = (stage_at old e s.legs (At.Unstarted hop request) at (s.staged found)).0

        scripted : (kind : ScriptKind) (mapped : Mapped) → place_of site request ≡ Ok mapped → kind_of site mapped ≡ kind → ScriptBy kind hop request mapped stamp (silenced old) mid → Goes (Low site c) site c e least moves new
        scripted Cgi mapped place kind_is r = starts r.leg r.launch request.body (nat_lt 0 hop || is_taken old.request) (ap (λ (d : HttpConn). d.stage) r.is)
        scripted Nph mapped place kind_is r = starts r.leg r.launch request.body (nat_lt 0 hop || is_taken old.request) (ap (λ (d : HttpConn). d.stage) r.is)
        scripted WebSocket mapped place kind_is r =
            refuses r.0
            (refused_handshake site c e s.legs waits_for.left hop request mapped r.0 waits_for.at_hop.reached (ap (place_of site) waits_for.at_hop.reached.same_request ∙ place) kind_is
            (ap (λ (x : Request). handshake x (origins_of site mapped)) waits_for.at_hop.reached.same_request
            ∙ (handshake_same request waits_for.at_hop.reached.request_then.body (origins_of site mapped) ∙ r.1)))

        placed : (answer : Result Mapped Cause) → place_of site request ≡ answer → PlaceBy answer hop request stamp (silenced old) mid → Goes (Low site c) site c e least moves new
        placed (Ok mapped) place f = scripted f.kind mapped place f.kind_is f.by
        placed (Err cause) place r =
            refuses cause
            ((reaches_stands site c e waits_for.at_hop.reached.legs_then waits_for.left hop waits_for.at_hop.reached.request_then waits_for.at_hop.reached.reaches).no_script cause
            (ap (place_of site) waits_for.at_hop.reached.same_request ∙ place))

      unchanged : mid ≡ old → Goes (Low site c) site c e least moves new
      unchanged same =
          same_goes mid here next moves new l same old.stage (q.found found).quiet (subst (λ (t : Stage). GivesHopBy t mid next moves new) (ap (λ (d : HttpConn). d.stage) same) by)

      readied : (t : Stage) → old.stage ≡ t → ReadiesHop t stamp old mid → Goes (Low site c) site c e least moves new
      readied (At.Refused cause) at r = refuses cause (refused_way site c e s.legs old.continued cause (stage_at old e s.legs (At.Refused cause) at (s.staged found)).0)
      readied (At.Unstarted hop request) at p = placed hop request at p.answer p.place p.by
      readied At.Reading at same = unchanged same
      readied (At.Rejected cause bare) at same = unchanged same
      readied (At.Interrupted cause) at same = unchanged same
      readied (At.Starting leg launch body whole) at same = unchanged same
      readied (At.Running leg) at same = unchanged same
      readied (At.Finishing text closes) at same = unchanged same
      readied At.Answered at same = unchanged same
      readied At.Silent at same = unchanged same

  -- ---- where it has its turn

  turn_on : (done : Bool) → has_turn old done ≡ true → (old.lost ≡ false) × (run_settled old.run ≡ true)
  turn_on done is =
      let p = and_parts (not (ends_with old done) && run_settled old.run) (has_room (flags_of old)) is in
      let r = and_parts (not (ends_with old done)) (run_settled old.run) p.0 in
      ((going old done (not-true (ends_with old done) r.0)).found, r.1)

  pub begins_go : (stamp : Option ℕ) (moves : List Move) (new : HttpConn) → Begins stamp old n moves new → Leaves Rest L ev acts e old n moves new → Goes (Low site c) site c e least moves new
  begins_go stamp moves new b l = by_turn b.turn b.tells.is b.by
    where
      by_turn : (turn : Bool) → turn ≡ has_turn old b.tells.done → BeginsBy turn stamp old n moves new → Goes (Low site c) site c e least moves new
      by_turn false is nothing = goes_none (Low site c) site c e least old new n moves nothing (calm low)
      by_turn true is (the_one w) =
          let t = turn_on b.tells.done (sym is) in
          let all : moves ≡ w.later = w.are ∙ ap (λ (x : List Move). x ++ w.later) w.first.by.none in
          goes_as (Low site c) site c e least moves w.later new all
          (readied t.0 t.1 stamp w.mid w.first.by.found (next_after n (acts_of w.sooner)) w.later new (subst (λ (x : List Move). Leaves Rest L ev acts e old n x new) all l) w.second old.stage refl w.first.by.readies)
      by_turn true is (the_other p) =
          goes_empty (Low site c) site c e least moves new p.by.loses.none (calm (lost_calm site c least e old new (ap (λ (d : HttpConn). d.lost) p.by.loses.gives_up.is) low))
