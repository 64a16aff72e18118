-- .. so it is of all that is done before a step's end.
use Rattle.std.proofs.Common.{◌≡◌, ℕ, zero, suc, Bool, true, false, ◌&&◌, not, List, [], ◌∷◌, ◌++◌, Option, Some, None, Result, Ok, Err, refl, sym, ap, ◌∙◌, subst}
use Rattle.host_base.specs.declared.cause.Cause.{Cause}
use Rattle.host_base.specs.declared.request.Request.{Request}
use Rattle.host_base.specs.declared.site.Mapped.{Mapped}
use Rattle.host_base.specs.declared.site.ScriptKind.{ScriptKind}
use Rattle.host_base.specs.declared.site.ScriptKind.TheVariants.{Cgi, Nph, WebSocket}
use Rattle.host_trace.specs.declared.items.Act.{Act}
use Rattle.host_trace.specs.declared.items.Act.TheVariants.{EndInput, Feed, Kill, Release, WantChild}
use Rattle.host_trace.specs.Told.{when}
use Rattle.child_core.specs.declared.ending.Outcome.{Outcome}
use Rattle.child_core.specs.declared.ending.Outcome.TheVariants as Ended
use Rattle.child_core.specs.Due.{acting, feed_given, input_given, is_ask_due, is_feed_due, is_input_due, is_kill_due, is_release_due, kill_given, piece_of, release_given}
use Rattle.child_core.specs.View.{View}
use Rattle.reply_stream.specs.declared.stream.Last.{Last}
use Rattle.reply_stream.specs.declared.stream.Last.TheVariants as Came
use Rattle.exchange_request.specs.Knows.{is_looked_at}
use Rattle.exchange_request.specs.declared.found.Found.{Found}
use Rattle.exchange_request.specs.declared.found.Found.TheVariants as Seen
use Rattle.exchange_stage.specs.declared.stage.Leg.{Leg}
use Rattle.exchange_stage.specs.declared.stage.Stage.{Stage}
use Rattle.exchange_stage.specs.declared.stage.Stage.TheVariants as At
use Rattle.conn_flags.specs.View.{has_room}
use Rattle.conn_laws.specs.Moves.{Move}
use Rattle.http_conn.specs.HttpConn.{HttpConn}
use Rattle.http_conn.specs.Begins.{ByOutcome, PlaceBy, ReadiesAnswer, ReadiesHop, ScriptBy}
use Rattle.http_conn.specs.Kept.{is_reading}
use Rattle.http_conn.specs.Ready.{BreaksBy, EndsWith, LooksTo, outcome_of_run}
use Rattle.http_conn.specs.Parts.{Answers, AnswersBy, AnswersOn, Begins, BeginsBy, Gives, GivesHop, Handles, LetsOn, LetsOnBy, LosesFeed, LosesTurn, MakesHopReady, MakesReady, Nothing, Or, Part, ReadsBy, ReadsOn, Round, Rounds, RoundsOn, Serves, ServesBy, ServesChild, ServesOrLoses, Ends, Then, gives_all, the_one, the_other}
use Rattle.good_step_laws.proofs.Shuts.PartWords.{AreInner, IsInner, inner_ends, inner_gives, inner_gives_hop, inner_loses, inner_none, inner_nothing, inner_then, is_inner}

-- ---- what is looked at and made ready

idled_looks : (found : Found) (old new : HttpConn) → LooksTo found old new → new.idled ≡ old.idled
idled_looks Seen.More old new is = ap (λ (c : HttpConn). c.idled) is
idled_looks (Seen.Ready request) old new is = ap (λ (c : HttpConn). c.idled) is
idled_looks (Seen.Refused cause bare) old new is = ap (λ (c : HttpConn). c.idled) is

idled_with : (leg : Leg) (now : Bool) (stamp : Option ℕ) (old new : HttpConn) (last : Last) → EndsWith leg now stamp old new last → new.idled ≡ old.idled
idled_with leg now stamp old new (Came.Written text) w = ap (λ (c : HttpConn). c.idled) w.2
idled_with leg now stamp old new (Came.Hop location) w = ap (λ (c : HttpConn). c.idled) w
idled_with leg now stamp old new (Came.Bad cause) w = ap (λ (c : HttpConn). c.idled) w.is

idled_breaks : (leg : Leg) (cause : Cause) (closes : Bool) (stamp : Option ℕ) (old new : HttpConn) (begun : Bool) → BreaksBy leg cause closes stamp old new begun → new.idled ≡ old.idled
idled_breaks leg cause closes stamp old new true is = ap (λ (c : HttpConn). c.idled) is
idled_breaks leg cause closes stamp old new false b = ap (λ (c : HttpConn). c.idled) b.1

idled_outcome : (o : Option Outcome) (leg : Leg) (stamp : Option ℕ) (old new : HttpConn) → ByOutcome o leg stamp old new → new.idled ≡ old.idled
idled_outcome None leg stamp old new t = ap (λ (c : HttpConn). c.idled) t.is
idled_outcome (Some Ended.Output) leg stamp old new c = idled_with leg c.closes_now stamp old new c.last c.with
idled_outcome (Some (Ended.Failed cause)) leg stamp old new b = idled_breaks leg cause b.closes stamp old new b.begun b.by
idled_outcome (Some Ended.Gone) leg stamp old new same = ap (λ (c : HttpConn). c.idled) same
idled_outcome (Some Ended.Stopped) leg stamp old new same = ap (λ (c : HttpConn). c.idled) same
idled_outcome (Some Ended.Dropped) leg stamp old new same = ap (λ (c : HttpConn). c.idled) same

idled_answer : (t : Stage) (stamp : Option ℕ) (old new : HttpConn) → ReadiesAnswer t stamp old new → new.idled ≡ old.idled
idled_answer (At.Rejected cause bare) stamp old new f = ap (λ (c : HttpConn). c.idled) f.is
idled_answer (At.Interrupted cause) stamp old new f = ap (λ (c : HttpConn). c.idled) f.is
idled_answer (At.Running leg) stamp old new by = idled_outcome (outcome_of_run old.run) leg stamp _ new by
idled_answer At.Reading stamp old new same = ap (λ (c : HttpConn). c.idled) same
idled_answer (At.Refused cause) stamp old new same = ap (λ (c : HttpConn). c.idled) same
idled_answer (At.Unstarted hop request) stamp old new same = ap (λ (c : HttpConn). c.idled) same
idled_answer (At.Starting leg launch body whole) stamp old new same = ap (λ (c : HttpConn). c.idled) same
idled_answer (At.Finishing text closes) stamp old new same = ap (λ (c : HttpConn). c.idled) same
idled_answer At.Answered stamp old new same = ap (λ (c : HttpConn). c.idled) same
idled_answer At.Silent stamp old new same = ap (λ (c : HttpConn). c.idled) same

idled_script : (kind : ScriptKind) (hop : ℕ) (request : Request) (mapped : Mapped) (stamp : Option ℕ) (old new : HttpConn) → ScriptBy kind hop request mapped stamp old new → new.idled ≡ old.idled
idled_script Cgi hop request mapped stamp old new s = ap (λ (c : HttpConn). c.idled) s.is
idled_script Nph hop request mapped stamp old new s = ap (λ (c : HttpConn). c.idled) s.is
idled_script WebSocket hop request mapped stamp old new r = ap (λ (c : HttpConn). c.idled) r.2.fault.is

idled_place : (place : Result Mapped Cause) (hop : ℕ) (request : Request) (stamp : Option ℕ) (old new : HttpConn) → PlaceBy place hop request stamp old new → new.idled ≡ old.idled
idled_place (Ok mapped) hop request stamp old new f = idled_script f.kind hop request mapped stamp old new f.by
idled_place (Err cause) hop request stamp old new r = ap (λ (c : HttpConn). c.idled) r.fault.is

idled_hop : (t : Stage) (stamp : Option ℕ) (old new : HttpConn) → ReadiesHop t stamp old new → new.idled ≡ old.idled
idled_hop (At.Refused cause) stamp old new r = ap (λ (c : HttpConn). c.idled) r.fault.is
idled_hop (At.Unstarted hop request) stamp old new p = idled_place p.answer hop request stamp _ new p.by
idled_hop At.Reading stamp old new same = ap (λ (c : HttpConn). c.idled) same
idled_hop (At.Rejected cause bare) stamp old new same = ap (λ (c : HttpConn). c.idled) same
idled_hop (At.Interrupted cause) stamp old new same = ap (λ (c : HttpConn). c.idled) same
idled_hop (At.Starting leg launch body whole) stamp old new same = ap (λ (c : HttpConn). c.idled) same
idled_hop (At.Running leg) stamp old new same = ap (λ (c : HttpConn). c.idled) same
idled_hop (At.Finishing text closes) stamp old new same = ap (λ (c : HttpConn). c.idled) same
idled_hop At.Answered stamp old new same = ap (λ (c : HttpConn). c.idled) same
idled_hop At.Silent stamp old new same = ap (λ (c : HttpConn). c.idled) same

-- ---- the answer

inner_reads : (old new : HttpConn) (n : ℕ) (moves : List Move) → Part ReadsOn old n moves new → IsInner old moves new
inner_reads old new n moves p = go p.by.ending (is_reading old.stage && not (is_looked_at old.request)) p.by.by
  where
    go : (a b : Bool) → ReadsBy a b old n moves new → IsInner old moves new
    go true b none = inner_nothing old new n moves none
    go false false none = inner_nothing old new n moves none
    go false true (the_one l) = inner_none old new moves l.none (idled_looks l.looked.found old new l.looked.to)
    go false true (the_other l) = inner_loses old new n moves l.loses

inner_lets : (old new : HttpConn) (n : ℕ) (moves : List Move) → Part LetsOn old n moves new → IsInner old moves new
inner_lets old new n moves p = go p.by.due p.by.by
  where
    go : (b : Bool) → LetsOnBy b old n moves new → IsInner old moves new
    go true (the_one t) = record { are = subst (λ (l : List Move). AreInner old.idled l) (sym t.moves_are) tt; idled = ap (λ (c : HttpConn). c.idled) t.is }
    go true (the_other l) = inner_loses old new n moves l
    go false none = inner_nothing old new n moves none

pub inner_answers : (stamp : Option ℕ) (old new : HttpConn) (n : ℕ) (moves : List Move) → Answers stamp old n moves new → IsInner old moves new
inner_answers stamp old new n moves w =
    inner_then (Part ReadsOn) (Then (Part LetsOn) (AnswersOn stamp)) old new n moves w (λ mid xs p. inner_reads old mid n xs p)
    (λ mid k ys v. inner_then (Part LetsOn) (AnswersOn stamp) mid new k ys v (λ next xs p. inner_lets mid next k xs p) (λ next j zs a. go next j zs a.ending a.by))
  where
    go : (next : HttpConn) (j : ℕ) (zs : List Move) (b : Bool) → AnswersBy b stamp next j zs new → IsInner next zs new
    go next j zs true none = inner_nothing next new j zs none
    go next j zs false (the_one v) =
        inner_then (Part (MakesReady stamp)) Gives next new j zs v
        (λ mid xs p. inner_none next mid xs p.by.none (idled_answer next.stage stamp next mid p.by.readies)) (λ mid k ys g. inner_gives mid new k ys g)
    go next j zs false (the_other p) = inner_loses next new j zs p.by.loses

-- ---- the child

abbrev AllInner : List Act → Type 0
AllInner [] = Unit {0}
AllInner (act ∷ acts) = (is_inner act ≡ true) × AllInner acts

all_append : (xs ys : List Act) → AllInner xs → AllInner ys → AllInner (xs ++ ys)
all_append [] ys a b = b
all_append (x ∷ xs) ys a b = (a.0, all_append xs ys a.1 b)

all_when : (test : Bool) (act : Act) → is_inner act ≡ true → AllInner (when test act)
all_when true act is = (is, tt)
all_when false act is = tt

all_acting : (may : Bool) (v : View) → AllInner (acting may v)
unfolding acting
all_acting may v =
    let v1 = feed_given v in
    let v2 = input_given v1 in
    let v3 = kill_given v2 in
    let v4 = release_given v3 in
    let w1 = when (is_feed_due v) (Feed v.number (piece_of v)) in
    let w2 = when (is_input_due v1) (EndInput v.number) in
    let w3 = when (is_kill_due v2) (Kill v.number) in
    let w4 = when (is_release_due v3) (Release v.number) in
    let w5 = when (is_ask_due may v4) (WantChild v.number) in
    let e1 : AllInner w1 = all_when (is_feed_due v) (Feed v.number (piece_of v)) refl in
    let e2 : AllInner w2 = all_when (is_input_due v1) (EndInput v.number) refl in
    let e3 : AllInner w3 = all_when (is_kill_due v2) (Kill v.number) refl in
    let e4 : AllInner w4 = all_when (is_release_due v3) (Release v.number) refl in
    let e5 : AllInner w5 = all_when (is_ask_due may v4) (WantChild v.number) refl in
    all_append (((w1 ++ w2) ++ w3) ++ w4) w5 (all_append ((w1 ++ w2) ++ w3) w4 (all_append (w1 ++ w2) w3 (all_append w1 w2 e1 e2) e3) e4) e5

inner_all : (idled : Bool) (acts : List Act) → AllInner acts → AreInner idled (gives_all acts)
inner_all idled [] a = tt
inner_all idled (act ∷ acts) a = (a.0, inner_all idled acts a.1)

inner_serves : (old new : HttpConn) (n : ℕ) (moves : List Move) → ServesChild old n moves new → IsInner old moves new
inner_serves old new n moves by = go old.run by
  where
    go : (run : Option View) → ServesBy run old n moves new → IsInner old moves new
    go None none = inner_nothing old new n moves none
    go (Some v) p = record {
      are = subst (λ (l : List Move). AreInner old.idled l) (sym p.by.moves_are) (inner_all old.idled (acting (has_room old.flags) v) (all_acting (has_room old.flags) v));
      idled = ap (λ (c : HttpConn). c.idled) p.by.is;
    }

pub inner_handles : (old new : HttpConn) (n : ℕ) (moves : List Move) → Handles old n moves new → IsInner old moves new
inner_handles old new n moves w =
    inner_then ServesOrLoses (Part Ends) old new n moves w (λ mid xs s. go mid xs s) (λ mid k ys p. inner_ends mid new k ys p)
  where
    go : (mid : HttpConn) (xs : List Move) → ServesOrLoses old n xs mid → IsInner old xs mid
    go mid xs (the_one s) = inner_serves old mid n xs s
    go mid xs (the_other v) =
        inner_then (Part LosesFeed) ServesChild old mid n xs v (λ next ys p. inner_none old next ys p.by.none (ap (λ (c : HttpConn). c.idled) p.by.is)) (λ next k zs s. inner_serves next mid k zs s)

-- ---- rounds

inner_begins : (stamp : Option ℕ) (old new : HttpConn) (n : ℕ) (moves : List Move) → Begins stamp old n moves new → IsInner old moves new
inner_begins stamp old new n moves b = go b.turn b.by
  where
    go : (turn : Bool) → BeginsBy turn stamp old n moves new → IsInner old moves new
    go true (the_one w) =
        inner_then (Part (MakesHopReady stamp)) GivesHop old new n moves w
        (λ mid xs p. inner_none old mid xs p.by.none (idled_hop old.stage stamp old mid p.by.readies)) (λ mid k ys g. inner_gives_hop mid new k ys g)
    go true (the_other p) = inner_loses old new n moves p.by.loses
    go false none = inner_nothing old new n moves none

pub inner_rounds : (turns : ℕ) (stamp : Option ℕ) (old new : HttpConn) (n : ℕ) (moves : List Move) → Rounds turns stamp old n moves new → IsInner old moves new
inner_rounds zero stamp old new n moves none = inner_nothing old new n moves none
inner_rounds (suc turns) stamp old new n moves w =
    inner_then (Rounds turns stamp) (Round stamp) old new n moves w (λ mid xs v. inner_rounds turns stamp old mid n xs v)
    (λ mid k ys r. inner_then (Answers stamp) (Begins stamp) mid new k ys r.does (λ next xs a. inner_answers stamp mid next k xs a) (λ next j zs b. inner_begins stamp next new j zs b))

pub inner_rounds_on : (stamp : Option ℕ) (old new : HttpConn) (n : ℕ) (moves : List Move) → RoundsOn stamp old n moves new → IsInner old moves new
inner_rounds_on stamp old new n moves r =
    inner_then (Rounds r.turns stamp) (Or Nothing (Part LosesTurn)) old new n moves r.does (λ mid xs v. inner_rounds r.turns stamp old mid n xs v) (λ mid k ys o. go mid k ys o)
  where
    go : (mid : HttpConn) (k : ℕ) (ys : List Move) → Or Nothing (Part LosesTurn) mid k ys new → IsInner mid ys new
    go mid k ys (the_one none) = inner_nothing mid new k ys none
    go mid k ys (the_other p) = inner_loses mid new k ys p.by.loses

-- All that is done before a step's end.
pub inner_before : (stamp : Option ℕ) (old new : HttpConn) (n : ℕ) (moves : List Move) → Serves stamp old n moves new → IsInner old moves new
inner_before stamp old new n moves w =
    inner_then (Answers stamp) (Then Handles (RoundsOn stamp)) old new n moves w (λ mid xs a. inner_answers stamp old mid n xs a)
    (λ mid k ys v. inner_then Handles (RoundsOn stamp) mid new k ys v (λ next xs h. inner_handles mid next k xs h) (λ next j zs r. inner_rounds_on stamp next new j zs r))
