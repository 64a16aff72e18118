-- A connection for which nothing is due that takes memory.
use Rattle.std.proofs.Common.{◌≡◌, ◌⊎◌, ℕ, zero, suc, Bool, true, false, ◌&&◌, ◌||◌, not, List, [], ◌++◌, Option, Some, None, refl, sym, ap, ◌∙◌, subst, inl, inr}
use Rattle.std.proofs.lemmas.Bool.{and_parts, and_right, false≢true, not-true}
use Rattle.child_core.specs.Calls.{drained, is_settled}
use Rattle.child_core.specs.Due.{acted, is_feed_due}
use Rattle.child_core.specs.View.{View}
use Rattle.trace_child.specs.Words.{is_filled}
use Rattle.trace_model.specs.Exchange.{Exchange, request_bytes}
use Rattle.trace_model.specs.Readings.{is_due}
use Rattle.exchange_request.specs.Knows.{KnowsRequest, is_looked_at, is_read, reading_of}
use Rattle.exchange_stage.specs.declared.stage.Leg.{Leg}
use Rattle.exchange_stage.specs.declared.stage.Stage.{Stage}
use Rattle.exchange_stage.specs.declared.stage.Stage.TheVariants as At
use Rattle.exchange_laws.specs.Unanswered.{is_awaited}
use Rattle.conn_flags.specs.View.{has_room}
use Rattle.conn_laws.specs.Moves.{Move, acts_of}
use Rattle.http_conn.specs.HttpConn.{HttpConn}
use Rattle.http_conn.specs.Kept.{flags_of, number_of, site_of}
use Rattle.http_conn.specs.Ready.{drained_run, outcome_of_run, undrained}
use Rattle.http_conn.specs.Reasons.{ends_with}
use Rattle.http_conn.specs.Settles.{is_answered, is_over}
use Rattle.http_conn.specs.Slot.{run_settled}
use Rattle.http_conn.specs.Tells.{TellsMore, goes_at, has_turn}
use Rattle.http_conn.specs.Parts.{Continues, Ends, EndsBy, Handles, LetsOn, LetsOnBy, Loses, LosesFeed, LosesTurn, Nothing, Or, Part, Round, Rounds, RoundsOn, ServesBy, ServesChild, ServesOrLoses, Then, the_one, the_other}
use Rattle.http_stage_laws.specs.Inward.{is_running}
use Rattle.good_step_laws.specs.Shuts.Memory.{CalmRun, NoTurn}

-- ---- words

-- once what came was looked at and the answer given nothing more is due
abbrev pub StillAt : HttpConn → Stage → Type 0
StillAt conn At.Reading = is_looked_at conn.request ≡ true
StillAt conn (At.Refused cause) = NoTurn conn
StillAt conn (At.Unstarted hop request) = NoTurn conn
StillAt conn (At.Running leg) = Unit {0}
StillAt conn At.Answered = Unit {0}
StillAt conn At.Silent = Unit {0}
StillAt conn stage = ⊥

pub record Still (conn : HttpConn) : Type 0 where
  pub found : conn.lost ≡ false
  pub run : CalmRun (is_running conn.stage) (has_room (flags_of conn)) conn.run
  pub unover : is_over conn ≡ false
  pub at : StillAt conn conn.stage

-- ---- its child

-- .. whose script runs, where its output was handed out
pub calm_drained : (running may : Bool) (run : Option View) → CalmRun running may run → CalmRun true may (drained_run run)
calm_drained running may None c = tt
calm_drained running may (Some v) c = record { unfed = c.unfed; stays = λ still. absurd (false≢true (sym still)) }

no_view : (v : View) → None ≡ Some v → ⊥
no_view v e = absurd (cc)

some_same : {a b : View} → Some a ≡ Some b → a ≡ b
some_same e = cc

pub no_feed : (running may : Bool) (run : Option View) (v : View) → CalmRun running may run → run ≡ Some v → is_feed_due v ≡ true → ⊥
no_feed running may None v c is due = no_view v is
no_feed running may (Some w) v c is due = false≢true (sym c.unfed ∙ (ap is_feed_due (some_same is) ∙ due))

-- ---- nothing more may go on

abbrev pub NoMore : HttpConn → Type 0
NoMore conn = TellsMore conn true → ⊥

none_on : (a b : Bool) → b ≡ false → (a && b) ≡ false
none_on true b e = e
none_on false b e = refl

regroup : (a b d : Bool) → (a && b && d) ≡ (a && (b && d))
regroup true b d = refl
regroup false b d = refl

pub still_no_more : (conn : HttpConn) → StillAt conn conn.stage → NoMore conn
still_no_more conn still m = false≢true (sym (go conn.stage still) ∙ sym m.is)
  where
    no_turn : NoTurn conn → has_turn conn m.done ≡ false
    no_turn none = regroup (not (ends_with conn m.done)) (run_settled conn.run) (has_room (flags_of conn)) ∙ none_on (not (ends_with conn m.done)) (run_settled conn.run && has_room (flags_of conn)) none

    go : (t : Stage) → StillAt conn t → goes_at conn m.done t ≡ false
    go At.Reading looked = none_on (not (ends_with conn m.done)) (not (is_looked_at conn.request)) (ap not looked)
    go (At.Refused cause) none = no_turn none
    go (At.Unstarted hop request) none = no_turn none
    go (At.Running leg) none = refl
    go At.Answered none = refl
    go At.Silent none = refl
    go (At.Rejected cause bare) none = refl
    go (At.Interrupted cause) none = refl
    go (At.Starting leg launch body whole) none = refl
    go (At.Finishing text closes) none = refl

pub rounds_none : (turns : ℕ) (stamp : Option ℕ) (old new : HttpConn) (n : ℕ) (moves : List Move) → NoMore old → Rounds turns stamp old n moves new → new ≡ old
rounds_none zero stamp old new n moves none r = r.same
rounds_none (suc turns) stamp old new n moves none w =
    let same : w.mid ≡ old = rounds_none turns stamp old w.mid n w.sooner none w.first in
    absurd (none (subst (λ (c : HttpConn). TellsMore c true) same w.second.more))

pub rounds_on_none : (stamp : Option ℕ) (old new : HttpConn) (n : ℕ) (moves : List Move) → NoMore old → RoundsOn stamp old n moves new → new ≡ old
rounds_on_none stamp old new n moves none r = go _ r.does.second
  where
    same : r.does.mid ≡ old
    same = rounds_none r.turns stamp old r.does.mid n r.does.sooner none r.does.first

    go : (k : ℕ) → Or Nothing (Part LosesTurn) r.does.mid k r.does.later new → new ≡ old
    go k (the_one nothing) = nothing.same ∙ same
    go k (the_other p) = absurd (none (subst (λ (c : HttpConn). TellsMore c true) same p.by.more))

pub rounds_on_empty : (stamp : Option ℕ) (old new : HttpConn) (n : ℕ) (moves : List Move) → NoMore old → RoundsOn stamp old n moves new → (moves ≡ []) × (new ≡ old)
rounds_on_empty stamp old new n moves none r = (r.does.are ∙ (ap (λ (l : List Move). l ++ r.does.later) (before r.turns r.does.sooner r.does.mid r.does.first) ∙ last _ r.does.second), rounds_on_none stamp old new n moves none r)
  where
    before : (turns : ℕ) (xs : List Move) (mid : HttpConn) → Rounds turns stamp old n xs mid → xs ≡ []
    before zero xs mid nothing = nothing.none
    before (suc turns) xs mid w = absurd (none (subst (λ (c : HttpConn). TellsMore c true) (rounds_none turns stamp old w.mid n w.sooner none w.first) w.second.more))

    last : (k : ℕ) → Or Nothing (Part LosesTurn) r.does.mid k r.does.later new → r.does.later ≡ []
    last k (the_one nothing) = nothing.none
    last k (the_other p) = p.by.loses.none

-- ---- 100 Continue

not_due : (a b d : Bool) → (b ≡ true → d ≡ true → ⊥) → true ≡ (a && b && d) → ⊥
not_due true true true never e = never refl refl
not_due true true false never e = false≢true (sym e)
not_due true false d never e = false≢true (sym e)
not_due false b d never e = false≢true (sym e)

-- it isn't written where it isn't due
pub undue : (conn : HttpConn) (bytes : List ℕ) (taken : ℕ) → KnowsRequest conn.request bytes taken → is_read conn.request ≡ true → (conn.continued ≡ false → is_due (reading_of conn.request bytes) ≡ false)
    → (n : ℕ) (moves : List Move) (new : HttpConn) → LetsOn conn n moves new → Nothing conn n moves new
undue conn bytes taken knows read none n moves new l = go l.due refl l.by
  where
    go : (due : Bool) → l.due ≡ due → LetsOnBy due conn n moves new → Nothing conn n moves new
    go false is nothing = nothing
    go true is by =
        absurd (not_due (not (ends_with conn l.tells.done)) l.tells.awaited (not conn.continued)
        (λ awaited first. false≢true (sym (none (not-true conn.continued first)) ∙ (sym (l.tells.awaits bytes taken knows read) ∙ awaited))) (sym is ∙ l.tells.is))

-- ---- the child is served, and no exchange ends

pub handles_still : (old new : HttpConn) (n : ℕ) (moves : List Move) → Still old → Handles old n moves new → (new.lost ≡ false) × NoMore new
handles_still old new n moves still w = serves w.first
  where
    ends : (mid : HttpConn) → mid.lost ≡ false → is_over mid ≡ false → NoMore mid → (k : ℕ) (ys : List Move) → Part Ends mid k ys new → (new.lost ≡ false) × NoMore new
    ends mid found unover none k ys p =
        let nothing : Nothing mid k ys new = subst (λ (b : Bool). EndsBy b mid k ys new) unover p.by in
        (ap (λ (c : HttpConn). c.lost) nothing.same ∙ found, subst (λ (c : HttpConn). NoMore c) (sym nothing.same) none)

    served : (run : Option View) → old.run ≡ run → CalmRun (is_running old.stage) (has_room (flags_of old)) run → (mid : HttpConn) (xs : List Move) → ServesBy run old n xs mid
        → (mid.lost ≡ false) × (is_over mid ≡ false) × NoMore mid
    served None is calm mid xs nothing =
        (ap (λ (c : HttpConn). c.lost) nothing.same ∙ still.found, ap is_over nothing.same ∙ still.unover, subst (λ (c : HttpConn). NoMore c) (sym nothing.same) (still_no_more old still.at))
    served (Some v) is calm mid xs p =
        let then_run : HttpConn = record old { run = Some (acted (has_room (flags_of old)) v) } in
        let same : is_running old.stage ≡ false → run_settled then_run.run ≡ run_settled old.run = λ other. calm.stays other ∙ sym (ap run_settled is) in (
          ap (λ (c : HttpConn). c.lost) p.by.is ∙ still.found,
          ap is_over p.by.is ∙ unover old.stage refl same,
          subst (λ (c : HttpConn). NoMore c) (sym p.by.is) (still_no_more then_run (at then_run.stage same still.at)),
        )
      where
        unover : (t : Stage) → old.stage ≡ t → (is_running t ≡ false → is_settled (acted (has_room (flags_of old)) v) ≡ run_settled old.run)
            → (is_answered t && is_settled (acted (has_room (flags_of old)) v)) ≡ false
        unover (At.Running leg) is_at same = refl
        unover At.Answered is_at same = same refl ∙ (sym (ap (λ (t : Stage). is_answered t && run_settled old.run) is_at) ∙ still.unover)
        unover At.Reading is_at same = refl
        unover At.Silent is_at same = refl
        unover (At.Refused cause) is_at same = refl
        unover (At.Unstarted hop request) is_at same = refl
        unover (At.Rejected cause bare) is_at same = refl
        unover (At.Interrupted cause) is_at same = refl
        unover (At.Starting leg launch body whole) is_at same = refl
        unover (At.Finishing text closes) is_at same = refl

        at : (t : Stage) → (is_running t ≡ false → is_settled (acted (has_room (flags_of old)) v) ≡ run_settled old.run) → StillAt old t → StillAt (record old { run = Some (acted (has_room (flags_of old)) v) }) t
        at At.Reading same looked = looked
        at (At.Refused cause) same none = ap (λ (b : Bool). b && has_room (flags_of old)) (same refl) ∙ none
        at (At.Unstarted hop request) same none = ap (λ (b : Bool). b && has_room (flags_of old)) (same refl) ∙ none
        at (At.Running leg) same none = tt
        at At.Answered same none = tt
        at At.Silent same none = tt
        at (At.Rejected cause bare) same none = none
        at (At.Interrupted cause) same none = none
        at (At.Starting leg launch body whole) same none = none
        at (At.Finishing text closes) same none = none

    serves : ServesOrLoses old n w.sooner w.mid → (new.lost ≡ false) × NoMore new
    serves (the_one s) = let r = served old.run refl still.run w.mid w.sooner s in ends w.mid r.0 r.1 r.2 _ w.later w.second
    serves (the_other v) = absurd (no_feed (is_running old.stage) (has_room (flags_of old)) old.run v.first.by.v still.run v.first.by.run v.first.by.due)
