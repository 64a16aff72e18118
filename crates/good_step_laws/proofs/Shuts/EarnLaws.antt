-- .. so it is in an answer at a stage that is slow, and round after round.
use Rattle.std.proofs.Common.{◌≡◌, ◌⊎◌, ℕ, zero, suc, Bool, true, false, ◌&&◌, ◌||◌, not, List, [], ◌∷◌, ◌++◌, Option, Some, None, Result, Ok, Err, refl, sym, ap, ◌∙◌, subst, inl, inr}
use Rattle.std.proofs.lemmas.Bool.{and_parts, false≢true}
use Rattle.host_base.specs.declared.cause.Cause.{Cause}
use Rattle.host_base.specs.declared.launch.Launch.{Launch}
use Rattle.host_base.specs.declared.request.Request.{Request}
use Rattle.host_base.specs.declared.site.Mapped.{Mapped}
use Rattle.host_base.specs.declared.site.ScriptKind.{ScriptKind}
use Rattle.host_base.specs.declared.site.ScriptKind.TheVariants.{Cgi, Nph, WebSocket}
use Rattle.own_traces.specs.Whose.{next_after}
use Rattle.child_core.specs.Due.{acting}
use Rattle.child_core.specs.View.{View}
use Rattle.trace_child.specs.Words.{is_filled}
use Rattle.exchange_request.specs.Knows.{is_looked_at}
use Rattle.exchange_request.specs.declared.found.Found.{Found}
use Rattle.exchange_request.specs.declared.found.Found.TheVariants as Seen
use Rattle.exchange_stage.specs.declared.stage.Leg.{Leg}
use Rattle.exchange_stage.specs.declared.stage.Stage.{Stage}
use Rattle.exchange_stage.specs.declared.stage.Stage.TheVariants as At
use Rattle.conn_flags.specs.View.{has_room}
use Rattle.conn_laws.specs.Moves.{Move, acts_of}
use Rattle.http_conn.specs.HttpConn.{HttpConn}
use Rattle.http_conn.specs.Begins.{PlaceBy, ReadiesAnswer, ReadiesHop, ScriptBy}
use Rattle.http_conn.specs.Kept.{is_reading, number_of}
use Rattle.http_conn.specs.Ready.{Faults, LooksTo}
use Rattle.http_conn.specs.Reasons.{ends_with}
use Rattle.http_conn.specs.Settles.{is_answered, is_over}
use Rattle.http_conn.specs.Slot.{run_settled}
use Rattle.http_conn.specs.Tells.{TellsMore, TellsTurn, goes_at}
use Rattle.http_conn.specs.Parts.{Answers, AnswersBy, AnswersOn, Begins, BeginsBy, EndsBy, FinishesBy, Gives, GivesBy, GivesHop, GivesHopBy, Handles, LetsOn, LetsOnBy, LosesTurn, MakesReady, Nothing, Or, Part, ReadsBy, ReadsOn, Round, Rounds, RoundsOn, ServesBy, ServesOrLoses, Then, the_one, the_other}
use Rattle.http_conn.proofs.StateLaws.{ends_lost, turn_found}
use Rattle.good_step_laws.proofs.Shuts.EarnWords.{Earned, Earns, earned_append, earned_none, earns_finish, earns_lost, earns_same, earns_then, fault_filled, has_settle, is_slow, none_settle, part_number, settle_append}

-- ---- where memory ran out nothing more is given

lets_lost : (conn new : HttpConn) (n : ℕ) (moves : List Move) → conn.lost ≡ true → LetsOn conn n moves new → Nothing conn n moves new
lets_lost conn new n moves lost l = go l.due refl l.by
  where
    none : (a b d : Bool) → a ≡ true → (not a && b && d) ≡ false
    none true b d e = refl
    none false b d e = absurd (false≢true e)

    go : (due : Bool) → l.due ≡ due → LetsOnBy due conn n moves new → Nothing conn n moves new
    go false is nothing = nothing
    go true is by = absurd (false≢true (sym (none (ends_with conn l.tells.done) l.tells.awaited (not conn.continued) (ends_lost conn l.tells.done lost)) ∙ (sym l.tells.is ∙ is)))

answers_lost : (stamp : Option ℕ) (conn new : HttpConn) (n : ℕ) (moves : List Move) → conn.lost ≡ true → AnswersOn stamp conn n moves new → Nothing conn n moves new
answers_lost stamp conn new n moves lost a = subst (λ (b : Bool). AnswersBy b stamp conn n moves new) (a.tells.is ∙ ends_lost conn a.tells.done lost) a.by

then_lost : (stamp : Option ℕ) (conn new : HttpConn) (n : ℕ) (moves : List Move) → conn.lost ≡ true → Then (Part LetsOn) (AnswersOn stamp) conn n moves new → Nothing conn n moves new
then_lost stamp conn new n moves lost w =
    let one : Nothing conn n w.sooner w.mid = lets_lost conn w.mid n w.sooner lost w.first.by in
    let k : ℕ = next_after n (acts_of w.sooner) in
    let other : Nothing conn k w.later new = answers_lost stamp conn new k w.later lost (subst (λ (x : HttpConn). AnswersOn stamp x k w.later new) one.same w.second) in
    record { none = w.are ∙ (ap (λ (l : List Move). l ++ w.later) one.none ∙ other.none); same = other.same }

lost_earns : (c : ℕ) (old new : HttpConn) (moves : List Move) → number_of old ≡ c → old.lost ≡ true → {n : ℕ} → Nothing old n moves new → Earns c old moves new
lost_earns c old new moves number lost nothing = record {
  number = ap (λ (x : HttpConn). number_of x) nothing.same ∙ number;
  earned = earned_none c moves (ap has_settle nothing.none);
  slow = λ found. absurd (false≢true (sym found ∙ (ap (λ (x : HttpConn). x.lost) nothing.same ∙ lost)));
  whole = λ whole. inl (sym (ap (λ (x : HttpConn). is_answered x.stage) nothing.same) ∙ whole);
}

module _ (c : ℕ) where
  looks_earn : (found : Found) (old new : HttpConn) (moves : List Move) → number_of old ≡ c → is_slow old.stage ≡ true → moves ≡ [] → LooksTo found old new → Earns c old moves new
  looks_earn Seen.More old new moves number slow none is = record {
    number = ap (λ (x : HttpConn). number_of x) is ∙ number;
    earned = earned_none c moves (ap has_settle none);
    slow = λ found. ap (λ (x : HttpConn). is_slow x.stage) is ∙ slow;
    whole = λ whole. inl (sym (ap (λ (x : HttpConn). is_answered x.stage) is) ∙ whole);
  }
  looks_earn (Seen.Ready request) old new moves number slow none is = record {
    number = ap (λ (x : HttpConn). number_of x) is ∙ number;
    earned = earned_none c moves (ap has_settle none);
    slow = λ found. ap (λ (x : HttpConn). is_slow x.stage) is;
    whole = λ whole. absurd (false≢true (sym (ap (λ (x : HttpConn). is_answered x.stage) is) ∙ whole));
  }
  looks_earn (Seen.Refused cause bare) old new moves number slow none is = record {
    number = ap (λ (x : HttpConn). number_of x) is ∙ number;
    earned = earned_none c moves (ap has_settle none);
    slow = λ found. ap (λ (x : HttpConn). is_slow x.stage) is;
    whole = λ whole. absurd (false≢true (sym (ap (λ (x : HttpConn). is_answered x.stage) is) ∙ whole));
  }

  reads_earn : (old new : HttpConn) (n : ℕ) (moves : List Move) → number_of old ≡ c → is_slow old.stage ≡ true → ReadsOn old n moves new → Earns c old moves new
  reads_earn old new n moves number slow r = go r.ending (is_reading old.stage && not (is_looked_at old.request)) r.by
    where
      go : (a b : Bool) → ReadsBy a b old n moves new → Earns c old moves new
      go true b nothing = earns_same c old new moves number slow nothing.none nothing.same
      go false false nothing = earns_same c old new moves number slow nothing.none nothing.same
      go false true (the_one l) = looks_earn l.looked.found old new moves number slow l.none l.looked.to
      go false true (the_other l) = earns_lost c old new n moves number l.loses

  lets_earn : (old new : HttpConn) (n : ℕ) (moves : List Move) → number_of old ≡ c → is_slow old.stage ≡ true → LetsOn old n moves new → Earns c old moves new
  lets_earn old new n moves number slow l = go l.due l.by
    where
      go : (b : Bool) → LetsOnBy b old n moves new → Earns c old moves new
      go false nothing = earns_same c old new moves number slow nothing.none nothing.same
      go true (the_other lost) = earns_lost c old new n moves number lost
      go true (the_one t) = record {
        number = ap (λ (x : HttpConn). number_of x) t.is ∙ number;
        earned = earned_none c moves (ap has_settle t.moves_are);
        slow = λ found. ap (λ (x : HttpConn). is_slow x.stage) t.is ∙ slow;
        whole = λ whole. inl (sym (ap (λ (x : HttpConn). is_answered x.stage) t.is) ∙ whole);
      }

  -- the host's own reply is given
  fault_earns : (cause : Cause) (bare closes : Bool) (stamp : Option ℕ) (old mid new : HttpConn) (n k : ℕ) (xs ys moves : List Move) → number_of old ≡ c → is_answered old.stage ≡ false → moves ≡ xs ++ ys
      → xs ≡ [] → mid.lost ≡ false → Faults cause bare closes stamp (record old { stage = At.Silent }) mid → ((text : List ℕ) → mid.stage ≡ At.Finishing text closes → FinishesBy text closes mid k ys new)
      → Earns c old moves new
  fault_earns cause bare closes stamp old mid new n k xs ys moves number unanswered are none found f by =
      let number_mid : number_of mid ≡ c = ap (λ (x : HttpConn). number_of x) f.is ∙ number in
      let e : Earns c mid ys new = earns_finish c f.text closes mid new k ys number_mid (fault_filled cause bare closes stamp f.text f.spells) (by f.text (ap (λ (x : HttpConn). x.stage) f.is)) in
      let all : moves ≡ ys = are ∙ ap (λ (l : List Move). l ++ ys) none in
      subst (λ (l : List Move). Earns c old l new) (sym all) (record {
        number = e.number;
        earned = e.earned;
        slow = e.slow;
        whole = λ whole. from (e.whole whole);
      })
    where
      from : {P : Type 0} → (is_answered mid.stage ≡ true) ⊎ P → (is_answered old.stage ≡ true) ⊎ P
      from (inl was) = absurd (false≢true (sym (ap (λ (x : HttpConn). is_answered x.stage) f.is) ∙ was))
      from (inr some) = inr some

  module _ (stamp : Option ℕ) where
    same_earns : (old new : HttpConn) (n : ℕ) (moves : List Move) (w : Then (Part (MakesReady stamp)) Gives old n moves new) (t : Stage) → number_of old ≡ c → is_slow old.stage ≡ true → old.stage ≡ t
        → w.mid ≡ old → ((k : ℕ) (ys : List Move) → GivesBy t old k ys new → Nothing old k ys new) → Earns c old moves new
    same_earns old new n moves w t number slow at same gives =
        let k : ℕ = next_after n (acts_of w.sooner) in
        let given : Gives old k w.later new = subst (λ (x : HttpConn). Gives x k w.later new) same w.second in
        let nothing : Nothing old k w.later new = gives k w.later (subst (λ (x : Stage). GivesBy x old k w.later new) at given) in
        earns_same c old new moves number slow (w.are ∙ (ap (λ (l : List Move). l ++ w.later) w.first.by.none ∙ nothing.none)) nothing.same

    ready_earns : (old new : HttpConn) (n : ℕ) (moves : List Move) (w : Then (Part (MakesReady stamp)) Gives old n moves new) (t : Stage) → number_of old ≡ c → old.stage ≡ t → is_slow t ≡ true
        → ReadiesAnswer t stamp old w.mid → Earns c old moves new
    ready_earns old new n moves w (At.Rejected cause bare) number at slow f =
        fault_earns cause bare true stamp old w.mid new n (next_after n (acts_of w.sooner)) w.sooner w.later moves number (ap is_answered at) w.are w.first.by.none w.first.by.found f
        (λ text is. subst (λ (x : Stage). GivesBy x w.mid (next_after n (acts_of w.sooner)) w.later new) is w.second)
    ready_earns old new n moves w (At.Interrupted cause) number at slow f =
        fault_earns cause _ true stamp old w.mid new n (next_after n (acts_of w.sooner)) w.sooner w.later moves number (ap is_answered at) w.are w.first.by.none w.first.by.found f
        (λ text is. subst (λ (x : Stage). GivesBy x w.mid (next_after n (acts_of w.sooner)) w.later new) is w.second)
    ready_earns old new n moves w At.Reading number at slow same = same_earns old new n moves w At.Reading number (ap is_slow at) at same (λ k ys g. g)
    ready_earns old new n moves w (At.Refused cause) number at slow same = same_earns old new n moves w (At.Refused cause) number (ap is_slow at) at same (λ k ys g. g)
    ready_earns old new n moves w (At.Unstarted hop request) number at slow same = same_earns old new n moves w (At.Unstarted hop request) number (ap is_slow at) at same (λ k ys g. g)
    ready_earns old new n moves w At.Answered number at slow same = same_earns old new n moves w At.Answered number (ap is_slow at) at same (λ k ys g. g)
    ready_earns old new n moves w At.Silent number at slow same = same_earns old new n moves w At.Silent number (ap is_slow at) at same (λ k ys g. g)
    ready_earns old new n moves w (At.Starting leg launch body whole) number at slow r = absurd (false≢true slow)
    ready_earns old new n moves w (At.Running leg) number at slow r = absurd (false≢true slow)
    ready_earns old new n moves w (At.Finishing text closes) number at slow r = absurd (false≢true slow)

    answers_on_earn : (old new : HttpConn) (n : ℕ) (moves : List Move) → number_of old ≡ c → is_slow old.stage ≡ true → AnswersOn stamp old n moves new → Earns c old moves new
    answers_on_earn old new n moves number slow a = go a.ending a.by
      where
        go : (b : Bool) → AnswersBy b stamp old n moves new → Earns c old moves new
        go true nothing = earns_same c old new moves number slow nothing.none nothing.same
        go false (the_one w) = ready_earns old new n moves w old.stage number refl slow w.first.by.readies
        go false (the_other p) = earns_lost c old new n moves number p.by.loses

    -- an answer at a stage that is slow
    pub answers_earn : (old new : HttpConn) (n : ℕ) (moves : List Move) → number_of old ≡ c → is_slow old.stage ≡ true → Answers stamp old n moves new → Earns c old moves new
    answers_earn old new n moves number slow w =
        let a : Earns c old w.sooner w.mid = reads_earn old w.mid n w.sooner number slow w.first.by in
        earns_then c old w.mid new w.sooner w.later moves w.are a (later w.mid.lost refl a)
      where
        k : ℕ
        k = next_after n (acts_of w.sooner)

        later : (b : Bool) → w.mid.lost ≡ b → Earns c old w.sooner w.mid → Earns c w.mid w.later new
        later true lost a = lost_earns c w.mid new w.later a.number lost (then_lost stamp w.mid new k w.later lost w.second)
        later false found a = go w.second.mid.lost refl
          where
            b : Earns c w.mid w.second.sooner w.second.mid
            b = lets_earn w.mid w.second.mid k w.second.sooner a.number (a.slow found) w.second.first.by

            go : (b : Bool) → w.second.mid.lost ≡ b → Earns c w.mid w.later new
            go true lost = earns_then c w.mid w.second.mid new w.second.sooner w.second.later w.later w.second.are b (lost_earns c w.second.mid new w.second.later b.number lost (answers_lost stamp w.second.mid new _ w.second.later lost w.second.second))
            go false still = earns_then c w.mid w.second.mid new w.second.sooner w.second.later w.later w.second.are b (answers_on_earn w.second.mid new _ w.second.later b.number (b.slow still) w.second.second)

    -- ---- a hop

    starts_earn : (leg : Leg) (launch : Launch) (body : List ℕ) (whole : Bool) (mid new : HttpConn) (k : ℕ) (ys : List Move) → number_of mid ≡ c → GivesHopBy (At.Starting leg launch body whole) mid k ys new
        → (number_of new ≡ c) × Earned c ys
    starts_earn leg launch body whole mid new k ys number (the_one p) = (part_number _ mid k ys new p ∙ number, earned_none c ys (ap has_settle p.by.moves_are))
    starts_earn leg launch body whole mid new k ys number (the_other p) = (part_number _ mid k ys new p ∙ number, earned_none c ys (ap has_settle p.by.none))

    fault_hop : (cause : Cause) (bare closes : Bool) (old mid new : HttpConn) (k : ℕ) (ys : List Move) → number_of old ≡ c → Faults cause bare closes stamp (record old { stage = At.Silent }) mid → GivesHop mid k ys new
        → (number_of new ≡ c) × Earned c ys
    fault_hop cause bare closes old mid new k ys number f g =
        let e : Earns c mid ys new = earns_finish c f.text closes mid new k ys (ap (λ (x : HttpConn). number_of x) f.is ∙ number) (fault_filled cause bare closes stamp f.text f.spells)
        (subst (λ (x : Stage). GivesHopBy x mid k ys new) (ap (λ (x : HttpConn). x.stage) f.is) g) in
        (e.number, e.earned)

    script_hop : (kind : ScriptKind) (hop : ℕ) (request : Request) (mapped : Mapped) (old mid new : HttpConn) (k : ℕ) (ys : List Move) → number_of old ≡ c
        → ScriptBy kind hop request mapped stamp (record old { stage = At.Silent }) mid → GivesHop mid k ys new → (number_of new ≡ c) × Earned c ys
    script_hop Cgi hop request mapped old mid new k ys number s g =
        starts_earn s.leg s.launch request.body _ mid new k ys (ap (λ (x : HttpConn). number_of x) s.is ∙ number) (subst (λ (x : Stage). GivesHopBy x mid k ys new) (ap (λ (x : HttpConn). x.stage) s.is) g)
    script_hop Nph hop request mapped old mid new k ys number s g =
        starts_earn s.leg s.launch request.body _ mid new k ys (ap (λ (x : HttpConn). number_of x) s.is ∙ number) (subst (λ (x : Stage). GivesHopBy x mid k ys new) (ap (λ (x : HttpConn). x.stage) s.is) g)
    script_hop WebSocket hop request mapped old mid new k ys number r g = fault_hop r.0 r.2.bare r.2.closes old mid new k ys number r.2.fault g

    place_hop : (place : Result Mapped Cause) (hop : ℕ) (request : Request) (old mid new : HttpConn) (k : ℕ) (ys : List Move) → number_of old ≡ c
        → PlaceBy place hop request stamp (record old { stage = At.Silent }) mid → GivesHop mid k ys new → (number_of new ≡ c) × Earned c ys
    place_hop (Ok mapped) hop request old mid new k ys number f g = script_hop f.kind hop request mapped old mid new k ys number f.by g
    place_hop (Err cause) hop request old mid new k ys number r g = fault_hop cause r.bare r.closes old mid new k ys number r.fault g

    same_hop : (t : Stage) (old mid new : HttpConn) (k : ℕ) (ys : List Move) → number_of old ≡ c → old.stage ≡ t → mid ≡ old → ((j : ℕ) (zs : List Move) → GivesHopBy t old j zs new → Nothing old j zs new)
        → GivesHop mid k ys new → (number_of new ≡ c) × Earned c ys
    same_hop t old mid new k ys number at same gives g =
        let given : GivesHop old k ys new = subst (λ (x : HttpConn). GivesHop x k ys new) same g in
        let nothing : Nothing old k ys new = gives k ys (subst (λ (x : Stage). GivesHopBy x old k ys new) at given) in
        (ap (λ (x : HttpConn). number_of x) nothing.same ∙ number, earned_none c ys (ap has_settle nothing.none))

    hop_earns : (t : Stage) (old mid new : HttpConn) (k : ℕ) (ys : List Move) → number_of old ≡ c → old.stage ≡ t → is_slow t ≡ true → ReadiesHop t stamp old mid → GivesHop mid k ys new
        → (number_of new ≡ c) × Earned c ys
    hop_earns (At.Refused cause) old mid new k ys number at slow r g = fault_hop cause r.bare r.closes old mid new k ys number r.fault g
    hop_earns (At.Unstarted hop request) old mid new k ys number at slow p g = place_hop p.answer hop request old mid new k ys number p.by g
    hop_earns At.Reading old mid new k ys number at slow same g = same_hop At.Reading old mid new k ys number at same (λ j zs x. x) g
    hop_earns (At.Rejected cause bare) old mid new k ys number at slow same g = same_hop (At.Rejected cause bare) old mid new k ys number at same (λ j zs x. x) g
    hop_earns (At.Interrupted cause) old mid new k ys number at slow same g = same_hop (At.Interrupted cause) old mid new k ys number at same (λ j zs x. x) g
    hop_earns At.Answered old mid new k ys number at slow same g = same_hop At.Answered old mid new k ys number at same (λ j zs x. x) g
    hop_earns At.Silent old mid new k ys number at slow same g = same_hop At.Silent old mid new k ys number at same (λ j zs x. x) g
    hop_earns (At.Starting leg launch body whole) old mid new k ys number at slow r g = absurd (false≢true slow)
    hop_earns (At.Running leg) old mid new k ys number at slow r g = absurd (false≢true slow)
    hop_earns (At.Finishing text closes) old mid new k ys number at slow r g = absurd (false≢true slow)

    begins_earn : (old new : HttpConn) (n : ℕ) (moves : List Move) → number_of old ≡ c → (old.lost ≡ false → is_slow old.stage ≡ true) → Begins stamp old n moves new → (number_of new ≡ c) × Earned c moves
    begins_earn old new n moves number slow b = go b.turn refl b.by
      where
        go : (turn : Bool) → b.turn ≡ turn → BeginsBy turn stamp old n moves new → (number_of new ≡ c) × Earned c moves
        go false is nothing = (ap (λ (x : HttpConn). number_of x) nothing.same ∙ number, earned_none c moves (ap has_settle nothing.none))
        go true is (the_other p) = (part_number _ old n moves new p ∙ number, earned_none c moves (ap has_settle p.by.loses.none))
        go true is (the_one w) =
            let found : old.lost ≡ false = turn_found (subst (λ (x : Bool). TellsTurn old x) is b.tells) in
            let r = hop_earns old.stage old w.mid new (next_after n (acts_of w.sooner)) w.later number refl (slow found) w.first.by.readies w.second in
            (r.0, subst (λ (l : List Move). Earned c l) (sym (w.are ∙ ap (λ (l : List Move). l ++ w.later) w.first.by.none)) r.1)

    -- ---- rounds

    goes_slow : (conn : HttpConn) → (m : TellsMore conn true) → is_slow conn.stage ≡ true
    goes_slow conn m = go conn.stage (sym m.is)
      where
        go : (t : Stage) → goes_at conn m.done t ≡ true → is_slow t ≡ true
        go (At.Starting leg launch body whole) e = absurd (false≢true e)
        go (At.Running leg) e = absurd (false≢true e)
        go (At.Finishing text closes) e = absurd (false≢true e)
        go _ e = refl

    round_earns : (old new : HttpConn) (n : ℕ) (moves : List Move) → number_of old ≡ c → Round stamp old n moves new → (number_of new ≡ c) × Earned c moves
    round_earns old new n moves number r =
        let a : Earns c old r.does.sooner r.does.mid = answers_earn old r.does.mid n r.does.sooner number (goes_slow old r.more) r.does.first in
        let b = begins_earn r.does.mid new (next_after n (acts_of r.does.sooner)) r.does.later a.number a.slow r.does.second in
        (b.0, subst (λ (l : List Move). Earned c l) (sym r.does.are) (earned_append c r.does.sooner r.does.later a.earned b.1))

    rounds_earn : (turns : ℕ) (old new : HttpConn) (n : ℕ) (moves : List Move) → number_of old ≡ c → Rounds turns stamp old n moves new → (number_of new ≡ c) × Earned c moves
    rounds_earn zero old new n moves number nothing = (ap (λ (x : HttpConn). number_of x) nothing.same ∙ number, earned_none c moves (ap has_settle nothing.none))
    rounds_earn (suc turns) old new n moves number w =
        let a = rounds_earn turns old w.mid n w.sooner number w.first in
        let b = round_earns w.mid new (next_after n (acts_of w.sooner)) w.later a.0 w.second in
        (b.0, subst (λ (l : List Move). Earned c l) (sym w.are) (earned_append c w.sooner w.later a.1 b.1))

    pub rounds_on_earn : (old new : HttpConn) (n : ℕ) (moves : List Move) → number_of old ≡ c → RoundsOn stamp old n moves new → Earned c moves
    rounds_on_earn old new n moves number r =
        let a = rounds_earn r.turns old r.does.mid n r.does.sooner number r.does.first in
        subst (λ (l : List Move). Earned c l) (sym r.does.are) (earned_append c r.does.sooner r.does.later a.1 (last _ r.does.second))
      where
        last : (k : ℕ) → Or Nothing (Part LosesTurn) r.does.mid k r.does.later new → Earned c r.does.later
        last k (the_one nothing) = earned_none c r.does.later (ap has_settle nothing.none)
        last k (the_other p) = earned_none c r.does.later (ap has_settle p.by.loses.none)

-- an exchange ends where the child is served only if its whole answer stands
pub handles_whole : (old new : HttpConn) (n : ℕ) (moves : List Move) → has_settle moves ≡ true → Handles old n moves new → is_answered old.stage ≡ true
handles_whole old new n moves some w = first w.first
  where
    in_later : has_settle w.sooner ≡ false → has_settle w.later ≡ true
    in_later none = sym (ap has_settle w.are ∙ (settle_append w.sooner w.later ∙ ap (λ (x : Bool). x || has_settle w.later) none)) ∙ some

    ended : (k : ℕ) (b : Bool) → is_over w.mid ≡ b → has_settle w.later ≡ true → EndsBy b w.mid k w.later new → is_answered w.mid.stage ≡ true
    ended k true over ends t = (and_parts (is_answered w.mid.stage) (run_settled w.mid.run) over).0
    ended k false over ends nothing = absurd (false≢true (sym (ap has_settle nothing.none) ∙ ends))

    served : (start : HttpConn) (xs : List Move) (mid : HttpConn) (k : ℕ) (run : Option View) → ServesBy run start k xs mid → (has_settle xs ≡ false) × (mid.stage ≡ start.stage)
    served start xs mid k None nothing = (ap has_settle nothing.none, ap (λ (x : HttpConn). x.stage) nothing.same)
    served start xs mid k (Some v) p = (ap has_settle p.by.moves_are ∙ none_settle (acting (has_room start.flags) v), ap (λ (x : HttpConn). x.stage) p.by.is)

    first : ServesOrLoses old n w.sooner w.mid → is_answered old.stage ≡ true
    first (the_one s) =
        let a = served old w.sooner w.mid n old.run s in
        sym (ap is_answered a.1) ∙ ended (next_after n (acts_of w.sooner)) (is_over w.mid) refl (in_later a.0) w.second.by
    first (the_other v) =
        let a = served v.mid v.later w.mid (next_after n (acts_of v.sooner)) v.mid.run v.second in
        let none : has_settle w.sooner ≡ false = ap has_settle v.are ∙ (settle_append v.sooner v.later ∙ (ap (λ (l : List Move). has_settle l || has_settle v.later) v.first.by.none ∙ a.0)) in
        sym (ap is_answered (a.1 ∙ ap (λ (x : HttpConn). x.stage) v.first.by.is)) ∙ ended (next_after n (acts_of w.sooner)) (is_over w.mid) refl (in_later none) w.second.by
