-- Where nothing is due that takes memory, none is wanting in a step.
use Rattle.std.proofs.Common.{◌≡◌, ◌≤◌, ◌⊎◌, ℕ, Bool, true, false, ◌&&◌, ◌||◌, not, List, [], ◌∷◌, ◌++◌, Option, Some, None, refl, sym, ap, ◌∙◌, subst, inl, inr}
use Rattle.std.specs.Prelude.{IsTrue}
use Rattle.std.specs.List.{list_any}
use Rattle.std.proofs.lemmas.Bool.{and_from, and_parts, and_right, false≢true, not-true, or_left, or_parts}
use Rattle.std.proofs.lemmas.List.Folds.{list_any-append}
use Rattle.head_reader.specs.RequestHead.{is_whole}
use Rattle.head_reader.specs.declared.step.HeadStep.TheVariants as Step
use Rattle.host_base.specs.declared.limits.Limits.{Limits}
use Rattle.host_trace.specs.declared.items.Act.{Act}
use Rattle.host_trace.specs.declared.items.Event.{Event}
use Rattle.host_trace.specs.declared.items.Item.{Item}
use Rattle.host_trace.specs.Kinds.{is_shut}
use Rattle.host_trace.specs.Projections.{shut}
use Rattle.own_traces.specs.Whose.{next_after}
use Rattle.request_reader.specs.Request.{Bad, More, is_whole_head, read_request}
use Rattle.request_reader.proofs.ReadingLaws.{reading_at}
use Rattle.request_reader.proofs.RequestLaws.{unbegun_more}
use Rattle.trace_child.specs.Words.{is_filled}
use Rattle.child_core.specs.declared.ending.Outcome.{Outcome}
use Rattle.child_core.specs.View.{View}
use Rattle.trace_model.specs.Exchange.{Exchange, reading, request_bytes}
use Rattle.trace_model.specs.Readings.{is_due, startable}
use Rattle.exchange_request.specs.Knows.{Finds, KnowsRequest, is_looked_at, is_read, is_ready, is_taken, limits_of, reading_of}
use Rattle.exchange_request.specs.declared.found.Found.{Found}
use Rattle.exchange_request.specs.declared.found.Found.TheVariants as Seen
use Rattle.exchange_stage.specs.declared.stage.Leg.{Leg}
use Rattle.exchange_stage.specs.declared.stage.Stage.{Stage}
use Rattle.exchange_stage.specs.declared.stage.Stage.TheVariants as At
use Rattle.exchange_laws.specs.Unanswered.{is_awaited, is_open}
use Rattle.conn_flags.specs.View.{has_room}
use Rattle.child_laws.specs.Step.{Turn}
use Rattle.conn_laws.specs.Front.{IsHeard}
use Rattle.conn_laws.specs.Moves.{Move, acts_of}
use Rattle.conn_laws.proofs.FrontLaws.{unready_none}
use Rattle.http_conn.specs.HttpConn.{HttpConn}
use Rattle.http_conn.specs.Begins.{ByOutcome, ReadiesAnswer}
use Rattle.http_conn.specs.Kept.{is_reading, flags_of, number_of, site_of}
use Rattle.http_conn.specs.Ready.{LooksTo, MayLack, MayLackReply, Tells, drained_run, outcome_of_run, undrained}
use Rattle.http_conn.specs.Reasons.{is_done_with}
use Rattle.http_conn.specs.Settles.{is_answered, is_over}
use Rattle.http_conn.specs.Slot.{run_settled}
use Rattle.http_conn.specs.Writes.{wrote}
use Rattle.http_conn.specs.Parts.{Answers, AnswersBy, AnswersOn, Gives, GivesBy, LetsOn, Nothing, Part, ReadsBy, ReadsOn, Serves, Then, the_one, the_other}
use Rattle.http_step_laws.specs.Standing.{Apt, Standing, ends_at}
use Rattle.http_step_laws.proofs.EndWords.{Going, ends_is, going, unclosed_of, unshut_of}
use Rattle.http_step_laws.proofs.ReadLaws.{is_at_reading}
use Rattle.http_stage_laws.specs.Inward.{is_running}
use Rattle.good_step_laws.specs.Shuts.Memory.{Calm, CalmAt, CalmRun}
use Rattle.good_step_laws.proofs.Shuts.CalmWords.{Still, StillAt, calm_drained, handles_still, rounds_on_none, undue}

-- ---- no bytes are no request

pub nothing_read : (limits : Limits) → 2 ≤ limits.head → read_request limits [] ≡ More None false
nothing_read limits two = reading_at limits [] Step.More (unbegun_more limits [] two (inl refl))

pub no_head : (limits : Limits) → 2 ≤ limits.head → is_whole_head limits [] ≡ true → ⊥
no_head limits two whole = false≢true (sym (ap is_whole (unbegun_more limits [] two (inl refl))) ∙ whole)

-- ---- an answer of which nothing is due

abbrev pub AnswerCalm : HttpConn → Stage → Type 0
AnswerCalm conn At.Reading = Unit {0}
AnswerCalm conn (At.Refused cause) = Unit {0}
AnswerCalm conn (At.Unstarted hop request) = Unit {0}
AnswerCalm conn (At.Running leg) = (outcome_of_run conn.run ≡ None) × (undrained conn.run ≡ []) × (leg.ticked ≡ false)
AnswerCalm conn At.Answered = Unit {0}
AnswerCalm conn At.Silent = Unit {0}
AnswerCalm conn stage = ⊥

-- nothing changes, or but for the reply of a run that goes on
pub record IsPiece (old new : HttpConn) : Type 0 where
  pub leg : Leg
  pub is : new ≡ record old { run = drained_run old.run; stage = At.Running leg }

none_filled : (text : List ℕ) → text ≡ [] → is_filled text ≡ true → ⊥
none_filled text none some = false≢true (sym (ap (λ (t : List ℕ). is_filled t) none) ∙ some)

module _ (stamp : Option ℕ) where
  -- a stage of which nothing is made ready nor given
  same_still : (old new : HttpConn) (n : ℕ) (moves : List Move) (t : Stage) → old.stage ≡ t → ((mid : HttpConn) → ReadiesAnswer t stamp old mid → mid ≡ old)
      → ((k : ℕ) (ys : List Move) → GivesBy t old k ys new → Nothing old k ys new) → (MayLack old t → ⊥) → AnswersBy false stamp old n moves new → (new ≡ old) ⊎ IsPiece old new
  same_still old new n moves t at ready gives lacks (the_one w) =
      let same : w.mid ≡ old = ready w.mid (subst (λ (x : Stage). ReadiesAnswer x stamp old w.mid) at w.first.by.readies) in
      let k : ℕ = next_after n (acts_of w.sooner) in
      let given : Gives old k w.later new = subst (λ (c : HttpConn). Gives c k w.later new) same w.second in
      inl (gives k w.later (subst (λ (x : Stage). GivesBy x old k w.later new) at given)).same
  same_still old new n moves t at ready gives lacks (the_other p) = absurd (lacks (subst (λ (x : Stage). MayLack old x) at p.by.may))

  module _ (old new : HttpConn) (n : ℕ) (moves : List Move) (leg : Leg) (at : old.stage ≡ At.Running leg) (goes : outcome_of_run old.run ≡ None) (none : undrained old.run ≡ []) (unticked : leg.ticked ≡ false) where
    told : (mid : HttpConn) → (b : Tells leg stamp (record old { stage = At.Silent }) mid) → (k : ℕ) (ys : List Move) → Gives mid k ys new → IsPiece old new
    told mid b k ys g =
        piece (subst (λ (x : Stage). GivesBy x mid k ys new) (ap (λ (c : HttpConn). c.stage) b.is) g)
      where
        text_none : b.text ≡ []
        text_none = b.none unticked none

        rest_leg : Leg
        rest_leg = record leg { reply = b.reply; ticked = false; text = [] }

        wrote_none : (text : List ℕ) → text ≡ [] → wrote text true mid ≡ mid
        wrote_none [] e = refl
        wrote_none (byte ∷ text) e = absurd (cc)

        piece : GivesBy (At.Running (record leg { reply = b.reply; ticked = false; text = b.text })) mid k ys new → IsPiece old new
        piece (the_one p) = record {
          leg = rest_leg;
          is = p.by.is
              ∙ (ap (λ (c : HttpConn). record c { stage = At.Running rest_leg }) (wrote_none b.text text_none)
              ∙ ap (λ (c : HttpConn). record c { stage = At.Running rest_leg }) b.is);
        }
        piece (the_other p) = absurd (none_filled b.text text_none p.by.filled)

    running_still : AnswersBy false stamp old n moves new → (new ≡ old) ⊎ IsPiece old new
    running_still (the_one w) =
        let r : ByOutcome (outcome_of_run old.run) leg stamp (record old { stage = At.Silent }) w.mid = subst (λ (x : Stage). ReadiesAnswer x stamp old w.mid) at w.first.by.readies in
        inr (told w.mid (subst (λ (o : Option Outcome). ByOutcome o leg stamp (record old { stage = At.Silent }) w.mid) goes r) _ w.later w.second)
    running_still (the_other p) =
        let m : MayLackReply (outcome_of_run old.run) leg old.run = subst (λ (x : Stage). MayLack old x) at p.by.may in
        absurd (false≢true (sym unticked ∙ (subst (λ (o : Option Outcome). MayLackReply o leg old.run) goes m none).0))

  pub answers_still : (old new : HttpConn) (n : ℕ) (moves : List Move) → AnswerCalm old old.stage → AnswersOn stamp old n moves new → (new ≡ old) ⊎ IsPiece old new
  answers_still old new n moves calm a = go a.ending a.by
    where
      by_stage : (t : Stage) → old.stage ≡ t → AnswerCalm old t → AnswersBy false stamp old n moves new → (new ≡ old) ⊎ IsPiece old new
      by_stage At.Reading at c by = same_still old new n moves At.Reading at (λ mid r. r) (λ k ys g. g) (λ m. m) by
      by_stage (At.Refused cause) at c by = same_still old new n moves (At.Refused cause) at (λ mid r. r) (λ k ys g. g) (λ m. m) by
      by_stage (At.Unstarted hop request) at c by = same_still old new n moves (At.Unstarted hop request) at (λ mid r. r) (λ k ys g. g) (λ m. m) by
      by_stage (At.Running leg) at c by = running_still old new n moves leg at c.0 c.1 c.2 by
      by_stage At.Answered at c by = same_still old new n moves At.Answered at (λ mid r. r) (λ k ys g. g) (λ m. m) by
      by_stage At.Silent at c by = same_still old new n moves At.Silent at (λ mid r. r) (λ k ys g. g) (λ m. m) by
      by_stage (At.Rejected cause bare) at c by = absurd c
      by_stage (At.Interrupted cause) at c by = absurd c
      by_stage (At.Starting leg launch body whole) at c by = absurd c
      by_stage (At.Finishing text closes) at c by = absurd c

      go : (ending : Bool) → AnswersBy ending stamp old n moves new → (new ≡ old) ⊎ IsPiece old new
      go true nothing = inl nothing.same
      go false by = by_stage old.stage refl calm by

-- ---- a calm connection

module _ (L : List Item) (ev : Event) (acts : List Act) (turn : Turn) (e : Exchange) (old : HttpConn) (n : ℕ) (s : Standing L ev acts turn n e old) (two : 2 ≤ (site_of old).limits.head)
    (apt : Apt e old) (on : ends_at old e ≡ false) (calm : Calm e old) (stamp : Option ℕ) where
  abbrev bytes : List ℕ
  bytes = request_bytes (number_of old) e

  g : Going old (is_done_with old bytes)
  g = going old (is_done_with old bytes) on

  unclosed : e.closed ≡ false
  unclosed = unclosed_of old e (is_done_with old bytes) s.front g

  h : IsHeard old.request (is_reading old.stage) bytes
  h = s.front.request g.found unclosed

  two_then : 2 ≤ (limits_of old.request).head
  two_then = subst (λ (l : Limits). 2 ≤ l.head) (sym s.front.limits) two

  open_before : shut e.before (number_of old) ≡ false
  open_before =
      (or_parts (shut e.before (number_of old)) (shut e.items (number_of old))
      (sym (list_any-append (is_shut (number_of old)) e.before e.items) ∙ (sym s.flags.shut ∙ unshut_of old (is_done_with old bytes) g))).0

  -- 100 Continue isn't due, or was written
  due_none : old.continued ≡ false → is_due (reading_of old.request bytes) ≡ false
  due_none first =
      ap (λ (l : Limits). is_due (read_request l bytes)) s.front.limits
      ∙ (sym (ap (λ (b : Bool). b && is_due (reading (site_of old) (number_of old) e)) (and_from (not e.closed) (not (shut e.before (number_of old))) (ap not unclosed) (ap not open_before)))
      ∙ calm.let_on first)

  -- .. at a stage where all was looked at, or the request was read to its end
  later_still : is_read old.request ≡ true → AnswerCalm old old.stage → StillAt old old.stage → (k : ℕ) (ys : List Move) (new : HttpConn) → Then (Part LetsOn) (AnswersOn stamp) old k ys new → Still new
  later_still read at still k ys new w =
      let same : w.mid ≡ old = (undue old bytes h.taken h.knows read due_none k w.sooner w.mid w.first.by).same in
      either (answers_still stamp old new (next_after k (acts_of w.sooner)) w.later at (subst (λ (c : HttpConn). AnswersOn stamp c (next_after k (acts_of w.sooner)) w.later new) same w.second))
    where
      either : (new ≡ old) ⊎ IsPiece old new → Still new
      either (inl same) = subst (λ (c : HttpConn). Still c) (sym same) (record { found = g.found; run = calm.run; unover = apt.unover; at = still })
      either (inr p) =
          subst (λ (c : HttpConn). Still c) (sym p.is) (record { found = g.found; run = calm_drained (is_running old.stage) (has_room (flags_of old)) old.run calm.run; unover = refl; at = tt })

  -- .. or where nothing was heard
  module _ (at : old.stage ≡ At.Reading) (none : bytes ≡ []) where
    reads : is_reading old.stage ≡ true
    reads = ap is_reading at

    unready : is_ready old.request ≡ false
    unready = h.unready reads

    knows : KnowsRequest old.request [] 0
    knows = subst (λ (l : List ℕ). KnowsRequest old.request l 0) none (unready_none old.request bytes h.taken unready h.knows)

    nothing_there : reading_of old.request [] ≡ More None false
    nothing_there = nothing_read (limits_of old.request) two_then

    looked_still : (mid : HttpConn) (found : Found) → LooksTo found old mid → limits_of mid.request ≡ limits_of old.request → Finds [] found mid.request → (k : ℕ) (ys : List Move) (new : HttpConn)
        → Then (Part LetsOn) (AnswersOn stamp) mid k ys new → Still new
    looked_still mid Seen.More is limits finds k ys new w =
        let due : mid.continued ≡ false → is_due (reading_of mid.request []) ≡ false = λ first. ap (λ (l : Limits). is_due (read_request l [])) limits ∙ ap is_due nothing_there in
        let same : w.mid ≡ mid = (undue mid [] 0 finds.knows (or_left (is_looked_at mid.request) (is_taken mid.request) finds.looked) due k w.sooner w.mid w.first.by).same in
        let at_mid : mid.stage ≡ At.Reading = ap (λ (c : HttpConn). c.stage) is ∙ at in
        let here : Still mid = record {
          found = ap (λ (c : HttpConn). c.lost) is ∙ g.found;
          run = subst (λ (c : HttpConn). CalmRun (is_running c.stage) (has_room (flags_of c)) c.run) (sym is) calm.run;
          unover = ap is_over is ∙ apt.unover;
          at = subst (λ (t : Stage). StillAt mid t) (sym at_mid) finds.looked;
        } in
        either at_mid here (answers_still stamp mid new (next_after k (acts_of w.sooner)) w.later (subst (λ (t : Stage). AnswerCalm mid t) (sym at_mid) tt)
        (subst (λ (c : HttpConn). AnswersOn stamp c (next_after k (acts_of w.sooner)) w.later new) same w.second))
      where
        either : mid.stage ≡ At.Reading → Still mid → (new ≡ mid) ⊎ IsPiece mid new → Still new
        either at_mid here (inl same) = subst (λ (c : HttpConn). Still c) (sym same) here
        either at_mid here (inr p) =
            subst (λ (c : HttpConn). Still c) (sym p.is) (record { found = here.found; run = calm_drained (is_running mid.stage) (has_room (flags_of mid)) mid.run here.run; unover = refl; at = tt })
    looked_still mid (Seen.Ready request) is limits finds k ys new w = absurd (no_request (sym (ap (λ (l : Limits). startable (read_request l [])) limits ∙ ap startable nothing_there) ∙ finds.is))
      where
        no_request : None ≡ Some request → ⊥
        no_request e = absurd (cc)
    looked_still mid (Seen.Refused cause bare) is limits finds k ys new w =
        absurd (no_fault (sym (ap (λ (l : Limits). read_request l []) limits ∙ nothing_there) ∙ finds.is))
      where
        no_fault : More None false ≡ Bad cause bare → ⊥
        no_fault e = absurd (cc)

    reads_still : (a : Bool) → a ≡ is_looked_at old.request → (ending : Bool) → (k : ℕ) (xs : List Move) (mid : HttpConn) → ReadsBy ending (not a) old k xs mid → (j : ℕ) (ys : List Move) (new : HttpConn)
        → Then (Part LetsOn) (AnswersOn stamp) mid j ys new → (ending ≡ false) → Still new
    reads_still true looked ending k xs mid by j ys new w open_then =
        let nothing : Nothing old k xs mid = subst (λ (b : Bool). ReadsBy b false old k xs mid) open_then by in
        later_still (or_left (is_looked_at old.request) (is_taken old.request) (sym looked)) (subst (λ (t : Stage). AnswerCalm old t) (sym at) tt) (subst (λ (t : Stage). StillAt old t) (sym at) (sym looked)) j ys new
        (subst (λ (c : HttpConn). Then (Part LetsOn) (AnswersOn stamp) c j ys new) nothing.same w)
    reads_still false unlooked ending k xs mid by j ys new w open_then = go (subst (λ (b : Bool). ReadsBy b true old k xs mid) open_then by)
      where
        go : ReadsBy false true old k xs mid → Still new
        go (the_one l) = looked_still mid l.looked.found l.looked.to l.looked.limits (l.looked.finds [] knows unready) j ys new w
        go (the_other l) = absurd (no_head (limits_of old.request) two_then (l.heard [] knows unready))

  -- ---- the answer is given

  pub answered_still : (moves : List Move) (new : HttpConn) → Answers stamp old n moves new → Still new
  answered_still moves new w = by_stage old.stage refl calm.at
    where
      r : ReadsOn old n w.sooner w.mid
      r = w.first.by

      going_on : r.ending ≡ false
      going_on = ends_is old e two s.front r.ending r.tells ∙ on

      unread_none : (b : Bool) → b ≡ false → ReadsBy r.ending b old n w.sooner w.mid → w.mid ≡ old
      unread_none true e by = absurd (false≢true (sym e))
      unread_none false e by = (subst (λ (a : Bool). ReadsBy a false old n w.sooner w.mid) going_on by).same

      away : (t : Stage) → old.stage ≡ t → is_reading t ≡ false → AnswerCalm old t → StillAt old t → Still new
      away t at none a b =
          let same : w.mid ≡ old = unread_none (is_reading old.stage && not (is_looked_at old.request)) (ap (λ (x : Stage). is_reading x && not (is_looked_at old.request)) at ∙ ap (λ (x : Bool). x && not (is_looked_at old.request)) none) r.by in
          later_still ((s.heard g.found).looked (ap is_reading at ∙ none)) (subst (λ (x : Stage). AnswerCalm old x) (sym at) a) (subst (λ (x : Stage). StillAt old x) (sym at) b) (next_after n (acts_of w.sooner)) w.later new
          (subst (λ (c : HttpConn). Then (Part LetsOn) (AnswersOn stamp) c (next_after n (acts_of w.sooner)) w.later new) same w.second)

      by_reading : old.stage ≡ At.Reading → (is_looked_at old.request ≡ true) ⊎ (bytes ≡ []) → Still new
      by_reading at (inl looked) =
          let same : w.mid ≡ old = unread_none (is_reading old.stage && not (is_looked_at old.request)) (and_right (is_reading old.stage) (not (is_looked_at old.request)) (ap not looked)) r.by in
          later_still (or_left (is_looked_at old.request) (is_taken old.request) looked) (subst (λ (x : Stage). AnswerCalm old x) (sym at) tt) (subst (λ (x : Stage). StillAt old x) (sym at) looked)
          (next_after n (acts_of w.sooner)) w.later new (subst (λ (c : HttpConn). Then (Part LetsOn) (AnswersOn stamp) c (next_after n (acts_of w.sooner)) w.later new) same w.second)
      by_reading at (inr none) =
          reads_still at none (is_looked_at old.request) refl r.ending n w.sooner w.mid
          (subst (λ (b : Bool). ReadsBy r.ending (b && not (is_looked_at old.request)) old n w.sooner w.mid) (ap is_reading at) r.by) (next_after n (acts_of w.sooner)) w.later new w.second going_on

      by_stage : (t : Stage) → old.stage ≡ t → CalmAt old e t → Still new
      by_stage At.Reading at c = by_reading at c
      by_stage (At.Refused cause) at c = away (At.Refused cause) at refl tt c
      by_stage (At.Unstarted hop request) at c = away (At.Unstarted hop request) at refl tt c
      by_stage (At.Running leg) at c = away (At.Running leg) at refl c tt
      by_stage At.Answered at c = away At.Answered at refl tt tt
      by_stage At.Silent at c = away At.Silent at refl tt tt
      by_stage (At.Rejected cause bare) at c = absurd c
      by_stage (At.Interrupted cause) at c = absurd c
      by_stage (At.Starting leg launch body whole) at c = absurd c
      by_stage (At.Finishing text closes) at c = absurd c

  -- So memory is found in the whole of it.
  pub calm_found : (moves : List Move) (new : HttpConn) → Serves stamp old n moves new → new.lost ≡ false
  calm_found moves new w =
      let still : Still w.mid = answered_still w.sooner w.mid w.first in
      let handled = handles_still w.mid w.second.mid (next_after n (acts_of w.sooner)) w.second.sooner still w.second.first in
      ap (λ (c : HttpConn). c.lost) (rounds_on_none stamp w.second.mid new _ w.second.later handled.1 w.second.second) ∙ handled.0
