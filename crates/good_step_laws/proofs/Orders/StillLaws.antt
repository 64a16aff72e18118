-- Where a hop waits for its turn nothing is due of an answer.
use Rattle.std.proofs.Common.{◌≡◌, ◌≤◌, ℕ, Bool, true, false, ◌&&◌, not, List, [], ◌++◌, Option, ◌⊎◌, inl, inr, refl, sym, ap, ◌∙◌, subst}
use Rattle.std.proofs.lemmas.Bool.{and_from, and_parts, false≢true, not-true, or_parts}
use Rattle.std.proofs.lemmas.List.Folds.{list_any-append}
use Rattle.host_base.specs.declared.limits.Limits.{Limits}
use Rattle.host_trace.specs.declared.items.Act.{Act}
use Rattle.host_trace.specs.declared.items.Event.{Event}
use Rattle.host_trace.specs.declared.items.Item.{Item}
use Rattle.host_trace.specs.Kinds.{is_shut}
use Rattle.host_trace.specs.Projections.{shut}
use Rattle.own_traces.specs.Whose.{next_after}
use Rattle.request_reader.specs.Request.{read_request}
use Rattle.trace_model.specs.Exchange.{Exchange, reading, request_bytes}
use Rattle.trace_model.specs.Readings.{is_due}
use Rattle.exchange_request.specs.Knows.{is_looked_at}
use Rattle.exchange_stage.specs.declared.stage.Stage.{Stage}
use Rattle.exchange_stage.specs.declared.stage.Stage.TheVariants as At
use Rattle.exchange_laws.specs.Items.{is_unanswered}
use Rattle.exchange_laws.specs.Unanswered.{is_awaited, is_open}
use Rattle.child_laws.specs.Step.{Turn}
use Rattle.conn_laws.specs.Front.{IsHeard}
use Rattle.conn_laws.specs.Moves.{Move, acts_of}
use Rattle.http_conn.specs.HttpConn.{HttpConn}
use Rattle.http_conn.specs.Begins.{ReadiesAnswer}
use Rattle.http_conn.specs.Kept.{is_reading, number_of, site_of}
use Rattle.http_conn.specs.Reasons.{ends_with, is_done_with}
use Rattle.http_conn.specs.Parts.{Answers, AnswersBy, AnswersOn, Gives, GivesBy, LetsOn, LetsOnBy, Nothing, Part, ReadsBy, Then, the_one, the_other}
use Rattle.http_step_laws.specs.Standing.{Quiet, Standing, ends_at}
use Rattle.http_step_laws.proofs.EndWords.{Going, going, unclosed_of, unshut_of}

-- a hop, or a refusal, waits for its turn
abbrev pub is_waiting : Stage → Bool
is_waiting (At.Refused cause) = true
is_waiting (At.Unstarted hop request) = true
is_waiting stage = false

-- nothing was done, but that memory may have been wanting
pub record Still (old : HttpConn) (moves : List Move) (new : HttpConn) : Type 0 where
  pub none : moves ≡ []
  pub as_it_was : (new ≡ old) ⊎ (new.lost ≡ true)

waits_unanswered : (t : Stage) → is_waiting t ≡ true → is_unanswered t ≡ true
waits_unanswered (At.Refused cause) w = refl
waits_unanswered (At.Unstarted hop request) w = refl
waits_unanswered _ w = absurd (false≢true w)

waits_away : (t : Stage) → is_waiting t ≡ true → is_reading t ≡ false
waits_away At.Reading w = absurd (false≢true w)
waits_away _ w = refl

readies_none : (t : Stage) (stamp : Option ℕ) (old new : HttpConn) → is_waiting t ≡ true → ReadiesAnswer t stamp old new → new ≡ old
readies_none (At.Refused cause) stamp old new w same = same
readies_none (At.Unstarted hop request) stamp old new w same = same
readies_none At.Reading stamp old new w by = absurd (false≢true w)
readies_none (At.Rejected cause bare) stamp old new w by = absurd (false≢true w)
readies_none (At.Interrupted cause) stamp old new w by = absurd (false≢true w)
readies_none (At.Starting leg launch body whole) stamp old new w by = absurd (false≢true w)
readies_none (At.Running leg) stamp old new w by = absurd (false≢true w)
readies_none (At.Finishing text closes) stamp old new w by = absurd (false≢true w)
readies_none At.Answered stamp old new w by = absurd (false≢true w)
readies_none At.Silent stamp old new w by = absurd (false≢true w)

gives_none : (t : Stage) (old : HttpConn) (n : ℕ) (moves : List Move) (new : HttpConn) → is_waiting t ≡ true → GivesBy t old n moves new → Nothing old n moves new
gives_none (At.Refused cause) old n moves new w nothing = nothing
gives_none (At.Unstarted hop request) old n moves new w nothing = nothing
gives_none At.Reading old n moves new w by = absurd (false≢true w)
gives_none (At.Rejected cause bare) old n moves new w by = absurd (false≢true w)
gives_none (At.Interrupted cause) old n moves new w by = absurd (false≢true w)
gives_none (At.Starting leg launch body whole) old n moves new w by = absurd (false≢true w)
gives_none (At.Running leg) old n moves new w by = absurd (false≢true w)
gives_none (At.Finishing text closes) old n moves new w by = absurd (false≢true w)
gives_none At.Answered old n moves new w by = absurd (false≢true w)
gives_none At.Silent old n moves new w by = absurd (false≢true w)

reads_none : (a b : Bool) (old : HttpConn) (n : ℕ) (moves : List Move) (new : HttpConn) → b ≡ false → ReadsBy a b old n moves new → Nothing old n moves new
reads_none a true old n moves new e by = absurd (false≢true (sym e))
reads_none true false old n moves new e nothing = nothing
reads_none false false old n moves new e nothing = nothing

empty : (xs ys : List Move) → xs ≡ [] → ys ≡ [] → xs ++ ys ≡ []
empty xs ys a b = ap (λ (l : List Move). l ++ ys) a ∙ b

module _ (L : List Item) (ev : Event) (acts : List Act) (turn : Turn) (e : Exchange) (old : HttpConn) (n : ℕ) (s : Standing L ev acts turn n e old) (two : 2 ≤ (site_of old).limits.head)
    (q : Quiet e old) (on : ends_at old e ≡ false) (waits : is_waiting old.stage ≡ true) where
  abbrev bytes : List ℕ
  bytes = request_bytes (number_of old) e

  g : Going old (is_done_with old bytes)
  g = going old (is_done_with old bytes) on

  away : is_reading old.stage ≡ false
  away = waits_away old.stage waits

  unclosed : e.closed ≡ false
  unclosed = unclosed_of old e (is_done_with old bytes) s.front g

  open_before : shut e.before (number_of old) ≡ false
  open_before =
      (or_parts (shut e.before (number_of old)) (shut e.items (number_of old))
      (sym (list_any-append (is_shut (number_of old)) e.before e.items) ∙ (sym s.flags.shut ∙ unshut_of old (is_done_with old bytes) g))).0

  -- 100 Continue stands where it was due
  undue : (t : Bool) → (k : ℕ) (moves : List Move) (mid : HttpConn) → (p : LetsOn old k moves mid) → p.due ≡ t → LetsOnBy t old k moves mid → Nothing old k moves mid
  undue false k moves mid p is nothing = nothing
  undue true k moves mid p is by =
      let both = and_parts (not (ends_with old p.tells.done) && p.tells.awaited) (not old.continued) (sym p.tells.is ∙ is) in
      let h : IsHeard old.request (is_reading old.stage) bytes = s.front.request g.found unclosed in
      let told : p.tells.awaited ≡ is_due (reading (site_of old) (number_of old) e) =
      p.tells.awaits bytes h.taken h.knows ((s.heard g.found).looked away) ∙ ap (λ (l : Limits). is_due (read_request l bytes)) s.front.limits in
      let due : is_due (reading (site_of old) (number_of old) e) ≡ true = sym told ∙ (and_parts (not (ends_with old p.tells.done)) p.tells.awaited both.0).1 in
      let awaited : is_awaited (site_of old) (number_of old) e ≡ true =
      and_from (is_open (number_of old) e) _ (and_from (not e.closed) (not (shut e.before (number_of old))) (ap not unclosed) (ap not open_before)) due in
      absurd (false≢true (sym away ∙ ((q.found g.found).let_on (waits_unanswered old.stage waits) (not-true old.continued both.1) awaited).2))

  answers_none : (stamp : Option ℕ) (k : ℕ) (moves : List Move) (new : HttpConn) → (ending : Bool) → AnswersBy ending stamp old k moves new → Still old moves new
  answers_none stamp k moves new true nothing = record { none = nothing.none; as_it_was = inl nothing.same }
  answers_none stamp k moves new false (the_other p) = record { none = p.by.loses.none; as_it_was = inr (ap (λ (d : HttpConn). d.lost) p.by.loses.gives_up.is) }
  answers_none stamp k moves new false (the_one w) =
      let same : w.mid ≡ old = readies_none old.stage stamp old w.mid waits w.first.by.readies in
      let gives : GivesBy old.stage old (next_after k (acts_of w.sooner)) w.later new = subst (λ (d : HttpConn). Gives d (next_after k (acts_of w.sooner)) w.later new) same w.second in
      let nothing = gives_none old.stage old (next_after k (acts_of w.sooner)) w.later new waits gives in
      record { none = w.are ∙ empty w.sooner w.later w.first.by.none nothing.none; as_it_was = inl nothing.same }

  pub still : (stamp : Option ℕ) (moves : List Move) (new : HttpConn) → Answers stamp old n moves new → Still old moves new
  still stamp moves new w =
      let r : Nothing old n w.sooner w.mid =
      reads_none w.first.by.ending _ old n w.sooner w.mid (ap (λ (b : Bool). b && not (is_looked_at old.request)) away) w.first.by.by in
      let rest : Still old w.later new =
      lets (next_after n (acts_of w.sooner)) w.later (subst (λ (d : HttpConn). Then (Part LetsOn) (AnswersOn stamp) d (next_after n (acts_of w.sooner)) w.later new) r.same w.second) in
      record { none = w.are ∙ empty w.sooner w.later r.none rest.none; as_it_was = rest.as_it_was }
    where
      lets : (k : ℕ) (later : List Move) → Then (Part LetsOn) (AnswersOn stamp) old k later new → Still old later new
      lets k later v =
          let p : Nothing old k v.sooner v.mid = undue v.first.by.due k v.sooner v.mid v.first.by refl v.first.by.by in
          let a : AnswersOn stamp old (next_after k (acts_of v.sooner)) v.later new = subst (λ (d : HttpConn). AnswersOn stamp d (next_after k (acts_of v.sooner)) v.later new) p.same v.second in
          let rest : Still old v.later new = answers_none stamp (next_after k (acts_of v.sooner)) v.later new a.ending a.by in
          record { none = v.are ∙ empty v.sooner v.later p.none rest.none; as_it_was = rest.as_it_was }
