-- Where nothing of an answer is due nothing is done for it, and what the child is given leaves the stage.
use Rattle.std.proofs.Common.{◌≡◌, ◌≤◌, ◌⊎◌, ℕ, Bool, true, false, ◌&&◌, ◌||◌, not, List, [], ◌∷◌, ◌++◌, Option, Some, None, is_some, refl, sym, ap, ◌∙◌, subst, inl, inr}
use Rattle.std.specs.List.{list_any}
use Rattle.std.proofs.lemmas.Bool.{and_from, and_parts, false≢true, or_left, or_parts}
use Rattle.std.proofs.lemmas.List.Folds.{list_any-append}
use Rattle.host_base.specs.declared.limits.Limits.{Limits}
use Rattle.host_trace.specs.declared.items.Act.{Act}
use Rattle.host_trace.specs.declared.items.Event.{Event}
use Rattle.host_trace.specs.declared.items.Item.{Item}
use Rattle.host_trace.specs.Kinds.{is_shut}
use Rattle.host_trace.specs.Projections.{shut}
use Rattle.own_traces.specs.Whose.{next_after}
use Rattle.child_core.specs.Due.{acted, acting}
use Rattle.child_core.specs.View.{View}
use Rattle.request_reader.specs.Request.{read_request}
use Rattle.trace_model.specs.Exchange.{Exchange, reading, request_bytes}
use Rattle.trace_model.specs.Readings.{is_due}
use Rattle.exchange_request.specs.Knows.{is_looked_at, reading_of}
use Rattle.exchange_stage.specs.declared.stage.Stage.{Stage}
use Rattle.exchange_stage.specs.declared.stage.Stage.TheVariants as At
use Rattle.conn_flags.specs.View.{View as Flags, has_room}
use Rattle.child_laws.specs.Step.{Turn}
use Rattle.conn_laws.specs.Front.{IsHeard}
use Rattle.conn_laws.specs.Moves.{Move, acts_of}
use Rattle.http_conn.specs.HttpConn.{HttpConn}
use Rattle.http_conn.specs.Begins.{ReadiesAnswer}
use Rattle.http_conn.specs.Kept.{is_reading, flags_of, number_of, site_of}
use Rattle.http_conn.specs.Ready.{MayLack}
use Rattle.http_conn.specs.Reasons.{is_done_with}
use Rattle.http_conn.specs.Settles.{Follows, is_answered, is_over}
use Rattle.http_conn.specs.Parts.{Answers, AnswersBy, AnswersOn, Ends, EndsBy, Gives, GivesBy, Handles, LetsOn, Nothing, Part, ReadsBy, ReadsOn, ServesBy, ServesOrLoses, Then, gives_all, the_one, the_other}
use Rattle.http_step_laws.specs.Standing.{Standing, ends_at}
use Rattle.http_step_laws.proofs.EndWords.{Going, ends_is, going, unclosed_of, unshut_of}
use Rattle.good_step_laws.specs.Shuts.Memory.{LetOn, Unfed}
use Rattle.good_step_laws.proofs.Shuts.CalmWords.{undue}
use Rattle.good_step_laws.proofs.Shuts.EarnWords.{has_settle, none_settle, settle_append}

-- nothing is looked at, nor 100 Continue written: what is done is done for the answer
pub record IsAnswering (stamp : Option ℕ) (old : HttpConn) (xs : List Move) (mid : HttpConn) : Type 0 where
  pub number : ℕ
  pub by : AnswersBy false stamp old number xs mid

-- the whole answer stands, or what waits waits for its turn
abbrev pub is_quiet : Stage → Bool
is_quiet (At.Refused cause) = true
is_quiet (At.Unstarted hop request) = true
is_quiet At.Answered = true
is_quiet stage = false

quiet_away : (t : Stage) → is_quiet t ≡ true → is_reading t ≡ false
quiet_away (At.Refused cause) q = refl
quiet_away (At.Unstarted hop request) q = refl
quiet_away At.Answered q = refl
quiet_away At.Reading q = absurd (false≢true q)
quiet_away (At.Rejected cause bare) q = refl
quiet_away (At.Interrupted cause) q = refl
quiet_away (At.Starting leg launch body whole) q = refl
quiet_away (At.Running leg) q = refl
quiet_away (At.Finishing text closes) q = refl
quiet_away At.Silent q = refl

module _ (L : List Item) (ev : Event) (acts : List Act) (turn : Turn) (e : Exchange) (old : HttpConn) (n : ℕ) (s : Standing L ev acts turn n e old) (two : 2 ≤ (site_of old).limits.head)
    (on : ends_at old e ≡ false) (let_on : LetOn e old) (away : is_reading old.stage ≡ false) (stamp : Option ℕ) where
  abbrev bytes : List ℕ
  bytes = request_bytes (number_of old) e

  g : Going old (is_done_with old bytes)
  g = going old (is_done_with old bytes) on

  unclosed : e.closed ≡ false
  unclosed = unclosed_of old e (is_done_with old bytes) s.front g

  h : IsHeard old.request (is_reading old.stage) bytes
  h = s.front.request g.found unclosed

  open_before : shut e.before (number_of old) ≡ false
  open_before =
      (or_parts (shut e.before (number_of old)) (shut e.items (number_of old))
      (sym (list_any-append (is_shut (number_of old)) e.before e.items) ∙ (sym s.flags.shut ∙ unshut_of old (is_done_with old bytes) g))).0

  due_none : old.continued ≡ false → is_due (reading_of old.request bytes) ≡ false
  due_none first =
      ap (λ (l : Limits). is_due (read_request l bytes)) s.front.limits
      ∙ (sym (ap (λ (b : Bool). b && is_due (reading (site_of old) (number_of old) e)) (and_from (not e.closed) (not (shut e.before (number_of old))) (ap not unclosed) (ap not open_before)))
      ∙ let_on first)

  reads_nothing : (k : ℕ) (xs : List Move) (mid : HttpConn) → ReadsOn old k xs mid → Nothing old k xs mid
  reads_nothing k xs mid r =
      subst (λ (b : Bool). ReadsBy b false old k xs mid) (ends_is old e two s.front r.ending r.tells ∙ on)
      (subst (λ (b : Bool). ReadsBy r.ending b old k xs mid) (ap (λ (b : Bool). b && not (is_looked_at old.request)) away) r.by)

  lets_nothing : (k : ℕ) (xs : List Move) (mid : HttpConn) → LetsOn old k xs mid → Nothing old k xs mid
  lets_nothing k xs mid l = undue old bytes h.taken h.knows ((s.heard g.found).looked away) due_none k xs mid l

  pub away_answers : (xs : List Move) (mid : HttpConn) → Answers stamp old n xs mid → IsAnswering stamp old xs mid
  away_answers xs mid w =
      let k : ℕ = next_after n (acts_of w.sooner) in
      let j : ℕ = next_after k (acts_of w.second.sooner) in
      let one : Nothing old n w.sooner w.mid = reads_nothing n w.sooner w.mid w.first.by in
      let other : Nothing old k w.second.sooner w.second.mid = lets_nothing k w.second.sooner w.second.mid (subst (λ (c : HttpConn). LetsOn c k w.second.sooner w.second.mid) one.same w.second.first.by) in
      let a : AnswersOn stamp old j w.second.later mid = subst (λ (c : HttpConn). AnswersOn stamp c j w.second.later mid) other.same w.second.second in
      let all : xs ≡ w.second.later = w.are ∙ (ap (λ (l : List Move). l ++ w.later) one.none ∙ (w.second.are ∙ ap (λ (l : List Move). l ++ w.second.later) other.none)) in
      subst (λ (l : List Move). IsAnswering stamp old l mid) (sym all)
      (record { number = j; by = subst (λ (b : Bool). AnswersBy b stamp old j w.second.later mid) (ends_is old e two s.front a.ending a.tells ∙ on) a.by })

-- ---- nothing of an answer is due

module _ (L : List Item) (ev : Event) (acts : List Act) (turn : Turn) (e : Exchange) (old : HttpConn) (n : ℕ) (s : Standing L ev acts turn n e old) (two : 2 ≤ (site_of old).limits.head)
    (on : ends_at old e ≡ false) (let_on : LetOn e old) (quiet : is_quiet old.stage ≡ true) (stamp : Option ℕ) where
  given_nothing : (k : ℕ) (xs : List Move) (mid : HttpConn) (t : Stage) → old.stage ≡ t → ((x : HttpConn) → ReadiesAnswer t stamp old x → x ≡ old) → ((j : ℕ) (ys : List Move) → GivesBy t old j ys mid → Nothing old j ys mid)
      → (MayLack old t → ⊥) → AnswersBy false stamp old k xs mid → (mid ≡ old) × (xs ≡ [])
  given_nothing k xs mid t at ready gives lacks (the_one w) =
      let same : w.mid ≡ old = ready w.mid (subst (λ (x : Stage). ReadiesAnswer x stamp old w.mid) at w.first.by.readies) in
      let j : ℕ = next_after k (acts_of w.sooner) in
      let nothing : Nothing old j w.later mid = gives j w.later (subst (λ (x : Stage). GivesBy x old j w.later mid) at (subst (λ (c : HttpConn). Gives c j w.later mid) same w.second)) in
      (nothing.same, w.are ∙ (ap (λ (l : List Move). l ++ w.later) w.first.by.none ∙ nothing.none))
  given_nothing k xs mid t at ready gives lacks (the_other p) = absurd (lacks (subst (λ (x : Stage). MayLack old x) at p.by.may))

  pub quiet_answers : (xs : List Move) (mid : HttpConn) → Answers stamp old n xs mid → (mid ≡ old) × (xs ≡ [])
  quiet_answers xs mid w = by_stage old.stage refl quiet (away_answers L ev acts turn e old n s two on let_on (quiet_away old.stage quiet) stamp xs mid w)
    where
      by_stage : (t : Stage) → old.stage ≡ t → is_quiet t ≡ true → IsAnswering stamp old xs mid → (mid ≡ old) × (xs ≡ [])
      by_stage (At.Refused cause) at q a = given_nothing a.number xs mid (At.Refused cause) at (λ x r. r) (λ j ys g. g) (λ m. m) a.by
      by_stage (At.Unstarted hop request) at q a = given_nothing a.number xs mid (At.Unstarted hop request) at (λ x r. r) (λ j ys g. g) (λ m. m) a.by
      by_stage At.Answered at q a = given_nothing a.number xs mid At.Answered at (λ x r. r) (λ j ys g. g) (λ m. m) a.by
      by_stage At.Reading at q a = absurd (false≢true q)
      by_stage (At.Rejected cause bare) at q a = absurd (false≢true q)
      by_stage (At.Interrupted cause) at q a = absurd (false≢true q)
      by_stage (At.Starting leg launch body whole) at q a = absurd (false≢true q)
      by_stage (At.Running leg) at q a = absurd (false≢true q)
      by_stage (At.Finishing text closes) at q a = absurd (false≢true q)
      by_stage At.Silent at q a = absurd (false≢true q)

-- ---- the child

-- what is due for it was given, and the exchange ended or didn't
pub record IsServed (old : HttpConn) (moves : List Move) (new : HttpConn) : Type 0 where
  pub here : HttpConn
  pub flags : flags_of here ≡ flags_of old
  pub lost : here.lost ≡ old.lost
  pub stage : here.stage ≡ old.stage
  pub some : is_some here.run ≡ is_some old.run
  pub by : ((new ≡ here) × (has_settle moves ≡ false)) ⊎ ((is_over here ≡ true) × Follows here new × (has_settle moves ≡ true))

pub serves_shape : (old new : HttpConn) (n : ℕ) (moves : List Move) → Unfed old.run → Handles old n moves new → IsServed old moves new
serves_shape old new n moves unfed w = go w.first
  where
    k : ℕ
    k = next_after n (acts_of w.sooner)

    settles_are : (b : Bool) → has_settle w.sooner ≡ false → has_settle w.later ≡ b → has_settle moves ≡ b
    settles_are b a is = ap has_settle w.are ∙ (settle_append w.sooner w.later ∙ (ap (λ (x : Bool). x || has_settle w.later) a ∙ is))

    ended : (here : HttpConn) → (b : Bool) → is_over here ≡ b → has_settle w.sooner ≡ false → EndsBy b here k w.later new
        → ((new ≡ here) × (has_settle moves ≡ false)) ⊎ ((is_over here ≡ true) × Follows here new × (has_settle moves ≡ true))
    ended here false is a nothing = inl (nothing.same, settles_are false a (ap has_settle nothing.none))
    ended here true is a t = inr (is, t.1, settles_are true a (ap has_settle t.0))

    by_run : (run : Option View) → old.run ≡ run → ServesBy run old n w.sooner w.mid → IsServed old moves new
    by_run None is nothing = record {
      here = old;
      flags = refl;
      lost = refl;
      stage = refl;
      some = refl;
      by = ended old (is_over old) refl (ap has_settle nothing.none) (subst (λ (c : HttpConn). Part Ends c k w.later new) nothing.same w.second).by;
    }
    by_run (Some v) is p = record {
      here = record old { run = Some (acted (has_room old.flags) v) };
      flags = refl;
      lost = refl;
      stage = refl;
      some = sym (ap is_some is);
      by = ended (record old { run = Some (acted (has_room old.flags) v) }) (is_over (record old { run = Some (acted (has_room old.flags) v) })) refl
          (ap has_settle p.by.moves_are ∙ none_settle (acting (has_room old.flags) v)) (subst (λ (c : HttpConn). Part Ends c k w.later new) p.by.is w.second).by;
    }

    go : ServesOrLoses old n w.sooner w.mid → IsServed old moves new
    go (the_one s) = by_run old.run refl s
    go (the_other v) = absurd (false≢true (sym (unfed v.first.by.v v.first.by.run) ∙ v.first.by.due))
