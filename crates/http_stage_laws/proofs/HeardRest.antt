-- What is known of a connection between two steps.
use Rattle.std.proofs.Common.{◌≡◌, ◌≤◌, ℕ, Bool, true, false, ◌&&◌, ◌||◌, not, List, [], ◌∷◌, ◌++◌, Option, Some, None, is_some, option_map, refl, sym, ap, ◌∙◌, subst}
use Rattle.std.specs.List.{list_any}
use Rattle.std.proofs.lemmas.Bool.{false≢true}
use Rattle.std.proofs.lemmas.List.Folds.{list_any-append}
use Rattle.host_base.specs.declared.limits.Limits.{Limits}
use Rattle.host_trace.specs.declared.items.Item.{Item}
use Rattle.host_trace.specs.Kinds.{is_client_eof}
use Rattle.host_trace.specs.Projections.{client_wanted, shut}
use Rattle.head_reader.specs.declared.step.HeadStep.TheVariants as Step
use Rattle.request_reader.specs.Request.{is_begun, read_request}
use Rattle.request_reader.proofs.ReadingLaws.{reading_at}
use Rattle.request_reader.proofs.RequestLaws.{begun_at}
use Rattle.trace_child.specs.Decided.{outcome_of}
use Rattle.trace_child.specs.Words.{is_filled}
use Rattle.child_core.specs.declared.ending.Outcome.{Outcome}
use Rattle.child_core.specs.Knows.{read}
use Rattle.child_core.specs.View.{View}
use Rattle.conn_flags.specs.View.{is_live, may_write}
use Rattle.trace_model.specs.Demands.{client_ended}
use Rattle.trace_model.specs.Exchange.{Exchange, all_of, reading, request_bytes}
use Rattle.trace_model.specs.Exchanges.{has_ended}
use Rattle.trace_model.specs.Legs.{Leg as Started, run_of}
use Rattle.trace_model.specs.Readings.{is_due, is_whole}
use Rattle.trace_model.specs.Standing.{stands_whole}
use Rattle.trace_model.proofs.ExchangeLaws.{all_of-current}
use Rattle.conn_laws.specs.Form.{SaysDemands}
use Rattle.conn_laws.proofs.FormLaws.{flags_say}
use Rattle.conn_laws.proofs.StartLaws.{outcomes_tell}
use Rattle.exchange_request.specs.Knows.{KnowsRequest, StandsBy, is_looked_at, is_taken, reading_of}
use Rattle.exchange_request.specs.declared.found.Manner.{Manner}
use Rattle.exchange_request.specs.declared.incoming.Incoming.{Incoming}
use Rattle.exchange_request.proofs.KnowsLaws.{knows_whole}
use Rattle.exchange_stage.specs.declared.stage.Stage.{Stage}
use Rattle.exchange_laws.specs.Items.{is_calm}
use Rattle.exchange_laws.specs.StageIs.{IsAnswered, StageIs}
use Rattle.exchange_laws.specs.Walked.{IsLast}
use Rattle.exchange_laws.proofs.WholeLaws.{stages_are_walked}
use Rattle.child_laws.specs.Children.{KnowsChildren, is_over}
use Rattle.child_laws.specs.Laws.{TellsLast}
use Rattle.child_laws.proofs.KnowLaws.{ends_exact, tells_last}
use Rattle.http_conn.specs.HttpConn.{HttpConn}
use Rattle.http_conn.specs.Kept.{flags_of, number_of, site_of}
use Rattle.http_conn.specs.Reasons.{is_done_with}
use Rattle.http_stage_laws.specs.HeardStages.{AtRest, Rested}
use Rattle.http_stage_laws.proofs.HeardStage.{calm_at_rest, decided_at_stage, is_running}
use Rattle.http_stage_laws.proofs.StagedLaws.{no_last}

-- ---- words

pub or_right : (a b : Bool) → (a || b) ≡ false → b ≡ false
or_right true b e = absurd (false≢true (sym e))
or_right false b e = e

pub or_left : (a b : Bool) → (a || b) ≡ false → a ≡ false
or_left true b e = e
or_left false b e = refl

pub not_false : (b : Bool) → not b ≡ false → b ≡ true
not_false true e = refl
not_false false e = sym e

some_filled : (legs : List Started) (before : List Started) (leg : Started) → legs ≡ before ++ leg ∷ [] → is_filled legs ≡ true
some_filled [] before leg is = absurd (no_last before leg is)
some_filled (first ∷ legs) before leg is = refl

-- ---- a request that was read to its end is whole

whole_by : (i : Incoming) (bytes : List ℕ) (taken : ℕ) (m : Option Manner) (w : Bool) → w ≡ true → StandsBy i m w bytes taken → is_whole (reading_of i bytes) ≡ true
whole_by i bytes taken m false w s = absurd (false≢true w)
whole_by i bytes taken None true w s = absurd s
whole_by i bytes taken (Some manner) true w s = ap is_whole s.is

pub taken_whole : (i : Incoming) (bytes : List ℕ) (taken : ℕ) → KnowsRequest i bytes taken → is_taken i ≡ true → is_whole (reading_of i bytes) ≡ true
taken_whole i bytes taken k is = whole_by i bytes taken i.manner i.whole is k.stands

pub taken_is_whole : (i : Incoming) (bytes : List ℕ) (taken : ℕ) → KnowsRequest i bytes taken → (is_looked_at i || is_taken i) ≡ true → is_taken i ≡ is_whole (reading_of i bytes)
taken_is_whole i bytes taken k looked = knows_whole i bytes taken k looked

-- where 100 Continue is due a request has begun
pub due_begun : (limits : Limits) (bytes : List ℕ) → 2 ≤ limits.head → is_due (read_request limits bytes) ≡ true → is_begun bytes ≡ true
due_begun limits bytes two due = sym (begun_at limits bytes two (λ more. false≢true (sym (ap is_due (reading_at limits bytes Step.More more)) ∙ due)))

-- ---- its children

module _ (old : HttpConn) (L : List Item) (e : Exchange) (legs : List Started) (next : ℕ) (rest : AtRest old L e legs next) where
  pub same_list : all_of e ≡ L
  same_list = ap all_of rest.now ∙ all_of-current (site_of old) (number_of old) L

  pub says : SaysDemands (flags_of old) L
  says = flags_say (flags_of old) L rest.flags

  pub known_at : (run : Option View) → old.run ≡ run → KnowsChildren (site_of old) (number_of old) e false next legs run
  known_at run is = subst (λ (r : Option View). KnowsChildren (site_of old) (number_of old) e false next legs r) is rest.children

  pub no_run : old.run ≡ None → legs ≡ []
  no_run is = (known_at None is).runs.0

  pub no_leg : legs ≡ [] → old.run ≡ None
  no_leg none = go old.run refl
    where
      go : (run : Option View) → old.run ≡ run → old.run ≡ None
      go None is = is
      go (Some v) is = absurd (no_last (known_at (Some v) is).runs.older (known_at (Some v) is).runs.leg (sym none ∙ (known_at (Some v) is).runs.are))

  pub tells : (v : View) → old.run ≡ Some v → (leg : Started) → (last : IsLast (site_of old) (number_of old) e legs leg) → TellsLast (site_of old) (number_of old) e last.before leg v
  tells v is leg last =
      tells_last (site_of old) (number_of old) e next last.before leg v
      (subst (λ (ls : List Started). KnowsChildren (site_of old) (number_of old) e false next ls (Some v)) last.is (known_at (Some v) is))

  -- the child of the last leg
  pub last_child : (v : View) → old.run ≡ Some v → (leg : Started) → IsLast (site_of old) (number_of old) e legs leg → v.number ≡ leg.child
  last_child v is leg last = (tells v is leg last).number

  -- where the whole answer stands, and the exchange goes on, there is a child
  pub answered_filled : (continued closing : Bool) → IsAnswered (site_of old) (number_of old) e legs continued closing → is_filled legs ≡ true
  answered_filled continued closing answered = go legs refl
    where
      go : (ls : List Started) → legs ≡ ls → is_filled legs ≡ true
      go [] none =
          let ended : has_ended (site_of old) (number_of old) e ≡ true =
          ends_exact (site_of old) (number_of old) e false next legs old.run rest.children
          ∙ (ap (λ (run : Option View). is_over run && stands_whole (site_of old) (number_of old) e) (no_leg none) ∙ answered.whole) in
          absurd (false≢true (sym rest.unended ∙ ended))
      go (first ∷ ls) some = ap is_filled some

  -- its client was asked: it is live, and had not ended its input
  pub asked_live : client_wanted L (number_of old) ≡ true → shut L (number_of old) ≡ false → is_live (flags_of old) ≡ true
  asked_live wanted unshut =
      ap (λ (b : Bool). b && not (flags_of old).shut) (rest.inward.asked (says.asked ∙ wanted)).0 ∙ ap (λ (b : Bool). not b) (says.shut_then ∙ unshut)

  pub asked_unended : client_wanted L (number_of old) ≡ true → client_ended (number_of old) e.items ≡ true → ⊥
  asked_unended wanted ended =
      let all : client_ended (number_of old) L ≡ true =
      ap (λ (l : List Item). client_ended (number_of old) l) (sym same_list)
      ∙ (list_any-append (is_client_eof (number_of old)) e.before e.items
      ∙ (ap (λ (b : Bool). list_any (is_client_eof (number_of old)) e.before || b) ended ∙ or_true (list_any (is_client_eof (number_of old)) e.before))) in
      absurd (false≢true (sym (rest.inward.asked (says.asked ∙ wanted)).1 ∙ (says.ended ∙ all)))
    where
      or_true : (b : Bool) → (b || true) ≡ true
      or_true true = refl
      or_true false = refl

  module _ (rested : Rested old e legs) where
    pub calm : is_calm legs old.stage ≡ true
    calm =
        calm_at_rest (site_of old) (number_of old) e legs (is_looked_at old.request) rested.staged.more old.stage
        (λ at. answered_filled old.continued (old.closing || old.closes)
        (subst (λ (s : Stage). StageIs (site_of old) (number_of old) e legs old.continued (is_looked_at old.request) (old.closing || old.closes) rested.staged.more s) at rested.staged.is))
        rested.rests

    pub at_stage : (stage : Stage) → old.stage ≡ stage
        → StageIs (site_of old) (number_of old) e legs old.continued (is_looked_at old.request) (old.closing || old.closes) rested.staged.more stage
    at_stage stage at =
        subst (λ (s : Stage). StageIs (site_of old) (number_of old) e legs old.continued (is_looked_at old.request) (old.closing || old.closes) rested.staged.more s) at rested.staged.is

    -- a run is undecided only at Running
    pub run_decided : (v : View) → old.run ≡ Some v → is_running old.stage ≡ false → is_some v.outcome ≡ true
    run_decided v is other = by_outcome v.outcome refl
      where
        last_of : (ls : List Started) → legs ≡ ls → (leg : Started) × IsLast (site_of old) (number_of old) e legs leg
        last_of [] none = let never : None ≡ Some v = sym (no_leg none) ∙ is in absurd (cc)
        last_of (first ∷ ls) some =
            subst (λ (g : List Started). (leg : Started) × IsLast (site_of old) (number_of old) e g leg) (sym some)
            (stages_are_walked (site_of old) (number_of old) e (first ∷ ls) old.continued (is_looked_at old.request) (old.closing || old.closes) rested.staged.more old.stage
            (subst (λ (g : List Started). StageIs (site_of old) (number_of old) e g old.continued (is_looked_at old.request) (old.closing || old.closes) rested.staged.more old.stage) some rested.staged.is))

        by_outcome : (o : Option Outcome) → v.outcome ≡ o → is_some v.outcome ≡ true
        by_outcome (Some o) at = ap is_some at
        by_outcome None at =
            let last = last_of legs refl in
            let none : outcome_of (run_of (site_of old) (number_of old) e last.0) e.items ≡ None =
            (tells v is last.0 last.1).outcome ∙ ap (λ (o : Option Outcome). option_map read o) at in
            absurd (decided_at_stage (site_of old) (number_of old) e legs old.continued (is_looked_at old.request) (old.closing || old.closes) rested.staged.more old.stage calm other rested.staged.is last.0 last.1
            ((outcomes_tell (site_of old) (number_of old) e last.0).none none))

    -- while it is live no earlier answer closes it
    pub unclosed : is_live (flags_of old) ≡ true → e.closed ≡ false
    unclosed live =
        let done : Bool = is_done_with old (request_bytes (number_of old) e) in
        let before : Bool = not (may_write (flags_of old)) || (flags_of old).stopped || (flags_of old).gone || old.lost || old.idled in
        let open_yet : old.closing ≡ false =
        or_right before old.closing
        (or_left (before || old.closing) old.closes
        (or_left (before || old.closing || old.closes) (is_some old.cut)
        (or_left (before || old.closing || old.closes || is_some old.cut) done (rested.going live)))) in
        sym rest.front.closing ∙ open_yet

    -- the request was read to its end exactly where it is whole
    pub taken_is : old.lost ≡ false → e.closed ≡ false → (is_looked_at old.request || is_taken old.request) ≡ true → is_taken old.request ≡ is_whole (reading (site_of old) (number_of old) e)
    taken_is found open_yet looked =
        taken_is_whole old.request (request_bytes (number_of old) e) (rest.front.request found open_yet).taken (rest.front.request found open_yet).knows looked
        ∙ ap (λ (l : Limits). is_whole (read_request l (request_bytes (number_of old) e))) rest.front.limits
