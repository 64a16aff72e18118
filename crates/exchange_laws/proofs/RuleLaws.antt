-- The rules at a step's end, by the stage.
use Rattle.std.proofs.Common.{◌≡◌, ◌<◌, ◌^◌, ℕ, Bool, true, false, List, [], ◌∷◌, ◌++◌, length, Option, Some, None, refl, sym, ap, subst, ◌∙◌, append-nil}
use Rattle.std.specs.Prelude.{◌||◌, ◌&&◌, if◌then◌else◌}
use Rattle.std.proofs.lemmas.Bool.{false≢true, or_right}
use Rattle.host_base.specs.declared.cause.Cause.{Cause}
use Rattle.host_base.specs.declared.site.Site.{Site}
use Rattle.host_trace.specs.Decider.{Outcome, derived, failed, unanswered}
use Rattle.host_trace.specs.Projections.{child_out}
use Rattle.reply_kinds.specs.declared.derived.Derived.{Derived}
use Rattle.reply_kinds.specs.declared.derived.Derived.TheVariants as Output
use Rattle.reply_kinds.specs.Derived.{derived_of, is_header_whole}
use Rattle.reply_stream.specs.declared.asked.Asked.{Asked}
use Rattle.reply_stream.specs.Writing.{Stood, nothing, begun, begun_way, IsPartOf}
use Rattle.reply_writer.specs.CutReply.{cut_part}
use Rattle.trace_child.specs.Decided.{decided_at, outcome_of}
use Rattle.trace_model.specs.Answer.{answered, broken_off, refused, running, answer, stage}
use Rattle.trace_model.specs.Closes.{way}
use Rattle.trace_model.specs.Demands.{is_live}
use Rattle.trace_model.specs.Exchange.{Exchange, all_of, final, written}
use Rattle.trace_model.specs.Legs.{Leg, run_of}
use Rattle.trace_model.specs.Replies.{is_silent_once_closed}
use Rattle.trace_model.specs.Standing.{begun_of, derived_so_far, is_cut_of, is_front_of, is_left_unfinished, is_nothing, may_be_left, may_follow, may_stand, may_stand_in_part}
use Rattle.trace_model.specs.Streams.{begins_no_sooner}
use Rattle.conn_laws.proofs.StartLaws.{outcomes_tell}
use Rattle.exchange_reply.specs.Leg.{IsReplyOf, has_ticked}
use Rattle.exchange_reply.specs.Standings.{Stands, is_cut_by, so_far}
use Rattle.exchange_reply.specs.StepRules.{IsWrittenBy, KeepsRules, is_continued}
use Rattle.exchange_reply.proofs.AgreementLaws.{cuts_stay}
use Rattle.exchange_reply.proofs.StepLaws.{handings_keep_rules, lefts_may_stand}
use Rattle.exchange_stage.specs.declared.stage.Leg.{Leg as Held}
use Rattle.exchange_stage.specs.declared.stage.Stage.TheVariants as At
use Rattle.exchange_laws.specs.Walked.{IsLast}
use Rattle.exchange_laws.specs.Unanswered.{IsUnanswered}
use Rattle.exchange_laws.specs.OfRun.{IsOfRun, IsReady, IsTold, is_cut_short, leg_held}
use Rattle.exchange_laws.specs.StageIs.{IsLeftOver, IsReading, IsRefused, IsRunning}
use Rattle.exchange_laws.specs.Rules.{KeepsStepRules, LossesKeepRules, LostKeepsRules, RestsKeepRules, RunRests}
use Rattle.exchange_laws.proofs.HopStageLaws.{OnWay, at_hop_way, way_keeps}
use Rattle.exchange_laws.proofs.RestLaws.{KeepsDemands, may_by_none, may_by_whole, may_in_part, replies_by, running_keeps, shut_keeps, silent_by_open, silent_by_unanswered, unready_keeps, unready_stage, whole_keeps}
use Rattle.exchange_laws.proofs.RunLaws.{leg_now, stands_now, started_now}
use Rattle.exchange_laws.proofs.StandLaws.{ended_as, failed_as, goes_on, unanswered_as}
use Rattle.exchange_laws.proofs.UnansweredLaws.{unanswered_continues, unanswered_final, unanswered_no_sooner}
use Rattle.exchange_laws.proofs.WriteLaws.{by_leg}

-- the demands and what may stand make up the rules
with_demands : (site : Site) (c : ℕ) (e : Exchange) → may_stand site c e ≡ true → is_silent_once_closed c e ≡ true
    → begins_no_sooner site c e ≡ true → KeepsDemands site c e → KeepsStepRules site c e
with_demands site c e may silent sooner demands = record {
  may = may;
  replies_then = replies_by site c e may;
  silent = silent;
  begins_then = demands.begins_then;
  answers_then = demands.answers_then;
  hops_then = demands.hops_then;
  streams_then = demands.streams_then;
  no_sooner = sooner;
}

-- ---- nothing stands

unanswered_keeps : (site : Site) (c : ℕ) (e : Exchange) (continued : Bool) → is_continued site c e ≡ true → IsUnanswered site c e continued → KeepsDemands site c e
    → KeepsStepRules site c e
unanswered_keeps site c e continued let_on u demands =
    with_demands site c e (may_by_none site c e let_on (unanswered_final site c e continued u)) (silent_by_unanswered site c e continued u)
    (unanswered_no_sooner site c e continued u) demands

reading_keeps : (site : Site) (c : ℕ) (e : Exchange) (legs : List Leg) (continued looked : Bool) → IsReading site c e legs continued looked
    → (is_live c (all_of e) ≡ true → looked ≡ true) → KeepsDemands site c e
reading_keeps site c e legs continued looked is seen = go (is_live c (all_of e)) refl
  where
    go : (b : Bool) → is_live c (all_of e) ≡ b → KeepsDemands site c e
    go true live = unready_keeps site c e (unready_stage site c e is.unbroken (is.unready (seen live)))
    go false dead = shut_keeps site c e dead

pub refused_way : (site : Site) (c : ℕ) (e : Exchange) (legs : List Leg) (continued : Bool) (cause : Cause) → IsRefused site c e legs continued cause → stage site c e ≡ refused cause
refused_way site c e legs continued cause is =
    (stands_now site c e legs is.leg is.last).loops (leg_now is.leg is.last.reached.request_then) is.location is.none_left (record {
      started = started_now site c e legs is.leg is.last;
      front = is.leads.front;
      item = is.leads.item;
      decided = is.leads.decided;
      last = is.leads.last;
      by_output = is.leads.by_output;
      derives = is.leads.derives;
    }) ∙ ap (λ cause. refused cause) (sym is.loops)

-- ---- by a run

module _ (site : Site) (c : ℕ) (e : Exchange) (legs : List Leg) (leg : Leg) (asked : Asked) (told : List ℕ) (ticked : Bool) (stood : Stood) (more : List ℕ)
    (l : IsLast site c e legs leg) (r : IsOfRun site c e leg asked told ticked stood more) where
  abbrev now : Leg
  now = leg_now leg l.reached.request_then

  -- while it goes on and all was told
  pub on_keeps : outcome_of (run_of site c e leg) e.items ≡ None → more ≡ [] → has_ticked e leg ≡ ticked → KeepsRules site c e
  on_keeps none told_all same =
      let output : child_out e.items leg.child ≡ told = r.output ∙ ap (λ o. told ++ o) told_all ∙ append-nil told in
      let by : IsWrittenBy site c e now asked stood = by_leg site c e leg l.reached.request_then asked stood r.written_by in
      let at : stage site c e ≡ running now = goes_on site c e legs leg asked told ticked stood more l r none in
      let reply : IsReplyOf site c e now asked stood = record {
        kind = by.made.kind;
        final_is = by.final_is;
        fixed = by.fixed;
        stands = subst (λ o. Stands asked o (has_ticked e now) stood) (sym output) (subst (λ b. Stands asked told b stood) (sym same) r.stands);
        short = subst (λ o. length o < 2 ^ 64) (sym output) r.short;
      } in
      handings_keep_rules site c e now asked stood (record { at = at; written_by = by; reply = reply })

  left_may : (cause : Option Cause) (s : Stood) → stage site c e ≡ broken_off now cause (final site c e) → IsWrittenBy site c e leg asked s → Stands asked told ticked s
      → may_stand site c e ≡ true
  left_may cause nothing at by stands = may_by_none site c e by.continued by.final_is
  left_may cause (begun close stamp bytes) at by stands =
      lefts_may_stand site c e now asked cause ticked close stamp bytes told more (at ∙ ap (λ b. broken_off now cause b) by.final_is)
      (by_leg site c e leg l.reached.request_then asked (begun close stamp bytes) by) r.output r.short stands

  pub cut_may : is_cut_short (outcome_of (run_of site c e leg) e.items) ≡ true → may_stand site c e ≡ true
  cut_may cut = go (outcome_of (run_of site c e leg) e.items) refl cut
    where
      go : (o : Option Outcome) → outcome_of (run_of site c e leg) e.items ≡ o → is_cut_short o ≡ true → may_stand site c e ≡ true
      go None is so = absurd (false≢true so)
      go (Some derived) is so = absurd (false≢true so)
      go (Some (failed cause)) is so = left_may (Some cause) stood (failed_as site c e legs leg asked told ticked stood more l r cause is) r.written_by r.stands
      go (Some unanswered) is so = left_may None stood (unanswered_as site c e legs leg asked told ticked stood more l r is) r.written_by r.stands

  -- what stood before the end of its output
  unfinished_cut : (close : Bool) (stamp : Option ℕ) (bytes : List ℕ) (output : Derived) → way site c e ≡ begun_way asked close stamp → Stands asked told ticked (begun close stamp bytes)
      → is_cut_of site c e bytes (begun_of e (answered now output)) ≡ true
  unfinished_cut close stamp bytes output fixed stands =
      ap (λ o. is_cut_of site c e bytes (derived_so_far now o)) r.output
      ∙ same (so_far leg.kind (told ++ more))
      ∙ ap (λ k. is_cut_by (begun_way asked close stamp) bytes (so_far k (told ++ more))) r.written_by.made.kind
      ∙ cuts_stay asked told more ticked close stamp bytes r.short stands
    where
      same : (d : Option Derived) → is_cut_of site c e bytes d ≡ is_cut_by (begun_way asked close stamp) bytes d
      same None = refl
      same (Some (Output.Reply reply)) = ap (λ w. is_front_of reply.body (cut_part bytes w reply)) fixed
      same (Some _) = refl

  left_in_part : (s : Stood) → outcome_of (run_of site c e leg) e.items ≡ Some derived → IsWrittenBy site c e leg asked s → Stands asked told ticked s → may_stand_in_part site c e ≡ true
  left_in_part nothing comes by stands = may_in_part site c e (may_by_none site c e by.continued by.final_is)
  left_in_part (begun close stamp bytes) comes by stands =
      or_right (is_nothing (written c e)) (is_continued site c e && may_be_left site c e (final site c e))
      (both (is_continued site c e) (may_be_left site c e (final site c e)) by.continued
      (ap (may_be_left site c e) by.final_is ∙ go bytes by stands))
    where
      both : (a b : Bool) → a ≡ true → b ≡ true → (a && b) ≡ true
      both true b first second = second
      both false b first second = absurd (false≢true first)

      at : (b : List ℕ) (output : Derived) → derived_of asked.kind told ≡ output → IsPartOf (begun_way asked close stamp) output b → (d : Derived) × (stage site c e ≡ answered now d)
      at b (Output.Reply reply) is part = (Output.Reply reply, ended_as site c e legs leg asked told ticked stood more l r (Output.Reply reply) comes is tt)
      at b (Output.Raw raw) is part = (Output.Raw raw, ended_as site c e legs leg asked told ticked stood more l r (Output.Raw raw) comes is tt)
      at b (Output.Hop location) is part = absurd part
      at b (Output.Bad cause) is part = absurd part

      go : (b : List ℕ) → IsWrittenBy site c e leg asked (begun close stamp b) → Stands asked told ticked (begun close stamp b) → may_be_left site c e b ≡ true
      go [] by stands = refl
      go (byte ∷ rest) by stands =
          let d = at (byte ∷ rest) (derived_of asked.kind told) refl stands.1 in
          or_right (may_follow site c e (byte ∷ rest) (answer site c e)) (is_left_unfinished site c e (byte ∷ rest) (stage site c e))
          (ap (is_left_unfinished site c e (byte ∷ rest)) d.1 ∙ unfinished_cut close stamp (byte ∷ rest) d.0 by.fixed stands)

-- ---- all stages

running_rests : (site : Site) (c : ℕ) (e : Exchange) (legs : List Leg) (go_on : Bool) (more : List ℕ) (held : Held) → (is : IsRunning site c e legs go_on more held) → held.text ≡ []
    → RunRests c e more held (outcome_of (run_of site c e (leg_held held is.child)) e.items) → KeepsStepRules site c e
running_rests site c e legs go_on more held is text rest =
    go (outcome_of (run_of site c e (leg_held held is.child)) e.items) refl rest
  where
    ready : IsTold site c e (leg_held held is.child) is.asked is.told is.ticked is.stood is.untold more held.ticked held.reply
    ready = subst (λ t. IsReady site c e (leg_held held is.child) is.asked is.told is.ticked is.stood is.untold more held.ticked t held.reply) text is.ready

    ticked_now : decided_at (run_of site c e (leg_held held is.child)) e.items ≡ None → held.ticked ≡ false → has_ticked e (leg_held held is.child) ≡ is.ticked
    ticked_now none unticked =
        ready.ticked_is none ∙ ap (λ b. is.ticked || b && is_header_whole is.asked.kind is.told) unticked ∙ none_more is.ticked
      where
        none_more : (b : Bool) → (b || false) ≡ b
        none_more true = refl
        none_more false = refl

    cut : is_cut_short (outcome_of (run_of site c e (leg_held held is.child)) e.items) ≡ true → is_live c (all_of e) ≡ false → KeepsStepRules site c e
    cut short dead =
        with_demands site c e
        (cut_may site c e legs (leg_held held is.child) is.asked is.told is.ticked is.stood is.untold is.last is.run short)
        (silent_by_open c e is.unclosed) is.run.no_sooner (shut_keeps site c e dead)

    go : (o : Option Outcome) → outcome_of (run_of site c e (leg_held held is.child)) e.items ≡ o → RunRests c e more held o → KeepsStepRules site c e
    go None none calm =
        let rules : KeepsRules site c e =
        on_keeps site c e legs (leg_held held is.child) is.asked is.told is.ticked is.stood is.untold is.last is.run none (ready.more_is ∙ calm.0)
        (ticked_now ((outcomes_tell site c e (leg_held held is.child)).none none) calm.1) in
        with_demands site c e rules.may (silent_by_open c e is.unclosed) is.run.no_sooner
        (running_keeps site c e (leg_now (leg_held held is.child) is.last.reached.request_then)
        (goes_on site c e legs (leg_held held is.child) is.asked is.told is.ticked is.stood is.untold is.last is.run none) rules.streams)
    go (Some derived) comes calm = absurd calm
    go (Some (failed cause)) comes dead = cut (ap is_cut_short comes) dead
    go (Some unanswered) comes dead = cut (ap is_cut_short comes) dead

pub rests_keep_rules : RestsKeepRules
rests_keep_rules site c e legs continued looked closing more At.Reading is let_on rest =
    unanswered_keeps site c e continued let_on is.0.unanswered (reading_keeps site c e legs continued looked is.0 rest)
rests_keep_rules site c e legs continued looked closing more (At.Refused cause) is let_on rest =
    unanswered_keeps site c e continued let_on is.0.unanswered
    (way_keeps site c e legs is.0.last.children_are rest (subst (λ s. OnWay legs s) (sym (refused_way site c e legs continued cause is.0)) tt))
rests_keep_rules site c e legs continued looked closing more (At.Unstarted hop request) is let_on rest =
    unanswered_keeps site c e continued let_on is.0.unanswered
    (way_keeps site c e legs is.0.at_hop.children_are rest (at_hop_way site c e legs is.0.left hop request is.0.at_hop))
rests_keep_rules site c e legs continued looked closing more (At.Running held) is let_on rest =
    running_rests site c e legs continued more held is.0 rest.0 (rest.1 (leg_held held is.0.child) is.0.last)
rests_keep_rules site c e legs continued looked closing more At.Answered is let_on rest =
    with_demands site c e (may_by_whole site c e is.whole) (silent_by_open c e is.unclosed) is.begun.no_sooner (whole_keeps site c e is.whole)
rests_keep_rules site c e legs continued looked closing more At.Silent is let_on rest =
    with_demands site c e
    (cut_may site c e legs is.0.leg is.0.asked is.0.told is.0.ticked is.0.stood is.0.more is.0.last is.0.run is.0.cut)
    (silent_by_open c e is.0.unclosed) is.0.run.no_sooner (shut_keeps site c e rest)
rests_keep_rules site c e legs continued looked closing more _ is let_on rest = absurd rest

-- ---- where memory ran out

unanswered_in_part : (site : Site) (c : ℕ) (e : Exchange) (continued : Bool) → IsUnanswered site c e continued → may_stand_in_part site c e ≡ true
unanswered_in_part site c e true u =
    may_in_part site c e (may_by_none site c e (unanswered_continues site c e true u (λ so. absurd (false≢true (sym so)))) (unanswered_final site c e true u))
unanswered_in_part site c e false u =
    ap (λ l. is_nothing l || is_continued site c e && may_be_left site c e (final site c e)) u.wrote_only

lost_by : (site : Site) (c : ℕ) (e : Exchange) → may_stand_in_part site c e ≡ true → is_silent_once_closed c e ≡ true → begins_no_sooner site c e ≡ true
    → LostKeepsRules site c e
lost_by site c e may silent sooner = record {
  may = may;
  replies_then = λ memory. ap (λ (b : Bool). if b then may_stand_in_part site c e else may_stand site c e) memory ∙ may;
  silent = silent;
  no_sooner = sooner;
}

pub losses_keep_rules : LossesKeepRules
losses_keep_rules site c e legs continued lost decided = go lost.begun lost.left_over
  where
    go : (b : Bool) → IsLeftOver site c e legs continued b → LostKeepsRules site c e
    go false left =
        lost_by site c e (unanswered_in_part site c e continued left.0) (silent_by_unanswered site c e continued left.0)
        (unanswered_no_sooner site c e continued left.0)
    go true (leg, asked, told, ticked, stood, more, last, run, unclosed) =
        lost_by site c e (by_outcome (outcome_of (run_of site c e leg) e.items) refl) (silent_by_open c e unclosed) run.no_sooner
      where
        by_outcome : (o : Option Outcome) → outcome_of (run_of site c e leg) e.items ≡ o → may_stand_in_part site c e ≡ true
        by_outcome None none = absurd (decided leg last none)
        by_outcome (Some derived) comes = left_in_part site c e legs leg asked told ticked stood more last run stood comes run.written_by run.stands
        by_outcome (Some (failed cause)) comes =
            may_in_part site c e (cut_may site c e legs leg asked told ticked stood more last run (ap is_cut_short comes))
        by_outcome (Some unanswered) comes =
            may_in_part site c e (cut_may site c e legs leg asked told ticked stood more last run (ap is_cut_short comes))
