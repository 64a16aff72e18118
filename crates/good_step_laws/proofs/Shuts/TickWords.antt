-- What a Tick makes due of a reply, and how it is given.
use Rattle.std.proofs.Common.{◌≡◌, ◌≤◌, ℕ, Bool, true, false, ◌&&◌, ◌||◌, not, if◌then◌else◌, List, [], ◌∷◌, ◌++◌, length, Option, Some, None, option_map, refl, sym, ap, ◌∙◌, subst, append-nil}
use Rattle.std.proofs.lemmas.Bool.{false≢true, or_from, or_left}
use Rattle.host_base.specs.declared.cause.Cause.{Cause}
use Rattle.host_base.specs.declared.site.Site.{Site}
use Rattle.host_trace.specs.declared.items.Act.{Act}
use Rattle.host_trace.specs.declared.items.Event.{Event}
use Rattle.host_trace.specs.declared.items.Item.{Item}
use Rattle.host_trace.specs.Decider.{failed, is_websocket}
use Rattle.host_trace.specs.Projections.{child_out}
use Rattle.own_traces.specs.Whose.{next_after}
use Rattle.child_core.specs.declared.ending.Outcome.{Outcome}
use Rattle.child_core.specs.declared.ending.Outcome.TheVariants as Ended
use Rattle.child_core.specs.Calls.{drained}
use Rattle.child_core.specs.Due.{is_feed_due}
use Rattle.child_core.specs.Knows.{read}
use Rattle.child_core.specs.View.{View, is_other}
use Rattle.reply_kinds.specs.Derived.{is_header_whole}
use Rattle.reply_stream.specs.declared.asked.Asked.{Asked}
use Rattle.reply_stream.specs.Writing.{IsQuiet, Stood, begun, is_begun, nothing}
use Rattle.trace_child.specs.Decided.{decided_at, outcome_of}
use Rattle.trace_child.specs.Words.{is_filled}
use Rattle.trace_model.specs.Answer.{answer_at, answer_of_failure, is_final}
use Rattle.trace_model.specs.Demands.{waits_its_turn}
use Rattle.trace_model.specs.Exchange.{Exchange, final}
use Rattle.trace_model.specs.Legs.{Leg as Started, run_of}
use Rattle.trace_model.specs.TakesNoMemory.{writes}
use Rattle.conn_laws.proofs.StartLaws.{outcomes_tell}
use Rattle.exchange_request.specs.Knows.{is_looked_at}
use Rattle.exchange_reply.specs.declared.reply.LegReply.{LegReply}
use Rattle.exchange_reply.specs.Leg.{has_ticked}
use Rattle.exchange_reply.specs.Reply.{KnowsReply, MayTickWithout, SpellsFault}
use Rattle.exchange_reply.specs.Standings.{bytes_of, is_due, next}
use Rattle.exchange_stage.specs.declared.stage.Leg.{Leg}
use Rattle.exchange_stage.specs.declared.stage.Stage.{Stage}
use Rattle.exchange_stage.specs.declared.stage.Stage.TheVariants as At
use Rattle.exchange_laws.specs.OfRun.{IsReady, IsTold, leg_held}
use Rattle.exchange_laws.specs.StageIs.{IsRunning, StageIs}
use Rattle.exchange_laws.proofs.StandLaws.{failed_as, goes_on}
use Rattle.child_laws.specs.Children.{KnowsRuns, NoMore as Whatever}
use Rattle.child_laws.specs.Step.{Turn}
use Rattle.http_conn.specs.HttpConn.{HttpConn}
use Rattle.http_conn.specs.Kept.{flags_of, number_of, site_of}
use Rattle.http_conn.specs.Ready.{HasBegun, HearsTick, LacksTick, outcome_of_run, undrained}
use Rattle.http_stage_laws.proofs.StagedLaws.{outcome_told}
use Rattle.http_stage_laws.specs.Staged.{drops_of}
use Rattle.http_step_laws.specs.Standing.{Apt, AptAt, Standing}
use Rattle.http_step_laws.proofs.StageWords.{known, more_in, stage_at}
use Rattle.good_step_laws.proofs.Shuts.EarnWords.{fault_filled}
use Rattle.good_step_laws.proofs.Shuts.OwedWords.{Owed, begins, whole}

none_stood : (stood : Stood) → false ≡ is_begun stood → stood ≡ nothing
none_stood nothing e = refl
none_stood (begun close stamp bytes) e = absurd (false≢true e)

undropped : (site : Site) (c : ℕ) (e : Exchange) (legs : List Started) (run : Option View) → KnowsRuns Whatever site c e false legs run → outcome_of_run run ≡ None → drops_of run ≡ false
undropped site c e legs None k none = refl
undropped site c e legs (Some v) k none = or_from (is_websocket v.kind) (is_other v.outcome) (ap (λ (w : View). is_websocket w.kind) k.held_as ∙ k.known.plain) (ap is_other none)

module _ (L : List Item) (ev : Event) (acts : List Act) (turn : Turn) (e : Exchange) (old : HttpConn) (n : ℕ) (s : Standing L ev acts turn n e old) (apt : Apt e old) (found : old.lost ≡ false) where
  abbrev site : Site
  site = site_of old

  abbrev c : ℕ
  c = number_of old

  -- ---- a request that was broken

  pub interrupted_owed : (cause : Cause) → old.stage ≡ At.Interrupted cause → Owed site c e
  interrupted_owed cause at =
      let is : StageIs site c e s.legs old.continued (is_looked_at old.request) (old.closing || old.closes) (more_in old e s.legs (s.staged found)) (At.Interrupted cause) = stage_at old e s.legs (At.Interrupted cause) at (s.staged found) in
      whole (ap (λ t. is_final (answer_at t)) is.0.stage_is) (ap waits_its_turn is.0.stage_is)

  -- ---- the reply of a script that runs, or ran

  module _ (leg : Leg) (at : old.stage ≡ At.Running leg) where
    r : IsRunning site c e s.legs old.continued (more_in old e s.legs (s.staged found)) leg
    r = (stage_at old e s.legs (At.Running leg) at (s.staged found)).0

    abbrev held : Started
    held = leg_held leg r.child

    text_none : leg.text ≡ []
    text_none = (subst (λ (t : Stage). AptAt old e t) at (apt.found found).at).0

    told : IsTold site c e held r.asked r.told r.ticked r.stood r.untold (more_in old e s.legs (s.staged found)) leg.ticked leg.reply
    told = subst (λ t. IsReady site c e held r.asked r.told r.ticked r.stood r.untold (more_in old e s.legs (s.staged found)) leg.ticked t leg.reply) text_none r.ready

    -- the text of a fault is no empty one
    pub spelled_filled : (cause : Cause) (closes : Bool) (stamp : Option ℕ) (text : List ℕ)
        → ((asked : Asked) (told : List ℕ) (ticked : Bool) (stood : Stood) → KnowsReply leg.reply asked told ticked stood → SpellsFault cause asked.head_only closes stamp text) → is_filled text ≡ true
    spelled_filled cause closes stamp text spells = fault_filled cause r.asked.head_only closes stamp text (spells r.asked r.told r.ticked r.stood told.knows)

    came : (o : Option Outcome) → outcome_of_run old.run ≡ o → outcome_of (run_of site c e held) e.items ≡ option_map read o
    came o is = outcome_told site c e n s.legs old.run (known L ev acts turn n e old s found) held r.last ∙ ap (λ (p : Option Outcome). option_map read p) is

    unbegun : HasBegun leg.reply false → r.stood ≡ nothing
    unbegun has = none_stood r.stood (has r.asked r.told r.ticked r.stood told.knows)

    final_none : r.stood ≡ nothing → final site c e ≡ []
    final_none none = r.run.written_by.final_is ∙ ap bytes_of none

    -- the run failed before a byte was written
    pub failed_owed : (cause : Cause) → outcome_of_run old.run ≡ Some (Ended.Failed cause) → HasBegun leg.reply false → Owed site c e
    failed_owed cause is has =
        let stage_is = failed_as site c e s.legs held r.asked r.told r.ticked r.stood r.untold r.last r.run cause (came (Some (Ended.Failed cause)) is) in
        let text : is_filled (final site c e) ≡ false = ap (λ (l : List ℕ). is_filled l) (final_none (unbegun has)) in
        whole (ap (λ t. is_final (answer_at t)) stage_is ∙ ap (λ (b : Bool). is_final (answer_of_failure (Some cause) b)) text) (ap waits_its_turn stage_is)

    -- it goes on, and all that came was told
    module _ (on : outcome_of_run old.run ≡ None) (none : undrained old.run ≡ []) (ticked : leg.ticked ≡ true) where
      all_told : child_out e.items r.child ≡ r.told
      all_told =
          r.run.output
          ∙ (ap (λ (l : List ℕ). r.told ++ l) (told.more_is ∙ ((s.staged found).kept (undropped site c e s.legs old.run (known L ev acts turn n e old s found).runs on) ∙ none)) ∙ append-nil r.told)

      undecided : decided_at (run_of site c e held) e.items ≡ None
      undecided = (outcomes_tell site c e held).none (came None on)

      has_tick : has_ticked e held ≡ (r.ticked || is_header_whole r.asked.kind r.told)
      has_tick = told.ticked_is undecided ∙ ap (λ (b : Bool). r.ticked || b && is_header_whole r.asked.kind r.told) ticked

      begins_owed : r.stood ≡ nothing → is_due r.asked.kind r.told (r.ticked || is_header_whole r.asked.kind r.told) ≡ true → Owed site c e
      begins_owed stood due =
          begins _ (goes_on site c e s.legs held r.asked r.told r.ticked r.stood r.untold r.last r.run (came None on))
          (ap (λ k. is_due k (child_out e.items r.child) (has_ticked e held)) r.run.written_by.made.kind
          ∙ (ap (λ (l : List ℕ). is_due r.asked.kind l (has_ticked e held)) all_told ∙ (ap (λ (b : Bool). is_due r.asked.kind r.told b) has_tick ∙ due)))
          (ap (λ (l : List ℕ). is_filled l) (final_none stood))

      -- memory ran out for the Tick
      pub lacks_owed : LacksTick leg.reply → Owed site c e
      lacks_owed lacks = go r.stood refl (lacks r.asked r.told r.ticked r.stood told.knows)
        where
          go : (stood : Stood) → r.stood ≡ stood → MayTickWithout r.asked r.told r.ticked stood → Owed site c e
          go nothing is due = begins_owed is due
          go (begun close stamp bytes) is due = absurd due

      -- .. or for the text that it makes due
      pub text_owed : (closes : Bool) (stamp : Option ℕ) (text : List ℕ) (reply : LegReply) → HearsTick leg.reply closes stamp text reply → HasBegun leg.reply false → is_filled text ≡ true → Owed site c e
      text_owed closes stamp text reply hears has filled = go r.stood refl (unbegun has) ((hears r.asked r.told r.ticked r.stood told.knows).quiet)
        where
          due_then : (b : Bool) → is_due r.asked.kind r.told (r.ticked || is_header_whole r.asked.kind r.told) ≡ b → IsQuiet (if b then begun closes stamp text else nothing) text → b ≡ true
          due_then true is quiet = refl
          due_then false is quiet = absurd (false≢true (sym (ap (λ (l : List ℕ). is_filled l) quiet) ∙ filled))

          go : (stood : Stood) → r.stood ≡ stood → r.stood ≡ nothing → IsQuiet (next r.asked r.told (r.ticked || is_header_whole r.asked.kind r.told) closes stamp stood text) text → Owed site c e
          go nothing is none quiet = begins_owed none (due_then (is_due r.asked.kind r.told (r.ticked || is_header_whole r.asked.kind r.told)) refl quiet)
          go (begun close then_stamp bytes) is none quiet = absurd (no_begun close then_stamp bytes (sym is ∙ none))
            where
              no_begun : (a : Bool) (b : Option ℕ) (l : List ℕ) → begun a b l ≡ nothing → ⊥
              no_begun a b l q = absurd (cc)
