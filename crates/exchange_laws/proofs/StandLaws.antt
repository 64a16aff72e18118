-- What stands at the last leg, by what its run came to.
use Rattle.std.proofs.Common.{◌≡◌, ◌≢◌, ℕ, Bool, true, false, List, [], ◌∷◌, Option, Some, None, refl, sym, ap, ◌∙◌}
use Rattle.std.proofs.lemmas.Bool.{false≢true}
use Rattle.host_base.specs.declared.cause.Cause.{Cause}
use Rattle.host_base.specs.declared.site.Site.{Site}
use Rattle.host_trace.specs.Decider.{Outcome, derived, failed, unanswered}
use Rattle.host_trace.specs.Projections.{child_out}
use Rattle.reply_kinds.specs.declared.derived.Derived.{Derived}
use Rattle.reply_kinds.specs.declared.derived.Derived.TheVariants as Output
use Rattle.reply_kinds.specs.Derived.{derived_of}
use Rattle.reply_stream.specs.declared.asked.Asked.{Asked}
use Rattle.reply_stream.specs.Writing.{Stood, nothing, begun, begun_way, IsPartOf}
use Rattle.trace_child.specs.Decided.{outcome_of}
use Rattle.trace_child.specs.Run.{Run}
use Rattle.trace_child.specs.Words.{is_filled}
use Rattle.trace_model.specs.Answer.{answered, broken_off, running, answer, answer_at, answer_of_failure, undecided, stage}
use Rattle.trace_model.specs.Exchange.{Exchange, final}
use Rattle.trace_model.specs.Legs.{Leg, run_of}
use Rattle.trace_model.specs.Standing.{stands_whole}
use Rattle.conn_laws.specs.Starts.{Decided}
use Rattle.conn_laws.proofs.EndLaws.{not_whole}
use Rattle.conn_laws.proofs.StartLaws.{outcomes_tell}
use Rattle.exchange_reply.specs.Standings.{Stands, bytes_of}
use Rattle.exchange_laws.specs.Walked.{IsLast}
use Rattle.exchange_laws.specs.OfRun.{IsOfRun, is_cut_short}
use Rattle.exchange_laws.proofs.RunLaws.{last_runs, leg_now, stands_now, started_now}

-- it is no local redirect
abbrev pub IsNoHop : Derived → Type 0
IsNoHop (Output.Hop location) = ⊥
IsNoHop _ = Unit {0}

empty_of : {X : Type 0} (items : List X) → is_filled items ≡ false → items ≡ []
empty_of [] none = refl
empty_of (x ∷ items) none = absurd (false≢true (sym none))

module _ (site : Site) (c : ℕ) (e : Exchange) (legs : List Leg) (leg : Leg) (asked : Asked) (told : List ℕ) (ticked : Bool) (stood : Stood) (more : List ℕ)
    (l : IsLast site c e legs leg) (r : IsOfRun site c e leg asked told ticked stood more) where
  abbrev run : Run
  run = run_of site c e leg

  abbrev now : Leg
  now = leg_now leg l.reached.request_then

  pub decided_by : (outcome : Outcome) → outcome_of run e.items ≡ Some outcome → Decided site c e now outcome
  decided_by outcome comes = (outcomes_tell site c e now).some outcome comes

  pub goes_on : outcome_of run e.items ≡ None → stage site c e ≡ running now
  goes_on none = last_runs site c e legs leg l ((outcomes_tell site c e now).none none)

  pub derives_told : (d : Decided site c e now derived) → outcome_of run e.items ≡ Some derived → derived_of leg.kind (child_out d.front leg.child) ≡ derived_of asked.kind told
  derives_told d comes =
      ap (derived_of leg.kind) (r.all_told d.front d.by.decided comes) ∙ ap (λ k. derived_of k told) r.written_by.made.kind

  pub ended_as : (output : Derived) → outcome_of run e.items ≡ Some derived → derived_of asked.kind told ≡ output → IsNoHop output → stage site c e ≡ answered now output
  ended_as (Output.Reply reply) comes is plain =
      let d = decided_by derived comes in
      (stands_now site c e legs leg l).replies now d.front d.item reply (started_now site c e legs leg l) d.by d.is (derives_told d comes ∙ is)
  ended_as (Output.Raw bytes) comes is plain =
      let d = decided_by derived comes in
      (stands_now site c e legs leg l).raw now d.front d.item bytes (started_now site c e legs leg l) d.by d.is (derives_told d comes ∙ is)
  ended_as (Output.Bad cause) comes is plain =
      let d = decided_by derived comes in
      (stands_now site c e legs leg l).bad now d.front d.item cause (started_now site c e legs leg l) d.by d.is (derives_told d comes ∙ is)
  ended_as (Output.Hop location) comes is plain = absurd plain

  pub failed_as : (cause : Cause) → outcome_of run e.items ≡ Some (failed cause) → stage site c e ≡ broken_off now (Some cause) (final site c e)
  failed_as cause comes =
      let d = decided_by (failed cause) comes in
      (stands_now site c e legs leg l).fails now d.front d.item cause (started_now site c e legs leg l) d.by d.is
      ∙ ap (λ b. broken_off now (Some cause) b) (r.since_decided d.front d.by.decided)

  pub unanswered_as : outcome_of run e.items ≡ Some unanswered → stage site c e ≡ broken_off now None (final site c e)
  unanswered_as comes =
      let d = decided_by unanswered comes in
      (stands_now site c e legs leg l).ends now d.front d.item (started_now site c e legs leg l) d.by d.is
      ∙ ap (λ b. broken_off now None b) (r.since_decided d.front d.by.decided)

  -- ---- the whole answer doesn't stand

  pub on_unwhole : outcome_of run e.items ≡ None → stands_whole site c e ≡ false
  on_unwhole none = (not_whole site c e).waits (ap answer_at (goes_on none))

  short_unwhole : (cause : Option Cause) → stage site c e ≡ broken_off now cause (final site c e) → stands_whole site c e ≡ false
  short_unwhole cause at = go (is_filled (final site c e)) refl
    where
      go : (some : Bool) → is_filled (final site c e) ≡ some → stands_whole site c e ≡ false
      go false none = (not_whole site c e).unwritten (empty_of (final site c e) none)
      go true some = (not_whole site c e).cut cause (ap answer_at at ∙ ap (answer_of_failure cause) some)

  pub cut_unwhole : is_cut_short (outcome_of run e.items) ≡ true → stands_whole site c e ≡ false
  cut_unwhole cut = go (outcome_of run e.items) refl cut
    where
      go : (o : Option Outcome) → outcome_of run e.items ≡ o → is_cut_short o ≡ true → stands_whole site c e ≡ false
      go None is so = absurd (false≢true so)
      go (Some derived) is so = absurd (false≢true so)
      go (Some (failed cause)) is so = short_unwhole (Some cause) (failed_as cause is)
      go (Some unanswered) is so = short_unwhole None (unanswered_as is)

  -- a reply that has begun is no local redirect and no refusal
  pub begun_answer : outcome_of run e.items ≡ Some derived → is_filled (final site c e) ≡ true → answer site c e ≢ undecided
  begun_answer comes some = by_stood stood r.written_by.final_is r.stands
    where
      by_output : (close : Bool) (stamp : Option ℕ) (bytes : List ℕ) (output : Derived) → derived_of asked.kind told ≡ output
          → IsPartOf (begun_way asked close stamp) output bytes → answer site c e ≢ undecided
      by_output close stamp bytes (Output.Reply reply) is part = λ none.
          let same = sym (ap answer_at (ended_as (Output.Reply reply) comes is tt)) ∙ none in absurd (cc)
      by_output close stamp bytes (Output.Raw raw) is part = λ none.
          let same = sym (ap answer_at (ended_as (Output.Raw raw) comes is tt)) ∙ none in absurd (cc)
      by_output close stamp bytes (Output.Hop location) is part = absurd part
      by_output close stamp bytes (Output.Bad cause) is part = absurd part

      by_stood : (s : Stood) → final site c e ≡ bytes_of s → Stands asked told ticked s → answer site c e ≢ undecided
      by_stood nothing none stands = absurd (false≢true (sym (ap is_filled none) ∙ some))
      by_stood (begun close stamp bytes) is stands = by_output close stamp bytes (derived_of asked.kind told) refl stands.1
