-- A run that was cut short, and want of memory.
use Rattle.std.proofs.Common.{◌≡◌, ◌<◌, ◌^◌, ℕ, Bool, true, false, List, [], ◌∷◌, length, Option, Some, refl, sym, ap, ◌∙◌, arith}
use Rattle.std.specs.Prelude.{◌||◌, ◌&&◌, not, if◌then◌else◌}
use Rattle.std.proofs.lemmas.Bool.{false≢true, and_right, false_from_ne_true}
use Rattle.host_base.specs.declared.cause.Cause.{Cause}
use Rattle.host_base.specs.declared.site.Site.{Site}
use Rattle.host_trace.specs.Decider.{Outcome, derived, failed, unanswered}
use Rattle.reply_kinds.specs.declared.derived.Derived.{Derived}
use Rattle.reply_kinds.specs.declared.derived.Derived.TheVariants as Output
use Rattle.reply_kinds.specs.Derived.{derived_of}
use Rattle.reply_writer.specs.Spelling.{is_head_alone, whole_content}
use Rattle.reply_writer.specs.WholeReply.{is_spelling}
use Rattle.reply_writer.proofs.WholeEndLaws.{cuts_are_not_whole}
use Rattle.reply_writer.proofs.WholeLaws.{spelling_is}
use Rattle.reply_stream.specs.declared.asked.Asked.{Asked}
use Rattle.reply_stream.specs.Memory.{IsChunked}
use Rattle.reply_stream.specs.Writing.{Stood, nothing, begun, begun_way, is_begun, IsPartOf}
use Rattle.trace_child.specs.Decided.{outcome_of}
use Rattle.trace_child.specs.Words.{implies, is_filled}
use Rattle.trace_model.specs.Answer.{broken_off, answer, answer_at, replied, stage}
use Rattle.trace_model.specs.Closes.{closes_now, is_by_nph, is_closing_cause, is_closing_fault, is_nph, persists_by, way}
use Rattle.trace_model.specs.Demands.{may_go_on, waits_its_turn}
use Rattle.trace_model.specs.Exchange.{Exchange, final, reading}
use Rattle.trace_model.specs.Legs.{Leg, run_of}
use Rattle.trace_model.specs.Readings.{headed, is_whole}
use Rattle.trace_model.specs.Standing.{is_whole_final, spells_answer, stands_whole}
use Rattle.conn_laws.proofs.EndLaws.{not_whole}
use Rattle.exchange_reply.specs.Reply.{MayEndWithout}
use Rattle.exchange_reply.specs.Standings.{Stands, bytes_of}
use Rattle.exchange_reply.specs.StepRules.{IsWrittenBy, is_continued}
use Rattle.exchange_reply.proofs.AgreementLaws.{standings_are_cuts}
use Rattle.exchange_stage.specs.declared.stage.Leg.{Leg as Held}
use Rattle.exchange_stage.specs.declared.stage.Stage.TheVariants as At
use Rattle.exchange_laws.specs.Walked.{IsLast}
use Rattle.exchange_laws.specs.OfRun.{IsOfRun, is_cut_short, leg_held}
use Rattle.exchange_laws.specs.StageIs.{IsFinishing, IsRunning, IsSilent}
use Rattle.exchange_laws.specs.Moves.{CutsAreReady, EndsAreReady, FaultsFor, HasBegunReply, LossesAreKnown, closes_of_kind}
use Rattle.exchange_laws.proofs.BodyLaws.{small_reply}
use Rattle.exchange_laws.proofs.EndingLaws.{next_hop, refused_finishes, told, too_many, unanswered_then, written_finishes}
use Rattle.exchange_laws.proofs.FinishLaws.{fault_finishes}
use Rattle.exchange_laws.proofs.RunLaws.{leg_now}
use Rattle.exchange_laws.proofs.StandLaws.{ended_as, failed_as}
use Rattle.exchange_laws.proofs.WholeLaws.{hop_walked, none_walked, walked_by_last}

-- ---- an end for which no memory was found

small_content : (alone : Bool) (body : List ℕ) → length body < 2 ^ 64 → length (if alone then [] else body) < 2 ^ 64
small_content true body small = omega (arith, small)
small_content false body small = small

module _ (site : Site) (c : ℕ) (e : Exchange) (legs : List Leg) (leg : Leg) (asked : Asked) (told_to : List ℕ) (ticked : Bool) (stood : Stood) (more : List ℕ)
    (l : IsLast site c e legs leg) (r : IsOfRun site c e leg asked told_to ticked stood more) (comes : outcome_of (run_of site c e leg) e.items ≡ Some derived) where
  -- what was cut off before the end of its chunks is no whole
  chunks_unwhole : (close : Bool) (stamp : Option ℕ) (bytes : List ℕ) (d : Derived) → derived_of asked.kind told_to ≡ d → final site c e ≡ bytes → way site c e ≡ begun_way asked close stamp
      → IsPartOf (begun_way asked close stamp) d bytes → IsChunked (begun_way asked close stamp) d → stands_whole site c e ≡ false
  chunks_unwhole close stamp bytes (Output.Raw raw) is final_is fixed part chunked = absurd chunked
  chunks_unwhole close stamp bytes (Output.Hop location) is final_is fixed part chunked = absurd chunked
  chunks_unwhole close stamp bytes (Output.Bad cause) is final_is fixed part chunked = absurd chunked
  chunks_unwhole close stamp bytes (Output.Reply reply) is final_is fixed part chunked =
      and_right (is_continued site c e) (is_whole_final site c e (final site c e)) (ap (is_whole_final site c e) final_is ∙ go bytes part)
    where
      at : answer site c e ≡ replied reply
      at = ap answer_at (ended_as site c e legs leg asked told_to ticked stood more l r (Output.Reply reply) comes is tt)

      go : (b : List ℕ) → IsPartOf (begun_way asked close stamp) (Output.Reply reply) b → is_whole_final site c e b ≡ false
      go [] cut = refl
      go (byte ∷ rest) cut =
          ap (spells_answer site c e (byte ∷ rest)) at
          ∙ ap (λ w. is_spelling (byte ∷ rest) w reply) fixed
          ∙ false_from_ne_true (is_spelling (byte ∷ rest) (begun_way asked close stamp) reply)
          (λ spelled. cuts_are_not_whole (byte ∷ rest) (whole_content reply asked.head_only) (begun_way asked close stamp) reply chunked
          (small_reply asked.kind told_to reply is r.short)
          (small_content (is_head_alone reply asked.head_only) reply.body (small_reply asked.kind told_to reply is r.short)) cut
          (spelling_is (byte ∷ rest) (begun_way asked close stamp) reply spelled))

  pub unended : (s : Stood) → IsWrittenBy site c e leg asked s → Stands asked told_to ticked s → MayEndWithout asked told_to s → stands_whole site c e ≡ false
  unended nothing by stands may = (not_whole site c e).unwritten by.final_is
  unended (begun close stamp bytes) by stands may =
      chunks_unwhole close stamp bytes (derived_of asked.kind told_to) refl by.final_is by.fixed stands.1 may

pub ends_are_ready : EndsAreReady
ends_are_ready site c e legs continued looked closing more held is none all =
    let comes = all (leg_held held is.0.child) is.0.last in
    record {
      written = λ text closes ends closes_by. (written_finishes site c e legs continued more held is.0 none comes text closes ends closes_by, is.1);
      refused = λ cause text ends spells. (refused_finishes site c e legs continued more held is.0 none comes cause text ends spells, is.1);
      leads_on = λ location ends few. (next_hop site c e legs continued more held is.0 none comes location ends few, is.1);
      loops = λ location ends many. (too_many site c e legs continued more held is.0 none comes location ends many, is.1);
      lacks = λ may. record {
        begun = true;
        left_over = (leg_held held is.0.child, is.0.asked, is.0.told, is.0.ticked, is.0.stood, is.0.untold, is.0.last, is.0.run, is.0.unclosed);
        unfinished =
            unended site c e legs (leg_held held is.0.child) is.0.asked is.0.told is.0.ticked is.0.stood is.0.untold is.0.last is.0.run comes is.0.stood
            is.0.run.written_by is.0.run.stands
            (may is.0.asked is.0.told is.0.ticked is.0.stood (told site c e legs continued more held is.0 none).knows);
      };
    }

-- ---- its run was cut short

failure_parts : (p n k w : Bool) → (k ≡ true → w ≡ false) → (not p || n || k || not w) ≡ (n || not (p && w))
failure_parts p true k w early = go p k w
  where
    go : (a b d : Bool) → (not a || true || b || not d) ≡ true
    go true b d = refl
    go false b d = refl
failure_parts true false true true early = absurd (false≢true (sym (early refl)))
failure_parts true false true false early = refl
failure_parts true false false true early = refl
failure_parts true false false false early = refl
failure_parts false false k w early = refl

failure_closes : (site : Site) (c : ℕ) (e : Exchange) (leg : Leg) (cause : Cause) → stage site c e ≡ broken_off leg (Some cause) [] → (is_closing_cause cause ≡ true → is_whole (reading site c e) ≡ false)
    → closes_of_kind site c e leg.kind ≡ closes_now site c e
failure_closes site c e leg cause at early =
    sym (ap (λ n. not (persists_by (headed (reading site c e))) || n || is_closing_fault (answer site c e) || not (is_whole (reading site c e))) (ap is_by_nph at)
    ∙ ap (λ k. not (persists_by (headed (reading site c e))) || is_nph leg.kind || k || not (is_whole (reading site c e))) (ap (λ s. is_closing_fault (answer_at s)) at)
    ∙ failure_parts (persists_by (headed (reading site c e))) (is_nph leg.kind) (is_closing_cause cause) (is_whole (reading site c e)) early)

module _ (site : Site) (c : ℕ) (e : Exchange) (legs : List Leg) (go_on : Bool) (more : List ℕ) (held : Held) (is : IsRunning site c e legs go_on more held)
    (text_none : held.text ≡ []) where
  failed_now : (cause : Cause) → outcome_of (run_of site c e (leg_held held is.child)) e.items ≡ Some (failed cause)
      → stage site c e ≡ broken_off (leg_now (leg_held held is.child) is.last.reached.request_then) (Some cause) (final site c e)
  failed_now cause comes =
      failed_as site c e legs (leg_held held is.child) is.asked is.told is.ticked is.stood is.untold is.last is.run cause comes

  begun_filled : (s : Stood) → is_begun s ≡ true → Stands is.asked is.told is.ticked s → final site c e ≡ bytes_of s → is_filled (final site c e) ≡ true
  begun_filled nothing begun_it stands is_it = absurd (false≢true begun_it)
  begun_filled (begun close stamp bytes) begun_it stands is_it =
      ap is_filled is_it ∙ (standings_are_cuts is.asked is.told is.ticked close stamp bytes is.run.short stands).some

  pub reply_filled : HasBegunReply held true → is_filled (final site c e) ≡ true
  reply_filled has =
      begun_filled is.stood (sym (has is.asked is.told is.ticked is.stood (told site c e legs go_on more held is text_none).knows)) is.run.stands is.run.written_by.final_is

  unbegun_nothing : (s : Stood) → is_begun s ≡ false → s ≡ nothing
  unbegun_nothing nothing none = refl
  unbegun_nothing (begun close stamp bytes) none = absurd (false≢true (sym none))

  pub fault_of_run : (cause : Cause) (text : List ℕ) → outcome_of (run_of site c e (leg_held held is.child)) e.items ≡ Some (failed cause) → HasBegunReply held false
      → FaultsFor site c e held cause text → IsFinishing site c e legs go_on text (closes_of_kind site c e held.kind)
  fault_of_run cause text comes has spells =
      let knows = (told site c e legs go_on more held is text_none).knows in
      let none : is.stood ≡ nothing = unbegun_nothing is.stood (sym (has is.asked is.told is.ticked is.stood knows)) in
      let at : stage site c e ≡ broken_off (leg_now (leg_held held is.child) is.last.reached.request_then) (Some cause) [] =
      failed_now cause comes ∙ ap (λ b. broken_off (leg_now (leg_held held is.child) is.last.reached.request_then) (Some cause) b) (is.run.written_by.final_is ∙ ap bytes_of none) in
      fault_finishes site c e legs go_on cause text is.asked.head_only (closes_of_kind site c e held.kind) is.unclosed
      is.run.written_by.continued (unanswered_then site c e legs go_on more held is text_none none) (walked_by_last site c e legs (leg_held held is.child) is.last)
      (ap answer_at at) (sym is.run.written_by.made.head_only)
      (failure_closes site c e (leg_now (leg_held held is.child) is.last.reached.request_then) cause at (is.early cause comes))
      (spells is.asked is.told is.ticked is.stood knows)
      (ap (λ s. implies (waits_its_turn s) (may_go_on c e)) at)

silent_by : (site : Site) (c : ℕ) (e : Exchange) (legs : List Leg) (continued : Bool) (more : List ℕ) (held : Held) → (is : IsRunning site c e legs continued more held)
    → is_cut_short (outcome_of (run_of site c e (leg_held held is.child)) e.items) ≡ true
    → ((cause : Cause) → outcome_of (run_of site c e (leg_held held is.child)) e.items ≡ Some (failed cause) → is_filled (final site c e) ≡ true)
    → IsSilent site c e legs continued
silent_by site c e legs continued more held is cut filled = record {
  unclosed = is.unclosed;
  continues_is = is.continues_is;
  leg = leg_held held is.child;
  last = is.last;
  asked = is.asked;
  told = is.told;
  ticked = is.ticked;
  stood = is.stood;
  more = is.untold;
  run = is.run;
  cut = cut;
  begun = filled;
}

not_failed : (cause : Cause) (o : Option Outcome) → o ≡ Some unanswered → o ≡ Some (failed cause) → ⊥
not_failed cause o a b = let same : Some unanswered ≡ Some (failed cause) = sym a ∙ b in absurd (cc)

pub cuts_are_ready : CutsAreReady
cuts_are_ready site c e legs continued looked closing more held is none =
    let leg : Leg = leg_held held is.0.child in
    record {
      begun = λ cause all has. (
        silent_by site c e legs continued more held is.0 (ap is_cut_short (all leg is.0.last))
            (λ other comes. reply_filled site c e legs continued more held is.0 none has),
        is.1,
      );
      unbegun = λ cause text all has spells.
          (fault_of_run site c e legs continued more held is.0 none cause text (all leg is.0.last) has spells, is.1);
      silent = λ all. (
        silent_by site c e legs continued more held is.0 (ap is_cut_short (all leg is.0.last))
            (λ cause comes. absurd (not_failed cause (outcome_of (run_of site c e leg) e.items) (all leg is.0.last) comes)),
        is.1,
      );
    }

-- ---- memory runs out

pub losses_are_known : LossesAreKnown
losses_are_known site c e legs continued looked closing more At.Reading is unfinished =
    record { begun = false; left_over = (is.0.unanswered, none_walked site c e legs is.0.none is.0.no_child); unfinished = unfinished }
losses_are_known site c e legs continued looked closing more (At.Rejected cause bare) is unfinished =
    record { begun = false; left_over = (is.0.unanswered, none_walked site c e legs is.0.none is.0.no_child); unfinished = unfinished }
losses_are_known site c e legs continued looked closing more (At.Interrupted cause) is unfinished =
    record { begun = false; left_over = (is.0.unanswered, none_walked site c e legs is.0.none is.0.no_child); unfinished = unfinished }
losses_are_known site c e legs continued looked closing more (At.Refused cause) is unfinished =
    record { begun = false; left_over = (is.0.unanswered, walked_by_last site c e legs is.0.leg is.0.last); unfinished = unfinished }
losses_are_known site c e legs continued looked closing more (At.Unstarted hop request) is unfinished =
    record { begun = false; left_over = (is.0.unanswered, hop_walked site c e legs is.0.left hop request is.0.at_hop); unfinished = unfinished }
losses_are_known site c e legs continued looked closing more (At.Starting held launch body whole) is unfinished =
    record { begun = false; left_over = (is.0.unanswered, hop_walked site c e legs is.0.left held.hop held.request is.0.at_hop); unfinished = unfinished }
losses_are_known site c e legs continued looked closing more (At.Running held) is unfinished = record {
  begun = true;
  left_over = (leg_held held is.0.child, is.0.asked, is.0.told, is.0.ticked, is.0.stood, is.0.untold, is.0.last, is.0.run, is.0.unclosed);
  unfinished = unfinished;
}
losses_are_known site c e legs continued looked closing more (At.Finishing text closes) is unfinished =
    record { begun = is.0.begun_then; left_over = is.0.left_over; unfinished = unfinished }
losses_are_known site c e legs continued looked closing more At.Answered is unfinished = absurd (false≢true (sym unfinished ∙ is.whole))
losses_are_known site c e legs continued looked closing more At.Silent is unfinished = record {
  begun = true;
  left_over = (is.0.leg, is.0.asked, is.0.told, is.0.ticked, is.0.stood, is.0.more, is.0.last, is.0.run, is.0.unclosed);
  unfinished = unfinished;
}
