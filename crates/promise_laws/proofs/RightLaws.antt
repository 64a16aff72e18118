-- What is written to a client is right, exchange by exchange.
use Rattle.std.proofs.Common.{◌≡◌, ℕ, ◌<◌, Bool, true, false, List, [], ◌∷◌, Option, Some, None, refl, sym, ap, ◌∙◌, inl, inr, length}
use Rattle.std.specs.Prelude.{drop, nat_eq, ◌&&◌, ◌||◌}
use Rattle.std.specs.List.{list_any, starts_with}
use Rattle.std.proofs.lemmas.Bool.{and_parts, cond-false, cond-true, cases_Bool, false≢true, lt-ltb, or_cases}
use Rattle.std.proofs.lemmas.Slice.Eq.{bytes_eq-Decides}
use Rattle.host_base.specs.declared.cause.Cause.{Cause}
use Rattle.host_base.specs.declared.reply.Reply.{Reply}
use Rattle.host_base.specs.declared.site.Site.{Site}
use Rattle.host_trace.specs.declared.items.Item.{Item}
use Rattle.host_trace.specs.declared.items.Item.TheVariants.{In, Out}
use Rattle.host_trace.specs.Account.{has_unsettled}
use Rattle.host_trace.specs.Kinds.{is_accepted}
use Rattle.host_trace.specs.Projections.{accepted_count, child_out, own, shut_for_memory}
use Rattle.own_traces.specs.OwnLaws.{Says}
use Rattle.own_traces.proofs.SameLaws.{says}
use Rattle.reply_kinds.specs.declared.derived.Derived.{Derived}
use Rattle.reply_kinds.specs.declared.derived.Derived.TheVariants as Output
use Rattle.reply_kinds.specs.Derived.{derived_of, is_streamable}
use Rattle.reply_writer.specs.CutReply.{cut_part}
use Rattle.reply_writer.specs.FaultReply.{fault_reply_of}
use Rattle.reply_writer.proofs.FrontLaws.{front_is}
use Rattle.reply_writer.proofs.WholeLaws.{cut_is, spelling_is}
use Rattle.ws_handshake.specs.Handshake.{accept_text}
use Rattle.trace_model.specs.Exchange.{Exchange, all_of, continue_part, final, written}
use Rattle.trace_model.specs.Legs.{Leg}
use Rattle.trace_model.specs.Answer.{Stage, rejected, interrupted, unready, refused, welcomed, unstarted, running, broken_off, answered, answer_at, stage}
use Rattle.trace_model.specs.Closes.{fault_way, way}
use Rattle.trace_model.specs.Standing.{begun_of, derived_so_far, is_cut, is_cut_of, is_front_of, is_left_standing, is_left_unfinished, is_nothing, is_whole_final, may_be_final, may_be_left, may_follow, spells_answer}
use Rattle.trace_model.specs.Exchanges.{current, ends_by, has_ended}
use Rattle.trace_model.specs.Good.{GoodFor, begins_with_event}
use Rattle.trace_model.specs.Replies.{replies}
use Rattle.trace_model.proofs.EndLaws.{stands_at_the_end}
use Rattle.trace_model.proofs.ExchangeLaws.{written-exchanges}
use Rattle.trace_laws.specs.Promised.{Promised}
use Rattle.trace_laws.proofs.PrefixLaws.{Stands, stands}
use Rattle.promise_laws.specs.Grounds.{IsRun, by_output}
use Rattle.promise_laws.specs.Replies.{GoesOn, answers, gives_up, IsAnswered, IsFront, nothing, whole, accept, part, raw_part, IsOpen, runs, stopped_at, left, IsReply, of_host, of_output, of_script, IsWrittenRight}
use Rattle.promise_laws.proofs.BehindLaws.{AllBehind, all_behind}
use Rattle.promise_laws.proofs.GroundLaws.{Ground, stage_grounded}

module _ (site : Site) (c : ℕ) (e : Exchange) (bytes : List ℕ) where
  -- ---- a whole reply

  of_fault : (cause : Cause) → Ground site c e (rejected cause) → spells_answer site c e bytes (answer_at (rejected cause)) ≡ true → IsReply site c e bytes
  of_fault cause ground is = of_host cause ground (spelling_is bytes (fault_way site c e) (fault_reply_of cause) is)

  reply_at : (s : Stage) → Ground site c e s → spells_answer site c e bytes (answer_at s) ≡ true → IsReply site c e bytes
  reply_at (rejected cause) ground is = of_fault cause ground is
  reply_at (interrupted cause) ground is = of_fault cause ground is
  reply_at unready ground is = absurd (false≢true is)
  reply_at (refused cause) ground is = of_fault cause ground is
  reply_at (welcomed value request mapped) ground is = absurd (false≢true is)
  reply_at (unstarted hop request mapped) ground is = absurd (false≢true is)
  reply_at (running leg) ground is = absurd (false≢true is)
  reply_at (broken_off leg None []) ground is = absurd (false≢true is)
  reply_at (broken_off leg None (byte ∷ stood)) ground is = absurd (false≢true is)
  reply_at (broken_off leg (Some cause) []) ground is = of_fault cause ground.2 is
  reply_at (broken_off leg (Some cause) (byte ∷ stood)) ground is = absurd (false≢true is)
  reply_at (answered leg (Output.Reply reply)) ground is =
      of_script leg ground.1.output reply ground.0 ground.1.ended ground.1.derives (spelling_is bytes (way site c e) reply is)
  reply_at (answered leg (Output.Raw output)) ground is =
      let same : bytes ≡ output = (bytes_eq-Decides bytes output).0 is in
      of_output leg ground.1.output ground.0 ground.1.ended (ground.1.derives ∙ ap (λ (l : List ℕ). Output.Raw l) (sym same))
  reply_at (answered leg (Output.Bad cause)) ground is =
      of_host cause (by_output leg ground.1.output ground.0 ground.1.ended ground.1.derives) (spelling_is bytes (fault_way site c e) (fault_reply_of cause) is)
  reply_at (answered leg (Output.Hop location)) ground is = absurd ground

  -- ---- a reply that is cut off

  part_cut : (leg : Leg) → IsRun site c e leg → IsOpen site c e leg bytes → is_streamable leg.kind (child_out e.items leg.child) ≡ true → (reply : Reply)
      → derived_of leg.kind (child_out e.items leg.child) ≡ Output.Reply reply → (o : Option (List ℕ)) → cut_part bytes (way site c e) reply ≡ o → is_front_of reply.body o ≡ true
      → IsFront site c e bytes
  part_cut leg run open_then may reply derives None is front = absurd (false≢true front)
  part_cut leg run open_then may reply derives (Some sent) is front =
      part leg reply sent (drop (length sent) reply.body) run open_then (record { may = may; derives = derives }) (cut_is bytes (way site c e) reply sent is) (front_is reply.body sent front)

  part_of_kind : (leg : Leg) → IsRun site c e leg → IsOpen site c e leg bytes → is_streamable leg.kind (child_out e.items leg.child) ≡ true → (d : Derived)
      → derived_of leg.kind (child_out e.items leg.child) ≡ d → is_cut_of site c e bytes (Some d) ≡ true → IsFront site c e bytes
  part_of_kind leg run open_then may (Output.Reply reply) derives is = part_cut leg run open_then may reply derives (cut_part bytes (way site c e) reply) refl is
  part_of_kind leg run open_then may (Output.Raw output) derives is =
      raw_part leg output (drop (length bytes) output) run open_then (record { may = may; derives = derives }) (front_is output bytes is)
  part_of_kind leg run open_then may (Output.Hop location) derives is = absurd (false≢true is)
  part_of_kind leg run open_then may (Output.Bad cause) derives is = absurd (false≢true is)

  part_is : (leg : Leg) → IsRun site c e leg → IsOpen site c e leg bytes → is_cut_of site c e bytes (derived_so_far leg (child_out e.items leg.child)) ≡ true → IsFront site c e bytes
  part_is leg run open_then is = elim (cases_Bool (is_streamable leg.kind (child_out e.items leg.child))) [
    | inl may ↦
        part_of_kind leg run open_then may (derived_of leg.kind (child_out e.items leg.child)) refl
        (sym (ap (is_cut_of site c e bytes) (cond-true (is_streamable leg.kind (child_out e.items leg.child)) (Some (derived_of leg.kind (child_out e.items leg.child))) None may)) ∙ is)
    | inr not_yet ↦
        absurd (false≢true (sym (ap (is_cut_of site c e bytes) (cond-false (is_streamable leg.kind (child_out e.items leg.child)) (Some (derived_of leg.kind (child_out e.items leg.child))) None not_yet)) ∙ is))
  ]

  cut_at : (s : Stage) → stage site c e ≡ s → is_cut site c e bytes ≡ true → is_cut_of site c e bytes (begun_of e s) ≡ true
  cut_at s now is = sym (ap (λ (t : Stage). is_cut_of site c e bytes (begun_of e t)) now) ∙ is

  -- ---- what may stand

  stopped_front : (leg : Leg) (cause : Option Cause) (stood : List ℕ) → stage site c e ≡ broken_off leg cause stood → IsRun site c e leg → (bytes ≡ stood → IsOpen site c e leg bytes)
      → (is_left_standing bytes (stage site c e) && is_cut site c e bytes) ≡ true → IsFront site c e bytes
  stopped_front leg cause stood now run opens is =
      let p = and_parts (is_left_standing bytes (stage site c e)) (is_cut site c e bytes) is in
      let same : bytes ≡ stood = (bytes_eq-Decides bytes stood).0 (sym (ap (is_left_standing bytes) now) ∙ p.0) in
      part_is leg run (opens same) (cut_at (broken_off leg cause stood) now p.1)

  follows : (s : Stage) → stage site c e ≡ s → Ground site c e s → may_follow site c e bytes (answer_at s) ≡ true → IsFront site c e bytes
  follows (rejected cause) now ground is = whole (reply_at (rejected cause) ground is)
  follows (interrupted cause) now ground is = whole (reply_at (interrupted cause) ground is)
  follows unready now ground is = absurd (false≢true (cut_at unready now is))
  follows (refused cause) now ground is = whole (reply_at (refused cause) ground is)
  follows (welcomed value request mapped) now ground is = accept value ground ((bytes_eq-Decides bytes (accept_text value)).0 is)
  follows (unstarted hop request mapped) now ground is = absurd (false≢true (cut_at (unstarted hop request mapped) now is))
  follows (running leg) now ground is = part_is leg ground.0 (runs ground.1) (cut_at (running leg) now is)
  follows (broken_off leg None []) now ground is = absurd (false≢true is)
  follows (broken_off leg None (byte ∷ stood)) now ground is =
      let g = ground.1 in
      stopped_front leg None (byte ∷ stood) now ground.0 (λ same. stopped_at g.before g.item g.later g.stands g.undecided (same ∙ g.stood_is)) is
  follows (broken_off leg (Some cause) []) now ground is = whole (reply_at (broken_off leg (Some cause) []) ground is)
  follows (broken_off leg (Some cause) (byte ∷ stood)) now ground is =
      let g = ground.1 in
      stopped_front leg (Some cause) (byte ∷ stood) now ground.0 (λ same. stopped_at g.before g.item g.later g.stands g.undecided (same ∙ g.stood_is)) is
  follows (answered leg (Output.Reply reply)) now ground is = whole (reply_at (answered leg (Output.Reply reply)) ground is)
  follows (answered leg (Output.Raw output)) now ground is = whole (reply_at (answered leg (Output.Raw output)) ground is)
  follows (answered leg (Output.Bad cause)) now ground is = whole (reply_at (answered leg (Output.Bad cause)) ground is)
  follows (answered leg (Output.Hop location)) now ground is = absurd ground

  -- where memory was wanting, what stood before the end of the output may be left
  unfinished : (s : Stage) → stage site c e ≡ s → Ground site c e s → shut_for_memory (all_of e) c ≡ true → is_left_unfinished site c e bytes s ≡ true → IsFront site c e bytes
  unfinished (answered leg (Output.Hop location)) now ground memory is = absurd ground
  unfinished (answered leg (Output.Reply reply)) now ground memory is = part_is leg ground.0 (left memory) is
  unfinished (answered leg (Output.Raw output)) now ground memory is = part_is leg ground.0 (left memory) is
  unfinished (answered leg (Output.Bad cause)) now ground memory is = part_is leg ground.0 (left memory) is
  unfinished _ now ground memory is = absurd (false≢true is)

-- ---- an exchange

pub has_answered : (site : Site) (c : ℕ) (e : Exchange) → has_ended site c e ≡ true → IsAnswered site c e
has_answered site c e is = go (has_unsettled e.items c) refl is
  where
    whole_final : (bytes : List ℕ) → is_whole_final site c e bytes ≡ true → IsReply site c e bytes
    whole_final [] is = absurd (false≢true is)
    whole_final (byte ∷ bytes) is = reply_at site c e (byte ∷ bytes) (stage site c e) (stage_grounded site c e) is

    go : (b : Bool) → has_unsettled e.items c ≡ b → ends_by site c e b ≡ true → IsAnswered site c e
    go true unsettled is = absurd (false≢true is)
    go false settled is =
        let p = and_parts (starts_with nat_eq (written c e) (continue_part site c e)) (is_whole_final site c e (final site c e)) is in
        record { bytes = final site c e; wrote = front_is (written c e) (continue_part site c e) p.0; reply = whole_final (final site c e) p.1; settled = settled }

module _ (site : Site) (c : ℕ) (e : Exchange) where
  may_be : (bytes : List ℕ) → may_be_final site c e bytes ≡ true → IsFront site c e bytes
  may_be [] is = nothing refl
  may_be (byte ∷ bytes) is = follows site c e (byte ∷ bytes) (stage site c e) refl (stage_grounded site c e) is

  may_be_part : (bytes : List ℕ) → shut_for_memory (all_of e) c ≡ true → may_be_left site c e bytes ≡ true → IsFront site c e bytes
  may_be_part [] memory is = nothing refl
  may_be_part (byte ∷ bytes) memory is =
      elim (or_cases (may_follow site c e (byte ∷ bytes) (answer_at (stage site c e))) (is_left_unfinished site c e (byte ∷ bytes) (stage site c e)) is) [
        | inl may ↦ follows site c e (byte ∷ bytes) (stage site c e) refl (stage_grounded site c e) may
        | inr unended ↦ unfinished site c e (byte ∷ bytes) (stage site c e) refl (stage_grounded site c e) memory unended
      ]

  nothing_is : (bytes : List ℕ) → is_nothing bytes ≡ true → bytes ≡ []
  nothing_is [] is = refl
  nothing_is (byte ∷ bytes) is = absurd (false≢true is)

  pub goes_on : replies site c e ≡ true → GoesOn site c e
  goes_on is = elim (cases_Bool (shut_for_memory (all_of e) c)) [
    | inr found ↦
        let so_far = sym (cond-false (shut_for_memory (all_of e) c) _ (starts_with nat_eq (written c e) (continue_part site c e) && may_be_final site c e (final site c e)) found) ∙ is in
        let p = and_parts (starts_with nat_eq (written c e) (continue_part site c e)) (may_be_final site c e (final site c e)) so_far in
        answers (final site c e) (front_is (written c e) (continue_part site c e) p.0) (may_be (final site c e) p.1)
    | inl memory ↦
        let so_far = sym (cond-true (shut_for_memory (all_of e) c) (is_nothing (written c e) || starts_with nat_eq (written c e) (continue_part site c e) && may_be_left site c e (final site c e)) _ memory) ∙ is in
        elim (or_cases (is_nothing (written c e)) (starts_with nat_eq (written c e) (continue_part site c e) && may_be_left site c e (final site c e)) so_far) [
          | inl none ↦ gives_up memory (nothing_is (written c e) none)
          | inr some ↦
              let p = and_parts (starts_with nat_eq (written c e) (continue_part site c e)) (may_be_left site c e (final site c e)) some in
              answers (final site c e) (front_is (written c e) (continue_part site c e) p.0) (may_be_part (final site c e) memory p.1)
        ]
  ]

-- ---- the law

replies_at_end : (site : Site) (c : ℕ) (L : List Item) → list_any is_accepted L ≡ true → GoodFor site c L → begins_with_event L ≡ true → replies site c (current site c L) ≡ true
replies_at_end site c [] known good b = absurd (false≢true known)
replies_at_end site c (In event ∷ items) known good b = stands_at_the_end site c event items good
replies_at_end site c (Out act ∷ items) known good b = absurd (false≢true b)

pub replies_right : (site : Site) (T : List Item) (c : ℕ) → Promised site T → c < accepted_count T → IsWrittenRight site T c
replies_right site T c f known =
    let s : Stands T = stands site T f in
    let L : List Item = own T c in
    let said : Says T c = says T c s.between in
    let all : AllBehind site c (own T c) = all_behind site c (has_answered site c) (own T c) in
    record {
      wrote = sym said.client_got ∙ written-exchanges site c (own T c);
      each = all.each;
      behind = all.behind;
      nothing_more = all.nothing_more;
      goes_on = goes_on site c (current site c (own T c))
          (replies_at_end site c (own T c) (s.between.accepts c ∙ lt-ltb c (accepted_count T) known) (f.good.connections c (lt-ltb c (accepted_count T) known)) (s.begins c));
    }
