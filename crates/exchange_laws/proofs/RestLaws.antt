-- The rules at a step's end, by where the model's exchange stands.
use Rattle.std.proofs.Common.{◌≡◌, ℕ, zero, suc, Bool, true, false, List, [], ◌∷◌, None, refl, sym, ap, ◌∙◌}
use Rattle.std.specs.Prelude.{◌||◌, ◌&&◌, not, if◌then◌else◌}
use Rattle.std.proofs.lemmas.Bool.{false≢true, and_left, and_right, or_left}
use Rattle.host_base.specs.declared.request.Request.{Request}
use Rattle.host_base.specs.declared.site.Mapped.{Mapped}
use Rattle.host_base.specs.declared.site.Site.{Site}
use Rattle.host_trace.specs.Projections.{shut, shut_for_memory}
use Rattle.request_reader.specs.Request.{Reading, Whole, More, Bad}
use Rattle.trace_child.specs.Words.{implies, is_filled}
use Rattle.trace_model.specs.Answer.{Answer, Stage, answered, broken_off, interrupted, refused, rejected, running, unready, unstarted, welcomed, answer, answer_at, cut_off, faulted, given_raw, is_final, no_answer, replied, stage, talking, undecided, walk_by, walk_by_break, legs as legs_of}
use Rattle.trace_model.specs.Answers.{answers}
use Rattle.trace_model.specs.Begins.{begins}
use Rattle.trace_model.specs.Breaks.{broken}
use Rattle.trace_model.specs.Demands.{begins_at, has_room, is_live, is_ready, is_to_stream, is_unstarted, may_go_on, must_answer, must_begin, must_hop, must_stream, waits_its_turn}
use Rattle.trace_model.specs.Exchange.{Exchange, all_of, final, has_start, reading, was_due, written}
use Rattle.trace_model.specs.Hops.{hops}
use Rattle.trace_model.specs.Legs.{Leg}
use Rattle.trace_model.specs.Readings.{if_length}
use Rattle.trace_model.specs.Replies.{is_silent_once_closed, replies}
use Rattle.trace_model.specs.Standing.{is_nothing, is_left_unfinished, is_whole_final, may_be_final, may_be_left, may_follow, may_stand, may_stand_in_part, spells_answer, stands_whole}
use Rattle.trace_model.specs.Streams.{streams}
use Rattle.conn_laws.proofs.EndLaws.{not_whole}
use Rattle.exchange_reply.specs.StepRules.{is_continued}
use Rattle.exchange_laws.specs.Unanswered.{IsUnanswered, IsUnready}

-- ---- what may stand

both : (a b : Bool) → a ≡ true → b ≡ true → (a && b) ≡ true
both true b first second = second
both false b first second = absurd (false≢true first)

first_of_both : (a b : Bool) → (a && b) ≡ true → a ≡ true
first_of_both true b is = refl
first_of_both false b is = is

second_of_both : (a b : Bool) → (a && b) ≡ true → b ≡ true
second_of_both true b is = is
second_of_both false b is = absurd (false≢true is)

pub may_by_none : (site : Site) (c : ℕ) (e : Exchange) → is_continued site c e ≡ true → final site c e ≡ [] → may_stand site c e ≡ true
may_by_none site c e let_on none =
    both (is_continued site c e) (may_be_final site c e (final site c e)) let_on (ap (may_be_final site c e) none)

whole_may : (site : Site) (c : ℕ) (e : Exchange) (bytes : List ℕ) → is_whole_final site c e bytes ≡ true → may_be_final site c e bytes ≡ true
whole_may site c e [] whole = refl
whole_may site c e (byte ∷ bytes) whole = go (answer site c e) whole
  where
    go : (a : Answer) → spells_answer site c e (byte ∷ bytes) a ≡ true → may_follow site c e (byte ∷ bytes) a ≡ true
    go (replied reply) is = is
    go (given_raw output) is = is
    go (faulted cause) is = is
    go (talking value) is = absurd (false≢true is)
    go (cut_off cause) is = absurd (false≢true is)
    go no_answer is = absurd (false≢true is)
    go undecided is = absurd (false≢true is)

pub may_by_whole : (site : Site) (c : ℕ) (e : Exchange) → stands_whole site c e ≡ true → may_stand site c e ≡ true
may_by_whole site c e whole =
    both (is_continued site c e) (may_be_final site c e (final site c e))
    (first_of_both (is_continued site c e) (is_whole_final site c e (final site c e)) whole)
    (whole_may site c e (final site c e) (second_of_both (is_continued site c e) (is_whole_final site c e (final site c e)) whole))

or_right_of : (a b : Bool) → b ≡ true → (a || b) ≡ true
or_right_of true b is = refl
or_right_of false b is = is

-- what may stand may be left where memory ran out
pub may_in_part : (site : Site) (c : ℕ) (e : Exchange) → may_stand site c e ≡ true → may_stand_in_part site c e ≡ true
may_in_part site c e may =
    or_right_of (is_nothing (written c e)) (is_continued site c e && may_be_left site c e (final site c e))
    (both (is_continued site c e) (may_be_left site c e (final site c e))
    (first_of_both (is_continued site c e) (may_be_final site c e (final site c e)) may)
    (go (final site c e) (second_of_both (is_continued site c e) (may_be_final site c e (final site c e)) may)))
  where
    go : (bytes : List ℕ) → may_be_final site c e bytes ≡ true → may_be_left site c e bytes ≡ true
    go [] is = refl
    go (byte ∷ bytes) is = or_left (may_follow site c e (byte ∷ bytes) (answer site c e)) (is_left_unfinished site c e (byte ∷ bytes) (stage site c e)) is

pub replies_by : (site : Site) (c : ℕ) (e : Exchange) → may_stand site c e ≡ true → replies site c e ≡ true
replies_by site c e may = go (shut_for_memory (all_of e) c)
  where
    go : (b : Bool) → (if b then may_stand_in_part site c e else may_stand site c e) ≡ true
    go true = may_in_part site c e may
    go false = may

-- ---- an exchange after an answer that closes

pub silent_by_open : (c : ℕ) (e : Exchange) → e.closed ≡ false → is_silent_once_closed c e ≡ true
silent_by_open c e unclosed = ap (λ b. implies b (not (is_filled (written c e)))) unclosed

pub silent_by_unanswered : (site : Site) (c : ℕ) (e : Exchange) (continued : Bool) → IsUnanswered site c e continued → is_silent_once_closed c e ≡ true
silent_by_unanswered site c e true u = go e.closed refl
  where
    go : (b : Bool) → e.closed ≡ b → implies e.closed (not (is_filled (written c e))) ≡ true
    go false is = silent_by_open c e is
    go true is =
        absurd (false≢true (sym (ap (λ b. not b && not (shut e.before c) && was_due site c e.rest e.items) is) ∙ u.continues_is))
silent_by_unanswered site c e false u = ap (λ l. implies e.closed (not (is_filled l))) u.wrote_only ∙ go e.closed
  where
    go : (b : Bool) → implies b true ≡ true
    go true = refl
    go false = refl

-- ---- what is demanded

pub record KeepsDemands (site : Site) (c : ℕ) (e : Exchange) : Type 0 where
  pub begins_then : begins site c e ≡ true
  pub answers_then : answers site c e ≡ true
  pub hops_then : hops site c e ≡ true
  pub streams_then : streams site c e ≡ true

pub no_demand : (a b : Bool) → a ≡ false → implies a b ≡ true
no_demand true b is = absurd (false≢true (sym is))
no_demand false b is = refl

pub met : (a b : Bool) → b ≡ true → implies a b ≡ true
met true b is = is
met false b is = refl

-- of a connection that is shut nothing is
pub shut_keeps : (site : Site) (c : ℕ) (e : Exchange) → is_live c (all_of e) ≡ false → KeepsDemands site c e
shut_keeps site c e dead = record {
  begins_then = no_demand (must_begin site c e) _ (ap (λ b. b && has_room c (all_of e) && is_ready (stage site c e)) dead);
  answers_then = no_demand (must_answer site c e) _ (ap (λ b. b && is_final (answer site c e) && (not (waits_its_turn (stage site c e)) || may_go_on c e)) dead);
  hops_then = no_demand (must_hop site c e) _ (ap (λ b. b && is_filled (legs_of site c e) && may_go_on c e) dead);
  streams_then = no_demand (must_stream site c e) _ (ap (λ b. b && is_to_stream e (stage site c e)) dead);
}

-- no request is startable yet
pub unready_stage : (site : Site) (c : ℕ) (e : Exchange) → broken site c e ≡ None → IsUnready (reading site c e) → stage site c e ≡ unready
unready_stage site c e none is = go (reading site c e) is
  where
    go : (r : Reading) → IsUnready r → (walk_by site c e r).stage ≡ unready
    go (Whole request used due) no_start = absurd no_start
    go (More request due) no_start =
        ap (λ o. (walk_by_break site c e o (if_length request)).stage) none ∙ ap (λ o. (walk_by_break site c e None o).stage) no_start
    go (Bad cause bare) no_start = absurd no_start

pub unready_keeps : (site : Site) (c : ℕ) (e : Exchange) → stage site c e ≡ unready → KeepsDemands site c e
unready_keeps site c e at = record {
  begins_then = no_demand (must_begin site c e) _ (and_right (is_live c (all_of e) && has_room c (all_of e)) (is_ready (stage site c e)) (ap is_ready at));
  answers_then =
      no_demand (must_answer site c e) _
      (and_left (is_live c (all_of e) && is_final (answer site c e)) _ (and_right (is_live c (all_of e)) (is_final (answer site c e)) (ap (λ s. is_final (answer_at s)) at)));
  hops_then = met (must_hop site c e) (not (is_unstarted (stage site c e))) (ap (λ s. not (is_unstarted s)) at);
  streams_then = no_demand (must_stream site c e) _ (and_right (is_live c (all_of e)) (is_to_stream e (stage site c e)) (ap (is_to_stream e) at));
}

pub running_keeps : (site : Site) (c : ℕ) (e : Exchange) (leg : Leg) → stage site c e ≡ running leg → streams site c e ≡ true → KeepsDemands site c e
running_keeps site c e leg at streamed = record {
  begins_then = met (must_begin site c e) (begins_at site c e (stage site c e)) (ap (begins_at site c e) at);
  answers_then =
      no_demand (must_answer site c e) _
      (and_left (is_live c (all_of e) && is_final (answer site c e)) _ (and_right (is_live c (all_of e)) (is_final (answer site c e)) (ap (λ s. is_final (answer_at s)) at)));
  hops_then = met (must_hop site c e) (not (is_unstarted (stage site c e))) (ap (λ s. not (is_unstarted s)) at);
  streams_then = streamed;
}

-- the whole answer stands
pub whole_keeps : (site : Site) (c : ℕ) (e : Exchange) → stands_whole site c e ≡ true → KeepsDemands site c e
whole_keeps site c e whole = record {
  begins_then = met (must_begin site c e) (begins_at site c e (stage site c e)) (begun (stage site c e) refl);
  answers_then = met (must_answer site c e) (stands_whole site c e) whole;
  hops_then = met (must_hop site c e) (not (is_unstarted (stage site c e))) (started (stage site c e) refl);
  streams_then =
      no_demand (must_stream site c e) _ (and_right (is_live c (all_of e)) (is_to_stream e (stage site c e)) (ended (stage site c e) refl));
}
  where
    never : (s : Stage) → stage site c e ≡ s → answer_at s ≡ undecided → ⊥
    never s at none = absurd (false≢true (sym ((not_whole site c e).waits (ap answer_at at ∙ none)) ∙ whole))

    spoken : (value : List ℕ) (request : Request) (mapped : Mapped) → stage site c e ≡ welcomed value request mapped → ⊥
    spoken value request mapped at = absurd (false≢true (sym unspelled ∙ whole))
      where
        go : (bytes : List ℕ) → is_whole_final site c e bytes ≡ false
        go [] = refl
        go (byte ∷ bytes) = ap (λ s. spells_answer site c e (byte ∷ bytes) (answer_at s)) at

        unspelled : stands_whole site c e ≡ false
        unspelled = and_right (is_continued site c e) (is_whole_final site c e (final site c e)) (go (final site c e))

    begun : (s : Stage) → stage site c e ≡ s → begins_at site c e s ≡ true
    begun (unstarted zero request mapped) at = absurd (never (unstarted zero request mapped) at refl)
    begun (unstarted (suc hop) request mapped) at = refl
    begun (refused cause) at = or_right_of (has_start c e) (stands_whole site c e) whole
    begun (welcomed value request mapped) at = absurd (spoken value request mapped at)
    begun (rejected cause) at = refl
    begun (interrupted cause) at = refl
    begun unready at = refl
    begun (running leg) at = refl
    begun (broken_off leg cause stood) at = refl
    begun (answered leg output) at = refl

    started : (s : Stage) → stage site c e ≡ s → not (is_unstarted s) ≡ true
    started (unstarted hop request mapped) at = absurd (never (unstarted hop request mapped) at refl)
    started (refused cause) at = refl
    started (welcomed value request mapped) at = refl
    started (rejected cause) at = refl
    started (interrupted cause) at = refl
    started unready at = refl
    started (running leg) at = refl
    started (broken_off leg cause stood) at = refl
    started (answered leg output) at = refl

    ended : (s : Stage) → stage site c e ≡ s → is_to_stream e s ≡ false
    ended (running leg) at = absurd (never (running leg) at refl)
    ended (unstarted hop request mapped) at = refl
    ended (refused cause) at = refl
    ended (welcomed value request mapped) at = refl
    ended (rejected cause) at = refl
    ended (interrupted cause) at = refl
    ended unready at = refl
    ended (broken_off leg cause stood) at = refl
    ended (answered leg output) at = refl
