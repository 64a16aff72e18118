-- The host's own reply for a cause, and what a look finds.
use Rattle.std.proofs.Common.{◌≡◌, ℕ, Bool, true, false, List, [], ◌∷◌, Some, refl, sym, ap, subst, ◌∙◌}
use Rattle.std.specs.Prelude.{◌||◌, ◌&&◌, not}
use Rattle.std.proofs.lemmas.Bool.{false≢true}
use Rattle.host_base.specs.declared.cause.Cause.{Cause}
use Rattle.host_base.specs.declared.request.Request.{Request}
use Rattle.host_base.specs.declared.site.Site.{Site}
use Rattle.host_trace.specs.Projections.{last_secs}
use Rattle.request_reader.specs.Request.{Bad}
use Rattle.ws_handshake.specs.Handshake.{handshake}
use Rattle.trace_child.specs.Words.{implies, is_filled}
use Rattle.trace_model.specs.Answer.{Stage, faulted, interrupted, refused, rejected, answer, answer_at, is_undecided, stage, walk_by}
use Rattle.trace_model.specs.Closes.{closes as closes_after, closes_now, is_by_nph, is_closing_cause, is_closing_fault, persists_by}
use Rattle.trace_model.specs.Demands.{may_go_on, waits_its_turn}
use Rattle.trace_model.specs.Exchange.{Exchange, all_of, has_final, reading}
use Rattle.trace_model.specs.Legs.{Leg}
use Rattle.trace_model.specs.Places.{origins_of, place_of}
use Rattle.trace_model.specs.Readings.{headed, is_bare, is_whole, startable}
use Rattle.trace_model.specs.Standing.{stands_whole}
use Rattle.reply_writer.specs.WholeReply.{Way}
use Rattle.conn_laws.proofs.HopLaws.{reaches_stands}
use Rattle.exchange_reply.specs.Reply.{SpellsFault}
use Rattle.exchange_reply.specs.StepRules.{Finishes, is_continued, wrote}
use Rattle.exchange_reply.proofs.NoSoonerLaws.{texts_come_no_sooner, unbegun_is_no_sooner}
use Rattle.exchange_reply.proofs.StepLaws.{faults_finish, texts_extend}
use Rattle.exchange_laws.specs.Unanswered.{IsUnanswered}
use Rattle.exchange_laws.specs.StageIs.{HasBegun, IsFinishing, IsReading, IsUnstarted, IsWalked}
use Rattle.exchange_laws.specs.Moves.{FaultsAreReady, IsFault, LooksMove, closes_early}
use Rattle.exchange_laws.proofs.CauseLaws.{mild_handshake, mild_place}
use Rattle.exchange_laws.proofs.HopStageLaws.{handshake_same, refused_handshake}
use Rattle.exchange_laws.proofs.LegsLaws.{no_children_of}
use Rattle.exchange_laws.proofs.RestLaws.{met}
use Rattle.exchange_laws.proofs.RuleLaws.{refused_way}
use Rattle.exchange_laws.proofs.UnansweredLaws.{continued_is, unanswered_not_whole, unanswered_unbegun}
use Rattle.exchange_laws.proofs.WholeLaws.{hop_walked, none_walked, walked_by_last}

-- ---- an answer of which nothing stood

-- a text that makes the answer whole is no empty one
pub whole_filled : (site : Site) (c : ℕ) (e : Exchange) (text : List ℕ) → stands_whole site c e ≡ false → stands_whole site c (wrote c e text) ≡ true → is_filled text ≡ true
whole_filled site c e [] unwhole whole = absurd (false≢true (sym unwhole ∙ whole))
whole_filled site c e (byte ∷ bytes) unwhole whole = refl

pub first_text : (site : Site) (c : ℕ) (e : Exchange) (text : List ℕ) → is_continued site c e ≡ true → has_final site c e ≡ false → is_filled text ≡ true
    → is_undecided (answer site c e) ≡ false → HasBegun site c (wrote c e text)
first_text site c e text let_on unbegun some decided = record {
  front = (wrote c e text).items;
  begins = ((texts_extend site c e text).first let_on unbegun some).0;
  no_sooner =
      texts_come_no_sooner site c e text let_on (unbegun_is_no_sooner site c e unbegun)
      (λ begun. absurd (false≢true (sym unbegun ∙ begun)))
      (λ none more waits. absurd (false≢true (sym decided ∙ waits)));
}

pub first_closes : (site : Site) (c : ℕ) (e : Exchange) (text : List ℕ) → is_continued site c e ≡ true → has_final site c e ≡ false → is_filled text ≡ true
    → closes_after site c (wrote c e text) ≡ closes_now site c e
first_closes site c e text let_on unbegun some = ap (λ (w : Way). w.close) ((texts_extend site c e text).first let_on unbegun some).1

pub fault_finishes : (site : Site) (c : ℕ) (e : Exchange) (legs : List Leg) (continued : Bool) (cause : Cause) (text : List ℕ) (bare closes : Bool) → e.closed ≡ false
    → is_continued site c e ≡ true → IsUnanswered site c e continued → IsWalked site c e legs → answer site c e ≡ faulted cause
    → bare ≡ is_bare (reading site c e) → closes ≡ closes_now site c e → SpellsFault cause bare closes (last_secs (all_of e)) text
    → implies (waits_its_turn (stage site c e)) (may_go_on c e) ≡ true → IsFinishing site c e legs continued text closes
fault_finishes site c e legs continued cause text bare closes unclosed let_on u walked faults bare_is closes_is spells turn =
    let unbegun : has_final site c e ≡ false = unanswered_unbegun site c e continued u in
    let spelled : SpellsFault cause (is_bare (reading site c e)) (closes_now site c e) (last_secs (all_of e)) text =
    subst (λ k. SpellsFault cause (is_bare (reading site c e)) k (last_secs (all_of e)) text) closes_is
    (subst (λ b. SpellsFault cause b closes (last_secs (all_of e)) text) bare_is spells) in
    let finishes : Finishes site c e text = faults_finish site c e cause text faults let_on unbegun spelled in
    let some : is_filled text ≡ true = whole_filled site c e text (unanswered_not_whole site c e continued u) finishes.whole in
    record {
      unclosed = unclosed;
      walked = walked;
      let_on = let_on;
      continues_is = continued_is site c e continued u let_on;
      begun_then = false;
      left_over = (u, walked);
      finishes = finishes;
      begun = first_text site c e text let_on unbegun some (ap is_undecided faults);
      closes_is = first_closes site c e text let_on unbegun some ∙ sym closes_is;
      turn = turn;
    }

-- ---- whether it closes

early_parts : (p n k w : Bool) → n ≡ false → k ≡ false → (not p || n || k || not w) ≡ not (p && w)
early_parts p true k w nph closing = absurd (false≢true (sym nph))
early_parts p false true w nph closing = absurd (false≢true (sym closing))
early_parts true false false w nph closing = refl
early_parts false false false w nph closing = refl

refused_closes : (site : Site) (c : ℕ) (e : Exchange) (cause : Cause) → stage site c e ≡ refused cause → is_closing_cause cause ≡ false → closes_early site c e ≡ closes_now site c e
refused_closes site c e cause at mild =
    sym (early_parts (persists_by (headed (reading site c e))) (is_by_nph (stage site c e)) (is_closing_fault (answer site c e)) (is_whole (reading site c e))
    (ap is_by_nph at) (ap (λ s. is_closing_fault (answer_at s)) at ∙ mild))

all_close : (p n k w : Bool) → k ≡ true → (not p || n || k || not w) ≡ true
all_close true true k w closing = refl
all_close true false true w closing = refl
all_close true false false w closing = absurd (false≢true closing)
all_close false n k w closing = refl

interrupted_closes : (site : Site) (c : ℕ) (e : Exchange) (cause : Cause) → stage site c e ≡ interrupted cause → is_closing_cause cause ≡ true → closes_now site c e ≡ true
interrupted_closes site c e cause at closing =
    all_close (persists_by (headed (reading site c e))) (is_by_nph (stage site c e)) (is_closing_fault (answer site c e)) (is_whole (reading site c e))
    (ap (λ s. is_closing_fault (answer_at s)) at ∙ closing)

rejected_closes : (site : Site) (c : ℕ) (e : Exchange) (cause : Cause) (bare : Bool) → reading site c e ≡ Bad cause bare → closes_now site c e ≡ true
rejected_closes site c e cause bare is =
    ap (λ r. not (persists_by (headed r)) || is_by_nph (stage site c e) || is_closing_fault (answer site c e) || not (is_whole r)) is

-- ---- all faults

rejected_at : (site : Site) (c : ℕ) (e : Exchange) (cause : Cause) (bare : Bool) → reading site c e ≡ Bad cause bare → stage site c e ≡ rejected cause
rejected_at site c e cause bare is = ap (λ r. (walk_by site c e r).stage) is

pub refused_finishes : (site : Site) (c : ℕ) (e : Exchange) (legs : List Leg) (continued : Bool) (cause : Cause) (text : List ℕ) → e.closed ≡ false
    → is_continued site c e ≡ true → IsUnanswered site c e continued → IsWalked site c e legs → stage site c e ≡ refused cause → is_closing_cause cause ≡ false
    → may_go_on c e ≡ true → IsFault site c e cause (is_bare (reading site c e)) (closes_early site c e) text
    → IsFinishing site c e legs continued text (closes_early site c e)
refused_finishes site c e legs continued cause text unclosed let_on u walked at mild may spells =
    fault_finishes site c e legs continued cause text (is_bare (reading site c e)) (closes_early site c e) unclosed let_on u walked
    (ap answer_at at) refl (refused_closes site c e cause at mild) spells (met (waits_its_turn (stage site c e)) (may_go_on c e) may)

unwaiting : (site : Site) (c : ℕ) (e : Exchange) (s : Stage) → stage site c e ≡ s → waits_its_turn s ≡ false → implies (waits_its_turn (stage site c e)) (may_go_on c e) ≡ true
unwaiting site c e s at none = ap (λ b. implies b (may_go_on c e)) (ap waits_its_turn at ∙ none)

pub faults_are_ready : FaultsAreReady
faults_are_ready site c e legs continued looked closing more text let_on unclosed = record {
  rejected = λ cause bare is spells. (
    fault_finishes site c e legs continued cause text bare true unclosed let_on is.0.unanswered (none_walked site c e legs is.0.none is.0.no_child)
        (ap answer_at (rejected_at site c e cause bare is.0.reads)) (sym (ap is_bare is.0.reads)) (sym (rejected_closes site c e cause bare is.0.reads)) spells
        (unwaiting site c e (rejected cause) (rejected_at site c e cause bare is.0.reads) refl),
    is.1,
  );
  interrupted = λ cause is spells. (
    fault_finishes site c e legs continued cause text (is_bare (reading site c e)) true unclosed let_on is.0.unanswered
        (none_walked site c e legs is.0.none is.0.no_child) (ap answer_at is.0.stage_is) refl
        (sym (interrupted_closes site c e cause is.0.stage_is is.0.closing)) spells
        (unwaiting site c e (interrupted cause) is.0.stage_is refl),
    is.1,
  );
  refused = λ cause may is spells. (
    refused_finishes site c e legs continued cause text unclosed let_on is.0.unanswered (walked_by_last site c e legs is.0.leg is.0.last)
        (refused_way site c e legs continued cause is.0) (ap is_closing_cause is.0.loops) may spells,
    is.1,
  );
  no_script = λ hop request cause may is none spells. (
    refused_finishes site c e legs continued cause text unclosed let_on is.0.unanswered
        (hop_walked site c e legs is.0.left hop request is.0.at_hop)
        ((reaches_stands site c e is.0.at_hop.reached.legs_then is.0.left hop is.0.at_hop.reached.request_then is.0.at_hop.reached.reaches).no_script cause
        (ap (place_of site) is.0.at_hop.reached.same_request ∙ none))
        (mild_place site request cause none) may spells,
    is.1,
  );
  no_handshake = λ hop request mapped cause may is place kind none spells. (
    refused_finishes site c e legs continued cause text unclosed let_on is.0.unanswered
        (hop_walked site c e legs is.0.left hop request is.0.at_hop)
        (refused_handshake site c e legs is.0.left hop request mapped cause is.0.at_hop.reached (ap (place_of site) is.0.at_hop.reached.same_request ∙ place) kind
        (ap (λ q. handshake q (origins_of site mapped)) is.0.at_hop.reached.same_request
        ∙ handshake_same request is.0.at_hop.reached.request_then.body (origins_of site mapped) ∙ none))
        (mild_handshake request (origins_of site mapped) cause none) may spells,
    is.1,
  );
}

-- ---- a look

first_hop : (site : Site) (c : ℕ) (e : Exchange) (legs : List Leg) (continued looked : Bool) (request : Request) → legs ≡ [] → IsReading site c e legs continued looked
    → startable (reading site c e) ≡ Some request → IsUnstarted site c e legs continued 0 request
first_hop site c e [] continued looked request none is start = record {
  unanswered = is.unanswered;
  left = site.limits.redirects;
  at_hop = record {
    reached = record {
      legs_then = [];
      request_then = request;
      reaches = record { first = request; start = start; unbroken = is.unbroken; leads = (refl, refl, refl) };
      same_legs = tt;
      same_request = refl;
    };
    children_are = is.no_child;
    new = λ later above. no_children_of e.items c e.number later is.no_child;
  };
  body_stays = λ chunked. refl;
}
first_hop site c e (leg ∷ legs) continued looked request none is start = absurd (cc)

pub looks_move : LooksMove
looks_move site c e legs continued looked closing more is = record {
  none = λ unready. (
    record {
      unanswered = is.0.unanswered;
      none = is.0.none;
      no_child = is.0.no_child;
      unbroken = is.0.unbroken;
      unready = λ seen. unready;
    },
    is.1,
  );
  ready = λ request start. (first_hop site c e legs continued looked request is.0.none is.0 start, is.1);
  refused = λ cause bare reads. (record { unanswered = is.0.unanswered; none = is.0.none; no_child = is.0.no_child; reads = reads }, is.1);
}
