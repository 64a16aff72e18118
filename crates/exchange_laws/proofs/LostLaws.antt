-- Items where memory ran out, and items that break a request.
use Rattle.std.proofs.Common.{◌≡◌, ◌≤◌, ℕ, Bool, true, false, List, [], ◌∷◌, ◌++◌, Option, Some, None, refl, sym, ap, subst, ◌∙◌}
use Rattle.std.specs.Prelude.{◌||◌, if◌then◌else◌, option_map}
use Rattle.std.proofs.lemmas.Bool.{false≢true, or_right}
use Rattle.host_base.specs.declared.request.Request.{Request}
use Rattle.host_base.specs.declared.site.Site.{Site}
use Rattle.host_trace.specs.declared.items.Event.TheVariants.{ClientEof, Tick}
use Rattle.host_trace.specs.declared.items.Item.{Item}
use Rattle.host_trace.specs.declared.items.Item.TheVariants.{In}
use Rattle.host_trace.specs.Decider.{Outcome, derived, failed, unanswered}
use Rattle.host_trace.specs.First.{last_of, or_else}
use Rattle.host_trace.specs.Kinds.{bytes_heard, bytes_written, child_started, is_child_eof, is_tick, output_heard}
use Rattle.host_trace.proofs.FirstLaws.{first_front-push, last_of-append}
use Rattle.reply_stream.specs.declared.asked.Asked.{Asked}
use Rattle.reply_stream.specs.Writing.{Stood, nothing, begun}
use Rattle.request_reader.specs.Request.{Reading, Whole, More, Bad}
use Rattle.trace_child.specs.Decided.{decided_at, outcome_at, outcome_of}
use Rattle.trace_child.specs.Words.{is_filled}
use Rattle.trace_child.proofs.DecidedLaws.{decided_at-stays}
use Rattle.trace_model.specs.Answer.{interrupted, walk_by, walk_by_break}
use Rattle.trace_model.specs.Breaks.{break_cause, break_cause_by, breaks, broken}
use Rattle.trace_model.specs.Closes.{is_closing_cause}
use Rattle.trace_model.specs.Exchange.{Exchange, final, pushed, reading}
use Rattle.trace_model.specs.Legs.{Leg, run_of}
use Rattle.trace_model.specs.Readings.{if_length, startable}
use Rattle.trace_model.specs.Standing.{stands_whole}
use Rattle.trace_model.proofs.AnswerLaws.{answer-push, unbroken-push}
use Rattle.trace_model.proofs.FirstByteLaws.{continue_part-push, way-push}
use Rattle.conn_laws.proofs.EndLaws.{not_whole, whole_stays}
use Rattle.conn_laws.proofs.QuietLaws.{reading-quiet}
use Rattle.conn_laws.proofs.StartLaws.{output_stays}
use Rattle.trace_model.specs.ModelLaws.{BeginsAt}
use Rattle.exchange_reply.specs.Standings.{bytes_of}
use Rattle.exchange_reply.specs.StepRules.{IsBegunAt}
use Rattle.exchange_reply.proofs.StepLaws.{items_leave}
use Rattle.exchange_stage.specs.declared.stage.Stage.TheVariants as At
use Rattle.exchange_laws.specs.Walked.{HasChildren, IsLast}
use Rattle.exchange_laws.specs.Unanswered.{IsUnanswered, IsUnready}
use Rattle.exchange_laws.specs.OfRun.{IsOfRun, is_cut_short}
use Rattle.exchange_laws.specs.StageIs.{IsInterrupted, IsLeftOver, IsLost}
use Rattle.exchange_laws.specs.Items.{BreaksInterrupt, ItemsKeepLost, cause_by}
use Rattle.exchange_laws.proofs.WalkLaws.{has_children-push, last-headed, last-push, last-start, walked-push}
use Rattle.exchange_laws.proofs.UnansweredLaws.{unanswered-push, unanswered_not_whole}
use Rattle.exchange_laws.proofs.RunLaws.{derived_by_end, of_run-push, outcome_by_front}
use Rattle.exchange_laws.proofs.StandLaws.{begun_answer, cut_unwhole, on_unwhole}

empty_of : {X : Type 0} (items : List X) → is_filled items ≡ false → items ≡ []
empty_of [] none = refl
empty_of (x ∷ items) none = absurd (false≢true (sym none))

module _ (site : Site) (c : ℕ) (e : Exchange) (x : Item) (legs : List Leg) (leg : Leg) (asked : Asked) (told : List ℕ) (ticked : Bool) (stood : Stood) (more : List ℕ)
    (two : 2 ≤ site.limits.head) (unwritten : bytes_written c x ≡ []) (starts : child_started c x ≡ []) (l : IsLast site c e legs leg)
    (r : IsOfRun site c e leg asked told ticked stood more)
    (undecided : decided_at (run_of site c e leg) e.items ≡ None → (is_tick x || is_child_eof leg.child x) ≡ false) where
  pub lost_run-push : IsOfRun site c (pushed e x) leg asked told ticked stood (more ++ output_heard leg.child x)
  lost_run-push =
      of_run-push site c e x legs leg asked told ticked stood more two unwritten starts l r
      (λ none comes. absurd (false≢true (sym (undecided none) ∙ comes)))

  last_then : IsLast site c (pushed e x) legs leg
  last_then = (last-push site c e x legs leg two starts l).last

  final_then : final site c (pushed e x) ≡ final site c e
  final_then = (items_leave site c e x asked stood two (last-headed site c e legs leg l) unwritten).final_then

  -- it was derived before
  derived_before : outcome_of (run_of site c e leg) (e.items ++ x ∷ []) ≡ Some derived → outcome_of (run_of site c e leg) e.items ≡ Some derived
  derived_before comes = go (decided_at (run_of site c e leg) e.items) refl
    where
      go : (o : Option (List Item)) → decided_at (run_of site c e leg) e.items ≡ o → outcome_of (run_of site c e leg) e.items ≡ Some derived
      go (Some f) was =
          outcome_by_front (run_of site c e leg) e.items (Some f) was
          ∙ sym (outcome_by_front (run_of site c e leg) (e.items ++ x ∷ []) (Some f) (decided_at-stays (run_of site c e leg) e.items (x ∷ []) f was)) ∙ comes
      go None none = now (decided_at (run_of site c e leg) (e.items ++ x ∷ [])) refl
        where
          now : (o : Option (List Item)) → decided_at (run_of site c e leg) (e.items ++ x ∷ []) ≡ o → outcome_of (run_of site c e leg) e.items ≡ Some derived
          now None is =
              let bad : None ≡ Some derived = sym (outcome_by_front (run_of site c e leg) (e.items ++ x ∷ []) None is) ∙ comes in absurd (cc)
          now (Some front) is =
              let all = (output_stays site c e leg x).decided_now none front is in
              let last_is : Some (outcome_at (run_of site c e leg) x) ≡ Some derived =
              sym (outcome_by_front (run_of site c e leg) (e.items ++ x ∷ []) (Some front) is
              ∙ ap (λ g. option_map (outcome_at (run_of site c e leg)) (last_of g)) all
              ∙ ap (option_map (outcome_at (run_of site c e leg))) (last_of-append e.items (x ∷ []))) ∙ comes in
              let eof = derived_by_end (run_of site c e leg) x (cc) in
              absurd (false≢true (sym (undecided none) ∙ or_right (is_tick x) (is_child_eof leg.child x) eof))

  -- nothing written makes a whole of what isn't
  whole_stays_not : (front : List Item) → BeginsAt site c e front → outcome_of (run_of site c e leg) e.items ≡ Some derived
      → is_filled (final site c e) ≡ true → stands_whole site c e ≡ false → stands_whole site c (pushed e x) ≡ false
  whole_stays_not front begins comes some unfinished =
      let head = last-headed site c e legs leg l in
      whole_stays site c e x (record {
        bytes = unwritten;
        answer_then =
            answer-push site c e x two (last-start site c e legs leg l) l.reached.reaches.unbroken
            (begun_answer site c e legs leg asked told ticked stood more l r comes some);
        continues_then = continue_part-push site c e x two head;
        way_then = way-push site c e x front two head begins;
      }) ∙ unfinished

  begun_front : (s : Stood) → final site c e ≡ bytes_of s → IsBegunAt site c e s
      → is_filled (final site c e) ≡ true → (front : List Item) × BeginsAt site c e front
  begun_front nothing none at some = absurd (false≢true (sym (ap is_filled none) ∙ some))
  begun_front (begun close stamp bytes) is at some = at

  derived_unwhole : outcome_of (run_of site c e leg) e.items ≡ Some derived → stands_whole site c e ≡ false → stands_whole site c (pushed e x) ≡ false
  derived_unwhole comes unfinished = go (is_filled (final site c e)) refl
    where
      go : (some : Bool) → is_filled (final site c e) ≡ some → stands_whole site c (pushed e x) ≡ false
      go false none = (not_whole site c (pushed e x)).unwritten (final_then ∙ empty_of (final site c e) none)
      go true some =
          let at = begun_front stood r.written_by.final_is r.written_by.begun_at some in
          whole_stays_not at.0 at.1 comes some unfinished

  pub lost_unwhole : stands_whole site c e ≡ false → stands_whole site c (pushed e x) ≡ false
  lost_unwhole unfinished = go (outcome_of (run_of site c e leg) (e.items ++ x ∷ [])) refl
    where
      go : (o : Option Outcome) → outcome_of (run_of site c e leg) (e.items ++ x ∷ []) ≡ o → stands_whole site c (pushed e x) ≡ false
      go None is = on_unwhole site c (pushed e x) legs leg asked told ticked stood (more ++ output_heard leg.child x) last_then lost_run-push is
      go (Some derived) is = derived_unwhole (derived_before is) unfinished
      go (Some (failed cause)) is =
          cut_unwhole site c (pushed e x) legs leg asked told ticked stood (more ++ output_heard leg.child x) last_then lost_run-push (ap is_cut_short is)
      go (Some unanswered) is =
          cut_unwhole site c (pushed e x) legs leg asked told ticked stood (more ++ output_heard leg.child x) last_then lost_run-push (ap is_cut_short is)

pub items_keep_lost : ItemsKeepLost
items_keep_lost site c e legs continued x two lost p = go lost.begun lost.left_over
  where
    go : (b : Bool) → IsLeftOver site c e legs continued b → IsLost site c (pushed e x) legs continued
    go false left =
        let still : IsUnanswered site c (pushed e x) continued = unanswered-push site c e x continued p.unwritten p.let_on left.0 in
        record {
          begun = false;
          left_over = (still, walked-push site c e x legs two p.starts_none left.1);
          unfinished = unanswered_not_whole site c (pushed e x) continued still;
        }
    go true (leg, asked, told, ticked, stood, more, last, run, unclosed) = record {
      begun = true;
      left_over = (
        leg,
        asked,
        told,
        ticked,
        stood,
        more ++ output_heard leg.child x,
        (last-push site c e x legs leg two p.starts_none last).last,
        lost_run-push site c e x legs leg asked told ticked stood more two p.unwritten p.starts_none last run (p.undecided leg last),
        unclosed,
      );
      unfinished =
          lost_unwhole site c e x legs leg asked told ticked stood more two p.unwritten p.starts_none last run (p.undecided leg last) lost.unfinished;
    }

-- ---- an item that breaks a request

broken-now : (site : Site) (c : ℕ) (e : Exchange) (x : Item) → breaks site c e e.items x ≡ true → broken site c e ≡ None
    → broken site c (pushed e x) ≡ Some (e.items ++ x ∷ [])
broken-now site c e x now none =
    first_front-push (breaks site c e) e.items x
    ∙ ap (λ first. or_else first (if breaks site c e e.items x then Some (e.items ++ x ∷ []) else None)) none
    ∙ ap (λ (b : Bool). if b then Some (e.items ++ x ∷ []) else None) now

-- such an item brings no bytes, writes nothing and starts nothing
pub record IsBreak (c : ℕ) (x : Item) : Type 0 where
  pub bytes : bytes_heard c x ≡ []
  pub unwritten : bytes_written c x ≡ []
  pub starts : child_started c x ≡ []
  pub closing : is_closing_cause (cause_by x) ≡ true

is_break : (site : Site) (c : ℕ) (e : Exchange) (x : Item) → breaks site c e e.items x ≡ true → IsBreak c x
is_break site c e (In (ClientEof d)) now = record { bytes = refl; unwritten = refl; starts = refl; closing = refl }
is_break site c e (In (Tick secs)) now = record { bytes = refl; unwritten = refl; starts = refl; closing = refl }
is_break site c e x now = absurd (false≢true now)

-- a reading that isn't refused
abbrev IsServed : Reading → Type 0
IsServed (Whole request used due) = Unit {0}
IsServed (More request due) = Unit {0}
IsServed (Bad cause bare) = ⊥

interrupts : (site : Site) (c : ℕ) (e : Exchange) (r : Reading) (front : List Item) → broken site c e ≡ Some front → IsServed r
    → (walk_by site c e r).stage ≡ interrupted (break_cause front)
interrupts site c e (Whole request used due) front is served = ap (λ o. (walk_by_break site c e o (Some request)).stage) is
interrupts site c e (More request due) front is served = ap (λ o. (walk_by_break site c e o (if_length request)).stage) is
interrupts site c e (Bad cause bare) front is served = absurd served

pub broken_is : (site : Site) (c : ℕ) (e : Exchange) (legs : List Leg) (continued : Bool) (x : Item) → breaks site c e e.items x ≡ true → broken site c e ≡ None
    → IsUnanswered site c e continued → legs ≡ [] → HasChildren c e [] → IsServed (reading site c e) → IsInterrupted site c (pushed e x) legs continued (cause_by x)
broken_is site c e legs continued x now none u no_legs no_child served =
    let b = is_break site c e x now in
    record {
      unanswered = unanswered-push site c e x continued b.unwritten (λ some. absurd (false≢true (sym (ap is_filled b.bytes) ∙ some))) u;
      none = no_legs;
      no_child = has_children-push c e x [] b.starts no_child;
      stage_is =
          interrupts site c (pushed e x) (reading site c (pushed e x)) (e.items ++ x ∷ []) (broken-now site c e x now none)
          (subst (λ r. IsServed r) (sym (reading-quiet site c e x b.bytes)) served)
          ∙ ap (λ (o : Option Item). interrupted (break_cause_by o)) (last_of-append e.items (x ∷ []));
      closing = b.closing;
    }

unready_served : (r : Reading) → IsUnready r → IsServed r
unready_served (Whole request used due) is = tt
unready_served (More request due) is = tt
unready_served (Bad cause bare) is = absurd is

start_served : (r : Reading) (request : Request) → startable r ≡ Some request → IsServed r
start_served (Whole first used due) request is = tt
start_served (More first due) request is = tt
start_served (Bad cause bare) request is = absurd (cc)

pub breaks_interrupt : BreaksInterrupt
breaks_interrupt site c e legs continued looked closing more x At.Reading able seen is now = (
  broken_is site c e legs continued x now is.0.unbroken is.0.unanswered is.0.none is.0.no_child
      (unready_served (reading site c e) (is.0.unready seen)),
  is.1,
)
breaks_interrupt site c e [] continued looked closing more x (At.Unstarted hop request) able seen is now = (
  broken_is site c e [] continued x now is.0.at_hop.reached.reaches.unbroken is.0.unanswered refl is.0.at_hop.children_are
      (start_served (reading site c e) is.0.at_hop.reached.reaches.first is.0.at_hop.reached.reaches.start),
  is.1,
)
breaks_interrupt site c e (leg ∷ legs) continued looked closing more x (At.Unstarted hop request) able seen is now =
    let never : Some (e.items ++ x ∷ []) ≡ None =
    sym (broken-now site c e x now is.0.at_hop.reached.reaches.unbroken)
    ∙ unbroken-push site c e x (ap is_filled is.0.at_hop.children_are) is.0.at_hop.reached.reaches.unbroken in
    absurd (cc)
breaks_interrupt site c e legs continued looked closing more x (At.Rejected cause bare) able seen is now = absurd (false≢true able)
breaks_interrupt site c e legs continued looked closing more x (At.Interrupted cause) able seen is now = absurd (false≢true able)
breaks_interrupt site c e legs continued looked closing more x (At.Refused cause) able seen is now = absurd (false≢true able)
breaks_interrupt site c e legs continued looked closing more x (At.Starting held launch body whole) able seen is now = absurd (false≢true able)
breaks_interrupt site c e legs continued looked closing more x (At.Running held) able seen is now = absurd (false≢true able)
breaks_interrupt site c e legs continued looked closing more x (At.Finishing text closes) able seen is now = absurd (false≢true able)
breaks_interrupt site c e legs continued looked closing more x At.Answered able seen is now = absurd (false≢true able)
breaks_interrupt site c e legs continued looked closing more x At.Silent able seen is now = absurd (false≢true able)
