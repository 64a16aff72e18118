-- What is written of an answer.
use Rattle.std.proofs.Common.{◌≡◌, ◌≤◌, ◌<◌, ◌^◌, ℕ, Bool, true, false, List, [], ◌∷◌, ◌++◌, length, Option, Some, None, refl, sym, ap, subst, ◌∙◌, append-nil}
use Rattle.std.specs.Prelude.{◌||◌, ◌&&◌, if◌then◌else◌}
use Rattle.std.proofs.lemmas.Bool.{false≢true}
use Rattle.host_base.specs.declared.request.Request.{Request}
use Rattle.host_base.specs.declared.site.Site.{Site}
use Rattle.host_trace.specs.declared.items.Act.TheVariants.{Write}
use Rattle.host_trace.specs.declared.items.Item.{Item}
use Rattle.host_trace.specs.declared.items.Item.TheVariants.{Out}
use Rattle.host_trace.specs.Decider.{failed}
use Rattle.host_trace.specs.First.{or_else}
use Rattle.host_trace.specs.Projections.{child_out, last_secs}
use Rattle.reply_kinds.specs.Derived.{is_header_whole}
use Rattle.reply_stream.specs.declared.asked.Asked.{Asked}
use Rattle.reply_stream.specs.Writing.{Stood, nothing, begun, IsQuiet}
use Rattle.trace_child.specs.Decided.{decides_run, decided_at}
use Rattle.trace_child.specs.Words.{is_filled}
use Rattle.trace_child.proofs.DecidedLaws.{decided_at-push}
use Rattle.trace_model.specs.Answer.{stage}
use Rattle.trace_model.specs.Closes.{closes_now}
use Rattle.trace_model.specs.Demands.{is_to_stream}
use Rattle.trace_model.specs.Exchange.{Exchange, all_of, continue_text, continues, final, has_final, pushed}
use Rattle.trace_model.specs.Legs.{Leg, run_of}
use Rattle.trace_model.specs.ModelLaws.{BeginsAt}
use Rattle.trace_model.proofs.FirstByteLaws.{continues-push}
use Rattle.conn_laws.proofs.QuietLaws.{act_breaks_none, act_undecides}
use Rattle.exchange_reply.specs.declared.reply.LegReply.{LegReply}
use Rattle.exchange_reply.specs.Leg.{has_ticked}
use Rattle.exchange_reply.specs.Reply.{Gives}
use Rattle.exchange_reply.specs.Standings.{Stands, bytes_of, is_due, next}
use Rattle.exchange_reply.specs.StepRules.{HandsOn, IsBegunAt, IsWrittenBy, next_at, wrote}
use Rattle.exchange_reply.proofs.AgreementLaws.{standings_are_cuts}
use Rattle.exchange_reply.proofs.FirstByteLaws.{writes_are_of_answers}
use Rattle.exchange_reply.proofs.KnownLaws.{known_stand}
use Rattle.exchange_reply.proofs.LegLaws.{dues_are_demanded}
use Rattle.exchange_reply.proofs.NoSoonerLaws.{texts_come_no_sooner}
use Rattle.exchange_reply.proofs.StepLaws.{handings_stand, texts_extend}
use Rattle.exchange_stage.specs.declared.stage.Leg.{Leg as Held}
use Rattle.exchange_stage.specs.declared.stage.Stage.TheVariants as At
use Rattle.exchange_laws.specs.Walked.{IsLast}
use Rattle.exchange_laws.specs.Unanswered.{IsUnanswered, IsUnready, is_awaited}
use Rattle.exchange_laws.specs.OfRun.{IsHanded, IsOfRun, IsReady, leg_held}
use Rattle.exchange_laws.specs.StageIs.{IsRunning, IsWalked, StageIs}
use Rattle.exchange_laws.specs.Items.{ContinuesAreWritten, PartsAreWritten, RestsAreWritten}
use Rattle.exchange_laws.proofs.ItemLaws.{body-push}
use Rattle.exchange_laws.proofs.RunLaws.{last_runs, leg_now, outcome_by_front}
use Rattle.exchange_laws.proofs.UnansweredLaws.{continues-quiet, continues_then}
use Rattle.exchange_laws.proofs.WalkLaws.{at_hop-push, has_children-push, last-headed, last-push, leads-push, walked-push}

-- ---- 100 Continue

pub continues_then_written : (site : Site) (c : ℕ) (e : Exchange) → is_awaited site c e ≡ true → IsUnanswered site c e false
    → IsUnanswered site c (pushed e (Out (Write c continue_text))) true
continues_then_written site c e due u = record {
  wrote_only = (writes_are_of_answers site c e continue_text).written_then ∙ ap (λ l. l ++ continue_text) u.wrote_only;
  continues_is =
      continues_then site c e (Out (Write c continue_text))
      ∙ ap (λ b. b || is_awaited site c (pushed e (Out (Write c continue_text)))) (u.continues_is ∙ due);
}

pub continues_are_written : ContinuesAreWritten
continues_are_written site c e legs looked closing more At.Reading two so is due = (
  record {
    unanswered = continues_then_written site c e due is.0.unanswered;
    none = is.0.none;
    no_child = has_children-push c e (Out (Write c continue_text)) [] refl is.0.no_child;
    unbroken = act_breaks_none site c e (Write c continue_text) ∙ is.0.unbroken;
    unready = λ seen. subst (λ r. IsUnready r) (sym (writes_are_of_answers site c e continue_text).reading_then) (is.0.unready seen);
  },
  is.1,
)
continues_are_written site c e legs looked closing more (At.Rejected cause bare) two so is due = (
  record {
    unanswered = continues_then_written site c e due is.0.unanswered;
    none = is.0.none;
    no_child = has_children-push c e (Out (Write c continue_text)) [] refl is.0.no_child;
    reads = (writes_are_of_answers site c e continue_text).reading_then ∙ is.0.reads;
  },
  is.1,
)
continues_are_written site c e legs looked closing more (At.Interrupted cause) two so is due = (
  record {
    unanswered = continues_then_written site c e due is.0.unanswered;
    none = is.0.none;
    no_child = has_children-push c e (Out (Write c continue_text)) [] refl is.0.no_child;
    stage_is = (writes_are_of_answers site c e continue_text).stage_then ∙ is.0.stage_is;
    closing = is.0.closing;
  },
  is.1,
)
continues_are_written site c e legs looked closing more (At.Refused cause) two so is due =
    let still = last-push site c e (Out (Write c continue_text)) legs is.0.leg two refl is.0.last in (
      record {
        unanswered = continues_then_written site c e due is.0.unanswered;
        loops = is.0.loops;
        leg = is.0.leg;
        last = still.last;
        none_left = still.left_is ∙ is.0.none_left;
        location = is.0.location;
        leads = leads-push site c e (Out (Write c continue_text)) is.0.leg.hop is.0.leg.request is.0.leg is.0.location is.0.leads;
      },
      is.1,
    )
continues_are_written site c e legs looked closing more (At.Unstarted hop request) two so is due =
    let x : Item = Out (Write c continue_text) in
    let at = at_hop-push site c e x legs is.0.left hop request two (act_breaks_none site c e (Write c continue_text) ∙ is.0.at_hop.reached.reaches.unbroken) refl is.0.at_hop in (
      record {
        unanswered = continues_then_written site c e due is.0.unanswered;
        left = is.0.left;
        at_hop = at;
        body_stays = body-push site c e x legs is.0.left hop request two is.0.at_hop.reached at.reached is.0.body_stays;
      },
      is.1,
    )
continues_are_written site c e legs looked closing more _ two so is due = absurd (false≢true so)

-- ---- a part

pub by_leg : (site : Site) (c : ℕ) (e : Exchange) (leg : Leg) (request : Request) (asked : Asked) (stood : Stood) → IsWrittenBy site c e leg asked stood
    → IsWrittenBy site c e (leg_now leg request) asked stood
by_leg site c e leg request asked stood by = record {
  made = record { kind = by.made.kind; version = by.made.version; head_only = by.made.head_only };
  continued = by.continued;
  final_is = by.final_is;
  fixed = by.fixed;
  begun_at = by.begun_at;
}

pub by_now : (site : Site) (c : ℕ) (e : Exchange) (leg : Leg) (request : Request) (asked : Asked) (stood : Stood) → IsWrittenBy site c e (leg_now leg request) asked stood
    → IsWrittenBy site c e leg asked stood
by_now site c e leg request asked stood by = record {
  made = record { kind = by.made.kind; version = by.made.version; head_only = by.made.head_only };
  continued = by.continued;
  final_is = by.final_is;
  fixed = by.fixed;
  begun_at = by.begun_at;
}

pub first_front_of : (site : Site) (c : ℕ) (e : Exchange) (s : Stood) → final site c e ≡ bytes_of s → IsBegunAt site c e s → has_final site c e ≡ true
    → (front : List Item) × BeginsAt site c e front
first_front_of site c e nothing none at some = absurd (false≢true (sym (ap is_filled none) ∙ some))
first_front_of site c e (begun close stamp bytes) is at some = at

quiet_due : (close : Bool) (stamp : Option ℕ) (text : List ℕ) (due : Bool) → is_filled text ≡ true → IsQuiet (if due then begun close stamp text else nothing) text → due ≡ true
quiet_due close stamp text true some quiet = refl
quiet_due close stamp text false some quiet = absurd (false≢true (sym (ap is_filled quiet) ∙ some))

module _ (site : Site) (c : ℕ) (e : Exchange) (legs : List Leg) (leg : Leg) (asked : Asked) (told : List ℕ) (ticked : Bool) (stood : Stood) (untold : List ℕ)
    (two : 2 ≤ site.limits.head) (l : IsLast site c e legs leg) (r : IsOfRun site c e leg asked told ticked stood untold) where
  -- the first byte is due
  first_is_due : (text : List ℕ) (s : Stood) → is_filled text ≡ true → Stands asked told ticked s → final site c e ≡ bytes_of s → has_final site c e ≡ false
      → IsQuiet (next_at site c e leg asked s text) text → is_due asked.kind (child_out e.items leg.child) (has_ticked e leg) ≡ true
  first_is_due text nothing some stands is none quiet = quiet_due (closes_now site c e) (last_secs (all_of e)) text _ some quiet
  first_is_due text (begun close stamp bytes) some stands is none quiet =
      let full = standings_are_cuts asked told ticked close stamp bytes r.short stands in
      absurd (false≢true (sym none ∙ ap is_filled is ∙ full.some))

  is_streamed : (text : List ℕ) → is_filled text ≡ true → decided_at (run_of site c e leg) e.items ≡ None
      → IsQuiet (next_at site c e leg asked stood text) text → has_final site c e ≡ false → is_to_stream e (stage site c e) ≡ true
  is_streamed text some none quiet unbegun =
      ap (is_to_stream e) (last_runs site c e legs leg l none)
      ∙ dues_are_demanded e (leg_now leg l.reached.request_then)
      ∙ ap (λ k. is_due k (child_out e.items leg.child) (has_ticked e leg)) r.written_by.made.kind
      ∙ first_is_due text stood some r.stands r.written_by.final_is unbegun quiet

  undecided_still : (text : List ℕ) → decided_at (run_of site c e leg) e.items ≡ None
      → decided_at (run_of site c e leg) (e.items ++ Out (Write c text) ∷ []) ≡ None
  undecided_still text none =
      decided_at-push (run_of site c e leg) e.items (Out (Write c text))
      ∙ ap (λ o. or_else o (if decides_run (run_of site c e leg) e.items (Out (Write c text)) then Some (e.items ++ Out (Write c text) ∷ []) else None)) none
      ∙ ap (λ (b : Bool). if b then Some (e.items ++ Out (Write c text) ∷ []) else None) (act_undecides site c e (Write c text) refl leg)

  part_of_run : (byte : ℕ) (bytes more : List ℕ) (again : Bool) (reply : LegReply)
      → IsHanded site c e leg asked told stood untold more again (byte ∷ bytes) reply
      → IsOfRun site c (pushed e (Out (Write c (byte ∷ bytes)))) leg asked (told ++ untold) (has_ticked e leg)
      (next asked (told ++ untold) (has_ticked e leg) (closes_now site c e) (last_secs (all_of e)) stood (byte ∷ bytes)) []
  part_of_run byte bytes more again reply h =
      let text : List ℕ = byte ∷ bytes in
      let now : Leg = leg_now leg l.reached.request_then in
      let extends = texts_extend site c e text in
      let gives : Gives asked (child_out e.items leg.child) (has_ticked e leg) (closes_now site c e) (last_secs (all_of e)) stood text reply =
      subst (λ o. Gives asked o (has_ticked e leg) (closes_now site c e) (last_secs (all_of e)) stood text reply) (sym r.output) h.gives in
      let stood_then : Stood = next_at site c e leg asked stood text in
      let stands = known_stand reply asked (child_out e.items leg.child) (has_ticked e leg) stood_then gives.knows in
      let on : HandsOn site c (wrote c e text) now asked stood_then =
      handings_stand site c e now asked stood text (last_runs site c e legs leg l h.goes_on) (by_leg site c e leg l.reached.request_then asked stood r.written_by)
      (subst (λ o. length o < 2 ^ 64) (sym r.output) h.within) stands gives.quiet in
      let never : (front : List Item) → decided_at (run_of site c e leg) (e.items ++ Out (Write c text) ∷ []) ≡ Some front → ⊥ =
      λ front is. let bad : Some front ≡ None = sym is ∙ undecided_still text h.goes_on in absurd (cc) in
      record {
        written_by =
            subst (λ o. IsWrittenBy site c (wrote c e text) leg asked (next asked o (has_ticked e leg) (closes_now site c e) (last_secs (all_of e)) stood text)) r.output
            (by_now site c (wrote c e text) leg l.reached.request_then asked stood_then on.written_by);
        stands =
            subst (λ o. Stands asked o (has_ticked e leg) (next asked o (has_ticked e leg) (closes_now site c e) (last_secs (all_of e)) stood text)) r.output stands;
        short = h.within;
        output = extends.output_then leg.child ∙ r.output ∙ sym (append-nil (told ++ untold));
        since_decided = λ front is. absurd (never front is);
        all_told = λ front is comes. absurd (never front is);
        no_sooner =
            texts_come_no_sooner site c e text r.written_by.continued r.no_sooner (first_front_of site c e stood r.written_by.final_is r.written_by.begun_at)
            (λ unbegun some undecided. is_streamed text some h.goes_on gives.quiet unbegun);
      }

-- nothing is to be written
part_of_none : (site : Site) (c : ℕ) (e : Exchange) (legs : List Leg) (go_on : Bool) (more : List ℕ) (held : Held) → held.text ≡ []
    → IsRunning site c e legs go_on more held → IsRunning site c e legs go_on more (record held { text = [] })
part_of_none site c e legs go_on more held none is =
    let leg : Leg = leg_held held is.child in
    record {
      unclosed = is.unclosed;
      continues_is = is.continues_is;
      child = is.child;
      last = is.last;
      asked = is.asked;
      told = is.told;
      ticked = is.ticked;
      stood = is.stood;
      untold = is.untold;
      run = is.run;
      ready = subst (λ t. IsReady site c e leg is.asked is.told is.ticked is.stood is.untold more held.ticked t held.reply) none is.ready;
      early = is.early;
    }

or_false_and : (b h : Bool) → (b || false && h) ≡ b
or_false_and true h = refl
or_false_and false h = refl

part_of_some : (site : Site) (c : ℕ) (e : Exchange) (legs : List Leg) (go_on : Bool) (more : List ℕ) (held : Held) (byte : ℕ) (bytes : List ℕ) → 2 ≤ site.limits.head
    → held.text ≡ byte ∷ bytes → IsRunning site c e legs go_on more held
    → IsRunning site c (pushed e (Out (Write c (byte ∷ bytes)))) legs go_on more (record held { text = [] })
part_of_some site c e legs go_on more held byte bytes two some is =
    let leg : Leg = leg_held held is.child in
    let x : Item = Out (Write c (byte ∷ bytes)) in
    let ready : IsHanded site c e leg is.asked is.told is.stood is.untold more held.ticked (byte ∷ bytes) held.reply =
    subst (λ t. IsReady site c e leg is.asked is.told is.ticked is.stood is.untold more held.ticked t held.reply) some is.ready in
    record {
      unclosed = is.unclosed;
      continues_is = continues-push site c e x two (last-headed site c e legs leg is.last) ∙ is.continues_is;
      child = is.child;
      last = (last-push site c e x legs leg two refl is.last).last;
      asked = is.asked;
      told = is.told ++ is.untold;
      ticked = has_ticked e leg;
      stood = next is.asked (is.told ++ is.untold) (has_ticked e leg) (closes_now site c e) (last_secs (all_of e)) is.stood (byte ∷ bytes);
      untold = [];
      run =
          part_of_run site c e legs leg is.asked is.told is.ticked is.stood is.untold two is.last is.run byte bytes more held.ticked held.reply ready;
      ready = record {
        more_is = sym ready.none_more;
        knows = ready.gives.knows;
        ticked_is = λ none.
            (texts_extend site c e (byte ∷ bytes)).ticked_then leg
            ∙ sym (ap (λ b. has_ticked e leg || b && is_header_whole is.asked.kind (is.told ++ is.untold)) ready.unticked
            ∙ or_false_and (has_ticked e leg) (is_header_whole is.asked.kind (is.told ++ is.untold)));
      };
      early = λ cause comes closing.
          let never : None ≡ Some (failed cause) =
          sym (outcome_by_front (run_of site c e leg) (e.items ++ x ∷ []) None
          (undecided_still site c e legs leg is.asked is.told is.ticked is.stood is.untold two is.last is.run (byte ∷ bytes) ready.goes_on)) ∙ comes in
          absurd (cc);
    }

pub parts_are_written : PartsAreWritten
parts_are_written site c e legs continued looked closing more held two is = go held.text refl
  where
    go : (text : List ℕ) → held.text ≡ text → StageIs site c (wrote c e text) legs continued looked closing more (At.Running (record held { text = [] }))
    go [] none = (part_of_none site c e legs continued more held none is.0, is.1)
    go (byte ∷ bytes) some = (part_of_some site c e legs continued more held byte bytes two some is.0, is.1)

-- ---- the rest

pub rests_are_written : RestsAreWritten
rests_are_written site c e legs continued looked closing more text closes two is = record {
  unclosed = same_closed text ∙ is.0.unclosed;
  continues_is = same_continues text ∙ is.0.continues_is;
  walked = same_walked text;
  whole = is.0.finishes.whole;
  begun = is.0.begun;
  closes_is = is.0.closes_is ∙ ap (λ b. b || closes) (sym is.0.unclosed ∙ is.1);
}
  where
    same_closed : (t : List ℕ) → (wrote c e t).closed ≡ e.closed
    same_closed [] = refl
    same_closed (byte ∷ bytes) = refl

    same_continues : (t : List ℕ) → continues site c (wrote c e t) ≡ continues site c e
    same_continues [] = refl
    same_continues (byte ∷ bytes) = continues-quiet site c e (Out (Write c (byte ∷ bytes))) refl

    same_walked : (t : List ℕ) → IsWalked site c (wrote c e t) legs
    same_walked [] = is.0.walked
    same_walked (byte ∷ bytes) = walked-push site c e (Out (Write c (byte ∷ bytes))) legs two refl is.0.walked
