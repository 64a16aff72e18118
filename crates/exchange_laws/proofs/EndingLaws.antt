-- What the reply of a run comes to at the end of its output.
use Rattle.std.proofs.Common.{◌≡◌, ◌≤◌, ◌<◌, ℕ, zero, suc, Bool, true, false, List, [], ◌∷◌, ◌++◌, Option, Some, refl, sym, ap, subst, ◌∙◌, arith}
use Rattle.std.proofs.lemmas.Bool.{false≢true}
use Rattle.host_base.specs.declared.cause.Cause.{Cause}
use Rattle.host_base.specs.declared.cause.Cause.TheVariants.{RedirectLoop}
use Rattle.host_base.specs.declared.site.Site.{Site}
use Rattle.host_trace.specs.Decider.{derived}
use Rattle.host_trace.specs.Projections.{last_secs}
use Rattle.reply_kinds.specs.declared.derived.Derived.{Derived}
use Rattle.reply_kinds.specs.declared.derived.Derived.TheVariants as Output
use Rattle.reply_kinds.specs.Derived.{derived_of}
use Rattle.reply_writer.specs.WholeReply.{Way}
use Rattle.reply_stream.specs.declared.asked.Asked.{Asked}
use Rattle.reply_stream.specs.declared.stream.Last.TheVariants as Ended
use Rattle.reply_stream.specs.Writing.{Stood, nothing, begun, begun_way, whole_way, IsLastOf, IsRestOf}
use Rattle.trace_child.specs.Decided.{outcome_of}
use Rattle.trace_child.specs.Words.{implies, is_filled}
use Rattle.trace_model.specs.Answer.{answered, answer, answer_at, answer_of_output, is_undecided, request_of_hop, stage}
use Rattle.trace_model.specs.Closes.{closes as closes_after, closes_now, is_closing_fault}
use Rattle.trace_model.specs.Demands.{may_go_on, waits_its_turn}
use Rattle.trace_model.specs.Exchange.{Exchange, all_of, has_final, reading}
use Rattle.trace_model.specs.Legs.{Leg, run_of}
use Rattle.trace_model.specs.Readings.{is_bare, is_head_request}
use Rattle.conn_laws.specs.Hops.{LeadsOn, Reaches, SameLegs}
use Rattle.conn_laws.proofs.EndLaws.{not_whole}
use Rattle.conn_laws.proofs.HopLaws.{reaches_next}
use Rattle.exchange_reply.specs.Reply.{closes_of}
use Rattle.exchange_reply.specs.Standings.{Ends, bytes_of}
use Rattle.exchange_reply.specs.StepRules.{Finishes, IsWrittenBy, wrote}
use Rattle.exchange_reply.proofs.LegLaws.{closes_are_of_legs}
use Rattle.exchange_reply.proofs.NoSoonerLaws.{texts_come_no_sooner}
use Rattle.exchange_reply.proofs.StepLaws.{endings_stand, texts_extend}
use Rattle.exchange_stage.specs.declared.stage.Leg.{Leg as Held}
use Rattle.exchange_laws.specs.Unanswered.{IsUnanswered}
use Rattle.exchange_laws.specs.OfRun.{IsReady, IsTold, leg_held}
use Rattle.exchange_laws.specs.StageIs.{HasBegun, IsFinishing, IsRefused, IsRunning, IsUnstarted}
use Rattle.exchange_laws.specs.Moves.{ClosesBy, EndsAs, IsFault, closes_of_kind}
use Rattle.exchange_laws.proofs.CauseLaws.{mild_output}
use Rattle.exchange_laws.proofs.FinishLaws.{fault_finishes, first_closes, first_text, whole_filled}
use Rattle.exchange_laws.proofs.RunLaws.{last_asks, leg_now, started_now}
use Rattle.exchange_laws.proofs.SplitLaws.{last_count}
use Rattle.exchange_laws.proofs.StandLaws.{IsNoHop, decided_by, derives_told, ended_as}
use Rattle.exchange_laws.proofs.UnansweredLaws.{unanswered_again}
use Rattle.exchange_laws.proofs.WalkLaws.{same_legs-append}
use Rattle.exchange_laws.proofs.WholeLaws.{walked_by_last}
use Rattle.exchange_laws.proofs.WriteLaws.{by_leg, first_front_of}

-- ---- what the end comes to

-- a reply or raw bytes
abbrev IsReplied : Derived → Type 0
IsReplied (Output.Reply reply) = Unit {0}
IsReplied (Output.Raw bytes) = Unit {0}
IsReplied (Output.Bad cause) = ⊥
IsReplied (Output.Hop location) = ⊥

no_hop : (d : Derived) → IsReplied d → IsNoHop d
no_hop (Output.Reply reply) is = tt
no_hop (Output.Raw bytes) is = tt
no_hop (Output.Bad cause) is = absurd is
no_hop (Output.Hop location) is = absurd is

not_closing : (d : Derived) → IsReplied d → is_closing_fault (answer_of_output d) ≡ false
not_closing (Output.Reply reply) is = refl
not_closing (Output.Raw bytes) is = refl
not_closing (Output.Bad cause) is = absurd is
not_closing (Output.Hop location) is = absurd is

decided_then : (d : Derived) → IsReplied d → is_undecided (answer_of_output d) ≡ false
decided_then (Output.Reply reply) is = refl
decided_then (Output.Raw bytes) is = refl
decided_then (Output.Bad cause) is = absurd is
decided_then (Output.Hop location) is = absurd is

last_replied : (w : Way) (d : Derived) (text : List ℕ) → IsLastOf w d (Ended.Written text) → IsReplied d
last_replied w (Output.Reply reply) text is = tt
last_replied w (Output.Raw bytes) text is = tt
last_replied w (Output.Bad cause) text is = absurd is
last_replied w (Output.Hop location) text is = absurd is

rest_replied : (w : Way) (d : Derived) (before text : List ℕ) → IsRestOf w d before (Ended.Written text) → IsReplied d
rest_replied w (Output.Reply reply) before text is = tt
rest_replied w (Output.Raw bytes) before text is = tt
rest_replied w (Output.Bad cause) before text is = absurd is
rest_replied w (Output.Hop location) before text is = absurd is

pub written_replied : (asked : Asked) (told : List ℕ) (close : Bool) (stamp : Option ℕ) (s : Stood) (text : List ℕ) → Ends asked told close stamp s (Ended.Written text)
    → IsReplied (derived_of asked.kind told)
written_replied asked told close stamp nothing text is = last_replied (whole_way asked close stamp) (derived_of asked.kind told) text is
written_replied asked told close stamp (begun close_then stamp_then before) text is =
    rest_replied (begun_way asked close_then stamp_then) (derived_of asked.kind told) before text is

bad_last : (w : Way) (d : Derived) (cause : Cause) → IsLastOf w d (Ended.Bad cause) → d ≡ Output.Bad cause
bad_last w (Output.Bad found) cause is = ap Output.Bad (sym is)
bad_last w _ cause is = absurd is

hop_last : (w : Way) (d : Derived) (location : List ℕ) → IsLastOf w d (Ended.Hop location) → d ≡ Output.Hop location
hop_last w (Output.Hop found) location is = ap Output.Hop (sym is)
hop_last w _ location is = absurd is

pub bad_ends : (asked : Asked) (told : List ℕ) (close : Bool) (stamp : Option ℕ) (s : Stood) (cause : Cause) → Ends asked told close stamp s (Ended.Bad cause)
    → (s ≡ nothing) × (derived_of asked.kind told ≡ Output.Bad cause)
bad_ends asked told close stamp nothing cause is = (refl, bad_last (whole_way asked close stamp) (derived_of asked.kind told) cause is)
bad_ends asked told close stamp (begun close_then stamp_then before) cause is = absurd is

pub hop_ends : (asked : Asked) (told : List ℕ) (close : Bool) (stamp : Option ℕ) (s : Stood) (location : List ℕ) → Ends asked told close stamp s (Ended.Hop location)
    → (s ≡ nothing) × (derived_of asked.kind told ≡ Output.Hop location)
hop_ends asked told close stamp nothing location is = (refl, hop_last (whole_way asked close stamp) (derived_of asked.kind told) location is)
hop_ends asked told close stamp (begun close_then stamp_then before) location is = absurd is

-- ---- at the end of the output

module _ (site : Site) (c : ℕ) (e : Exchange) (legs : List Leg) (go_on : Bool) (more : List ℕ) (held : Held) (is : IsRunning site c e legs go_on more held)
    (text_none : held.text ≡ []) where
  abbrev leg : Leg
  leg = leg_held held is.child

  abbrev now : Leg
  now = leg_now leg is.last.reached.request_then

  pub told : IsTold site c e leg is.asked is.told is.ticked is.stood is.untold more held.ticked held.reply
  told = subst (λ t. IsReady site c e leg is.asked is.told is.ticked is.stood is.untold more held.ticked t held.reply) text_none is.ready

  by_now : IsWrittenBy site c e now is.asked is.stood
  by_now = by_leg site c e leg is.last.reached.request_then is.asked is.stood is.run.written_by

  pub bare_is : is_head_request (Some held.request) ≡ is_bare (reading site c e)
  bare_is = sym (last_asks site c e legs leg is.last).head_only

  -- nothing stands of its reply
  pub unanswered_then : is.stood ≡ nothing → IsUnanswered site c e go_on
  unanswered_then none =
      unanswered_again site c e go_on is.continues_is is.run.written_by.continued (is.run.written_by.final_is ∙ ap bytes_of none)

  module _ (comes : outcome_of (run_of site c e leg) e.items ≡ Some derived) where
    answered_now : (d : Derived) → derived_of is.asked.kind is.told ≡ d → IsNoHop d → stage site c e ≡ answered now d
    answered_now d same plain = ended_as site c e legs leg is.asked is.told is.ticked is.stood is.untold is.last is.run d comes same plain

    closes_then : (d : Derived) → stage site c e ≡ answered now d → is_closing_fault (answer_of_output d) ≡ false → closes_now site c e ≡ closes_of_kind site c e held.kind
    closes_then d at mild = (closes_are_of_legs site c e now).ended d at (ap (λ s. is_closing_fault (answer_at s)) at ∙ mild)

    -- the reply is completed
    module _ (text : List ℕ) (closes : Bool) (ends : EndsAs site c e held (Ended.Written text)) (closes_by : ClosesBy site c e held closes) where
      ends_so : Ends is.asked is.told (closes_of_kind site c e held.kind) (last_secs (all_of e)) is.stood (Ended.Written text)
      ends_so = ends is.asked is.told is.ticked is.stood told.knows

      replied : IsReplied (derived_of is.asked.kind is.told)
      replied = written_replied is.asked is.told (closes_of_kind site c e held.kind) (last_secs (all_of e)) is.stood text ends_so

      at : stage site c e ≡ answered now (derived_of is.asked.kind is.told)
      at = answered_now (derived_of is.asked.kind is.told) refl (no_hop (derived_of is.asked.kind is.told) replied)

      decided : is_undecided (answer site c e) ≡ false
      decided = ap (λ s. is_undecided (answer_at s)) at ∙ decided_then (derived_of is.asked.kind is.told) replied

      closes_is : closes_now site c e ≡ closes_of_kind site c e held.kind
      closes_is = closes_then (derived_of is.asked.kind is.told) at (not_closing (derived_of is.asked.kind is.told) replied)

      finishes : Finishes site c e text
      finishes =
          endings_stand site c e now is.asked is.told is.ticked is.stood text at by_now is.run.short is.run.stands
          (subst (λ k. Ends is.asked is.told k (last_secs (all_of e)) is.stood (Ended.Written text)) (sym closes_is) ends_so)

      begun_by : (s : Stood) → IsWrittenBy site c e leg is.asked s → closes ≡ closes_of s (closes_of_kind site c e held.kind)
          → HasBegun site c (wrote c e text) × (closes_after site c (wrote c e text) ≡ closes)
      begun_by nothing by same =
          let unbegun : has_final site c e ≡ false = ap is_filled by.final_is in
          let some : is_filled text ≡ true = whole_filled site c e text ((not_whole site c e).unwritten by.final_is) finishes.whole in
          (first_text site c e text by.continued unbegun some decided, first_closes site c e text by.continued unbegun some ∙ closes_is ∙ sym same)
      begun_by (begun close stamp bytes) by same =
          let later = (texts_extend site c e text).later by.begun_at.0 by.begun_at.1 in (
            record {
              front = by.begun_at.0;
              begins = later.0;
              no_sooner =
                  texts_come_no_sooner site c e text by.continued is.run.no_sooner (first_front_of site c e (begun close stamp bytes) by.final_is by.begun_at)
                  (λ none more waits. absurd (false≢true (sym decided ∙ waits)));
            },
            ap (λ (w : Way). w.close) (later.1 ∙ by.fixed) ∙ sym same,
          )

      pub written_finishes : IsFinishing site c e legs go_on text closes
      written_finishes =
          let b = begun_by is.stood is.run.written_by (closes_by is.asked is.told is.ticked is.stood told.knows) in
          record {
            unclosed = is.unclosed;
            walked = walked_by_last site c e legs leg is.last;
            let_on = is.run.written_by.continued;
            continues_is = is.continues_is;
            begun_then = true;
            left_over = (leg, is.asked, is.told, is.ticked, is.stood, is.untold, is.last, is.run, is.unclosed);
            finishes = finishes;
            begun = b.0;
            closes_is = b.1;
            turn = ap (λ s. implies (waits_its_turn s) (may_go_on c e)) at;
          }

    -- it is refused
    pub refused_finishes : (cause : Cause) (text : List ℕ) → EndsAs site c e held (Ended.Bad cause)
        → IsFault site c e cause (is_head_request (Some held.request)) (closes_of_kind site c e held.kind) text
        → IsFinishing site c e legs go_on text (closes_of_kind site c e held.kind)
    refused_finishes cause text ends spells =
        let bad = bad_ends is.asked is.told (closes_of_kind site c e held.kind) (last_secs (all_of e)) is.stood cause (ends is.asked is.told is.ticked is.stood told.knows) in
        let at : stage site c e ≡ answered now (Output.Bad cause) = answered_now (Output.Bad cause) bad.1 tt in
        fault_finishes site c e legs go_on cause text (is_head_request (Some held.request)) (closes_of_kind site c e held.kind) is.unclosed
        is.run.written_by.continued (unanswered_then bad.0) (walked_by_last site c e legs leg is.last) (ap answer_at at) bare_is
        (sym (closes_then (Output.Bad cause) at (mild_output is.asked.kind is.told cause bad.1))) spells
        (ap (λ s. implies (waits_its_turn s) (may_go_on c e)) at)

    -- a local redirect
    leads : (location : List ℕ) → derived_of is.asked.kind is.told ≡ Output.Hop location → LeadsOn site c e leg.hop leg.request leg location
    leads location same =
        let d = decided_by site c e legs leg is.asked is.told is.ticked is.stood is.untold is.last is.run derived comes in
        record {
          started = is.last.started;
          front = d.front;
          item = d.item;
          decided = d.by.decided;
          last = d.by.last;
          by_output = d.is;
          derives = derives_told site c e legs leg is.asked is.told is.ticked is.stood is.untold is.last is.run d comes ∙ same;
        }

    leads_now : (location : List ℕ) → derived_of is.asked.kind is.told ≡ Output.Hop location → LeadsOn site c e leg.hop is.last.reached.request_then now location
    leads_now location same =
        let l = leads location same in
        record {
          started = started_now site c e legs leg is.last;
          front = l.front;
          item = l.item;
          decided = l.decided;
          last = l.last;
          by_output = l.by_output;
          derives = l.derives;
        }

    next_legs : SameLegs legs (is.last.reached.legs_then ++ now ∷ [])
    next_legs =
        subst (λ g. SameLegs g (is.last.reached.legs_then ++ now ∷ [])) (sym is.last.is)
        (subst (λ q. SameLegs (is.last.before ++ leg ∷ []) (is.last.reached.legs_then ++ leg_now leg q ∷ [])) (sym is.last.reached.same_request)
        (same_legs-append is.last.before is.last.reached.legs_then leg is.last.reached.request_then.body is.last.reached.same_legs))

    pub next_hop : (location : List ℕ) → EndsAs site c e held (Ended.Hop location) → held.hop < site.limits.redirects
        → IsUnstarted site c e legs go_on (suc held.hop) (request_of_hop held.request location)
    next_hop location ends few =
        let hop = hop_ends is.asked is.told (closes_of_kind site c e held.kind) (last_secs (all_of e)) is.stood location (ends is.asked is.told is.ticked is.stood told.knows) in
        go hop.0 hop.1 is.last.left refl
      where
        go : is.stood ≡ nothing → derived_of is.asked.kind is.told ≡ Output.Hop location → (n : ℕ) → is.last.left ≡ n
            → IsUnstarted site c e legs go_on (suc held.hop) (request_of_hop held.request location)
        go none same zero left =
            let count = last_count site c e legs leg is.last in
            absurd (omega (arith, count, left, few))
        go none same (suc n) left = record {
          unanswered = unanswered_then none;
          left = n;
          at_hop = record {
            reached = record {
              legs_then = is.last.reached.legs_then ++ now ∷ [];
              request_then = request_of_hop is.last.reached.request_then location;
              reaches =
                  reaches_next site c e is.last.reached.legs_then n leg.hop is.last.reached.request_then now location
                  (subst (λ k. Reaches site c e is.last.reached.legs_then k leg.hop is.last.reached.request_then) left is.last.reached.reaches)
                  (leads_now location same);
              same_legs = next_legs;
              same_request = ap (λ q. request_of_hop q location) is.last.reached.same_request;
            };
            children_are = is.last.children_are;
            new = is.last.new;
          };
          body_stays = λ chunked. refl;
        }

    pub too_many : (location : List ℕ) → EndsAs site c e held (Ended.Hop location) → site.limits.redirects ≤ held.hop
        → IsRefused site c e legs go_on RedirectLoop
    too_many location ends many =
        let hop = hop_ends is.asked is.told (closes_of_kind site c e held.kind) (last_secs (all_of e)) is.stood location (ends is.asked is.told is.ticked is.stood told.knows) in
        let count = last_count site c e legs leg is.last in
        record {
          unanswered = unanswered_then hop.0;
          loops = refl;
          leg = leg;
          last = is.last;
          none_left = omega (arith, count, many);
          location = location;
          leads = leads location hop.1;
        }
