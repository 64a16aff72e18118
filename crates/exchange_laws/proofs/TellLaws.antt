-- What the reply of a run hands out while the run goes on.
use Rattle.std.proofs.Common.{◌≡◌, ◌<◌, ◌^◌, ℕ, Bool, true, false, List, [], ◌∷◌, ◌++◌, length, Option, Some, None, refl, sym, ap, subst, ◌∙◌, append-nil}
use Rattle.std.specs.Prelude.{◌||◌, ◌&&◌, if◌then◌else◌}
use Rattle.std.proofs.lemmas.Bool.{false≢true}
use Rattle.host_base.specs.declared.site.Site.{Site}
use Rattle.host_trace.specs.declared.items.Item.{Item}
use Rattle.host_trace.specs.Projections.{child_out, last_secs}
use Rattle.reply_kinds.specs.Derived.{is_header_whole}
use Rattle.reply_stream.specs.declared.asked.Asked.{Asked}
use Rattle.reply_stream.specs.Writing.{Stood, nothing, begun}
use Rattle.trace_child.specs.Decided.{decided_at, outcome_of}
use Rattle.trace_model.specs.Closes.{closes_now}
use Rattle.trace_model.specs.Exchange.{Exchange, all_of}
use Rattle.trace_model.specs.Legs.{Leg, run_of}
use Rattle.conn_laws.proofs.StartLaws.{outcomes_tell}
use Rattle.exchange_reply.specs.declared.reply.LegReply.{LegReply}
use Rattle.exchange_reply.specs.Leg.{has_ticked}
use Rattle.exchange_reply.specs.Reply.{Gives, KnowsReply}
use Rattle.exchange_reply.specs.Standings.{Stands, is_due, next}
use Rattle.exchange_reply.proofs.AgreementLaws.{standings_are_cuts}
use Rattle.exchange_reply.proofs.KnownLaws.{known_stand}
use Rattle.exchange_reply.proofs.LegLaws.{closes_are_of_legs}
use Rattle.exchange_stage.specs.declared.stage.Leg.{Leg as Held}
use Rattle.exchange_laws.specs.OfRun.{IsOfRun, IsReady, IsTold, leg_held}
use Rattle.exchange_laws.specs.StageIs.{IsRunning}
use Rattle.exchange_laws.specs.Moves.{HearsPiece, HearsTick, TellsAreHanded, closes_of_kind}
use Rattle.exchange_laws.proofs.RunLaws.{last_runs, leg_now}

-- ---- nothing handed out

none_due : (close : Bool) (stamp : Option ℕ) (due : Bool) → (due ≡ true → ⊥) → (if due then begun close stamp [] else nothing) ≡ nothing
none_due close stamp true never = absurd (never refl)
none_due close stamp false never = refl

pub stands_as_before : (asked : Asked) (output : List ℕ) (ticked close : Bool) (stamp : Option ℕ) (stood : Stood) → length output < 2 ^ 64
    → Stands asked output ticked (next asked output ticked close stamp stood []) → next asked output ticked close stamp stood [] ≡ stood
stands_as_before asked output ticked close stamp nothing short stands =
    none_due close stamp (is_due asked.kind output ticked) (λ due.
    let now : Stands asked output ticked (begun close stamp []) =
    subst (λ (b : Bool). Stands asked output ticked (if b then begun close stamp [] else nothing)) due stands in
    absurd (false≢true (standings_are_cuts asked output ticked close stamp [] short now).some))
stands_as_before asked output ticked close stamp (begun close_then stamp_then bytes) short stands = ap (λ b. begun close_then stamp_then b) (append-nil bytes)

pub known_as_before : (asked : Asked) (output : List ℕ) (ticked close : Bool) (stamp : Option ℕ) (stood : Stood) (reply : LegReply) → length output < 2 ^ 64
    → Gives asked output ticked close stamp stood [] reply → KnowsReply reply asked output ticked stood
known_as_before asked output ticked close stamp stood reply short gives =
    subst (λ s. KnowsReply reply asked output ticked s)
    (stands_as_before asked output ticked close stamp stood short (known_stand reply asked output ticked (next asked output ticked close stamp stood []) gives.knows))
    gives.knows

or_false_and : (b h : Bool) → (b || false && h) ≡ b
or_false_and true h = refl
or_false_and false h = refl

module _ (site : Site) (c : ℕ) (e : Exchange) (legs : List Leg) (go_on : Bool) (more : List ℕ) (held : Held) (is : IsRunning site c e legs go_on more held)
    (text_none : held.text ≡ []) (none : outcome_of (run_of site c e (leg_held held is.child)) e.items ≡ None) (short : length (child_out e.items is.child) < 2 ^ 64) where
  abbrev leg : Leg
  leg = leg_held held is.child

  told : IsTold site c e leg is.asked is.told is.ticked is.stood is.untold more held.ticked held.reply
  told = subst (λ t. IsReady site c e leg is.asked is.told is.ticked is.stood is.untold more held.ticked t held.reply) text_none is.ready

  undecided : decided_at (run_of site c e leg) e.items ≡ None
  undecided = (outcomes_tell site c e leg).none none

  never : (front : List Item) → decided_at (run_of site c e leg) e.items ≡ Some front → ⊥
  never front now = let bad : Some front ≡ None = sym now ∙ undecided in absurd (cc)

  closes_is : closes_now site c e ≡ closes_of_kind site c e held.kind
  closes_is = (closes_are_of_legs site c e (leg_now leg is.last.reached.request_then)).on (last_runs site c e legs leg is.last undecided)

  all_short : length (is.told ++ is.untold) < 2 ^ 64
  all_short = subst (λ o. length o < 2 ^ 64) is.run.output short

  -- what stands by all that was told
  run_told : (output : List ℕ) (ticked : Bool) (rest : List ℕ) (reply : LegReply) → output ++ rest ≡ is.told ++ is.untold → length output < 2 ^ 64
      → KnowsReply reply is.asked output ticked is.stood → IsOfRun site c e leg is.asked output ticked is.stood rest
  run_told output ticked rest reply same small knows = record {
    written_by = is.run.written_by;
    stands = known_stand reply is.asked output ticked is.stood knows;
    short = small;
    output = is.run.output ∙ sym same;
    since_decided = is.run.since_decided;
    all_told = λ front now comes. absurd (never front now);
    no_sooner = is.run.no_sooner;
  }

  -- nothing is to be written
  quietly : (again : Bool) (output : List ℕ) (ticked : Bool) (reply : LegReply) → again ≡ false → output ≡ is.told ++ is.untold
      → has_ticked e leg ≡ ticked → KnowsReply reply is.asked output ticked is.stood
      → IsRunning site c e legs go_on [] (record held { reply = reply; text = []; ticked = again })
  quietly again output ticked reply unticked all same knows = record {
    unclosed = is.unclosed;
    continues_is = is.continues_is;
    child = is.child;
    last = is.last;
    asked = is.asked;
    told = output;
    ticked = ticked;
    stood = is.stood;
    untold = [];
    run = run_told output ticked [] reply (append-nil output ∙ all) (subst (λ o. length o < 2 ^ 64) (sym all) all_short) knows;
    ready = record {
      more_is = refl;
      knows = knows;
      ticked_is = λ still.
          same ∙ sym (ap (λ b. ticked || b && is_header_whole is.asked.kind output) unticked ∙ or_false_and ticked (is_header_whole is.asked.kind output));
    };
    early = is.early;
  }

  -- a text is
  loudly : (again : Bool) (byte : ℕ) (bytes : List ℕ) (reply : LegReply) → again ≡ false
      → Gives is.asked (is.told ++ is.untold) (has_ticked e leg) (closes_now site c e) (last_secs (all_of e)) is.stood (byte ∷ bytes) reply
      → IsRunning site c e legs go_on [] (record held { reply = reply; text = byte ∷ bytes; ticked = again })
  loudly again byte bytes reply unticked gives = record {
    unclosed = is.unclosed;
    continues_is = is.continues_is;
    child = is.child;
    last = is.last;
    asked = is.asked;
    told = is.told;
    ticked = is.ticked;
    stood = is.stood;
    untold = is.untold;
    run = is.run;
    ready = record { none_more = refl; unticked = unticked; goes_on = undecided; gives = gives; within = all_short };
    early = is.early;
  }

  -- by what the reply gives for all that came
  given : (again : Bool) (ticked : Bool) (text : List ℕ) (reply : LegReply) → again ≡ false → has_ticked e leg ≡ ticked
      → Gives is.asked (is.told ++ is.untold) ticked (closes_of_kind site c e held.kind) (last_secs (all_of e)) is.stood text reply
      → IsRunning site c e legs go_on [] (record held { reply = reply; text = text; ticked = again })
  given again ticked [] reply unticked same gives =
      quietly again (is.told ++ is.untold) ticked reply unticked refl same
      (known_as_before is.asked (is.told ++ is.untold) ticked (closes_of_kind site c e held.kind) (last_secs (all_of e)) is.stood reply all_short gives)
  given again ticked (byte ∷ bytes) reply unticked same gives =
      loudly again byte bytes reply unticked
      (subst (λ b. Gives is.asked (is.told ++ is.untold) b (closes_now site c e) (last_secs (all_of e)) is.stood (byte ∷ bytes) reply) (sym same)
      (subst (λ k. Gives is.asked (is.told ++ is.untold) ticked k (last_secs (all_of e)) is.stood (byte ∷ bytes) reply) (sym closes_is) gives))

  by_piece : (text : List ℕ) (reply : LegReply) → held.ticked ≡ false → HearsPiece site c e held more text reply
      → IsRunning site c e legs go_on [] (record held { reply = reply; text = text; ticked = false })
  by_piece text reply unticked hears =
      given false is.ticked text reply refl
      (told.ticked_is undecided ∙ ap (λ b. is.ticked || b && is_header_whole is.asked.kind is.told) unticked
      ∙ or_false_and is.ticked (is_header_whole is.asked.kind is.told))
      (subst (λ m. Gives is.asked (is.told ++ m) is.ticked (closes_of_kind site c e held.kind) (last_secs (all_of e)) is.stood text reply) (sym told.more_is)
      (hears is.asked is.told is.ticked is.stood told.knows))

  by_tick : (text : List ℕ) (reply : LegReply) → held.ticked ≡ true → more ≡ [] → HearsTick site c e held text reply
      → IsRunning site c e legs go_on [] (record held { reply = reply; text = text; ticked = false })
  by_tick text reply ticked all hears =
      given false (is.ticked || is_header_whole is.asked.kind is.told) text reply refl
      (told.ticked_is undecided ∙ ap (λ b. is.ticked || b && is_header_whole is.asked.kind is.told) ticked)
      (subst (λ o. Gives is.asked o (is.ticked || is_header_whole is.asked.kind is.told) (closes_of_kind site c e held.kind) (last_secs (all_of e)) is.stood text reply)
      (sym (ap (λ m. is.told ++ m) (told.more_is ∙ all) ∙ append-nil is.told))
      (hears is.asked is.told is.ticked is.stood told.knows))

pub tells_are_handed : TellsAreHanded
tells_are_handed site c e legs continued looked closing more held text reply is none goes short =
    let leg : Leg = leg_held held is.0.child in
    record {
      piece = λ unticked hears.
          (by_piece site c e legs continued more held is.0 none (goes leg is.0.last) (short leg is.0.last) text reply unticked hears, is.1);
      tick = λ ticked all hears.
          (by_tick site c e legs continued more held is.0 none (goes leg is.0.last) (short leg is.0.last) text reply ticked all hears, is.1);
    }
