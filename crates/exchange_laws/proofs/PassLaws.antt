-- Which items leave the stage of an exchange.
use Rattle.std.proofs.Common.{◌≡◌, ◌≤◌, ℕ, Bool, true, false, List, [], ◌∷◌, ◌++◌, Some, refl, sym, ap, subst, ◌∙◌, append-nil}
use Rattle.std.specs.Prelude.{◌||◌, ◌&&◌, not}
use Rattle.std.proofs.lemmas.Bool.{false≢true}
use Rattle.host_base.specs.declared.site.Site.{Site}
use Rattle.host_trace.specs.declared.items.Act.{Act}
use Rattle.host_trace.specs.declared.items.Item.TheVariants.{In, Out}
use Rattle.host_trace.specs.First.{last_of}
use Rattle.host_trace.specs.Kinds.{bytes_heard, is_child_eof, is_tick, output_heard}
use Rattle.host_trace.proofs.FirstLaws.{last_of-append}
use Rattle.trace_child.specs.Words.{is_filled}
use Rattle.trace_model.specs.Exchange.{Exchange, pushed}
use Rattle.trace_model.specs.Legs.{Leg}
use Rattle.exchange_stage.specs.declared.stage.Stage.{Stage}
use Rattle.exchange_stage.specs.declared.stage.Stage.TheVariants as At
use Rattle.exchange_laws.specs.StageIs.{IsLost, StageIs}
use Rattle.exchange_laws.proofs.ItemLaws.{items_keep_stages}
use Rattle.exchange_laws.proofs.LostLaws.{items_keep_lost}
use Rattle.exchange_laws.specs.Items.{AreQuiet, EventsPass, LastLegsAreOne, QuietActsKeep, QuietActsPass, is_calm, noted_by, with_acts}

pub last_legs_are_one : LastLegsAreOne
last_legs_are_one site c e legs before leg other is l =
    let same : Some other ≡ Some leg =
    sym (ap last_of l.is ∙ last_of-append l.before (other ∷ [])) ∙ (ap last_of is ∙ last_of-append before (leg ∷ [])) in
    cc

pub quiet_acts_pass : QuietActsPass
quiet_acts_pass site c e legs continued looked more act unwritten starts = record {
  kept = record {
    unwritten = unwritten;
    starts_none = starts;
    breaks_none = λ none. refl;
    looked_is = λ seen. (seen, refl);
    let_on = λ some. absurd (false≢true some);
    unended = λ ended. refl;
    more_is = λ leg last. sym (append-nil more);
    drained = λ leg last none comes. absurd (false≢true comes);
  };
  lost = record {
    unwritten = unwritten;
    starts_none = starts;
    let_on = λ some. absurd (false≢true some);
    undecided = λ leg last none. refl;
  };
}

-- an act is no Tick
noted_same : (act : Act) (s : Stage) → noted_by (Out act) s ≡ s
noted_same act At.Reading = refl
noted_same act _ = refl

kept_by_acts : (site : Site) (c : ℕ) (e : Exchange) (legs : List Leg) (continued looked closing : Bool) (more : List ℕ) (acts : List Act) → 2 ≤ site.limits.head → AreQuiet c acts
    → (s : Stage) → is_calm legs s ≡ true → StageIs site c e legs continued looked closing more s → StageIs site c (with_acts e acts) legs continued looked closing more s
kept_by_acts site c e legs continued looked closing more [] two quiet s calm is = is
kept_by_acts site c e legs continued looked closing more (act ∷ acts) two quiet s calm is =
    kept_by_acts site c (pushed e (Out act)) legs continued looked closing more acts two quiet.2 s calm
    (subst (λ t. StageIs site c (pushed e (Out act)) legs continued looked closing more t) (noted_same act s)
    (items_keep_stages site c e legs continued looked closing more (Out act) looked more s two calm is
    (quiet_acts_pass site c e legs continued looked more act quiet.0 quiet.1).kept))

lost_by_acts : (site : Site) (c : ℕ) (e : Exchange) (legs : List Leg) (continued : Bool) (acts : List Act) → 2 ≤ site.limits.head → AreQuiet c acts
    → IsLost site c e legs continued → IsLost site c (with_acts e acts) legs continued
lost_by_acts site c e legs continued [] two quiet lost = lost
lost_by_acts site c e legs continued (act ∷ acts) two quiet lost =
    lost_by_acts site c (pushed e (Out act)) legs continued acts two quiet.2
    (items_keep_lost site c e legs continued (Out act) two lost (quiet_acts_pass site c e legs continued false [] act quiet.0 quiet.1).lost)

pub quiet_acts_keep : QuietActsKeep
quiet_acts_keep site c e legs continued looked closing more acts two quiet = record {
  kept = λ s calm is. kept_by_acts site c e legs continued looked closing more acts two quiet s calm is;
  lost = λ lost. lost_by_acts site c e legs continued acts two quiet lost;
}

looked_at : (looked : Bool) (bytes : List ℕ) → (looked && not (is_filled bytes)) ≡ true → (looked ≡ true) × (bytes ≡ [])
looked_at true [] seen = (refl, refl)
looked_at true (byte ∷ bytes) seen = absurd (false≢true seen)
looked_at false bytes seen = absurd (false≢true seen)

pub events_pass : EventsPass
events_pass site c e legs continued looked more k ev may = record {
  unwritten = refl;
  starts_none = refl;
  breaks_none = may.breaks_none;
  looked_is = λ seen. looked_at looked (bytes_heard c (In ev)) seen;
  let_on = may.let_on;
  unended = may.unended;
  more_is = λ leg last. ap (λ j. more ++ output_heard j (In ev)) (sym (may.child_is leg last));
  drained = λ leg last none comes.
      may.drained leg last none (ap (λ j. is_tick (In ev) || is_child_eof j (In ev)) (sym (may.child_is leg last)) ∙ comes);
}
