-- Events, and acts of the child, leave the stage of an exchange.
use Rattle.std.proofs.Common.{◌≡◌, ◌≢◌, ◌≤◌, ℕ, zero, suc, Bool, true, false, List, [], ◌∷◌, ◌++◌, Option, Some, None, refl, sym, ap, subst, ◌∙◌}
use Rattle.std.specs.Prelude.{◌||◌, if◌then◌else◌}
use Rattle.std.proofs.lemmas.Bool.{false≢true}
use Rattle.host_base.specs.declared.request.Request.{Request}
use Rattle.host_base.specs.declared.site.Site.{Site}
use Rattle.host_trace.specs.declared.items.Item.{Item}
use Rattle.host_trace.specs.Decider.{Outcome, failed}
use Rattle.host_trace.specs.Kinds.{bytes_heard, bytes_written, child_started, is_child_eof, is_tick, output_heard}
use Rattle.request_reader.specs.Request.{Reading, Whole, More, Bad, is_length}
use Rattle.request_reader.specs.RequestLaws.{Becomes}
use Rattle.trace_child.specs.Decided.{decided_at, outcome_of}
use Rattle.trace_child.specs.Words.{is_filled}
use Rattle.trace_child.proofs.DecidedLaws.{outcome_of-stays}
use Rattle.trace_model.specs.Answer.{answer, undecided, request_of_hop}
use Rattle.trace_model.specs.Breaks.{breaks, broken}
use Rattle.trace_model.specs.Exchange.{Exchange, pushed, reading}
use Rattle.trace_model.specs.Legs.{Leg, run_of}
use Rattle.trace_model.specs.Readings.{startable}
use Rattle.trace_model.specs.Standing.{stands_whole}
use Rattle.trace_model.proofs.AnswerLaws.{answer-push, grown, unbroken-push}
use Rattle.trace_model.proofs.FirstByteLaws.{begins-push, closes-push, continue_part-push, continues-push, way-push}
use Rattle.conn_laws.specs.Hops.{Leads, SameLegs, StillReaches}
use Rattle.conn_laws.proofs.EndLaws.{not_whole, whole_stays}
use Rattle.conn_laws.proofs.QuietLaws.{broken-quiet, reading-quiet}
use Rattle.exchange_reply.proofs.StepLaws.{items_leave}
use Rattle.exchange_reply.proofs.NoSoonerLaws.{items_come_no_sooner}
use Rattle.exchange_stage.specs.declared.stage.Leg.{Leg as Held}
use Rattle.exchange_stage.specs.declared.stage.Stage.TheVariants as At
use Rattle.exchange_laws.specs.Walked.{AtHop, IsLast}
use Rattle.exchange_laws.specs.Unanswered.{IsUnready, is_awaited}
use Rattle.exchange_laws.specs.OfRun.{IsReady, IsTold, is_cut_short, leg_held}
use Rattle.exchange_laws.specs.StageIs.{IsAnswered, IsRunning, IsSilent, IsUnstarted}
use Rattle.exchange_laws.specs.Items.{ItemsKeepStages, Passes, is_nothing}
use Rattle.exchange_laws.proofs.WalkLaws.{at_hop-push, has_children-push, last-headed, last-push, last-start, leads-push, walked-push}
use Rattle.exchange_laws.proofs.UnansweredLaws.{unanswered-push}
use Rattle.exchange_laws.proofs.EarlyLaws.{early-push}
use Rattle.exchange_laws.proofs.RunLaws.{outcome_by_front, of_run-push, ticked-push}

-- ---- the body of a request for which no script was started

some_is : (a b : Request) → Some a ≡ Some b → a ≡ b
some_is a b is = cc

-- a request in chunks is whole, and stays
chunks_stay : (was now : Reading) (request : Request) → startable was ≡ Some request → is_length request.framing ≡ false → Becomes was now → startable now ≡ Some request
chunks_stay (Whole first used due) now request is chunked grows = ap startable grows ∙ is
chunks_stay (More None due) now request is chunked grows = absurd (cc)
chunks_stay (More (Some first) due) now request is chunked grows = go (is_length first.framing) refl is
  where
    go : (b : Bool) → is_length first.framing ≡ b → (if b then Some first else None) ≡ Some request → startable now ≡ Some request
    go true long is = absurd (false≢true (sym chunked ∙ ap (λ (q : Request). is_length q.framing) (sym (some_is first request is)) ∙ long))
    go false long is = absurd (cc)
chunks_stay (Bad cause bare) now request is chunked grows = absurd (cc)

-- the request of a local redirect has no body
pub redirected_body : (site : Site) (c : ℕ) (e : Exchange) (left hop : ℕ) (request : Request) (leg : Leg) (legs : List Leg) (left' hop' : ℕ) (request' : Request)
    → Leads site c e left hop request (leg ∷ legs) left' hop' request' → request'.body ≡ []
redirected_body site c e zero hop request leg legs left' hop' request' l = absurd l
redirected_body site c e (suc left) hop request leg [] left' hop' request' l = ap (λ (q : Request). q.body) (sym l.2.2)
redirected_body site c e (suc left) hop request leg (next ∷ legs) left' hop' request' l =
    redirected_body site c e left (suc hop) (request_of_hop request l.0) next legs left' hop' request' l.2

no_legs : (legs_then : List Leg) → SameLegs [] legs_then → legs_then ≡ []
no_legs [] same = refl
no_legs (leg ∷ legs) same = absurd same

pub first_of : (site : Site) (c : ℕ) (e : Exchange) (left hop : ℕ) (request : Request) (r : StillReaches site c e [] left hop request) → startable (reading site c e) ≡ Some r.request_then
first_of site c e left hop request r =
    r.reaches.start ∙ ap (λ (q : Request). Some q) (go r.legs_then (no_legs r.legs_then r.same_legs) r.reaches.leads)
  where
    go : (legs_then : List Leg) → legs_then ≡ [] → Leads site c e site.limits.redirects 0 r.reaches.first legs_then left hop r.request_then → r.reaches.first ≡ r.request_then
    go [] is l = l.2
    go (leg ∷ legs) is l = absurd (cc)

later_body : (site : Site) (c : ℕ) (e : Exchange) (leg : Leg) (legs : List Leg) (left hop : ℕ) (request : Request) (r : StillReaches site c e (leg ∷ legs) left hop request)
    → r.request_then.body ≡ []
later_body site c e leg legs left hop request r = go r.legs_then r.same_legs r.reaches.leads
  where
    go : (legs_then : List Leg) → SameLegs (leg ∷ legs) legs_then → Leads site c e site.limits.redirects 0 r.reaches.first legs_then left hop r.request_then
        → r.request_then.body ≡ []
    go [] same l = absurd same
    go (first ∷ rest) same l = redirected_body site c e site.limits.redirects 0 r.reaches.first first rest left hop r.request_then l

framing_then : (site : Site) (c : ℕ) (e : Exchange) (legs : List Leg) (left hop : ℕ) (request : Request) (r : StillReaches site c e legs left hop request)
    → r.request_then.framing ≡ request.framing
framing_then site c e legs left hop request r = ap (λ (q : Request). q.framing) r.same_request

pub body-push : (site : Site) (c : ℕ) (e : Exchange) (x : Item) (legs : List Leg) (left hop : ℕ) (request : Request) → 2 ≤ site.limits.head
    → (was : StillReaches site c e legs left hop request) (now : StillReaches site c (pushed e x) legs left hop request)
    → (is_length request.framing ≡ false → was.request_then.body ≡ request.body) → is_length request.framing ≡ false → now.request_then.body ≡ request.body
body-push site c e x [] left hop request two was now stays chunked =
    let still : startable (reading site c (pushed e x)) ≡ Some was.request_then =
    chunks_stay (reading site c e) (reading site c (pushed e x)) was.request_then (first_of site c e left hop request was)
    (ap is_length (framing_then site c e [] left hop request was) ∙ chunked) (grown site c e x two) in
    let same : now.request_then ≡ was.request_then =
    some_is now.request_then was.request_then (sym (first_of site c (pushed e x) left hop request now) ∙ still) in
    ap (λ (q : Request). q.body) same ∙ stays chunked
body-push site c e x (leg ∷ legs) left hop request two was now stays chunked =
    later_body site c (pushed e x) leg legs left hop request now ∙ sym (later_body site c e leg legs left hop request was) ∙ stays chunked

-- ---- on the way to a script

hop-unbroken : (site : Site) (c : ℕ) (e : Exchange) (x : Item) (legs : List Leg) (left hop : ℕ) (request : Request) → (legs ≡ [] → breaks site c e e.items x ≡ false)
    → AtHop site c e legs left hop request → broken site c (pushed e x) ≡ None
hop-unbroken site c e x [] left hop request none a = broken-quiet site c e x (none refl) ∙ a.reached.reaches.unbroken
hop-unbroken site c e x (leg ∷ legs) left hop request none a = unbroken-push site c e x (ap is_filled a.children_are) a.reached.reaches.unbroken

pub unstarted-push : (site : Site) (c : ℕ) (e : Exchange) (legs : List Leg) (continued : Bool) (x : Item) (hop : ℕ) (request : Request) → 2 ≤ site.limits.head
    → IsUnstarted site c e legs continued hop request → bytes_written c x ≡ [] → child_started c x ≡ [] → (legs ≡ [] → breaks site c e e.items x ≡ false)
    → (is_filled (bytes_heard c x) ≡ true → continued ≡ false → is_awaited site c e ≡ false)
    → IsUnstarted site c (pushed e x) legs continued hop request
unstarted-push site c e legs continued x hop request two is unwritten starts breaks_none let_on =
    let at = at_hop-push site c e x legs is.left hop request two (hop-unbroken site c e x legs is.left hop request breaks_none is.at_hop) starts is.at_hop in
    record {
      unanswered = unanswered-push site c e x continued unwritten let_on is.unanswered;
      left = is.left;
      at_hop = at;
      body_stays = body-push site c e x legs is.left hop request two is.at_hop.reached at.reached is.body_stays;
    }

-- ---- its script runs, or ran

nothing_is : (bytes : List ℕ) → is_nothing bytes ≡ true → bytes ≡ []
nothing_is [] is = refl
nothing_is (byte ∷ bytes) is = absurd (false≢true is)

running-push : (site : Site) (c : ℕ) (e : Exchange) (legs : List Leg) (continued looked : Bool) (more : List ℕ) (x : Item) (looked_then : Bool) (more_then : List ℕ) (held : Held)
    → 2 ≤ site.limits.head → held.text ≡ [] → IsRunning site c e legs continued more held → Passes site c e legs continued looked more x looked_then more_then
    → IsRunning site c (pushed e x) legs continued more_then (record held { ticked = is_tick x || held.ticked })
running-push site c e legs continued looked more x looked_then more_then held two text is p =
    let leg = leg_held held is.child in
    let ready : IsTold site c e leg is.asked is.told is.ticked is.stood is.untold more held.ticked held.reply =
    subst (λ t. IsReady site c e leg is.asked is.told is.ticked is.stood is.untold more held.ticked t held.reply) text is.ready in
    let drained : decided_at (run_of site c e leg) e.items ≡ None → (is_tick x || is_child_eof leg.child x) ≡ true → is.untold ≡ [] =
    λ none comes. ready.more_is ∙ p.drained leg is.last none comes in
    record {
      unclosed = is.unclosed;
      continues_is = continues-push site c e x two (last-headed site c e legs leg is.last) ∙ is.continues_is;
      child = is.child;
      last = (last-push site c e x legs leg two p.starts_none is.last).last;
      asked = is.asked;
      told = is.told;
      ticked = is.ticked;
      stood = is.stood;
      untold = is.untold ++ output_heard is.child x;
      run = of_run-push site c e x legs leg is.asked is.told is.ticked is.stood is.untold two p.unwritten p.starts_none is.last is.run drained;
      ready =
          subst (λ t. IsReady site c (pushed e x) leg is.asked is.told is.ticked is.stood (is.untold ++ output_heard is.child x) more_then (is_tick x || held.ticked) t held.reply)
          (sym text) (record {
            more_is = ap (λ m. m ++ output_heard is.child x) ready.more_is ∙ sym (p.more_is leg is.last);
            knows = ready.knows;
            ticked_is =
                ticked-push site c e x legs leg is.asked is.told is.ticked is.stood is.untold two p.unwritten p.starts_none is.last is.run drained held.ticked ready.ticked_is;
          });
      early = early-push site c e x leg is.last.started.plain p.unended is.early;
    }

-- a run that was cut short stays so
cut-push : (site : Site) (c : ℕ) (e : Exchange) (x : Item) (leg : Leg) → is_cut_short (outcome_of (run_of site c e leg) e.items) ≡ true
    → is_cut_short (outcome_of (run_of site c e leg) (e.items ++ x ∷ [])) ≡ true
cut-push site c e x leg cut = go (outcome_of (run_of site c e leg) e.items) refl cut
  where
    go : (o : Option Outcome) → outcome_of (run_of site c e leg) e.items ≡ o → is_cut_short o ≡ true → is_cut_short (outcome_of (run_of site c e leg) (e.items ++ x ∷ [])) ≡ true
    go None is so = absurd (false≢true so)
    go (Some outcome) is yes_it = ap is_cut_short (outcome_of-stays (run_of site c e leg) e.items (x ∷ []) outcome is) ∙ yes_it

-- what it came to is what it had come to
cut_was : (site : Site) (c : ℕ) (e : Exchange) (x : Item) (leg : Leg) → is_cut_short (outcome_of (run_of site c e leg) e.items) ≡ true → (outcome : Outcome)
    → outcome_of (run_of site c e leg) (e.items ++ x ∷ []) ≡ Some outcome → outcome_of (run_of site c e leg) e.items ≡ Some outcome
cut_was site c e x leg cut outcome comes = go (outcome_of (run_of site c e leg) e.items) refl cut
  where
    go : (o : Option Outcome) → outcome_of (run_of site c e leg) e.items ≡ o → is_cut_short o ≡ true → outcome_of (run_of site c e leg) e.items ≡ Some outcome
    go None is so = absurd (false≢true so)
    go (Some was) is so =
        is ∙ sym (outcome_of-stays (run_of site c e leg) e.items (x ∷ []) was is) ∙ comes

cut_decided : (site : Site) (c : ℕ) (e : Exchange) (leg : Leg) → is_cut_short (outcome_of (run_of site c e leg) e.items) ≡ true → decided_at (run_of site c e leg) e.items ≡ None → ⊥
cut_decided site c e leg cut none =
    absurd (false≢true (sym (ap is_cut_short (outcome_by_front (run_of site c e leg) e.items None none)) ∙ cut))

silent-push : (site : Site) (c : ℕ) (e : Exchange) (legs : List Leg) (continued : Bool) (x : Item) → 2 ≤ site.limits.head → bytes_written c x ≡ [] → child_started c x ≡ []
    → IsSilent site c e legs continued → IsSilent site c (pushed e x) legs continued
silent-push site c e legs continued x two unwritten starts is = record {
  unclosed = is.unclosed;
  continues_is = continues-push site c e x two (last-headed site c e legs is.leg is.last) ∙ is.continues_is;
  leg = is.leg;
  last = (last-push site c e x legs is.leg two starts is.last).last;
  asked = is.asked;
  told = is.told;
  ticked = is.ticked;
  stood = is.stood;
  more = is.more ++ output_heard is.leg.child x;
  run = of_run-push site c e x legs is.leg is.asked is.told is.ticked is.stood is.more two unwritten starts is.last is.run
      (λ none comes. absurd (cut_decided site c e is.leg is.cut none));
  cut = cut-push site c e x is.leg is.cut;
  begun = λ cause comes.
      ap is_filled (items_leave site c e x is.asked is.stood two (last-headed site c e legs is.leg is.last) unwritten).final_then
      ∙ is.begun cause (cut_was site c e x is.leg is.cut (failed cause) comes);
}

-- ---- its whole answer

whole_answers : (site : Site) (c : ℕ) (e : Exchange) → stands_whole site c e ≡ true → answer site c e ≢ undecided
whole_answers site c e whole none = absurd (false≢true (sym ((not_whole site c e).waits none) ∙ whole))

answered-push : (site : Site) (c : ℕ) (e : Exchange) (legs : List Leg) (continued closing : Bool) (x : Item) (leg : Leg) → 2 ≤ site.limits.head → bytes_written c x ≡ []
    → child_started c x ≡ [] → IsLast site c e legs leg → IsAnswered site c e legs continued closing → IsAnswered site c (pushed e x) legs continued closing
answered-push site c e legs continued closing x leg two unwritten starts last is =
    let head = last-headed site c e legs leg last in
    record {
      unclosed = is.unclosed;
      continues_is = continues-push site c e x two head ∙ is.continues_is;
      walked = walked-push site c e x legs two starts is.walked;
      whole =
          whole_stays site c e x (record {
            bytes = unwritten;
            answer_then =
                answer-push site c e x two (last-start site c e legs leg last) last.reached.reaches.unbroken (whole_answers site c e is.whole);
            continues_then = continue_part-push site c e x two head;
            way_then = way-push site c e x is.begun.front two head is.begun.begins;
          }) ∙ is.whole;
      begun = record {
        front = is.begun.front;
        begins = begins-push site c e x is.begun.front two head is.begun.begins;
        no_sooner = items_come_no_sooner site c e x is.begun.front two head is.begun.begins is.begun.no_sooner;
      };
      closes_is = closes-push site c e x is.begun.front two head is.begun.begins ∙ is.closes_is;
    }

-- ---- all stages

pub items_keep_stages : ItemsKeepStages
items_keep_stages site c e legs continued looked closing more x looked_then more_then At.Reading two calm is p = (
  record {
    unanswered = unanswered-push site c e x continued p.unwritten p.let_on is.0.unanswered;
    none = is.0.none;
    no_child = has_children-push c e x [] p.starts_none is.0.no_child;
    unbroken = broken-quiet site c e x (p.breaks_none is.0.none) ∙ is.0.unbroken;
    unready = λ now. subst (λ r. IsUnready r) (sym (reading-quiet site c e x (p.looked_is now).1)) (is.0.unready (p.looked_is now).0);
  },
  is.1,
)
items_keep_stages site c e legs continued looked closing more x looked_then more_then (At.Rejected cause bare) two calm is p = absurd (false≢true calm)
items_keep_stages site c e legs continued looked closing more x looked_then more_then (At.Interrupted cause) two calm is p = absurd (false≢true calm)
items_keep_stages site c e legs continued looked closing more x looked_then more_then (At.Refused cause) two calm is p =
    let still = last-push site c e x legs is.0.leg two p.starts_none is.0.last in (
      record {
        unanswered = unanswered-push site c e x continued p.unwritten p.let_on is.0.unanswered;
        loops = is.0.loops;
        leg = is.0.leg;
        last = still.last;
        none_left = still.left_is ∙ is.0.none_left;
        location = is.0.location;
        leads = leads-push site c e x is.0.leg.hop is.0.leg.request is.0.leg is.0.location is.0.leads;
      },
      is.1,
    )
items_keep_stages site c e legs continued looked closing more x looked_then more_then (At.Unstarted hop request) two calm is p =
    (unstarted-push site c e legs continued x hop request two is.0 p.unwritten p.starts_none p.breaks_none p.let_on, is.1)
items_keep_stages site c e legs continued looked closing more x looked_then more_then (At.Starting held launch body whole) two calm is p = absurd (false≢true calm)
items_keep_stages site c e legs continued looked closing more x looked_then more_then (At.Running held) two calm is p =
    (running-push site c e legs continued looked more x looked_then more_then held two (nothing_is held.text calm) is.0 p, is.1)
items_keep_stages site c e legs continued looked closing more x looked_then more_then (At.Finishing text closes) two calm is p = absurd (false≢true calm)
items_keep_stages site c e [] continued looked closing more x looked_then more_then At.Answered two calm is p = absurd (false≢true calm)
items_keep_stages site c e (first ∷ legs) continued looked closing more x looked_then more_then At.Answered two calm is p =
    answered-push site c e (first ∷ legs) continued closing x is.walked.0 two p.unwritten p.starts_none is.walked.1 is
items_keep_stages site c e legs continued looked closing more x looked_then more_then At.Silent two calm is p =
    (silent-push site c e legs continued x two p.unwritten p.starts_none is.0, is.1)
