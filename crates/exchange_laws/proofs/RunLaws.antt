-- The run of the last leg, with one more item.
use Rattle.std.proofs.Common.{◌≡◌, ◌≤◌, ℕ, zero, suc, Bool, true, false, List, [], ◌∷◌, ◌++◌, Option, Some, None, refl, sym, ap, ◌∙◌, append-nil, append_assoc}
use Rattle.std.specs.Prelude.{◌||◌, ◌&&◌, if◌then◌else◌, option_map, option_and_then}
use Rattle.std.proofs.lemmas.Bool.{false≢true, or_left}
use Rattle.host_base.specs.declared.cause.Cause.{Cause}
use Rattle.host_base.specs.declared.cause.Cause.TheVariants.{Full, Incomplete, OutputBroken, OutputTooLarge, RunTime, StartFailed}
use Rattle.host_base.specs.declared.request.Request.{Request}
use Rattle.host_base.specs.declared.site.Site.{Site}
use Rattle.host_trace.specs.declared.items.Event.TheVariants.{ChildBytes, Tick}
use Rattle.host_trace.specs.declared.items.Item.{Item}
use Rattle.host_trace.specs.declared.items.Item.TheVariants.{In}
use Rattle.host_trace.specs.Decider.{derived, failed, unanswered, is_websocket, seen_by}
use Rattle.host_trace.specs.First.{last_of}
use Rattle.host_trace.specs.Kinds.{bytes_written, child_started, is_child_bytes, is_child_broken, is_child_eof, is_client_eof, is_start_failed, is_start_full, is_tick, output_heard}
use Rattle.host_trace.specs.Projections.{child_out}
use Rattle.host_trace.proofs.FirstLaws.{last_of-append}
use Rattle.host_trace.proofs.ProjectionLaws.{child_out-push}
use Rattle.reply_kinds.specs.Derived.{is_header_whole}
use Rattle.reply_stream.specs.declared.asked.Asked.{Asked}
use Rattle.reply_stream.specs.Writing.{Stood, nothing, begun}
use Rattle.request_reader.specs.Request.{Reading, Whole, More, Bad, is_length}
use Rattle.trace_child.specs.Run.{Run}
use Rattle.trace_child.specs.Decided.{decided_at, outcome_at, outcome_of}
use Rattle.trace_child.proofs.DecidedLaws.{decided_at-stays}
use Rattle.trace_model.specs.Answer.{running, stage, request_of_hop}
use Rattle.trace_model.specs.Closes.{version_by}
use Rattle.trace_child.specs.Words.{is_filled}
use Rattle.trace_model.specs.Demands.{is_tick_after_header}
use Rattle.trace_model.specs.Exchange.{Exchange, pushed, reading, up_to, final}
use Rattle.trace_model.specs.Legs.{Leg, run_of}
use Rattle.trace_model.specs.Places.{place_of}
use Rattle.trace_model.specs.Readings.{headed, is_bare, is_head_request, startable}
use Rattle.trace_model.specs.Streams.{begins_no_sooner}
use Rattle.conn_laws.specs.Hops.{IsStarted, Leads, Reaches}
use Rattle.conn_laws.specs.Laws.{StandsAs}
use Rattle.conn_laws.proofs.HopLaws.{reaches_stands}
use Rattle.conn_laws.proofs.StartLaws.{output_stays}
use Rattle.exchange_reply.specs.Leg.{IsMadeFor, has_ticked}
use Rattle.exchange_reply.specs.Standings.{bytes_of}
use Rattle.exchange_reply.specs.StepRules.{IsBegunAt, IsWrittenBy, Leaves}
use Rattle.exchange_reply.proofs.LegLaws.{hops_ask_alike, items_are_told}
use Rattle.exchange_reply.proofs.NoSoonerLaws.{items_come_no_sooner, unbegun_is_no_sooner}
use Rattle.exchange_reply.proofs.StepLaws.{items_leave}
use Rattle.exchange_laws.specs.Walked.{IsLast}
use Rattle.exchange_laws.specs.OfRun.{IsOfRun}
use Rattle.exchange_laws.proofs.WalkLaws.{last-headed, last-push}

-- ---- a hop's request asks for its reply as the first one does

pub record Asks (r : Reading) (request : Request) : Type 0 where
  pub version : version_by (headed r) ≡ request.version
  pub head_only : is_bare r ≡ is_head_request (Some request)

some_is : (a b : Request) → Some a ≡ Some b → a ≡ b
some_is a b is = cc

asks_of : (r : Reading) (a b : Request) → a ≡ b → Asks r a → Asks r b
asks_of r a b is asks = record {
  version = asks.version ∙ ap (λ (q : Request). q.version) is;
  head_only = asks.head_only ∙ ap (λ (q : Request). is_head_request (Some q)) is;
}

first_asks : (r : Reading) (first : Request) → startable r ≡ Some first → Asks r first
first_asks (Whole request used due) first is = asks_of (Whole request used due) request first (some_is request first is) (record { version = refl; head_only = refl })
first_asks (More None due) first is = absurd (cc)
first_asks (More (Some request) due) first is = go (is_length request.framing) is
  where
    go : (b : Bool) → (if b then Some request else None) ≡ Some first → Asks (More (Some request) due) first
    go true is = asks_of (More (Some request) due) request first (some_is request first is) (record { version = refl; head_only = refl })
    go false is = absurd (cc)
first_asks (Bad cause bare) first is = absurd (cc)

leads_ask : (site : Site) (c : ℕ) (e : Exchange) (r : Reading) (left hop : ℕ) (request : Request) (legs : List Leg) (left' hop' : ℕ) (request' : Request)
    → Leads site c e left hop request legs left' hop' request' → Asks r request → Asks r request'
leads_ask site c e r left hop request [] left' hop' request' l asks = asks_of r request request' l.2 asks
leads_ask site c e r zero hop request (leg ∷ legs) left' hop' request' l asks = absurd l
leads_ask site c e r (suc left) hop request (leg ∷ legs) left' hop' request' l asks =
    let alike = hops_ask_alike request (request_of_hop request l.0).target in
    leads_ask site c e r left (suc hop) (request_of_hop request l.0) legs left' hop' request' l.2 (record {
      version = asks.version ∙ sym alike.0;
      head_only = asks.head_only ∙ sym alike.1;
    })

pub reaches_ask : (site : Site) (c : ℕ) (e : Exchange) (legs : List Leg) (left hop : ℕ) (request : Request) → Reaches site c e legs left hop request
    → Asks (reading site c e) request
reaches_ask site c e legs left hop request r =
    leads_ask site c e (reading site c e) site.limits.redirects 0 r.first legs left hop request r.leads (first_asks (reading site c e) r.first r.start)

pub last_asks : (site : Site) (c : ℕ) (e : Exchange) (legs : List Leg) (leg : Leg) → IsLast site c e legs leg → Asks (reading site c e) leg.request
last_asks site c e legs leg l =
    let then_asks : Asks (reading site c e) l.reached.request_then = reaches_ask site c e l.reached.legs_then l.left leg.hop l.reached.request_then l.reached.reaches in
    record {
      version = then_asks.version ∙ ap (λ (q : Request). q.version) l.reached.same_request;
      head_only = then_asks.head_only ∙ ap (λ (q : Request). is_head_request (Some q)) l.reached.same_request;
    }

-- ---- what stands at the last leg

abbrev pub leg_now : Leg → Request → Leg
leg_now leg request = record leg { request = request }

pub started_now : (site : Site) (c : ℕ) (e : Exchange) (legs : List Leg) (leg : Leg) → (l : IsLast site c e legs leg)
    → IsStarted site c e leg.hop l.reached.request_then (leg_now leg l.reached.request_then)
started_now site c e legs leg l = record {
  mapped = l.started.mapped;
  place = ap (place_of site) l.reached.same_request ∙ l.started.place;
  kind = l.started.kind;
  plain = l.started.plain;
  others = l.started.others;
  child = l.started.child;
  same = refl;
}

pub stands_now : (site : Site) (c : ℕ) (e : Exchange) (legs : List Leg) (leg : Leg) → (l : IsLast site c e legs leg)
    → StandsAs site c e l.left leg.hop l.reached.request_then
stands_now site c e legs leg l = reaches_stands site c e l.reached.legs_then l.left leg.hop l.reached.request_then l.reached.reaches

pub last_runs : (site : Site) (c : ℕ) (e : Exchange) (legs : List Leg) (leg : Leg) → (l : IsLast site c e legs leg)
    → decided_at (run_of site c e leg) e.items ≡ None → stage site c e ≡ running (leg_now leg l.reached.request_then)
last_runs site c e legs leg l none = (stands_now site c e legs leg l).runs (leg_now leg l.reached.request_then) (started_now site c e legs leg l) none

-- ---- the item that decides

pub undecided_before : (run : Run) (items : List Item) (x : Item) → decided_at run (items ++ x ∷ []) ≡ None → decided_at run items ≡ None
undecided_before run items x none = go (decided_at run items) refl
  where
    go : (o : Option (List Item)) → decided_at run items ≡ o → decided_at run items ≡ None
    go None is = is
    go (Some front) is =
        let now : Some front ≡ None = sym (decided_at-stays run items (x ∷ []) front is) ∙ none in
        absurd (cc)

pub outcome_by_front : (run : Run) (items : List Item) (o : Option (List Item)) → decided_at run items ≡ o → outcome_of run items ≡ option_map (outcome_at run) (option_and_then last_of o)
outcome_by_front run items o is = ap (λ (f : Option (List Item)). option_map (outcome_at run) (option_and_then last_of f)) is

none_derived : (a b d ws f g : Bool) (p q r s t : Cause)
    → (if a then failed p else (if b then failed q else (if d then failed r else (if ws then unanswered else (if f then failed s else (if g then failed t else unanswered)))))) ≡ derived → ⊥
none_derived true b d ws f g p q r s t is = absurd (cc)
none_derived false true d ws f g p q r s t is = absurd (cc)
none_derived false false true ws f g p q r s t is = absurd (cc)
none_derived false false false true f g p q r s t is = absurd (cc)
none_derived false false false false true g p q r s t is = absurd (cc)
none_derived false false false false false true p q r s t is = absurd (cc)
none_derived false false false false false false p q r s t is = absurd (cc)

pub derived_by_end : (run : Run) (x : Item) → outcome_at run x ≡ derived → is_child_eof run.child x ≡ true
derived_by_end run x is = go (is_client_eof run.conn x) (is_child_eof run.child x) is
  where
    go : (gone ended : Bool)
        → (if gone then failed Incomplete
        else (if ended then derived
        else (if is_start_failed run.child x then failed StartFailed
        else (if is_start_full run.child x then failed (Full (seen_by x))
        else (if is_child_broken run.child x then failed OutputBroken
        else (if is_websocket run.kind then unanswered
        else (if is_child_bytes run.child x then failed OutputTooLarge
        else (if is_tick x then failed RunTime else unanswered)))))))) ≡ derived → ended ≡ true
    go true ended is = absurd (cc)
    go false true is = refl
    go false false is =
        absurd (none_derived (is_start_failed run.child x) (is_start_full run.child x) (is_child_broken run.child x) (is_websocket run.kind) (is_child_bytes run.child x)
        (is_tick x) _ _ _ _ _ is)

eof_quiet : (k : ℕ) (x : Item) → is_child_eof k x ≡ true → output_heard k x ≡ []
eof_quiet k (In (ChildBytes d bytes)) is = absurd (false≢true is)
eof_quiet k x is = refl

-- ---- one more item

or_true : (a b : Bool) → b ≡ true → (a || b) ≡ true
or_true true b is = refl
or_true false b is = is

ticks_add : (t a h : Bool) → ((t || a && h) || h) ≡ (t || h)
ticks_add true a h = refl
ticks_add false true true = refl
ticks_add false true false = refl
ticks_add false false h = refl

or_none : (b : Bool) → (b || false) ≡ b
or_none true = refl
or_none false = refl

module _ (site : Site) (c : ℕ) (e : Exchange) (x : Item) (legs : List Leg) (leg : Leg) (asked : Asked) (told : List ℕ) (ticked : Bool) (stood : Stood) (more : List ℕ)
    (two : 2 ≤ site.limits.head) (unwritten : bytes_written c x ≡ []) (starts : child_started c x ≡ []) (l : IsLast site c e legs leg)
    (r : IsOfRun site c e leg asked told ticked stood more)
    (drained : decided_at (run_of site c e leg) e.items ≡ None → (is_tick x || is_child_eof leg.child x) ≡ true → more ≡ []) where
  abbrev run : Run
  run = run_of site c e leg

  leaves : Leaves site c e x asked stood
  leaves = items_leave site c e x asked stood two (last-headed site c e legs leg l) unwritten

  made_then : IsMadeFor site c (pushed e x) leg asked
  made_then =
      let was = last_asks site c e legs leg l in
      let now = last_asks site c (pushed e x) legs leg (last-push site c e x legs leg two starts l).last in
      record {
        kind = r.written_by.made.kind;
        version = now.version ∙ sym was.version ∙ r.written_by.made.version;
        head_only = now.head_only ∙ sym was.head_only ∙ r.written_by.made.head_only;
      }

  pub written_by-push : IsWrittenBy site c (pushed e x) leg asked stood
  written_by-push = record {
    made = made_then;
    continued = leaves.continued_then r.written_by.continued;
    final_is = leaves.final_then ∙ r.written_by.final_is;
    fixed = leaves.fixed_then r.written_by.fixed r.written_by.begun_at;
    begun_at = leaves.begun_then r.written_by.begun_at;
  }

  output_then : child_out (e.items ++ x ∷ []) leg.child ≡ told ++ (more ++ output_heard leg.child x)
  output_then =
      child_out-push e.items x leg.child ∙ ap (λ o. o ++ output_heard leg.child x) r.output ∙ append_assoc told more (output_heard leg.child x)

  same_front : (f front : List Item) → decided_at run e.items ≡ Some f → decided_at run (e.items ++ x ∷ []) ≡ Some front → f ≡ front
  same_front f front was now =
      let is : Some f ≡ Some front = sym (decided_at-stays run e.items (x ∷ []) f was) ∙ now in cc

  since_then : (front : List Item) → decided_at run (e.items ++ x ∷ []) ≡ Some front → final site c (up_to e front) ≡ final site c (pushed e x)
  since_then front is = go (decided_at run e.items) refl
    where
      go : (o : Option (List Item)) → decided_at run e.items ≡ o → final site c (up_to e front) ≡ final site c (pushed e x)
      go (Some f) was =
          ap (λ g. final site c (up_to e g)) (sym (same_front f front was is)) ∙ r.since_decided f was ∙ sym leaves.final_then
      go None none = ap (λ g. final site c (up_to e g)) ((output_stays site c e leg x).decided_now none front is)

  told_then : (front : List Item) → decided_at run (e.items ++ x ∷ []) ≡ Some front → outcome_of run (e.items ++ x ∷ []) ≡ Some derived → child_out front leg.child ≡ told
  told_then front is comes = go (decided_at run e.items) refl
    where
      by_end : decided_at run e.items ≡ None → outcome_at run x ≡ derived → child_out (e.items ++ x ∷ []) leg.child ≡ told
      by_end none is_it =
          let eof = derived_by_end run x is_it in
          output_then ∙ ap (λ o. told ++ (o ++ output_heard leg.child x)) (drained none (or_true (is_tick x) (is_child_eof leg.child x) eof))
          ∙ ap (λ o. told ++ o) (eof_quiet leg.child x eof) ∙ append-nil told

      go : (o : Option (List Item)) → decided_at run e.items ≡ o → child_out front leg.child ≡ told
      go (Some f) was =
          ap (λ g. child_out g leg.child) (sym (same_front f front was is))
          ∙ r.all_told f was (outcome_by_front run e.items (Some f) was
          ∙ sym (outcome_by_front run (e.items ++ x ∷ []) (Some f) (decided_at-stays run e.items (x ∷ []) f was)) ∙ comes)
      go None none =
          let now = (output_stays site c e leg x).decided_now none front is in
          let last_is : outcome_of run (e.items ++ x ∷ []) ≡ Some (outcome_at run x) =
          outcome_by_front run (e.items ++ x ∷ []) (Some front) is ∙ ap (λ g. option_map (outcome_at run) (last_of g)) now
          ∙ ap (option_map (outcome_at run)) (last_of-append e.items (x ∷ [])) in
          let is_it : Some (outcome_at run x) ≡ Some derived = sym last_is ∙ comes in
          ap (λ g. child_out g leg.child) now ∙ by_end none (cc)

  no_sooner_then : (s : Stood) → final site c e ≡ bytes_of s → IsBegunAt site c e s → begins_no_sooner site c (pushed e x) ≡ true
  no_sooner_then nothing none at = unbegun_is_no_sooner site c (pushed e x) (ap is_filled (leaves.final_then ∙ none))
  no_sooner_then (begun close stamp bytes) some at =
      items_come_no_sooner site c e x at.0 two (last-headed site c e legs leg l) at.1 r.no_sooner

  pub of_run-push : IsOfRun site c (pushed e x) leg asked told ticked stood (more ++ output_heard leg.child x)
  of_run-push = record {
    written_by = written_by-push;
    stands = r.stands;
    short = r.short;
    output = output_then;
    since_decided = since_then;
    all_told = told_then;
    no_sooner = no_sooner_then stood r.written_by.final_is r.written_by.begun_at;
  }

  told_so_far : decided_at run e.items ≡ None → is_tick x ≡ true → child_out e.items leg.child ≡ told
  told_so_far none tick =
      r.output ∙ ap (λ o. told ++ o) (drained none (or_left (is_tick x) (is_child_eof leg.child x) tick)) ∙ append-nil told

  pub ticked-push : (again : Bool)
      → (decided_at (run_of site c e leg) e.items ≡ None → has_ticked e leg ≡ (ticked || again && is_header_whole asked.kind told))
      → decided_at (run_of site c e leg) (e.items ++ x ∷ []) ≡ None
      → has_ticked (pushed e x) leg ≡ (ticked || (is_tick x || again) && is_header_whole asked.kind told)
  ticked-push again was none =
      let before = undecided_before run e.items x none in
      (items_are_told e leg x).ticked ∙ ap (λ b. b || is_tick_after_header leg e.items x) (was before) ∙ go x before refl
    where
      go : (y : Item) → decided_at run e.items ≡ None → x ≡ y
          → ((ticked || again && is_header_whole asked.kind told) || is_tick_after_header leg e.items y) ≡ (ticked || (is_tick y || again) && is_header_whole asked.kind told)
      go (In (Tick secs)) before is =
          ap (λ o. (ticked || again && is_header_whole asked.kind told) || is_header_whole leg.kind o) (told_so_far before (ap is_tick is))
          ∙ ap (λ k. (ticked || again && is_header_whole asked.kind told) || is_header_whole k told) r.written_by.made.kind
          ∙ ticks_add ticked again (is_header_whole asked.kind told)
      go y before is = or_none (ticked || again && is_header_whole asked.kind told)
