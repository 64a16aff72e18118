-- The end of the client's input, or the idle Tick, where no script was started: the request is broken, or it isn't.
use Rattle.std.proofs.Common.{◌≡◌, ◌≤◌, ℕ, Bool, true, false, ◌&&◌, ◌||◌, not, List, [], Option, Some, None, is_some, refl, sym, ap, ◌∙◌, subst}
use Rattle.std.proofs.lemmas.Bool.{false≢true}
use Rattle.std.proofs.lemmas.List.Folds.{list_any-append}
use Rattle.host_base.specs.declared.cause.Cause.{Cause}
use Rattle.host_base.specs.declared.limits.Limits.{Limits}
use Rattle.host_base.specs.declared.request.Request.{Request}
use Rattle.host_base.specs.declared.site.Site.{Site}
use Rattle.host_trace.specs.declared.items.Event.{Event}
use Rattle.host_trace.specs.declared.items.Item.{Item}
use Rattle.host_trace.specs.declared.items.Item.TheVariants.{In}
use Rattle.host_trace.specs.Kinds.{bytes_heard, is_shut, is_tick, output_heard}
use Rattle.host_trace.specs.Projections.{shut}
use Rattle.own_traces.specs.OwnFits.{fits_own}
use Rattle.request_reader.specs.Request.{Reading, Whole, More, Bad, is_begun, read_request}
use Rattle.trace_child.specs.Words.{is_filled}
use Rattle.child_core.specs.View.{View}
use Rattle.conn_flags.specs.View.{is_live}
use Rattle.trace_model.specs.Breaks.{breaks, is_breakable}
use Rattle.trace_model.specs.Demands.{is_live as live_then}
use Rattle.trace_model.specs.Exchange.{Exchange, all_of, has_begun, pushed, reading, request_bytes}
use Rattle.trace_model.specs.Legs.{Leg as Started}
use Rattle.trace_model.specs.Readings.{is_bare, startable}
use Rattle.exchange_request.specs.Knows.{KnowsRequest, bare_of, is_looked_at, is_refused, is_taken}
use Rattle.exchange_request.specs.declared.incoming.Incoming.{Incoming}
use Rattle.exchange_request.proofs.BareLaws.{bare_known}
use Rattle.exchange_stage.specs.declared.stage.Stage.{Stage}
use Rattle.exchange_stage.specs.declared.stage.Stage.TheVariants as At
use Rattle.exchange_laws.specs.Items.{cause_by, is_breakable_at, is_calm, is_unanswered, noted_by}
use Rattle.exchange_laws.specs.Rules.{Rests}
use Rattle.exchange_laws.specs.StageIs.{StageIs}
use Rattle.exchange_laws.specs.Unanswered.{IsUnready}
use Rattle.exchange_laws.proofs.LostLaws.{breaks_interrupt}
use Rattle.exchange_laws.proofs.WholeLaws.{begun_by_starts}
use Rattle.child_laws.specs.Heard.{run_heard}
use Rattle.child_laws.proofs.NoteLaws.{reading_same}
use Rattle.http_conn.specs.HttpConn.{HttpConn}
use Rattle.http_conn.specs.Hears.{BreaksBegun, BreaksBy, Interrupts, TellsBegun, broken_if, is_untouched, is_untouched_at}
use Rattle.http_conn.specs.Kept.{is_reading, flags_of, number_of, site_of}
use Rattle.http_conn.specs.Ready.{undrained}
use Rattle.http_stage_laws.specs.HeardStages.{AtRest, HeardWell, Rested, SameAs}
use Rattle.http_stage_laws.proofs.HeardQuiet.{quiet_heard, quiet_well, staged_by}
use Rattle.http_stage_laws.proofs.HeardRest.{calm, no_run, same_list, says, unclosed}
use Rattle.http_stage_laws.proofs.HeardStage.{looked_any}
use Rattle.http_stage_laws.proofs.StagedLaws.{no_last}

-- ---- words

and_true : (b : Bool) → (b && true) ≡ b
and_true true = refl
and_true false = refl

-- where no script was started the request may be broken
breakable_stage : (site : Site) (c : ℕ) (e : Exchange) (legs : List Started) (continued looked closing : Bool) (more : List ℕ) (s : Stage) → is_calm legs s ≡ true → legs ≡ []
    → StageIs site c e legs continued looked closing more s → is_breakable_at s ≡ true
breakable_stage site c e legs continued looked closing more At.Reading rests none is = refl
breakable_stage site c e legs continued looked closing more (At.Refused cause) rests none is = absurd (no_last is.0.last.before is.0.leg (sym none ∙ is.0.last.is))
breakable_stage site c e legs continued looked closing more (At.Unstarted hop request) rests none is = refl
breakable_stage site c e legs continued looked closing more (At.Running held) rests none is = absurd (no_last is.0.last.before _ (sym none ∙ is.0.last.is))
breakable_stage site c e legs continued looked closing more At.Answered rests none is = absurd (false≢true (sym (ap is_filled none) ∙ rests))
breakable_stage site c e legs continued looked closing more At.Silent rests none is = absurd (no_last is.0.last.before is.0.leg (sym none ∙ is.0.last.is))
breakable_stage site c e legs continued looked closing more _ rests none is = absurd (false≢true rests)

untouched_stage : (x : Item) (s : Stage) → is_breakable_at s ≡ true → is_untouched_at (noted_by x s) ≡ true
untouched_stage x At.Reading able = refl
untouched_stage x (At.Unstarted hop request) able = refl
untouched_stage x _ able = absurd (false≢true able)

unanswered_stage : (s : Stage) → is_breakable_at s ≡ true → is_unanswered s ≡ true
unanswered_stage At.Reading able = refl
unanswered_stage (At.Unstarted hop request) able = refl
unanswered_stage _ able = absurd (false≢true able)

unready_served : (r : Reading) → IsUnready r → is_refused r ≡ false
unready_served (Whole request used due) is = refl
unready_served (More request due) is = refl
unready_served (Bad cause bare) is = absurd is

start_served : (r : Reading) (request : Request) → startable r ≡ Some request → is_refused r ≡ false
start_served (Whole first used due) request is = refl
start_served (More first due) request is = refl
start_served (Bad cause bare) request is = absurd (cc)

-- all that was heard was looked at, or the request is not read any more
looked_stage : (site : Site) (c : ℕ) (e : Exchange) (legs : List Started) (continued looked closing : Bool) (more : List ℕ) (s : Stage) → is_breakable_at s ≡ true
    → (is_reading s ≡ true → looked ≡ true) → StageIs site c e legs continued looked closing more s → StageIs site c e legs continued true closing more s
looked_stage site c e legs continued looked closing more At.Reading able seen is = subst (λ (b : Bool). StageIs site c e legs continued b closing more At.Reading) (seen refl) is
looked_stage site c e legs continued looked closing more (At.Unstarted hop request) able seen is = is
looked_stage site c e legs continued looked closing more _ able seen is = absurd (false≢true able)

-- .. and its bytes are not refused
served_stage : (site : Site) (c : ℕ) (e : Exchange) (legs : List Started) (continued closing : Bool) (more : List ℕ) (s : Stage) → is_breakable_at s ≡ true
    → StageIs site c e legs continued true closing more s → is_refused (reading site c e) ≡ false
served_stage site c e legs continued closing more At.Reading able is = unready_served (reading site c e) (is.0.unready refl)
served_stage site c e legs continued closing more (At.Unstarted hop request) able is = start_served (reading site c e) is.0.at_hop.reached.reaches.first is.0.at_hop.reached.reaches.start
served_stage site c e legs continued closing more _ able is = absurd (false≢true able)

module _ (old : HttpConn) (L : List Item) (e : Exchange) (legs : List Started) (next : ℕ) (rest : AtRest old L e legs next) (found : old.lost ≡ false) (rested : Rested old e legs) where
  -- a connection that is not shut: no earlier answer closes it
  pub open_unless_shut : (flags_of old).shut ≡ false → e.closed ≡ false
  open_unless_shut unshut = go (flags_of old).accepted refl
    where
      go : (b : Bool) → (flags_of old).accepted ≡ b → e.closed ≡ false
      go true is = unclosed old L e legs next rest rested (ap (λ (b : Bool). b && not (flags_of old).shut) is ∙ ap (λ (b : Bool). not b) unshut)
      go false is = (rest.unheard is).1

  pub knows_now : (flags_of old).shut ≡ false → (taken : ℕ) × KnowsRequest old.request (request_bytes (number_of old) e) taken
  knows_now unshut = let h = rest.front.request found (open_unless_shut unshut) in (h.taken, h.knows)

  pub begun_is : (flags_of old).shut ≡ false → (begun : Bool) → TellsBegun old.request begun → begun ≡ is_begun (request_bytes (number_of old) e)
  begun_is unshut begun tells =
      let k = knows_now unshut in
      tells (request_bytes (number_of old) e) k.0 k.1 (subst (λ (l : Limits). 2 ≤ l.head) (sym rest.front.limits) rest.two)

  -- .. on which a request has begun: it was accepted, and so is live
  begun_live : (flags_of old).shut ≡ false → is_begun (request_bytes (number_of old) e) ≡ true → is_live (flags_of old) ≡ true
  begun_live unshut begun = go (flags_of old).accepted refl
    where
      go : (b : Bool) → (flags_of old).accepted ≡ b → is_live (flags_of old) ≡ true
      go true is = ap (λ (b : Bool). b && not (flags_of old).shut) is ∙ ap (λ (b : Bool). not b) unshut
      go false is = absurd (false≢true (sym (ap is_begun (rest.unheard is).0) ∙ begun))

  shut_both : (shut e.before (number_of old) || shut e.items (number_of old)) ≡ (flags_of old).shut
  shut_both =
      sym (list_any-append (is_shut (number_of old)) e.before e.items)
      ∙ (ap (λ (l : List Item). shut l (number_of old)) (same_list old L e legs next rest) ∙ sym (says old L e legs next rest).shut_then)

  -- where no script was started, the request may be broken as the connection says
  pub breakable_is : legs ≡ [] → is_breakable (site_of old) (number_of old) e e.items ≡ (not (flags_of old).shut && is_begun (request_bytes (number_of old) e))
  breakable_is none =
      let able : is_breakable_at old.stage ≡ true =
      breakable_stage (site_of old) (number_of old) e legs old.continued (is_looked_at old.request) (old.closing || old.closes) rested.staged.more old.stage (calm old L e legs next rest rested) none rested.staged.is in
      let unbegun : has_begun (site_of old) (number_of old) e ≡ false =
      begun_by_starts (site_of old) (number_of old) e legs old.continued (is_looked_at old.request) (old.closing || old.closes) rested.staged.more old.stage rested.staged.is (unanswered_stage old.stage able) ∙ ap is_filled none in
      ap (λ (b : Bool). not b && not (has_begun (site_of old) (number_of old) e) && is_begun (request_bytes (number_of old) e)) shut_both
      ∙ (ap (λ (b : Bool). not (flags_of old).shut && not b && is_begun (request_bytes (number_of old) e)) unbegun
      ∙ ap (λ (b : Bool). b && is_begun (request_bytes (number_of old) e)) (and_true (not (flags_of old).shut)))

  module _ (ev : Event) (fits : fits_own (site_of old).limits.children L ev ≡ true) (quiet : bytes_heard (number_of old) (In ev) ≡ [])
      (silent : is_tick (In ev) ≡ true → (k : ℕ) → output_heard k (In ev) ≡ []) (none : old.run ≡ None) where
    no_script : legs ≡ []
    no_script = no_run old L e legs next rest none

    able : is_breakable_at old.stage ≡ true
    able = breakable_stage (site_of old) (number_of old) e legs old.continued (is_looked_at old.request) (old.closing || old.closes) rested.staged.more old.stage (calm old L e legs next rest rested) no_script rested.staged.is

    broken_well : (mid : HttpConn) (cause : Cause) → SameAs old mid → mid.request ≡ old.request → mid.stage ≡ At.Interrupted cause → cause ≡ cause_by (In ev)
        → mid.run ≡ run_heard (site_of old) (number_of old) e legs true ev old.run → (flags_of old).shut ≡ false → is_begun (request_bytes (number_of old) e) ≡ true
        → breaks (site_of old) (number_of old) e e.items (In ev) ≡ true → HeardWell old mid e ev legs
    broken_well mid cause same request stage named run unshut begun broken =
        let live : is_live (flags_of old) ≡ true = begun_live unshut begun in
        let then_live : live_then (number_of old) (all_of e) ≡ true =
        ap (λ (l : List Item). live_then (number_of old) l) (same_list old L e legs next rest) ∙ (sym (says old L e legs next rest).live ∙ live) in
        let seen : is_reading old.stage ≡ true → is_looked_at old.request ≡ true = λ reads. looked_by old.stage refl reads then_live in
        let now : StageIs (site_of old) (number_of old) e legs old.continued true (old.closing || old.closes) rested.staged.more old.stage =
        looked_stage (site_of old) (number_of old) e legs old.continued (is_looked_at old.request) (old.closing || old.closes) rested.staged.more old.stage able seen rested.staged.is in
        let at : StageIs (site_of old) (number_of old) (pushed e (In ev)) legs old.continued true (old.closing || old.closes) rested.staged.more (At.Interrupted cause) =
        subst (λ (c : Cause). StageIs (site_of old) (number_of old) (pushed e (In ev)) legs old.continued true (old.closing || old.closes) rested.staged.more (At.Interrupted c)) (sym named)
        (breaks_interrupt (site_of old) (number_of old) e legs old.continued true (old.closing || old.closes) rested.staged.more (In ev) old.stage able refl now broken) in
        let k = knows_now unshut in
        record {
          staged = staged_by old mid (pushed e (In ev)) legs [] (At.Interrupted cause) same (λ keeps. sym (ap undrained (run ∙ ap (λ (r : Option View). run_heard (site_of old) (number_of old) e legs true ev r) none))) stage
              (looked_any (site_of old) (number_of old) (pushed e (In ev)) legs old.continued true (is_looked_at mid.request) (old.closing || old.closes) [] (At.Interrupted cause) refl at);
          run = run;
          heard = quiet_heard old L e legs next ev rest fits rested quiet mid same request (λ hop r is. let both : At.Interrupted cause ≡ At.Unstarted hop r = sym stage ∙ is in absurd (cc))
              (λ other. looked_by_stage old.stage refl seen);
          bare = λ c is.
              ap bare_of request
              ∙ (bare_known old.request (request_bytes (number_of old) e) k.0 k.1
              (ap (λ (l : Limits). is_refused (read_request l (request_bytes (number_of old) e))) rest.front.limits
              ∙ served_stage (site_of old) (number_of old) e legs old.continued (old.closing || old.closes) rested.staged.more old.stage able now)
              ∙ (ap (λ (l : Limits). is_bare (read_request l (request_bytes (number_of old) e))) rest.front.limits
              ∙ (sym (ap is_bare (reading_same (site_of old) (number_of old) e (In ev) quiet))
              ∙ (ap (λ (t : Site). is_bare (reading t (number_of old) (pushed e (In ev)))) (sym same.site)
              ∙ ap (λ (d : ℕ). is_bare (reading (site_of mid) d (pushed e (In ev)))) (sym same.number)))));
          written = λ leg is. let both : At.Interrupted cause ≡ At.Running leg = sym stage ∙ is in absurd (cc);
          apart = λ leg is ticked. let both : At.Interrupted cause ≡ At.Running leg = sym stage ∙ is in absurd (cc);
        }
      where
        looked_by : (s : Stage) → old.stage ≡ s → is_reading s ≡ true → live_then (number_of old) (all_of e) ≡ true → is_looked_at old.request ≡ true
        looked_by At.Reading is reads live = subst (λ (s : Stage). Rests (site_of old) (number_of old) e legs (is_looked_at old.request) rested.staged.more s) is rested.rests live
        looked_by _ is reads live = absurd (false≢true reads)

        looked_by_stage : (s : Stage) → old.stage ≡ s → (is_reading old.stage ≡ true → is_looked_at old.request ≡ true) → (is_looked_at old.request || is_taken old.request) ≡ true
        looked_by_stage s is seen = go (is_reading old.stage) refl
          where
            go : (b : Bool) → is_reading old.stage ≡ b → (is_looked_at old.request || is_taken old.request) ≡ true
            go true reads = ap (λ (b : Bool). b || is_taken old.request) (seen reads)
            go false other = rested.heard.looked other

    pub interrupts_well : (was mid : HttpConn) (cause : Cause) → SameAs old was → was.request ≡ old.request → was.stage ≡ noted_by (In ev) old.stage → cause ≡ cause_by (In ev)
        → was.run ≡ run_heard (site_of old) (number_of old) e legs true ev old.run → was.flags.shut ≡ (flags_of old).shut
        → breaks (site_of old) (number_of old) e e.items (In ev) ≡ (not (flags_of old).shut && is_begun (request_bytes (number_of old) e))
        → Interrupts cause was mid → HeardWell old mid e ev legs
    interrupts_well was mid cause same request stage named run same_shut test i =
        by_shut (flags_of old).shut refl (subst (λ (b : Bool). BreaksBy b cause was mid) untouched i)
      where
        no_run_then : was.run ≡ None
        no_run_then = run ∙ ap (λ (r : Option View). run_heard (site_of old) (number_of old) e legs true ev r) none

        untouched : (is_untouched was && not was.flags.shut) ≡ not (flags_of old).shut
        untouched =
            ap (λ (b : Bool). (b && not (is_some was.run)) && not was.flags.shut) (ap is_untouched_at stage ∙ untouched_stage (In ev) old.stage able)
            ∙ (ap (λ (r : Option View). not (is_some r) && not was.flags.shut) no_run_then ∙ ap (λ (b : Bool). not b) same_shut)

        unbroken : breaks (site_of old) (number_of old) e e.items (In ev) ≡ false → mid ≡ was → HeardWell old mid e ev legs
        unbroken none_broken is =
            subst (λ (conn : HttpConn). HeardWell old conn e ev legs) (sym is)
            (quiet_well old L e legs next ev rest fits rested quiet was same request stage run (λ no_legs. none_broken) silent)

        by_begun : (flags_of old).shut ≡ false → (b : Bool) → b ≡ is_begun (request_bytes (number_of old) e) → mid ≡ broken_if b cause was → HeardWell old mid e ev legs
        by_begun unshut true begun is =
            subst (λ (conn : HttpConn). HeardWell old conn e ev legs) (sym is)
            (broken_well (record was { stage = At.Interrupted cause }) cause
            (record { site = same.site; number = same.number; cut = same.cut; closing = same.closing; closes = same.closes; continued = same.continued })
            request refl named run unshut (sym begun) (test ∙ (ap (λ (b : Bool). not b && is_begun (request_bytes (number_of old) e)) unshut ∙ sym begun)))
        by_begun unshut false begun is = unbroken (test ∙ (ap (λ (b : Bool). not b && is_begun (request_bytes (number_of old) e)) unshut ∙ sym begun)) is

        by_shut : (b : Bool) → (flags_of old).shut ≡ b → BreaksBy (not (flags_of old).shut) cause was mid → HeardWell old mid e ev legs
        by_shut true is by =
            unbroken (test ∙ ap (λ (b : Bool). not b && is_begun (request_bytes (number_of old) e)) is) (subst (λ (b : Bool). BreaksBy b cause was mid) (ap (λ (b : Bool). not b) is) by)
        by_shut false is by =
            let b : BreaksBegun cause was mid = subst (λ (b : Bool). BreaksBy b cause was mid) (ap (λ (b : Bool). not b) is) by in
            by_begun is b.begun (begun_is is b.begun (subst (λ (i : Incoming). TellsBegun i b.begun) request b.tells)) b.is
