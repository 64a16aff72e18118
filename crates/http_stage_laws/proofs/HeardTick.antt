-- A Tick between two steps.
use Rattle.std.proofs.Common.{◌≡◌, ℕ, ◌-◌, ◌==◌, Bool, true, false, ◌&&◌, ◌||◌, not, List, [], Option, Some, None, is_some, refl, sym, ap, ◌∙◌, subst}
use Rattle.std.proofs.lemmas.Bool.{false≢true}
use Rattle.host_base.specs.declared.cause.Cause.TheVariants as Causes
use Rattle.host_trace.specs.declared.items.Event.TheVariants.{Tick}
use Rattle.host_trace.specs.declared.items.Item.{Item}
use Rattle.host_trace.specs.declared.items.Item.TheVariants.{In}
use Rattle.host_trace.specs.Account.{has_unsettled}
use Rattle.host_trace.specs.Projections.{upgraded}
use Rattle.own_traces.specs.OwnFits.{fits_own}
use Rattle.child_core.specs.View.{View}
use Rattle.conn_flags.specs.View.{noted}
use Rattle.trace_model.specs.Breaks.{breaks, is_breakable, is_idle_end}
use Rattle.trace_model.specs.Exchange.{Exchange, request_bytes}
use Rattle.trace_model.specs.Legs.{Leg as Started}
use Rattle.request_reader.specs.Request.{is_begun}
use Rattle.conn_laws.proofs.IdleLaws.{idle_end}
use Rattle.child_laws.specs.Children.{is_over}
use Rattle.child_laws.specs.Heard.{run_heard}
use Rattle.child_laws.proofs.KnowLaws.{unsettled_exact}
use Rattle.http_conn.specs.HttpConn.{HttpConn}
use Rattle.http_conn.specs.Hears.{BreaksBy, CountsDown, HearsTick, IdleEnds, IdlesBy, Interrupts, TicksBy, heard_run, is_untouched, is_untouched_at, told_run}
use Rattle.http_conn.specs.Kept.{flags_of, number_of, site_of}
use Rattle.http_conn.specs.Moves.{ticked_stage}
use Rattle.http_conn.specs.Slot.{run_settled}
use Rattle.http_stage_laws.specs.HeardStages.{AtRest, HeardWell, Rested, SameAs}
use Rattle.http_stage_laws.proofs.HeardBreaks.{begun_is, breakable_is, interrupts_well}
use Rattle.http_stage_laws.proofs.HeardQuiet.{quiet_well}
use Rattle.http_stage_laws.proofs.HeardRest.{known_at, no_leg}
use Rattle.http_stage_laws.proofs.HeardStage.{noted_tick}

and_none : (b : Bool) → (b && false) ≡ false
and_none true = refl
and_none false = refl

module _ (old : HttpConn) (L : List Item) (e : Exchange) (legs : List Started) (next : ℕ) (secs : ℕ) (rest : AtRest old L e legs next) (found : old.lost ≡ false) (rested : Rested old e legs)
    (fits : fits_own (site_of old).limits.children L (Tick secs) ≡ true) where
  abbrev ticked : HttpConn
  ticked = record (told_run (Tick secs) true (record old { flags = noted old.flags (In (Tick secs)) })) { stage = ticked_stage old.stage }

  run_is : (run : Option View) → heard_run (Tick secs) true run ≡ run_heard (site_of old) (number_of old) e legs true (Tick secs) run
  run_is None = refl
  run_is (Some v) = refl

  -- a connection that differs from it in what is no matter here
  stays : (mid : HttpConn) → SameAs old mid → mid.request ≡ old.request → mid.stage ≡ ticked_stage old.stage → mid.run ≡ heard_run (Tick secs) true old.run
      → (legs ≡ [] → breaks (site_of old) (number_of old) e e.items (In (Tick secs)) ≡ false) → HeardWell old mid e (Tick secs) legs
  stays mid same request stage run unbroken =
      quiet_well old L e legs next (Tick secs) rest fits rested refl mid same request (stage ∙ noted_tick secs old.stage) (run ∙ run_is old.run) unbroken (λ tick k. refl)

  -- the Tick is the last of the idle time exactly where the connection takes it for that, while no child is left
  last_is : old.run ≡ None → is_idle_end (site_of old).limits (number_of old) e.items ≡ (old.idle_left == 1)
  last_is none =
      let settled : has_unsettled e.items (number_of old) ≡ false =
      unsettled_exact (site_of old) (number_of old) e false next legs old.run rest.children ∙ ap (λ (r : Option View). not (is_over r)) none in
      idle_end (site_of old).limits (number_of old) old.idle_left e.items rest.front.idle
      ∙ (ap (λ (b : Bool). (not b && not (upgraded e.items (number_of old))) && old.idle_left == 1) settled ∙ ap (λ (b : Bool). not b && old.idle_left == 1) rest.front.http)

  test_is : old.run ≡ None → breaks (site_of old) (number_of old) e e.items (In (Tick secs)) ≡ ((old.idle_left == 1) && (not (flags_of old).shut && is_begun (request_bytes (number_of old) e)))
  test_is none =
      ap (λ (b : Bool). b && is_breakable (site_of old) (number_of old) e e.items) (last_is none)
      ∙ ap (λ (b : Bool). old.idle_left == 1 && b) (breakable_is old L e legs next rest found rested (known_at old L e legs next rest None none).runs.0)

  -- where a script was started nothing is broken
  by_run : (v : View) → old.run ≡ Some v → legs ≡ [] → ⊥
  by_run v some none = let never : None ≡ Some v = sym (no_leg old L e legs next rest none) ∙ some in absurd (cc)

  abbrev counted : HttpConn
  counted = record ticked { idle_left = old.idle_left - 1 }

  same_counted : SameAs old counted
  same_counted = record { site = refl; number = refl; cut = refl; closing = refl; closes = refl; continued = refl }

  -- the request is broken, or not
  interrupts : (old.idle_left == 1) ≡ true → (mid : HttpConn) → Interrupts Causes.IdleTime counted mid → HeardWell old mid e (Tick secs) legs
  interrupts last mid i = go old.run refl
    where
      go : (run : Option View) → old.run ≡ run → HeardWell old mid e (Tick secs) legs
      go None none =
          interrupts_well old L e legs next rest found rested (Tick secs) fits refl (λ tick k. refl) none counted mid Causes.IdleTime same_counted refl (noted_tick secs old.stage) refl (run_is old.run) refl
          (test_is none ∙ ap (λ (b : Bool). b && (not (flags_of old).shut && is_begun (request_bytes (number_of old) e))) last) i
      go (Some v) some =
          let touched : (is_untouched counted && not counted.flags.shut) ≡ false =
          ap (λ (r : Option View). (is_untouched_at (ticked_stage old.stage) && not (is_some (heard_run (Tick secs) true r))) && not (flags_of old).shut) some
          ∙ ap (λ (b : Bool). b && not (flags_of old).shut) (and_none (is_untouched_at (ticked_stage old.stage))) in
          subst (λ (conn : HttpConn). HeardWell old conn e (Tick secs) legs) (sym (subst (λ (b : Bool). BreaksBy b Causes.IdleTime counted mid) touched i))
          (stays counted same_counted refl refl refl (λ none. absurd (by_run v some none)))

  -- no request has begun
  idles : (old.idle_left == 1) ≡ true → (begun : Bool) → begun ≡ false → ((flags_of old).shut ≡ false → begun ≡ is_begun (request_bytes (number_of old) e)) → (mid : HttpConn)
      → mid ≡ record counted { idled = old.idled || is_some old.peer } → HeardWell old mid e (Tick secs) legs
  idles last begun none tells mid is =
      subst (λ (conn : HttpConn). HeardWell old conn e (Tick secs) legs) (sym is)
      (stays (record counted { idled = old.idled || is_some old.peer }) (record { site = refl; number = refl; cut = refl; closing = refl; closes = refl; continued = refl }) refl refl refl
      (λ no_legs. test_is (no_leg old L e legs next rest no_legs) ∙ (ap (λ (b : Bool). b && (not (flags_of old).shut && is_begun (request_bytes (number_of old) e))) last
      ∙ unbegun (flags_of old).shut refl)))
    where
      unbegun : (b : Bool) → (flags_of old).shut ≡ b → (not (flags_of old).shut && is_begun (request_bytes (number_of old) e)) ≡ false
      unbegun true shut = ap (λ (b : Bool). not b && is_begun (request_bytes (number_of old) e)) shut
      unbegun false open_yet = ap (λ (b : Bool). not b && is_begun (request_bytes (number_of old) e)) open_yet ∙ (sym (tells open_yet) ∙ none)

  by_begun : (old.idle_left == 1) ≡ true → (mid : HttpConn) → IdleEnds counted mid → HeardWell old mid e (Tick secs) legs
  by_begun last mid i = go i.begun refl i.by
    where
      go : (b : Bool) → i.begun ≡ b → IdlesBy b counted mid → HeardWell old mid e (Tick secs) legs
      go true is by = interrupts last mid by
      go false is by = idles last i.begun is (λ open_yet. begun_is old L e legs next rest found rested open_yet i.begun i.tells) mid by

  by_count : (b : Bool) → (old.idle_left == 1) ≡ b → (mid : HttpConn) → CountsDown b counted mid → HeardWell old mid e (Tick secs) legs
  by_count true last mid i = by_begun last mid i
  by_count false more mid is =
      subst (λ (conn : HttpConn). HeardWell old conn e (Tick secs) legs) (sym is)
      (stays counted same_counted refl refl refl
      (λ no_legs. test_is (no_leg old L e legs next rest no_legs) ∙ ap (λ (b : Bool). b && (not (flags_of old).shut && is_begun (request_bytes (number_of old) e))) more))

  pub tick_well : (mid : HttpConn) → HearsTick (told_run (Tick secs) true (record old { flags = noted old.flags (In (Tick secs)) })) mid → HeardWell old mid e (Tick secs) legs
  tick_well mid h = go (run_settled ticked.run) refl h
    where
      go : (b : Bool) → run_settled ticked.run ≡ b → TicksBy b ticked mid → HeardWell old mid e (Tick secs) legs
      go true settled by = by_count (old.idle_left == 1) refl mid by
      go false busy is =
          subst (λ (conn : HttpConn). HeardWell old conn e (Tick secs) legs) (sym is)
          (stays ticked (record { site = refl; number = refl; cut = refl; closing = refl; closes = refl; continued = refl }) refl refl refl
          (λ no_legs. absurd (false≢true (sym busy ∙ ap (λ (r : Option View). run_settled (heard_run (Tick secs) true r)) (no_leg old L e legs next rest no_legs)))))
