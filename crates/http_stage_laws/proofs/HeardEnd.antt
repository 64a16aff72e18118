-- The end of the client's input between two steps.
use Rattle.std.proofs.Common.{◌≡◌, ℕ, zero, suc, ◌==◌, Bool, true, false, ◌&&◌, ◌||◌, not, List, [], ◌∷◌, ◌++◌, length, Option, Some, None, is_some, if◌then◌else◌, refl, sym, ap, ◌∙◌, subst, arith}
use Rattle.std.proofs.lemmas.Bool.{eq-eqb, false≢true, ne_eqb}
use Rattle.std.proofs.lemmas.List.{length-append}
use Rattle.host_base.specs.declared.cause.Cause.TheVariants as Causes
use Rattle.host_trace.specs.declared.items.Event.TheVariants.{ClientEof}
use Rattle.host_trace.specs.declared.items.Item.{Item}
use Rattle.host_trace.specs.declared.items.Item.TheVariants.{In}
use Rattle.own_traces.specs.OwnFits.{fits_own}
use Rattle.child_core.specs.declared.ending.Ending.TheVariants.{Incomplete}
use Rattle.child_core.specs.Calls.{ended}
use Rattle.child_core.specs.View.{View}
use Rattle.conn_flags.specs.View.{is_live, noted}
use Rattle.trace_model.specs.Breaks.{breaks, is_breakable}
use Rattle.trace_model.specs.Demands.{is_live as live_then}
use Rattle.trace_model.specs.Exchange.{Exchange, all_of, reading}
use Rattle.trace_model.specs.Legs.{Leg as Started}
use Rattle.trace_model.specs.Readings.{is_whole}
use Rattle.exchange_request.specs.Knows.{is_looked_at, is_taken}
use Rattle.exchange_stage.specs.declared.stage.Leg.{Leg}
use Rattle.exchange_stage.specs.declared.stage.Stage.{Stage}
use Rattle.exchange_stage.specs.declared.stage.Stage.TheVariants as At
use Rattle.exchange_laws.specs.OfRun.{leg_held}
use Rattle.exchange_laws.specs.Rules.{Rests}
use Rattle.child_laws.specs.Children.{IsSpent}
use Rattle.child_laws.specs.Heard.{cut_by, last_hop, run_heard}
use Rattle.child_laws.proofs.SpentLaws.{cut_spent}
use Rattle.http_conn.specs.HttpConn.{HttpConn}
use Rattle.http_conn.specs.Hears.{BreaksBy, EndsAt, EndsBy, HearsEnd, Interrupts, heard_run, is_untouched, is_untouched_at, told_run}
use Rattle.http_conn.specs.Kept.{is_reading, flags_of, number_of, site_of}
use Rattle.http_conn.specs.Moves.{ended_run}
use Rattle.http_stage_laws.specs.HeardStages.{AtRest, HeardWell, Rested, SameAs}
use Rattle.http_stage_laws.proofs.HeardBreaks.{breakable_is, interrupts_well}
use Rattle.http_stage_laws.proofs.HeardQuiet.{quiet_well}
use Rattle.http_stage_laws.proofs.HeardRest.{at_stage, known_at, no_leg, run_decided, same_list, says, taken_is, tells, unclosed}
use Rattle.http_stage_laws.proofs.HeardStage.{is_running, noted_still}
use Rattle.http_stage_laws.proofs.StagedLaws.{no_last}

-- the hop of the last leg
pub last_hop_is : (legs before : List Started) (leg : Started) → legs ≡ before ++ leg ∷ [] → last_hop legs ≡ length before
last_hop_is legs before leg is = ap last_hop is ∙ omega (arith, length-append before (leg ∷ []))

not_true : (b : Bool) → not b ≡ false → b ≡ true
not_true true e = refl
not_true false e = sym e

and_none : (b : Bool) → (b && false) ≡ false
and_none true = refl
and_none false = refl

abbrev nothing : Option View
nothing = None

pub not_first : (hop : ℕ) → (suc hop == 0) ≡ false
not_first hop = ne_eqb (suc hop) 0 (λ is. absurd (omega (arith, is)))

module _ (old : HttpConn) (L : List Item) (e : Exchange) (legs : List Started) (next : ℕ) (rest : AtRest old L e legs next) (found : old.lost ≡ false) (rested : Rested old e legs) where
  -- a live connection has looked at all that was heard, or read the request to its end
  pub seen_live : is_live (flags_of old) ≡ true → (is_looked_at old.request || is_taken old.request) ≡ true
  seen_live live = go old.stage refl (is_reading old.stage) refl
    where
      then_live : live_then (number_of old) (all_of e) ≡ true
      then_live = ap (λ (l : List Item). live_then (number_of old) l) (same_list old L e legs next rest) ∙ (sym (says old L e legs next rest).live ∙ live)

      go : (s : Stage) → old.stage ≡ s → (b : Bool) → is_reading old.stage ≡ b → (is_looked_at old.request || is_taken old.request) ≡ true
      go s at false other = rested.heard.looked other
      go At.Reading at true reads =
          ap (λ (b : Bool). b || is_taken old.request) (subst (λ (s : Stage). Rests (site_of old) (number_of old) e legs (is_looked_at old.request) rested.staged.more s) at rested.rests then_live)
      go (At.Rejected cause bare) at true reads = absurd (false≢true (sym (ap is_reading at) ∙ reads))
      go (At.Interrupted cause) at true reads = absurd (false≢true (sym (ap is_reading at) ∙ reads))
      go (At.Refused cause) at true reads = absurd (false≢true (sym (ap is_reading at) ∙ reads))
      go (At.Unstarted hop request) at true reads = absurd (false≢true (sym (ap is_reading at) ∙ reads))
      go (At.Starting held launch body whole) at true reads = absurd (false≢true (sym (ap is_reading at) ∙ reads))
      go (At.Running held) at true reads = absurd (false≢true (sym (ap is_reading at) ∙ reads))
      go (At.Finishing text closes) at true reads = absurd (false≢true (sym (ap is_reading at) ∙ reads))
      go At.Answered at true reads = absurd (false≢true (sym (ap is_reading at) ∙ reads))
      go At.Silent at true reads = absurd (false≢true (sym (ap is_reading at) ∙ reads))

  -- the view is spent once it is decided
  pub spent_view : (v : View) → old.run ≡ Some v → IsSpent v
  spent_view v is = let k = known_at old L e legs next rest (Some v) is in subst IsSpent (sym k.runs.held_as) k.runs.known.spent

  -- the hop of the leg that runs is that of the last leg
  pub running_hop : (held : Leg) → old.stage ≡ At.Running held → (v : View) → old.run ≡ Some v → last_hop legs ≡ held.hop
  running_hop held at v is =
      let running = (at_stage old L e legs next rest rested (At.Running held) at).0 in
      last_hop_is legs running.last.before (leg_held held running.child) running.last.is
      ∙ sym (tells old L e legs next rest v is (leg_held held running.child) running.last).hop

  -- where a script runs one was started
  pub running_leg : (held : Leg) → old.stage ≡ At.Running held → legs ≡ [] → ⊥
  running_leg held at none =
      let running = (at_stage old L e legs next rest rested (At.Running held) at).0 in
      no_last running.last.before (leg_held held running.child) (sym none ∙ running.last.is)

  -- a run keeps an event of the client to itself
  abbrev pub after_eof : HttpConn
  after_eof = told_run (ClientEof (number_of old)) true (record old { flags = noted old.flags (In (ClientEof (number_of old))) })

  module _ (fits : fits_own (site_of old).limits.children L (ClientEof (number_of old)) ≡ true) (live : is_live (flags_of old) ≡ true) where
    same : SameAs old after_eof
    same = record { site = refl; number = refl; cut = refl; closing = refl; closes = refl; continued = refl }

    taken_whole : is_taken old.request ≡ is_whole (reading (site_of old) (number_of old) e)
    taken_whole = taken_is old L e legs next rest rested found (unclosed old L e legs next rest rested live) (seen_live live)

    breaks_are : breaks (site_of old) (number_of old) e e.items (In (ClientEof (number_of old))) ≡ (not (is_taken old.request) && is_breakable (site_of old) (number_of old) e e.items)
    breaks_are =
        ap (λ (b : Bool). b && not (is_whole (reading (site_of old) (number_of old) e)) && is_breakable (site_of old) (number_of old) e e.items) (eq-eqb (number_of old) (number_of old) refl)
        ∙ ap (λ (b : Bool). not b && is_breakable (site_of old) (number_of old) e e.items) (sym taken_whole)

    run_by : (run run' : Option View) → old.run ≡ run → ((v : View) → run ≡ Some v → run' ≡ Some (cut_by (site_of old) (number_of old) e (last_hop legs) v)) → (run ≡ None → run' ≡ None)
        → run' ≡ run_heard (site_of old) (number_of old) e legs true (ClientEof (number_of old)) run
    run_by None run' is some none = none refl
    run_by (Some v) run' is some none =
        some v refl
        ∙ ap (λ (b : Bool). Some (if b then cut_by (site_of old) (number_of old) e (last_hop legs) v else v)) (sym (eq-eqb (number_of old) (number_of old) refl))

    same_run : (run : Option View) → heard_run (ClientEof (number_of old)) true run ≡ run
    same_run None = refl
    same_run (Some v) = refl

    stays : (mid : HttpConn) → mid ≡ after_eof → (legs ≡ [] → breaks (site_of old) (number_of old) e e.items (In (ClientEof (number_of old))) ≡ false)
        → ((v : View) → old.run ≡ Some v → cut_by (site_of old) (number_of old) e (last_hop legs) v ≡ v) → HeardWell old mid e (ClientEof (number_of old)) legs
    stays mid is unbroken kept =
        subst (λ (conn : HttpConn). HeardWell old conn e (ClientEof (number_of old)) legs) (sym is)
        (quiet_well old L e legs next (ClientEof (number_of old)) rest fits rested refl after_eof same refl (sym (noted_still (In (ClientEof (number_of old))) refl old.stage))
        (run_by old.run after_eof.run refl (λ v some. same_run old.run ∙ (some ∙ ap (λ (w : View). Some w) (sym (kept v some)))) (λ none. same_run old.run ∙ none))
        unbroken (λ tick. absurd (false≢true tick)))

    whole_kept : is_taken old.request ≡ true → (hop : ℕ) (v : View) → cut_by (site_of old) (number_of old) e hop v ≡ v
    whole_kept taken zero v = ap (λ (b : Bool). if b then v else ended v Incomplete) (sym taken_whole ∙ taken)
    whole_kept taken (suc hop) v = refl

    decided_kept : (v : View) → old.run ≡ Some v → is_some v.outcome ≡ true → (hop : ℕ) → cut_by (site_of old) (number_of old) e hop v ≡ v
    decided_kept v is decided (suc hop) = refl
    decided_kept v is decided zero = go (is_whole (reading (site_of old) (number_of old) e))
      where
        go : (b : Bool) → (if b then v else ended v Incomplete) ≡ v
        go true = refl
        go false = cut_spent v decided (spent_view v is)

    -- it is cut short within the body
    runs : (held : Leg) → old.stage ≡ At.Running held → is_taken old.request ≡ false → (mid : HttpConn)
        → mid ≡ record after_eof { run = if held.hop == 0 then ended_run Incomplete after_eof.run else after_eof.run } → HeardWell old mid e (ClientEof (number_of old)) legs
    runs held at open_yet mid is =
        subst (λ (conn : HttpConn). HeardWell old conn e (ClientEof (number_of old)) legs) (sym is)
        (quiet_well old L e legs next (ClientEof (number_of old)) rest fits rested refl (record after_eof { run = if held.hop == 0 then ended_run Incomplete after_eof.run else after_eof.run })
        (record { site = refl; number = refl; cut = refl; closing = refl; closes = refl; continued = refl }) refl (sym (noted_still (In (ClientEof (number_of old))) refl old.stage))
        (run_by old.run _ refl (λ v some. ap (λ (r : Option View). if held.hop == 0 then ended_run Incomplete r else r) (same_run old.run ∙ some) ∙ cut v some)
        (λ none. ap (λ (r : Option View). if held.hop == 0 then ended_run Incomplete r else r) (same_run old.run ∙ none) ∙ no_cut (held.hop == 0)))
        (λ none. absurd (running_leg held at none)) (λ tick. absurd (false≢true tick)))
      where
        no_cut : (b : Bool) → (if b then nothing else nothing) ≡ nothing
        no_cut true = refl
        no_cut false = refl

        by_hop : (hop : ℕ) (v : View) → (if hop == 0 then Some (ended v Incomplete) else Some v) ≡ Some (cut_by (site_of old) (number_of old) e hop v)
        by_hop zero v = ap (λ (b : Bool). Some (if b then v else ended v Incomplete)) (sym open_yet ∙ taken_whole)
        by_hop (suc hop) v = ap (λ (b : Bool). if b then Some (ended v Incomplete) else Some v) (not_first hop)

        cut : (v : View) → old.run ≡ Some v → (if held.hop == 0 then Some (ended v Incomplete) else Some v) ≡ Some (cut_by (site_of old) (number_of old) e (last_hop legs) v)
        cut v some = by_hop held.hop v ∙ ap (λ (hop : ℕ). Some (cut_by (site_of old) (number_of old) e hop v)) (sym (running_hop held at v some))

    -- the request is broken, or not
    breaks_it : is_running old.stage ≡ false → is_taken old.request ≡ false → (mid : HttpConn) → Interrupts Causes.Incomplete after_eof mid → HeardWell old mid e (ClientEof (number_of old)) legs
    breaks_it other open_yet mid i = by_run old.run refl
      where
        by_run : (run : Option View) → old.run ≡ run → HeardWell old mid e (ClientEof (number_of old)) legs
        by_run None none =
            interrupts_well old L e legs next rest found rested (ClientEof (number_of old)) fits refl (λ tick. absurd (false≢true tick)) none after_eof mid Causes.Incomplete same refl
            (sym (noted_still (In (ClientEof (number_of old))) refl old.stage)) refl
            (run_by old.run after_eof.run refl (λ v some. let never : None ≡ Some v = sym none ∙ some in absurd (cc)) (λ n. same_run old.run ∙ n)) refl
            (breaks_are ∙ (ap (λ (b : Bool). not b && is_breakable (site_of old) (number_of old) e e.items) open_yet
            ∙ breakable_is old L e legs next rest found rested (no_script none))) i
          where
            no_script : old.run ≡ None → legs ≡ []
            no_script n = (known_at old L e legs next rest None n).runs.0
        by_run (Some v) some =
            let touched : (is_untouched after_eof && not after_eof.flags.shut) ≡ false =
            ap (λ (r : Option View). (is_untouched_at old.stage && not (is_some r)) && not (flags_of old).shut) (same_run old.run ∙ some)
            ∙ ap (λ (b : Bool). b && not (flags_of old).shut) (and_none (is_untouched_at old.stage)) in
            stays mid (subst (λ (b : Bool). BreaksBy b Causes.Incomplete after_eof mid) touched i)
            (λ none. let never : None ≡ Some v = sym (no_leg old L e legs next rest none) ∙ some in absurd (cc))
            (λ w is. decided_kept w is (run_decided old L e legs next rest rested w is other) (last_hop legs))

    by_stage : (s : Stage) → old.stage ≡ s → is_taken old.request ≡ false → (mid : HttpConn) → EndsAt s after_eof mid → HeardWell old mid e (ClientEof (number_of old)) legs
    by_stage (At.Running held) at open_yet mid is = runs held at open_yet mid is
    by_stage At.Reading at open_yet mid i = breaks_it (ap is_running at) open_yet mid i
    by_stage (At.Rejected cause bare) at open_yet mid i = breaks_it (ap is_running at) open_yet mid i
    by_stage (At.Interrupted cause) at open_yet mid i = breaks_it (ap is_running at) open_yet mid i
    by_stage (At.Refused cause) at open_yet mid i = breaks_it (ap is_running at) open_yet mid i
    by_stage (At.Unstarted hop request) at open_yet mid i = breaks_it (ap is_running at) open_yet mid i
    by_stage (At.Starting held launch body whole) at open_yet mid i = breaks_it (ap is_running at) open_yet mid i
    by_stage (At.Finishing text closes) at open_yet mid i = breaks_it (ap is_running at) open_yet mid i
    by_stage At.Answered at open_yet mid i = breaks_it (ap is_running at) open_yet mid i
    by_stage At.Silent at open_yet mid i = breaks_it (ap is_running at) open_yet mid i

    pub end_well : (mid : HttpConn) → HearsEnd after_eof mid → HeardWell old mid e (ClientEof (number_of old)) legs
    end_well mid h = go (is_taken old.request) refl h
      where
        go : (b : Bool) → is_taken old.request ≡ b → EndsBy b after_eof mid → HeardWell old mid e (ClientEof (number_of old)) legs
        go true taken is =
            stays mid is (λ none. breaks_are ∙ ap (λ (b : Bool). not b && is_breakable (site_of old) (number_of old) e e.items) taken) (λ v some. whole_kept taken (last_hop legs) v)
        go false open_yet at = by_stage old.stage refl open_yet mid at
