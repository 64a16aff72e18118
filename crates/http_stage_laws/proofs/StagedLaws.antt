-- What is made ready leads from stage to stage.
use Rattle.std.proofs.Common.{◌≡◌, ℕ, Bool, true, false, ◌&&◌, ◌||◌, not, List, [], ◌∷◌, ◌++◌, Option, Some, None, option_map, if◌then◌else◌, suc, refl, sym, ap, ◌∙◌, subst}
use Rattle.std.specs.Prelude.{nat_le}
use Rattle.std.proofs.lemmas.Bool.{leb-true, leb-false}
use Rattle.host_base.specs.declared.cause.Cause.{Cause}
use Rattle.host_base.specs.declared.limits.Limits.{Limits}
use Rattle.host_base.specs.declared.site.ScriptKind.{ScriptKind}
use Rattle.host_base.specs.declared.site.Site.{Site}
use Rattle.host_trace.specs.Projections.{last_secs}
use Rattle.reply_kinds.specs.Derived.{is_header_whole}
use Rattle.reply_stream.specs.declared.asked.Asked.{Asked}
use Rattle.reply_stream.specs.declared.stream.Last.{Last}
use Rattle.reply_stream.specs.declared.stream.Last.TheVariants as Ended
use Rattle.reply_stream.specs.Writing.{Stood}
use Rattle.request_reader.specs.Request.{read_request}
use Rattle.trace_child.specs.Decided.{outcome_of}
use Rattle.child_core.specs.declared.ending.Outcome.{Outcome}
use Rattle.child_core.specs.declared.ending.Outcome.TheVariants.{Output, Failed, Gone, Stopped, Dropped}
use Rattle.child_core.specs.Knows.{read}
use Rattle.child_core.specs.View.{View, is_other}
use Rattle.trace_model.specs.Closes.{is_nph, persists_by}
use Rattle.trace_model.specs.Exchange.{Exchange, all_of, reading, request_bytes}
use Rattle.trace_model.specs.Legs.{Leg as Started, run_of}
use Rattle.trace_model.specs.Readings.{headed, is_bare, is_whole}
use Rattle.exchange_reply.specs.Reply.{Gives, KnowsReply, SpellsFault}
use Rattle.exchange_reply.specs.Standings.{Ends}
use Rattle.exchange_stage.specs.declared.stage.Leg.{Leg}
use Rattle.exchange_stage.specs.declared.stage.Stage.{Stage}
use Rattle.exchange_stage.specs.declared.stage.Stage.TheVariants as At
use Rattle.exchange_laws.specs.Walked.{IsLast}
use Rattle.exchange_laws.specs.Moves.{CutsMove, EndsMove, TellsMove, closes_of_kind}
use Rattle.exchange_laws.proofs.CutLaws.{cuts_are_ready, ends_are_ready}
use Rattle.exchange_laws.proofs.FinishLaws.{faults_are_ready}
use Rattle.exchange_laws.proofs.TellLaws.{tells_are_handed}
use Rattle.exchange_laws.specs.StageIs.{StageIs}
use Rattle.child_laws.specs.Children.{KnowsChildren}
use Rattle.child_laws.proofs.KnowLaws.{tells_last}
use Rattle.conn_laws.specs.Front.{IsHeard}
use Rattle.http_conn.specs.HttpConn.{HttpConn}
use Rattle.http_conn.specs.Kept.{number_of, site_of}
use Rattle.http_conn.specs.Begins.{ByOutcome, ReadiesAnswer, silenced}
use Rattle.http_conn.specs.Ready.{Breaks, BreaksBy, Concludes, EndsAs, EndsWith, HearsPiece, HearsTick, ReadsAll, Tells, closes_with, drained_run, outcome_of_run, stage_of_hop, undrained}
use Rattle.http_stage_laws.specs.Staged.{MayAnswer, MayReady, Staged, drops_of}
use Rattle.host_base.specs.declared.cause.Cause.TheVariants.{RedirectLoop}
use Rattle.host_trace.specs.Decider.{Outcome as Read, is_websocket, unanswered}
use Rattle.exchange_reply.specs.declared.reply.LegReply.{LegReply}
use Rattle.exchange_reply.specs.Reply.{closes_of}
use Rattle.exchange_request.specs.Knows.{bare_of, is_looked_at}
use Rattle.reply_stream.specs.Writing.{is_begun}
use Rattle.trace_model.specs.Answer.{request_of_hop}
use Rattle.trace_model.specs.Readings.{is_head_request}

-- ---- what the run of the last leg came to

pub no_last : {X : Type 0} (xs : List X) (x : X) → [] ≡ xs ++ x ∷ [] → ⊥
no_last [] x e = cc
no_last (y ∷ xs) x e = cc

pub outcome_told : (site : Site) (c : ℕ) (e : Exchange) (next : ℕ) (legs : List Started) (run : Option View) → KnowsChildren site c e false next legs run
    → (leg : Started) → IsLast site c e legs leg → outcome_of (run_of site c e leg) e.items ≡ option_map read (outcome_of_run run)
outcome_told site c e next legs None k leg last = absurd (no_last last.before leg (sym k.runs.0 ∙ last.is))
outcome_told site c e next legs (Some v) k leg last =
    let known : KnowsChildren site c e false next (last.before ++ leg ∷ []) (Some v) = subst (λ (ls : List Started). KnowsChildren site c e false next ls (Some v)) last.is k in
    (tells_last site c e next last.before leg v known).outcome

undrained_none : (run : Option View) → undrained (drained_run run) ≡ []
undrained_none None = refl
undrained_none (Some v) = refl

-- ---- the request

module _ (old : HttpConn) (e : Exchange) (legs : List Started) (stamp : Option ℕ) (may : MayReady old e legs stamp) where
  pub reads : ReadsAll (silenced old) (request_bytes (number_of old) e)
  reads =
      let h : IsHeard old.request _ (request_bytes (number_of old) e) = may.front.request may.found may.unclosed in
      record { taken = h.taken; knows = h.knows; looked = may.looked }

  closes_same : (kind : ScriptKind) → closes_with (silenced old) kind (request_bytes (number_of old) e) ≡ closes_of_kind (site_of old) (number_of old) e kind
  closes_same kind =
      ap (λ (l : Limits). is_nph kind || not (persists_by (headed (read_request l (request_bytes (number_of old) e))) && is_whole (read_request l (request_bytes (number_of old) e))))
      may.front.limits

  pub fault_is : (cause : Cause) (bare closes bare' closes' : Bool) (text : List ℕ) → bare ≡ bare' → closes ≡ closes' → SpellsFault cause bare closes stamp text
      → SpellsFault cause bare' closes' (last_secs (all_of e)) text
  fault_is cause bare closes bare' closes' text b c f =
      subst (λ (s : Option ℕ). SpellsFault cause bare' closes' s text) may.stamp_is
      (subst (λ (d : Bool). SpellsFault cause bare' d stamp text) c (subst (λ (d : Bool). SpellsFault cause d closes stamp text) b f))

-- the stage was taken out, and this put in its place
pub staged_as : (old new : HttpConn) (e : Exchange) (legs : List Started) (staged : Staged old e legs) (stage : Stage) → new ≡ record old { stage = stage }
    → StageIs (site_of old) (number_of old) e legs old.continued (is_looked_at old.request) (old.closing || old.closes) staged.more stage → Staged new e legs
staged_as old new e legs staged stage is s = subst (λ (conn : HttpConn). Staged conn e legs) (sym is) (record { more = staged.more; kept = staged.kept; is = s })

-- a run that goes on, or whose output ended, keeps its output
pub keeps_output : (site : Site) (c : ℕ) (e : Exchange) (next : ℕ) (legs : List Started) (run : Option View) → KnowsChildren site c e false next legs run
    → is_other (outcome_of_run run) ≡ false → drops_of run ≡ false
keeps_output site c e next legs None k goes = refl
keeps_output site c e next legs (Some v) k goes =
    let plain : is_websocket v.kind ≡ false = ap (λ (w : View). is_websocket w.kind) k.runs.held_as ∙ k.runs.known.plain in
    ap (λ (b : Bool). b || is_other v.outcome) plain ∙ goes

-- ---- a reply, by the leg alone

module _ (site : Site) (c : ℕ) (e : Exchange) (legs : List Started) (continued looked closing : Bool) (more : List ℕ) (leg : Leg) (closes : Bool) (stamp : Option ℕ)
    (closes_is : closes ≡ closes_of_kind site c e leg.kind) (stamp_is : stamp ≡ last_secs (all_of e)) where
  gives_as : (asked : Asked) (output : List ℕ) (ticked : Bool) (stood : Stood) (text : List ℕ) (reply : LegReply) → Gives asked output ticked closes stamp stood text reply
      → Gives asked output ticked (closes_of_kind site c e leg.kind) (last_secs (all_of e)) stood text reply
  gives_as asked output ticked stood text reply g =
      subst (λ (t : Option ℕ). Gives asked output ticked (closes_of_kind site c e leg.kind) t stood text reply) stamp_is
      (subst (λ (d : Bool). Gives asked output ticked d stamp stood text reply) closes_is g)

  tell_stage : (text : List ℕ) (reply : LegReply) → TellsMove site c e legs continued looked closing more leg text reply
      → (leg.ticked ≡ false → HearsPiece leg.reply more closes stamp text reply) → (leg.ticked ≡ true → more ≡ [] → HearsTick leg.reply closes stamp text reply)
      → (leg.ticked ≡ true → more ≡ [])
      → StageIs site c e legs continued looked closing [] (At.Running (record leg { reply = reply; text = text; ticked = false }))
  tell_stage text reply move piece tick apart = go leg.ticked refl
    where
      go : (b : Bool) → leg.ticked ≡ b → StageIs site c e legs continued looked closing [] (At.Running (record leg { reply = reply; text = text; ticked = false }))
      go false is =
          move.piece is (λ asked told ticked stood k. gives_as asked (told ++ more) ticked stood text reply (piece is asked told ticked stood k))
      go true is =
          move.tick is (apart is)
          (λ asked told ticked stood k. gives_as asked told (ticked || is_header_whole asked.kind told) stood text reply (tick is (apart is) asked told ticked stood k))

  ends_to : (last : Last) → EndsAs leg.reply closes stamp last
      → ((asked : Asked) (told : List ℕ) (ticked : Bool) (stood : Stood) → KnowsReply leg.reply asked told ticked stood
      → Ends asked told (closes_of_kind site c e leg.kind) (last_secs (all_of e)) stood last)
  ends_to last ends asked told ticked stood k =
      subst (λ (t : Option ℕ). Ends asked told (closes_of_kind site c e leg.kind) t stood last) stamp_is
      (subst (λ (d : Bool). Ends asked told d stamp stood last) closes_is (ends asked told ticked stood k))

  fault_to : (cause : Cause) (bare : Bool) (text : List ℕ) → SpellsFault cause bare closes stamp text
      → SpellsFault cause bare (closes_of_kind site c e leg.kind) (last_secs (all_of e)) text
  fault_to cause bare text f =
      subst (λ (t : Option ℕ). SpellsFault cause bare (closes_of_kind site c e leg.kind) t text) stamp_is
      (subst (λ (d : Bool). SpellsFault cause bare d stamp text) closes_is f)

  hop_stage : (location : List ℕ) → EndsMove site c e legs continued looked closing more leg → EndsAs leg.reply closes stamp (Ended.Hop location)
      → StageIs site c e legs continued looked closing more (stage_of_hop site leg.hop leg.request location)
  hop_stage location move ends = go (nat_le site.limits.redirects leg.hop) refl
    where
      go : (b : Bool) → nat_le site.limits.redirects leg.hop ≡ b
          → StageIs site c e legs continued looked closing more (if b then At.Refused RedirectLoop else At.Unstarted (suc leg.hop) (request_of_hop leg.request location))
      go true is = move.loops location (ends_to (Ended.Hop location) ends) (leb-true site.limits.redirects leg.hop is)
      go false is = move.leads_on location (ends_to (Ended.Hop location) ends) (leb-false site.limits.redirects leg.hop is)

-- ---- what is made ready

module _ (old new : HttpConn) (e : Exchange) (legs : List Started) (stamp : Option ℕ) (may : MayAnswer old e legs stamp) where
  comes : (o : Option Outcome) → outcome_of_run old.run ≡ o → (started : Started) → IsLast (site_of old) (number_of old) e legs started
      → outcome_of (run_of (site_of old) (number_of old) e started) e.items ≡ option_map read o
  comes o is started last =
      outcome_told (site_of old) (number_of old) e may.may.next legs old.run may.may.children started last ∙ ap (λ (p : Option Outcome). option_map read p) is

  module _ (leg : Leg) (at : old.stage ≡ At.Running leg) where
    running : StageIs (site_of old) (number_of old) e legs old.continued (is_looked_at old.request) (old.closing || old.closes) may.may.staged.more (At.Running leg)
    running = subst (λ (s : Stage). StageIs (site_of old) (number_of old) e legs old.continued (is_looked_at old.request) (old.closing || old.closes) may.may.staged.more s) at may.may.staged.is

    closes_to : (closes : Bool) → ((bytes : List ℕ) → ReadsAll (silenced old) bytes → closes ≡ closes_with (silenced old) leg.kind bytes)
        → closes ≡ closes_of_kind (site_of old) (number_of old) e leg.kind
    closes_to closes is =
        is (request_bytes (number_of old) e) (reads old e legs stamp may.may) ∙ closes_same old e legs stamp may.may leg.kind

    told : outcome_of_run old.run ≡ None → Tells leg stamp (silenced old) new → Staged new e legs
    told goes t =
        let keeps : may.may.staged.more ≡ (undrained old.run) =
        may.may.staged.kept (keeps_output (site_of old) (number_of old) e may.may.next legs old.run may.may.children (ap is_other goes)) in
        let now : StageIs (site_of old) (number_of old) e legs old.continued (is_looked_at old.request) (old.closing || old.closes) (undrained old.run) (At.Running leg) =
        subst (λ (more : List ℕ). StageIs (site_of old) (number_of old) e legs old.continued (is_looked_at old.request) (old.closing || old.closes) more (At.Running leg)) keeps running in
        let stage : StageIs (site_of old) (number_of old) e legs old.continued (is_looked_at old.request) (old.closing || old.closes) [] (At.Running (record leg { reply = t.reply; text = t.text; ticked = false })) =
        tell_stage (site_of old) (number_of old) e legs old.continued (is_looked_at old.request) (old.closing || old.closes) (undrained old.run) leg t.closes stamp
        (closes_to t.closes t.closes_is) may.may.stamp_is t.text t.reply
        (tells_are_handed (site_of old) (number_of old) e legs old.continued (is_looked_at old.request) (old.closing || old.closes) (undrained old.run) leg t.text t.reply now (may.written leg at) (comes None goes) (may.short leg at goes))
        t.piece t.tick (may.apart leg at goes) in
        subst (λ (conn : HttpConn). Staged conn e legs) (sym t.is) (record { more = []; kept = λ keeps_it. sym (undrained_none old.run); is = stage })

    concluded : outcome_of_run old.run ≡ Some Output → Concludes leg stamp (silenced old) new → Staged new e legs
    concluded ended con =
        let closes : con.closes_now ≡ closes_of_kind (site_of old) (number_of old) e leg.kind = closes_to con.closes_now con.closes_is in
        let move : EndsMove (site_of old) (number_of old) e legs old.continued (is_looked_at old.request) (old.closing || old.closes) may.may.staged.more leg =
        ends_are_ready (site_of old) (number_of old) e legs old.continued (is_looked_at old.request) (old.closing || old.closes) may.may.staged.more leg running (may.written leg at) (comes (Some Output) ended) in
        go con.closes_now closes move con.last con.ends con.with
      where
        go : (closes_now : Bool) → closes_now ≡ closes_of_kind (site_of old) (number_of old) e leg.kind
            → EndsMove (site_of old) (number_of old) e legs old.continued (is_looked_at old.request) (old.closing || old.closes) may.may.staged.more leg
            → (last : Last) → EndsAs leg.reply closes_now stamp last → EndsWith leg closes_now stamp (silenced old) new last → Staged new e legs
        go closes_now same move (Ended.Written text) ends with_it =
            staged_as old new e legs may.may.staged (At.Finishing text with_it.0) with_it.2
            (move.written text with_it.0
            (ends_to (site_of old) (number_of old) e legs old.continued (is_looked_at old.request) (old.closing || old.closes) may.may.staged.more leg closes_now stamp same may.may.stamp_is (Ended.Written text) ends)
            (λ asked told ticked stood k. with_it.1 asked told ticked stood k ∙ ap (λ (d : Bool). closes_of stood d) same))
        go closes_now same move (Ended.Hop location) ends with_it =
            staged_as old new e legs may.may.staged (stage_of_hop (site_of old) leg.hop leg.request location) with_it
            (hop_stage (site_of old) (number_of old) e legs old.continued (is_looked_at old.request) (old.closing || old.closes) may.may.staged.more leg closes_now stamp same may.may.stamp_is location move ends)
        go closes_now same move (Ended.Bad cause) ends with_it =
            staged_as old new e legs may.may.staged (At.Finishing with_it.text (closes_of_kind (site_of old) (number_of old) e leg.kind)) (with_it.is ∙ ap (λ (d : Bool). record old { stage = At.Finishing with_it.text d }) same)
            (move.refused cause with_it.text
            (ends_to (site_of old) (number_of old) e legs old.continued (is_looked_at old.request) (old.closing || old.closes) may.may.staged.more leg closes_now stamp same may.may.stamp_is (Ended.Bad cause) ends)
            (fault_to (site_of old) (number_of old) e legs old.continued (is_looked_at old.request) (old.closing || old.closes) may.may.staged.more leg closes_now stamp same may.may.stamp_is cause (is_head_request (Some leg.request)) with_it.text with_it.spells))

    cuts : CutsMove (site_of old) (number_of old) e legs old.continued (is_looked_at old.request) (old.closing || old.closes) may.may.staged.more leg
    cuts = cuts_are_ready (site_of old) (number_of old) e legs old.continued (is_looked_at old.request) (old.closing || old.closes) may.may.staged.more leg running (may.written leg at)

    broke : (cause : Cause) → outcome_of_run old.run ≡ Some (Failed cause) → Breaks leg cause stamp (silenced old) new → Staged new e legs
    broke cause failed_is b = go b.closes (closes_to b.closes b.closes_is) b.begun b.begun_is b.by
      where
        go : (closes : Bool) → closes ≡ closes_of_kind (site_of old) (number_of old) e leg.kind → (begun : Bool)
            → ((asked : Asked) (told : List ℕ) (ticked : Bool) (stood : Stood) → KnowsReply leg.reply asked told ticked stood → begun ≡ is_begun stood)
            → BreaksBy leg cause closes stamp (silenced old) new begun → Staged new e legs
        go closes same true begun_is by =
            subst (λ (conn : HttpConn). Staged conn e legs) (sym by)
            (record { more = may.may.staged.more; kept = may.may.staged.kept; is = cuts.begun cause (comes (Some (Failed cause)) failed_is) begun_is })
        go closes same false begun_is by =
            staged_as old new e legs may.may.staged (At.Finishing by.0 (closes_of_kind (site_of old) (number_of old) e leg.kind)) (by.1 ∙ ap (λ (d : Bool). record old { stage = At.Finishing by.0 d }) same)
            (cuts.unbegun cause by.0 (comes (Some (Failed cause)) failed_is) begun_is
            (λ asked told ticked stood k.
            fault_to (site_of old) (number_of old) e legs old.continued (is_looked_at old.request) (old.closing || old.closes) may.may.staged.more leg closes stamp same may.may.stamp_is cause asked.head_only by.0
            (by.2 asked told ticked stood k)))

    over : (o : Outcome) → read o ≡ unanswered → outcome_of_run old.run ≡ Some o → new ≡ silenced old → Staged new e legs
    over o waits is same =
        subst (λ (conn : HttpConn). Staged conn e legs) (sym same)
        (record { more = may.may.staged.more; kept = may.may.staged.kept; is = cuts.silent (λ started last. comes (Some o) is started last ∙ ap (λ (r : Read). Some r) waits) })

    by_outcome : (o : Option Outcome) → outcome_of_run old.run ≡ o → ByOutcome o leg stamp (silenced old) new → Staged new e legs
    by_outcome None is t = told is t
    by_outcome (Some Output) is con = concluded is con
    by_outcome (Some (Failed cause)) is b = broke cause is b
    by_outcome (Some Gone) is same = over Gone refl is same
    by_outcome (Some Stopped) is same = over Stopped refl is same
    by_outcome (Some Dropped) is same = over Dropped refl is same

  at_stage : StageIs (site_of old) (number_of old) e legs old.continued (is_looked_at old.request) (old.closing || old.closes) may.may.staged.more old.stage
  at_stage = may.may.staged.is

  by_stage : (stage : Stage) → old.stage ≡ stage → ReadiesAnswer stage stamp old new → Staged new e legs
  by_stage (At.Rejected cause bare) at f =
      staged_as old new e legs may.may.staged (At.Finishing f.text true) f.is
      ((faults_are_ready (site_of old) (number_of old) e legs old.continued (is_looked_at old.request) (old.closing || old.closes) may.may.staged.more f.text may.may.let_on may.may.unclosed).rejected cause bare
      (subst (λ (s : Stage). StageIs (site_of old) (number_of old) e legs old.continued (is_looked_at old.request) (old.closing || old.closes) may.may.staged.more s) at at_stage)
      (fault_is old e legs stamp may.may cause bare true bare true f.text refl refl f.spells))
  by_stage (At.Interrupted cause) at f =
      staged_as old new e legs may.may.staged (At.Finishing f.text true) f.is
      ((faults_are_ready (site_of old) (number_of old) e legs old.continued (is_looked_at old.request) (old.closing || old.closes) may.may.staged.more f.text may.may.let_on may.may.unclosed).interrupted cause
      (subst (λ (s : Stage). StageIs (site_of old) (number_of old) e legs old.continued (is_looked_at old.request) (old.closing || old.closes) may.may.staged.more s) at at_stage)
      (fault_is old e legs stamp may.may cause (bare_of old.request) true (is_bare (reading (site_of old) (number_of old) e)) true f.text (may.bare cause at) refl f.spells))
  by_stage (At.Running leg) at by = by_outcome leg at (outcome_of_run old.run) refl by
  by_stage At.Reading at same = subst (λ (conn : HttpConn). Staged conn e legs) (sym same) may.may.staged
  by_stage (At.Refused cause) at same = subst (λ (conn : HttpConn). Staged conn e legs) (sym same) may.may.staged
  by_stage (At.Unstarted hop request) at same = subst (λ (conn : HttpConn). Staged conn e legs) (sym same) may.may.staged
  by_stage (At.Starting leg launch body whole) at same = subst (λ (conn : HttpConn). Staged conn e legs) (sym same) may.may.staged
  by_stage (At.Finishing text closes) at same = subst (λ (conn : HttpConn). Staged conn e legs) (sym same) may.may.staged
  by_stage At.Answered at same = subst (λ (conn : HttpConn). Staged conn e legs) (sym same) may.may.staged
  by_stage At.Silent at same = subst (λ (conn : HttpConn). Staged conn e legs) (sym same) may.may.staged

pub answers_staged : (old new : HttpConn) (stamp : Option ℕ) (e : Exchange) (legs : List Started) → MayAnswer old e legs stamp → ReadiesAnswer old.stage stamp old new → Staged new e legs
answers_staged old new stamp e legs may readied = by_stage old new e legs stamp may old.stage refl readied
