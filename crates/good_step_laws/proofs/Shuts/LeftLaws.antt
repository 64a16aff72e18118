-- Behind the end of a child memory runs out only where something is due.
use Rattle.std.proofs.Common.{◌≡◌, ◌≤◌, ◌⊎◌, ℕ, Bool, true, false, ◌&&◌, ◌||◌, not, List, [], ◌∷◌, ◌++◌, Option, Some, None, is_some, refl, sym, ap, ◌∙◌, subst, inl, inr}
use Rattle.std.specs.List.{list_any}
use Rattle.std.proofs.lemmas.Bool.{and_parts, and_right, false≢true, or_left, false_from_ne_true}
use Rattle.host_base.specs.declared.cause.Cause.{Cause as Fault}
use Rattle.host_base.specs.declared.site.Site.{Site}
use Rattle.host_trace.specs.declared.items.Act.{Act}
use Rattle.host_trace.specs.declared.items.Event.{Event}
use Rattle.host_trace.specs.declared.items.Item.{Item}
use Rattle.host_trace.specs.declared.items.Item.TheVariants.{In}
use Rattle.host_trace.specs.Projections.{last_secs}
use Rattle.own_traces.specs.Whose.{next_after}
use Rattle.child_core.specs.View.{View}
use Rattle.trace_child.specs.Words.{is_filled}
use Rattle.trace_model.specs.Demands.{is_live}
use Rattle.trace_model.specs.Exchange.{Exchange, all_of, request_bytes, reading}
use Rattle.trace_model.specs.TakesNoMemory.{is_hop_act, lacks_hop, lacks_reply, writes}
use Rattle.exchange_request.specs.Knows.{is_looked_at}
use Rattle.exchange_stage.specs.declared.stage.Stage.{Stage}
use Rattle.exchange_stage.specs.declared.stage.Stage.TheVariants as At
use Rattle.exchange_laws.specs.StageIs.{StageIs}
use Rattle.conn_flags.specs.View.{View as Flags, has_room}
use Rattle.conn_flags.specs.Form.{are_given, given_all}
use Rattle.conn_flags.proofs.KnowsLaws.{given_all-number}
use Rattle.child_laws.specs.Children.{KnowsRuns, NoMore as Whatever}
use Rattle.child_laws.specs.Step.{Turn, waiting}
use Rattle.conn_laws.specs.Moves.{Move, acts_of, moved}
use Rattle.conn_laws.proofs.MoveLaws.{moved-append}
use Rattle.http_conn.specs.HttpConn.{HttpConn}
use Rattle.http_conn.specs.Kept.{flags_of, number_of, site_of, is_reading}
use Rattle.http_conn.specs.Ready.{waits_at}
use Rattle.http_conn.specs.Settles.{Follows, is_answered, is_over}
use Rattle.http_conn.specs.Slot.{run_settled}
use Rattle.http_conn.specs.Parts.{Handles, RoundsOn, Serves, Then}
use Rattle.http_stage_laws.proofs.StagedLaws.{no_last}
use Rattle.http_step_laws.specs.Standing.{Apt, Leaves, Quiet, Rest, Standing, Within, ends_at}
use Rattle.http_step_laws.proofs.AnswerLaws.{answers_leave}
use Rattle.http_step_laws.proofs.HandleLaws.{handles_leave}
use Rattle.http_step_laws.proofs.QuietWords.{some_last}
use Rattle.http_step_laws.proofs.StageWords.{known, known_now, more_in, stage_at}
use Rattle.http_step_laws.proofs.ThenLaws.{form_parts}
use Rattle.http_stage_laws.specs.Inward.{is_running}
use Rattle.exchange_laws.specs.Unanswered.{is_awaited, is_open}
use Rattle.trace_model.specs.Readings.{is_due}
use Rattle.request_reader.specs.Request.{is_begun}
use Rattle.http_stage_laws.proofs.HeardRest.{due_begun}
use Rattle.good_step_laws.specs.Shuts.Memory.{Calm, CalmAt, CalmRun, IsLeft, LeftAt}
use Rattle.good_step_laws.proofs.Shuts.CalmLaws.{calm_found}
use Rattle.good_step_laws.proofs.Shuts.CalmWords.{NoMore, StillAt, rounds_on_none, still_no_more}
use Rattle.good_step_laws.proofs.Shuts.CauseWords.{Cause, bytes_kept, heard, hopped, lacks, unfilled, wrote}
use Rattle.good_step_laws.proofs.Shuts.EarnLaws.{answers_earn, handles_whole, rounds_on_earn}
use Rattle.good_step_laws.proofs.Shuts.EarnWords.{Earned, Earns, earned_append, has_settle, is_slow, settle_append, writes_append}
use Rattle.good_step_laws.proofs.Shuts.EmptyLaws.{empty_found}
use Rattle.good_step_laws.proofs.Shuts.ShapeLaws.{IsServed, is_quiet, quiet_answers, serves_shape}
use Rattle.good_step_laws.proofs.Shuts.TurnLaws.{After, IsGiven, given, given_then, lost, same, turns_after}

or_right : (a b : Bool) → b ≡ true → (a || b) ≡ true
or_right true b e = refl
or_right false b e = e

answered_over : (conn : HttpConn) → is_over conn ≡ true → is_answered conn.stage ≡ true
answered_over conn over = (and_parts (is_answered conn.stage) (run_settled conn.run) over).0

module _ (L : List Item) (ev : Event) (e : Exchange) (old mid : HttpConn) (n : ℕ) (moves : List Move) (stamp : Option ℕ) (s : Standing L ev [] waiting n e old) (two : 2 ≤ (site_of old).limits.head)
    (clock : stamp ≡ last_secs (L ++ In ev ∷ [])) (apt : Apt e old) (w : Serves stamp old n moves mid) (form : are_given (flags_of old) (acts_of moves) ≡ true) (found : old.lost ≡ false)
    (on : ends_at old e ≡ false) (left : IsLeft e old s.over) (is_lost : mid.lost ≡ true) where
  abbrev site : Site
  site = site_of old

  abbrev c : ℕ
  c = number_of old

  abbrev k : ℕ
  k = next_after n (acts_of w.sooner)

  abbrev j : ℕ
  j = next_after k (acts_of w.second.sooner)

  abbrev served : HttpConn
  served = w.second.mid

  forms : (are_given (flags_of old) (acts_of w.sooner) ≡ true) × (are_given (given_all (flags_of old) (acts_of w.sooner)) (acts_of w.later) ≡ true)
  forms = form_parts (flags_of old) w.sooner w.later (subst (λ (l : List Move). are_given (flags_of old) (acts_of l) ≡ true) w.are form)

  answered : Leaves (Within waiting Quiet) L ev [] e old n w.sooner w.mid
  answered = answers_leave L ev [] waiting e old w.mid n w.sooner stamp s two clock apt refl w.first forms.0

  abbrev first : Exchange
  first = moved site c e w.sooner

  two_mid : 2 ≤ (site_of w.mid).limits.head
  two_mid = subst (λ (t : Site). 2 ≤ t.limits.head) (sym answered.site) two

  standing : Standing L ev ([] ++ acts_of w.sooner) waiting k first w.mid
  standing = subst (λ (t : Turn). Standing L ev ([] ++ acts_of w.sooner) t k first w.mid) answered.post.0 answered.standing

  form_later : are_given (flags_of w.mid) (acts_of w.later) ≡ true
  form_later = subst (λ (m : Flags). are_given m (acts_of w.later) ≡ true) (sym answered.flags) forms.1

  forms_later : (are_given (flags_of w.mid) (acts_of w.second.sooner) ≡ true) × (are_given (given_all (flags_of w.mid) (acts_of w.second.sooner)) (acts_of w.second.later) ≡ true)
  forms_later = form_parts (flags_of w.mid) w.second.sooner w.second.later (subst (λ (l : List Move). are_given (flags_of w.mid) (acts_of l) ≡ true) w.second.are form_later)

  handled : Leaves Rest L ev ([] ++ acts_of w.sooner) first w.mid k w.second.sooner served
  handled = handles_leave L ev ([] ++ acts_of w.sooner) first w.mid served k w.second.sooner standing two_mid answered.post.2 w.second.first forms_later.0

  number_mid : number_of w.mid ≡ c
  number_mid = ap (λ (m : Flags). m.c) answered.flags ∙ given_all-number (flags_of old) (acts_of w.sooner)

  number_served : number_of served ≡ c
  number_served = (ap (λ (m : Flags). m.c) handled.flags ∙ given_all-number (flags_of w.mid) (acts_of w.second.sooner)) ∙ number_mid

  -- the exchange that goes on once the child was served
  abbrev next : Exchange
  next = moved (site_of w.mid) (number_of w.mid) first w.second.sooner

  next_is : next ≡ moved site c first w.second.sooner
  next_is = ap (λ (t : Site). moved t (number_of w.mid) first w.second.sooner) answered.site ∙ ap (λ (d : ℕ). moved site d first w.second.sooner) number_mid

  moved_is : moved site c e moves ≡ moved site c next w.second.later
  moved_is =
      ap (λ (l : List Move). moved site c e l) w.are
      ∙ (moved-append site c e w.sooner w.later
      ∙ (ap (λ (l : List Move). moved site c first l) w.second.are
      ∙ (moved-append site c first w.second.sooner w.second.later ∙ ap (λ (d : Exchange). moved site c d w.second.later) (sym next_is))))

  two_served : 2 ≤ (site_of served).limits.head
  two_served = subst (λ (t : Site). 2 ≤ t.limits.head) (sym (handled.site ∙ answered.site)) two

  -- what is written in a part is written in the whole
  wrote_last : writes c (acts_of w.second.later) ≡ true → writes c (acts_of moves) ≡ true
  wrote_last some =
      ap (λ (l : List Move). writes c (acts_of l)) w.are
      ∙ (writes_append c w.sooner w.later
      ∙ or_right (writes c (acts_of w.sooner)) (writes c (acts_of w.later))
      (ap (λ (l : List Move). writes c (acts_of l)) w.second.are
      ∙ (writes_append c w.second.sooner w.second.later ∙ or_right (writes c (acts_of w.second.sooner)) (writes c (acts_of w.second.later)) some)))

  settles_middle : has_settle w.second.sooner ≡ true → has_settle moves ≡ true
  settles_middle some =
      ap has_settle w.are
      ∙ (settle_append w.sooner w.later
      ∙ or_right (has_settle w.sooner) (has_settle w.later)
      (ap has_settle w.second.are ∙ (settle_append w.second.sooner w.second.later ∙ or_left (has_settle w.second.sooner) (has_settle w.second.later) some)))

  -- ---- an exchange had ended with the event

  module _ (at : old.stage ≡ At.Reading) (some_over : is_filled s.over ≡ true) where
    no_child : CalmRun (is_running old.stage) (has_room (flags_of old)) old.run
    no_child = go old.run (known L ev [] waiting n e old s found).runs
      where
        reading : StageIs site c e s.legs old.continued (is_looked_at old.request) (old.closing || old.closes) (more_in old e s.legs (s.staged found)) At.Reading
        reading = stage_at old e s.legs At.Reading at (s.staged found)

        go : (run : Option View) → KnowsRuns Whatever site c e false s.legs run → CalmRun (is_running old.stage) (has_room (flags_of old)) run
        go None q = tt
        go (Some v) q = absurd (no_last q.older q.leg (sym reading.0.none ∙ q.are))

    by_answer : Earns c old w.sooner w.mid
    by_answer = answers_earn c stamp old w.mid n w.sooner refl (ap is_slow at) w.first

    whole_wrote : is_answered w.mid.stage ≡ true → writes c (acts_of w.sooner) ≡ true
    whole_wrote whole = go (by_answer.whole whole)
      where
        go : (is_answered old.stage ≡ true) ⊎ (writes c (acts_of w.sooner) ≡ true) → writes c (acts_of w.sooner) ≡ true
        go (inl was) = absurd (false≢true (sym (ap is_answered at) ∙ was))
        go (inr some) = some

    all_earned : has_settle moves ≡ true → writes c (acts_of moves) ≡ true
    all_earned some =
        ap (λ (l : List Move). writes c (acts_of l)) w.are
        ∙ (writes_append c w.sooner w.later ∙ go (has_settle w.sooner) (has_settle w.second.sooner) refl refl (sym (ap has_settle w.are ∙ settle_append w.sooner w.later) ∙ some))
      where
        by_handled : has_settle w.second.sooner ≡ true → writes c (acts_of w.sooner) ≡ true
        by_handled ends = whole_wrote (handles_whole w.mid served k w.second.sooner ends w.second.first)

        go : (a b : Bool) → has_settle w.sooner ≡ a → has_settle w.second.sooner ≡ b → (has_settle w.sooner || has_settle w.later) ≡ true → (writes c (acts_of w.sooner) || writes c (acts_of w.later)) ≡ true
        go true b ends other all = or_left (writes c (acts_of w.sooner)) (writes c (acts_of w.later)) (by_answer.earned ends)
        go false true ends other all = or_left (writes c (acts_of w.sooner)) (writes c (acts_of w.later)) (by_handled other)
        go false false ends other all =
            let in_later : has_settle w.later ≡ true = sym (ap (λ (x : Bool). x || has_settle w.later) ends) ∙ all in
            let in_rounds : has_settle w.second.later ≡ true =
            sym (ap has_settle w.second.are ∙ (settle_append w.second.sooner w.second.later ∙ ap (λ (x : Bool). x || has_settle w.second.later) other)) ∙ in_later in
            or_right (writes c (acts_of w.sooner)) (writes c (acts_of w.later))
            (ap (λ (l : List Move). writes c (acts_of l)) w.second.are
            ∙ (writes_append c w.second.sooner w.second.later
            ∙ or_right (writes c (acts_of w.second.sooner)) (writes c (acts_of w.second.later)) (rounds_on_earn c stamp served mid j w.second.later number_served w.second.second in_rounds)))

    -- where nothing was heard 100 Continue isn't due
    unawaited : is_filled (request_bytes c e) ≡ false → is_awaited site c e ≡ false
    unawaited none =
        and_right (is_open c e) (is_due (reading site c e))
        (false_from_ne_true (is_due (reading site c e)) (λ due. false≢true (sym (ap is_begun (unfilled (request_bytes c e) none)) ∙ due_begun site.limits (request_bytes c e) two due)))

    begun_cause : Cause site c e s.over moves
    begun_cause = go (is_filled (request_bytes c e)) refl (has_settle moves) refl
      where
        go : (b : Bool) → is_filled (request_bytes c e) ≡ b → (ends : Bool) → has_settle moves ≡ ends → Cause site c e s.over moves
        go false none ends is =
            let calm : Calm e old = record { run = no_child; let_on = λ first. unawaited none; at = subst (λ (t : Stage). CalmAt old e t) (sym at) (inr (unfilled (request_bytes c e) none)) } in
            absurd (false≢true (sym (calm_found L ev [] waiting e old n s two apt on calm stamp moves mid w) ∙ is_lost))
        go true some true is = wrote (all_earned is)
        go true some false is =
            heard (or_right (has_settle moves) (is_filled s.over) some_over) (ap (λ (l : List ℕ). is_filled l) (bytes_kept site c e moves is) ∙ some)

  -- ---- its answer stands whole, or a hop waits

  module _ (quiet : is_quiet old.stage ≡ true) (away : is_reading old.stage ≡ false) where
    answers_none : (w.mid ≡ old) × (w.sooner ≡ [])
    answers_none = quiet_answers L ev [] waiting e old n s two on (left.let_on away) quiet stamp w.sooner w.mid w.first

    shape : IsServed old w.second.sooner served
    shape = serves_shape old served k w.second.sooner left.unfed (subst (λ (x : HttpConn). Handles x k w.second.sooner served) answers_none.0 w.second.first)

    ended_cause : (at : old.stage ≡ At.Answered) → Cause site c e s.over moves
    ended_cause at = go shape.by
      where
        go : ((served ≡ shape.here) × (has_settle w.second.sooner ≡ false)) ⊎ ((is_over shape.here ≡ true) × Follows shape.here served × (has_settle w.second.sooner ≡ true)) → Cause site c e s.over moves
        go (inl stays) =
            let stage_is : served.stage ≡ At.Answered = ap (λ (x : HttpConn). x.stage) stays.0 ∙ (shape.stage ∙ at) in
            let none : NoMore served = still_no_more served (subst (λ (t : Stage). StillAt served t) (sym stage_is) tt) in
            let same_mid : mid ≡ served = rounds_on_none stamp served mid j w.second.later none w.second.second in
            absurd (false≢true (sym (ap (λ (x : HttpConn). x.lost) same_mid ∙ (ap (λ (x : HttpConn). x.lost) stays.0 ∙ (shape.lost ∙ found))) ∙ is_lost))
        go (inr ended) = by_bytes (is_filled (request_bytes (number_of served) next)) refl (has_settle w.second.later) refl
          where
            by_bytes : (b : Bool) → is_filled (request_bytes (number_of served) next) ≡ b → (ends : Bool) → has_settle w.second.later ≡ ends → Cause site c e s.over moves
            by_bytes false none ends is =
                absurd (false≢true (sym (empty_found L ev _ handled.turn next served _ handled.standing two_served handled.post (unfilled (request_bytes (number_of served) next) none) (ended.1.lost ∙ (shape.lost ∙ found)) stamp w.second.later mid w.second.second) ∙ is_lost))
            by_bytes true some true is = wrote (wrote_last (rounds_on_earn c stamp served mid j w.second.later number_served w.second.second is))
            by_bytes true some false is =
                heard (or_left (has_settle moves) (is_filled s.over) (settles_middle ended.2))
                (ap (λ (d : Exchange). is_filled (request_bytes c d)) moved_is
                ∙ (ap (λ (l : List ℕ). is_filled l) (bytes_kept site c next w.second.later is) ∙ (ap (λ (x : ℕ). is_filled (request_bytes x next)) (sym number_served) ∙ some)))

    -- a hop waits for its turn
    waits_cause : waits_at old.stage ≡ true → is_answered old.stage ≡ false → is_some old.run ≡ true → Cause site c e s.over moves
    waits_cause waits unanswered child = go shape.by
      where
        legs_some : ((served ≡ shape.here) × (has_settle w.second.sooner ≡ false)) → is_filled handled.standing.legs ≡ true
        legs_some stays = by_run served.run refl (known L ev _ handled.turn _ next served handled.standing still).runs
          where
            still : served.lost ≡ false
            still = ap (λ (x : HttpConn). x.lost) stays.0 ∙ (shape.lost ∙ found)

            by_run : (run : Option View) → served.run ≡ run → KnowsRuns Whatever (site_of served) (number_of served) next false handled.standing.legs run → is_filled handled.standing.legs ≡ true
            by_run None is q = absurd (false≢true (sym (ap is_some is) ∙ (ap (λ (x : HttpConn). is_some x.run) stays.0 ∙ (shape.some ∙ child))))
            by_run (Some v) is q = some_last q.older q.leg handled.standing.legs q.are

        go : ((served ≡ shape.here) × (has_settle w.second.sooner ≡ false)) ⊎ ((is_over shape.here ≡ true) × Follows shape.here served × (has_settle w.second.sooner ≡ true)) → Cause site c e s.over moves
        go (inr ended) = absurd (false≢true (sym unanswered ∙ (sym (ap is_answered shape.stage) ∙ answered_over shape.here ended.0)))
        go (inl stays) =
            by_after (turns_after L ev _ handled.turn next served _ handled.standing two_served handled.post still_found (ap waits_at (ap (λ (x : HttpConn). x.stage) stays.0 ∙ shape.stage) ∙ waits) (legs_some stays) stamp w.second.later mid w.second.second)
          where
            still_found : served.lost ≡ false
            still_found = ap (λ (x : HttpConn). x.lost) stays.0 ∙ (shape.lost ∙ found)

            given_all_moves : IsGiven c w.second.later → IsGiven c moves
            given_all_moves g =
                subst (λ (l : List Move). IsGiven c l) (sym w.are)
                (given_then c w.sooner w.later (subst (λ (l : List Move). IsGiven c l) (sym w.second.are) (given_then c w.second.sooner w.second.later g)))

            by_given : IsGiven c moves → Cause site c e s.over moves
            by_given (inl some_text) = wrote some_text
            by_given (inr some_hop) = hopped some_hop

            by_after : After served next w.second.later mid → Cause site c e s.over moves
            by_after (same is none) = absurd (false≢true (sym (ap (λ (x : HttpConn). x.lost) is ∙ still_found) ∙ is_lost))
            by_after (given g) = by_given (given_all_moves (subst (λ (x : ℕ). IsGiven x w.second.later) number_served g))
            by_after (lost is none due) =
                let here : moved site c e moves ≡ next = moved_is ∙ ap (λ (l : List Move). moved site c next l) none in
                lacks (λ live.
                subst (λ (d : Exchange). (lacks_reply site c d ≡ true) ⊎ (lacks_hop site c d ≡ true)) (sym here)
                (subst (λ (t : Site). (lacks_reply t c next ≡ true) ⊎ (lacks_hop t c next ≡ true)) (handled.site ∙ answered.site)
                (subst (λ (x : ℕ). (lacks_reply (site_of served) x next ≡ true) ⊎ (lacks_hop (site_of served) x next ≡ true)) number_served
                (due (ap (λ (x : ℕ). is_live x (all_of next)) number_served ∙ (sym (ap (λ (d : Exchange). is_live c (all_of d)) here) ∙ live))))))

  -- ---- all stages

  -- where a hop was refused for one redirect too many a script was started
  refused_child : (cause : Fault) → old.stage ≡ At.Refused cause → is_some old.run ≡ true
  refused_child cause at = go old.run (known L ev [] waiting n e old s found).runs
    where
      refused : StageIs site c e s.legs old.continued (is_looked_at old.request) (old.closing || old.closes) (more_in old e s.legs (s.staged found)) (At.Refused cause)
      refused = stage_at old e s.legs (At.Refused cause) at (s.staged found)

      go : (run : Option View) → KnowsRuns Whatever site c e false s.legs run → is_some run ≡ true
      go None q = absurd (no_last refused.0.last.before refused.0.leg (sym q.0 ∙ refused.0.last.is))
      go (Some v) q = refl

  pub left_cause : Cause site c e s.over moves
  left_cause = go old.stage refl left.at
    where
      go : (t : Stage) → old.stage ≡ t → LeftAt old s.over t → Cause site c e s.over moves
      go At.Reading at some = begun_cause at some
      go At.Answered at u = ended_cause (ap is_quiet at) (ap is_reading at) at
      go (At.Refused cause) at u = waits_cause (ap is_quiet at) (ap is_reading at) (ap waits_at at) (ap is_answered at) (refused_child cause at)
      go (At.Unstarted hop request) at child = waits_cause (ap is_quiet at) (ap is_reading at) (ap waits_at at) (ap is_answered at) child
      go (At.Rejected cause bare) at u = absurd u
      go (At.Interrupted cause) at u = absurd u
      go (At.Starting leg launch body whole) at u = absurd u
      go (At.Running leg) at u = absurd u
      go (At.Finishing text closes) at u = absurd u
      go At.Silent at u = absurd u
