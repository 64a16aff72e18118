-- Round after round, where a hop waits for its turn: memory runs out only where it is due.
use Rattle.std.proofs.Common.{◌≡◌, ◌≤◌, ◌⊎◌, ℕ, zero, suc, ◌==◌, Bool, true, false, ◌&&◌, ◌||◌, not, List, [], ◌∷◌, ◌++◌, Option, Some, None, Result, Ok, Err, refl, sym, ap, ◌∙◌, subst, inl, inr, append-nil}
use Rattle.std.specs.List.{list_any}
use Rattle.std.proofs.lemmas.Bool.{and_parts, eqb-true, false≢true, false_from_ne_true, or_left}
use Rattle.std.proofs.lemmas.List.Folds.{list_any-append}
use Rattle.host_base.specs.declared.cause.Cause.{Cause}
use Rattle.host_base.specs.declared.launch.Launch.{Launch}
use Rattle.host_base.specs.declared.request.Request.{Request}
use Rattle.host_base.specs.declared.site.Mapped.{Mapped}
use Rattle.host_base.specs.declared.site.ScriptKind.{ScriptKind}
use Rattle.host_base.specs.declared.site.ScriptKind.TheVariants.{Cgi, Nph, WebSocket}
use Rattle.host_trace.specs.declared.items.Act.{Act}
use Rattle.host_trace.specs.declared.items.Event.{Event}
use Rattle.host_trace.specs.declared.items.Item.{Item}
use Rattle.own_traces.specs.Whose.{next_after}
use Rattle.trace_child.specs.Words.{is_filled}
use Rattle.trace_model.specs.Demands.{is_live}
use Rattle.trace_model.specs.Exchange.{Exchange, all_of}
use Rattle.trace_model.specs.Standing.{stands_whole}
use Rattle.trace_model.specs.TakesNoMemory.{is_hop_act, lacks_hop, lacks_reply, writes}
use Rattle.exchange_request.specs.Knows.{is_looked_at}
use Rattle.exchange_stage.specs.declared.stage.Leg.{Leg}
use Rattle.exchange_stage.specs.declared.stage.Stage.{Stage}
use Rattle.exchange_stage.specs.declared.stage.Stage.TheVariants as At
use Rattle.exchange_laws.specs.Items.{is_unanswered}
use Rattle.exchange_laws.specs.Rules.{IsUnended}
use Rattle.exchange_laws.specs.StageIs.{StageIs}
use Rattle.exchange_laws.specs.Unanswered.{is_awaited}
use Rattle.exchange_laws.proofs.WholeLaws.{stages_are_walked}
use Rattle.conn_flags.specs.View.{has_room}
use Rattle.child_laws.specs.Step.{Turn}
use Rattle.conn_laws.specs.Moves.{Move, acts_of}
use Rattle.conn_laws.proofs.MoveLaws.{acts_of-append}
use Rattle.http_conn.specs.HttpConn.{HttpConn}
use Rattle.http_conn.specs.Begins.{PlaceBy, ReadiesHop, ScriptBy}
use Rattle.http_conn.specs.Kept.{is_reading, flags_of, number_of, site_of}
use Rattle.http_conn.specs.Ready.{Faults, waits_at}
use Rattle.http_conn.specs.Reasons.{ends_with}
use Rattle.http_conn.specs.Settles.{is_answered}
use Rattle.http_conn.specs.Slot.{run_settled}
use Rattle.http_conn.specs.Tells.{TellsMore, goes_at, has_turn}
use Rattle.http_conn.specs.Parts.{Begins, BeginsBy, FinishesBy, GivesHop, GivesHopBy, LosesTurn, Nothing, Or, Part, Round, Rounds, RoundsOn, Then, the_one, the_other}
use Rattle.http_conn.proofs.StateLaws.{going_found}
use Rattle.http_step_laws.specs.Standing.{Rest, Standing}
use Rattle.http_step_laws.proofs.HopWords.{may_turn}
use Rattle.http_step_laws.proofs.RoundLaws.{GoesOn, goes_on}
use Rattle.http_step_laws.proofs.StageWords.{more_in, stage_at, unwhole}
use Rattle.good_step_laws.specs.Shuts.Memory.{LetOn}
use Rattle.good_step_laws.proofs.Shuts.Borrowed.{hop_after}
use Rattle.good_step_laws.proofs.Shuts.EarnWords.{fault_filled, writes_append, written_here}
use Rattle.good_step_laws.proofs.Shuts.EndedLaws.{more_going}
use Rattle.good_step_laws.proofs.Shuts.ShapeLaws.{is_quiet, quiet_answers}
use Rattle.good_step_laws.proofs.Shuts.WaitLaws.{hop_lacks, loop_lacks}

no_suc : (n : ℕ) → suc n ≡ 0 → ⊥
no_suc n e = absurd (cc)

not_first : (n : ℕ) → (suc n == 0) ≡ false
not_first n = false_from_ne_true (suc n == 0) (λ is. no_suc n (eqb-true (suc n) 0 is))

-- something of an answer was written, or a hop was started
abbrev pub IsGiven : ℕ → List Move → Type 0
IsGiven c moves = (writes c (acts_of moves) ≡ true) ⊎ (list_any is_hop_act (acts_of moves) ≡ true)

or_right : (a b : Bool) → b ≡ true → (a || b) ≡ true
or_right true b e = refl
or_right false b e = e

hops_append : (xs ys : List Move) → list_any is_hop_act (acts_of (xs ++ ys)) ≡ (list_any is_hop_act (acts_of xs) || list_any is_hop_act (acts_of ys))
hops_append xs ys = ap (λ (l : List Act). list_any is_hop_act l) (acts_of-append xs ys) ∙ list_any-append is_hop_act (acts_of xs) (acts_of ys)

pub given_first : (c : ℕ) (xs ys : List Move) → IsGiven c xs → IsGiven c (xs ++ ys)
given_first c xs ys (inl some) = inl (writes_append c xs ys ∙ or_left (writes c (acts_of xs)) (writes c (acts_of ys)) some)
given_first c xs ys (inr some) = inr (hops_append xs ys ∙ or_left (list_any is_hop_act (acts_of xs)) (list_any is_hop_act (acts_of ys)) some)

pub given_then : (c : ℕ) (xs ys : List Move) → IsGiven c ys → IsGiven c (xs ++ ys)
given_then c xs ys (inl some) = inl (writes_append c xs ys ∙ or_right (writes c (acts_of xs)) (writes c (acts_of ys)) some)
given_then c xs ys (inr some) = inr (hops_append xs ys ∙ or_right (list_any is_hop_act (acts_of xs)) (list_any is_hop_act (acts_of ys)) some)

-- the reply or the next hop is lacked while the connection is live
abbrev pub Lacked : HttpConn → Exchange → Type 0
Lacked conn e = is_live (number_of conn) (all_of e) ≡ true → (lacks_reply (site_of conn) (number_of conn) e ≡ true) ⊎ (lacks_hop (site_of conn) (number_of conn) e ≡ true)

-- what a connection comes to, from one at which a hop waits
pub data After (x : HttpConn) (d : Exchange) (moves : List Move) (y : HttpConn) : Type 0 where
  same : y ≡ x → moves ≡ [] → After x d moves y
  given : IsGiven (number_of x) moves → After x d moves y
  lost : y.lost ≡ true → moves ≡ [] → Lacked x d → After x d moves y

module _ (L : List Item) (ev : Event) (acts : List Act) (turn : Turn) (d : Exchange) (x : HttpConn) (n : ℕ) (s : Standing L ev acts turn n d x) (two : 2 ≤ (site_of x).limits.head)
    (rest : Rest turn d x) (found : x.lost ≡ false) (waits : waits_at x.stage ≡ true) (some : is_filled s.legs ≡ true) (stamp : Option ℕ) where
  abbrev c : ℕ
  c = number_of x

  at_stage : (t : Stage) → x.stage ≡ t → StageIs (site_of x) c d s.legs x.continued (is_looked_at x.request) (x.closing || x.closes) (more_in x d s.legs (s.staged found)) t
  at_stage t at = stage_at x d s.legs t at (s.staged found)

  quiet_waits : (t : Stage) → waits_at t ≡ true → (is_quiet t ≡ true) × (is_reading t ≡ false)
  quiet_waits (At.Refused cause) w = (refl, refl)
  quiet_waits (At.Unstarted hop request) w = (refl, refl)
  quiet_waits _ w = absurd (false≢true w)

  -- its turn has come
  lacked : run_settled x.run ≡ true → has_room (flags_of x) ≡ true → Lacked x d
  lacked settled room live = by_stage x.stage refl waits
    where
      whole_none : (t : Stage) → x.stage ≡ t → IsUnended (site_of x) c d s.legs t → is_answered t ≡ false → stands_whole (site_of x) c d ≡ false
      whole_none t at unended none = unwhole x d s.legs (s.staged found) (subst (λ (y : Stage). IsUnended (site_of x) c d s.legs y) (sym at) unended) (ap is_answered at ∙ none)

      by_stage : (t : Stage) → x.stage ≡ t → waits_at t ≡ true → (lacks_reply (site_of x) c d ≡ true) ⊎ (lacks_hop (site_of x) c d ≡ true)
      by_stage (At.Refused cause) at w =
          inl (loop_lacks (site_of x) c d live (may_turn L ev acts turn d x n s settled room) (whole_none (At.Refused cause) at tt refl) s.legs x.continued cause (at_stage (At.Refused cause) at).0)
      by_stage (At.Unstarted hop request) at w =
          hop_lacks (site_of x) c d live (may_turn L ev acts turn d x n s settled room) (whole_none (At.Unstarted hop request) at tt refl) s.legs some
          (stages_are_walked (site_of x) c d s.legs x.continued (is_looked_at x.request) (x.closing || x.closes) (more_in x d s.legs (s.staged found)) (At.Unstarted hop request) (at_stage (At.Unstarted hop request) at))
          (at_stage (At.Unstarted hop request) at).0.left hop request (at_stage (At.Unstarted hop request) at).0.at_hop
      by_stage _ at w = absurd (false≢true w)

  turn_parts : (done : Bool) → has_turn x done ≡ true → (run_settled x.run ≡ true) × (has_room (flags_of x) ≡ true)
  turn_parts done is =
      let p = and_parts (not (ends_with x done) && run_settled x.run) (has_room (flags_of x)) is in
      ((and_parts (not (ends_with x done)) (run_settled x.run) p.0).1, p.1)

  turn_lacked : (done : Bool) → has_turn x done ≡ true → Lacked x d
  turn_lacked done is = let p = turn_parts done is in lacked p.0 p.1

  more_lacked : TellsMore x true → Lacked x d
  more_lacked m = go x.stage waits (sym m.is)
    where
      go : (t : Stage) → waits_at t ≡ true → goes_at x m.done t ≡ true → Lacked x d
      go (At.Refused cause) w is = turn_lacked m.done is
      go (At.Unstarted hop request) w is = turn_lacked m.done is
      go _ w is = absurd (false≢true w)

  -- ---- what is begun

  finish_after : (text : List ℕ) (closes : Bool) (mid y : HttpConn) (k : ℕ) (ys : List Move) → number_of mid ≡ c → is_filled text ≡ true → Lacked x d → FinishesBy text closes mid k ys y → After x d ys y
  finish_after text closes mid y k ys number filled lacks (the_one w) =
      given (subst (λ (l : List Move). IsGiven c l) (sym w.are)
      (given_first c w.sooner w.later (inl (ap (λ (l : List Move). writes c (acts_of l)) w.first.by.moves_are ∙ written_here c (number_of mid) text number filled))))
  finish_after text closes mid y k ys number filled lacks (the_other p) = lost (ap (λ (z : HttpConn). z.lost) p.by.loses.gives_up.is) p.by.loses.none lacks

  fault_after : (cause : Cause) (bare closes : Bool) (mid y : HttpConn) (k : ℕ) (ys : List Move) → Faults cause bare closes stamp (record x { stage = At.Silent }) mid → Lacked x d → GivesHop mid k ys y → After x d ys y
  fault_after cause bare closes mid y k ys f lacks g =
      finish_after f.text closes mid y k ys (ap (λ (z : HttpConn). number_of z) f.is) (fault_filled cause bare closes stamp f.text f.spells) lacks
      (subst (λ (t : Stage). GivesHopBy t mid k ys y) (ap (λ (z : HttpConn). z.stage) f.is) g)

  start_after : (leg : Leg) (launch : Launch) (body : List ℕ) (whole : Bool) (mid y : HttpConn) (k : ℕ) (ys : List Move) → (leg.hop == 0) ≡ false → Lacked x d → GivesHopBy (At.Starting leg launch body whole) mid k ys y → After x d ys y
  start_after leg launch body whole mid y k ys later lacks (the_one p) =
      given (inr (ap (λ (l : List Move). list_any is_hop_act (acts_of l)) p.by.moves_are ∙ or_left (not (leg.hop == 0)) false (ap not later)))
  start_after leg launch body whole mid y k ys later lacks (the_other p) = lost (ap (λ (z : HttpConn). z.lost) p.by.gives_up.is) p.by.none lacks

  script_after : (kind : ScriptKind) (hop : ℕ) (request : Request) (mapped : Mapped) (mid y : HttpConn) (k : ℕ) (ys : List Move) → (hop == 0) ≡ false → Lacked x d
      → ScriptBy kind hop request mapped stamp (record x { stage = At.Silent }) mid → GivesHop mid k ys y → After x d ys y
  script_after Cgi hop request mapped mid y k ys later lacks t g =
      start_after t.leg t.launch request.body _ mid y k ys (ap (λ (h : ℕ). h == 0) t.leg_is.hop_is ∙ later) lacks (subst (λ (z : Stage). GivesHopBy z mid k ys y) (ap (λ (z : HttpConn). z.stage) t.is) g)
  script_after Nph hop request mapped mid y k ys later lacks t g =
      start_after t.leg t.launch request.body _ mid y k ys (ap (λ (h : ℕ). h == 0) t.leg_is.hop_is ∙ later) lacks (subst (λ (z : Stage). GivesHopBy z mid k ys y) (ap (λ (z : HttpConn). z.stage) t.is) g)
  script_after WebSocket hop request mapped mid y k ys later lacks r g = fault_after r.0 r.2.bare r.2.closes mid y k ys r.2.fault lacks g

  place_after : (place : Result Mapped Cause) (hop : ℕ) (request : Request) (mid y : HttpConn) (k : ℕ) (ys : List Move) → (hop == 0) ≡ false → Lacked x d
      → PlaceBy place hop request stamp (record x { stage = At.Silent }) mid → GivesHop mid k ys y → After x d ys y
  place_after (Ok mapped) hop request mid y k ys later lacks f g = script_after f.kind hop request mapped mid y k ys later lacks f.by g
  place_after (Err cause) hop request mid y k ys later lacks r g = fault_after cause r.bare r.closes mid y k ys r.fault lacks g

  hop_after_it : (t : Stage) → x.stage ≡ t → waits_at t ≡ true → (mid y : HttpConn) (k : ℕ) (ys : List Move) → Lacked x d → ReadiesHop t stamp x mid → GivesHop mid k ys y → After x d ys y
  hop_after_it (At.Refused cause) at w mid y k ys lacks r g = fault_after cause r.bare r.closes mid y k ys r.fault lacks g
  hop_after_it (At.Unstarted hop request) at w mid y k ys lacks p g = place_after p.answer hop request mid y k ys later lacks p.by g
    where
      later : (hop == 0) ≡ false
      later = let a = hop_after (site_of x) c d s.legs (at_stage (At.Unstarted hop request) at).0.left hop request some (at_stage (At.Unstarted hop request) at).0.at_hop.reached in ap (λ (h : ℕ). h == 0) a.1 ∙ not_first a.0
  hop_after_it At.Reading at w mid y k ys lacks r g = absurd (false≢true w)
  hop_after_it (At.Rejected cause bare) at w mid y k ys lacks r g = absurd (false≢true w)
  hop_after_it (At.Interrupted cause) at w mid y k ys lacks r g = absurd (false≢true w)
  hop_after_it (At.Starting leg launch body whole) at w mid y k ys lacks r g = absurd (false≢true w)
  hop_after_it (At.Running leg) at w mid y k ys lacks r g = absurd (false≢true w)
  hop_after_it (At.Finishing text closes) at w mid y k ys lacks r g = absurd (false≢true w)
  hop_after_it At.Answered at w mid y k ys lacks r g = absurd (false≢true w)
  hop_after_it At.Silent at w mid y k ys lacks r g = absurd (false≢true w)

  begins_after : (k : ℕ) (ys : List Move) (y : HttpConn) → Begins stamp x k ys y → After x d ys y
  begins_after k ys y b = go b.turn refl b.by
    where
      go : (turned : Bool) → b.turn ≡ turned → BeginsBy turned stamp x k ys y → After x d ys y
      go false is nothing = same nothing.same nothing.none
      go true is (the_other p) = lost (ap (λ (z : HttpConn). z.lost) p.by.loses.gives_up.is) p.by.loses.none (turn_lacked b.tells.done (sym b.tells.is ∙ is))
      go true is (the_one w) =
          let all : ys ≡ w.later = w.are ∙ ap (λ (l : List Move). l ++ w.later) w.first.by.none in
          subst (λ (l : List Move). After x d l y) (sym all)
          (hop_after_it x.stage refl waits w.mid y (next_after k (acts_of w.sooner)) w.later (turn_lacked b.tells.done (sym b.tells.is ∙ is)) w.first.by.readies w.second)

  -- ---- rounds

  let_on_now : LetOn d x
  let_on_now first =
      false_from_ne_true (is_awaited (site_of x) c d) (λ awaited. false≢true (sym (quiet_waits x.stage waits).1 ∙ ((rest.1.found found).let_on (unanswered_waits x.stage waits) first awaited).2))
    where
      unanswered_waits : (t : Stage) → waits_at t ≡ true → is_unanswered t ≡ true
      unanswered_waits (At.Refused cause) w = refl
      unanswered_waits (At.Unstarted hop request) w = refl
      unanswered_waits _ w = absurd (false≢true w)

  -- the number of the next child says nothing here
  round_after : (moves : List Move) (y : HttpConn) → Round stamp x n moves y → After x d moves y
  round_after moves y r =
      let g : GoesOn d x = goes_on L ev acts turn d x n s two r.more in
      let a = quiet_answers L ev acts turn d x n s two g.on let_on_now (quiet_waits x.stage waits).0 stamp r.does.sooner r.does.mid r.does.first in
      let k : ℕ = next_after n (acts_of r.does.sooner) in
      let all : moves ≡ r.does.later = r.does.are ∙ ap (λ (l : List Move). l ++ r.does.later) a.1 in
      subst (λ (l : List Move). After x d l y) (sym all) (begins_after k r.does.later y (subst (λ (z : HttpConn). Begins stamp z k r.does.later y) a.0 r.does.second))

  lost_no_more : (y : HttpConn) → y.lost ≡ true → TellsMore y true → ⊥
  lost_no_more y is m = false≢true (sym (going_found y m.done (more_going y m)) ∙ is)

  rounds_after : (turns : ℕ) (moves : List Move) (y : HttpConn) → Rounds turns stamp x n moves y → After x d moves y
  rounds_after zero moves y nothing = same nothing.same nothing.none
  rounds_after (suc turns) moves y w = go (rounds_after turns w.sooner w.mid w.first)
    where
      go : After x d w.sooner w.mid → After x d moves y
      go (same is none) =
          let r : Round stamp x n w.later y = subst (λ (l : List Move). Round stamp x (next_after n (acts_of l)) w.later y) none (subst (λ (z : HttpConn). Round stamp z (next_after n (acts_of w.sooner)) w.later y) is w.second) in
          subst (λ (l : List Move). After x d l y) (sym (w.are ∙ ap (λ (l : List Move). l ++ w.later) none)) (round_after w.later y r)
      go (given g) = given (subst (λ (l : List Move). IsGiven c l) (sym w.are) (given_first c w.sooner w.later g))
      go (lost is none lacks) = absurd (lost_no_more w.mid is w.second.more)

  pub turns_after : (moves : List Move) (y : HttpConn) → RoundsOn stamp x n moves y → After x d moves y
  turns_after moves y r = go (rounds_after r.turns r.does.sooner r.does.mid r.does.first) _ r.does.second
    where
      joined : r.does.later ≡ [] → moves ≡ r.does.sooner
      joined none = r.does.are ∙ (ap (λ (l : List Move). r.does.sooner ++ l) none ∙ append-nil r.does.sooner)

      go : After x d r.does.sooner r.does.mid → (k : ℕ) → Or Nothing (Part LosesTurn) r.does.mid k r.does.later y → After x d moves y
      go (same is none) k (the_one nothing) = same (nothing.same ∙ is) (joined nothing.none ∙ none)
      go (same is none) k (the_other p) =
          lost (ap (λ (z : HttpConn). z.lost) p.by.loses.gives_up.is) (joined p.by.loses.none ∙ none) (more_lacked (subst (λ (z : HttpConn). TellsMore z true) is p.by.more))
      go (given g) k o = given (subst (λ (l : List Move). IsGiven c l) (sym r.does.are) (given_first c r.does.sooner r.does.later g))
      go (lost is none lacks) k (the_one nothing) = lost (ap (λ (z : HttpConn). z.lost) nothing.same ∙ is) (joined nothing.none ∙ none) lacks
      go (lost is none lacks) k (the_other p) = absurd (lost_no_more r.does.mid is p.by.more)
