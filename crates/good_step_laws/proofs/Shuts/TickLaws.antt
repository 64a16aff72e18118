-- Behind a Tick memory runs out only where a reply is due.
use Rattle.std.proofs.Common.{◌≡◌, ◌≤◌, ◌⊎◌, ℕ, Bool, true, false, ◌&&◌, ◌||◌, not, List, [], ◌∷◌, ◌++◌, Option, Some, None, refl, sym, ap, ◌∙◌, subst, inl, inr}
use Rattle.std.proofs.lemmas.Bool.{and_parts, false≢true, or_left}
use Rattle.host_base.specs.declared.cause.Cause.{Cause}
use Rattle.host_base.specs.declared.site.Site.{Site}
use Rattle.host_trace.specs.declared.items.Act.{Act}
use Rattle.host_trace.specs.declared.items.Act.TheVariants.{EndInput, Feed, Kill, Release, WantChild}
use Rattle.host_trace.specs.declared.items.Event.{Event}
use Rattle.host_trace.specs.declared.items.Item.{Item}
use Rattle.host_trace.specs.declared.items.Item.TheVariants.{In}
use Rattle.host_trace.specs.Told.{when}
use Rattle.own_traces.specs.Whose.{next_after}
use Rattle.child_core.specs.declared.ending.Outcome.{Outcome}
use Rattle.child_core.specs.declared.ending.Outcome.TheVariants as Ended
use Rattle.child_core.specs.Due.{acting, feed_given, input_given, is_ask_due, is_feed_due, is_input_due, is_kill_due, is_release_due, kill_given, piece_of, release_given}
use Rattle.child_core.specs.View.{View}
use Rattle.trace_child.specs.Words.{is_filled}
use Rattle.trace_model.specs.Exchange.{Exchange}
use Rattle.trace_model.specs.TakesNoMemory.{writes}
use Rattle.exchange_stage.specs.declared.stage.Leg.{Leg}
use Rattle.exchange_stage.specs.declared.stage.Stage.{Stage}
use Rattle.exchange_stage.specs.declared.stage.Stage.TheVariants as At
use Rattle.conn_flags.specs.View.{has_room}
use Rattle.child_laws.specs.Step.{Turn}
use Rattle.conn_laws.specs.Moves.{Move, acts_of}
use Rattle.http_conn.specs.HttpConn.{HttpConn}
use Rattle.http_conn.specs.Begins.{ByOutcome, ReadiesAnswer}
use Rattle.http_conn.specs.Kept.{is_reading, flags_of, number_of, site_of}
use Rattle.http_conn.specs.Ready.{Breaks, BreaksBy, HasBegun, MayLack, MayLackReply, Tells, drained_run, outcome_of_run, undrained}
use Rattle.http_conn.specs.Settles.{Follows, is_answered, is_over}
use Rattle.http_conn.specs.Slot.{run_settled}
use Rattle.http_conn.specs.Tells.{TellsMore}
use Rattle.http_conn.specs.Writes.{wrote as wrote_of}
use Rattle.http_conn.specs.Parts.{Answers, AnswersBy, Ends, EndsBy, FinishesBy, Gives, GivesBy, Handles, Nothing, Part, RoundsOn, Serves, ServesBy, ServesOrLoses, Then, gives_all, the_one, the_other}
use Rattle.http_conn.proofs.StateLaws.{going_found}
use Rattle.http_step_laws.specs.Standing.{Apt, Standing, ends_at}
use Rattle.good_step_laws.specs.Shuts.Memory.{IsTicked, RunTicked, TickedAt, Unfed}
use Rattle.good_step_laws.proofs.Shuts.CalmWords.{NoMore, StillAt, rounds_on_empty, rounds_on_none, still_no_more}
use Rattle.good_step_laws.proofs.Shuts.EarnWords.{fault_filled, has_settle, writes_append, written_here}
use Rattle.good_step_laws.proofs.Shuts.EndedLaws.{more_going}
use Rattle.good_step_laws.proofs.Shuts.OwedWords.{AreChilds, Owed, is_childs}
use Rattle.good_step_laws.proofs.Shuts.ShapeLaws.{IsAnswering, IsServed, away_answers, serves_shape}
use Rattle.good_step_laws.proofs.Shuts.TickWords.{failed_owed, interrupted_owed, lacks_owed, spelled_filled, text_owed}

-- a script runs, or nothing more is written
abbrev pub is_idle : Stage → Bool
is_idle (At.Running leg) = true
is_idle At.Silent = true
is_idle stage = false

pub idle_unanswered : (t : Stage) → is_idle t ≡ true → is_answered t ≡ false
idle_unanswered At.Reading e = absurd (false≢true e)
idle_unanswered At.Answered e = absurd (false≢true e)
idle_unanswered _ e = refl

pub idle_still : (conn : HttpConn) (t : Stage) → is_idle t ≡ true → StillAt conn t
idle_still conn (At.Running leg) e = tt
idle_still conn At.Silent e = tt
idle_still conn _ e = absurd (false≢true e)

unfed_drained : (run : Option View) → Unfed run → Unfed (drained_run run)
unfed_drained None unfed v is = absurd (no_view v is)
  where
    no_view : (w : View) → None ≡ Some w → ⊥
    no_view w e = absurd (cc)
unfed_drained (Some w) unfed v is = subst (λ (x : View). is_feed_due x ≡ false) (some_same is) (unfed w refl)
  where
    some_same : {a b : View} → Some a ≡ Some b → a ≡ b
    some_same e = cc

-- what an answer comes to
pub data Told (site : Site) (c : ℕ) (e : Exchange) (moves : List Move) (new : HttpConn) : Type 0 where
  wrote : writes c (acts_of moves) ≡ true → Told site c e moves new
  lost : new.lost ≡ true → moves ≡ [] → is_answered new.stage ≡ false → Owed site c e → Told site c e moves new
  still : new.lost ≡ false → Unfed new.run → is_idle new.stage ≡ true → Told site c e moves new

module _ (L : List Item) (ev : Event) (acts : List Act) (turn : Turn) (e : Exchange) (old : HttpConn) (n : ℕ) (s : Standing L ev acts turn n e old) (two : 2 ≤ (site_of old).limits.head)
    (apt : Apt e old) (found : old.lost ≡ false) (on : ends_at old e ≡ false) (ticked : IsTicked e old) (stamp : Option ℕ) where
  abbrev site : Site
  site = site_of old

  abbrev c : ℕ
  c = number_of old

  -- the rest of an answer is given
  finishes : (text : List ℕ) (closes : Bool) (mid new : HttpConn) (k : ℕ) (moves : List Move) → number_of mid ≡ c → is_answered mid.stage ≡ false → is_filled text ≡ true → Owed site c e
      → FinishesBy text closes mid k moves new → Told site c e moves new
  finishes text closes mid new k moves number unanswered filled owed (the_one w) =
      wrote (ap (λ (l : List Move). writes c (acts_of l)) w.are
      ∙ (writes_append c w.sooner w.later
      ∙ or_left (writes c (acts_of w.sooner)) (writes c (acts_of w.later)) (ap (λ (l : List Move). writes c (acts_of l)) w.first.by.moves_are ∙ written_here c (number_of mid) text number filled)))
  finishes text closes mid new k moves number unanswered filled owed (the_other p) =
      lost (ap (λ (x : HttpConn). x.lost) p.by.loses.gives_up.is) p.by.loses.none (p.by.loses.gives_up.answered ∙ unanswered) owed

  joined : (xs ys moves : List Move) (new : HttpConn) → moves ≡ xs ++ ys → xs ≡ [] → Told site c e ys new → Told site c e moves new
  joined xs ys moves new are none t = subst (λ (l : List Move). Told site c e l new) (sym (are ∙ ap (λ (l : List Move). l ++ ys) none)) t

  -- ---- a request that was broken

  broken_told : (cause : Cause) → old.stage ≡ At.Interrupted cause → (k : ℕ) (moves : List Move) (new : HttpConn) → AnswersBy false stamp old k moves new → Told site c e moves new
  broken_told cause at k moves new (the_other p) =
      lost (ap (λ (x : HttpConn). x.lost) p.by.loses.gives_up.is) p.by.loses.none (p.by.loses.gives_up.answered ∙ ap is_answered at) (interrupted_owed L ev acts turn e old n s apt found cause at)
  broken_told cause at k moves new (the_one w) = by_fault (subst (λ (t : Stage). ReadiesAnswer t stamp old w.mid) at w.first.by.readies)
    where
      by_fault : ReadiesAnswer (At.Interrupted cause) stamp old w.mid → Told site c e moves new
      by_fault f =
          joined w.sooner w.later moves new w.are w.first.by.none
          (finishes f.text true w.mid new (next_after k (acts_of w.sooner)) w.later (ap (λ (x : HttpConn). number_of x) f.is) (ap (λ (x : HttpConn). is_answered x.stage) f.is)
          (fault_filled cause _ true stamp f.text f.spells) (interrupted_owed L ev acts turn e old n s apt found cause at)
          (subst (λ (t : Stage). GivesBy t w.mid (next_after k (acts_of w.sooner)) w.later new) (ap (λ (x : HttpConn). x.stage) f.is) w.second))

  -- ---- a script runs, or ran

  module _ (leg : Leg) (at : old.stage ≡ At.Running leg) where
    -- it goes on
    on_told : outcome_of_run old.run ≡ None → undrained old.run ≡ [] → leg.ticked ≡ true → (k : ℕ) (moves : List Move) (new : HttpConn) → AnswersBy false stamp old k moves new → Told site c e moves new
    on_told goes none tick k moves new (the_other p) =
        let m : MayLackReply (outcome_of_run old.run) leg old.run = subst (λ (t : Stage). MayLack old t) at p.by.may in
        lost (ap (λ (x : HttpConn). x.lost) p.by.loses.gives_up.is) p.by.loses.none (p.by.loses.gives_up.answered ∙ ap is_answered at)
        (lacks_owed L ev acts turn e old n s apt found leg at goes none tick (subst (λ (o : Option Outcome). MayLackReply o leg old.run) goes m none).1)
    on_told goes none tick k moves new (the_one w) =
        by_text (subst (λ (o : Option Outcome). ByOutcome o leg stamp (record old { stage = At.Silent }) w.mid) goes (subst (λ (t : Stage). ReadiesAnswer t stamp old w.mid) at w.first.by.readies))
      where
        by_text : Tells leg stamp (record old { stage = At.Silent }) w.mid → Told site c e moves new
        by_text b =
            joined w.sooner w.later moves new w.are w.first.by.none
            (go (subst (λ (t : Stage). GivesBy t w.mid (next_after k (acts_of w.sooner)) w.later new) (ap (λ (x : HttpConn). x.stage) b.is) w.second) (is_filled b.text) refl)
          where
            number : number_of w.mid ≡ c
            number = ap (λ (x : HttpConn). number_of x) b.is

            unfed : Unfed w.mid.run
            unfed = subst (λ (x : Option View). Unfed x) (sym (ap (λ (x : HttpConn). x.run) b.is)) (unfed_drained old.run ticked.unfed)

            kept_lost : (text : List ℕ) → ((wrote_of text true w.mid).lost ≡ w.mid.lost) × ((wrote_of text true w.mid).run ≡ w.mid.run)
            kept_lost [] = (refl, refl)
            kept_lost (byte ∷ text) = (refl, refl)

            go : GivesBy (At.Running (record leg { reply = b.reply; ticked = false; text = b.text })) w.mid (next_after k (acts_of w.sooner)) w.later new → (filled : Bool) → is_filled b.text ≡ filled
                → Told site c e w.later new
            go (the_one p) true some = wrote (ap (λ (l : List Move). writes c (acts_of l)) p.by.moves_are ∙ written_here c (number_of w.mid) b.text number some)
            go (the_one p) false none_text =
                still (ap (λ (x : HttpConn). x.lost) p.by.is ∙ ((kept_lost b.text).0 ∙ w.first.by.found)) (subst (λ (x : Option View). Unfed x) (sym (ap (λ (x : HttpConn). x.run) p.by.is ∙ (kept_lost b.text).1)) unfed)
                (ap (λ (x : HttpConn). is_idle x.stage) p.by.is)
            go (the_other p) true some =
                lost (ap (λ (x : HttpConn). x.lost) p.by.loses.gives_up.is) p.by.loses.none (p.by.loses.gives_up.answered ∙ ap (λ (x : HttpConn). is_answered x.stage) b.is)
                (text_owed L ev acts turn e old n s apt found leg at goes none tick b.closes stamp b.text b.reply (b.tick tick none) (b.filled tick none some) some)
            go (the_other p) false none_text = absurd (false≢true (sym none_text ∙ p.by.filled))

    -- it failed
    failed_told : (cause : Cause) → outcome_of_run old.run ≡ Some (Ended.Failed cause) → (k : ℕ) (moves : List Move) (new : HttpConn) → AnswersBy false stamp old k moves new → Told site c e moves new
    failed_told cause came k moves new (the_other p) =
        let m : MayLackReply (outcome_of_run old.run) leg old.run = subst (λ (t : Stage). MayLack old t) at p.by.may in
        lost (ap (λ (x : HttpConn). x.lost) p.by.loses.gives_up.is) p.by.loses.none (p.by.loses.gives_up.answered ∙ ap is_answered at)
        (failed_owed L ev acts turn e old n s apt found leg at cause came (subst (λ (o : Option Outcome). MayLackReply o leg old.run) came m))
    failed_told cause came k moves new (the_one w) =
        by_break (subst (λ (o : Option Outcome). ByOutcome o leg stamp (record old { stage = At.Silent }) w.mid) came (subst (λ (t : Stage). ReadiesAnswer t stamp old w.mid) at w.first.by.readies))
      where
        j : ℕ
        j = next_after k (acts_of w.sooner)

        by_break : Breaks leg cause stamp (record old { stage = At.Silent }) w.mid → Told site c e moves new
        by_break b = joined w.sooner w.later moves new w.are w.first.by.none (go b.begun refl b.by)
          where
            go : (begun : Bool) → b.begun ≡ begun → BreaksBy leg cause b.closes stamp (record old { stage = At.Silent }) w.mid begun → Told site c e w.later new
            go true some is =
                let given : GivesBy At.Silent w.mid j w.later new = subst (λ (t : Stage). GivesBy t w.mid j w.later new) (ap (λ (x : HttpConn). x.stage) is) w.second in
                still (ap (λ (x : HttpConn). x.lost) given.same ∙ w.first.by.found) (subst (λ (x : Option View). Unfed x) (sym (ap (λ (x : HttpConn). x.run) given.same ∙ ap (λ (x : HttpConn). x.run) is)) ticked.unfed)
                (ap (λ (x : HttpConn). is_idle x.stage) given.same ∙ ap (λ (x : HttpConn). is_idle x.stage) is)
            go false none by =
                let has : HasBegun leg.reply false = λ asked told tick stood q. sym none ∙ b.begun_is asked told tick stood q in
                finishes by.0 b.closes w.mid new j w.later (ap (λ (x : HttpConn). number_of x) by.1) (ap (λ (x : HttpConn). is_answered x.stage) by.1)
                (spelled_filled L ev acts turn e old n s apt found leg at cause b.closes stamp by.0 by.2) (failed_owed L ev acts turn e old n s apt found leg at cause came has)
                (subst (λ (t : Stage). GivesBy t w.mid j w.later new) (ap (λ (x : HttpConn). x.stage) by.1) w.second)

  ticked_away : (t : Stage) → TickedAt old t → is_reading t ≡ false
  ticked_away At.Reading u = absurd u
  ticked_away _ u = refl

  pub answer_told : (moves : List Move) (new : HttpConn) → Answers stamp old n moves new → Told site c e moves new
  answer_told moves new w = go old.stage refl ticked.at (away_answers L ev acts turn e old n s two on ticked.let_on (ticked_away old.stage ticked.at) stamp moves new w)
    where
      by_run : (leg : Leg) → old.stage ≡ At.Running leg → (o : Option Outcome) → outcome_of_run old.run ≡ o → RunTicked o (undrained old.run) leg.ticked → IsAnswering stamp old moves new → Told site c e moves new
      by_run leg at None is u a = on_told leg at is u.0 u.1 a.number moves new a.by
      by_run leg at (Some (Ended.Failed cause)) is u a = failed_told leg at cause is a.number moves new a.by
      by_run leg at (Some _) is u a = absurd u

      go : (t : Stage) → old.stage ≡ t → TickedAt old t → IsAnswering stamp old moves new → Told site c e moves new
      go (At.Interrupted cause) at u a = broken_told cause at a.number moves new a.by
      go (At.Running leg) at u a = by_run leg at (outcome_of_run old.run) refl u a
      go _ at u a = absurd u
