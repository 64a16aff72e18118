-- Where something ends the connection, memory runs out in a step for a Feed alone.
use Rattle.std.proofs.Common.{◌≡◌, ◌≤◌, ℕ, Bool, true, false, ◌&&◌, ◌||◌, not, List, [], ◌∷◌, ◌++◌, Option, Some, None, is_some, refl, sym, ap, ◌∙◌, subst}
use Rattle.std.proofs.lemmas.Bool.{and_parts, false≢true, or_parts}
use Rattle.host_trace.specs.declared.items.Act.{Act}
use Rattle.host_trace.specs.declared.items.Event.{Event}
use Rattle.host_trace.specs.declared.items.Item.{Item}
use Rattle.own_traces.specs.Whose.{next_after}
use Rattle.child_core.specs.Due.{acted, is_feed_due}
use Rattle.child_core.specs.View.{View}
use Rattle.request_reader.specs.Request.{is_begun}
use Rattle.trace_model.specs.Exchange.{Exchange, request_bytes}
use Rattle.exchange_request.specs.Knows.{is_looked_at}
use Rattle.exchange_stage.specs.declared.stage.Stage.{Stage}
use Rattle.exchange_stage.specs.declared.stage.Stage.TheVariants as At
use Rattle.conn_flags.specs.View.{View as Flags, has_room, may_write}
use Rattle.child_laws.specs.Step.{Turn}
use Rattle.conn_laws.specs.Moves.{Move, acts_of}
use Rattle.http_conn.specs.HttpConn.{HttpConn}
use Rattle.http_conn.specs.Kept.{is_reading, flags_of, number_of, site_of}
use Rattle.http_conn.specs.Reasons.{ends_with, is_done_with}
use Rattle.http_conn.specs.Settles.{Follows, is_answered, is_over}
use Rattle.http_conn.specs.Slot.{run_settled}
use Rattle.http_conn.specs.Tells.{TellsDone, TellsMore, goes_at}
use Rattle.http_conn.specs.Parts.{Answers, AnswersBy, AnswersOn, Ends, EndsBy, Handles, LetsOn, LetsOnBy, Nothing, Part, ReadsBy, ReadsOn, Serves, ServesBy, ServesOrLoses, Then, the_one, the_other}
use Rattle.http_conn.proofs.StateLaws.{none_by_mid}
use Rattle.http_step_laws.specs.Standing.{Standing, ends_at}
use Rattle.http_step_laws.proofs.EndWords.{Going, ends_is, ends_same, going, goes}
use Rattle.good_step_laws.specs.Shuts.Memory.{Unfed}
use Rattle.good_step_laws.proofs.Shuts.CalmWords.{NoMore, rounds_on_none}

-- where more can be done nothing ends the connection
pub more_going : (conn : HttpConn) → (m : TellsMore conn true) → ends_with conn m.done ≡ false
more_going conn m = go conn.stage (sym m.is)
  where
    first : (a b : Bool) → (not a && b) ≡ true → a ≡ false
    first false b e = refl
    first true b e = absurd (false≢true e)

    both : (a b d : Bool) → (not a && b && d) ≡ true → a ≡ false
    both false b d e = refl
    both true b d e = absurd (false≢true e)

    go : (t : Stage) → goes_at conn m.done t ≡ true → ends_with conn m.done ≡ false
    go At.Reading e = first (ends_with conn m.done) (not (is_looked_at conn.request)) e
    go (At.Refused cause) e = both (ends_with conn m.done) (run_settled conn.run) (has_room (flags_of conn)) e
    go (At.Unstarted hop request) e = both (ends_with conn m.done) (run_settled conn.run) (has_room (flags_of conn)) e
    go _ e = absurd (false≢true e)

-- an exchange that is over is not read
over_reads_none : (t : Stage) → is_answered t ≡ true → is_reading t ≡ false
over_reads_none At.Reading e = absurd (false≢true e)
over_reads_none _ e = refl

-- what ends the connection ends it in the next exchange too
pub ends_on : (old new : HttpConn) (bytes : List ℕ) (done : Bool) → is_over old ≡ true → Follows old new → ends_with new done ≡ false → ends_with old (is_done_with old bytes) ≡ false
ends_on old new bytes done over f on =
    let g : Going new done = going new done on in
    let closing = or_parts old.closing old.closes (sym f.front.closing ∙ g.open_yet) in
    goes old (is_done_with old bytes) (record {
      may = sym (ap may_write f.flags) ∙ g.may;
      unstopped = sym (ap (λ (m : Flags). m.stopped) f.flags) ∙ g.unstopped;
      here = sym (ap (λ (m : Flags). m.gone) f.flags) ∙ g.here;
      found = sym f.lost ∙ g.found;
      calm = sym f.front.idled ∙ g.calm;
      open_yet = closing.0;
      unclosed = closing.1;
      uncut = sym f.cut ∙ g.uncut;
      undone = sym (none_by_mid (flags_of old).ended (is_reading old.stage) (not (is_begun bytes)) (over_reads_none old.stage (and_parts (is_answered old.stage) (run_settled old.run) over).0));
    })

module _ (L : List Item) (ev : Event) (acts : List Act) (turn : Turn) (e : Exchange) (old : HttpConn) (n : ℕ) (s : Standing L ev acts turn n e old) (two : 2 ≤ (site_of old).limits.head)
    (ends : ends_at old e ≡ true) (found : old.lost ≡ false) (unfed : Unfed old.run) (stamp : Option ℕ) where
  reads_same : (k : ℕ) (xs : List Move) (mid : HttpConn) → ReadsOn old k xs mid → mid ≡ old
  reads_same k xs mid r = (subst (λ (b : Bool). ReadsBy b (is_reading old.stage && not (is_looked_at old.request)) old k xs mid) (ends_is old e two s.front r.ending r.tells ∙ ends) r.by).same

  lets_same : (k : ℕ) (xs : List Move) (mid : HttpConn) → LetsOn old k xs mid → mid ≡ old
  lets_same k xs mid l = go l.due refl l.by
    where
      none : (a b : Bool) → a ≡ true → (not a && l.tells.awaited && b) ≡ false
      none true b e = refl
      none false b e = absurd (false≢true e)

      go : (due : Bool) → l.due ≡ due → LetsOnBy due old k xs mid → mid ≡ old
      go false is nothing = nothing.same
      go true is by =
          absurd (false≢true (sym (none (ends_with old l.tells.done) (not old.continued) (ends_same old e two s.front l.tells.done l.tells.tells ∙ ends)) ∙ (sym l.tells.is ∙ is)))

  answers_same : (k : ℕ) (xs : List Move) (mid : HttpConn) → AnswersOn stamp old k xs mid → mid ≡ old
  answers_same k xs mid a = (subst (λ (b : Bool). AnswersBy b stamp old k xs mid) (ends_is old e two s.front a.ending a.tells ∙ ends) a.by).same

  pub all_same : (xs : List Move) (mid : HttpConn) → Answers stamp old n xs mid → mid ≡ old
  all_same xs mid w =
      let one : w.mid ≡ old = reads_same n w.sooner w.mid w.first.by in
      let k : ℕ = next_after n (acts_of w.sooner) in
      let j : ℕ = next_after k (acts_of w.second.sooner) in
      let second : w.second.mid ≡ old = lets_same k w.second.sooner w.second.mid (subst (λ (c : HttpConn). LetsOn c k w.second.sooner w.second.mid) one w.second.first.by) in
      answers_same j w.second.later mid (subst (λ (c : HttpConn). AnswersOn stamp c j w.second.later mid) second w.second.second)

  -- the child has what is due, and the exchange may end
  module _ (here : HttpConn) (found_here : here.lost ≡ false) (ends_here : (done : Bool) → ends_with here done ≡ ends_with old done) (tells_here : (done : Bool) → TellsDone here done → TellsDone old done)
      (done_here : is_done_with here (request_bytes (number_of old) e) ≡ is_done_with old (request_bytes (number_of old) e)) where
    ended_then : (k : ℕ) (ys : List Move) (new : HttpConn) (b : Bool) → is_over here ≡ b → EndsBy b here k ys new → (new.lost ≡ false) × NoMore new
    ended_then k ys new false unover nothing = (
      ap (λ (c : HttpConn). c.lost) nothing.same ∙ found_here,
      subst (λ (c : HttpConn). NoMore c) (sym nothing.same)
          (λ m. false≢true (sym (more_going here m) ∙ (ends_here m.done ∙ (ends_same old e two s.front m.done (tells_here m.done m.tells) ∙ ends)))),
    )
    ended_then k ys new true over t = (
      t.1.lost ∙ found_here,
      λ m.
          false≢true (sym (ends_on here new (request_bytes (number_of old) e) m.done over t.1 (more_going new m))
          ∙ (ap (λ (b : Bool). ends_with here b) done_here ∙ (ends_here (is_done_with old (request_bytes (number_of old) e)) ∙ ends))),
    )

  pub handled : (k : ℕ) (moves : List Move) (new : HttpConn) → Handles old k moves new → (new.lost ≡ false) × NoMore new
  handled k moves new w = serves w.first
    where
      served : (run : Option View) → ServesBy run old k w.sooner w.mid → (new.lost ≡ false) × NoMore new
      served None nothing =
          let p : Part Ends old (next_after k (acts_of w.sooner)) w.later new = subst (λ (c : HttpConn). Part Ends c (next_after k (acts_of w.sooner)) w.later new) nothing.same w.second in
          ended_then old found (λ done. refl) (λ done t. t) refl (next_after k (acts_of w.sooner)) w.later new (is_over old) refl p.by
      served (Some v) q =
          let here : HttpConn = record old { run = Some (acted (has_room (flags_of old)) v) } in
          let p : Part Ends here (next_after k (acts_of w.sooner)) w.later new = subst (λ (c : HttpConn). Part Ends c (next_after k (acts_of w.sooner)) w.later new) q.by.is w.second in
          ended_then here found (λ done. refl) (λ done t. t) refl (next_after k (acts_of w.sooner)) w.later new (is_over here) refl p.by

      serves : ServesOrLoses old k w.sooner w.mid → (new.lost ≡ false) × NoMore new
      serves (the_one s) = served old.run s
      serves (the_other v) = absurd (false≢true (sym (unfed v.first.by.v v.first.by.run) ∙ v.first.by.due))

  -- So memory is found in the whole of it.
  pub ended_found : (moves : List Move) (new : HttpConn) → Serves stamp old n moves new → new.lost ≡ false
  ended_found moves new w =
      let same : w.mid ≡ old = all_same w.sooner w.mid w.first in
      let k : ℕ = next_after n (acts_of w.sooner) in
      let r = handled k w.second.sooner w.second.mid (subst (λ (c : HttpConn). Handles c k w.second.sooner w.second.mid) same w.second.first) in
      ap (λ (c : HttpConn). c.lost) (rounds_on_none stamp w.second.mid new _ w.second.later r.1 w.second.second) ∙ r.0
