-- What came is looked at.
use Rattle.std.proofs.Common.{◌≡◌, ◌≤◌, ℕ, inr, Bool, true, false, ◌&&◌, ◌||◌, not, List, [], refl, sym, ap, ◌∙◌, subst, append-nil}
use Rattle.std.proofs.lemmas.Bool.{and_parts, false≢true, not-false, not-true, or_from, or_left, or_right}
use Rattle.host_trace.specs.declared.items.Act.{Act}
use Rattle.host_trace.specs.declared.items.Event.{Event}
use Rattle.host_trace.specs.declared.items.Item.{Item}
use Rattle.request_reader.specs.Request.{is_begun}
use Rattle.trace_model.specs.Exchange.{Exchange, request_bytes}
use Rattle.exchange_request.specs.declared.found.Found.{Found}
use Rattle.exchange_request.specs.declared.found.Found.TheVariants as Seen
use Rattle.exchange_request.specs.declared.incoming.Incoming.{Incoming}
use Rattle.exchange_request.specs.Knows.{Finds, is_looked_at, is_taken, limits_of}
use Rattle.exchange_stage.specs.declared.stage.Stage.{Stage}
use Rattle.exchange_stage.specs.declared.stage.Stage.TheVariants as At
use Rattle.exchange_laws.specs.Rules.{IsUnended}
use Rattle.exchange_laws.proofs.ReasonParts.{no_more}
use Rattle.conn_flags.specs.Form.{are_given}
use Rattle.child_laws.specs.Step.{Turn}
use Rattle.child_laws.specs.Moves.{Deals, may_lose}
use Rattle.conn_laws.specs.Front.{IsHeard}
use Rattle.conn_laws.specs.Moves.{Move, acts_of}
use Rattle.conn_laws.proofs.FrontLaws.{unready_none}
use Rattle.http_conn.specs.HttpConn.{HttpConn}
use Rattle.http_conn.specs.Kept.{is_reading, flags_of, number_of, site_of}
use Rattle.http_conn.specs.Ready.{LooksTo, outcome_of_run}
use Rattle.http_conn.specs.Reasons.{is_done_with}
use Rattle.http_conn.specs.Settles.{is_answered}
use Rattle.http_conn.specs.Slot.{run_settled}
use Rattle.http_stage_laws.specs.Staged.{Staged}
use Rattle.http_stage_laws.specs.HeardStages.{HasHeard}
use Rattle.http_stage_laws.proofs.HeardOffers.{looks_are_heard}
use Rattle.http_stage_laws.proofs.LookLaws.{looks_staged}
use Rattle.http_conn.specs.Parts.{LooksAt, Loses, LosesLook, Nothing, Or, Part, ReadsBy, ReadsOn, the_one, the_other}
use Rattle.http_stage_laws.specs.Inward.{CutIs, is_running}
use Rattle.http_step_laws.specs.Standing.{Apt, AptAt, Leaves, Makes, Read, Standing, Within, ends_at}
use Rattle.http_step_laws.proofs.EndWords.{Going, accepted_of, ends_is, goes, going, unclosed_of, unshut_of}
use Rattle.http_step_laws.proofs.LossLaws.{lost_with, loses, over_lost, posts_lost}
use Rattle.http_step_laws.proofs.StageWords.{free_lost, unwhole}
use Rattle.http_step_laws.proofs.ThenLaws.{leaves_made, leaves_none}

pub is_at_reading : (s : Stage) → is_reading s ≡ true → s ≡ At.Reading
is_at_reading At.Reading e = refl
is_at_reading _ e = absurd (false≢true e)

module _ (L : List Item) (ev : Event) (acts : List Act) (turn : Turn) (e : Exchange) (old : HttpConn) (n : ℕ) (s : Standing L ev acts turn n e old) (two : 2 ≤ (site_of old).limits.head)
    (apt : Apt e old) (free : may_lose turn old.run ≡ true) (g : Going old (is_done_with old (request_bytes (number_of old) e))) (at : old.stage ≡ At.Reading) (unread : is_looked_at old.request ≡ false) where
  abbrev bytes : List ℕ
  bytes = request_bytes (number_of old) e

  unanswered : is_answered old.stage ≡ false
  unanswered = ap is_answered at

  -- nobody was asked for more while bytes wait that nobody has looked at
  none_within : ((flags_of old).asked || (flags_of old).ended) ≡ true → ⊥
  none_within either = false≢true (sym unread ∙ (s.inward.within g.found g.open_yet either).looked (ap is_reading at))

  -- this was found, and this is the request then
  module _ (stage : Stage) (request : Incoming) (staged : Staged (record old { request = request; stage = stage }) e s.legs)
      (cut : CutIs stage (outcome_of_run old.run) old.cut) (heard : HasHeard (record old { request = request; stage = stage }) e) (apt_at : AptAt (record old { request = request; stage = stage }) e stage)
      (looked : is_looked_at request ≡ true) (undone : is_done_with (record old { request = request; stage = stage }) bytes ≡ false) (none : is_answered stage ≡ false) where
    abbrev mid : HttpConn
    mid = record old { request = request; stage = stage }

    on : ends_at mid e ≡ false
    on = goes mid (is_done_with mid bytes) (record {
      may = g.may;
      unstopped = g.unstopped;
      here = g.here;
      found = g.found;
      calm = g.calm;
      open_yet = g.open_yet;
      unclosed = g.unclosed;
      uncut = g.uncut;
      undone = undone;
    })

    found_as : Makes (Within turn Read) L ev acts e old n [] mid
    found_as = record {
      in_step = tt;
      right = tt;
      turn = turn;
      over = s.over;
      legs = s.legs;
      staged = λ f. staged;
      lost = λ is. absurd (false≢true (sym g.found ∙ is));
      memory = λ is. absurd (false≢true (sym g.found ∙ is));
      children = subst (λ (l : List Act). Deals (site_of old) (number_of old) L ev l e s.over (old.lost && not (flags_of old).shut) turn n s.legs old.run) (sym (append-nil acts)) s.children;
      heard = λ f. heard;
      inward = record {
        calm = λ idle. absurd (false≢true (sym g.calm ∙ idle));
        calm_found = λ found idle. absurd (false≢true (sym g.calm ∙ idle));
        accepted = λ r. accepted_of old (is_done_with old bytes) g;
        cut_is = λ f. cut;
        held = λ shut. absurd (false≢true (sym (unshut_of old (is_done_with old bytes) g) ∙ shut));
        http = s.inward.http;
        lost_in = λ is. absurd (false≢true (sym g.found ∙ is));
        decided = λ f r. s.inward.decided g.found (ap is_running at);
        left = s.inward.left;
        stays = λ f unshut ends. absurd (false≢true (sym (or_from _ _ g.unstopped g.here) ∙ ends));
        closes_is = λ is. absurd (false≢true (sym g.unclosed ∙ is));
        room = s.inward.room;
        asked = s.inward.asked;
        within = λ f open_yet either. absurd (none_within either);
        past = λ f open_yet unshut is. absurd (none_within (or_right (flags_of old).asked (flags_of old).ended is));
      };
      starts_first = s.starts_first;
      accepted = accepted_of old (is_done_with old bytes) g;
      post = (
        refl,
        free,
        record {
          apt = record {
            unover = ap (λ (b : Bool). b && run_settled old.run) none;
            found = λ f. record { at = apt_at; goes = λ m. on; let_on = λ u c w. on };
          };
          looked = λ f o. or_left _ _ looked;
        },
      );
    }

  by_found : (new : HttpConn) (seen : Found) → Staged new e s.legs → HasHeard new e → LooksTo seen old new → limits_of new.request ≡ (site_of old).limits → Finds bytes seen new.request
      → Makes (Within turn Read) L ev acts e old n [] new
  by_found new Seen.More staged heard to limits f =
      let is : new ≡ record old { request = new.request; stage = At.Reading } = to ∙ ap (λ (t : Stage). record old { request = new.request; stage = t }) at in
      subst (λ (c : HttpConn). Makes (Within turn Read) L ev acts e old n [] c) (sym is)
      (found_as At.Reading new.request (subst (λ (c : HttpConn). Staged c e s.legs) is staged) g.uncut (subst (λ (c : HttpConn). HasHeard c e) is heard) tt f.looked undone refl)
    where
      undone : ((flags_of old).ended && true && not (is_begun bytes)) ≡ false
      undone = ap (λ (t : Stage). (flags_of old).ended && is_reading t && not (is_begun bytes)) (sym at) ∙ g.undone
  by_found new (Seen.Ready request) staged heard to limits f =
      subst (λ (c : HttpConn). Makes (Within turn Read) L ev acts e old n [] c) (sym to)
      (found_as (At.Unstarted 0 request) new.request (subst (λ (c : HttpConn). Staged c e s.legs) to staged) g.uncut (subst (λ (c : HttpConn). HasHeard c e) to heard) tt f.looked
      (no_more (flags_of old).ended (not (is_begun bytes))) refl)
  by_found new (Seen.Refused cause bare) staged heard to limits f =
      subst (λ (c : HttpConn). Makes (Within turn Read) L ev acts e old n [] c) (sym to)
      (found_as (At.Rejected cause bare) new.request (subst (λ (c : HttpConn). Staged c e s.legs) to staged) g.uncut (subst (λ (c : HttpConn). HasHeard c e) to heard) tt f.looked
      (no_more (flags_of old).ended (not (is_begun bytes))) refl)

  -- it was looked at, or memory ran out
  looks_make : (new : HttpConn) (moves : List Move) → LooksAt old n moves new → Makes (Within turn Read) L ev acts e old n moves new
  looks_make new moves l =
      let unclosed : e.closed ≡ false = unclosed_of old e (is_done_with old bytes) s.front g in
      let h : IsHeard old.request (is_reading old.stage) bytes = s.front.request g.found unclosed in
      let staged : Staged new e s.legs = looks_staged old new e s.legs s.front (s.staged g.found) g.found unclosed (inr l.looked) in
      subst (λ (m : List Move). Makes (Within turn Read) L ev acts e old n m new) (sym l.none)
      (by_found new l.looked.found staged (looks_are_heard old new e s.front g.found unclosed (s.heard g.found) (inr l.looked)) l.looked.to (l.looked.limits ∙ s.front.limits)
      (l.looked.finds bytes (unready_none old.request bytes h.taken (h.unready l.looked.reading) h.knows) (h.unready l.looked.reading)))

  loses_make : (new : HttpConn) (moves : List Move) → Loses old n moves new → Makes (Within turn Read) L ev acts e old n moves new
  loses_make new moves l =
      loses (Within turn Read) L ev acts turn e old n s (record {
        found = g.found;
        free = free;
        unshut = unshut_of old (is_done_with old bytes) g;
        unwhole = λ none. unwhole old e s.legs (s.staged g.found) (subst (λ (t : Stage). IsUnended (site_of old) (number_of old) e s.legs t) (sym at) tt) none;
      }) new moves l.none l.gives_up (λ idle. absurd (false≢true (sym g.calm ∙ idle))) (accepted_of old (is_done_with old bytes) g)
      (refl, free_lost turn old.run free, (posts_lost e (lost_with old new.stage new.request) refl (over_lost old new.stage new.request l.gives_up.answered ∙ apt.unover)).read)

-- After a look all was looked at where nothing ends the connection.
module _ (L : List Item) (ev : Event) (acts : List Act) (turn : Turn) (e : Exchange) (old : HttpConn) (n : ℕ) (s : Standing L ev acts turn n e old) (two : 2 ≤ (site_of old).limits.head)
    (apt : Apt e old) (free : may_lose turn old.run ≡ true) where
  nothing_read : (moves : List Move) (new : HttpConn) → (ends_at old e ≡ false → (is_looked_at old.request || is_taken old.request) ≡ true) → Nothing old n moves new → Leaves (Within turn Read) L ev acts e old n moves new
  nothing_read moves new looked none = leaves_none (Within turn Read) L ev acts turn e old new n moves s none (refl, free, record { apt = apt; looked = λ f o. looked o })

  by_tests : (ending unread : Bool) → ending ≡ ends_at old e → (is_reading old.stage && not (is_looked_at old.request)) ≡ unread → (moves : List Move) (new : HttpConn) → Part ReadsOn old n moves new
      → are_given (flags_of old) (acts_of moves) ≡ true → ReadsBy ending unread old n moves new → Leaves (Within turn Read) L ev acts e old n moves new
  by_tests true unread is test moves new p form none = nothing_read moves new (λ o. absurd (false≢true (sym o ∙ sym is))) none
  by_tests false false is test moves new p form none = nothing_read moves new (λ o. by_stage (is_reading old.stage) refl) none
    where
      found : old.lost ≡ false
      found = (going old (is_done_with old (request_bytes (number_of old) e)) (sym is)).found

      by_stage : (b : Bool) → is_reading old.stage ≡ b → (is_looked_at old.request || is_taken old.request) ≡ true
      by_stage false r = (s.heard found).looked r
      by_stage true r =
          or_left _ _ (not-false (is_looked_at old.request) (sym (ap (λ (b : Bool). b && not (is_looked_at old.request)) r) ∙ test))
  by_tests false true is test moves new p form by = leaves_made ReadsOn (Within turn Read) L ev acts turn e old new n moves s p form (made by)
    where
      g : Going old (is_done_with old (request_bytes (number_of old) e))
      g = going old (is_done_with old (request_bytes (number_of old) e)) (sym is)

      at : old.stage ≡ At.Reading
      at = is_at_reading old.stage (and_parts (is_reading old.stage) (not (is_looked_at old.request)) test).0

      unlooked : is_looked_at old.request ≡ false
      unlooked = not-true (is_looked_at old.request) (and_parts (is_reading old.stage) (not (is_looked_at old.request)) test).1

      made : Or LooksAt LosesLook old n moves new → Makes (Within turn Read) L ev acts e old n moves new
      made (the_one l) = looks_make L ev acts turn e old n s two apt free g at unlooked new moves l
      made (the_other l) = loses_make L ev acts turn e old n s two apt free g at unlooked new moves l.loses

  pub reads_leave : (moves : List Move) (new : HttpConn) → Part ReadsOn old n moves new → are_given (flags_of old) (acts_of moves) ≡ true → Leaves (Within turn Read) L ev acts e old n moves new
  reads_leave moves new p form =
      by_tests p.by.ending (is_reading old.stage && not (is_looked_at old.request)) (ends_is old e two s.front p.by.ending p.by.tells) refl moves new p form p.by.by
