-- Memory is wanting in a part of a step.
use Rattle.std.proofs.Common.{◌≡◌, ℕ, Bool, true, false, ◌&&◌, ◌||◌, not, List, [], Option, Some, None, refl, sym, ap, ◌∙◌, subst, append-nil}
use Rattle.std.proofs.lemmas.Bool.{false≢true}
use Rattle.host_base.specs.declared.site.Site.{Site}
use Rattle.host_trace.specs.declared.items.Act.{Act}
use Rattle.host_trace.specs.declared.items.Event.{Event}
use Rattle.host_trace.specs.declared.items.Item.{Item}
use Rattle.child_core.specs.declared.ending.Ending.TheVariants.{Dropped}
use Rattle.child_core.specs.View.{View}
use Rattle.trace_model.specs.Exchange.{Exchange}
use Rattle.trace_model.specs.Legs.{Leg as Started}
use Rattle.trace_model.specs.Standing.{stands_whole}
use Rattle.exchange_request.specs.declared.incoming.Incoming.{Incoming}
use Rattle.exchange_stage.specs.declared.stage.Stage.{Stage}
use Rattle.exchange_stage.specs.declared.stage.Stage.TheVariants as At
use Rattle.exchange_laws.specs.StageIs.{IsAnswered, IsLost, LostIs}
use Rattle.child_laws.specs.Children.{dropped}
use Rattle.child_laws.specs.Step.{Turn}
use Rattle.child_laws.specs.Moves.{Deals, may_lose}
use Rattle.child_laws.proofs.MoveLaws.{losses_move}
use Rattle.conn_laws.specs.Moves.{Move}
use Rattle.http_conn.specs.HttpConn.{HttpConn}
use Rattle.http_conn.specs.Kept.{flags_of, number_of, site_of}
use Rattle.http_conn.specs.Moves.{ended_run, losing}
use Rattle.http_conn.specs.Settles.{is_answered, is_over}
use Rattle.http_conn.specs.Slot.{run_settled}
use Rattle.http_stage_laws.specs.Staged.{Lost}
use Rattle.http_stage_laws.proofs.ItemLaws.{losses_staged}
use Rattle.http_conn.specs.Parts.{GivesUp}
use Rattle.http_step_laws.specs.Standing.{Apt, Claim, LetOn, Makes, Quiet, Read, Standing, is_early}

-- ---- what is known of the stage then, whichever it is

record LostParts (site : Site) (c : ℕ) (e : Exchange) (legs : List Started) (continued closing answered : Bool) : Type 0 where
  pub whole : answered ≡ true → IsAnswered site c e legs continued closing
  pub part : answered ≡ false → IsLost site c e legs continued

abbrev PartsAt : Site → ℕ → Exchange → List Started → Bool → Bool → Stage → Type 0
PartsAt site c e legs continued closing s = LostParts site c e legs continued closing (is_answered s)

unanswered : {site : Site} {c : ℕ} {e : Exchange} {legs : List Started} {continued closing : Bool} → IsLost site c e legs continued → LostParts site c e legs continued closing false
unanswered l = record { whole = λ b. absurd (false≢true b); part = λ b. l }

lost_parts : (site : Site) (c : ℕ) (e : Exchange) (legs : List Started) (continued closing : Bool) (s : Stage) → LostIs site c e legs continued closing s → PartsAt site c e legs continued closing s
lost_parts site c e legs continued closing At.Answered l = record { whole = λ b. l; part = λ b. absurd (false≢true (sym b)) }
lost_parts site c e legs continued closing _ l = unanswered l

lost_from : (site : Site) (c : ℕ) (e : Exchange) (legs : List Started) (continued closing : Bool) (s : Stage) → PartsAt site c e legs continued closing s → LostIs site c e legs continued closing s
lost_from site c e legs continued closing At.Answered p = p.whole refl
lost_from site c e legs continued closing _ p = p.part refl

-- where the one says that the whole answer stands, so does the other
pub lost_as : (site : Site) (c : ℕ) (e : Exchange) (legs : List Started) (continued closing : Bool) (s t : Stage) → is_answered t ≡ is_answered s
    → LostIs site c e legs continued closing s → LostIs site c e legs continued closing t
lost_as site c e legs continued closing s t same l =
    lost_from site c e legs continued closing t (subst (λ (b : Bool). LostParts site c e legs continued closing b) (sym same) (lost_parts site c e legs continued closing s l))

-- ---- the run that is given up

pub same_dropped : (run : Option View) → dropped run ≡ ended_run Dropped run
same_dropped None = refl
same_dropped (Some v) = refl

pub settled_dropped : (run : Option View) → run_settled (ended_run Dropped run) ≡ run_settled run
settled_dropped None = refl
settled_dropped (Some v) = refl

-- ---- the connection that is over

abbrev pub lost_with : HttpConn → Stage → Incoming → HttpConn
lost_with conn stage request = losing (record conn { stage = stage; request = request })

pub over_lost : (conn : HttpConn) (stage : Stage) (request : Incoming) → is_answered stage ≡ is_answered conn.stage → is_over (lost_with conn stage request) ≡ is_over conn
over_lost conn stage request same = ap (λ (b : Bool). b && run_settled (ended_run Dropped conn.run)) same ∙ ap (λ (b : Bool). is_answered conn.stage && b) (settled_dropped conn.run)

-- what is known where it was not over: of what was found nothing is said any more
pub record LostPosts (e : Exchange) (conn : HttpConn) : Type 0 where
  pub apt : Apt e conn
  pub read : Read e conn
  pub let_on : LetOn e conn
  pub quiet : Quiet e conn

pub posts_lost : (e : Exchange) (conn : HttpConn) → conn.lost ≡ true → is_over conn ≡ false → LostPosts e conn
posts_lost e conn lost unover =
    let apt : Apt e conn = record { unover = unover; found = λ f. absurd (false≢true (sym f ∙ lost)) } in
    let read : Read e conn = record { apt = apt; looked = λ f. absurd (false≢true (sym f ∙ lost)) } in
    record {
      apt = apt;
      read = read;
      let_on = record { read = read; none = λ f. absurd (false≢true (sym f ∙ lost)) };
      quiet = record { unover = unover; found = λ f. absurd (false≢true (sym f ∙ lost)) };
    }

module _ (Post : Claim) (L : List Item) (ev : Event) (acts : List Act) (turn : Turn) (e : Exchange) (old : HttpConn) (n : ℕ) (s : Standing L ev acts turn n e old) where
  -- what memory may run out for: it was found before, the child may be given up, the connection is not shut, and the
  -- whole answer doesn't stand unless the stage says so
  pub record MayLose : Type 0 where
    pub found : old.lost ≡ false
    pub free : may_lose turn old.run ≡ true
    pub unshut : (flags_of old).shut ≡ false
    pub unwhole : is_answered old.stage ≡ false → stands_whole (site_of old) (number_of old) e ≡ false

  module _ (may : MayLose) (stage : Stage) (request : Incoming) (answered : is_answered stage ≡ is_answered old.stage)
      (calm : old.idled ≡ true → is_answered stage ≡ false) (accepted : (flags_of old).accepted ≡ true) (post : Post turn e (lost_with old stage request)) where
    early_then : is_early (lost_with old stage request) ≡ true
    early_then = ap not may.unshut

    given_up : Deals (site_of old) (number_of old) L ev acts e s.over true turn n s.legs (ended_run Dropped old.run)
    given_up =
        subst (λ (r : Option View). Deals (site_of old) (number_of old) L ev acts e s.over true turn n s.legs r) (same_dropped old.run)
        (losses_move (site_of old) (number_of old) L ev acts e s.over (is_early old) turn n s.legs old.run may.free s.children)

    pub makes_lost : Makes Post L ev acts e old n [] (lost_with old stage request)
    makes_lost = record {
      in_step = tt;
      right = tt;
      turn = turn;
      over = s.over;
      legs = s.legs;
      staged = λ f. absurd (false≢true (sym f));
      lost = λ is.
          let was : Lost (losing old) e s.legs = losses_staged old e s.legs (s.staged may.found) may.unwhole in
          lost_as (site_of old) (number_of old) e s.legs old.continued (old.closing || old.closes) old.stage stage answered was;
      children = subst (λ (l : List Act). Deals (site_of old) (number_of old) L ev l e s.over (is_early (lost_with old stage request)) turn n s.legs (ended_run Dropped old.run)) (sym (append-nil acts))
          (subst (λ (b : Bool). Deals (site_of old) (number_of old) L ev acts e s.over b turn n s.legs (ended_run Dropped old.run)) (sym early_then) given_up);
      memory = λ is shut. absurd (false≢true (sym may.unshut ∙ shut));
      heard = λ f. absurd (false≢true (sym f));
      inward = record {
        calm = calm;
        calm_found = λ f. absurd (false≢true (sym f));
        accepted = λ r. accepted;
        lost_in = λ is. accepted;
        decided = λ f. absurd (false≢true (sym f));
        left = λ f. absurd (false≢true (sym f));
        cut_is = λ f. absurd (false≢true (sym f));
        held = λ shut. absurd (false≢true (sym may.unshut ∙ shut));
        http = s.inward.http;
        stays = λ f. absurd (false≢true (sym f));
        closes_is = λ is. answered ∙ s.inward.closes_is is;
        room = λ f. absurd (false≢true (sym f));
        asked = s.inward.asked;
        within = λ f. absurd (false≢true (sym f));
        past = λ f. absurd (false≢true (sym f));
      };
      starts_first = s.starts_first;
      accepted = accepted;
      post = post;
    }

  pub loses : MayLose → (new : HttpConn) (moves : List Move) → moves ≡ [] → GivesUp old new → (old.idled ≡ true → is_answered new.stage ≡ false)
      → (flags_of old).accepted ≡ true → Post turn e (lost_with old new.stage new.request) → Makes Post L ev acts e old n moves new
  loses may new moves none g calm accepted post =
      subst (λ (l : List Move). Makes Post L ev acts e old n l new) (sym none)
      (subst (λ (c : HttpConn). Makes Post L ev acts e old n [] c) (sym g.is) (makes_lost may new.stage new.request g.answered calm accepted post))
