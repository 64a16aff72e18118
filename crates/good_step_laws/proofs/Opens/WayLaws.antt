-- The way of a step up to where an accept text is written.
use Rattle.std.proofs.Common.{◌≡◌, ◌≤◌, ℕ, true, false, List, [], ◌∷◌, ◌++◌, Option, refl, sym, ap, ◌∙◌, subst, append_assoc}
use Rattle.host_base.specs.declared.launch.Launch.{Launch}
use Rattle.host_base.specs.declared.site.Site.{Site}
use Rattle.host_trace.specs.declared.items.Act.{Act}
use Rattle.host_trace.specs.declared.items.Event.{Event}
use Rattle.host_trace.specs.declared.items.Item.{Item}
use Rattle.host_trace.specs.declared.items.Item.TheVariants.{In}
use Rattle.host_trace.specs.Projections.{last_secs}
use Rattle.own_traces.specs.Whose.{next_after}
use Rattle.trace_model.specs.Exchange.{Exchange, has_start}
use Rattle.conn_flags.specs.Form.{are_given}
use Rattle.child_laws.specs.Step.{Turn, waiting}
use Rattle.conn_laws.specs.Moves.{Move, acts_of}
use Rattle.http_conn.specs.HttpConn.{HttpConn}
use Rattle.http_conn.specs.Kept.{flags_of, number_of, site_of}
use Rattle.http_conn.specs.Parts.{Answers, Deed, Handles, Part, Rounds, Then}
use Rattle.http_conn.specs.Tells.{TellsMore}
use Rattle.http_conn.specs.Welcomes.{Accepts, Greets}
use Rattle.http_step_laws.specs.Standing.{Apt, Claim, Leaves, Quiet, Rest, Standing, Within}
use Rattle.http_step_laws.proofs.AnswerLaws.{answers_leave}
use Rattle.http_step_laws.proofs.HandleLaws.{handles_leave}
use Rattle.http_step_laws.proofs.RoundLaws.{GoesOn, apt_on, goes_on, rounds_leave}
use Rattle.http_step_laws.proofs.StageWords.{free_settled}
use Rattle.http_step_laws.proofs.ThenLaws.{leaves_as, then_leaves}
use Rattle.good_step_laws.proofs.Orders.GoesLaws.{Goes, then_goes}
use Rattle.good_step_laws.proofs.Orders.HandleLaws.{Calm, anew, dealt}
use Rattle.good_step_laws.proofs.Orders.HopLaws.{Low}
use Rattle.good_step_laws.proofs.Orders.RoundLaws.{AtFirst, CalmNow, LowNow, answers_calm, answers_first, goes_now, handled_go, more_calm, rounds_go}
use Rattle.good_step_laws.proofs.Shuts.PartLaws.{inner_answers, inner_handles, inner_rounds}
use Rattle.good_step_laws.proofs.Shuts.PartWords.{IsInner, inner_then}

-- ---- its parts

-- a round up to there, where something may go on
pub record RoundAhead (stamp : Option ℕ) (old : HttpConn) (n : ℕ) (moves : List Move) (new : HttpConn) : Type 0 where
  pub more : TellsMore old true
  pub does : Answers stamp old n moves new

-- a step behind its event up to there, where these rounds come before
abbrev pub Ahead : ℕ → Option ℕ → Deed
Ahead turns stamp = Then (Answers stamp) (Then Handles (Then (Rounds turns stamp) (RoundAhead stamp)))

-- The accept text is written behind these moves.
pub record Way (launch : Launch) (stamp : Option ℕ) (old : HttpConn) (n : ℕ) (moves : List Move) (new : HttpConn) : Type 0 where
  pub turns : ℕ
  pub ready : HttpConn
  pub ahead : List Move
  pub tail : List Move
  pub are : moves ≡ ahead ++ tail
  pub does : Ahead turns stamp old n ahead ready
  pub next : ℕ
  pub accepts : Part (Accepts launch) ready next tail new

regroup : (a b d f g : List Move) → a ++ (b ++ (d ++ (f ++ g))) ≡ (a ++ (b ++ (d ++ f))) ++ g
regroup a b d f g =
    sym (append_assoc a (b ++ (d ++ f)) g
    ∙ ap (λ (l : List Move). a ++ l) (append_assoc b (d ++ f) g ∙ ap (λ (l : List Move). b ++ l) (append_assoc d f g)))

pub way_of : (launch : Launch) (stamp : Option ℕ) (old : HttpConn) (n : ℕ) (moves : List Move) (new : HttpConn) → Greets launch stamp old n moves new → Way launch stamp old n moves new
way_of launch stamp old n moves new w =
    let h = w.second in
    let r = h.second.1 in
    let z = r.second.does in
    let k : ℕ = next_after (next_after n (acts_of w.sooner)) (acts_of h.sooner) in
    record {
      turns = h.second.0;
      ready = z.mid;
      ahead = w.sooner ++ (h.sooner ++ (r.sooner ++ z.sooner));
      tail = z.later;
      are = w.are
          ∙ (ap (λ (l : List Move). w.sooner ++ l) h.are
          ∙ (ap (λ (l : List Move). w.sooner ++ (h.sooner ++ l)) r.are
          ∙ (ap (λ (l : List Move). w.sooner ++ (h.sooner ++ (r.sooner ++ l))) z.are ∙ regroup w.sooner h.sooner r.sooner z.sooner z.later)));
      does = record {
        mid = w.mid;
        sooner = w.sooner;
        later = h.sooner ++ (r.sooner ++ z.sooner);
        are = refl;
        first = w.first;
        second = record {
          mid = h.mid;
          sooner = h.sooner;
          later = r.sooner ++ z.sooner;
          are = refl;
          first = h.first;
          second = record { mid = r.mid; sooner = r.sooner; later = z.sooner; are = refl; first = r.first; second = record { more = r.second.more; does = z.first } };
        };
      };
      next = next_after (next_after k (acts_of r.sooner)) (acts_of z.sooner);
      accepts = z.second;
    }

-- ---- what is known there

abbrev pub Ready : Claim
Ready turn e conn = Quiet e conn

module _ (L : List Item) (ev : Event) (stamp : Option ℕ) (clock : stamp ≡ last_secs (L ++ In ev ∷ [])) where
  round_within : (acts : List Act) (turn : Turn) (e : Exchange) (old new : HttpConn) (n : ℕ) (moves : List Move) → Standing L ev acts turn n e old → 2 ≤ (site_of old).limits.head → Rest turn e old
      → RoundAhead stamp old n moves new → are_given (flags_of old) (acts_of moves) ≡ true → Leaves (Within turn Quiet) L ev acts e old n moves new
  round_within acts turn e old new n moves s two rest r form =
      let g : GoesOn e old = goes_on L ev acts turn e old n s two r.more in
      answers_leave L ev acts turn e old new n moves stamp s two clock (apt_on L ev acts turn e old n s two rest.1 g) (free_settled turn old.run g.settled) r.does form

  round_leave : (acts : List Act) (turn : Turn) (e : Exchange) (old new : HttpConn) (n : ℕ) (moves : List Move) → Standing L ev acts turn n e old → 2 ≤ (site_of old).limits.head → Rest turn e old
      → RoundAhead stamp old n moves new → are_given (flags_of old) (acts_of moves) ≡ true → Leaves Ready L ev acts e old n moves new
  round_leave acts turn e old new n moves s two rest r form =
      leaves_as (Within turn Quiet) Ready L ev acts e old new n moves (λ t d p. p.2) (round_within acts turn e old new n moves s two rest r form)

  rounds_then_leave : (turns : ℕ) (acts : List Act) (turn : Turn) (e : Exchange) (old new : HttpConn) (n : ℕ) (moves : List Move) → Standing L ev acts turn n e old → 2 ≤ (site_of old).limits.head → Rest turn e old
      → Then (Rounds turns stamp) (RoundAhead stamp) old n moves new → are_given (flags_of old) (acts_of moves) ≡ true → Leaves Ready L ev acts e old n moves new
  rounds_then_leave turns acts turn e old new n moves s two rest w form =
      then_leaves (Rounds turns stamp) (RoundAhead stamp) Rest Ready L ev acts e old new n moves w form
      (λ xs mid v f. rounds_leave turns L ev acts turn e old mid n xs stamp s two clock rest v f)
      (λ acts' t d mid n' ys st post site r f. round_leave acts' t d mid new n' ys st (subst (λ (x : Site). 2 ≤ x.limits.head) (sym site) two) post r f)

  pub ahead_leaves : (turns : ℕ) (e : Exchange) (old new : HttpConn) (n : ℕ) (moves : List Move) → Standing L ev [] waiting n e old → 2 ≤ (site_of old).limits.head → Apt e old
      → Ahead turns stamp old n moves new → are_given (flags_of old) (acts_of moves) ≡ true → Leaves Ready L ev [] e old n moves new
  ahead_leaves turns e old new n moves s two apt w form =
      then_leaves (Answers stamp) (Then Handles (Then (Rounds turns stamp) (RoundAhead stamp))) (Within waiting Quiet) Ready L ev [] e old new n moves w form
      (λ xs mid v f. answers_leave L ev [] waiting e old mid n xs stamp s two clock apt refl v f)
      (λ acts' t d mid n' ys st post site v f.
      let two' : 2 ≤ (site_of mid).limits.head = subst (λ (x : Site). 2 ≤ x.limits.head) (sym site) two in
      then_leaves Handles (Then (Rounds turns stamp) (RoundAhead stamp)) Rest Ready L ev acts' d mid new n' ys v f
      (λ xs next h g. handles_leave L ev acts' d mid next n' xs (subst (λ (x : Turn). Standing L ev acts' x n' d mid) post.0 st) two' post.2 h g)
      (λ acts'' t' d' next n'' zs st' rest site' r g.
      rounds_then_leave turns acts'' t' d' next new n'' zs st' (subst (λ (x : Site). 2 ≤ x.limits.head) (sym site') two') rest r g))

  -- ---- the places of its acts

  round_goes : (acts : List Act) (turn : Turn) (e : Exchange) (least : ℕ) (old new : HttpConn) (n : ℕ) (moves : List Move) → Standing L ev acts turn n e old → 2 ≤ (site_of old).limits.head → Rest turn e old
      → LowNow least e old → RoundAhead stamp old n moves new → are_given (flags_of old) (acts_of moves) ≡ true → Goes CalmNow (site_of old) (number_of old) e least moves new
  round_goes acts turn e least old new n moves s two rest low r form =
      goes_now (Within turn Quiet) L ev acts e least old new n moves (round_within acts turn e old new n moves s two rest r form) Calm
      (answers_calm L ev acts turn e old n s two rest.1 r.more least stamp moves new r.does (more_calm least e old r.more low))

  rounds_then_go : (turns : ℕ) (acts : List Act) (turn : Turn) (e : Exchange) (least : ℕ) (old new : HttpConn) (n : ℕ) (moves : List Move) → Standing L ev acts turn n e old → 2 ≤ (site_of old).limits.head → Rest turn e old
      → LowNow least e old → Then (Rounds turns stamp) (RoundAhead stamp) old n moves new → are_given (flags_of old) (acts_of moves) ≡ true → Goes CalmNow (site_of old) (number_of old) e least moves new
  rounds_then_go turns acts turn e least old new n moves s two rest low w form =
      then_goes (Rounds turns stamp) (RoundAhead stamp) Rest LowNow CalmNow L ev acts e least old new n moves w form
      (λ xs mid v f. rounds_leave turns L ev acts turn e old mid n xs stamp s two clock rest v f)
      (λ xs mid v f l. rounds_go L ev stamp clock turns acts turn e least old mid n xs s two rest low v f)
      (λ acts' t d least' mid n' ys st post low_mid site r f. round_goes acts' t d least' mid new n' ys st (subst (λ (x : Site). 2 ≤ x.limits.head) (sym site) two) post low_mid r f)

  pub ahead_goes : (turns : ℕ) (e : Exchange) (old new : HttpConn) (n : ℕ) (moves : List Move) → Standing L ev [] waiting n e old → 2 ≤ (site_of old).limits.head → Apt e old
      → Ahead turns stamp old n moves new → are_given (flags_of old) (acts_of moves) ≡ true → Goes CalmNow (site_of old) (number_of old) e 0 moves new
  ahead_goes turns e old new n moves s two apt w form =
      then_goes (Answers stamp) (Then Handles (Then (Rounds turns stamp) (RoundAhead stamp))) (Within waiting Quiet) AtFirst CalmNow L ev [] e 0 old new n moves w form
      (λ xs mid a f. answers_leave L ev [] waiting e old mid n xs stamp s two clock apt refl a f)
      (λ xs mid a f l. answers_first stamp e 0 old mid n xs refl a)
      (λ acts' t d least mid n' ys st post none site v f.
      let st' : Standing L ev acts' waiting n' d mid = subst (λ (x : Turn). Standing L ev acts' x n' d mid) post.0 st in
      let two' : 2 ≤ (site_of mid).limits.head = subst (λ (x : Site). 2 ≤ x.limits.head) (sym site) two in
      then_goes Handles (Then (Rounds turns stamp) (RoundAhead stamp)) Rest LowNow CalmNow L ev acts' d least mid new n' ys v f
      (λ xs next h k. handles_leave L ev acts' d mid next n' xs st' two' post.2 h k)
      (λ xs next h k l. goes_now Rest L ev acts' d least mid next n' xs l Low (handled_go L ev stamp clock acts' d least mid next n' xs st' two' none h l))
      (λ acts'' t' d' least' next n'' zs st'' rest low site' r k.
      rounds_then_go turns acts'' t' d' least' next new n'' zs st'' (subst (λ (x : Site). 2 ≤ x.limits.head) (sym site') two') rest low r k))

-- where no script was started for the exchange its acts begin the count
pub calm_zero : (site : Site) (c : ℕ) (least : ℕ) (e : Exchange) (conn : HttpConn) → Calm site c least e conn → has_start c e ≡ false → least ≡ 0
calm_zero site c least e conn (anew zero) none = zero
calm_zero site c least e conn (dealt top away waits unstarted) none = unstarted none

-- ---- it neither shuts the connection nor asks its client

pub ahead_inner : (turns : ℕ) (stamp : Option ℕ) (old new : HttpConn) (n : ℕ) (moves : List Move) → Ahead turns stamp old n moves new → IsInner old moves new
ahead_inner turns stamp old new n moves w =
    inner_then (Answers stamp) (Then Handles (Then (Rounds turns stamp) (RoundAhead stamp))) old new n moves w (λ mid xs a. inner_answers stamp old mid n xs a)
    (λ mid k ys v.
    inner_then Handles (Then (Rounds turns stamp) (RoundAhead stamp)) mid new k ys v (λ next xs h. inner_handles mid next k xs h)
    (λ next j zs u.
    inner_then (Rounds turns stamp) (RoundAhead stamp) next new j zs u (λ last xs r. inner_rounds turns stamp next last j xs r) (λ last i ws r. inner_answers stamp last new i ws r.does)))
