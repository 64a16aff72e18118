-- Round after round, as long as something may go on.
use Rattle.std.proofs.Common.{◌≡◌, ◌≤◌, ℕ, zero, suc, Bool, true, false, List, [], ◌∷◌, ◌++◌, Option, ◌⊎◌, inl, inr, refl, sym, ap, ◌∙◌, subst}
use Rattle.std.proofs.lemmas.Bool.{false≢true}
use Rattle.host_base.specs.declared.site.Site.{Site}
use Rattle.host_trace.specs.declared.items.Act.{Act}
use Rattle.host_trace.specs.declared.items.Event.{Event}
use Rattle.host_trace.specs.declared.items.Item.{Item}
use Rattle.host_trace.specs.declared.items.Item.TheVariants.{In}
use Rattle.host_trace.specs.Projections.{last_secs}
use Rattle.trace_model.specs.Exchange.{Exchange}
use Rattle.exchange_stage.specs.declared.stage.Stage.{Stage}
use Rattle.exchange_stage.specs.declared.stage.Stage.TheVariants as At
use Rattle.conn_flags.specs.View.{View as Flags}
use Rattle.conn_flags.specs.Form.{are_given}
use Rattle.conn_flags.proofs.KnowsLaws.{given_all-number}
use Rattle.child_laws.specs.Step.{Turn, waiting}
use Rattle.conn_laws.specs.Moves.{Move, acts_of, moved}
use Rattle.http_conn.specs.HttpConn.{HttpConn}
use Rattle.http_conn.specs.Kept.{is_reading, flags_of, number_of, site_of}
use Rattle.http_conn.specs.Tells.{TellsMore, goes_at}
use Rattle.http_conn.specs.Parts.{Answers, Begins, Handles, LosesTurn, Nothing, Or, Part, Round, Rounds, RoundsOn, Serves, Then, the_one, the_other}
use Rattle.http_stage_laws.specs.Inward.{is_running}
use Rattle.http_step_laws.specs.Standing.{Apt, Claim, Leaves, Quiet, Rest, Standing, Within}
use Rattle.http_step_laws.proofs.AnswerLaws.{answers_leave}
use Rattle.http_step_laws.proofs.EndWords.{going}
use Rattle.http_step_laws.proofs.HandleLaws.{handles_leave}
use Rattle.http_step_laws.proofs.RoundLaws.{GoesOn, apt_on, begins_leave, goes_on, rounds_leave}
use Rattle.http_step_laws.proofs.StageWords.{free_settled}
use Rattle.good_step_laws.proofs.Orders.PlaceWords.{least_then}
use Rattle.good_step_laws.proofs.Orders.EachLaws.{each_answers}
use Rattle.good_step_laws.proofs.Orders.GoesLaws.{Goes, Lowest, goes_empty, goes_none, then_goes}
use Rattle.good_step_laws.proofs.Orders.HandleLaws.{Calm, anew, dealt, handles_go, lost_calm}
use Rattle.good_step_laws.proofs.Orders.HopLaws.{Low, Written, begins_go, begun, calm, is_write, writes_write, written_first}
use Rattle.good_step_laws.proofs.Orders.StillLaws.{Still, is_waiting, still}

-- ---- of the connection itself

abbrev pub CalmNow : Lowest
CalmNow least e conn = Calm (site_of conn) (number_of conn) least e conn

abbrev pub LowNow : Lowest
LowNow least e conn = Low (site_of conn) (number_of conn) least e conn

abbrev pub AtFirst : Lowest
AtFirst least e conn = least ≡ 0

module _ (Post : Claim) (L : List Item) (ev : Event) (acts : List Act) (e : Exchange) (least : ℕ) (old new : HttpConn) (n : ℕ) (moves : List Move) (l : Leaves Post L ev acts e old n moves new) where
  number : number_of new ≡ number_of old
  number = ap (λ (m : Flags). m.c) l.flags ∙ given_all-number (flags_of old) (acts_of moves)

  -- its site and its number stay
  pub goes_now : (At : Site → ℕ → ℕ → Exchange → HttpConn → Type 0) → Goes (At (site_of old) (number_of old)) (site_of old) (number_of old) e least moves new
      → Goes (λ k d conn. At (site_of conn) (number_of conn) k d conn) (site_of old) (number_of old) e least moves new
  goes_now At g = record {
    ordered = g.ordered;
    low = subst (λ (t : Site). At t (number_of new) (least_then (site_of old) (number_of old) e least moves) (moved (site_of old) (number_of old) e moves) new) (sym l.site)
        (subst (λ (c : ℕ). At (site_of old) c (least_then (site_of old) (number_of old) e least moves) (moved (site_of old) (number_of old) e moves) new) (sym number) g.low);
  }

-- ---- an answer

pub answers_first : (stamp : Option ℕ) (e : Exchange) (least : ℕ) (old new : HttpConn) (n : ℕ) (moves : List Move) → least ≡ 0 → Answers stamp old n moves new
    → Goes AtFirst (site_of old) (number_of old) e least moves new
answers_first stamp e least old new n moves none a =
    let w : Written (site_of old) (number_of old) e least moves = written_first (site_of old) (number_of old) moves e least none (each_answers is_write writes_write stamp old new n moves a) in
    record { ordered = w.ordered; low = w.first }

-- at these stages something may go on
more_at : (conn : HttpConn) (done : Bool) (t : Stage) → goes_at conn done t ≡ true → is_reading t ≡ false → is_waiting t ≡ true
more_at conn done (At.Refused cause) more away = refl
more_at conn done (At.Unstarted hop request) more away = refl
more_at conn done At.Reading more away = absurd (false≢true (sym away))
more_at conn done _ more away = absurd (false≢true more)

unrunning : (conn : HttpConn) (done : Bool) (t : Stage) → goes_at conn done t ≡ true → is_running t ≡ false
unrunning conn done (At.Running leg) more = absurd (false≢true more)
unrunning conn done _ more = refl

pub more_calm : (least : ℕ) (e : Exchange) (conn : HttpConn) → TellsMore conn true → LowNow least e conn → CalmNow least e conn
more_calm least e conn more (calm low) = low
more_calm least e conn more (begun started) = absurd (false≢true (sym (unrunning conn more.done conn.stage (sym more.is)) ∙ started.runs))

module _ (L : List Item) (ev : Event) (acts : List Act) (turn : Turn) (e : Exchange) (old : HttpConn) (n : ℕ) (s : Standing L ev acts turn n e old) (two : 2 ≤ (site_of old).limits.head)
    (q : Quiet e old) (more : TellsMore old true) (least : ℕ) where
  g : GoesOn e old
  g = goes_on L ev acts turn e old n s two more

  pub answers_calm : (stamp : Option ℕ) (moves : List Move) (new : HttpConn) → Answers stamp old n moves new → CalmNow least e old
      → Goes (Calm (site_of old) (number_of old)) (site_of old) (number_of old) e least moves new
  answers_calm stamp moves new a (anew none) =
      let f : Goes AtFirst (site_of old) (number_of old) e least moves new = answers_first stamp e least old new n moves none a in
      record { ordered = f.ordered; low = anew f.low }
  answers_calm stamp moves new a (dealt top away waits unstarted) =
      let found : old.lost ≡ false = (going old _ g.on).found in
      let t : Still old moves new = still L ev acts turn e old n s two q g.on (more_at old more.done old.stage (sym more.is) (away found)) stamp moves new a in
      goes_empty (Calm (site_of old) (number_of old)) (site_of old) (number_of old) e least moves new t.none (by_way t.as_it_was)
    where
      by_way : (new ≡ old) ⊎ (new.lost ≡ true) → Calm (site_of old) (number_of old) least e new
      by_way (inl same) = subst (λ (d : HttpConn). Calm (site_of old) (number_of old) least e d) (sym same) (dealt top away waits unstarted)
      by_way (inr lost) = lost_calm (site_of old) (number_of old) least e old new lost (dealt top away waits unstarted)

-- ---- rounds

module _ (L : List Item) (ev : Event) (stamp : Option ℕ) (clock : stamp ≡ last_secs (L ++ In ev ∷ [])) where
  round_goes : (acts : List Act) (turn : Turn) (e : Exchange) (least : ℕ) (old new : HttpConn) (n : ℕ) (moves : List Move) → Standing L ev acts turn n e old → 2 ≤ (site_of old).limits.head
      → Rest turn e old → LowNow least e old → Round stamp old n moves new → are_given (flags_of old) (acts_of moves) ≡ true → Goes LowNow (site_of old) (number_of old) e least moves new
  round_goes acts turn e least old new n moves s two rest low r form =
      let g : GoesOn e old = goes_on L ev acts turn e old n s two r.more in
      then_goes (Answers stamp) (Begins stamp) (Within turn Quiet) CalmNow LowNow L ev acts e least old new n moves r.does form
      (λ xs mid a f. answers_leave L ev acts turn e old mid n xs stamp s two clock (apt_on L ev acts turn e old n s two rest.1 g) (free_settled turn old.run g.settled) a f)
      (λ xs mid a f l.
      goes_now (Within turn Quiet) L ev acts e least old mid n xs l Calm
      (answers_calm L ev acts turn e old n s two rest.1 r.more least stamp xs mid a (more_calm least e old r.more low)))
      (λ acts' t d least' mid n' ys st post calm_mid site b f.
      let st' : Standing L ev acts' turn n' d mid = subst (λ (x : Turn). Standing L ev acts' x n' d mid) post.0 st in
      let two' : 2 ≤ (site_of mid).limits.head = subst (λ (x : Site). 2 ≤ x.limits.head) (sym site) two in
      let l : Leaves Rest L ev acts' d mid n' ys new = begins_leave L ev acts' turn d mid n' st' two' rest.0 post.2 post.1 stamp clock ys new f b in
      goes_now Rest L ev acts' d least' mid new n' ys l Low (begins_go L ev acts' turn d mid n' st' two' post.2 least' calm_mid stamp ys new b l))

  pub rounds_go : (turns : ℕ) (acts : List Act) (turn : Turn) (e : Exchange) (least : ℕ) (old new : HttpConn) (n : ℕ) (moves : List Move) → Standing L ev acts turn n e old → 2 ≤ (site_of old).limits.head
      → Rest turn e old → LowNow least e old → Rounds turns stamp old n moves new → are_given (flags_of old) (acts_of moves) ≡ true → Goes LowNow (site_of old) (number_of old) e least moves new
  rounds_go zero acts turn e least old new n moves s two rest low nothing form = goes_none LowNow (site_of old) (number_of old) e least old new n moves nothing low
  rounds_go (suc turns) acts turn e least old new n moves s two rest low w form =
      then_goes (Rounds turns stamp) (Round stamp) Rest LowNow LowNow L ev acts e least old new n moves w form
      (λ xs mid v f. rounds_leave turns L ev acts turn e old mid n xs stamp s two clock rest v f)
      (λ xs mid v f l. rounds_go turns acts turn e least old mid n xs s two rest low v f)
      (λ acts' t d least' mid n' ys st post low_mid site r f.
      round_goes acts' t d least' mid new n' ys st (subst (λ (x : Site). 2 ≤ x.limits.head) (sym site) two) post low_mid r f)

  rounds_on_go : (acts : List Act) (turn : Turn) (e : Exchange) (least : ℕ) (old new : HttpConn) (n : ℕ) (moves : List Move) → Standing L ev acts turn n e old → 2 ≤ (site_of old).limits.head
      → Rest turn e old → LowNow least e old → RoundsOn stamp old n moves new → are_given (flags_of old) (acts_of moves) ≡ true → Goes LowNow (site_of old) (number_of old) e least moves new
  rounds_on_go acts turn e least old new n moves s two rest low r form =
      then_goes (Rounds r.turns stamp) (Or Nothing (Part LosesTurn)) Rest LowNow LowNow L ev acts e least old new n moves r.does form
      (λ xs mid v f. rounds_leave r.turns L ev acts turn e old mid n xs stamp s two clock rest v f)
      (λ xs mid v f l. rounds_go r.turns acts turn e least old mid n xs s two rest low v f)
      (λ acts' t d least' mid n' ys st post low_mid site by f. last d least' mid n' ys low_mid by)
    where
      last : (d : Exchange) (least' : ℕ) (mid : HttpConn) (n' : ℕ) (ys : List Move) → LowNow least' d mid → Or Nothing (Part LosesTurn) mid n' ys new → Goes LowNow (site_of mid) (number_of mid) d least' ys new
      last d least' mid n' ys low_mid (the_one nothing) = goes_none LowNow (site_of mid) (number_of mid) d least' mid new n' ys nothing low_mid
      last d least' mid n' ys low_mid (the_other p) =
          let lost : new.lost ≡ true = ap (λ (c : HttpConn). c.lost) p.by.loses.gives_up.is in
          let now : Calm (site_of mid) (number_of mid) least' d new = lost_calm (site_of mid) (number_of mid) least' d mid new lost (more_calm least' d mid p.by.more low_mid) in
          let number : number_of new ≡ number_of mid = ap (λ (c : HttpConn). number_of c) p.by.loses.gives_up.is in
          goes_empty LowNow (site_of mid) (number_of mid) d least' ys new p.by.loses.none
          (calm (subst (λ (t : Site). Calm t (number_of new) least' d new) (sym p.site) (subst (λ (c : ℕ). Calm (site_of mid) c least' d new) (sym number) now)))

  -- the child is served
  pub handled_go : (acts' : List Act) (d : Exchange) (least : ℕ) (mid next : HttpConn) (k : ℕ) (xs : List Move) → Standing L ev acts' waiting k d mid → 2 ≤ (site_of mid).limits.head → least ≡ 0
      → Handles mid k xs next → Leaves Rest L ev acts' d mid k xs next → Goes (Low (site_of mid) (number_of mid)) (site_of mid) (number_of mid) d least xs next
  handled_go acts' d least mid next k xs st' two' none h l =
      let g : Goes (Calm (site_of mid) (number_of mid)) (site_of mid) (number_of mid) d 0 xs next = handles_go L ev acts' d mid k st' two' xs next h l in
      subst (λ (m : ℕ). Goes (Low (site_of mid) (number_of mid)) (site_of mid) (number_of mid) d m xs next) (sym none) (record { ordered = g.ordered; low = calm g.low })

  -- Answers, handles the child, and begins whatever may begin.
  pub serves_go : (e : Exchange) (old new : HttpConn) (n : ℕ) (moves : List Move) → Standing L ev [] waiting n e old → 2 ≤ (site_of old).limits.head → Apt e old → Serves stamp old n moves new
      → are_given (flags_of old) (acts_of moves) ≡ true → Goes LowNow (site_of old) (number_of old) e 0 moves new
  serves_go e old new n moves s two apt w form =
      then_goes (Answers stamp) (Then Handles (RoundsOn stamp)) (Within waiting Quiet) AtFirst LowNow L ev [] e 0 old new n moves w form
      (λ xs mid a f. answers_leave L ev [] waiting e old mid n xs stamp s two clock apt refl a f)
      (λ xs mid a f l. answers_first stamp e 0 old mid n xs refl a)
      (λ acts' t d least mid n' ys st post none site v f.
      let st' : Standing L ev acts' waiting n' d mid = subst (λ (x : Turn). Standing L ev acts' x n' d mid) post.0 st in
      let two' : 2 ≤ (site_of mid).limits.head = subst (λ (x : Site). 2 ≤ x.limits.head) (sym site) two in
      then_goes Handles (RoundsOn stamp) Rest LowNow LowNow L ev acts' d least mid new n' ys v f
      (λ xs next h k. handles_leave L ev acts' d mid next n' xs st' two' post.2 h k)
      (λ xs next h k l.
      goes_now Rest L ev acts' d least mid next n' xs l Low (handled_go acts' d least mid next n' xs st' two' none h l))
      (λ acts'' t' d' least' next n'' zs st'' rest low site' r k.
      rounds_on_go acts'' t' d' least' next new n'' zs st'' (subst (λ (x : Site). 2 ≤ x.limits.head) (sym site') two') rest low r k))
