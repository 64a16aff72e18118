-- Where an exchange is over the next one begins.
use Rattle.std.proofs.Common.{◌≡◌, ◌≤◌, ℕ, Bool, true, false, ◌&&◌, ◌||◌, not, List, [], ◌∷◌, ◌++◌, Option, None, refl, sym, ap, ◌∙◌, subst, append-nil, inl}
use Rattle.std.proofs.lemmas.Bool.{and_from, and_parts, false≢true, false_from_ne_true, not-true, or_from, or_parts}
use Rattle.host_base.specs.declared.site.Site.{Site}
use Rattle.host_trace.specs.declared.items.Act.{Act}
use Rattle.host_trace.specs.declared.items.Event.{Event}
use Rattle.host_trace.specs.declared.items.Item.{Item}
use Rattle.host_trace.specs.Projections.{shut}
use Rattle.request_reader.specs.Request.{is_begun}
use Rattle.child_core.specs.View.{View}
use Rattle.trace_model.specs.Exchange.{Exchange, reading, request_bytes}
use Rattle.trace_model.specs.Exchanges.{following}
use Rattle.trace_model.specs.Readings.{is_due}
use Rattle.exchange_request.specs.Knows.{is_looked_at}
use Rattle.exchange_stage.specs.declared.stage.Stage.{Stage}
use Rattle.exchange_stage.specs.declared.stage.Stage.TheVariants as At
use Rattle.exchange_laws.specs.StageIs.{IsAnswered, LostIs, StageIs}
use Rattle.exchange_laws.specs.Unanswered.{is_awaited, is_open}
use Rattle.exchange_laws.proofs.BeginLaws.{next_is_read}
use Rattle.exchange_laws.proofs.CutLaws.{losses_are_known}
use Rattle.exchange_laws.proofs.WholeLaws.{whole_is_answered}
use Rattle.conn_flags.specs.View.{View as Flags, may_write}
use Rattle.conn_flags.specs.Form.{are_given}
use Rattle.child_laws.specs.Step.{Turn}
use Rattle.child_laws.specs.Moves.{Deals}
use Rattle.child_laws.proofs.MoveLaws.{ends_move}
use Rattle.conn_laws.specs.Moves.{HasEnded, Move, acts_of, settles}
use Rattle.http_conn.specs.HttpConn.{HttpConn}
use Rattle.http_conn.specs.Kept.{is_reading, flags_of, number_of, site_of}
use Rattle.http_conn.specs.Ready.{outcome_of_run}
use Rattle.http_conn.specs.Reasons.{is_done_with}
use Rattle.http_conn.specs.Settles.{Follows, ending_of, is_answered, is_over}
use Rattle.http_conn.specs.Slot.{run_settled}
use Rattle.http_stage_laws.specs.Staged.{Lost}
use Rattle.http_stage_laws.proofs.EndLaws.{ends_noticed, is_at_answered}
use Rattle.http_stage_laws.proofs.HeardRest.{due_begun}
use Rattle.http_stage_laws.proofs.ItemLaws.{next_staged}
use Rattle.http_stage_laws.specs.Inward.{CutIs, IsDecided, IsPast, StaysRun, is_left, is_running}
use Rattle.http_step_laws.specs.Standing.{Claim, Leaves, Makes, Quiet, QuietBy, Standing, ends_at, is_early}
use Rattle.http_step_laws.proofs.EndWords.{goes}
use Rattle.http_conn.specs.Parts.{Ends, EndsBy, Part}
use Rattle.http_step_laws.proofs.StageWords.{ended_lost, known, stage_at}
use Rattle.http_step_laws.proofs.ThenLaws.{leaves_made, leaves_none}

-- what is to hold where an exchange is taken for ended: nothing was heard that ends the connection
pub record Steady (conn : HttpConn) : Type 0 where
  pub unstopped : (flags_of conn).stopped ≡ false
  pub here : (flags_of conn).gone ≡ false

and_none : (a b : Bool) → b ≡ false → (a && true && b) ≡ false
and_none true b e = e
and_none false b e = refl

module _ (L : List Item) (ev : Event) (acts : List Act) (turn : Turn) (e : Exchange) (old : HttpConn) (n : ℕ) (s : Standing L ev acts turn n e old) (two : 2 ≤ (site_of old).limits.head)
    (over : is_over old ≡ true) where
  parts : (is_answered old.stage ≡ true) × (run_settled old.run ≡ true)
  parts = and_parts (is_answered old.stage) (run_settled old.run) over

  pub at : old.stage ≡ At.Answered
  at = is_at_answered old.stage parts.0

  -- its whole answer stands, whether memory ran out or not
  answered : IsAnswered (site_of old) (number_of old) e s.legs old.continued (old.closing || old.closes)
  answered = go old.lost refl
    where
      go : (b : Bool) → old.lost ≡ b → IsAnswered (site_of old) (number_of old) e s.legs old.continued (old.closing || old.closes)
      go false found = stage_at old e s.legs At.Answered at (s.staged found)
      go true is = subst (λ (t : Stage). LostIs (site_of old) (number_of old) e s.legs old.continued (old.closing || old.closes) t) at (s.lost is)

  open_yet : old.closing ≡ false
  open_yet = s.front.closing ∙ answered.unclosed

  calm : old.idled ≡ false
  calm = false_from_ne_true old.idled (λ idle. false≢true (sym (s.inward.calm idle) ∙ ap is_answered at))

  ended : HasEnded (site_of old) (number_of old) e (ending_of old)
  ended = go old.lost refl
    where
      go : (b : Bool) → old.lost ≡ b → HasEnded (site_of old) (number_of old) e (ending_of old)
      go false found =
          ends_noticed old e s.legs two (record {
            front = s.front;
            staged = s.staged found;
            early = false;
            next = n;
            children = known L ev acts turn n e old s found;
            calm = calm;
            looked = (s.heard found).looked (ap is_reading at);
          }) over
      go true is = record {
        over = ended_lost L ev acts turn n e old s is ∙ over;
        closes = sym (answered.closes_is ∙ ap (λ (b : Bool). b || old.closes) open_yet);
        idled = calm;
        taken = λ found. absurd (false≢true (sym found ∙ is));
      }

  -- ---- the next one

  module _ (new : HttpConn) (f : Follows old new) where
    abbrev then_e : Exchange
    then_e = following (site_of old) (number_of old) e

    number : number_of new ≡ number_of old
    number = ap (λ (m : Flags). m.c) f.flags

    read_then : StageIs (site_of old) (number_of old) then_e [] false false (old.closing || old.closes) [] At.Reading
    read_then = next_is_read (site_of old) (number_of old) e s.legs old.continued (is_looked_at old.request) (old.closing || old.closes) [] answered ended.over

    lost_then : Lost new then_e []
    lost_then =
        let unfinished = whole_is_answered (site_of old) (number_of old) then_e [] false false (old.closing || old.closes) [] At.Reading read_then tt in
        let here = losses_are_known (site_of old) (number_of old) then_e [] false false (old.closing || old.closes) [] At.Reading read_then unfinished in
        subst (λ (t : Stage). LostIs (site_of new) (number_of new) then_e [] new.continued (new.closing || new.closes) t) (sym f.stage)
        (subst (λ (t : Site). LostIs t (number_of new) then_e [] new.continued (new.closing || new.closes) At.Reading) (sym f.site)
        (subst (λ (d : ℕ). LostIs (site_of old) d then_e [] new.continued (new.closing || new.closes) At.Reading) (sym number)
        (subst (λ (b : Bool). LostIs (site_of old) (number_of old) then_e [] b (new.closing || new.closes) At.Reading) (sym f.front.continued) here)))

    deals_then : Deals (site_of new) (number_of new) L ev acts then_e (s.over ++ e ∷ []) (is_early new) turn n [] new.run
    deals_then =
        subst (λ (r : Option View). Deals (site_of new) (number_of new) L ev acts then_e (s.over ++ e ∷ []) (is_early new) turn n [] r) (sym f.run)
        (subst (λ (t : Site). Deals t (number_of new) L ev acts then_e (s.over ++ e ∷ []) (is_early new) turn n [] None) (sym f.site)
        (subst (λ (d : ℕ). Deals (site_of old) d L ev acts then_e (s.over ++ e ∷ []) (is_early new) turn n [] None) (sym number)
        (ends_move (site_of old) (number_of old) L ev acts e s.over (is_early old) (is_early new) turn turn n s.legs old.run ended.over s.children)))

    cut_none : old.lost ≡ false → old.cut ≡ None
    cut_none found = subst (λ (t : Stage). CutIs t (outcome_of_run old.run) old.cut) at (s.inward.cut_is found)

    -- nothing ends it, where 100 Continue is due
    on_then : old.lost ≡ false → ((flags_of old).shut ≡ false → Steady old) → is_awaited (site_of new) (number_of new) then_e ≡ true → ends_at new then_e ≡ false
    on_then found steady awaited =
        let here : is_awaited (site_of old) (number_of old) then_e ≡ true =
        subst (λ (t : Site). is_awaited t (number_of old) then_e ≡ true) f.site (subst (λ (d : ℕ). is_awaited (site_of new) d then_e ≡ true) number awaited) in
        let both = and_parts (is_open (number_of old) then_e) (is_due (reading (site_of old) (number_of old) then_e)) here in
        let unclosed : then_e.closed ≡ false = not-true then_e.closed (and_parts (not then_e.closed) _ both.0).0 in
        let unshut : (flags_of old).shut ≡ false = s.flags.shut ∙ not-true (shut then_e.before (number_of old)) (and_parts (not then_e.closed) (not (shut then_e.before (number_of old))) both.0).1 in
        let may : may_write (flags_of old) ≡ true =
        and_from _ _ (and_from _ _ (s.inward.accepted (ap is_reading at)) (ap not unshut)) (ap not s.inward.http) in
        let stays : old.closes ≡ false = ended.closes ∙ (or_parts e.closed _ unclosed).1 in
        let begun : is_begun (request_bytes (number_of old) then_e) ≡ true = due_begun (site_of old).limits (request_bytes (number_of old) then_e) two both.1 in
        let begun_now : is_begun (request_bytes (number_of new) then_e) ≡ true = subst (λ (d : ℕ). is_begun (request_bytes d then_e) ≡ true) (sym number) begun in
        goes new (is_done_with new (request_bytes (number_of new) then_e)) (record {
          may = ap may_write f.flags ∙ may;
          unstopped = ap (λ (m : Flags). m.stopped) f.flags ∙ (steady unshut).unstopped;
          here = ap (λ (m : Flags). m.gone) f.flags ∙ (steady unshut).here;
          found = f.lost ∙ found;
          calm = f.front.idled ∙ calm;
          open_yet = f.front.closing ∙ (ap (λ (b : Bool). b || old.closes) open_yet ∙ stays);
          unclosed = f.front.closes;
          uncut = f.cut ∙ cut_none found;
          undone = ap (λ (t : Stage). (flags_of new).ended && is_reading t && not (is_begun (request_bytes (number_of new) then_e))) f.stage
              ∙ and_none (flags_of new).ended (not (is_begun (request_bytes (number_of new) then_e))) (ap not begun_now);
        })

    quiet_then : (old.lost ≡ false → (flags_of old).shut ≡ false → Steady old) → Quiet then_e new
    quiet_then steady = record {
      unover = ap (λ (t : Stage). is_answered t && run_settled new.run) f.stage;
      found = λ found. record {
        quiet = subst (λ (t : Stage). QuietBy new then_e t) (sym f.stage) tt;
        let_on = λ u c awaited. (on_then (sym f.lost ∙ found) (steady (sym f.lost ∙ found)) awaited, f.front.looked, ap is_reading f.stage);
      };
    }

    -- the answer to a request that was not read to its end closes the connection
    none_within : new.lost ≡ false → new.closing ≡ false → ((flags_of new).asked || (flags_of new).ended) ≡ true → ⊥
    none_within found open_then either =
        let both = or_parts old.closing old.closes (sym f.front.closing ∙ open_then) in
        let was = s.inward.within (sym f.lost ∙ found) both.0 (sym (ap (λ (m : Flags). m.asked || m.ended) f.flags) ∙ either) in
        false≢true (sym was.untaken ∙ ended.taken (sym f.lost ∙ found) (or_from e.closed old.closes answered.unclosed both.1))

    pub ends_make : (Post : Claim) → (old.lost ≡ false → (flags_of old).shut ≡ false → Steady old) → (Quiet then_e new → new.run ≡ None → Post turn then_e new) → Makes Post L ev acts e old n (settles (ending_of old) ∷ []) new
    ends_make Post steady post = record {
      in_step = (ended, tt);
      right = (answered.unclosed, tt);
      turn = turn;
      over = s.over ++ e ∷ [];
      legs = [];
      staged = λ found. next_staged old new e s.legs (s.staged (sym f.lost ∙ found)) over ended.over f;
      lost = λ is. lost_then;
      memory = λ is shut. inl (sym f.lost ∙ is, sym (ap (λ (m : Flags). m.shut) f.flags) ∙ shut);
      children = subst (λ (l : List Act). Deals (site_of new) (number_of new) L ev l then_e (s.over ++ e ∷ []) (is_early new) turn n [] new.run) (sym (append-nil acts)) deals_then;
      heard = λ found. record {
        bodies = λ hop request waits. absurd (false≢true (sym (ap is_reading waits) ∙ ap is_reading f.stage));
        looked = λ other. absurd (false≢true (sym other ∙ ap is_reading f.stage));
        handed = λ ready. absurd (false≢true (sym f.front.ready ∙ ready));
      };
      inward = record {
        calm = λ idle. ap is_answered f.stage;
        calm_found = λ found idle. ap is_running f.stage;
        accepted = λ r. absurd (false≢true (sym r ∙ ap is_reading f.stage));
        cut_is = λ found. subst (λ (t : Stage). CutIs t (outcome_of_run new.run) new.cut) (sym f.stage) (f.cut ∙ cut_none (sym f.lost ∙ found));
        held = λ shut. subst (λ (r : Option View). IsDecided r) (sym f.run) tt;
        http = ap (λ (m : Flags). m.upgraded) f.flags ∙ s.inward.http;
        lost_in = λ is. ap (λ (m : Flags). m.accepted) f.flags ∙ s.inward.accepted (ap is_reading at);
        decided = λ found r. subst (λ (r : Option View). IsDecided r) (sym f.run) tt;
        left = λ found is. absurd (false≢true (sym (ap (λ (r : Option View). is_left (outcome_of_run r)) f.run) ∙ is));
        stays = λ found unshut ends whole. subst (λ (r : Option View). StaysRun r) (sym f.run) tt;
        closes_is = λ is. absurd (false≢true (sym f.front.closes ∙ is));
        room = λ found. ap (λ (m : Flags). m.no_room) f.flags ∙ s.inward.room (sym f.lost ∙ found);
        asked = λ is.
            let was = s.inward.asked (sym (ap (λ (m : Flags). m.asked) f.flags) ∙ is) in
            (ap (λ (m : Flags). m.accepted) f.flags ∙ was.0, ap (λ (m : Flags). m.ended) f.flags ∙ was.1);
        within = λ found open_then either. absurd (none_within found open_then either);
        past = λ found open_then unshut is. subst (λ (t : Stage). IsPast t new.run) (sym f.stage) tt;
      };
      starts_first = λ k started. absurd (false≢true started);
      accepted = s.inward.accepted (ap is_reading at);
      post = post (quiet_then steady) f.run;
    }

-- Where it is over the next one begins, and nothing changes where it is not.
pub ends_leave : (Post : Claim) (L : List Item) (ev : Event) (acts : List Act) (turn : Turn) (e : Exchange) (old new : HttpConn) (n : ℕ) (moves : List Move) → Standing L ev acts turn n e old
    → 2 ≤ (site_of old).limits.head → (is_over old ≡ true → old.lost ≡ false → (flags_of old).shut ≡ false → Steady old) → (is_over old ≡ false → Post turn e old)
    → ((e' : Exchange) → Quiet e' new → new.run ≡ None → Post turn e' new) → Part Ends old n moves new → are_given (flags_of old) (acts_of moves) ≡ true
    → Leaves Post L ev acts e old n moves new
ends_leave Post L ev acts turn e old new n moves s two steady on over p form = go (is_over old) refl p.by
  where
    go : (b : Bool) → is_over old ≡ b → EndsBy b old n moves new → Leaves Post L ev acts e old n moves new
    go true is f =
        leaves_made Ends Post L ev acts turn e old new n moves s p form
        (subst (λ (l : List Move). Makes Post L ev acts e old n l new) (sym f.0)
        (ends_make L ev acts turn e old n s two is new f.1 Post (steady is) (over (following (site_of old) (number_of old) e))))
    go false is none = leaves_none Post L ev acts turn e old new n moves s none (on is)
