-- No memory runs out in a step in which none is taken.
use Rattle.std.proofs.Common.{◌≡◌, ◌≤◌, ◌⊎◌, ℕ, Bool, true, false, ◌&&◌, ◌||◌, not, List, [], ◌∷◌, ◌++◌, Option, Some, None, refl, sym, ap, ◌∙◌, subst, inl, inr, append-nil}
use Rattle.std.specs.Prelude.{filter}
use Rattle.std.specs.List.{list_any}
use Rattle.std.proofs.lemmas.Bool.{and_from, and_parts, and_right, false≢true, or_left}
use Rattle.std.proofs.lemmas.List.Folds.{list_any-append}
use Rattle.host_base.specs.declared.site.Site.{Site}
use Rattle.host_trace.specs.declared.items.Act.{Act}
use Rattle.host_trace.specs.declared.items.Act.TheVariants.{Shut, WantClient}
use Rattle.host_trace.specs.declared.items.Event.{Event}
use Rattle.host_trace.specs.declared.items.Event.TheVariants as Ev
use Rattle.host_trace.specs.declared.items.Item.{Item}
use Rattle.host_trace.specs.declared.items.Item.TheVariants.{In, Out}
use Rattle.host_trace.specs.declared.items.Why.{Why}
use Rattle.host_trace.specs.declared.items.Why.TheVariants.{NoMemory}
use Rattle.host_trace.specs.Kinds.{is_no_memory}
use Rattle.host_trace.specs.Projections.{last_secs}
use Rattle.host_trace.specs.Trace.{Step, after_step, step_of}
use Rattle.own_traces.specs.Whose.{next_after}
use Rattle.child_core.specs.Due.{is_feed_due}
use Rattle.child_core.specs.View.{View}
use Rattle.trace_child.specs.Words.{implies}
use Rattle.trace_model.specs.Demands.{is_live as live_then}
use Rattle.trace_model.specs.Exchange.{Exchange, all_of, request_bytes}
use Rattle.trace_model.specs.Exchanges.{current, has_ended}
use Rattle.trace_model.specs.Standing.{stands_whole}
use Rattle.trace_model.specs.TakesNoMemory.{is_hop_act, is_shut_act, takes_no_memory, takes_none, writes}
use Rattle.conn_laws.proofs.FormLaws.{flags_say}
use Rattle.conn_flags.specs.View.{View as Flags, is_live, noted}
use Rattle.conn_flags.specs.Form.{are_given, given_all, is_allowed, is_timely}
use Rattle.conn_flags.proofs.KnowsLaws.{given_all-number}
use Rattle.child_laws.specs.Step.{Turn, waiting}
use Rattle.child_laws.proofs.MoveLaws.{moves_tell}
use Rattle.conn_laws.specs.Moves.{Move, acts_of, moved}
use Rattle.conn_laws.proofs.MoveLaws.{acts_of-append}
use Rattle.http_conn.specs.HttpConn.{HttpConn}
use Rattle.http_conn.specs.Kept.{flags_of, number_of, site_of}
use Rattle.http_conn.specs.Reasons.{is_done_with, why_of}
use Rattle.http_conn.specs.Settles.{is_answered}
use Rattle.http_conn.specs.Tells.{TellsMore}
use Rattle.http_conn.specs.Parts.{ShutsBy, Steps, Wants, WantsBy}
use Rattle.http_conn.proofs.GaveLaws.{shut_dead}
use Rattle.http_stage_laws.proofs.HeardLose.{to_lost}
use Rattle.http_step_laws.specs.Standing.{Apt, Leaves, Rest, Standing, ends_at, is_early}
use Rattle.http_step_laws.proofs.QuietWords.{quiet_goes_on}
use Rattle.http_step_laws.proofs.RoundLaws.{serves_leave}
use Rattle.http_step_laws.proofs.ThenLaws.{form_parts}
use Rattle.http_step_laws.proofs.WhyWords.{no_memory_is, some_why, why_same}
use Rattle.good_step_laws.specs.Shuts.Memory.{Calm, CalmRun, IsLeft, IsTicked, KnownBy, MemoryIsKnown, Resting, Unfed, takes_little}
use Rattle.good_step_laws.proofs.Shuts.Borrowed.{why_by}
use Rattle.good_step_laws.proofs.Shuts.CalmLaws.{calm_found}
use Rattle.good_step_laws.proofs.Shuts.CauseWords.{Cause}
use Rattle.good_step_laws.proofs.Shuts.DueLaws.{exit_due, kept_inner, kept_without, tick_due}
use Rattle.good_step_laws.proofs.Shuts.EarnWords.{writes_append}
use Rattle.good_step_laws.proofs.Shuts.EndedLaws.{ended_found}
use Rattle.good_step_laws.proofs.Shuts.LeftLaws.{left_cause}
use Rattle.good_step_laws.proofs.Shuts.NoneLaws.{none_again, none_both, none_inner, none_shuts, none_wants}
use Rattle.good_step_laws.proofs.Shuts.PartLaws.{inner_before}
use Rattle.good_step_laws.proofs.Shuts.PartWords.{IsInner}
use Rattle.good_step_laws.proofs.Shuts.TickEnds.{tick_cause}

met : (a b : Bool) → b ≡ true → implies a b ≡ true
met true b e = e
met false b e = refl

free : (a b : Bool) → a ≡ false → implies a b ≡ true
free false b e = refl
free true b e = absurd (false≢true (sym e))

some_same : {a b : View} → Some a ≡ Some b → a ≡ b
some_same e = cc

no_view : (v : View) → None ≡ Some v → ⊥
no_view v e = absurd (cc)

pub calm_unfed : (running may : Bool) (run : Option View) → CalmRun running may run → Unfed run
calm_unfed running may None calm v is = absurd (no_view v is)
calm_unfed running may (Some w) calm v is = subst (λ (x : View). is_feed_due x ≡ false) (some_same is) calm.unfed

-- the events in whose steps memory may be taken at will
pub free_event : (site : Site) (c : ℕ) (s : Step) (ev : Event) → takes_little ev ≡ false → takes_none site c s ev ≡ false
free_event site c s (Ev.Accepted peer) e = absurd (false≢true (sym e))
free_event site c s (Ev.ClientGone d) e = absurd (false≢true (sym e))
free_event site c s (Ev.InputGone k) e = absurd (false≢true (sym e))
free_event site c s (Ev.WsBinary d) e = absurd (false≢true (sym e))
free_event site c s (Ev.WsClosed d) e = absurd (false≢true (sym e))
free_event site c s (Ev.WsBad d) e = absurd (false≢true (sym e))
free_event site c s Ev.Stop e = absurd (false≢true (sym e))
free_event site c s (Ev.Tick secs) e = absurd (false≢true (sym e))
free_event site c s (Ev.Exited k) e = absurd (false≢true (sym e))
free_event site c s _ e = refl

module _ (L : List Item) (ev : Event) (e : Exchange) (old new : HttpConn) (n : ℕ) (moves : List Move) (stamp : Option ℕ) (s : Standing L ev [] waiting n e old) (two : 2 ≤ (site_of old).limits.head)
    (clock : stamp ≡ last_secs (L ++ In ev ∷ [])) (apt : Apt e old) (w : Steps stamp old n moves new) (form : are_given (flags_of old) (acts_of moves) ≡ true) where
  abbrev c : ℕ
  c = number_of old

  abbrev site : Site
  site = site_of old

  abbrev mid : HttpConn
  mid = w.mid

  abbrev before : List Move
  before = w.sooner

  abbrev at_end : Exchange
  at_end = moved site c e before

  abbrev step : Step
  step = step_of L ev (acts_of moves)

  forms : (are_given (flags_of old) (acts_of before) ≡ true) × (are_given (given_all (flags_of old) (acts_of before)) (acts_of w.later) ≡ true)
  forms = form_parts (flags_of old) w.sooner w.later (subst (λ (l : List Move). are_given (flags_of old) (acts_of l) ≡ true) w.are form)

  first : Leaves (λ t d x. Rest t d x × TellsMore x false) L ev [] e old n before mid
  first = serves_leave L ev e old mid n before stamp s two clock apt w.first forms.0

  inner : IsInner old before mid
  inner = inner_before stamp old mid n before w.first

  number_mid : number_of mid ≡ c
  number_mid = ap (λ (m : Flags). m.c) first.flags ∙ given_all-number (flags_of old) (acts_of before)

  two_mid : 2 ≤ (site_of mid).limits.head
  two_mid = subst (λ (t : Site). 2 ≤ t.limits.head) (sym first.site) two

  abbrev why : Option Why
  why = w.second.first.by.why

  abbrev done : Bool
  done = is_done_with mid (request_bytes (number_of mid) at_end)

  why_is : why ≡ why_by (is_live (flags_of mid)) mid.lost (flags_of mid).stopped (flags_of mid).gone mid.cut mid.idled (mid.closing || mid.closes || done)
  why_is = w.second.first.by.tells.is ∙ why_same mid at_end two_mid first.standing.front w.second.first.by.tells.done w.second.first.by.tells.tells

  -- no Shut for want of memory is given where it is due for another reason
  none_by : ((v : Why) → why ≡ Some v → is_no_memory v ≡ false) → list_any (is_shut_act c) (acts_of moves) ≡ false
  none_by other =
      ap (λ (l : List Move). list_any (is_shut_act c) (acts_of l)) w.are
      ∙ none_both c w.sooner w.later (none_inner c old.idled before inner.are)
      (ap (λ (l : List Move). list_any (is_shut_act c) (acts_of l)) w.second.are
      ∙ none_both c w.second.sooner w.second.later (none_shuts c why mid w.second.mid _ w.second.sooner other w.second.first.by.by) (none_wants c w.second.mid new _ w.second.later w.second.second.by))

  none_found : mid.lost ≡ false → list_any (is_shut_act c) (acts_of moves) ≡ false
  none_found found =
      none_by (λ v is.
      (some_why (is_live (flags_of mid)) mid.lost (flags_of mid).stopped (flags_of mid).gone mid.cut mid.idled (mid.closing || mid.closes || done) v (sym why_is ∙ is)).0 ∙ found)

  none_dead : is_live (flags_of mid) ≡ false → list_any (is_shut_act c) (acts_of moves) ≡ false
  none_dead dead =
      none_by (λ v is.
      absurd (false≢true (sym dead ∙ (some_why (is_live (flags_of mid)) mid.lost (flags_of mid).stopped (flags_of mid).gone mid.cut mid.idled (mid.closing || mid.closes || done) v (sym why_is ∙ is)).1)))

  -- ---- it is shut for want of memory

  module _ (is_lost : mid.lost ≡ true) (live : is_live (flags_of mid) ≡ true) where
    why_memory : why ≡ Some NoMemory
    why_memory =
        why_is
        ∙ (ap (λ (b : Bool). why_by b mid.lost (flags_of mid).stopped (flags_of mid).gone mid.cut mid.idled (mid.closing || mid.closes || done)) live
        ∙ ap (λ (b : Bool). why_by true b (flags_of mid).stopped (flags_of mid).gone mid.cut mid.idled (mid.closing || mid.closes || done)) is_lost)

    closes_are : acts_of w.second.sooner ≡ Shut (number_of mid) NoMemory ∷ []
    closes_are = ap acts_of (subst (λ (o : Option Why). ShutsBy o mid (next_after n (acts_of w.sooner)) w.second.sooner w.second.mid) why_memory w.second.first.by.by).moves_are

    -- nothing more is given
    wants_are : acts_of w.second.later ≡ []
    wants_are = go _ w.second.second.by.due w.second.second.by.by
      where
        later_form : are_given (flags_of mid) (acts_of w.later) ≡ true
        later_form = subst (λ (m : Flags). are_given m (acts_of w.later) ≡ true) (sym first.flags) forms.1

        forms_later : (are_given (flags_of mid) (acts_of w.second.sooner) ≡ true) × (are_given (given_all (flags_of mid) (acts_of w.second.sooner)) (acts_of w.second.later) ≡ true)
        forms_later = form_parts (flags_of mid) w.second.sooner w.second.later (subst (λ (l : List Move). are_given (flags_of mid) (acts_of l) ≡ true) w.second.are later_form)

        shut_then : are_given (noted (flags_of mid) (Out (Shut (number_of mid) NoMemory))) (acts_of w.second.later) ≡ true
        shut_then = ap (λ (l : List Act). are_given (given_all (flags_of mid) l) (acts_of w.second.later)) (sym closes_are) ∙ forms_later.1

        dead_then : is_live (noted (flags_of mid) (Out (Shut (number_of mid) NoMemory))) ≡ false
        dead_then = shut_dead (flags_of mid) NoMemory

        go : (k : ℕ) (due : Bool) → WantsBy due w.second.mid k w.second.later new → acts_of w.second.later ≡ []
        go k false nothing = ap acts_of nothing.none
        go k true t =
            let asked : are_given (noted (flags_of mid) (Out (Shut (number_of mid) NoMemory))) (WantClient (number_of w.second.mid) ∷ []) ≡ true =
            ap (λ (l : List Move). are_given (noted (flags_of mid) (Out (Shut (number_of mid) NoMemory))) (acts_of l)) (sym t.moves_are) ∙ shut_then in
            let allowed = (and_parts (is_allowed (noted (flags_of mid) (Out (Shut (number_of mid) NoMemory))) (WantClient (number_of w.second.mid))) true asked).0 in
            absurd (false≢true (sym dead_then ∙ (and_parts (is_live (noted (flags_of mid) (Out (Shut (number_of mid) NoMemory)))) _
            (and_parts _ (is_timely (noted (flags_of mid) (Out (Shut (number_of mid) NoMemory))) (WantClient (number_of w.second.mid))) allowed).0).0))

    acts_are : acts_of moves ≡ acts_of before ++ Shut (number_of mid) NoMemory ∷ []
    acts_are =
        ap acts_of w.are
        ∙ (acts_of-append w.sooner w.later
        ∙ ap (λ (l : List Act). acts_of before ++ l)
        (ap acts_of w.second.are ∙ (acts_of-append w.second.sooner w.second.later ∙ (ap (λ (l : List Act). l ++ acts_of w.second.later) closes_are ∙ ap (λ (l : List Act). Shut (number_of mid) NoMemory ∷ l) wants_are))))

    without : filter (λ act. not (is_shut_act c act)) (acts_of moves) ≡ acts_of before
    without =
        ap (λ (l : List Act). filter (λ act. not (is_shut_act c act)) l) acts_are ∙ kept_without c (number_of mid) (acts_of before) number_mid (kept_inner c old.idled before inner.are)

    wrote_all : writes c (acts_of before) ≡ true → writes c (acts_of moves) ≡ true
    wrote_all some = ap (λ (l : List Move). writes c (acts_of l)) w.are ∙ (writes_append c w.sooner w.later ∙ or_left (writes c (acts_of w.sooner)) (writes c (acts_of w.later)) some)

    hops_all : list_any is_hop_act (acts_of before) ≡ true → list_any is_hop_act (acts_of moves) ≡ true
    hops_all some =
        ap (λ (l : List Act). list_any is_hop_act l) acts_are
        ∙ (list_any-append is_hop_act (acts_of before) (Shut (number_of mid) NoMemory ∷ []) ∙ or_left (list_any is_hop_act (acts_of before)) (list_any is_hop_act (Shut (number_of mid) NoMemory ∷ [])) some)

    on_now : has_ended (site_of mid) (number_of mid) at_end ≡ false
    on_now = quiet_goes_on L ev ([] ++ acts_of before) first.turn at_end mid _ first.standing first.post.0.1

    last_is : current site c (after_step L ev (acts_of before)) ≡ at_end
    last_is =
        subst (λ (x : ℕ). current site x (after_step L ev (acts_of before)) ≡ at_end) number_mid
        (subst (λ (t : Site). current t (number_of mid) (after_step L ev (acts_of before)) ≡ at_end) first.site
        ((moves_tell (site_of mid) (number_of mid) L ev ([] ++ acts_of before) at_end first.standing.over (is_early mid) first.turn _ first.standing.legs mid.run first.standing.children).is on_now))

    live_now : live_then c (all_of at_end) ≡ true
    live_now = subst (λ (x : ℕ). live_then x (all_of at_end) ≡ true) number_mid (sym (flags_say (flags_of mid) (all_of at_end) first.standing.flags).live ∙ live)

    unwhole_now : is_answered mid.stage ≡ false → stands_whole site c at_end ≡ false
    unwhole_now none =
        subst (λ (x : ℕ). stands_whole site x at_end ≡ false) number_mid
        (subst (λ (t : Site). stands_whole t (number_of mid) at_end ≡ false) first.site
        (to_lost (site_of mid) (number_of mid) at_end first.standing.legs mid.continued (mid.closing || mid.closes) mid.stage none (first.standing.lost is_lost)).unfinished)

    -- ---- by what is known behind the event

    module _ (found : old.lost ≡ false) where
      resting : Resting e old → ⊥
      resting (inl ended) = false≢true (sym (ended_found L ev [] waiting e old n s two ended.0 found ended.1 stamp before mid w.first) ∙ is_lost)
      resting (inr calm) = go (ends_at old e) refl
        where
          go : (b : Bool) → ends_at old e ≡ b → ⊥
          go true ends = false≢true (sym (ended_found L ev [] waiting e old n s two ends found (calm_unfed _ _ old.run calm.run) stamp before mid w.first) ∙ is_lost)
          go false on = false≢true (sym (calm_found L ev [] waiting e old n s two apt on calm stamp before mid w.first) ∙ is_lost)

      ticked_takes : (secs : ℕ) → IsTicked e old → takes_none site c step (Ev.Tick secs) ≡ false
      ticked_takes secs ticked = go (ends_at old e) refl
        where
          go : (b : Bool) → ends_at old e ≡ b → takes_none site c step (Ev.Tick secs) ≡ false
          go true ends = absurd (false≢true (sym (ended_found L ev [] waiting e old n s two ends found ticked.unfed stamp before mid w.first) ∙ is_lost))
          go false on =
              tick_due L ev e old n s before first.in_step (acts_of moves) wrote_all hops_all without last_is live_now secs
              (tick_cause L ev [] waiting e old n s two apt found on ticked stamp before mid w.first is_lost unwhole_now)

      left_takes : (k : ℕ) → IsLeft e old s.over → takes_none site c step (Ev.Exited k) ≡ false
      left_takes k left = go (ends_at old e) refl
        where
          go : (b : Bool) → ends_at old e ≡ b → takes_none site c step (Ev.Exited k) ≡ false
          go true ends = absurd (false≢true (sym (ended_found L ev [] waiting e old n s two ends found left.unfed stamp before mid w.first) ∙ is_lost))
          go false on =
              exit_due L ev e old n s before first.in_step (acts_of moves) wrote_all hops_all without last_is live_now k
              (left_cause L ev e old mid n before stamp s two clock apt w.first forms.0 found on left is_lost)

      takes : (x : Event) → KnownBy x e old s.over → takes_little x ≡ true → takes_none site c step x ≡ false
      takes (Ev.Accepted peer) k t = absurd (resting k)
      takes (Ev.ClientGone d) k t = absurd (resting k)
      takes (Ev.InputGone j) k t = absurd (resting k)
      takes (Ev.WsBinary d) k t = absurd (resting k)
      takes (Ev.WsClosed d) k t = absurd (resting k)
      takes (Ev.WsBad d) k t = absurd (resting k)
      takes Ev.Stop k t = absurd (resting k)
      takes (Ev.Tick secs) (inl rest) t = absurd (resting rest)
      takes (Ev.Tick secs) (inr ticked) t = ticked_takes secs ticked
      takes (Ev.Exited j) (inl rest) t = absurd (resting rest)
      takes (Ev.Exited j) (inr left) t = left_takes j left
      takes (Ev.ClientBytes d bytes) k t = absurd (false≢true t)
      takes (Ev.ClientEof d) k t = absurd (false≢true t)
      takes (Ev.Wrote d m) k t = absurd (false≢true t)
      takes (Ev.Started j) k t = absurd (false≢true t)
      takes (Ev.StartFailed j) k t = absurd (false≢true t)
      takes (Ev.StartFull j seen) k t = absurd (false≢true t)
      takes (Ev.ChildBytes j bytes) k t = absurd (false≢true t)
      takes (Ev.ChildEof j) k t = absurd (false≢true t)
      takes (Ev.ChildBroken j) k t = absurd (false≢true t)
      takes (Ev.Took j m) k t = absurd (false≢true t)
      takes (Ev.WsText d bytes) k t = absurd (false≢true t)
      takes (Ev.NoRoom d) k t = absurd (false≢true t)

  pub takes_none_then : MemoryIsKnown ev e old s.over → takes_no_memory site c step ≡ true
  takes_none_then known = by_shut (flags_of old).shut refl
    where
      none : list_any (is_shut_act c) (acts_of moves) ≡ false → takes_no_memory site c step ≡ true
      none is = met (takes_none site c step ev) (not (list_any (is_shut_act c) (acts_of moves))) (ap not is)

      by_known : (little : Bool) → takes_little ev ≡ little → (old_lost : Bool) → old.lost ≡ old_lost → mid.lost ≡ true → is_live (flags_of mid) ≡ true → (flags_of old).shut ≡ false → takes_no_memory site c step ≡ true
      by_known false little b is is_lost live unshut = free (takes_none site c step ev) (not (list_any (is_shut_act c) (acts_of moves))) (free_event site c step ev little)
      by_known true little true is is_lost live unshut = absurd (false≢true (sym unshut ∙ known.shut little is))
      by_known true little false is is_lost live unshut =
          free (takes_none site c step ev) (not (list_any (is_shut_act c) (acts_of moves))) (takes is_lost live is ev (known.known is) little)

      by_lost : (flags_of old).shut ≡ false → (b live : Bool) → mid.lost ≡ b → is_live (flags_of mid) ≡ live → takes_no_memory site c step ≡ true
      by_lost unshut false live found is = none (none_found found)
      by_lost unshut true false is_lost dead = none (none_dead dead)
      by_lost unshut true true is_lost live = by_known (takes_little ev) refl old.lost refl is_lost live unshut

      by_shut : (b : Bool) → (flags_of old).shut ≡ b → takes_no_memory site c step ≡ true
      by_shut true is = none (none_again c (flags_of old) (acts_of moves) is form)
      by_shut false is = by_lost is mid.lost (is_live (flags_of mid)) refl refl

pub steps_take_no_memory : (L : List Item) (ev : Event) (e : Exchange) (old new : HttpConn) (n : ℕ) (moves : List Move) (stamp : Option ℕ) → (s : Standing L ev [] waiting n e old)
    → 2 ≤ (site_of old).limits.head → stamp ≡ last_secs (L ++ In ev ∷ []) → Apt e old → Steps stamp old n moves new → are_given (flags_of old) (acts_of moves) ≡ true
    → MemoryIsKnown ev e old s.over → takes_no_memory (site_of old) (number_of old) (step_of L ev (acts_of moves)) ≡ true
steps_take_no_memory L ev e old new n moves stamp s two clock apt w form known = takes_none_then L ev e old new n moves stamp s two clock apt w form known
