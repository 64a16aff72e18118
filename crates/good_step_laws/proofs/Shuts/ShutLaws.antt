-- A connection is shut once at most, and for the reason that there is.
use Rattle.std.proofs.Common.{◌≡◌, ◌≤◌, ℕ, Bool, true, false, ◌&&◌, ◌||◌, not, if◌then◌else◌, List, [], ◌∷◌, ◌++◌, map, Option, Some, None, is_some, refl, sym, ap, ◌∙◌, subst, append-nil, append_assoc}
use Rattle.std.proofs.lemmas.Bool.{and_from, and_parts, and_right, false≢true, not-true, or_parts}
use Rattle.host_base.specs.declared.site.Site.{Site}
use Rattle.host_trace.specs.declared.items.Act.{Act}
use Rattle.host_trace.specs.declared.items.Event.{Event}
use Rattle.host_trace.specs.declared.items.Item.{Item}
use Rattle.host_trace.specs.declared.items.Item.TheVariants.{In, Out}
use Rattle.host_trace.specs.declared.items.Why.{Why}
use Rattle.host_trace.specs.declared.items.Why.TheVariants.{NoMemory}
use Rattle.host_trace.specs.Kinds.{is_accepted, is_no_memory, is_shut}
use Rattle.host_trace.specs.Projections.{last_secs, shut}
use Rattle.host_trace.specs.Trace.{step_of}
use Rattle.host_trace.proofs.ProjectionLaws.{shut-push}
use Rattle.own_traces.specs.Whose.{next_after}
use Rattle.request_reader.specs.Request.{is_begun}
use Rattle.trace_model.specs.Breaks.{idled}
use Rattle.trace_model.specs.Exchange.{Exchange, all_of, request_bytes}
use Rattle.trace_model.specs.Sameness.{is_same_why}
use Rattle.trace_model.specs.Shuts.{are_whys, is_turned_away, shuts, why_due, whys_due, whys_given}
use Rattle.trace_model.specs.Steps.{goes_on}
use Rattle.trace_model.proofs.SamenessLaws.{are_same-refl, is_same_why-refl}
use Rattle.exchange_stage.specs.declared.stage.Leg.{Leg}
use Rattle.exchange_stage.specs.declared.stage.Stage.{Stage}
use Rattle.exchange_stage.specs.declared.stage.Stage.TheVariants as At
use Rattle.child_core.specs.declared.ending.Outcome.{Outcome}
use Rattle.child_core.specs.declared.ending.Outcome.TheVariants as Ended
use Rattle.host_base.specs.declared.cause.Cause.{Cause}
use Rattle.conn_flags.specs.View.{View as Flags, is_live}
use Rattle.conn_flags.specs.Form.{are_given, given_all}
use Rattle.conn_flags.proofs.KnowsLaws.{given_all-number}
use Rattle.child_laws.specs.Step.{waiting}
use Rattle.conn_laws.specs.Moves.{AreInStep, Move, acts_of, moved}
use Rattle.conn_laws.proofs.MoveLaws.{acts_of-append, moved-append}
use Rattle.http_conn.specs.HttpConn.{HttpConn}
use Rattle.http_conn.specs.Kept.{is_reading, flags_of, number_of, site_of}
use Rattle.http_conn.specs.Ready.{outcome_of_run}
use Rattle.http_conn.specs.Reasons.{is_done_with, why_of}
use Rattle.http_conn.specs.Tells.{TellsMore}
use Rattle.http_conn.specs.Parts.{Closes, Part, Serves, ShutsBy, Steps, Then, Wants}
use Rattle.http_step_laws.specs.Standing.{Apt, Leaves, Rest, Standing}
use Rattle.http_step_laws.proofs.RoundLaws.{serves_leave}
use Rattle.http_step_laws.proofs.ThenLaws.{form_parts}
use Rattle.http_step_laws.proofs.WantLaws.{Done, steps_leave}
use Rattle.http_step_laws.proofs.WhyWords.{some_why, why_same}
use Rattle.good_step_laws.specs.Shuts.Laws.{IdleIsKnown}
use Rattle.good_step_laws.proofs.Shuts.Borrowed.{last_is, number, why_by}
use Rattle.good_step_laws.proofs.Shuts.CutLaws.{Unfailed, unfailed_then}
use Rattle.good_step_laws.proofs.Shuts.GivenWords.{accepted_all, given_both, given_shuts, given_wants, none_given, none_shut, shut_inner}
use Rattle.good_step_laws.proofs.Shuts.IdleLaws.{idled_moved}
use Rattle.good_step_laws.proofs.Shuts.OuterWords.{AreOuter, IsOuter, SameReasons, outer_append, outer_bytes, outer_idled, outer_shuts, outer_wants, reasons_then}
use Rattle.good_step_laws.proofs.Shuts.PartLaws.{inner_before}
use Rattle.good_step_laws.proofs.Shuts.PartWords.{IsInner}
use Rattle.good_step_laws.proofs.Shuts.ReasonLaws.{first_due, no_reason, other_due}

same_whys : (whys : List Why) → are_whys whys whys ≡ true
same_whys whys = are_same-refl is_same_why is_same_why-refl whys

-- what a Shut is for is given once, or nothing is
none_of_none : (w : Why) → None ≡ Some w → ⊥
none_of_none w e = cc

module _ (L : List Item) (ev : Event) (e : Exchange) (old new : HttpConn) (n : ℕ) (moves : List Move) (stamp : Option ℕ) (s : Standing L ev [] waiting n e old) (two : 2 ≤ (site_of old).limits.head)
    (clock : stamp ≡ last_secs (L ++ In ev ∷ [])) (apt : Apt e old) (w : Steps stamp old n moves new) (form : are_given (flags_of old) (acts_of moves) ≡ true) where
  abbrev c : ℕ
  c = number_of old

  abbrev site : Site
  site = site_of old

  abbrev mid : HttpConn
  mid = w.mid

  abbrev before : List Move
  before = w.sooner

  forms : (are_given (flags_of old) (acts_of before) ≡ true) × (are_given (given_all (flags_of old) (acts_of before)) (acts_of w.later) ≡ true)
  forms = form_parts (flags_of old) w.sooner w.later (subst (λ (l : List Move). are_given (flags_of old) (acts_of l) ≡ true) w.are form)

  -- before the end
  first : Leaves (λ t d x. Rest t d x × TellsMore x false) L ev [] e old n before mid
  first = serves_leave L ev e old mid n before stamp s two clock apt w.first forms.0

  inner : IsInner old before mid
  inner = inner_before stamp old mid n before w.first

  -- at the end
  last : Leaves Done L ev [] e old n moves new
  last = steps_leave L ev e old new n moves stamp s two clock apt w form

  abbrev here : Exchange
  here = moved site c e before

  number_mid : number_of mid ≡ c
  number_mid = ap (λ (m : Flags). m.c) first.flags ∙ given_all-number (flags_of old) (acts_of before)

  two_mid : 2 ≤ (site_of mid).limits.head
  two_mid = subst (λ (t : Site). 2 ≤ t.limits.head) (sym first.site) two

  abbrev why : Option Why
  why = w.second.first.by.why

  abbrev done : Bool
  done = is_done_with mid (request_bytes (number_of mid) here)

  why_is : why ≡ why_of mid done
  why_is = w.second.first.by.tells.is ∙ why_same mid here two_mid first.standing.front w.second.first.by.tells.done w.second.first.by.tells.tells

  some : (v : Why) → why ≡ Some v → (is_no_memory v ≡ mid.lost) × (is_live (flags_of mid) ≡ true)
  some v is =
      some_why (is_live (flags_of mid)) mid.lost (flags_of mid).stopped (flags_of mid).gone mid.cut mid.idled (mid.closing || mid.closes || done) v (sym why_is ∙ is)

  ends : IsOuter mid new w.later
  ends =
      let one : IsOuter mid w.second.mid w.second.sooner = outer_shuts why mid w.second.mid _ w.second.sooner (λ v is. (some v is).0) w.second.first.by.by in
      let other : IsOuter w.second.mid new w.second.later = outer_wants w.second.mid new _ w.second.later w.second.second.by in
      record {
        are = subst (λ (l : List Move). AreOuter l) (sym w.second.are) (outer_append w.second.sooner w.second.later one.are other.are);
        reasons = reasons_then mid w.second.mid new one.reasons other.reasons;
      }

  given_is : whys_given c (acts_of moves) ≡ whys_due why
  given_is =
      ap (λ (l : List Move). whys_given c (acts_of l)) w.are
      ∙ (ap (λ (l : List Act). whys_given c l) (acts_of-append w.sooner w.later)
      ∙ (given_both c (acts_of w.sooner) (acts_of w.later)
      ∙ (ap (λ (l : List Why). l ++ whys_given c (acts_of w.later)) (none_given c old.idled before inner.are)
      ∙ (ap (λ (l : List Move). whys_given c (acts_of l)) w.second.are
      ∙ (ap (λ (l : List Act). whys_given c l) (acts_of-append w.second.sooner w.second.later)
      ∙ (given_both c (acts_of w.second.sooner) (acts_of w.second.later)
      ∙ (ap (λ (l : List Why). whys_given c (acts_of w.second.sooner) ++ l) (given_wants c w.second.mid new _ w.second.later w.second.second.by)
      ∙ (append-nil (whys_given c (acts_of w.second.sooner))
      ∙ subst (λ (k : ℕ). whys_given k (acts_of w.second.sooner) ≡ whys_due why) number_mid (given_shuts why mid w.second.mid _ w.second.sooner w.second.first.by.by)))))))))

  -- what was known of the shut connection before the event
  shut_before : shut L c ≡ (flags_of old).shut
  shut_before =
      sym (s.flags.shut ∙ (ap (λ (l : List Item). shut l c) (s.children.knows.items ∙ append-nil (L ++ In ev ∷ [])) ∙ (shut-push L (In ev) c ∙ or_none (shut L c))))
    where
      or_none : (b : Bool) → (b || false) ≡ b
      or_none true = refl
      or_none false = refl

  unshut_mid : (flags_of old).shut ≡ false → (flags_of mid).shut ≡ false
  unshut_mid is = ap (λ (m : Flags). m.shut) first.flags ∙ (shut_inner (flags_of old) old.idled before inner.are ∙ is)

  live_old : is_live (flags_of mid) ≡ true → is_live (flags_of old) ≡ true
  live_old live =
      ap (λ (b : Bool). b && not (flags_of old).shut) (sym (ap (λ (m : Flags). m.accepted) first.flags ∙ accepted_all (flags_of old) (acts_of before)))
      ∙ (ap (λ (b : Bool). (flags_of mid).accepted && not b) (sym (ap (λ (m : Flags). m.shut) first.flags ∙ shut_inner (flags_of old) old.idled before inner.are)) ∙ live)

  abbrev at_end : Exchange
  at_end = moved site c e moves

  end_is : at_end ≡ moved site c here w.later
  end_is = ap (λ (l : List Move). moved site c e l) w.are ∙ moved-append site c e w.sooner w.later

  module _ (idle : IdleIsKnown old e) (unshut : (flags_of old).shut ≡ false) where
    idled_mid : is_live (flags_of mid) ≡ true → mid.lost ≡ false → mid.idled ≡ is_some (idled site c here)
    idled_mid live found = go here.closed refl
      where
        by : (b : Bool) → here.closed ≡ b → (mid.lost ≡ false → here.closed ≡ false → mid.idled ≡ is_some (idled (site_of mid) (number_of mid) here))
            → mid.idled ≡ is_some (idled site c here)
        by false closed front =
            subst (λ (k : ℕ). mid.idled ≡ is_some (idled site k here)) number_mid (subst (λ (t : Site). mid.idled ≡ is_some (idled t (number_of mid) here)) first.site (front found closed))
        by true closed front = inner.idled ∙ idled_moved site c old.idled e before first.in_step inner.are (λ was. idle (live_old live) was) closed

        go : (b : Bool) → here.closed ≡ b → mid.idled ≡ is_some (idled site c here)
        go b closed = by b closed first.standing.front.idled_is

    due_live : is_live (flags_of mid) ≡ true → mid.lost ≡ false → why_due site c at_end ≡ why
    due_live live found =
        subst (λ (k : ℕ). why_due site k at_end ≡ why) (number L ev e old new n moves last)
        (subst (λ (t : Site). why_due t (number_of new) at_end ≡ why) last.site (by_held ∙ (held_is ∙ sym (why_is ∙ by_live))))
      where
        same : SameReasons mid new
        same = ends.reasons

        accepted_mid : (flags_of mid).accepted ≡ true
        accepted_mid = (and_parts (flags_of mid).accepted (not (flags_of mid).shut) live).0

        found_new : new.lost ≡ false
        found_new = same.lost ∙ found

        two_new : 2 ≤ (site_of new).limits.head
        two_new = subst (λ (t : Site). 2 ≤ t.limits.head) (sym last.site) two

        bytes_same : request_bytes (number_of new) at_end ≡ request_bytes (number_of mid) here
        bytes_same =
            ap (λ (k : ℕ). request_bytes k at_end) (number L ev e old new n moves last)
            ∙ (ap (λ (d : Exchange). request_bytes c d) end_is ∙ (outer_bytes site c here w.later ends.are ∙ ap (λ (k : ℕ). request_bytes k here) (sym number_mid)))

        done_same : is_done_with new (request_bytes (number_of new) at_end) ≡ done
        done_same =
            ap (λ (l : List ℕ). is_done_with new l) bytes_same
            ∙ (ap (λ (b : Bool). b && is_reading new.stage && not (is_begun (request_bytes (number_of mid) here))) same.ended
            ∙ ap (λ (t : Stage). (flags_of mid).ended && is_reading t && not (is_begun (request_bytes (number_of mid) here))) same.stage)

        held_at : HttpConn → Bool → Option Why
        held_at conn b = why_by true false (flags_of conn).stopped (flags_of conn).gone conn.cut conn.idled (conn.closing || conn.closes || b)

        held_is : held_at new (is_done_with new (request_bytes (number_of new) at_end)) ≡ held_at mid done
        held_is =
            ap (λ (b : Bool). held_at new b) done_same
            ∙ (ap (λ (b : Bool). why_by true false b (flags_of new).gone new.cut new.idled (new.closing || new.closes || done)) same.stopped
            ∙ (ap (λ (b : Bool). why_by true false (flags_of mid).stopped b new.cut new.idled (new.closing || new.closes || done)) same.gone
            ∙ (ap (λ (o : Option Cause). why_by true false (flags_of mid).stopped (flags_of mid).gone o new.idled (new.closing || new.closes || done)) same.cut
            ∙ (ap (λ (b : Bool). why_by true false (flags_of mid).stopped (flags_of mid).gone mid.cut b (new.closing || new.closes || done)) same.idled
            ∙ (ap (λ (b : Bool). why_by true false (flags_of mid).stopped (flags_of mid).gone mid.cut mid.idled (b || new.closes || done)) same.closing
            ∙ ap (λ (b : Bool). why_by true false (flags_of mid).stopped (flags_of mid).gone mid.cut mid.idled (mid.closing || b || done)) same.closes)))))

        by_live : why_of mid done ≡ held_at mid done
        by_live =
            ap (λ (b : Bool). why_by b mid.lost (flags_of mid).stopped (flags_of mid).gone mid.cut mid.idled (mid.closing || mid.closes || done)) live
            ∙ ap (λ (b : Bool). why_by true b (flags_of mid).stopped (flags_of mid).gone mid.cut mid.idled (mid.closing || mid.closes || done)) found

        idle_new : new.idled ≡ is_some (idled (site_of new) (number_of new) at_end)
        idle_new =
            same.idled
            ∙ (idled_mid live found
            ∙ (sym (outer_idled site c here w.later ends.are)
            ∙ (ap (λ (d : Exchange). is_some (idled site c d)) (sym end_is)
            ∙ (ap (λ (k : ℕ). is_some (idled site k at_end)) (sym (number L ev e old new n moves last)) ∙ ap (λ (t : Site). is_some (idled t (number_of new) at_end)) (sym last.site)))))

        unfailed : (flags_of mid).stopped ≡ false → (flags_of mid).gone ≡ false → Unfailed new
        unfailed unstopped by_us leg cause at failed =
            unfailed_then L ev ([] ++ acts_of before) first.turn here mid _ first.standing first.post.0 live found unstopped by_us leg cause (sym same.stage ∙ at) (sym (same.outcome found) ∙ failed)

        by_held : why_due (site_of new) (number_of new) at_end ≡ held_at new (is_done_with new (request_bytes (number_of new) at_end))
        by_held = go ((flags_of mid).stopped || (flags_of mid).gone) refl
          where
            go : (b : Bool) → ((flags_of mid).stopped || (flags_of mid).gone) ≡ b → why_due (site_of new) (number_of new) at_end ≡ held_at new (is_done_with new (request_bytes (number_of new) at_end))
            go true is =
                first_due L ev ([] ++ acts_of moves) last.turn at_end new _ last.standing last.post two_new (same.accepted ∙ accepted_mid) found_new (last.standing.inward.room found_new)
                (ap (λ (b : Bool). b || (flags_of new).gone) same.stopped ∙ (ap (λ (b : Bool). (flags_of mid).stopped || b) same.gone ∙ is))
            go false is =
                let p = or_parts (flags_of mid).stopped (flags_of mid).gone is in
                other_due L ev ([] ++ acts_of moves) last.turn at_end new _ last.standing last.post two_new (same.accepted ∙ accepted_mid) found_new (last.standing.inward.room found_new) (unfailed p.0 p.1) idle_new

    -- it is not live: it was not accepted
    due_dead : is_live (flags_of mid) ≡ false → (why ≡ None) × (why_due site c at_end ≡ None)
    due_dead dead =
        let none : (flags_of mid).accepted ≡ false = unaccepted (flags_of mid).accepted (ap (λ (b : Bool). (flags_of mid).accepted && not b) (sym (unshut_mid unshut)) ∙ dead) in (
          why_is ∙ ap (λ (b : Bool). why_by b mid.lost (flags_of mid).stopped (flags_of mid).gone mid.cut mid.idled (mid.closing || mid.closes || done)) dead,
          subst (λ (k : ℕ). why_due site k at_end ≡ None) (number L ev e old new n moves last)
              (subst (λ (t : Site). why_due t (number_of new) at_end ≡ None) last.site
              (no_reason L ev ([] ++ acts_of moves) last.turn at_end new _ last.standing last.post (subst (λ (t : Site). 2 ≤ t.limits.head) (sym last.site) two) (ends.reasons.accepted ∙ none))),
        )
      where
        unaccepted : (b : Bool) → (b && true) ≡ false → b ≡ false
        unaccepted false e = refl
        unaccepted true e = absurd (false≢true (sym e))

    -- what is given is due, or it is for want of memory
    abbrev Duly : List Why → Type 0
    Duly given = (are_whys given (whys_due (why_due site c at_end)) || are_whys given (NoMemory ∷ [])) ≡ true

    duly : Duly (whys_due why)
    duly = go (is_live (flags_of mid)) mid.lost refl refl
      where
        or_right : (a b : Bool) → b ≡ true → (a || b) ≡ true
        or_right true b e = refl
        or_right false b e = e

        or_first : (a b : Bool) → a ≡ true → (a || b) ≡ true
        or_first true b e = refl
        or_first false b e = absurd (false≢true e)

        is_due : why_due site c at_end ≡ why → Duly (whys_due why)
        is_due is =
            or_first (are_whys (whys_due why) (whys_due (why_due site c at_end))) (are_whys (whys_due why) (NoMemory ∷ []))
            (ap (λ (o : Option Why). are_whys (whys_due why) (whys_due o)) is ∙ same_whys (whys_due why))

        go : (live lost : Bool) → is_live (flags_of mid) ≡ live → mid.lost ≡ lost → Duly (whys_due why)
        go false lost dead is = let p = due_dead dead in is_due (p.1 ∙ sym p.0)
        go true false live found = is_due (due_live live found)
        go true true live is =
            or_right (are_whys (whys_due why) (whys_due (why_due site c at_end))) (are_whys (whys_due why) (NoMemory ∷ []))
            (ap (λ (o : Option Why). are_whys (whys_due o) (NoMemory ∷ []))
            (why_is
            ∙ (ap (λ (b : Bool). why_by b mid.lost (flags_of mid).stopped (flags_of mid).gone mid.cut mid.idled (mid.closing || mid.closes || done)) live
            ∙ ap (λ (b : Bool). why_by true b (flags_of mid).stopped (flags_of mid).gone mid.cut mid.idled (mid.closing || mid.closes || done)) is)))

  pub shut_duly : IdleIsKnown old e → shuts site c (step_of L ev (acts_of moves)) ≡ true
  shut_duly idle = go (flags_of old).shut refl
    where
      given : List Why
      given = whys_given c (acts_of moves)

      by : Bool → Option Why → Bool
      by b o = if b then are_whys given [] else are_whys given (whys_due o) || are_whys given (NoMemory ∷ []) || is_turned_away (step_of L ev (acts_of moves)) given

      or_first : (a b : Bool) → a ≡ true → (a || b) ≡ true
      or_first true b e = refl
      or_first false b e = absurd (false≢true e)

      go : (b : Bool) → (flags_of old).shut ≡ b → shuts site c (step_of L ev (acts_of moves)) ≡ true
      go true is =
          ap (λ (b : Bool). by b (why_due site c (goes_on site c (step_of L ev (acts_of moves))))) (shut_before ∙ is)
          ∙ ap (λ (l : List Why). are_whys l []) (none_shut c (flags_of old) (acts_of moves) is form)
      go false is =
          ap (λ (b : Bool). by b (why_due site c (goes_on site c (step_of L ev (acts_of moves))))) (shut_before ∙ is)
          ∙ (ap (λ (d : Exchange). by false (why_due site c d)) (last_is L ev e old new n moves last)
          ∙ or_first (are_whys given (whys_due (why_due site c at_end)) || are_whys given (NoMemory ∷ [])) (is_turned_away (step_of L ev (acts_of moves)) given)
          (subst (λ (l : List Why). Duly idle is l) (sym given_is) (duly idle is)))

pub steps_shut_duly : (L : List Item) (ev : Event) (e : Exchange) (old new : HttpConn) (n : ℕ) (moves : List Move) (stamp : Option ℕ) → Standing L ev [] waiting n e old
    → 2 ≤ (site_of old).limits.head → stamp ≡ last_secs (L ++ In ev ∷ []) → Apt e old → Steps stamp old n moves new → are_given (flags_of old) (acts_of moves) ≡ true
    → IdleIsKnown old e → shuts (site_of old) (number_of old) (step_of L ev (acts_of moves)) ≡ true
steps_shut_duly L ev e old new n moves stamp s two clock apt w form idle = shut_duly L ev e old new n moves stamp s two clock apt w form idle
