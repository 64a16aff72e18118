-- An accept text is written in no step in which no memory is taken.
use Rattle.std.proofs.Common.{◌≡◌, ◌≤◌, inl, inr, ℕ, ◌==◌, Bool, true, false, not, ◌&&◌, List, [], ◌∷◌, ◌++◌, Option, refl, sym, ap, ◌∙◌, subst}
use Rattle.std.proofs.lemmas.Bool.{eq-eqb, false≢true, or_left, or_right}
use Rattle.std.proofs.lemmas.List.Folds.{list_any-append}
use Rattle.host_base.specs.declared.launch.Launch.{Launch}
use Rattle.host_base.specs.declared.site.Site.{Site}
use Rattle.host_trace.specs.declared.items.Act.{Act}
use Rattle.host_trace.specs.declared.items.Act.TheVariants.{Write}
use Rattle.host_trace.specs.declared.items.Event.{Event}
use Rattle.host_trace.specs.declared.items.Event.TheVariants as Ev
use Rattle.host_trace.specs.declared.items.Item.{Item}
use Rattle.host_trace.specs.declared.items.Item.TheVariants.{Out}
use Rattle.host_trace.specs.Kinds.{is_write}
use Rattle.host_trace.specs.Trace.{Step, step_of}
use Rattle.own_traces.specs.Whose.{next_after}
use Rattle.trace_model.specs.Exchange.{Exchange}
use Rattle.trace_model.specs.TakesNoMemory.{is_hop_due, is_reply_due, lacks_reply, leaves_nothing, takes_none, unshut, writes}
use Rattle.trace_model.specs.Steps.{goes_on}
use Rattle.child_laws.specs.Step.{waiting}
use Rattle.conn_laws.specs.Moves.{Move, acts_of}
use Rattle.http_conn.specs.HttpConn.{HttpConn}
use Rattle.http_conn.specs.Kept.{flags_of, site_of}
use Rattle.http_conn.specs.Parts.{Handles}
use Rattle.http_conn.specs.Tells.{TellsMore}
use Rattle.http_conn.specs.Welcomes.{Greets, GreetsAfter}
use Rattle.http_step_laws.specs.Standing.{Apt, Standing, ends_at}
use Rattle.good_step_laws.specs.Shuts.Memory.{Calm, KnownBy, MemoryIsKnown, Resting, Unfed, takes_little}
use Rattle.good_step_laws.proofs.Shuts.CalmLaws.{answered_still}
use Rattle.good_step_laws.proofs.Shuts.CalmWords.{NoMore, Still, handles_still, rounds_none}
use Rattle.good_step_laws.proofs.Shuts.EndedLaws.{all_same, handled}
use Rattle.good_step_laws.proofs.Shuts.MemoryLaws.{calm_unfed, free_event}

-- no round comes where nothing more may go on
no_greeting : (launch : Launch) (stamp : Option ℕ) (old new : HttpConn) (n : ℕ) (moves : List Move) → NoMore old → GreetsAfter launch stamp old n moves new → ⊥
no_greeting launch stamp old new n moves none g =
    let same : g.1.mid ≡ old = rounds_none g.0 stamp old g.1.mid n g.1.sooner none g.1.first in
    none (subst (λ (c : HttpConn). TellsMore c true) same g.1.second.more)

module _ (L : List Item) (ev : Event) (e : Exchange) (mid conn : HttpConn) (n : ℕ) (moves : List Move) (stamp : Option ℕ) (launch : Launch) (s : Standing L ev [] waiting n e mid)
    (two : 2 ≤ (site_of mid).limits.head) (apt : Apt e mid) (w : Greets launch stamp mid n moves conn) where
  abbrev then_n : ℕ
  then_n = next_after n (acts_of w.sooner)

  module _ (found : mid.lost ≡ false) where
    ended : ends_at mid e ≡ true → Unfed mid.run → ⊥
    ended ends unfed =
        let same : w.mid ≡ mid = all_same L ev [] waiting e mid n s two ends found unfed stamp w.sooner w.mid w.first in
        let r = handled L ev [] waiting e mid n s two ends found unfed stamp then_n w.second.sooner w.second.mid (subst (λ (c : HttpConn). Handles c then_n w.second.sooner w.second.mid) same w.second.first) in
        no_greeting launch stamp w.second.mid conn (next_after then_n (acts_of w.second.sooner)) w.second.later r.1 w.second.second

    calm_on : ends_at mid e ≡ false → Calm e mid → ⊥
    calm_on on calm =
        let still : Still w.mid = answered_still L ev [] waiting e mid n s two apt on calm stamp w.sooner w.mid w.first in
        let r = handles_still w.mid w.second.mid then_n w.second.sooner still w.second.first in
        no_greeting launch stamp w.second.mid conn (next_after then_n (acts_of w.second.sooner)) w.second.later r.1 w.second.second

    resting : Resting e mid → ⊥
    resting (inl was) = ended was.0 was.1
    resting (inr calm) = go (ends_at mid e) refl
      where
        go : (b : Bool) → ends_at mid e ≡ b → ⊥
        go true ends = ended ends (calm_unfed _ _ mid.run calm.run)
        go false on = calm_on on calm

  module _ (site : Site) (c : ℕ) (acts : List Act) (text : List ℕ) (more : List Act) where
    abbrev step : Step
    step = step_of L ev ((acts ++ Write c text ∷ []) ++ more)

    wrote : writes c ((acts ++ Write c text ∷ []) ++ more) ≡ true
    wrote =
        list_any-append (λ (act : Act). is_write c (Out act)) (acts ++ Write c text ∷ []) more
        ∙ or_left (writes c (acts ++ Write c text ∷ [])) (writes c more)
        (list_any-append (λ (act : Act). is_write c (Out act)) acts (Write c text ∷ [])
        ∙ or_right (writes c acts) (writes c (Write c text ∷ [])) (or_left (c == c) false (eq-eqb c c refl)))

    due : is_reply_due site c step ≡ true
    due = or_left (writes c step.acts) (lacks_reply site c (goes_on site c (unshut c step))) wrote

    takes : mid.lost ≡ false → (x : Event) → KnownBy x e mid s.over → takes_little x ≡ true → takes_none site c step x ≡ false
    takes found (Ev.Accepted peer) k t = absurd (resting found k)
    takes found (Ev.ClientGone d) k t = absurd (resting found k)
    takes found (Ev.InputGone j) k t = absurd (resting found k)
    takes found (Ev.WsBinary d) k t = absurd (resting found k)
    takes found (Ev.WsClosed d) k t = absurd (resting found k)
    takes found (Ev.WsBad d) k t = absurd (resting found k)
    takes found Ev.Stop k t = absurd (resting found k)
    takes found (Ev.Tick secs) k t = ap not due
    takes found (Ev.Exited j) k t = ap (λ (b : Bool). not b && not (is_hop_due site c step) && leaves_nothing site c step) due
    takes found _ k t = absurd (false≢true t)

    -- So memory may run out in it.
    pub greets_take : MemoryIsKnown ev e mid s.over → (flags_of mid).shut ≡ false → takes_none site c step ev ≡ false
    greets_take known unshut_now = go (takes_little ev) refl mid.lost refl
      where
        go : (little : Bool) → takes_little ev ≡ little → (lost : Bool) → mid.lost ≡ lost → takes_none site c step ev ≡ false
        go false little lost is = free_event site c step ev little
        go true little true is = absurd (false≢true (sym unshut_now ∙ known.shut little is))
        go true little false is = takes is ev (known.known is) little
