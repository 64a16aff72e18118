-- A whole step of the child of a connection that was shut for memory keeps all rules.
use Rattle.std.proofs.Common.{◌≡◌, ℕ, Bool, true, false, List, [], ◌∷◌, refl, sym, ap, ◌∙◌, append-nil}
use Rattle.std.specs.Prelude.{◌||◌, if◌then◌else◌}
use Rattle.std.proofs.lemmas.Bool.{false≢true, or_left}
use Rattle.host_trace.specs.declared.items.Act.{Act}
use Rattle.host_trace.specs.declared.items.Event.{Event}
use Rattle.host_trace.specs.declared.items.Item.{Item}
use Rattle.host_trace.specs.declared.items.Item.TheVariants.{In, Out}
use Rattle.host_trace.specs.Kinds.{is_shut, is_shut_for_memory}
use Rattle.host_trace.specs.Projections.{shut, shut_for_memory}
use Rattle.host_trace.specs.Trace.{step_of}
use Rattle.own_traces.specs.OwnFits.{fits_own}
use Rattle.trace_model.specs.Exchange.{Exchange, all_of, pushed}
use Rattle.trace_model.specs.Exchanges.{current}
use Rattle.trace_model.specs.Shuts.{are_whys, shuts, whys_given}
use Rattle.trace_model.proofs.ExchangeLaws.{all_of-current}
use Rattle.child_core.specs.Due.{acted as run_acted, acting as run_acting}
use Rattle.child_core.specs.View.{View as Run}
use Rattle.child_core.proofs.MemoryLaws.{acting-due}
use Rattle.child_laws.specs.Laws.{with_acts}
use Rattle.talk_core.specs.Hearing.{run_heard}
use Rattle.talk_core.specs.View.{given_up}
use Rattle.talk_laws.specs.Form.{rises}
use Rattle.talk_laws.specs.LostSteps.{LaterStepsAreGood}
use Rattle.talk_laws.proofs.ActLaws.{path_small, small_leave, with_more, with_none}
use Rattle.talk_laws.proofs.FormLaws.{lost_acts_come_in_form}
use Rattle.talk_laws.proofs.JoinLaws.{small_asks, small_kept, small_whys}
use Rattle.talk_laws.proofs.ListLaws.{any_push, any_still}
use Rattle.talk_laws.proofs.LostLaws.{events_keep_lost, lost_acts_move}
use Rattle.talk_laws.proofs.OrderLaws.{talk_acts_rise}
use Rattle.talk_laws.proofs.ServeLaws.{lost_acts_deal}
use Rattle.talk_laws.proofs.StepLaws.{lost_events_begin}
use Rattle.talk_laws.proofs.LossEndLaws.{dead_by, first_at, heard_at, loses_on}

pub later_steps_are_good : LaterStepsAreGood
later_steps_are_good site c L ev legs continued may t held next two is conn over fits fresh accepted dead lost =
    let e0 : Exchange = current site c L in
    let e1 : Exchange = pushed (current site c L) (In ev) in
    let whole = all_of-current site c L in
    let h1 : Run = run_heard t held ev in
    let heard = events_keep_lost site c e0 legs continued t held ev two is conn over (ap (λ l. shut l c) whole ∙ dead) (ap (λ l. fits_own site.limits.children l ev) whole ∙ fits) in
    let last : Exchange = with_acts e1 (run_acting may h1) in
    let served_then = lost_acts_move site c e1 legs continued false may h1 two heard in
    let dealt = lost_acts_deal site c L ev [] e1 [] next legs continued false may h1 two heard (lost_events_begin site c L ev legs continued h1 next two fits heard fresh) in
    let small = path_small may h1 (run_acting may h1) (acting-due may h1).path in
    let left = small_leave site c legs continued heard.view.number (run_acting may h1) e1 two small heard.spoken in
    let fit = lost_acts_come_in_form site c e1 legs continued false may h1 two heard in
    let dead_last : shut (all_of last) c ≡ true = left.shut_then ∙ any_still (is_shut c) e0 (In ev) refl ∙ ap (λ l. shut l c) whole ∙ dead in
    let memory : shut_for_memory (all_of last) c ≡ true =
    memory_stays c (run_acting may h1) e1 (any_push (is_shut_for_memory c) e0 (In ev) ∙ ap (λ l. shut_for_memory l c || false) whole ∙ ap (λ b. b || false) lost) in
    loses_on site c L ev legs continued (run_acting may h1) may next two e1 last (run_acted may h1) (heard_at site c L ev) heard.view.number heard.spoken
    (first_at site c L ev legs continued heard.view.number heard.spoken) served_then dealt (dead_by c (all_of last) dead_last) memory fit.unwritten fit.in_form fit.starts fit.talk_acts fit.in_turn
    (talk_acts_rise_alone may h1) (no_why c L ev (run_acting may h1) dead (small_whys c (run_acting may h1) small)) (small_asks c 0 (run_acting may h1) small)
    (λ free. small_kept c (run_acting may h1) small) dead_last
  where
    memory_stays : (c : ℕ) (acts : List Act) (e : Exchange) → shut_for_memory (all_of e) c ≡ true → shut_for_memory (all_of (with_acts e acts)) c ≡ true
    memory_stays c [] e is = ap (λ d. shut_for_memory (all_of d) c) (with_none e) ∙ is
    memory_stays c (act ∷ acts) e is =
        ap (λ d. shut_for_memory (all_of d) c) (sym (with_more e act acts))
        ∙ memory_stays c acts (pushed e (Out act)) (any_push (is_shut_for_memory c) e (Out act) ∙ or_left (shut_for_memory (all_of e) c) (is_shut_for_memory c (Out act)) is)

    -- a talk of which nothing is due before them
    talk_acts_rise_alone : (may : Bool) (h : Run) → rises 0 (run_acting may h) ≡ true
    talk_acts_rise_alone may h = ap (rises 0) (sym (append-nil (run_acting may h))) ∙ talk_acts_rise may (given_up t) h [] refl

    dead_shuts : (b x y : Bool) → b ≡ true → x ≡ true → (if b then x else y) ≡ true
    dead_shuts true x y p q = q
    dead_shuts false x y p q = absurd (false≢true p)

    no_why : (c : ℕ) (L : List Item) (ev : Event) (acts : List Act) → shut L c ≡ true → whys_given c acts ≡ [] → shuts site c (step_of L ev acts) ≡ true
    no_why c L ev acts dead none = dead_shuts (shut L c) _ _ dead (ap (λ g. are_whys g []) none)
