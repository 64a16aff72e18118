-- Behind an event, before its exchange is taken for ended, the connection stands where the parts of a step begin.
use Rattle.std.proofs.Common.{◌≡◌, ℕ, Bool, true, false, ◌&&◌, not, List, [], ◌∷◌, ◌++◌, Option, refl, sym, ap, ◌∙◌, subst, append_assoc}
use Rattle.std.proofs.lemmas.Bool.{and_from, and_parts, and_right, false≢true, false_from_ne_true, not-true, or_left, or_parts}
use Rattle.std.proofs.lemmas.List.Folds.{list_any-append}
use Rattle.host_base.specs.declared.site.Site.{Site}
use Rattle.host_trace.specs.declared.items.Event.{Event}
use Rattle.host_trace.specs.declared.items.Item.{Item}
use Rattle.host_trace.specs.declared.items.Item.TheVariants.{In}
use Rattle.host_trace.specs.Kinds.{is_accepted, is_client_bytes, is_shut_for_memory}
use Rattle.host_trace.specs.Projections.{shut_for_memory}
use Rattle.own_traces.specs.OwnFits.{fits_own}
use Rattle.child_core.specs.View.{View}
use Rattle.trace_model.specs.Exchange.{Exchange, all_of, pushed, request_bytes}
use Rattle.trace_model.specs.Legs.{Leg as Started}
use Rattle.conn_flags.specs.Knows.{KnowsFlags}
use Rattle.conn_flags.specs.View.{View as Flags}
use Rattle.conn_flags.proofs.KnowsLaws.{events_admitted, known_next}
use Rattle.child_laws.specs.Children.{KnowsChildren, is_over as is_settled_run}
use Rattle.child_laws.specs.Heard.{run_heard}
use Rattle.child_laws.specs.Moves.{Deals}
use Rattle.child_laws.specs.Step.{waiting}
use Rattle.child_laws.proofs.KnowLaws.{unsettled_exact}
use Rattle.child_laws.proofs.MoveLaws.{losses_move, moves_begin}
use Rattle.http_conn.specs.HttpConn.{HttpConn}
use Rattle.http_conn.specs.Hears.{Hears}
use Rattle.http_conn.specs.Kept.{StandsFor, is_settled_as, flags_of, number_of, site_of}
use Rattle.http_conn.specs.Slot.{run_settled}
use Rattle.http_stage_laws.specs.HeardStages.{AtRest}
use Rattle.http_stage_laws.specs.Staged.{Lost}
use Rattle.http_stage_laws.proofs.HeardRest.{same_list}
use Rattle.http_stage_laws.proofs.StartWords.{first_event}
use Rattle.http_step_laws.specs.Standing.{Standing, is_early}
use Rattle.http_step_laws.proofs.PushWords.{bytes_quiet}
use Rattle.http_step_laws.proofs.StageWords.{same_settled}
use Rattle.good_step_laws.proofs.Events.AptLaws.{no_bytes}
use Rattle.good_step_laws.proofs.Events.BehindWords.{keeps, lost_now, lost_still, shut_same, well}
use Rattle.good_step_laws.proofs.Events.ClientLaws.{bytes_asked}
use Rattle.good_step_laws.proofs.Events.InwardLaws.{inward_then}
use Rattle.good_step_laws.proofs.Events.LostWords.{newly_live}

not_twice : (b : Bool) → not (not b) ≡ b
not_twice true = refl
not_twice false = refl

module _ (old : HttpConn) (L : List Item) (e : Exchange) (legs : List Started) (next : ℕ) (ev : Event) (rest : AtRest old L e legs next)
    (fits : fits_own (site_of old).limits.children L ev ≡ true) (new : HttpConn) (h : Hears old ev new) where
  abbrev later : Exchange
  later = pushed e (In ev)

  front : StandsFor h.mid later
  front =
      let settled : run_settled old.run ≡ is_settled_as old e =
      sym (same_settled old.run)
      ∙ (sym (not_twice (is_settled_run old.run)) ∙ sym (ap not (unsettled_exact (site_of old) (number_of old) e false next legs old.run rest.children))) in
      h.keeps e rest.two settled rest.front

  pub all_is : all_of later ≡ L ++ In ev ∷ []
  all_is = sym (append_assoc e.before e.items (In ev ∷ [])) ∙ ap (λ (l : List Item). l ++ In ev ∷ []) (same_list old L e legs next rest)

  flags : KnowsFlags (flags_of h.mid) (all_of later)
  flags =
      subst (λ (l : List Item). KnowsFlags (flags_of h.mid) l) (sym all_is)
      (subst (λ (m : Flags). KnowsFlags m (L ++ In ev ∷ [])) (sym (keeps old L e legs next ev rest fits new h).flags)
      (known_next (flags_of old) L (In ev) rest.flags (events_admitted (site_of old).limits.children (flags_of old) L ev rest.flags fits)))

  -- ---- its children

  deals : (found : Bool) → Deals (site_of old) (number_of old) L ev [] later [] false waiting next legs (run_heard (site_of old) (number_of old) e legs found ev old.run)
  deals found =
      subst (λ (d : Exchange). Deals (site_of old) (number_of old) L ev [] (pushed d (In ev)) [] false waiting next legs (run_heard (site_of old) (number_of old) d legs found ev old.run)) (sym rest.now)
      (moves_begin (site_of old) (number_of old) L ev found next legs old.run rest.two fits
      (subst (λ (d : Exchange). KnowsChildren (site_of old) (number_of old) d false next legs old.run) rest.now rest.children))

  place : (early : Bool) (run : Option View) → is_early h.mid ≡ early → h.mid.run ≡ run → Deals (site_of old) (number_of old) L ev [] later [] early waiting next legs run
      → Deals (site_of h.mid) (number_of h.mid) L ev [] later [] (is_early h.mid) waiting next legs h.mid.run
  place early run early_is run_is d =
      let same = (keeps old L e legs next ev rest fits new h).same in
      subst (λ (t : Site). Deals t (number_of h.mid) L ev [] later [] (is_early h.mid) waiting next legs h.mid.run) (sym same.site)
      (subst (λ (c : ℕ). Deals (site_of old) c L ev [] later [] (is_early h.mid) waiting next legs h.mid.run) (sym same.number)
      (subst (λ (b : Bool). Deals (site_of old) (number_of old) L ev [] later [] b waiting next legs h.mid.run) (sym early_is)
      (subst (λ (r : Option View). Deals (site_of old) (number_of old) L ev [] later [] early waiting next legs r) (sym run_is) d)))

  children : Deals (site_of h.mid) (number_of h.mid) L ev [] later [] (is_early h.mid) waiting next legs h.mid.run
  children = by_lost h.mid.lost refl
    where
      by_before : h.mid.lost ≡ true → (b : Bool) → old.lost ≡ b → Deals (site_of h.mid) (number_of h.mid) L ev [] later [] (is_early h.mid) waiting next legs h.mid.run
      by_before lost true before =
          place false _ (and_right h.mid.lost (not (flags_of h.mid).shut) (ap not (shut_same old L e legs next ev rest fits new h ∙ (rest.lost before).shut)))
          (lost_still old L e legs next ev rest fits new h before).run (deals true)
      by_before lost false found =
          let l = lost_now old L e legs next ev rest fits new h found lost in
          let live = newly_live old L e legs next rest found ev new fits h lost in
          let unshut : not (flags_of h.mid).shut ≡ true =
          ap not (shut_same old L e legs next ev rest fits new h) ∙ (and_parts (flags_of old).accepted (not (flags_of old).shut) live).1 in
          place true _ (and_from h.mid.lost (not (flags_of h.mid).shut) lost unshut) l.run
          (losses_move (site_of old) (number_of old) L ev [] later [] false waiting next legs (run_heard (site_of old) (number_of old) e legs l.found ev old.run) refl (deals l.found))

      by_lost : (b : Bool) → h.mid.lost ≡ b → Deals (site_of h.mid) (number_of h.mid) L ev [] later [] (is_early h.mid) waiting next legs h.mid.run
      by_lost true lost = by_before lost old.lost refl
      by_lost false f = place false _ (ap (λ (b : Bool). b && not (flags_of h.mid).shut) f) (well old L e legs next ev rest fits new h f).run (deals true)

  -- ---- of a connection that was not accepted nothing was heard

  unheard : (flags_of h.mid).accepted ≡ false → (request_bytes (number_of h.mid) later ≡ []) × (later.closed ≡ false)
  unheard none =
      let k = keeps old L e legs next ev rest fits new h in
      let before = (or_parts (is_accepted (In ev)) (flags_of old).accepted (sym (ap (λ m. m.accepted) k.flags) ∙ none)).1 in
      let quiet : is_client_bytes (number_of old) (In ev) ≡ false =
      false_from_ne_true (is_client_bytes (number_of old) (In ev)) (λ mine.
      false≢true (sym before ∙ (rest.inward.asked (bytes_asked old L e legs next ev rest fits new h ev fits mine).0).0)) in
      let was = rest.unheard before in
      (ap (λ (c : ℕ). request_bytes c later) k.same.number ∙ (bytes_quiet (number_of old) e (In ev) (no_bytes (number_of old) ev quiet) ∙ was.0), was.1)

  lost_then : h.mid.lost ≡ true → Lost h.mid later legs
  lost_then lost = go old.lost refl
    where
      go : (b : Bool) → old.lost ≡ b → Lost h.mid later legs
      go true before = (lost_still old L e legs next ev rest fits new h before).lost
      go false found = (lost_now old L e legs next ev rest fits new h found lost).lost

  -- where memory had been wanting it was shut for that; else it isn't shut yet
  for_memory : h.mid.lost ≡ true → (flags_of h.mid).shut ≡ true → shut_for_memory (all_of later) (number_of h.mid) ≡ true
  for_memory lost shut_now = go old.lost refl
    where
      go : (b : Bool) → old.lost ≡ b → shut_for_memory (all_of later) (number_of h.mid) ≡ true
      go true before =
          let c : ℕ = number_of old in
          ap (λ (d : ℕ). shut_for_memory (all_of later) d) (keeps old L e legs next ev rest fits new h).same.number
          ∙ (ap (λ (l : List Item). shut_for_memory l c) (sym (append_assoc e.before e.items (In ev ∷ [])))
          ∙ (list_any-append (is_shut_for_memory c) (all_of e) (In ev ∷ []) ∙ or_left _ _ (rest.lost before).for_memory))
      go false found =
          let live = newly_live old L e legs next rest found ev new fits h lost in
          absurd (false≢true (sym (not-true (flags_of old).shut (and_parts (flags_of old).accepted (not (flags_of old).shut) live).1) ∙ (sym (shut_same old L e legs next ev rest fits new h) ∙ shut_now)))

  pub standing_then : Standing L ev [] waiting next later h.mid
  standing_then = record {
    over = [];
    legs = legs;
    front = front;
    flags = flags;
    staged = λ f. (well old L e legs next ev rest fits new h f).staged;
    lost = lost_then;
    children = children;
    heard = λ f. (well old L e legs next ev rest fits new h f).heard;
    inward = inward_then old L e legs next ev rest fits new h;
    unheard = unheard;
    starts_first = first_event e ev rest.starts_first;
    for_memory = for_memory;
  }
