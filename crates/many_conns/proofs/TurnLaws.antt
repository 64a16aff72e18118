-- A step of all connections, one after another.
use Rattle.std.proofs.Common.{◌≡◌, ◌≢◌, ℕ, ◌+◌, ◌<◌, ◌≤◌, Bool, true, false, List, [], ◌∷◌, ◌++◌, map, Option, Some, None, refl, sym, ◌∙◌, ap, subst, append-nil, append_assoc, arith, length, get_or, set}
use Rattle.std.specs.Prelude.{◌||◌}
use Rattle.std.specs.List.{AllByRecursion}
use Rattle.std.proofs.lemmas.List.{length-set, get_or_default, map-append}
use Rattle.host_base.specs.declared.site.Site.{Site}
use Rattle.host_trace.specs.declared.items.Event.{Event}
use Rattle.host_trace.specs.declared.items.Act.{Act}
use Rattle.host_trace.specs.declared.items.Item.{Item}
use Rattle.host_trace.specs.declared.items.Item.TheVariants.{In, Out}
use Rattle.host_trace.specs.Projections.{children, start_count, accepted_count, last_secs}
use Rattle.host_trace.specs.Trace.{step_of, after_step, steps, AtEachStep}
use Rattle.host_trace.proofs.StepLaws.{steps-append}
use Rattle.own_traces.specs.Whose.{is_common, is_of, are_of, next_after, Rises}
use Rattle.own_traces.specs.Between.{Between}
use Rattle.own_traces.proofs.BlockLaws.{heard, not_accepted}
use Rattle.host_trace.specs.Kinds.{is_accepted}
use Rattle.trace_model.specs.Between.{BetweenGood, is_slot_kept, owner_of_event}
use Rattle.many_conns.proofs.BetweenGoodLaws.{event_owner, good_all, good_none, good_one, slots_else}
use Rattle.many_conns.specs.Lists.{AreRising, Mid}
use Rattle.many_conns.specs.Turns.{Turn}
use Rattle.many_conns.proofs.ListsLaws.{mid_step, number-at}
use Rattle.many_conns.specs.Kind.{Fitting, Gives, Kind, Laws, StepOwn}

module _ {C : Type 0} (K : Kind C) (laws : Laws K) where
  -- ---- order in two goes

  pub rises-append : (front : List Item) (low mid high : ℕ) (xs ys : List Act) → Rises front low xs mid → Rises (front ++ map Out xs) mid ys high → Rises front low (xs ++ ys) high
  rises-append front low mid high [] ys r s = lower front low mid high ys r (subst (λ f. Rises f mid ys high) (append-nil front) s)
    where
      lower : (front : List Item) (low mid high : ℕ) (ys : List Act) → low ≤ mid → Rises front mid ys high → Rises front low ys high
      lower front low mid high [] le s = omega (arith, le, s)
      lower front low mid high (y ∷ ys) le s = (s.0, omega (arith, le, s.1), s.2, s.3)
  rises-append front low mid high (x ∷ xs) ys r s =
      (r.0, r.1, r.2, rises-append (front ++ Out x ∷ []) r.0 mid high xs ys r.3 (subst (λ f. Rises f mid ys high) (sym (append_assoc front (Out x ∷ []) (map Out xs))) s))

  -- ---- one more connection has made its step

  pub record TurnStep (waits : ℕ → Bool) (i : ℕ) (site : Site) (event : Event) (conns : List C) (T V U : List Item) (c n : ℕ) (all acts : List Act) : Type 0 where
    pub turn : Turn K waits i site event conns T U
    pub is : turn.acts ≡ all
    pub count : n ≡ start_count U
    pub alone : are_of c (children V c) (start_count V) acts ≡ true
    pub accepted : accepted_count U ≡ accepted_count V

  pub turn_step : (site : Site) (waits later : ℕ → Bool) (i n : ℕ) (stamp : Option ℕ) (event : Event) (conns : List C) (T V U : List Item) (x new : C) (n' : ℕ) (before after : Option (List Item)) →
      (t : Turn K waits i site event conns T V) → AreRising K conns → i < length conns → x ≡ get_or conns i x → (K.number_of new) ≡ (K.number_of x) →
      waits i ≡ true → later i ≡ false → ((j : ℕ) → j ≢ i → later j ≡ waits j) →
      (is_common (In event) || is_of (K.number_of x) (children V (K.number_of x)) (start_count V) (In event)) ≡ true →
      K.site_of x ≡ site → (g : Gives K x n event stamp new n' before after) → n ≡ start_count V → stamp ≡ last_secs V → before ≡ Some V → after ≡ Some U →
      TurnStep later (i + 1) site event (set conns i new) T V U (K.number_of x) n' (t.acts ++ g.acts) g.acts
  turn_step site waits later i n stamp event conns T V U x new n' before after t rising lt at same wait done rest mine of_site g count clock was now =
      let a = g.added U now in
      let front : a.was ≡ V = some_same (sym a.told ∙ was) in
      let grew : U ≡ V ++ map Out g.acts = a.grew ∙ ap (λ w. w ++ map Out g.acts) front in
      let s = mid_step K laws site waits later site.limits.children event conns V i x new g.acts t.mid rising lt at same wait done rest mine
      (subst (λ q. (L : List Item) → K.stands site x L → Fitting site.limits.children (K.number_of x) (start_count V) q L event → StepOwn K site x (start_count V) event g.acts new L) clock
      (subst (λ m. (L : List Item) → K.stands site x L → Fitting site.limits.children (K.number_of x) m stamp L event → StepOwn K site x m event g.acts new L) count
      (subst (λ (t : Site). (L : List Item) → K.stands t x L → Fitting t.limits.children (K.number_of x) n stamp L event → StepOwn K t x n event g.acts new L) of_site g.own))) in
      let c : (K.number_of x) ≡ (K.number_of (get_or conns i x)) = ap (λ y. (K.number_of y)) at in
      record {
        is = refl;
        alone = s.alone;
        accepted = ap accepted_count grew ∙ s.moved.accepted;
        count = g.next ∙ (ap (λ m. next_after m g.acts) count ∙ (sym s.moved.count ∙ ap start_count (sym grew)));
        turn = record {
          mid = subst (λ W. Mid K later site site.limits.children event (set conns i new) W) (sym grew) s.mid;
          acts = t.acts ++ g.acts;
          grew = grew ∙ (ap (λ W. W ++ map Out g.acts) t.grew ∙ (append_assoc T (In event ∷ map Out t.acts) (map Out g.acts) ∙ ap (λ l. T ++ In event ∷ l) (sym (map-append Out t.acts g.acts))));
          high = (K.number_of x);
          order = rises-append (T ++ In event ∷ []) 0 t.high (K.number_of x) t.acts g.acts t.order
              (subst (λ W. Rises W t.high g.acts (K.number_of x)) (t.grew ∙ sym (append_assoc T (In event ∷ []) (map Out t.acts))) (s.moved.rises t.high (subst (λ (m : ℕ). t.high ≤ m) (sym c) (t.later i x (omega arith) lt))));
          later = λ j d le ltj.
              let ltj' : j < length conns = subst (λ m. j < m) (length-set conns i new) ltj in
              subst (λ (m : ℕ). (K.number_of x) ≤ m) (sym (number-at K laws conns i j new x d lt ltj' (same ∙ c)))
              (let r = rising i j d (omega (arith, le)) ltj' in
              let e : (K.number_of x) ≡ (K.number_of (get_or conns i d)) = c ∙ ap (λ y. (K.number_of y)) (get_or_default conns i x d lt) in
              omega (arith, r, e));
        };
      }
    where
      some_same : {A : Type 0} {a b : A} → Some a ≡ Some b → a ≡ b
      some_same e = cc

  -- ---- the rules between connections, of one step more

  all-push : {X : Type 0} (P : X → Type 0) (xs : List X) (x : X) → AllByRecursion P xs → P x → AllByRecursion P (xs ++ x ∷ [])
  all-push P [] x all p = (p, tt)
  all-push P (y ∷ xs) x all p = (all.0, all-push P xs x all.1 p)

  between-more : (site : Site) (T : List Item) (event : Event) (acts : List Act) → AtEachStep (BetweenGood site) T → BetweenGood site (step_of T event acts)
      → AtEachStep (BetweenGood site) (after_step T event acts)
  between-more site T event acts all s = subst (λ ss. AllByRecursion (BetweenGood site) ss) (sym (steps-append T event acts)) (all-push (BetweenGood site) (steps T) (step_of T event acts) all s)

  -- a step of all connections
  pub common_between : (site : Site) (waits : ℕ → Bool) (i : ℕ) (event : Event) (conns : List C) (T V : List Item) (t : Turn K waits i site event conns T V) →
      owner_of_event T event ≡ None → is_accepted (In event) ≡ false → Between (T ++ In event ∷ []) → AtEachStep (BetweenGood site) T → AtEachStep (BetweenGood site) V
  common_between site waits i event conns T V t none accepts b all =
      subst (AtEachStep (BetweenGood site)) (sym t.grew) (between-more site T event t.acts all
      (good_all site T event t.acts t.high none b (subst Between t.grew t.mid.between) t.order (slots_else site T event t.acts accepts)))

  -- a step of the connection c
  pub own_between : (site : Site) (waits : ℕ → Bool) (i : ℕ) (event : Event) (conns : List C) (T V : List Item) (c : ℕ) (t : Turn K waits i site event conns T V) →
      owner_of_event T event ≡ Some c → Between (T ++ In event ∷ []) → are_of c (children (T ++ In event ∷ []) c) (start_count (T ++ In event ∷ [])) t.acts ≡ true →
      is_slot_kept site T event t.acts ≡ true → AtEachStep (BetweenGood site) T → AtEachStep (BetweenGood site) V
  own_between site waits i event conns T V c t owner b are slots all =
      subst (AtEachStep (BetweenGood site)) (sym t.grew) (between-more site T event t.acts all
      (good_one site T event t.acts c t.high owner b (subst Between t.grew t.mid.between) t.order are slots))

  -- .. of an event that names it, or its child
  pub one_between : (site : Site) (waits : ℕ → Bool) (i : ℕ) (event : Event) (conns : List C) (T V : List Item) (c : ℕ) (t : Turn K waits i site event conns T V) →
      Between T → c < accepted_count T → is_common (In event) ≡ false → is_of c (children T c) (start_count T) (In event) ≡ true →
      are_of c (children (T ++ In event ∷ []) c) (start_count (T ++ In event ∷ [])) t.acts ≡ true → AtEachStep (BetweenGood site) T → AtEachStep (BetweenGood site) V
  one_between site waits i event conns T V c t b known special is are all =
      own_between site waits i event conns T V c t (event_owner T c (start_count T) event b special is) (heard T c event b known special is).between are
      (slots_else site T event t.acts (not_accepted (In event) special)) all

  -- an event that no connection answers
  pub quiet_between : (site : Site) (T : List Item) (event : Event) → is_accepted (In event) ≡ false → AtEachStep (BetweenGood site) T → AtEachStep (BetweenGood site) (T ++ In event ∷ [])
  quiet_between site T event none all = between-more site T event [] all (good_none site T event none)
