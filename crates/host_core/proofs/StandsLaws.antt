-- A step of the core: from what it stands for to what it stands for.
use Rattle.std.proofs.Common.{◌≡◌, ◌≢◌, ℕ, ◌+◌, ◌<◌, ◌≤◌, Bool, true, false, List, [], ◌∷◌, ◌++◌, map, Option, Some, None, refl, sym, ◌∙◌, ap, subst, append-nil, append_assoc, arith, inl, inr, length, get_or, set, leb, lit≤, length-append}
use Rattle.std.specs.Prelude.{count_by, nat_le, ◌==◌, ◌||◌, ◌⊎◌, filter}
use Rattle.std.specs.List.{All as Each}
use Rattle.std.proofs.lemmas.List.Elements.{filter_passes}
use Rattle.std.proofs.lemmas.Bool.{cases_Bool, cases_eq, cases_lt, or_left, or_right, or_parts, and_from, eq-eqb, ne_eqb, false≢true, le-leb, lt-leb, not-true}
use Rattle.std.proofs.lemmas.List.Folds.{list_any-append}
use Rattle.std.proofs.lemmas.List.{get_or_at, map-append}
use Rattle.host_base.specs.declared.launch.Peer.{Peer}
use Rattle.host_trace.specs.declared.items.Event.{Event}
use Rattle.host_trace.specs.declared.items.Event.TheVariants.{Accepted, ClientBytes, ClientEof, ClientGone, Wrote, Started, StartFailed, StartFull, ChildBytes, ChildEof, ChildBroken, Took, InputGone, Exited, WsText, WsBinary, WsClosed, WsBad, NoRoom, Tick, Stop}
use Rattle.host_trace.specs.declared.items.Act.{Act}
use Rattle.host_trace.specs.declared.items.Act.TheVariants.{Shut}
use Rattle.host_trace.specs.declared.items.Why.TheVariants.{Full}
use Rattle.host_trace.specs.declared.items.Item.{Item}
use Rattle.host_trace.specs.declared.items.Item.TheVariants.{In, Out}
use Rattle.host_trace.specs.Kinds.{names, names_child, is_accepted, is_stop, is_tick}
use Rattle.host_trace.specs.Projections.{own, children, start_count, accepted_count, stopped, last_secs}
use Rattle.host_trace.specs.Account.{settled}
use Rattle.host_trace.specs.Fits.{fits}
use Rattle.host_trace.specs.Trace.{AtEachStep, after_step}
use Rattle.trace_model.specs.Good.{begins_with_event}
use Rattle.host_trace.specs.Told.{Adds, AddsActs}
use Rattle.host_trace.proofs.ProjectionLaws.{stopped-push, accepted_count-push}
use Rattle.own_traces.specs.Whose.{has, is_common, is_of, are_of}
use Rattle.own_traces.specs.Between.{Between}
use Rattle.own_traces.proofs.BetweenLaws.{no_child_more, start_count-next, accepted_count-same}
use Rattle.own_traces.proofs.BlockLaws.{moved, heard, heard_by_all-stop, heard_by_all-tick, not_accepted, own-accepted, own-accepted_others, between-nobody}
use Rattle.own_traces.proofs.SameLaws.{children-own}
use Rattle.host_base.specs.declared.site.Site.{Site}
use Rattle.many_conns.specs.Kept.{is_child}
use Rattle.host_core.specs.declared.core_state.Core.{Core}
use Rattle.many_conns.specs.Lists.{IsAtPlace, Lists, Mid, numbers}
use Rattle.many_conns.specs.Apart.{owner_by}
use Rattle.host_core.specs.Owners.{AddsOne, HasNone, IsPlace, IsRest, Sound, conns, served}
use Rattle.trace_child.specs.Words.{given, once}
use Rattle.trace_laws.specs.Promised.{HasFitting}
use Rattle.trace_laws.proofs.FitLaws.{fit-more}
use Rattle.trace_model.specs.Between.{BetweenGood, is_slot_kept, owner_of_event, turns_away}
use Rattle.host_trace.specs.Account.{slots_held}
use Rattle.many_conns.specs.Turns.{Turn}
use Rattle.host_core.specs.Stands.{FreedAt, Ignores, Noted, Serves, Stands, Steps, common_event, freed_conns}
use Rattle.own_traces.proofs.FitLaws.{fits-known, fits-started}
use Rattle.many_conns.proofs.ListsLaws.{any_false}
use Rattle.many_conns.proofs.EventLaws.{one_begins, gone_hears, tick_begins, stop_begins, accepted_begins, mid_ends, freed, fits_same, fitting-own}
use Rattle.many_conns.proofs.TurnLaws.{common_between, one_between, own_between, quiet_between, turn_step}
use Rattle.many_conns.proofs.OwnerLaws.{none_has}
use Rattle.many_conns.proofs.SoundLaws.{some_at}
use Rattle.many_conns.proofs.ChildLaws.{fresh_holds, has_own}
use Rattle.std.proofs.lemmas.List.Elements.{All-push}
use Rattle.host_core.proofs.FreedLaws.{clock_acts, clock_more, freed_is}
use Rattle.many_conns.specs.Kind.{AreTicks, Gone, IsFor, Kind, Laws}
use Rattle.many_conns.specs.declared.connection.Connection.{Ghosts}

-- an event is the first item, and stays so
begun_step : (T : List Item) (event : Event) (acts : List Act) (U : List Item) → U ≡ after_step T event acts → begins_with_event T ≡ true → begins_with_event U ≡ true
begun_step [] event acts U grew begun = ap begins_with_event grew
begun_step (x ∷ T) event acts U grew begun = ap begins_with_event grew ∙ begun

module _ {C : Type 0} {G : Ghosts C} (laws : Laws G.kind) where
  abbrev K : Kind C
  K = G.kind

  -- the connection that makes its step is of the core's site
  sites_at : {core later : Core C G} {i : ℕ} {event : Event} {held : Bool} {before after : Option (List Item)} → Sound core → (sv : Serves core i event held later before after) → K.site_of sv.was ≡ served core
  sites_at {core} {later} {i} sound sv = ap K.site_of sv.at ∙ sound.lists.sites i sv.was sv.within

  -- ---- whether it was stopped

  pub stopped-more : (T : List Item) (event : Event) (acts : List Act) → stopped (after_step T event acts) ≡ (stopped T || is_stop (In event))
  stopped-more T event acts =
      ap stopped (sym (append_assoc T (In event ∷ []) (map Out acts)))
      ∙ (stopped-still (T ++ In event ∷ []) acts ∙ stopped-push T (In event))
    where
      or_nothing : (b : Bool) → (b || false) ≡ b
      or_nothing true = refl
      or_nothing false = refl

      stopped-still : (V : List Item) (acts : List Act) → stopped (V ++ map Out acts) ≡ stopped V
      stopped-still V acts = list_any-append is_stop V (map Out acts) ∙ (ap (λ b. stopped V || b) (any_false K laws acts) ∙ or_nothing (stopped V))

  not_tick : (x : Item) → is_common x ≡ false → is_tick x ≡ false
  not_tick x e = (or_parts (is_accepted x) (is_tick x) (or_parts (is_accepted x || is_tick x) (is_stop x) e).0).1

  not_stop : (x : Item) → is_common x ≡ false → is_stop x ≡ false
  not_stop x e = (or_parts (is_accepted x || is_tick x) (is_stop x) e).1

  or_nothing : (b : Bool) → (b || false) ≡ b
  or_nothing true = refl
  or_nothing false = refl

  -- ---- what an event finds

  pub record Found (core : Core C G) (T : List Item) (event : Event) (i : ℕ) : Type 0 where
    pub within : i < length (conns core)
    pub mine : (d : C) → is_of (K.number_of (get_or (conns core) i d)) (children T (K.number_of (get_or (conns core) i d))) (start_count T) (In event) ≡ true

  child_found : (core : Core C G) (T : List Item) (i k : ℕ) → Stands core T → i < length (conns core) → ((d : C) → is_child (K.last_child_of (get_or (conns core) i d)) k ≡ true) →
      (d : C) → has (children T (K.number_of (get_or (conns core) i d))) k ≡ true
  child_found core T i k s lt h d =
      ap (λ ks. has ks k) (sym (children-own T (K.number_of (get_or (conns core) i d)) s.lists.between))
      ∙ laws.last_child_started (served core) (get_or (conns core) i d) (own T (K.number_of (get_or (conns core) i d))) k (s.lists.live i d lt) (h d)

  pub found : (core : Core C G) (T : List Item) (i : ℕ) (event : Event) → Stands core T → IsPlace core event i → Found core T event i
  found core T i (ClientBytes d bytes) s p = record { within = p.within; mine = λ x. or_left _ _ (eq-eqb (K.number_of (get_or (conns core) i x)) d (p.is x)) }
  found core T i (ClientEof d) s p = record { within = p.within; mine = λ x. or_left _ _ (eq-eqb (K.number_of (get_or (conns core) i x)) d (p.is x)) }
  found core T i (ClientGone d) s p = record { within = p.within; mine = λ x. or_left _ _ (eq-eqb (K.number_of (get_or (conns core) i x)) d (p.is x)) }
  found core T i (Wrote d n) s p = record { within = p.within; mine = λ x. or_left _ _ (eq-eqb (K.number_of (get_or (conns core) i x)) d (p.is x)) }
  found core T i (WsText d bytes) s p = record { within = p.within; mine = λ x. or_left _ _ (eq-eqb (K.number_of (get_or (conns core) i x)) d (p.is x)) }
  found core T i (WsBinary d) s p = record { within = p.within; mine = λ x. or_left _ _ (eq-eqb (K.number_of (get_or (conns core) i x)) d (p.is x)) }
  found core T i (WsClosed d) s p = record { within = p.within; mine = λ x. or_left _ _ (eq-eqb (K.number_of (get_or (conns core) i x)) d (p.is x)) }
  found core T i (WsBad d) s p = record { within = p.within; mine = λ x. or_left _ _ (eq-eqb (K.number_of (get_or (conns core) i x)) d (p.is x)) }
  found core T i (NoRoom d) s p = record { within = p.within; mine = λ x. or_left _ _ (eq-eqb (K.number_of (get_or (conns core) i x)) d (p.is x)) }
  found core T i (Started d) s p = record { within = p.0; mine = child_found core T i d s p.0 p.1 }
  found core T i (StartFailed d) s p = record { within = p.0; mine = child_found core T i d s p.0 p.1 }
  found core T i (StartFull d seen) s p = record { within = p.0; mine = child_found core T i d s p.0 p.1 }
  found core T i (ChildBytes d bytes) s p = record { within = p.0; mine = child_found core T i d s p.0 p.1 }
  found core T i (ChildEof d) s p = record { within = p.0; mine = child_found core T i d s p.0 p.1 }
  found core T i (ChildBroken d) s p = record { within = p.0; mine = child_found core T i d s p.0 p.1 }
  found core T i (Took d n) s p = record { within = p.0; mine = child_found core T i d s p.0 p.1 }
  found core T i (InputGone d) s p = record { within = p.0; mine = child_found core T i d s p.0 p.1 }
  found core T i (Exited d) s p = record { within = p.0; mine = child_found core T i d s p.0 p.1 }
  found core T i _ s p = absurd p

  -- ---- an event of one connection

  abbrev turn_begins : (waits : ℕ → Bool) (i : ℕ) (site : Site) (event : Event) (xs : List C) (T : List Item) → Mid K waits site site.limits.children event xs (T ++ In event ∷ []) →
      Turn K waits i site event xs T (T ++ In event ∷ [])
  turn_begins waits i site event xs T m = record { mid = m; acts = []; grew = refl; high = 0; order = lit≤ tt; later = λ j d le lt. omega arith }

  pub one_stands : (old mid new : Core C G) (i : ℕ) (event : Event) (held : Bool) (before after : Option (List Item)) → Sound old → IsPlace old event i → is_common (In event) ≡ false →
      Serves old i event held mid before after → FreedAt mid i held new → Steps old event before new after
  one_stands old mid new i event held before after sound place special sv fr T U s was f now =
      let site = served old in
      let limit = site.limits.children in
      let xs = conns old in
      let x = sv.was in
      let fd = found old T i event s place in
      let is : is_of (K.number_of x) (children T (K.number_of x)) (start_count T) (In event) ≡ true =
      subst (λ y. is_of (K.number_of y) (children T (K.number_of y)) (start_count T) (In event) ≡ true) (sym sv.at) (fd.mine x) in
      let V = T ++ In event ∷ [] in
      let b = s.lists.between in
      let known : K.number_of x < accepted_count T = subst (λ y. K.number_of y < accepted_count T) (sym sv.at) (s.lists.known i x fd.within) in
      let m = one_begins K laws site limit event xs T i x s.lists sound.lists.rising fd.within sv.at special is f in
      let t = turn_begins (λ j. j == i) i site event xs T m in
      let mine : (is_common (In event) || is_of (K.number_of x) (children V (K.number_of x)) (start_count V) (In event)) ≡ true =
      or_right (is_common (In event)) _
      (ap (λ ks. is_of (K.number_of x) ks (start_count V) (In event)) (no_child_more T (In event) (K.number_of x) refl)
      ∙ (ap (λ n. is_of (K.number_of x) (children T (K.number_of x)) n (In event)) (start_count-next T (In event)) ∙ is)) in
      let clock : old.clock ≡ last_secs V = s.clock ∙ sym (clock_more T event (not_tick (In event) special)) in
      let st = turn_step K laws site (λ j. j == i) (λ j. false) i old.children old.clock event xs T V U x sv.now mid.children before after t sound.lists.rising fd.within sv.at sv.gives.number
      (eq-eqb i i refl) refl (λ j other. sym (ne_eqb j i other)) mine (sites_at sound sv) sv.gives (s.children ∙ sym (start_count-next T (In event))) clock was now in
      let items : conns new ≡ filter K.needs (set xs i sv.now) =
      fr.conns_then ∙ ((λ q. freed_conns (sv.held_is q) (sv.conns_then q) i) ∙ freed_is K xs i sv.now s.held fd.within) in
      let lists = mid_ends K laws site (λ j. false) limit event (set xs i sv.now) U st.turn.mid (λ j lt. refl) in
      let same_site : served new ≡ site = fr.rest.site ∙ sv.site in
      record {
        begun = begun_step T event st.turn.acts U st.turn.grew s.begun;
        held = subst (Each (λ x. K.needs x ≡ true)) (sym items) (filter_passes K.needs (set xs i sv.now));
        lists = subst (λ t. Lists K t (conns new) U) (sym same_site) (subst (λ xs. Lists K site xs U) (sym items) (freed K laws site (set xs i sv.now) U lists));
        between = subst (λ q. AtEachStep (BetweenGood q) U) (sym same_site) (one_between K laws site (λ j. false) (i + 1) event (set xs i sv.now) T U (K.number_of x) st.turn b known special is
            (ap (λ acts. are_of (K.number_of x) (children V (K.number_of x)) (start_count V) acts) st.is ∙ st.alone) s.between);
        fit = subst (λ q. AtEachStep (HasFitting q) U) (sym same_site) (fit-more site T event st.turn.acts U st.turn.grew f s.fit);
        accepted = fr.rest.accepted ∙ (sv.accepted ∙ (s.accepted ∙ sym (st.accepted ∙ accepted_count-same T (In event) (not_accepted (In event) special))));
        children = fr.rest.children ∙ st.count;
        stopped = fr.rest.stopped ∙ (sv.stopped ∙ (s.stopped ∙ sym (ap stopped st.turn.grew ∙ (stopped-more T event st.turn.acts ∙ (ap (λ b. stopped T || b) (not_stop (In event) special) ∙ or_nothing (stopped T))))));
        clock = fr.rest.clock ∙ (sv.clock ∙ (clock ∙ sym (ap last_secs st.turn.grew ∙ clock_acts T event st.turn.acts)));
      }

  -- ---- an event that no connection is to hear

  -- whose the event is, where none of the connections with slots is to hear it
  pub record Missed (core : Core C G) (T : List Item) (event : Event) : Type 0 where
    pub c : ℕ
    pub known : c < accepted_count T
    pub mine : is_of c (children T c) (start_count T) (In event) ≡ true
    -- it needs no slot, or the child is not that of its run
    pub how : (has (numbers K (conns core)) c ≡ false) ⊎ ((k : ℕ) × (names_child k (In event) ≡ true) × (owner_by K K.last_child_of (conns core) k ≡ None))

  pub late_lists : (core : Core C G) (T : List Item) (limit : ℕ) (event : Event) → Sound core → Stands core T → is_common (In event) ≡ false → fits limit T event ≡ true →
      Missed core T event → Lists K (served core) (conns core) (T ++ In event ∷ [])
  late_lists core T limit event sound s special f m = elim m.how [
    | inl absent ↦ gone_hears K laws (served core) limit event (conns core) T m.c s.lists m.known absent special m.mine f
    | inr settled ↦ elim (cases_Bool (has (numbers K (conns core)) m.c)) [
      | inr absent ↦ gone_hears K laws (served core) limit event (conns core) T m.c s.lists m.known absent special m.mine f
      | inl held ↦
          let xs = conns core in
          let V = T ++ In event ∷ [] in
          let b = s.lists.between in
          let h = heard T m.c event b m.known special m.mine in
          let count : accepted_count V ≡ accepted_count T = accepted_count-same T (In event) (not_accepted (In event) special) in
          record {
            live = λ j d lt. elim (cases_eq (K.number_of (get_or xs j d)) m.c) [
              | inl same ↦
                  let y = get_or xs j d in
                  let mine : is_of (K.number_of y) (children T (K.number_of y)) (start_count T) (In event) ≡ true = subst (λ (n : ℕ). is_of n (children T n) (start_count T) (In event) ≡ true) (sym same) m.mine in
                  subst (λ l. K.stands (served core) y l) (sym (subst (λ (n : ℕ). own V n ≡ own T n ++ In event ∷ []) (sym same) h.mine))
                  (laws.late (served core) y (own T (K.number_of y)) limit (start_count T) (last_secs (T ++ In event ∷ [])) settled.0 event (s.lists.live j d lt) (fitting-own K laws limit T (K.number_of y) event b special mine f (subst (λ n. n < accepted_count T) (sym same) m.known)) settled.1
                  (none_has K laws K.last_child_of xs j settled.0 d settled.2 lt))
              | inr other ↦ subst (λ l. K.stands (served core) (get_or xs j d) l) (sym (h.others _ other)) (s.lists.live j d lt)
            ];
            gone = λ e lt absent.
                let differ : e ≢ m.c = λ is. false≢true (sym absent ∙ (ap (λ (n : ℕ). has (numbers K xs) n) is ∙ held)) in
                subst (λ l. Gone K (served core) e l) (sym (h.others e differ)) (s.lists.gone e (subst (λ n. e < n) count lt) absent);
            fresh = λ e le go.
                let le' : accepted_count T ≤ e = subst (λ n. n ≤ e) count le in
                let differ : e ≢ m.c = λ is. absurd (omega (arith, le', m.known, is)) in
                subst AreTicks (sym (h.others e differ)) (s.lists.fresh e le' (or_parts (stopped T) (is_stop (In event)) (sym (stopped-push T (In event)) ∙ go)).0);
            known = λ j d lt. subst (λ n. (K.number_of (get_or xs j d)) < n) (sym count) (s.lists.known j d lt);
            between = h.between;
          }
    ]
  ]

  pub missed_stands : (core : Core C G) (T : List Item) (event : Event) → Sound core → Stands core T → is_common (In event) ≡ false
      → fits (served core).limits.children T event ≡ true → Missed core T event → Stands core (T ++ In event ∷ [])
  missed_stands core T event sound s special f m =
      let lists = late_lists core T (served core).limits.children event sound s special f m in
      record {
        begun = begun_step T event [] (T ++ In event ∷ []) refl s.begun;
        held = s.held;
        lists = lists;
        between = quiet_between K laws (served core) T event (not_accepted (In event) special) s.between;
        fit = fit-more (served core) T event [] (T ++ In event ∷ []) refl f s.fit;
        accepted = s.accepted ∙ sym (accepted_count-same T (In event) (not_accepted (In event) special));
        children = s.children ∙ sym (start_count-next T (In event));
        stopped = s.stopped ∙ sym (stopped-push T (In event) ∙ (ap (λ b. stopped T || b) (not_stop (In event) special) ∙ or_nothing (stopped T)));
        clock = s.clock ∙ sym (clock_more T event (not_tick (In event) special));
      }

  conn_missed : (core : Core C G) (T : List Item) (limit : ℕ) (event : Event) (c : ℕ) → Stands core T → fits limit T event ≡ true → names c (In event) ≡ true →
      is_of c (children T c) (start_count T) (In event) ≡ true → has (numbers K (conns core)) c ≡ false → Missed core T event
  conn_missed core T limit event c s f n is none = record { c = c; known = fits-known limit T event c s.lists.between f n; mine = is; how = inl none }

  child_missed : (core : Core C G) (T : List Item) (limit : ℕ) (event : Event) (k : ℕ) → Stands core T → fits limit T event ≡ true → names_child k (In event) ≡ true →
      ((c : ℕ) → has (children T c) k ≡ true → is_of c (children T c) (start_count T) (In event) ≡ true) → owner_by K K.last_child_of (conns core) k ≡ None → Missed core T event
  child_missed core T limit event k s f n is none =
      let o = s.lists.between.owned k (fits-started limit T event k s.lists.between f n) in
      record { c = o.owner; known = o.known; mine = is o.owner o.is; how = inr (k, n, none) }

  pub missed : (core : Core C G) (T : List Item) (limit : ℕ) (event : Event) → Stands core T → fits limit T event ≡ true → is_common (In event) ≡ false → HasNone core event → Missed core T event
  missed core T limit (ClientBytes d bytes) s f special none = conn_missed core T limit (ClientBytes d bytes) d s f (eq-eqb d d refl) (or_left _ _ (eq-eqb d d refl)) none
  missed core T limit (ClientEof d) s f special none = conn_missed core T limit (ClientEof d) d s f (eq-eqb d d refl) (or_left _ _ (eq-eqb d d refl)) none
  missed core T limit (ClientGone d) s f special none = conn_missed core T limit (ClientGone d) d s f (eq-eqb d d refl) (or_left _ _ (eq-eqb d d refl)) none
  missed core T limit (Wrote d n) s f special none = conn_missed core T limit (Wrote d n) d s f (eq-eqb d d refl) (or_left _ _ (eq-eqb d d refl)) none
  missed core T limit (WsText d bytes) s f special none = conn_missed core T limit (WsText d bytes) d s f (eq-eqb d d refl) (or_left _ _ (eq-eqb d d refl)) none
  missed core T limit (WsBinary d) s f special none = conn_missed core T limit (WsBinary d) d s f (eq-eqb d d refl) (or_left _ _ (eq-eqb d d refl)) none
  missed core T limit (WsClosed d) s f special none = conn_missed core T limit (WsClosed d) d s f (eq-eqb d d refl) (or_left _ _ (eq-eqb d d refl)) none
  missed core T limit (WsBad d) s f special none = conn_missed core T limit (WsBad d) d s f (eq-eqb d d refl) (or_left _ _ (eq-eqb d d refl)) none
  missed core T limit (NoRoom d) s f special none = conn_missed core T limit (NoRoom d) d s f (eq-eqb d d refl) (or_left _ _ (eq-eqb d d refl)) none
  missed core T limit (Started d) s f special none = child_missed core T limit (Started d) d s f (eq-eqb d d refl) (λ c h. h) none
  missed core T limit (StartFailed d) s f special none = child_missed core T limit (StartFailed d) d s f (eq-eqb d d refl) (λ c h. h) none
  missed core T limit (StartFull d seen) s f special none = child_missed core T limit (StartFull d seen) d s f (eq-eqb d d refl) (λ c h. h) none
  missed core T limit (ChildBytes d bytes) s f special none = child_missed core T limit (ChildBytes d bytes) d s f (eq-eqb d d refl) (λ c h. h) none
  missed core T limit (ChildEof d) s f special none = child_missed core T limit (ChildEof d) d s f (eq-eqb d d refl) (λ c h. h) none
  missed core T limit (ChildBroken d) s f special none = child_missed core T limit (ChildBroken d) d s f (eq-eqb d d refl) (λ c h. h) none
  missed core T limit (Took d n) s f special none = child_missed core T limit (Took d n) d s f (eq-eqb d d refl) (λ c h. h) none
  missed core T limit (InputGone d) s f special none = child_missed core T limit (InputGone d) d s f (eq-eqb d d refl) (λ c h. h) none
  missed core T limit (Exited d) s f special none = child_missed core T limit (Exited d) d s f (eq-eqb d d refl) (λ c h. h) none
  missed core T limit _ s f special none = absurd (false≢true (sym special))

  pub none_stands : (core : Core C G) (event : Event) (before : Option (List Item)) → Sound core → HasNone core event → is_common (In event) ≡ false →
      Steps core event before core before
  none_stands core event before sound none special T U s was f now =
      subst (λ W. Stands core W) (some_same (sym was ∙ now))
      (missed_stands core T event sound s special f (missed core T (served core).limits.children event s f special none))
    where
      some_same : {A : Type 0} {a b : A} → Some a ≡ Some b → a ≡ b
      some_same e = cc

  -- ---- a client that connects

  kept_slot : (site : Site) (T : List Item) (peer : Peer) (acts : List Act) → given (turns_away (accepted_count T)) acts ≡ 0 → nat_le site.limits.connections (slots_held T) ≡ false
      → is_slot_kept site T (Accepted peer) acts ≡ true
  kept_slot site T peer acts none room = eq-eqb _ _ (none ∙ sym (ap (λ b. once b) room))

  one_away : (b : Bool) → b ≡ true → count_by (λ (act : Act). b) (Shut 0 Full ∷ []) ≡ 1
  one_away true e = refl
  one_away false e = absurd (false≢true e)

  turned_away : (site : Site) (T : List Item) (peer : Peer) (c : ℕ) → c ≡ accepted_count T → nat_le site.limits.connections (slots_held T) ≡ true
      → is_slot_kept site T (Accepted peer) (Shut c Full ∷ []) ≡ true
  turned_away site T peer c is full =
      let one : given (turns_away (accepted_count T)) (Shut c Full ∷ []) ≡ 1 =
      one_away (turns_away (accepted_count T) (Out (Shut c Full))) (and_from _ _ (eq-eqb (accepted_count T) c (sym is)) refl) in
      eq-eqb _ _ (one ∙ sym (ap (λ b. once b) full))

  -- ---- a client that connects, and gets a slot

  pub accept_stands : (old added mid new : Core C G) (last : ℕ) (held : Bool) (peer : Peer) (before after : Option (List Item)) → Sound added →
      AddsOne old last added → ((T : List Item) → Stands old T → nat_le (served old).limits.connections (slots_held T) ≡ false) → Serves added last (Accepted peer) held mid before after → FreedAt mid last held new
      → Steps old (Accepted peer) before new after
  accept_stands old added mid new last held peer before after sound adds has_room sv fr T U s was f now =
      let room = has_room T s in
      let site = served old in
      let limit = site.limits.children in
      let xs = conns old in
      let ys = conns added in
      let x = sv.was in
      let V = T ++ In (Accepted peer) ∷ [] in
      let same_site : served added ≡ site = adds.site in
      let m = accepted_begins K laws site limit peer xs adds.conn T s.lists f (adds.number ∙ s.accepted) adds.stands in
      let m' : Mid K (λ j. j == length xs) site limit (Accepted peer) ys V = subst (λ zs. Mid K (λ j. j == length xs) site limit (Accepted peer) zs V) (sym adds.grown) m in
      let lt : last < length ys = (let e = ap length adds.grown in let l = length-append xs (adds.conn ∷ []) in omega (arith, e, l, adds.is_last)) in
      let t = turn_begins (λ j. j == length xs) last site (Accepted peer) ys T m' in
      let clock : old.clock ≡ last_secs V = s.clock ∙ sym (clock_more T (Accepted peer) refl) in
      let st = turn_step K laws site (λ j. j == length xs) (λ j. false) last added.children added.clock (Accepted peer) ys T V U x sv.now mid.children before after t sound.lists.rising lt sv.at
      sv.gives.number
      (eq-eqb last (length xs) adds.is_last) refl (λ j other. sym (ne_eqb j (length xs) (λ e. other (e ∙ sym adds.is_last)))) refl (sites_at sound sv ∙ same_site) sv.gives
      (adds.children ∙ (s.children ∙ sym (start_count-next T (In (Accepted peer))))) (adds.clock ∙ clock) was now in
      let all_hold : Each (λ y. K.needs y ≡ true) ys = subst (Each (λ y. K.needs y ≡ true)) (sym adds.grown) (All-push (λ y. K.needs y ≡ true) xs adds.conn s.held (fresh_holds K laws adds.conn adds.unshut)) in
      let items : conns new ≡ filter K.needs (set ys last sv.now) =
      fr.conns_then ∙ ((λ q. freed_conns (sv.held_is q) (sv.conns_then q) last) ∙ freed_is K ys last sv.now all_hold lt) in
      let lists = mid_ends K laws site (λ j. false) limit (Accepted peer) (set ys last sv.now) U st.turn.mid (λ j lt. refl) in
      let last_is : x ≡ adds.conn = sv.at ∙ (ap (λ (zs : List C). get_or zs last x) adds.grown ∙ get_or_at xs adds.conn [] x last (sym adds.is_last)) in
      let owner : owner_of_event T (Accepted peer) ≡ Some (K.number_of x) = ap Some (sym (ap K.number_of last_is ∙ (adds.number ∙ s.accepted))) in
      let new_site : served new ≡ site = fr.rest.site ∙ (sv.site ∙ same_site) in
      record {
        begun = begun_step T (Accepted peer) st.turn.acts U st.turn.grew s.begun;
        held = subst (Each (λ x. K.needs x ≡ true)) (sym items) (filter_passes K.needs (set ys last sv.now));
        lists = subst (λ q. Lists K q (conns new) U) (sym new_site) (subst (λ zs. Lists K site zs U) (sym items) (freed K laws site (set ys last sv.now) U lists));
        between = subst (λ q. AtEachStep (BetweenGood q) U) (sym new_site)
            (own_between K laws site (λ j. false) (last + 1) (Accepted peer) (set ys last sv.now) T U (K.number_of x) st.turn owner m.between
            (ap (λ acts. are_of (K.number_of x) (children V (K.number_of x)) (start_count V) acts) st.is ∙ st.alone)
            (kept_slot site T peer st.turn.acts (ap (given (turns_away (accepted_count T))) st.is ∙ sv.gives.stays (accepted_count T)) room) s.between);
        fit = subst (λ q. AtEachStep (HasFitting q) U) (sym new_site) (fit-more site T (Accepted peer) st.turn.acts U st.turn.grew f s.fit);
        accepted = fr.rest.accepted ∙ (sv.accepted ∙ (adds.accepted ∙ (ap (λ n. n + 1) s.accepted ∙ sym (st.accepted ∙ accepted_count-push T (In (Accepted peer))))));
        children = fr.rest.children ∙ st.count;
        stopped = fr.rest.stopped ∙ (sv.stopped ∙ (adds.stopped ∙ (s.stopped ∙ sym (ap stopped st.turn.grew ∙ (stopped-more T (Accepted peer) st.turn.acts ∙ or_nothing (stopped T))))));
        clock = fr.rest.clock ∙ (sv.clock ∙ (adds.clock ∙ (clock ∙ sym (ap last_secs st.turn.grew ∙ clock_acts T (Accepted peer) st.turn.acts))));
      }

  -- ---- a client that connects, and finds none

  -- one connection more, of which some state that needs no slot stands
  pub record AddsNone (old new : Core C G) : Type 0 where
    pub kept : conns new ≡ conns old
    pub site : served new ≡ served old
    pub accepted : new.accepted ≡ old.accepted + 1
    pub children : new.children ≡ old.children
    pub stopped : new.stopped ≡ old.stopped
    pub clock : new.clock ≡ old.clock

  pub full_stands : (old new : Core C G) (peer : Peer) (before after : Option (List Item)) → AddsNone old new → Adds before (Shut old.accepted Full ∷ []) after
      → ((T : List Item) → Stands old T → nat_le (served old).limits.connections (slots_held T) ≡ true) → 0 < length (conns old) → Steps old (Accepted peer) before new after
  full_stands old new peer before after adds told is_full some T U s was f now =
      let no_room = is_full T s in
      let site = served old in
      let limit = site.limits.children in
      let xs = conns old in
      let n = accepted_count T in
      let V = T ++ In (Accepted peer) ∷ [] in
      let acts = Shut old.accepted Full ∷ [] in
      let a = told U now in
      let front : a.was ≡ V = some_same (sym a.told ∙ was) in
      let grew : U ≡ V ++ map Out acts = a.grew ∙ ap (λ w. w ++ map Out acts) front in
      let b = between-nobody T (Accepted peer) s.lists.between (λ c. refl) (λ k. refl) in
      let count : accepted_count V ≡ n + 1 = accepted_count-push T (In (Accepted peer)) in
      let alone : are_of n (children V n) (start_count V) acts ≡ true = and_from _ _ (or_left _ _ (eq-eqb n old.accepted (sym s.accepted))) refl in
      let mv = moved acts V n b (omega (arith, count)) alone in
      let go : stopped T ≡ false = not-true (stopped T) f in
      let still : (e : ℕ) → e ≢ n → own (V ++ map Out acts) e ≡ own T e = λ e differ. mv.others e differ ∙ own-accepted_others T peer e differ in
      let ours : own (V ++ map Out acts) n ≡ own T n ++ In (Accepted peer) ∷ Out (Shut n Full) ∷ [] =
      mv.mine ∙ (ap (λ l. l ++ map Out acts) (own-accepted T peer) ∙ (append_assoc (own T n) (In (Accepted peer) ∷ []) (map Out acts)
      ∙ ap (λ (m : ℕ). own T n ++ In (Accepted peer) ∷ Out (Shut m Full) ∷ []) s.accepted)) in
      let lists : Lists K site xs (V ++ map Out acts) = record {
        live = λ j d lt.
            let differ : (K.number_of (get_or xs j d)) ≢ n = λ e. absurd (let h = s.lists.known j d lt in omega (arith, h, e)) in
            subst (λ l. K.stands site (get_or xs j d) l) (sym (still _ differ)) (s.lists.live j d lt);
        gone = λ e lt absent. elim (cases_eq e n) [
          | inl same ↦ subst (λ m. Gone K site m (own (V ++ map Out acts) m)) (sym same) (subst (λ l. Gone K site n l) (sym ours) (let one = some_at K laws (conns old) 0 some in laws.full site (get_or (conns old) 0 one.0) (own T (K.number_of (get_or (conns old) 0 one.0))) n (own T n) peer (s.lists.live 0 one.0 some) (s.lists.fresh n (omega arith) go)))
          | inr differ ↦ subst (λ l. Gone K site e l) (sym (still e differ)) (s.lists.gone e (omega (arith, lt, mv.accepted, count, differ)) absent)
        ];
        fresh = λ e le going.
            let differ : e ≢ n = λ is. absurd (omega (arith, le, mv.accepted, count, is)) in
            subst AreTicks (sym (still e differ)) (s.lists.fresh e (omega (arith, le, mv.accepted, count)) go);
        known = λ j d lt. let h = s.lists.known j d lt in omega (arith, h, mv.accepted, count);
        between = mv.between;
      } in
      let t : Turn K (λ j. false) (length xs) site (Accepted peer) xs T U = record {
        mid = subst (λ W. Mid K (λ j. false) site limit (Accepted peer) xs W) (sym grew)
            (record { each = λ j d lt. lists.live j d lt; gone = lists.gone; fresh = lists.fresh; known = lists.known; between = lists.between });
        acts = acts;
        grew = grew ∙ append_assoc T (In (Accepted peer) ∷ []) (map Out acts);
        high = n;
        order = mv.rises 0 (omega arith);
        later = λ j d le lt. absurd (omega (arith, le, lt));
      } in
      record {
        begun = begun_step T (Accepted peer) acts U t.grew s.begun;
        held = subst (Each (λ x. K.needs x ≡ true)) (sym adds.kept) s.held;
        lists = subst (λ q. Lists K q (conns new) U) (sym adds.site) (subst (λ ys. Lists K site ys U) (sym adds.kept) (subst (Lists K site xs) (sym grew) lists));
        between = subst (λ q. AtEachStep (BetweenGood q) U) (sym adds.site)
            (own_between K laws site (λ j. false) (length xs) (Accepted peer) xs T U n t refl b alone (turned_away site T peer old.accepted s.accepted no_room) s.between);
        fit = subst (λ q. AtEachStep (HasFitting q) U) (sym adds.site) (fit-more site T (Accepted peer) acts U t.grew f s.fit);
        accepted = adds.accepted ∙ (ap (λ n. n + 1) s.accepted ∙ sym (ap accepted_count grew ∙ (mv.accepted ∙ count)));
        children = adds.children ∙ (s.children ∙ sym (ap start_count grew ∙ (mv.count ∙ start_count-next T (In (Accepted peer)))));
        stopped = adds.stopped ∙ (s.stopped ∙ sym (ap stopped t.grew ∙ (stopped-more T (Accepted peer) acts ∙ or_nothing (stopped T))));
        clock = adds.clock ∙ (s.clock ∙ sym (ap last_secs t.grew ∙ (clock_acts T (Accepted peer) acts ∙ clock_more T (Accepted peer) refl)));
      }
    where
      some_same : {A : Type 0} {a b : A} → Some a ≡ Some b → a ≡ b
      some_same e = cc

  -- ---- a Tick or a Stop, which all hear

  -- steps of connections leave these
  pub record AsNoted (noted now : Core C G) : Type 0 where
    pub site : served now ≡ served noted
    pub accepted : now.accepted ≡ noted.accepted
    pub stopped : now.stopped ≡ noted.stopped
    pub clock : now.clock ≡ noted.clock

  -- those before place i have made their step
  pub record AllBy (start : Core C G) (now : Core C G) (i : ℕ) (event : Event) (T V : List Item) : Type 0 where
    pub turn : Turn K (λ j. leb i j) i (served start) event (conns now) T V
    pub count : now.children ≡ start_count V
    pub accepted_then : accepted_count V ≡ accepted_count T

  pub record All (start now : Core C G) (i : ℕ) (event : Event) (before after : Option (List Item)) : Type 0 where
    pub turn : (T V : List Item) → Stands start T → before ≡ Some (T ++ In event ∷ []) → fits (served start).limits.children T event ≡ true → after ≡ Some V → AllBy start now i event T V

  some_same : {A : Type 0} {a b : A} → Some a ≡ Some b → a ≡ b
  some_same e = cc

  all_by : (start noted : Core C G) (secs : Option ℕ) (T : List Item) → Noted start noted (common_event secs) → Stands start T → fits (served start).limits.children T (common_event secs) ≡ true
      → AllBy start noted 0 (common_event secs) T (T ++ In (common_event secs) ∷ [])
  all_by start noted None T n s f = record {
    turn = subst (λ zs. Turn K (λ j. leb 0 j) 0 (served start) Stop zs T (T ++ In Stop ∷ [])) (sym n.kept)
        (turn_begins (λ j. leb 0 j) 0 (served start) Stop (conns start) T (stop_begins K laws (served start) (served start).limits.children (conns start) T s.lists f));
    count = n.children ∙ (s.children ∙ sym (start_count-next T (In Stop)));
    accepted_then = accepted_count-same T (In Stop) refl;
  }
  all_by start noted (Some secs) T n s f = record {
    turn = subst (λ zs. Turn K (λ j. leb 0 j) 0 (served start) (Tick secs) zs T (T ++ In (Tick secs) ∷ [])) (sym n.kept)
        (turn_begins (λ j. leb 0 j) 0 (served start) (Tick secs) (conns start) T (tick_begins K laws (served start) (served start).limits.children secs (conns start) T s.lists f));
    count = n.children ∙ (s.children ∙ sym (start_count-next T (In (Tick secs))));
    accepted_then = accepted_count-same T (In (Tick secs)) refl;
  }

  pub all_begins : (start noted : Core C G) (secs : Option ℕ) (before : Option (List Item)) → Noted start noted (common_event secs) → All start noted 0 (common_event secs) before before
  all_begins start noted secs before n = record {
    turn = λ T V s was f now. subst (λ W. AllBy start noted 0 (common_event secs) T W) (some_same (sym was ∙ now)) (all_by start noted secs T n s f);
  }

  pub is_everybody : (secs : Option ℕ) → is_common (In (common_event secs)) ≡ true
  is_everybody None = refl
  is_everybody (Some secs) = refl

  of_all : (secs : Option ℕ) (T : List Item) → owner_of_event T (common_event secs) ≡ None
  of_all None T = refl
  of_all (Some secs) T = refl

  none_accepted : (secs : Option ℕ) → is_accepted (In (common_event secs)) ≡ false
  none_accepted None = refl
  none_accepted (Some secs) = refl

  common_heard : (secs : Option ℕ) (T : List Item) → Between T → Between (T ++ In (common_event secs) ∷ [])
  common_heard None T b = (heard_by_all-stop T b).between
  common_heard (Some secs) T b = (heard_by_all-tick T secs b).between

  next_place : (i j : ℕ) → j ≢ i → leb (i + 1) j ≡ leb i j
  next_place i j other = elim (cases_lt i j) [
    | inl more ↦ le-leb (i + 1) j (omega arith) ∙ sym (le-leb i j (omega arith))
    | inr less ↦ (let h : j < i = omega arith in lt-leb (i + 1) j (omega arith) ∙ sym (lt-leb i j h))
  ]

  -- the connection at place i has made its step
  pub all_step : (start noted now later : Core C G) (i : ℕ) (secs : Option ℕ) (held : Bool) (before mid after : Option (List Item)) → Noted start noted (common_event secs) → now.clock ≡ noted.clock → served now ≡ served start
      → All start now i (common_event secs) before mid → Sound now → i < length (conns now) → Serves now i (common_event secs) held later mid after
      → All start later (i + 1) (common_event secs) before after
  all_step start noted now later i secs held before mid after n same now_site all sound lt sv = record {
    turn = λ T U s was f told.
        let event = common_event secs in
        let a = sv.gives.added U told in
        let r = all.turn T a.was s was f a.told in
        let clock : now.clock ≡ last_secs a.was = same ∙ (n.clock T s.clock ∙ sym (ap last_secs r.turn.grew ∙ clock_acts T event r.turn.acts)) in
        let st = turn_step K laws (served start) (λ j. leb i j) (λ j. leb (i + 1) j) i now.children now.clock event (conns now) T a.was U sv.was sv.now later.children mid after r.turn sound.lists.rising lt sv.at
        sv.gives.number
        (le-leb i i (omega arith)) (lt-leb (i + 1) i (omega arith)) (λ j other. next_place i j other) (or_left _ _ (is_everybody secs)) (sites_at sound sv ∙ now_site) sv.gives r.count clock a.told told in
        record {
          turn = subst (λ xs. Turn K (λ j. leb (i + 1) j) (i + 1) (served start) event xs T U) (sym sv.conns_then) st.turn;
          count = st.count;
          accepted_then = st.accepted ∙ r.accepted_then;
        };
  }

  pub all_ends : (start noted now new : Core C G) (i : ℕ) (secs : Option ℕ) (before after : Option (List Item)) → Noted start noted (common_event secs) → All start now i (common_event secs) before after
      → i ≡ length (conns now) → AsNoted noted now → conns new ≡ filter K.needs (conns now) → IsRest now new → Steps start (common_event secs) before new after
  all_ends start noted now new i secs before after n all end same kept rest T U s was f told =
      let site = served start in
      let event = common_event secs in
      let r = all.turn T U s was f told in
      let lists = mid_ends K laws site (λ j. leb i j) site.limits.children event (conns now) U r.turn.mid (λ j lt. lt-leb i j (omega (arith, lt, end))) in
      let new_site : served new ≡ site = rest.site ∙ (same.site ∙ n.site) in
      record {
        begun = begun_step T event r.turn.acts U r.turn.grew s.begun;
        held = subst (Each (λ x. K.needs x ≡ true)) (sym kept) (filter_passes K.needs (conns now));
        lists = subst (λ q. Lists K q (conns new) U) (sym new_site) (subst (λ xs. Lists K site xs U) (sym kept) (freed K laws site (conns now) U lists));
        between = subst (λ q. AtEachStep (BetweenGood q) U) (sym new_site) (common_between K laws site (λ j. leb i j) i event (conns now) T U r.turn (of_all secs T) (none_accepted secs) (common_heard secs T s.lists.between) s.between);
        fit = subst (λ q. AtEachStep (HasFitting q) U) (sym new_site) (fit-more site T event r.turn.acts U r.turn.grew f s.fit);
        accepted = rest.accepted ∙ (same.accepted ∙ (n.accepted ∙ (s.accepted ∙ sym r.accepted_then)));
        children = rest.children ∙ r.count;
        stopped = rest.stopped ∙ (same.stopped ∙ (n.stopped ∙ (ap (λ b. b || is_stop (In event)) s.stopped ∙ sym (ap stopped r.turn.grew ∙ stopped-more T event r.turn.acts))));
        clock = rest.clock ∙ (same.clock ∙ (n.clock T s.clock ∙ sym (ap last_secs r.turn.grew ∙ clock_acts T event r.turn.acts)));
      }

  -- ---- what is told

  pub adds_none : (before : Option (List Item)) → AddsActs before before
  adds_none before now told = ([], record { was = now; told = told; grew = sym (append-nil now) })

  pub adds_more : (a b c : Option (List Item)) → AddsActs a b → (acts : List Act) → Adds b acts c → AddsActs a c
  adds_more a b c f acts g now told =
      let two = g now told in
      let one = f two.was two.told in (
        one.0 ++ acts,
        record {
          was = one.1.was;
          told = one.1.told;
          grew = two.grew ∙ (ap (λ items. items ++ map Out acts) one.1.grew ∙ (append_assoc one.1.was (map Out one.0) (map Out acts) ∙ ap (λ l. one.1.was ++ l) (sym (map-append Out one.0 acts))));
        },
      )

  -- ---- an event that may not come

  for_named : (core : Core C G) (c i : ℕ) (event : Event) → IsAtPlace K (conns core) c i → names c (In event) ≡ true → (d : C) → IsFor K (get_or (conns core) i d) event
  for_named core c i event at n d = inl (ap (λ (m : ℕ). names m (In event)) (at.is d) ∙ n)

  for_child : (core : Core C G) (k i : ℕ) (event : Event) → (i < length (conns core)) × ((d : C) → is_child (K.last_child_of (get_or (conns core) i d)) k ≡ true) → names_child k (In event) ≡ true
      → (d : C) → IsFor K (get_or (conns core) i d) event
  for_child core k i event at n d = inr (k, n, at.1 d)

  same : (n : ℕ) → (n == n) ≡ true
  same n = eq-eqb n n refl

  pub for_place : (core : Core C G) (i : ℕ) (event : Event) → IsPlace core event i → (d : C) → IsFor K (get_or (conns core) i d) event
  for_place core i (ClientBytes c bytes) p = for_named core c i (ClientBytes c bytes) p (same c)
  for_place core i (ClientEof c) p = for_named core c i (ClientEof c) p (same c)
  for_place core i (ClientGone c) p = for_named core c i (ClientGone c) p (same c)
  for_place core i (Wrote c n) p = for_named core c i (Wrote c n) p (same c)
  for_place core i (WsText c bytes) p = for_named core c i (WsText c bytes) p (same c)
  for_place core i (WsBinary c) p = for_named core c i (WsBinary c) p (same c)
  for_place core i (WsClosed c) p = for_named core c i (WsClosed c) p (same c)
  for_place core i (WsBad c) p = for_named core c i (WsBad c) p (same c)
  for_place core i (NoRoom c) p = for_named core c i (NoRoom c) p (same c)
  for_place core i (Started k) p = for_child core k i (Started k) p (same k)
  for_place core i (StartFailed k) p = for_child core k i (StartFailed k) p (same k)
  for_place core i (StartFull k seen) p = for_child core k i (StartFull k seen) p (same k)
  for_place core i (ChildBytes k bytes) p = for_child core k i (ChildBytes k bytes) p (same k)
  for_place core i (ChildEof k) p = for_child core k i (ChildEof k) p (same k)
  for_place core i (ChildBroken k) p = for_child core k i (ChildBroken k) p (same k)
  for_place core i (Took k n) p = for_child core k i (Took k n) p (same k)
  for_place core i (InputGone k) p = for_child core k i (InputGone k) p (same k)
  for_place core i (Exited k) p = for_child core k i (Exited k) p (same k)
  for_place core i _ p = absurd p

  -- the connection at the place says whether it may
  pub fit_is : (core : Core C G) (T : List Item) (i : ℕ) (event : Event) (d : C) → Stands core T → IsPlace core event i → is_common (In event) ≡ false
      → K.fits_conn (get_or (conns core) i d) event ≡ fits (served core).limits.children T event
  fit_is core T i event d s p special =
      let x = get_or (conns core) i d in
      let fd = found core T i event s p in
      laws.fits_is (served core) x (own T (K.number_of x)) event (s.lists.live i d fd.within) (for_place core i event p d)
      ∙ fits_same K laws (served core).limits.children T (K.number_of x) event s.lists.between special (fd.mine d)

  pub unfit_stands : (core : Core C G) (i : ℕ) (event : Event) (x : C) (before : Option (List Item)) → IsPlace core event i → is_common (In event) ≡ false
      → x ≡ get_or (conns core) i x → K.fits_conn x event ≡ false → Steps core event before core before
  unfit_stands core i event x before place special at unfit T U s was f now =
      absurd (false≢true (sym unfit ∙ (ap (λ (y : C). K.fits_conn y event) at ∙ (fit_is core T i event x s place special ∙ f))))

  pub fit_ignores : (core new : Core C G) (i : ℕ) (event : Event) (x : C) (before after : Option (List Item)) → IsPlace core event i → is_common (In event) ≡ false
      → x ≡ get_or (conns core) i x → K.fits_conn x event ≡ true → Ignores core event before new after
  fit_ignores core new i event x before after place special at fit T s unfit =
      absurd (false≢true (sym unfit ∙ (sym (fit_is core T i event x s place special) ∙ (ap (λ (y : C). K.fits_conn y event) (sym at) ∙ fit))))
