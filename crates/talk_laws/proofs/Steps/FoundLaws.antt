-- A step for which memory is found.
use Rattle.std.proofs.Common.{◌≡◌, ◌≤◌, ℕ, Bool, true, false, not, ◌&&◌, ◌||◌, ◌++◌, ◌==◌, nat_le, List, [], ◌∷◌, map, Option, Some, None, refl, sym, ap, ◌∙◌, subst, append_assoc, if◌then◌else◌}
use Rattle.std.specs.List.{list_any}
use Rattle.std.proofs.lemmas.Bool.{eq-eqb, false≢true, not-true, or_left}
use Rattle.std.proofs.lemmas.List.{map-append}
use Rattle.std.proofs.lemmas.List.Folds.{list_any-append}
use Rattle.host_base.specs.declared.site.Site.{Site}
use Rattle.host_trace.specs.declared.items.Act.{Act}
use Rattle.host_trace.specs.declared.items.Act.TheVariants.{Says, Shut}
use Rattle.host_trace.specs.declared.items.Event.{Event}
use Rattle.host_trace.specs.declared.items.Item.{Item}
use Rattle.host_trace.specs.declared.items.Item.TheVariants.{In, Out}
use Rattle.host_trace.specs.declared.items.Why.{Why}
use Rattle.host_trace.specs.declared.items.Why.TheVariants.{Done, Gone, NoMemory, Stopped}
use Rattle.host_trace.specs.Kinds.{is_accepted, is_no_room}
use Rattle.host_trace.specs.Projections.{client_wanted, stopped}
use Rattle.host_trace.specs.Trace.{after_step, step_of}
use Rattle.own_traces.specs.OwnFits.{fits_own}
use Rattle.trace_model.specs.Demands.{has_room as has_room_then, is_live as is_live_then}
use Rattle.trace_model.specs.Exchange.{Exchange, all_of, pushed}
use Rattle.trace_model.specs.Exchanges.{current}
use Rattle.trace_model.specs.Good.{StepGood}
use Rattle.trace_model.specs.Legs.{Leg}
use Rattle.trace_model.specs.Shuts.{is_gone}
use Rattle.trace_model.proofs.ExchangeLaws.{all_of-current}
use Rattle.child_core.specs.Calls.{wants_text}
use Rattle.child_core.specs.Due.{acted as run_acted, acting as run_acting, is_at_rest}
use Rattle.child_core.proofs.ActLaws.{acted-rest}
use Rattle.child_core.specs.View.{View as Run}
use Rattle.child_core.proofs.MemoryLaws.{acting-due}
use Rattle.conn_flags.specs.View.{View as Flags, has_room, is_live, noted}
use Rattle.conn_flags.specs.Form.{given_all}
use Rattle.conn_flags.specs.Knows.{KnowsFlags}
use Rattle.conn_flags.proofs.KnowsLaws.{events_admitted, known_next}
use Rattle.conn_laws.specs.Form.{SaysDemands}
use Rattle.conn_laws.proofs.FormLaws.{flags_say}
use Rattle.child_laws.specs.Laws.{with_acts}
use Rattle.child_laws.specs.Step.{served, waiting}
use Rattle.talk_core.specs.Acting.{acted, acting}
use Rattle.talk_core.specs.Hearing.{heard, run_heard}
use Rattle.talk_core.specs.View.{View as Talk}
use Rattle.talk_laws.specs.Deals.{TalkDeals}
use Rattle.talk_laws.specs.Rules.{why_at}
use Rattle.talk_laws.specs.Steps.{StepsOn, served_by, step_acts, tail_by, talk_after, talk_by}
use Rattle.talk_laws.specs.TalkIs.{TalkIs, TalkRests}
use Rattle.talk_laws.proofs.ActLaws.{AreSmall, path_small, talk_acts_move, child_acts_move, talk_small}
use Rattle.talk_laws.proofs.DealLaws.{talk_acts_deal}
use Rattle.talk_laws.proofs.GoodLaws.{talk_steps_are_good}
use Rattle.talk_laws.proofs.HearLaws.{events_keep_talks}
use Rattle.talk_laws.proofs.JoinLaws.{small_append}
use Rattle.talk_laws.proofs.ServeLaws.{child_acts_deal}
use Rattle.talk_laws.proofs.StepLaws.{talk_events_begin}
use Rattle.talk_laws.proofs.WhyLaws.{live_shut, why_none, why_some}
use Rattle.talk_conn.specs.declared.conn.TalkConn.{TalkConn}
use Rattle.talk_conn.specs.Parts.{acted_conn, asked_conn, heard_conn, is_ask_due, may_want, said_conn, shut_conn, why_of}
use Rattle.talk_conn.specs.View.{flags_of, number_of, run_of, site_of, talk_of}
use Rattle.talk_laws.specs.Stands.{IsGoodStep, TalkStands, Talks}
use Rattle.talk_laws.proofs.Steps.FreshLaws.{fresh_then}
use Rattle.talk_laws.proofs.Steps.FlagLaws.{acts_same, asked_room, ended_known, ended_of_conn, small_known}
use Rattle.talk_laws.proofs.Steps.TailLaws.{Ends, due_of, ended_conn, ends, reason, tail_of}

-- the step of an event, all of it found memory for
abbrev pub through : Event → TalkConn → TalkConn
through ev old = acted_conn true (said_conn true (heard_conn true ev old))

module _ (old : TalkConn) (L : List Item) (ev : Event) (next : ℕ) (s : TalkStands old L next) (t : Talks old L) (found : old.lost ≡ false) (fits : fits_own (site_of old).limits.children L ev ≡ true)
    (room : is_no_room (number_of old) (In ev) ≡ false) where
  abbrev site : Site
  site = site_of old

  abbrev c : ℕ
  c = number_of old

  abbrev e0 : Exchange
  e0 = current (site_of old) (number_of old) L

  abbrev t1 : Talk
  t1 = heard old.talk old.run ev

  abbrev v1 : Run
  v1 = run_heard old.talk old.run ev

  abbrev m1 : Flags
  m1 = noted old.flags (In ev)

  abbrev may : Bool
  may = may_want (said_conn true (heard_conn true ev old))

  abbrev v2 : Run
  v2 = run_acted (may_want (said_conn true (heard_conn true ev old))) (run_heard old.talk old.run ev)

  abbrev e1 : Exchange
  e1 = pushed (current (site_of old) (number_of old) L) (In ev)

  abbrev e2 : Exchange
  e2 = with_acts (pushed (current (site_of old) (number_of old) L) (In ev)) (acting (heard old.talk old.run ev))

  abbrev e3 : Exchange
  e3 = served_by (current (site_of old) (number_of old) L) ev old.talk old.run (may_want (said_conn true (heard_conn true ev old)))

  abbrev acts12 : List Act
  acts12 = acting (heard old.talk old.run ev) ++ run_acting (may_want (said_conn true (heard_conn true ev old))) (run_heard old.talk old.run ev)

  abbrev T : TalkConn
  T = through ev old

  abbrev L3 : List Item
  L3 = (L ++ In ev ∷ []) ++ map Out (acting (heard old.talk old.run ev) ++ run_acting (may_want (said_conn true (heard_conn true ev old))) (run_heard old.talk old.run ev))

  -- ---- the talk

  heard_first : TalkIs site c e1 t.legs t.continued t1 v1
  heard_first = events_keep_talks site c e0 t.legs t.continued old.talk old.run ev s.two t.talk t.rests (ap (λ (l : List Item). fits_own site.limits.children l ev) (all_of-current site c L) ∙ fits)

  said_then : TalkIs site c e2 t.legs t.continued (acted t1) v1
  said_then = talk_acts_move site c e1 t.legs t.continued t1 v1 s.two heard_first

  served_then : TalkIs site c e3 t.legs t.continued (acted t1) v2
  served_then = child_acts_move site c e2 t.legs t.continued may (acted t1) v1 s.two said_then

  dealt : TalkDeals site c L ev acts12 e3 [] (served may) next v2
  dealt =
      child_acts_deal site c L ev (acting t1) e2 [] next t.legs t.continued may (acted t1) v1 s.two said_then
      (talk_acts_deal site c L ev [] e1 [] waiting next t.legs t.continued t1 v1 s.two heard_first (talk_events_begin site c L ev t.legs t.continued old.talk old.run next s.two fits t.talk t.rests s.fresh))

  small : AreSmall acts12
  small = small_append (acting t1) (run_acting may v1) (talk_small t1) (path_small may v1 (run_acting may v1) (acting-due may v1).path)

  -- ---- the flags

  knows : KnowsFlags T.flags L3
  knows =
      subst (λ (m : Flags). KnowsFlags m L3) (acts_same may m1 t1 v1 heard_first.stands.talk.conn)
      (small_known m1 (L ++ In ev ∷ []) acts12 small (known_next old.flags L (In ev) s.flags (events_admitted site.limits.children old.flags L ev s.flags fits)))

  says : SaysDemands T.flags L3
  says = flags_say T.flags L3 knows

  accepted_then : (acts : List Act) → list_any is_accepted (after_step L ev acts) ≡ true
  accepted_then acts = list_any-append is_accepted L (In ev ∷ map Out acts) ∙ ap (λ (b : Bool). b || list_any is_accepted (In ev ∷ map Out acts)) s.accepted

  all_is : L3 ≡ after_step L ev acts12
  all_is = append_assoc L (In ev ∷ []) (map Out acts12)

  accepted_last : list_any is_accepted L3 ≡ true
  accepted_last = ap (list_any is_accepted) all_is ∙ accepted_then acts12

  unroomed : T.flags.no_room ≡ false
  unroomed = ap (λ (b : Bool). b || old.flags.no_room) room ∙ t.room

  no_room_then : list_any (is_no_room c) L3 ≡ false
  no_room_then = sym says.no_room_then ∙ unroomed

  why_then : (over : Bool) → why_at c L3 over ≡ (if T.flags.stopped then Some Stopped else (if T.flags.gone then Some Gone else (if over then Some Done else None)))
  why_then over =
      ap (λ (b : Bool). if not b then None else (if stopped L3 then Some Stopped else (if is_gone c L3 then Some Gone else (if list_any (is_no_room c) L3 then Some NoMemory else (if over then Some Done else None))))) accepted_last
      ∙ (ap (λ (b : Bool). if b then Some Stopped else (if is_gone c L3 then Some Gone else (if list_any (is_no_room c) L3 then Some NoMemory else (if over then Some Done else None)))) (sym says.stopped_then)
      ∙ (ap (λ (b : Bool). if T.flags.stopped then Some Stopped else (if b then Some Gone else (if list_any (is_no_room c) L3 then Some NoMemory else (if over then Some Done else None)))) (sym says.gone)
      ∙ ap (λ (b : Bool). if T.flags.stopped then Some Stopped else (if T.flags.gone then Some Gone else (if b then Some NoMemory else (if over then Some Done else None)))) no_room_then))

  why_same : why_at c (all_of e3) (acted t1).over ≡ reason T
  why_same = ap (λ (l : List Item). why_at c l (acted t1).over) dealt.items ∙ why_then (acted t1).over

  live_same : is_live_then c (all_of e3) ≡ is_live T.flags
  live_same = ap (is_live_then c) dealt.items ∙ sym says.live

  due_same : (has_room_then c (all_of e3) && wants_text v2 && not (client_wanted (all_of e3) c)) ≡ due_of T
  due_same =
      ap (λ (l : List Item). has_room_then c l && wants_text v2 && not (client_wanted l c)) dealt.items
      ∙ (ap (λ (b : Bool). b && wants_text v2 && not (client_wanted L3 c)) (sym says.room) ∙ ap (λ (b : Bool). has_room T.flags && wants_text v2 && not b) (sym says.asked))

  e : Ends T (is_live T.flags) (reason T) (due_of T)
  e = ends T found

  acts_are : step_acts c e0 ev old.talk old.run may ≡ acts12 ++ tail_of T
  acts_are =
      ap (λ (l : List Act). acts12 ++ l)
      (ap (λ (b : Bool). tail_by c b (why_at c (all_of e3) (acted t1).over) (has_room_then c (all_of e3) && wants_text v2 && not (client_wanted (all_of e3) c))) live_same
      ∙ (ap (λ (w : Option Why). tail_by c (is_live T.flags) w (has_room_then c (all_of e3) && wants_text v2 && not (client_wanted (all_of e3) c))) why_same
      ∙ (ap (λ (b : Bool). tail_by c (is_live T.flags) (reason T) b) due_same ∙ sym e.acts)))

  talk_is : talk_after c e0 ev old.talk old.run may ≡ (ended_conn T).talk
  talk_is =
      ap (λ (b : Bool). talk_by b (why_at c (all_of e3) (acted t1).over) (acted t1)) live_same
      ∙ (ap (λ (w : Option Why). talk_by (is_live T.flags) w (acted t1)) why_same ∙ sym e.talk)

  -- ---- the end

  known_last : KnowsFlags (ended_conn T).flags (after_step L ev (acts12 ++ tail_of T))
  known_last =
      subst (λ (l : List Item). KnowsFlags (ended_conn T).flags l)
      (append_assoc (L ++ In ev ∷ []) (map Out acts12) (map Out (tail_of T)) ∙ (ap (λ (l : List Item). (L ++ In ev ∷ []) ++ l) (sym (map-append Out acts12 (tail_of T))) ∙ append_assoc L (In ev ∷ []) (map Out (acts12 ++ tail_of T))))
      (ended_known T L3 knows)

  -- the child's output may be asked for exactly where not too much waits to be sent at the end
  room_last : (has_room T.flags || T.talk.over) ≡ has_room (ended_conn T).flags
  room_last = by_why (why_of T) refl
    where
      true_right : (b o : Bool) → o ≡ true → (b || o) ≡ true
      true_right true o e = refl
      true_right false o e = e

      false_right : (b o : Bool) → o ≡ false → (b || o) ≡ b
      false_right true o e = refl
      false_right false o e = e

      over_by : (why : Why) → why_of T ≡ Some why → T.talk.over ≡ true
      over_by why is =
          (why_some c (all_of e3) (acted t1).over why (why_same ∙ (sym (why_live (live_of why is)) ∙ is)) (ap (list_any (is_no_room c)) dealt.items ∙ no_room_then) served_then.parted).0
        where
          why_live : is_live T.flags ≡ true → why_of T ≡ reason T
          why_live live =
              ap (λ (b : Bool). if not b then None else (if T.lost then Some NoMemory else reason T)) live
              ∙ ap (λ (b : Bool). if b then Some NoMemory else reason T) found

          live_of : (why : Why) → why_of T ≡ Some why → is_live T.flags ≡ true
          live_of why w = go (is_live T.flags) refl w
            where
              go : (b : Bool) → is_live T.flags ≡ b → why_of T ≡ Some why → is_live T.flags ≡ true
              go true is_so x = is_so
              go false is_so x =
                  let none : why_of T ≡ None = ap (λ (b : Bool). if not b then None else (if T.lost then Some NoMemory else reason T)) is_so in
                  absurd (never (sym none ∙ x))
                where
                  never : None ≡ Some why → ⊥
                  never y = absurd (cc)

      asked_same : (b : Bool) → has_room (asked_conn b T).flags ≡ has_room T.flags
      asked_same true = asked_room T.flags
      asked_same false = refl

      by_why : (why : Option Why) → why_of T ≡ why → (has_room T.flags || T.talk.over) ≡ has_room (ended_conn T).flags
      by_why (Some why) is =
          true_right (has_room T.flags) T.talk.over (over_by why is)
          ∙ sym (ap (λ (w : Option Why). has_room (asked_conn (is_ask_due (shut_conn w T)) (shut_conn w T)).flags) is ∙ shut_room (is_ask_due (shut_conn (Some why) T)))
        where
          shut_room : (b : Bool) → has_room (asked_conn b (shut_conn (Some why) T)).flags ≡ true
          shut_room true = asked_room (shut_conn (Some why) T).flags ∙ or_left' (eq-eqb c c refl)
            where
              or_left' : (c == c) ≡ true → has_room (shut_conn (Some why) T).flags ≡ true
              or_left' x = ap (λ (b : Bool). (b || T.flags.shut) || nat_le (shut_conn (Some why) T).flags.pending 262144) x
          shut_room false = ap (λ (b : Bool). (b || T.flags.shut) || nat_le (shut_conn (Some why) T).flags.pending 262144) (eq-eqb c c refl)
      by_why None is =
          by_live (is_live T.flags) refl
          ∙ sym (ap (λ (w : Option Why). has_room (asked_conn (is_ask_due (shut_conn w T)) (shut_conn w T)).flags) is ∙ asked_same (is_ask_due T))
        where
          by_live : (b : Bool) → is_live T.flags ≡ b → (has_room T.flags || T.talk.over) ≡ has_room T.flags
          by_live true live =
              let why_live : why_of T ≡ reason T =
              ap (λ (b : Bool). if not b then None else (if T.lost then Some NoMemory else reason T)) live ∙ ap (λ (b : Bool). if b then Some NoMemory else reason T) found in
              false_right (has_room T.flags) T.talk.over
              (why_none c (all_of e3) (acted t1).over (why_same ∙ (sym why_live ∙ is)) (ap (list_any is_accepted) dealt.items ∙ accepted_last)).0
          by_live false dead =
              let shut_then : T.flags.shut ≡ true = live_shut T.flags.accepted T.flags.shut (knows.accepted ∙ accepted_last) dead in
              let roomy : has_room T.flags ≡ true = ap (λ (b : Bool). b || nat_le T.flags.pending 262144) shut_then in
              ap (λ (b : Bool). b || T.talk.over) roomy ∙ sym roomy

  on : StepsOn site c L ev t.legs t.continued (step_acts c e0 ev old.talk old.run may) (talk_after c e0 ev old.talk old.run may) v2
  on =
      talk_steps_are_good site c L ev t.legs t.continued old.talk old.run may next s.two t.talk t.rests fits s.fresh s.accepted
      (list_any-append (is_no_room c) L (In ev ∷ []) ∙ (ap (λ (b : Bool). b || (is_no_room c (In ev) || false)) (sym s.flags.no_room ∙ t.room) ∙ ap (λ (b : Bool). b || false) room))
      (room_last ∙ ((flags_say (ended_conn T).flags (after_step L ev (acts12 ++ tail_of T)) known_last).room
      ∙ (ap (λ (k : ℕ). has_room_then k (after_step L ev (acts12 ++ tail_of T))) e.number ∙ ap (λ (l : List Act). has_room_then c (after_step L ev l)) (sym acts_are))))

  pub is_good : IsGoodStep old (ended_conn T) L ev (acts12 ++ tail_of T) next
  is_good = record {
    good = subst (λ (l : List Act). StepGood site c (step_of L ev l)) acts_are on.good;
    site = e.site;
    number = e.number;
    stands = record {
      two = subst (λ (x : Site). 2 ≤ x.limits.head) (sym e.site) s.two;
      flags = known_last;
      accepted = accepted_then (acts12 ++ tail_of T);
      fresh = fresh_then L ev acts12 (tail_of T) e3 next dealt.items dealt.fresh (ended_of_conn T);
      even = subst (λ (r : Run). is_at_rest (has_room (flags_of (ended_conn T))) r ≡ true) (sym e.run)
          (subst (λ (b : Bool). is_at_rest b v2 ≡ true) room_last (acted-rest (may_want (said_conn true (heard_conn true ev old))) v1));
      found = λ still. record { legs = t.legs; continued = t.continued; talk = talk_last; rests = rests_last; room = unroomed_last };
      lost = λ lost. absurd (false≢true (sym found ∙ (sym e.lost ∙ lost)));
    };
  }
    where
      talk_here : TalkIs site c (current site c (after_step L ev (acts12 ++ tail_of T))) t.legs t.continued (ended_conn T).talk v2
      talk_here =
          subst (λ (x : Talk). TalkIs site c (current site c (after_step L ev (acts12 ++ tail_of T))) t.legs t.continued x v2) talk_is
          (subst (λ (l : List Act). TalkIs site c (current site c (after_step L ev l)) t.legs t.continued (talk_after c e0 ev old.talk old.run may) v2) acts_are on.talk)

      rests_here : TalkRests c (current site c (after_step L ev (acts12 ++ tail_of T))) (ended_conn T).talk v2
      rests_here =
          subst (λ (x : Talk). TalkRests c (current site c (after_step L ev (acts12 ++ tail_of T))) x v2) talk_is
          (subst (λ (l : List Act). TalkRests c (current site c (after_step L ev l)) (talk_after c e0 ev old.talk old.run may) v2) acts_are on.rests)

      talk_last : TalkIs (site_of (ended_conn T)) (number_of (ended_conn T)) (current (site_of (ended_conn T)) (number_of (ended_conn T)) (after_step L ev (acts12 ++ tail_of T))) t.legs t.continued (talk_of (ended_conn T)) (run_of (ended_conn T))
      talk_last =
          subst (λ (r : Run). TalkIs (site_of (ended_conn T)) (number_of (ended_conn T)) (current (site_of (ended_conn T)) (number_of (ended_conn T)) (after_step L ev (acts12 ++ tail_of T))) t.legs t.continued (ended_conn T).talk r) (sym e.run)
          (subst (λ (k : ℕ). TalkIs (site_of (ended_conn T)) k (current (site_of (ended_conn T)) k (after_step L ev (acts12 ++ tail_of T))) t.legs t.continued (ended_conn T).talk v2) (sym e.number)
          (subst (λ (x : Site). TalkIs x c (current x c (after_step L ev (acts12 ++ tail_of T))) t.legs t.continued (ended_conn T).talk v2) (sym e.site) talk_here))

      rests_last : TalkRests (number_of (ended_conn T)) (current (site_of (ended_conn T)) (number_of (ended_conn T)) (after_step L ev (acts12 ++ tail_of T))) (talk_of (ended_conn T)) (run_of (ended_conn T))
      rests_last =
          subst (λ (r : Run). TalkRests (number_of (ended_conn T)) (current (site_of (ended_conn T)) (number_of (ended_conn T)) (after_step L ev (acts12 ++ tail_of T))) (ended_conn T).talk r) (sym e.run)
          (subst (λ (k : ℕ). TalkRests k (current (site_of (ended_conn T)) k (after_step L ev (acts12 ++ tail_of T))) (ended_conn T).talk v2) (sym e.number)
          (subst (λ (x : Site). TalkRests c (current x c (after_step L ev (acts12 ++ tail_of T))) (ended_conn T).talk v2) (sym e.site) rests_here))

      unroomed_last : (flags_of (ended_conn T)).no_room ≡ false
      unroomed_last = by_ask (why_of T)
        where
          asks : (b : Bool) (conn : TalkConn) → (asked_conn b conn).flags.no_room ≡ conn.flags.no_room
          asks true conn = refl
          asks false conn = refl

          by_ask : (why : Option Why) → (asked_conn (is_ask_due (shut_conn why T)) (shut_conn why T)).flags.no_room ≡ false
          by_ask None = asks (is_ask_due T) T ∙ unroomed
          by_ask (Some why) = asks (is_ask_due (shut_conn (Some why) T)) (shut_conn (Some why) T) ∙ unroomed
