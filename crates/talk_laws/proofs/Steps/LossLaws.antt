-- A step for which memory runs out.
use Rattle.std.proofs.Common.{◌≡◌, ◌≤◌, ℕ, Bool, true, false, not, ◌&&◌, ◌||◌, ◌==◌, ◌++◌, List, [], ◌∷◌, map, Option, Some, None, is_some, refl, sym, ap, ◌∙◌, subst, append_assoc, if◌then◌else◌}
use Rattle.std.specs.List.{list_any}
use Rattle.std.proofs.lemmas.Bool.{and_from, and_parts, eqb-true, false≢true, not-true}
use Rattle.std.proofs.lemmas.List.{map-append}
use Rattle.std.proofs.lemmas.List.Folds.{list_any-append}
use Rattle.host_base.specs.declared.site.Site.{Site}
use Rattle.host_trace.specs.declared.items.Act.{Act}
use Rattle.host_trace.specs.declared.items.Act.TheVariants.{Shut}
use Rattle.host_trace.specs.declared.items.Event.{Event}
use Rattle.host_trace.specs.declared.items.Event.TheVariants as Heard
use Rattle.host_trace.specs.declared.items.Item.{Item}
use Rattle.host_trace.specs.declared.items.Item.TheVariants.{In, Out}
use Rattle.host_trace.specs.declared.items.Why.{Why}
use Rattle.host_trace.specs.declared.items.Why.TheVariants.{NoMemory}
use Rattle.host_trace.specs.Kinds.{is_accepted, is_no_room, is_shut, names_child}
use Rattle.host_trace.specs.Projections.{shut, shut_for_memory}
use Rattle.host_trace.specs.Trace.{after_step, step_of}
use Rattle.own_traces.specs.OwnFits.{fits_own}
use Rattle.trace_model.specs.Exchange.{Exchange, all_of, pushed}
use Rattle.trace_model.specs.Exchanges.{current}
use Rattle.trace_model.specs.Good.{StepGood}
use Rattle.trace_model.specs.Legs.{Leg}
use Rattle.trace_model.proofs.ExchangeLaws.{all_of-current}
use Rattle.child_core.specs.Calls.{ended}
use Rattle.child_core.specs.declared.ending.Ending.TheVariants.{Dropped}
use Rattle.child_core.specs.Due.{acted as run_acted, acting as run_acting, is_at_rest}
use Rattle.child_core.proofs.ActLaws.{acted-rest}
use Rattle.child_laws.proofs.DealtLaws.{decided_rests}
use Rattle.child_core.specs.View.{View as Run}
use Rattle.child_core.proofs.MemoryLaws.{acting-due}
use Rattle.conn_flags.specs.View.{View as Flags, has_room, is_live, noted}
use Rattle.conn_flags.specs.Form.{given_all}
use Rattle.conn_flags.specs.Knows.{KnowsFlags}
use Rattle.conn_flags.proofs.KnowsLaws.{events_admitted, known_next}
use Rattle.conn_laws.specs.Form.{SaysDemands}
use Rattle.conn_laws.proofs.FormLaws.{flags_say}
use Rattle.child_laws.specs.Laws.{with_acts}
use Rattle.child_laws.specs.Step.{served, waiting}
use Rattle.talk_core.specs.Acting.{acted, acting}
use Rattle.talk_core.specs.Hearing.{heard, run_heard, takes_memory}
use Rattle.talk_core.specs.View.{View as Talk, given_up}
use Rattle.talk_laws.specs.Deals.{TalkDeals}
use Rattle.talk_laws.specs.LostSteps.{LosesOn, lost_acts, saying_by}
use Rattle.talk_laws.specs.TalkIs.{TalkIs, TalkLostIs}
use Rattle.talk_laws.proofs.ActLaws.{AreSmall, path_small, small_quiet, talk_acts_move, talk_small}
use Rattle.talk_laws.proofs.DealLaws.{talk_acts_deal}
use Rattle.talk_laws.proofs.HearLaws.{events_keep_talks, shut_within}
use Rattle.talk_laws.proofs.JoinLaws.{small_append}
use Rattle.talk_laws.proofs.LossLaws.{loss_steps_are_good}
use Rattle.talk_laws.proofs.LostLaws.{losses_move}
use Rattle.talk_laws.proofs.ServeLaws.{losses_deal, lost_acts_deal}
use Rattle.talk_laws.proofs.StepLaws.{talk_events_begin}
use Rattle.talk_conn.specs.declared.conn.TalkConn.{TalkConn}
use Rattle.talk_conn.specs.Parts.{acts_asked, acts_shut, asked_conn, is_ask_due, shut_conn, why_of}
use Rattle.talk_conn.specs.View.{flags_of, number_of, run_of, site_of, talk_of}
use Rattle.talk_laws.specs.Stands.{IsGoodStep, TalkStands, Talks, TalksNoMore}
use Rattle.talk_laws.proofs.Steps.FreshLaws.{fresh_then}
use Rattle.talk_laws.proofs.Steps.FlagLaws.{ended_known, ended_of_conn, small_known}
use Rattle.talk_laws.proofs.Steps.TailLaws.{ended_conn, reason, shut_unasked, tail_of}

-- ---- the event comes to a connection that is not shut

pub going_takes : (t : Talk) (ev : Event) → takes_memory t ev ≡ true → t.over ≡ false
going_takes t (Heard.WsText d bytes) is = not-true t.over (and_parts (not t.over) (t.conn == d) is).0
going_takes t (Heard.ChildBytes d bytes) is = not-true t.over (and_parts (not t.over) (t.child == d) is).0
going_takes t (Heard.ChildEof d) is = not-true t.over (and_parts (not t.over) (t.child == d) is).0
going_takes t ev is = absurd (false≢true is)

pub unroomed_open : (limit : ℕ) (L : List Item) (c : ℕ) (ev : Event) → is_no_room c (In ev) ≡ true → fits_own limit L ev ≡ true → shut L c ≡ false
unroomed_open limit L c (Heard.NoRoom d) is fits =
    let same : c ≡ d = eqb-true c d is in
    ap (shut L) same ∙ not-true (shut L d) (and_parts (list_any is_accepted L) (not (shut L d)) fits).1
unroomed_open limit L c ev is fits = absurd (false≢true is)

pub or_cases : (a b : Bool) (P : Type 0) → (a ≡ true → P) → (b ≡ true → P) → (a || b) ≡ true → P
or_cases true b P f g is = f refl
or_cases false b P f g is = g is

small_unshut : (c : ℕ) (acts : List Act) → AreSmall acts → list_any (is_shut c) (map Out acts) ≡ false
small_unshut c [] small = refl
small_unshut c (act ∷ acts) small = ap (λ (b : Bool). b || list_any (is_shut c) (map Out acts)) (small_quiet c act small.0).unshut ∙ small_unshut c acts small.1

-- what stands before the Shut, and by which exchange
record Before (site : Site) (c : ℕ) (L : List Item) (ev : Event) (next : ℕ) (acts : List Act) : Type 0 where
  last : Exchange
  items : all_of last ≡ (L ++ In ev ∷ []) ++ map Out acts
  fresh : (k : ℕ) → next ≤ k → list_any (names_child k) (all_of last) ≡ false

module _ (old : TalkConn) (L : List Item) (ev : Event) (next : ℕ) (s : TalkStands old L next) (t : Talks old L) (found : old.lost ≡ false) (fits : fits_own (site_of old).limits.children L ev ≡ true)
    (takes : (takes_memory old.talk ev || is_no_room (number_of old) (In ev)) ≡ true) where
  abbrev site : Site
  site = site_of old

  abbrev c : ℕ
  c = number_of old

  abbrev e0 : Exchange
  e0 = current (site_of old) (number_of old) L

  abbrev t1 : Talk
  t1 = heard old.talk old.run ev

  abbrev v1 : Run
  v1 = run_heard old.talk old.run ev

  abbrev h1 : Run
  h1 = ended (run_heard old.talk old.run ev) Dropped

  abbrev e1 : Exchange
  e1 = pushed (current (site_of old) (number_of old) L) (In ev)

  open_before : shut L c ≡ false
  open_before = or_cases (takes_memory old.talk ev) (is_no_room c (In ev)) (shut L c ≡ false) by_talk (λ is. unroomed_open site.limits.children L c ev is fits) takes
    where
      by_talk : takes_memory old.talk ev ≡ true → shut L c ≡ false
      by_talk is = go (shut L c) refl
        where
          go : (b : Bool) → shut L c ≡ b → shut L c ≡ false
          go false is_so = is_so
          go true is_so =
              let inner : shut e0.items c ≡ true = sym (shut_within site c e0 t.legs t.continued old.run.number t.talk.spoken) ∙ (ap (λ (l : List Item). shut l c) (all_of-current site c L) ∙ is_so) in
              absurd (false≢true (sym (going_takes old.talk ev is) ∙ t.talk.stands.talk.shut_over inner))

  heard_first : TalkIs site c e1 t.legs t.continued t1 v1
  heard_first = events_keep_talks site c e0 t.legs t.continued old.talk old.run ev s.two t.talk t.rests (ap (λ (l : List Item). fits_own site.limits.children l ev) (all_of-current site c L) ∙ fits)

  begun_deal : TalkDeals site c L ev [] e1 [] waiting next v1
  begun_deal = talk_events_begin site c L ev t.legs t.continued old.talk old.run next s.two fits t.talk t.rests s.fresh

  before : (said may : Bool) → Before site c L ev next (acting (saying_by said t1) ++ run_acting may h1)
  before true may =
      let said_then : TalkIs site c (with_acts e1 (acting t1)) t.legs t.continued (acted t1) v1 = talk_acts_move site c e1 t.legs t.continued t1 v1 s.two heard_first in
      let deal = talk_acts_deal site c L ev [] e1 [] waiting next t.legs t.continued t1 v1 s.two heard_first begun_deal in
      let lost = losses_move site c (with_acts e1 (acting t1)) t.legs t.continued (acted t1) v1 said_then in
      let last = lost_acts_deal site c L ev (acting t1) (with_acts e1 (acting t1)) [] next t.legs t.continued true may h1 s.two lost
      (losses_deal site c L ev (acting t1) (with_acts e1 (acting t1)) [] waiting next t.legs t.continued (acted t1) v1 refl said_then deal) in
      record { last = with_acts (with_acts e1 (acting t1)) (run_acting may h1); items = last.items; fresh = last.fresh }
  before false may =
      let lost = losses_move site c e1 t.legs t.continued t1 v1 heard_first in
      let last = lost_acts_deal site c L ev [] e1 [] next t.legs t.continued true may h1 s.two lost
      (losses_deal site c L ev [] e1 [] waiting next t.legs t.continued t1 v1 refl heard_first begun_deal) in
      record { last = with_acts e1 (run_acting may h1); items = last.items; fresh = last.fresh }

  small : (said may : Bool) → AreSmall (acting (saying_by said t1) ++ run_acting may h1)
  small said may = small_append (acting (saying_by said t1)) (run_acting may h1) (talk_small (saying_by said t1)) (path_small may h1 (run_acting may h1) (acting-due may h1).path)

  known_event : KnowsFlags (noted old.flags (In ev)) (L ++ In ev ∷ [])
  known_event = known_next old.flags L (In ev) s.flags (events_admitted site.limits.children old.flags L ev s.flags fits)

  -- the connection that is to be shut
  module _ (said may : Bool) (x : TalkConn) (lost : x.lost ≡ true) (site_then : x.site.now ≡ site_of old) (flags_then : x.flags ≡ given_all (noted old.flags (In ev)) (acting (saying_by said (heard old.talk old.run ev)) ++ run_acting may (ended (run_heard old.talk old.run ev) Dropped)))
      (number_then : x.flags.c ≡ number_of old) (run_then : x.run ≡ run_acted may (ended (run_heard old.talk old.run ev) Dropped)) (talk_then : x.talk.conn ≡ number_of old) where
    abbrev acts12 : List Act
    acts12 = acting (saying_by said (heard old.talk old.run ev)) ++ run_acting may (ended (run_heard old.talk old.run ev) Dropped)

    abbrev L3 : List Item
    L3 = (L ++ In ev ∷ []) ++ map Out (acting (saying_by said (heard old.talk old.run ev)) ++ run_acting may (ended (run_heard old.talk old.run ev) Dropped))

    knows : KnowsFlags x.flags L3
    knows = subst (λ (m : Flags). KnowsFlags m L3) (sym flags_then) (small_known (noted old.flags (In ev)) (L ++ In ev ∷ []) acts12 (small said may) known_event)

    says : SaysDemands x.flags L3
    says = flags_say x.flags L3 knows

    accepted_then : (acts : List Act) → list_any is_accepted (after_step L ev acts) ≡ true
    accepted_then acts = list_any-append is_accepted L (In ev ∷ map Out acts) ∙ ap (λ (b : Bool). b || list_any is_accepted (In ev ∷ map Out acts)) s.accepted

    unshut : list_any (is_shut c) L3 ≡ false
    unshut =
        list_any-append (is_shut c) (L ++ In ev ∷ []) (map Out acts12)
        ∙ (ap (λ (b : Bool). b || list_any (is_shut c) (map Out acts12)) (list_any-append (is_shut c) L (In ev ∷ []) ∙ ap (λ (b : Bool). b || false) open_before) ∙ small_unshut c acts12 (small said may))

    live : is_live x.flags ≡ true
    live =
        and_from x.flags.accepted (not x.flags.shut) (knows.accepted ∙ (ap (list_any is_accepted) (append_assoc L (In ev ∷ []) (map Out acts12)) ∙ accepted_then acts12))
        (ap not (knows.shut ∙ (ap (λ (k : ℕ). list_any (is_shut k) L3) number_then ∙ unshut)))

    why_is : why_of x ≡ Some NoMemory
    why_is =
        ap (λ (b : Bool). if not b then None else (if x.lost then Some NoMemory else reason x)) live
        ∙ ap (λ (b : Bool). if b then Some NoMemory else reason x) lost

    end_is : ended_conn x ≡ shut_conn (Some NoMemory) x
    end_is =
        ap (λ (w : Option Why). asked_conn (is_ask_due (shut_conn w x)) (shut_conn w x)) why_is ∙ ap (λ (b : Bool). asked_conn b (shut_conn (Some NoMemory) x)) (shut_unasked x NoMemory)

    tail_is : tail_of x ≡ Shut c NoMemory ∷ []
    tail_is =
        ap (λ (w : Option Why). acts_shut x.flags.c w ++ acts_asked (shut_conn w x).flags.c (is_ask_due (shut_conn w x))) why_is
        ∙ (ap (λ (b : Bool). Shut x.flags.c NoMemory ∷ acts_asked (shut_conn (Some NoMemory) x).flags.c b) (shut_unasked x NoMemory) ∙ ap (λ (k : ℕ). Shut k NoMemory ∷ []) number_then)

    acts_are : lost_acts c said ev old.talk old.run may ≡ acts12 ++ tail_of x
    acts_are = ap (λ (l : List Act). acts12 ++ l) (sym tail_is)

    on : LosesOn site c L ev t.legs t.continued (lost_acts c said ev old.talk old.run may) (run_acted may h1)
    on = loss_steps_are_good site c L ev t.legs t.continued said may old.talk old.run next s.two t.talk t.rests fits s.fresh s.accepted open_before takes

    known_last : KnowsFlags (ended_conn x).flags (after_step L ev (acts12 ++ tail_of x))
    known_last =
        subst (λ (l : List Item). KnowsFlags (ended_conn x).flags l)
        (append_assoc (L ++ In ev ∷ []) (map Out acts12) (map Out (tail_of x)) ∙ (ap (λ (l : List Item). (L ++ In ev ∷ []) ++ l) (sym (map-append Out acts12 (tail_of x))) ∙ append_assoc L (In ev ∷ []) (map Out (acts12 ++ tail_of x))))
        (ended_known x L3 knows)

    site_last : site_of (ended_conn x) ≡ site
    site_last = ap (λ (y : TalkConn). y.site.now) end_is ∙ site_then

    number_last : number_of (ended_conn x) ≡ c
    number_last = ap (λ (y : TalkConn). y.flags.c) end_is ∙ number_then

    run_last : run_of (ended_conn x) ≡ run_acted may h1
    run_last = ap (λ (y : TalkConn). y.run) end_is ∙ run_then

    shut_last : (flags_of (ended_conn x)).shut ≡ true
    shut_last =
        known_last.shut ∙ (ap (λ (k : ℕ). shut (after_step L ev (acts12 ++ tail_of x)) k) number_last ∙ (ap (λ (l : List Act). shut (after_step L ev l) c) (sym acts_are) ∙ on.shut_then))

    pub is_lost : IsGoodStep old (ended_conn x) L ev (acts12 ++ tail_of x) next
    is_lost = record {
      good = subst (λ (l : List Act). StepGood site c (step_of L ev l)) acts_are on.good;
      site = site_last;
      number = number_last;
      stands = record {
        two = subst (λ (y : Site). 2 ≤ y.limits.head) (sym site_last) s.two;
        flags = known_last;
        accepted = accepted_then (acts12 ++ tail_of x);
        fresh = fresh_then L ev acts12 (tail_of x) (before said may).last next (before said may).items (before said may).fresh (ended_of_conn x);
        even = subst (λ (r : Run). is_at_rest (has_room (flags_of (ended_conn x))) r ≡ true) (sym run_last)
            (decided_rests may (has_room (flags_of (ended_conn x))) (run_acted may h1) on.talk.decided (acted-rest may h1));
        found = λ still. absurd (false≢true (sym still ∙ (ap (λ (y : TalkConn). y.lost) end_is ∙ lost)));
        lost = λ still. record {
          legs = t.legs;
          continued = t.continued;
          talk =
              subst (λ (r : Run). TalkLostIs (site_of (ended_conn x)) (number_of (ended_conn x)) (current (site_of (ended_conn x)) (number_of (ended_conn x)) (after_step L ev (acts12 ++ tail_of x))) t.legs t.continued false r) (sym run_last)
              (subst (λ (k : ℕ). TalkLostIs (site_of (ended_conn x)) k (current (site_of (ended_conn x)) k (after_step L ev (acts12 ++ tail_of x))) t.legs t.continued false (run_acted may h1)) (sym number_last)
              (subst (λ (y : Site). TalkLostIs y c (current y c (after_step L ev (acts12 ++ tail_of x))) t.legs t.continued false (run_acted may h1)) (sym site_last)
              (subst (λ (l : List Act). TalkLostIs site c (current site c (after_step L ev l)) t.legs t.continued false (run_acted may h1)) acts_are on.talk)));
          number = ap (λ (y : TalkConn). y.talk.conn) end_is ∙ (talk_then ∙ sym number_last);
          over = ap (λ (y : TalkConn). y.talk.over) end_is;
          texts = ap (λ (y : TalkConn). y.talk.texts) end_is;
          code = ap (λ (y : TalkConn). y.talk.code) end_is;
          shut = shut_last;
          for_memory = ap (λ (k : ℕ). shut_for_memory (after_step L ev (acts12 ++ tail_of x)) k) number_last ∙ (ap (λ (l : List Act). shut_for_memory (after_step L ev l) c) (sym acts_are) ∙ on.for_memory);
        };
      };
    }
