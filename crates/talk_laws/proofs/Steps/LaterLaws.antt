-- A step of a connection for which memory ran out before.
use Rattle.std.proofs.Common.{◌≡◌, ◌≤◌, ℕ, Bool, true, false, not, ◌&&◌, ◌||◌, ◌++◌, List, [], ◌∷◌, map, Option, Some, None, is_some, refl, sym, ap, ◌∙◌, subst, append_assoc, append-nil, if◌then◌else◌}
use Rattle.std.specs.List.{list_any}
use Rattle.std.proofs.lemmas.Bool.{false≢true}
use Rattle.std.proofs.lemmas.List.Folds.{list_any-append}
use Rattle.host_base.specs.declared.site.Site.{Site}
use Rattle.host_trace.specs.declared.items.Act.{Act}
use Rattle.host_trace.specs.declared.items.Event.{Event}
use Rattle.host_trace.specs.declared.items.Item.{Item}
use Rattle.host_trace.specs.declared.items.Item.TheVariants.{In, Out}
use Rattle.host_trace.specs.declared.items.Why.{Why}
use Rattle.host_trace.specs.declared.items.Why.TheVariants.{NoMemory}
use Rattle.host_trace.specs.Kinds.{is_accepted, names_child}
use Rattle.host_trace.specs.Projections.{shut, shut_for_memory}
use Rattle.host_trace.specs.Trace.{after_step, step_of}
use Rattle.own_traces.specs.OwnFits.{fits_own}
use Rattle.trace_model.specs.Exchange.{Exchange, all_of, pushed}
use Rattle.trace_model.specs.Exchanges.{current}
use Rattle.trace_model.specs.Good.{StepGood}
use Rattle.trace_model.proofs.ExchangeLaws.{all_of-current}
use Rattle.child_core.specs.Calls.{wants_text}
use Rattle.child_core.specs.Due.{acted as run_acted, acting as run_acting, is_at_rest}
use Rattle.child_core.proofs.ActLaws.{acted-rest}
use Rattle.child_laws.proofs.DealtLaws.{decided_rests}
use Rattle.child_core.specs.View.{View as Run}
use Rattle.child_core.proofs.MemoryLaws.{acting-due}
use Rattle.conn_flags.specs.View.{View as Flags, has_room, is_live, noted}
use Rattle.conn_flags.specs.Form.{given_all}
use Rattle.conn_flags.specs.Knows.{KnowsFlags}
use Rattle.conn_flags.proofs.KnowsLaws.{events_admitted, known_next}
use Rattle.child_laws.specs.Laws.{with_acts}
use Rattle.child_laws.specs.Step.{served, waiting}
use Rattle.talk_core.specs.Hearing.{run_heard}
use Rattle.talk_laws.specs.Deals.{TalkDeals}
use Rattle.talk_laws.specs.LostSteps.{LosesOn}
use Rattle.talk_laws.specs.TalkIs.{TalkLostIs}
use Rattle.talk_laws.proofs.ActLaws.{AreSmall, path_small}
use Rattle.talk_laws.proofs.LaterLaws.{later_steps_are_good}
use Rattle.talk_laws.proofs.LostLaws.{events_keep_lost}
use Rattle.talk_laws.proofs.ServeLaws.{lost_acts_deal}
use Rattle.talk_laws.proofs.StepLaws.{lost_events_begin}
use Rattle.talk_conn.specs.declared.conn.TalkConn.{TalkConn}
use Rattle.talk_conn.specs.Parts.{acts_asked, acts_shut, asked_conn, is_ask_due, shut_conn, why_of}
use Rattle.talk_conn.specs.View.{flags_of, number_of, run_of, site_of, talk_of}
use Rattle.talk_laws.specs.Stands.{IsGoodStep, TalkStands, TalksNoMore}
use Rattle.talk_laws.proofs.Steps.FreshLaws.{fresh_then}
use Rattle.talk_laws.proofs.Steps.FlagLaws.{small_known}
use Rattle.talk_laws.proofs.Steps.TailLaws.{ended_conn, reason, tail_of}

module _ (old : TalkConn) (L : List Item) (ev : Event) (next : ℕ) (s : TalkStands old L next) (t : TalksNoMore old L) (fits : fits_own (site_of old).limits.children L ev ≡ true) where
  abbrev site : Site
  site = site_of old

  abbrev c : ℕ
  c = number_of old

  abbrev e0 : Exchange
  e0 = current (site_of old) (number_of old) L

  abbrev e1 : Exchange
  e1 = pushed (current (site_of old) (number_of old) L) (In ev)

  abbrev h1 : Run
  h1 = run_heard old.talk old.run ev

  shut_before : shut L c ≡ true
  shut_before = sym s.flags.shut ∙ t.shut

  pub lost_first : TalkLostIs site c e1 t.legs t.continued false h1
  lost_first =
      events_keep_lost site c e0 t.legs t.continued old.talk old.run ev s.two t.talk t.number t.over (ap (λ (l : List Item). shut l c) (all_of-current site c L) ∙ shut_before)
      (ap (λ (l : List Item). fits_own site.limits.children l ev) (all_of-current site c L) ∙ fits)

  module _ (may : Bool) (x : TalkConn) (lost : x.lost ≡ true) (site_then : x.site.now ≡ site_of old) (flags_then : x.flags ≡ given_all (noted old.flags (In ev)) (run_acting may (run_heard old.talk old.run ev)))
      (number_then : x.flags.c ≡ number_of old) (run_then : x.run ≡ run_acted may (run_heard old.talk old.run ev)) (talk_then : x.talk.conn ≡ number_of old) (over : x.talk.over ≡ true) (texts : x.talk.texts ≡ [])
      (code : x.talk.code ≡ None) where
    abbrev acts12 : List Act
    acts12 = run_acting may (run_heard old.talk old.run ev)

    abbrev L3 : List Item
    L3 = (L ++ In ev ∷ []) ++ map Out (run_acting may (run_heard old.talk old.run ev))

    deals : TalkDeals site c L ev acts12 (with_acts e1 acts12) [] (served may) next (run_acted may h1)
    deals =
        lost_acts_deal site c L ev [] e1 [] next t.legs t.continued false may h1 s.two lost_first
        (lost_events_begin site c L ev t.legs t.continued h1 next s.two fits lost_first s.fresh)

    small : AreSmall acts12
    small = path_small may h1 acts12 (acting-due may h1).path

    all_is : L3 ≡ after_step L ev acts12
    all_is = append_assoc L (In ev ∷ []) (map Out acts12)

    knows : KnowsFlags x.flags (after_step L ev acts12)
    knows =
        subst (λ (l : List Item). KnowsFlags x.flags l) all_is
        (subst (λ (m : Flags). KnowsFlags m L3) (sym flags_then)
        (small_known (noted old.flags (In ev)) (L ++ In ev ∷ []) acts12 small (known_next old.flags L (In ev) s.flags (events_admitted site.limits.children old.flags L ev s.flags fits))))

    on : LosesOn site c L ev t.legs t.continued acts12 (run_acted may h1)
    on = later_steps_are_good site c L ev t.legs t.continued may old.talk old.run next s.two t.talk t.number t.over fits s.fresh s.accepted shut_before t.for_memory

    shut_then : x.flags.shut ≡ true
    shut_then = knows.shut ∙ (ap (λ (k : ℕ). shut (after_step L ev acts12) k) number_then ∙ on.shut_then)

    dead : is_live x.flags ≡ false
    dead = ap (λ (b : Bool). x.flags.accepted && not b) shut_then ∙ none x.flags.accepted
      where
        none : (a : Bool) → (a && false) ≡ false
        none true = refl
        none false = refl

    why_is : why_of x ≡ None
    why_is = ap (λ (b : Bool). if not b then None else (if x.lost then Some NoMemory else reason x)) dead

    unasked : is_ask_due x ≡ false
    unasked = ap (λ (b : Bool). b && has_room x.flags && wants_text x.run && not x.flags.asked) dead

    end_is : ended_conn x ≡ x
    end_is = ap (λ (w : Option Why). asked_conn (is_ask_due (shut_conn w x)) (shut_conn w x)) why_is ∙ ap (λ (b : Bool). asked_conn b x) unasked

    tail_is : tail_of x ≡ []
    tail_is =
        ap (λ (w : Option Why). acts_shut x.flags.c w ++ acts_asked (shut_conn w x).flags.c (is_ask_due (shut_conn w x))) why_is ∙ ap (λ (b : Bool). acts_asked x.flags.c b) unasked

    acts_are : acts12 ≡ acts12 ++ tail_of x
    acts_are = sym (ap (λ (l : List Act). acts12 ++ l) tail_is ∙ append-nil acts12)

    here : IsGoodStep old x L ev acts12 next
    here = record {
      good = on.good;
      site = site_then;
      number = number_then;
      stands = record {
        two = subst (λ (y : Site). 2 ≤ y.limits.head) (sym site_then) s.two;
        flags = knows;
        accepted = list_any-append is_accepted L (In ev ∷ map Out acts12) ∙ ap (λ (b : Bool). b || list_any is_accepted (In ev ∷ map Out acts12)) s.accepted;
        fresh = λ k most. ap (λ (l : List Act). list_any (names_child k) (after_step L ev l)) (sym (append-nil acts12))
            ∙ fresh_then L ev acts12 [] (with_acts e1 acts12) next deals.items deals.fresh tt k most;
        even = subst (λ (r : Run). is_at_rest (has_room (flags_of x)) r ≡ true) (sym run_then)
            (decided_rests may (has_room (flags_of x)) (run_acted may h1) on.talk.decided (acted-rest may h1));
        found = λ still. absurd (false≢true (sym still ∙ lost));
        lost = λ still. record {
          legs = t.legs;
          continued = t.continued;
          talk =
              subst (λ (r : Run). TalkLostIs (site_of x) (number_of x) (current (site_of x) (number_of x) (after_step L ev acts12)) t.legs t.continued false r) (sym run_then)
              (subst (λ (k : ℕ). TalkLostIs (site_of x) k (current (site_of x) k (after_step L ev acts12)) t.legs t.continued false (run_acted may h1)) (sym number_then)
              (subst (λ (y : Site). TalkLostIs y c (current y c (after_step L ev acts12)) t.legs t.continued false (run_acted may h1)) (sym site_then) on.talk));
          number = talk_then ∙ sym number_then;
          over = over;
          texts = texts;
          code = code;
          shut = shut_then;
          for_memory = ap (λ (k : ℕ). shut_for_memory (after_step L ev acts12) k) number_then ∙ on.for_memory;
        };
      };
    }

    pub is_later : IsGoodStep old (ended_conn x) L ev (acts12 ++ tail_of x) next
    is_later = subst (λ (l : List Act). IsGoodStep old (ended_conn x) L ev l next) acts_are (subst (λ (y : TalkConn). IsGoodStep old y L ev acts12 next) (sym end_is) here)
