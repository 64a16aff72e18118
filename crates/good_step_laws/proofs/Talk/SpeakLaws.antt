-- What a connection that speaks WebSocket tells of its child.
use Rattle.std.proofs.Common.{◌≡◌, ℕ, ◌==◌, ◌&&◌, ◌||◌, Bool, true, false, not, List, [], ◌∷◌, ◌++◌, map, Option, Some, None, is_some, if◌then◌else◌, inl, inr, refl, sym, ap, ◌∙◌, subst}
use Rattle.std.specs.Prelude.{filter}
use Rattle.std.specs.List.{list_any}
use Rattle.std.specs.Option.{option_to_list}
use Rattle.std.proofs.lemmas.Bool.{eq-eqb, false≢true, or_left, or_right}
use Rattle.std.proofs.lemmas.Grind.{flat_map-append}
use Rattle.std.proofs.lemmas.List.Elements.{filter-append}
use Rattle.host_base.specs.declared.site.ScriptKind.TheVariants.{WebSocket}
use Rattle.host_base.specs.declared.site.Site.{Site}
use Rattle.host_trace.specs.declared.items.Event.{Event}
use Rattle.host_trace.specs.declared.items.Item.{Item}
use Rattle.host_trace.specs.declared.items.Item.TheVariants.{In}
use Rattle.host_trace.specs.Account.{settled}
use Rattle.host_trace.specs.Decider.{is_websocket}
use Rattle.host_trace.specs.Fits.{fits}
use Rattle.host_trace.specs.Kinds.{child_started, is_accepted, is_stop, names, names_child}
use Rattle.host_trace.specs.Projections.{children, shut}
use Rattle.own_traces.specs.OwnFits.{fits_own}
use Rattle.own_traces.specs.Whose.{has}
use Rattle.child_core.specs.Calls.{fits_run, is_settled, may_come}
use Rattle.child_core.specs.Knows.{KnowsRun}
use Rattle.child_core.specs.View.{View as Run}
use Rattle.child_core.proofs.BehindLaws.{fits-behind}
use Rattle.child_core.proofs.TellLaws.{settled_is}
use Rattle.conn_flags.specs.Fits.{fits_flags}
use Rattle.conn_flags.proofs.FitLaws.{fits_told}
use Rattle.trace_model.specs.Exchange.{Exchange, all_of}
use Rattle.trace_model.specs.Exchanges.{current}
use Rattle.trace_model.specs.Legs.{Leg, leg_of}
use Rattle.exchange_laws.specs.Walked.{child_of_leg}
use Rattle.trace_model.proofs.ExchangeLaws.{all_of-current}
use Rattle.many_conns.specs.Kept.{is_child}
use Rattle.good_step_laws.proofs.Http.FitLaws.{and_true, flags_let, no_childs, own_of_child}
use Rattle.good_step_laws.proofs.Http.OwnLaws.{has-append}
use Rattle.good_step_laws.proofs.Http.SettledLaws.{older_none, older_settled, one_open, opens, settled_behind}
use Rattle.talk_core.specs.Setting.{setting}
use Rattle.talk_laws.specs.TalkIs.{IsSpoken, TalkLostIs}
use Rattle.talk_conn.specs.declared.conn.TalkConn.{TalkConn}
use Rattle.talk_conn.specs.Slot.{unsettled_child_of, fits_talk, is_held, last_child_of}
use Rattle.talk_conn.specs.View.{IsTalk, flags_of, number_of, run_of, site_of, was_lost}
use Rattle.talk_laws.specs.Stands.{TalkStands, Talks, TalksNoMore}
use Rattle.good_step_laws.specs.Talk.Stands.{TalkHolds}

-- ---- its child is the only one of the exchange, and its run knows the items

pub record Speaks (talk : TalkConn) (L : List Item) : Type 0 where
  pub child : children (current (site_of talk) (number_of talk) L).items (number_of talk) ≡ (run_of talk).number ∷ []
  pub unnamed : list_any (names_child (run_of talk).number) (current (site_of talk) (number_of talk) L).before ≡ false
  pub knows : KnowsRun false (setting (number_of talk) (run_of talk).number (site_of talk).limits) (run_of talk) (current (site_of talk) (number_of talk) L).items

one_child : (site : Site) (c : ℕ) (e : Exchange) (legs : List Leg) (continued : Bool) (k : ℕ) → IsSpoken site c e legs continued k → children e.items c ≡ k ∷ []
one_child site c e legs continued k s = s.started ∙ ap (map child_of_leg) s.are

module _ (talk : TalkConn) (L : List Item) (next : ℕ) (s : TalkStands talk L next) where
  abbrev e : Exchange
  e = current (site_of talk) (number_of talk) L

  found : Talks talk L → Speaks talk L
  found t = record {
    child = one_child (site_of talk) (number_of talk) e t.legs t.continued (run_of talk).number t.talk.spoken;
    unnamed = t.talk.spoken.before.unnamed;
    knows = t.talk.stands.run;
  }

  lost : TalksNoMore talk L → Speaks talk L
  lost t =
      let viewed : run_of talk ≡ t.talk.view = t.talk.held_as in
      record {
        child = one_child (site_of talk) (number_of talk) e t.legs t.continued t.talk.view.number t.talk.spoken ∙ ap (λ (v : Run). v.number ∷ []) (sym viewed);
        unnamed = subst (λ (v : Run). list_any (names_child v.number) e.before ≡ false) (sym viewed) t.talk.spoken.before.unnamed;
        knows = subst (λ (v : Run). KnowsRun false (setting (number_of talk) v.number (site_of talk).limits) v e.items) (sym viewed) t.talk.run;
      }

  pub speaks : Speaks talk L
  speaks = go (was_lost talk) refl
    where
      go : (b : Bool) → was_lost talk ≡ b → Speaks talk L
      go true is = lost (s.lost is)
      go false is = found (s.found is)

-- ---- what it tells

pub is_talk : (site : Site) (talk : TalkConn) (L : List Item) → TalkHolds site talk L → IsTalk talk
is_talk site talk L h = go (was_lost talk) refl
  where
    go : (b : Bool) → was_lost talk ≡ b → IsTalk talk
    go true is =
        let t : TalksNoMore talk L = h.stands.lost is in
        record { kind = ap (λ (v : Run). is_websocket v.kind) t.talk.held_as ∙ ap is_websocket t.talk.kind; number = t.number }
    go false is = let t : Talks talk L = h.stands.found is in record { kind = ap is_websocket t.talk.kind; number = t.talk.stands.talk.conn }

pub unsettled_is_last : (talk : TalkConn) (k : ℕ) → is_child (unsettled_child_of talk) k ≡ true → is_child (Some (last_child_of talk)) k ≡ true
unsettled_is_last talk k is = go (is_settled (run_of talk)) is
  where
    go : (b : Bool) → is_child (if b then None else Some (run_of talk).number) k ≡ true → is_child (Some (last_child_of talk)) k ≡ true
    go true e = absurd (false≢true e)
    go false e = e

pub needs_is : (talk : TalkConn) → is_held talk ≡ (not (flags_of talk).shut || is_some (unsettled_child_of talk))
needs_is talk = go (is_settled (run_of talk))
  where
    go : (b : Bool) → (not (flags_of talk).shut || not b) ≡ (not (flags_of talk).shut || is_some (if b then None else Some (run_of talk).number))
    go true = refl
    go false = refl

module _ (site : Site) (talk : TalkConn) (L : List Item) (h : TalkHolds site talk L) where
  abbrev c : ℕ
  c = number_of talk

  abbrev now : Exchange
  now = current (site_of talk) (number_of talk) L

  all : all_of now ≡ L
  all = all_of-current (site_of talk) (number_of talk) L

  its : Speaks talk L
  its = speaks talk L h.next h.stands

  settled_now : settled (all_of now) (run_of talk).number ≡ is_settled (run_of talk)
  settled_now = settled_behind now.before now.items (run_of talk).number its.unnamed ∙ sym (settled_is false (setting c (run_of talk).number (site_of talk).limits) (run_of talk) now.items its.knows)

  pub unsettled : filter (λ k. not (settled L k)) (children L c) ≡ option_to_list (unsettled_child_of talk)
  unsettled =
      subst (λ (l : List Item). filter (opens l) (children l c) ≡ option_to_list (unsettled_child_of talk)) all
      (ap (filter (opens (all_of now))) (flat_map-append (child_started c) now.before now.items)
      ∙ (filter-append (opens (all_of now)) (children now.before c) (children now.items c)
      ∙ (ap (λ (l : List ℕ). l ++ filter (opens (all_of now)) (children now.items c)) (older_none (site_of talk) c now (older_settled (site_of talk) c L))
      ∙ (ap (filter (opens (all_of now))) its.child ∙ one_open (all_of now) (run_of talk).number (is_settled (run_of talk)) settled_now))))

  pub last_child_started : has (children L c) (last_child_of talk) ≡ true
  last_child_started =
      subst (λ (l : List Item). has (children l c) (last_child_of talk) ≡ true) all
      (ap (λ (l : List ℕ). has l (last_child_of talk)) (flat_map-append (child_started c) now.before now.items)
      ∙ has-append (last_child_of talk) (children now.before c) (children now.items c)
      (ap (λ (l : List ℕ). has l (last_child_of talk)) its.child ∙ or_left (last_child_of talk == last_child_of talk) false (eq-eqb (last_child_of talk) (last_child_of talk) refl)))

  pub shut_is : (flags_of talk).shut ≡ shut L c
  shut_is = h.stands.flags.shut

  -- ---- which events fit

  run_lets : (ev : Event) → ((k : ℕ) → names_child k (In ev) ≡ false) → fits_run (run_of talk) ev ≡ true
  run_lets ev none = ap (λ (b : Bool). not b || may_come (run_of talk) ev) (none (run_of talk).number)

  pub fits_named : (ev : Event) → names c (In ev) ≡ true → fits_talk talk ev ≡ fits_own site.limits.children L ev
  fits_named ev named =
      ap (λ (b : Bool). fits_flags (flags_of talk) ev && b) (run_lets ev (λ k. no_childs c k ev named))
      ∙ (and_true (fits_flags (flags_of talk) ev) true refl
      ∙ fits_told site.limits.children (flags_of talk) L ev h.stands.flags (or_right (is_accepted (In ev) || is_stop (In ev)) (names c (In ev)) named))

  pub fits_last_child : (ev : Event) → names_child (last_child_of talk) (In ev) ≡ true → fits_talk talk ev ≡ fits_own site.limits.children L ev
  fits_last_child ev named =
      ap (λ (b : Bool). b && fits_run (run_of talk) ev) (flags_let (flags_of talk) (last_child_of talk) ev named)
      ∙ (fits-behind false (setting c (run_of talk).number (site_of talk).limits) (run_of talk) now.before now.items its.unnamed its.knows ev named
      ∙ (sym (own_of_child (site_of talk).limits.children (last_child_of talk) (all_of now) ev named)
      ∙ (ap (λ (l : List Item). fits_own (site_of talk).limits.children l ev) all ∙ ap (λ (s : Site). fits_own s.limits.children L ev) h.site_is)))
