-- What holds of each connection, by cases.
use Rattle.std.proofs.Common.{◌≡◌, ℕ, ◌==◌, ◌&&◌, ◌||◌, Bool, true, false, not, List, [], ◌∷◌, ◌++◌, Option, Some, None, is_some, inl, inr, refl, sym, ap, ◌∙◌, subst}
use Rattle.std.specs.Prelude.{filter}
use Rattle.std.specs.List.{list_any}
use Rattle.std.specs.Option.{option_to_list}
use Rattle.std.proofs.lemmas.Bool.{eqb-true, false≢true, false_from_ne_true, or_left, or_parts, or_right}
use Rattle.std.proofs.lemmas.List.Folds.{list_any-append}
use Rattle.host_base.specs.declared.launch.Peer.{Peer}
use Rattle.host_base.specs.declared.site.Site.{Site}
use Rattle.host_trace.specs.declared.items.Act.TheVariants.{Shut as Shuts}
use Rattle.host_trace.specs.declared.items.Event.{Event}
use Rattle.host_trace.specs.declared.items.Event.TheVariants.{Accepted, Stop, Tick, Took}
use Rattle.host_trace.specs.declared.items.Item.{Item}
use Rattle.host_trace.specs.declared.items.Item.TheVariants.{In, Out}
use Rattle.host_trace.specs.declared.items.Why.TheVariants.{Full}
use Rattle.host_trace.specs.Account.{has_unsettled, settled}
use Rattle.host_trace.specs.Kinds.{names, names_child}
use Rattle.host_trace.specs.Projections.{children, shut}
use Rattle.host_trace.specs.Trace.{step_of}
use Rattle.own_traces.specs.OwnFits.{fits_own, was_accepted}
use Rattle.own_traces.specs.Whose.{has, is_common, is_of}
use Rattle.conn_flags.specs.View.{noted}
use Rattle.trace_model.specs.Good.{GoodFor, StepGood}
use Rattle.trace_model.proofs.LiftLaws.{AtEachStep-push}
use Rattle.http_conn.specs.HttpConn.{HttpConn}
use Rattle.http_conn.specs.Kept.{flags_of, number_of as http_number, site_of as http_site}
use Rattle.http_conn.specs.New.{IsNew as IsNewConn}
use Rattle.good_step_laws.specs.Opens.Laws.{IsMissed, passes}
use Rattle.many_conns.specs.Kept.{is_child}
use Rattle.many_conns.specs.Kind.{AreTicks, Fitting, Gone, IsFor, Laws}
use Rattle.good_step_laws.specs.Http.Stands.{Accounts, ConnStands, conn_kind}
use Rattle.good_step_laws.proofs.Http.AccountLaws.{IsTook, accounts_kept, late_is_took}
use Rattle.good_step_laws.proofs.Http.GoneLaws.{Passes, stops, takes, ticks, what_passes}
use Rattle.good_step_laws.proofs.Http.KindLaws.{conns_begin, conns_keep_laws}
use Rattle.good_step_laws.proofs.Http.LateLaws.{kid_named, settled_but}
use Rattle.good_step_laws.proofs.Http.SettledLaws.{filtered_none, none_open, settled_together}
use Rattle.talk_core.specs.Laws.{is_of_talk}
use Rattle.talk_conn.specs.declared.conn.TalkConn.{TalkConn}
use Rattle.talk_conn.specs.Slot.{last_child_of as talk_last_child}
use Rattle.talk_conn.specs.View.{number_of as talk_number}
use Rattle.good_step_laws.specs.Talk.Laws.{TalkGone, TalkLaws}
use Rattle.good_step_laws.proofs.Talk.KindLaws.{talks_keep_laws}
use Rattle.good_step_laws.proofs.Talk.SpeakLaws.{is_talk}
use Rattle.conn_phase.specs.declared.phase.Phase.{Phase}
use Rattle.conn_phase.specs.declared.phase.Phase.TheVariants.{Http, Talk, Shut}
use Rattle.conn_phase.specs.Phase.{IsNew, unsettled_child_of, fits_phase, is_held, last_child_of, may_step, number_of, site_of}
use Rattle.good_step_laws.specs.Both.Laws.{AllSteps, PhasesBegin, PhasesKeepLaws}
use Rattle.good_step_laws.specs.Both.Stands.{PhaseStands, HttpStands, ShutStands, TalkStandsFor, Was, phase_kind, was_shut}

-- ---- words

pub none_of_ticks : (c : ℕ) (L : List Item) → AreTicks L → list_any (is_of_talk c) L ≡ false
none_of_ticks c [] t = refl
none_of_ticks c (In (Tick secs) ∷ L) t = none_of_ticks c L t.1
none_of_ticks c (In ev ∷ L) t = absurd (false≢true t.0)
none_of_ticks c (Out act ∷ L) t = absurd (false≢true t.0)

-- an event that passes names no connection
passed_names : (c : ℕ) (ev : Event) → Passes ev → names c (In ev) ≡ false
passed_names c ev (ticks secs is) = ap (λ (x : Event). names c (In x)) is
passed_names c ev (stops is) = ap (λ (x : Event). names c (In x)) is
passed_names c ev (takes k m is) = ap (λ (x : Event). names c (In x)) is

passes_then : (ev : Event) → Passes ev → passes ev ≡ true
passes_then ev (ticks secs is) = ap passes is
passes_then ev (stops is) = ap passes is
passes_then ev (takes k m is) = ap passes is

-- what fits whatever the number of children is
fits_any_limit : (limit other : ℕ) (L : List Item) (ev : Event) → Passes ev → fits_own limit L ev ≡ true → fits_own other L ev ≡ true
fits_any_limit limit other L ev (ticks secs is) f = ap (fits_own other L) is ∙ (sym (ap (fits_own limit L) is) ∙ f)
fits_any_limit limit other L ev (stops is) f = ap (fits_own other L) is ∙ (sym (ap (fits_own limit L) is) ∙ f)
fits_any_limit limit other L ev (takes k m is) f = ap (fits_own other L) is ∙ (sym (ap (fits_own limit L) is) ∙ f)

module _ (all : AllSteps) where
  http : Laws conn_kind
  http = conns_keep_laws all.http

  talks : TalkLaws
  talks = talks_keep_laws all.talks

  -- ---- one that speaks HTTP

  -- an event without acts leaves it so
  still_untalked : (site : Site) (conn : HttpConn) (L : List Item) (ev : Event) → HttpStands site conn L → fits_own site.limits.children L ev ≡ true → list_any (is_of_talk (http_number conn)) (L ++ In ev ∷ []) ≡ false
  still_untalked site conn L ev h fits = all.untalked site (flags_of conn) L ev [] h.stood.rest.flags fits refl (upgraded_not ev) h.untalked
    where
      upgraded_not : (x : Event) → (noted (flags_of conn) (In x)).upgraded ≡ false
      upgraded_not x = h.stood.rest.inward.http

  http_passes : (site : Site) (conn : HttpConn) (L : List Item) (limit n : ℕ) (ev : Event) → ConnStands site conn L → is_held (Http conn) ≡ false
      → (is_common (In ev) || is_of (http_number conn) (children L (http_number conn)) n (In ev)) ≡ true → fits_own limit L ev ≡ true → Passes ev
  http_passes site conn L limit n ev t free mine fits =
      let c = http_number conn in
      let p = or_parts (not (flags_of conn).shut) (is_some (unsettled_child_of (Http conn))) free in
      let over : (flags_of conn).shut ≡ true = not_not (flags_of conn).shut p.0 in
      what_passes limit c n L t.accounts
      (filtered_none (λ k. not (settled L k)) (children L c) (http.unsettled site conn L t ∙ ap option_to_list (none_of (unsettled_child_of (Http conn)) p.1)))
      (sym t.rest.flags.accepted ∙ t.met over) (sym (http.shut_is site conn L t) ∙ over) ev mine fits
    where
      not_not : (b : Bool) → not b ≡ false → b ≡ true
      not_not true e = refl
      not_not false e = absurd (false≢true (sym e))

      none_of : (o : Option ℕ) → is_some o ≡ false → o ≡ None
      none_of None e = refl
      none_of (Some k) e = absurd (false≢true (sym e))

  -- ---- one that is over

  -- nothing changes for it
  pub shut_next : (site of : Site) (c limit : ℕ) (L : List Item) (ev : Event) → ShutStands site of c L → Passes ev → fits_own limit L ev ≡ true → ShutStands site of c (L ++ In ev ∷ [])
  shut_next site of c limit L ev s p fits =
      let m : IsMissed site c L ev [] = all.passes site c L ev s.closed (passes_then ev p) in
      record {
        site_is = s.site_is;
        closed = m.closed;
        settled = settled_together L (In ev ∷ []) c s.settled refl;
        accounts = accounts_kept limit L ev [] s.accounts fits;
        good = AtEachStep-push (StepGood site c) L ev [] s.good m.good;
        was = s.was;
      }

  pub shut_passes : (site of : Site) (c limit n : ℕ) (L : List Item) (ev : Event) → ShutStands site of c L → (is_common (In ev) || is_of c (children L c) n (In ev)) ≡ true → fits_own limit L ev ≡ true
      → Passes ev
  shut_passes site of c limit n L ev s mine fits = what_passes limit c n L s.accounts s.settled s.closed.accepted s.closed.shut_is ev mine fits

  -- ---- each law

  unsettled_is_last : (x : Phase) (k : ℕ) → is_child (unsettled_child_of x) k ≡ true → is_child (last_child_of x) k ≡ true
  unsettled_is_last (Http conn) k is = http.unsettled_is_last conn k is
  unsettled_is_last (Talk talk) k is = talks.unsettled_is_last talk k is
  unsettled_is_last (Shut of c) k is = absurd (false≢true is)

  needs_is : (x : Phase) → is_held x ≡ (not (was_shut x) || is_some (unsettled_child_of x))
  needs_is (Http conn) = refl
  needs_is (Talk talk) = talks.needs_is talk
  needs_is (Shut of c) = refl

  site_is : (site : Site) (x : Phase) (L : List Item) → PhaseStands site x L → site_of x ≡ site
  site_is site (Http conn) L t = t.stood.site_is
  site_is site (Talk talk) L t = t.holds.site_is
  site_is site (Shut of c) L t = t.site_is

  good : (site : Site) (x : Phase) (L : List Item) → PhaseStands site x L → GoodFor site (number_of x) L
  good site (Http conn) L t = t.stood.good
  good site (Talk talk) L t = t.holds.good
  good site (Shut of c) L t = t.good

  unsettled : (site : Site) (x : Phase) (L : List Item) → PhaseStands site x L → filter (λ k. not (settled L k)) (children L (number_of x)) ≡ option_to_list (unsettled_child_of x)
  unsettled site (Http conn) L t = http.unsettled site conn L t.stood
  unsettled site (Talk talk) L t = talks.unsettled site talk L t.holds
  unsettled site (Shut of c) L t = none_open L (children L c) t.settled

  last_child_started : (site : Site) (x : Phase) (L : List Item) (k : ℕ) → PhaseStands site x L → is_child (last_child_of x) k ≡ true → has (children L (number_of x)) k ≡ true
  last_child_started site (Http conn) L k t is = http.last_child_started site conn L k t.stood is
  last_child_started site (Talk talk) L k t is = subst (λ (j : ℕ). has (children L (talk_number talk)) j ≡ true) (eqb-true (talk_last_child talk) k is) (talks.last_child_started site talk L t.holds)
  last_child_started site (Shut of c) L k t is = absurd (false≢true is)

  shut_is : (site : Site) (x : Phase) (L : List Item) → PhaseStands site x L → was_shut x ≡ shut L (number_of x)
  shut_is site (Http conn) L t = http.shut_is site conn L t.stood
  shut_is site (Talk talk) L t = talks.shut_is site talk L t.holds
  shut_is site (Shut of c) L t = sym t.closed.shut_is

  fits_is : (site : Site) (x : Phase) (L : List Item) (ev : Event) → PhaseStands site x L → IsFor phase_kind x ev → fits_phase x ev ≡ fits_own site.limits.children L ev
  fits_is site (Http conn) L ev t for_it = http.fits_is site conn L ev t.stood for_it
  fits_is site (Talk talk) L ev t (inl named) = talks.fits_named site talk L ev t.holds named
  fits_is site (Talk talk) L ev t (inr of_child) =
      talks.fits_last_child site talk L ev t.holds (subst (λ (j : ℕ). names_child j (In ev) ≡ true) (sym (eqb-true (talk_last_child talk) of_child.0 of_child.2)) of_child.1)
  fits_is site (Shut of c) L ev t (inl named) =
      sym (false_from_ne_true (fits_own site.limits.children L ev) (λ f.
      false≢true (sym (passed_names c ev (shut_passes site of.now c site.limits.children 0 L ev t (or_right (is_common (In ev)) (is_of c (children L c) 0 (In ev)) (or_left (names c (In ev)) _ named)) f)) ∙ named)))
  fits_is site (Shut of c) L ev t (inr of_child) = absurd (false≢true of_child.2)

  late : (site : Site) (x : Phase) (L : List Item) (limit n : ℕ) (stamp : Option ℕ) (k : ℕ) (ev : Event) → PhaseStands site x L → Fitting limit (number_of x) n stamp L ev
      → names_child k (In ev) ≡ true → is_child (last_child_of x) k ≡ false → PhaseStands site x (L ++ In ev ∷ [])
  late site (Http conn) L limit n stamp k ev t fit named other =
      let it : has (children L (http_number conn)) k ≡ true = kid_named (http_number conn) n k (children L (http_number conn)) ev named fit.mine in
      let over : settled L k ≡ true =
      settled_but L (http_number conn) k (unsettled_child_of (Http conn)) (http.unsettled site conn L t.stood) it (λ open_yet. false≢true (sym other ∙ http.unsettled_is_last conn k open_yet)) in
      let took : IsTook ev k = late_is_took limit L k t.stood.accounts over ev named fit.fits in
      record {
        stood = http.late site conn L limit n stamp k ev t.stood fit named other;
        untalked = still_untalked site conn L ev t (fits_any_limit limit site.limits.children L ev (takes k took.count took.is) fit.fits);
      }
  late site (Talk talk) L limit n stamp k ev t fit named other = record { holds = talks.late site talk L limit n stamp k ev t.holds fit named other; was = t.was }
  late site (Shut of c) L limit n stamp k ev t fit named other = shut_next site of.now c limit L ev t (shut_passes site of.now c limit n L ev t fit.mine fit.fits) fit.fits

  -- ---- one that needs no slot

  phase_gone : (site : Site) (c : ℕ) (L : List Item) → (g : Gone conn_kind site c L) → list_any (is_of_talk c) L ≡ false → Gone phase_kind site c L
  phase_gone site c L g untalked = record {
    conn = Http g.conn;
    number = g.number;
    stands = record { stood = g.stands; untalked = subst (λ (d : ℕ). list_any (is_of_talk d) L ≡ false) (sym g.number) untalked };
    free = g.free;
  }

  idle_at : (site : Site) (x : Phase) (L : List Item) (limit n : ℕ) (stamp : Option ℕ) (ev : Event) → PhaseStands site x L → is_held x ≡ false → Fitting limit (number_of x) n stamp L ev
      → Gone phase_kind site (number_of x) (L ++ In ev ∷ [])
  idle_at site (Http conn) L limit n stamp ev t free fit =
      phase_gone site (http_number conn) (L ++ In ev ∷ []) (http.idle site (http_number conn) L limit n stamp ev (record { conn = conn; number = refl; stands = t.stood; free = free }) fit)
      (still_untalked site conn L ev t (fits_any_limit limit site.limits.children L ev (http_passes site conn L limit n ev t.stood free fit.mine fit.fits) fit.fits))
  idle_at site (Talk talk) L limit n stamp ev t free fit =
      let g : TalkGone site (talk_number talk) (L ++ In ev ∷ []) = talks.idle site (talk_number talk) L limit n stamp ev (record { talk = talk; number = refl; holds = t.holds; free = free }) fit in
      record { conn = Talk g.talk; number = g.number; stands = record { holds = g.holds; was = t.was }; free = g.free }
  idle_at site (Shut of c) L limit n stamp ev t free fit =
      record { conn = Shut of c; number = refl; stands = shut_next site of.now c limit L ev t (shut_passes site of.now c limit n L ev t fit.mine fit.fits) fit.fits; free = refl }

  idle : (site : Site) (c : ℕ) (L : List Item) (limit n : ℕ) (stamp : Option ℕ) (ev : Event) → Gone phase_kind site c L → Fitting limit c n stamp L ev → Gone phase_kind site c (L ++ In ev ∷ [])
  idle site c L limit n stamp ev g fit =
      subst (λ (d : ℕ). Gone phase_kind site d (L ++ In ev ∷ [])) g.number
      (idle_at site g.conn L limit n stamp ev g.stands g.free (subst (λ (d : ℕ). Fitting limit d n stamp L ev) (sym g.number) fit))

  full_by : (site : Site) (w : Was site) (c : ℕ) (L : List Item) (peer : Peer) → AreTicks L → Gone phase_kind site c (L ++ In (Accepted peer) ∷ Out (Shuts c Full) ∷ [])
  full_by site w c L peer are =
      phase_gone site c (L ++ In (Accepted peer) ∷ Out (Shuts c Full) ∷ []) (http.full site w.conn w.list c L peer w.stood are)
      (list_any-append (is_of_talk c) L (In (Accepted peer) ∷ Out (Shuts c Full) ∷ []) ∙ ap (λ (b : Bool). b || false) (none_of_ticks c L are))

  full : (site : Site) (x : Phase) (M : List Item) (c : ℕ) (L : List Item) (peer : Peer) → PhaseStands site x M → AreTicks L → Gone phase_kind site c (L ++ In (Accepted peer) ∷ Out (Shuts c Full) ∷ [])
  full site (Http conn) M c L peer t are = full_by site (record { conn = conn; list = M; stood = t.stood }) c L peer are
  full site (Talk talk) M c L peer t are = full_by site t.was c L peer are
  full site (Shut of d) M c L peer t are = full_by site t.was c L peer are

  pub all_laws : Laws phase_kind
  all_laws = record {
    unsettled_is_last = unsettled_is_last;
    needs_is = needs_is;
    site_is = site_is;
    good = good;
    unsettled = unsettled;
    last_child_started = last_child_started;
    shut_is = shut_is;
    fits_is = fits_is;
    late = late;
    idle = idle;
    full = full;
  }

-- one that stands for some list may be stepped
pub may_stand : (site : Site) (x : Phase) (L : List Item) → PhaseStands site x L → may_step x
may_stand site (Http conn) L t = tt
may_stand site (Talk talk) L t = is_talk site talk L t.holds
may_stand site (Shut of c) L t = tt

pub phases_keep_laws : PhasesKeepLaws
phases_keep_laws = all_laws

pub phases_begin : PhasesBegin
phases_begin all (Http conn) site c L new served are =
    record { stood = conns_begin all.http conn site L new.0 served new.3 are; untalked = none_of_ticks (http_number conn) L are }
phases_begin all (Talk talk) site c L new served are = absurd new
phases_begin all (Shut of d) site c L new served are = absurd new
