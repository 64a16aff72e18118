-- A connection that needs no slot any more goes on as it is.
use Rattle.std.proofs.Common.{◌≡◌, ℕ, ◌==◌, ◌&&◌, ◌||◌, Bool, true, false, not, List, [], ◌∷◌, ◌++◌, Option, Some, None, is_some, if◌then◌else◌, refl, sym, ap, ◌∙◌, subst}
use Rattle.std.proofs.lemmas.Bool.{and_parts, eqb-true, false≢true, or_from, or_parts}
use Rattle.host_base.specs.declared.site.Site.{Site}
use Rattle.host_trace.specs.declared.items.Event.{Event}
use Rattle.host_trace.specs.declared.items.Event.TheVariants.{Accepted, ClientBytes, ClientEof, ClientGone, Wrote, Started, StartFailed, StartFull, ChildBytes, ChildEof, ChildBroken, Took, InputGone, Exited, WsText, WsBinary, WsClosed, WsBad, NoRoom, Tick, Stop}
use Rattle.host_trace.specs.declared.items.Item.{Item}
use Rattle.host_trace.specs.declared.items.Item.TheVariants.{In}
use Rattle.host_trace.specs.Account.{has_unsettled}
use Rattle.host_trace.specs.Fits.{is_asked, is_asked_upgraded}
use Rattle.host_trace.specs.Kinds.{names_child}
use Rattle.host_trace.specs.Projections.{children, client_wanted, names_one_of, shut, stopped, upgraded}
use Rattle.host_trace.specs.Trace.{step_of}
use Rattle.own_traces.specs.OwnFits.{fits_own, is_open_own, was_accepted}
use Rattle.own_traces.specs.Whose.{is_common, is_of}
use Rattle.child_core.specs.Calls.{is_settled}
use Rattle.child_core.specs.View.{View}
use Rattle.conn_flags.specs.View.{View as Flags, is_live, noted}
use Rattle.trace_model.specs.Exchanges.{current}
use Rattle.trace_model.specs.Good.{GoodFor, StepGood}
use Rattle.trace_model.specs.Hears.{hears}
use Rattle.trace_model.proofs.LiftLaws.{AtEachStep-push}
use Rattle.http_conn.specs.HttpConn.{HttpConn}
use Rattle.http_conn.specs.Kept.{flags_of, number_of, site_of}
use Rattle.http_conn.specs.Slot.{unsettled_child_of, run_settled, unsettled_of}
use Rattle.http_stage_laws.specs.HeardStages.{AtRest}
use Rattle.many_conns.specs.Kind.{Fitting, Gone}
use Rattle.good_step_laws.specs.Steps.Laws.{StepsAreGood}
use Rattle.good_step_laws.specs.Http.Stands.{Accounts, ConnStands, conn_kind, needs_slot, with_left}
use Rattle.good_step_laws.proofs.Http.AccountLaws.{accounts_kept, late_is_took}
use Rattle.good_step_laws.proofs.Http.StepWords.{asks_of}
use Rattle.good_step_laws.proofs.Http.BeginLaws.{idled_step}
use Rattle.good_step_laws.proofs.Http.OwnLaws.{rest_at}
use Rattle.good_step_laws.proofs.Http.PassLaws.{Calm, Passed, Passing, passed, stop_passes, tick_passes, ticked_on, took_passes}
use Rattle.good_step_laws.proofs.Http.QuietLaws.{begun_of}
use Rattle.good_step_laws.proofs.Http.RestLaws.{all_settled, named_settled, run_calm, unanswered}

-- ---- which events fit

-- it passes a connection that needs no slot
pub data Passes (ev : Event) : Type 0 where
  ticks : (secs : ℕ) → ev ≡ Tick secs → Passes ev
  stops : ev ≡ Stop → Passes ev
  takes : (k count : ℕ) → ev ≡ Took k count → Passes ev

module _ (limit c n : ℕ) (L : List Item) (accounts : Accounts L) (none : has_unsettled L c ≡ false) (met : was_accepted L ≡ true) (over : shut L c ≡ true) where
  -- it is shut
  shut_then : (d : ℕ) → (c == d) ≡ true → not (shut L d) ≡ true → ⊥
  shut_then d same f = false≢true (sym (ap not (subst (λ (j : ℕ). shut L j ≡ true) (eqb-true c d same) over)) ∙ f)

  asked_not : (d : ℕ) → (c == d) ≡ true → is_asked L d ≡ true → ⊥
  asked_not d same f = shut_then d same (and_parts (not (shut L d)) (not (upgraded L d)) (and_parts (not (shut L d) && not (upgraded L d)) (client_wanted L d) f).0).0

  upgraded_not : (d : ℕ) → (c == d) ≡ true → is_asked_upgraded L d ≡ true → ⊥
  upgraded_not d same f = shut_then d same (and_parts (not (shut L d)) (upgraded L d) (and_parts (not (shut L d) && upgraded L d) (client_wanted L d) f).0).0

  open_not : (d : ℕ) → (c == d) ≡ true → is_open_own L d ≡ true → ⊥
  open_not d same f = shut_then d same (and_parts (was_accepted L) (not (shut L d)) f).1

  only_client : (ev : Event) (ks : List ℕ) (b : Bool) → ((k : ℕ) → names_child k (In ev) ≡ false) → (b || names_one_of ks (In ev)) ≡ true → b ≡ true
  only_client ev [] b other is = or_nothing b is
    where
      or_nothing : (b : Bool) → (b || false) ≡ true → b ≡ true
      or_nothing true e = refl
      or_nothing false e = e
  only_client ev (k ∷ ks) b other is = only_client ev ks b other (sym (ap (λ (x : Bool). b || (x || names_one_of ks (In ev))) (other k)) ∙ is)

  of_child : (ev : Event) → names_one_of (children L c) (In ev) ≡ true → fits_own limit L ev ≡ true → Passes ev
  of_child ev some f =
      let s = named_settled L (In ev) (children L c) none some in
      let t = late_is_took limit L s.child accounts s.settled_then ev s.named f in
      takes s.child t.count t.is

  pub what_passes : (ev : Event) → (is_common (In ev) || is_of c (children L c) n (In ev)) ≡ true → fits_own limit L ev ≡ true → Passes ev
  what_passes (Tick secs) mine f = ticks secs refl
  what_passes Stop mine f = stops refl
  what_passes (Accepted p) mine f = absurd (false≢true (sym (ap not met) ∙ (and_parts (not (stopped L)) (not (was_accepted L)) f).1))
  what_passes (ClientBytes d bytes) mine f =
      absurd (asked_not d (only_client (ClientBytes d bytes) (children L c) (c == d) (λ k. refl) mine) (and_parts (is_asked L d) _ f).0)
  what_passes (ClientEof d) mine f = absurd (asked_not d (only_client (ClientEof d) (children L c) (c == d) (λ k. refl) mine) f)
  what_passes (ClientGone d) mine f = absurd (open_not d (only_client (ClientGone d) (children L c) (c == d) (λ k. refl) mine) f)
  what_passes (NoRoom d) mine f = absurd (open_not d (only_client (NoRoom d) (children L c) (c == d) (λ k. refl) mine) f)
  what_passes (Wrote d m) mine f =
      absurd (shut_then d (only_client (Wrote d m) (children L c) (c == d) (λ k. refl) mine) (and_parts (not (shut L d)) _ (and_parts (not (shut L d) && _) _ f).0).0)
  what_passes (WsText d bytes) mine f = absurd (upgraded_not d (only_client (WsText d bytes) (children L c) (c == d) (λ k. refl) mine) f)
  what_passes (WsBinary d) mine f = absurd (upgraded_not d (only_client (WsBinary d) (children L c) (c == d) (λ k. refl) mine) f)
  what_passes (WsClosed d) mine f = absurd (upgraded_not d (only_client (WsClosed d) (children L c) (c == d) (λ k. refl) mine) f)
  what_passes (WsBad d) mine f = absurd (upgraded_not d (only_client (WsBad d) (children L c) (c == d) (λ k. refl) mine) f)
  what_passes (Started k) mine f = of_child (Started k) mine f
  what_passes (StartFailed k) mine f = of_child (StartFailed k) mine f
  what_passes (StartFull k seen) mine f = of_child (StartFull k seen) mine f
  what_passes (ChildBytes k bytes) mine f = of_child (ChildBytes k bytes) mine f
  what_passes (ChildEof k) mine f = of_child (ChildEof k) mine f
  what_passes (ChildBroken k) mine f = of_child (ChildBroken k) mine f
  what_passes (Took k m) mine f = takes k m refl
  what_passes (InputGone k) mine f = of_child (InputGone k) mine f
  what_passes (Exited k) mine f = of_child (Exited k) mine f

-- ---- it stays as it is

calm_free : (run : Option View) → Calm run → is_some (unsettled_of run) ≡ false
calm_free None calm = refl
calm_free (Some v) calm = ap (λ (b : Bool). is_some (if b then None else Some v.number)) (calm v refl).0

free_settled : (run : Option View) → is_some (unsettled_of run) ≡ false → run_settled run ≡ true
free_settled None none = refl
free_settled (Some v) none = go (is_settled v) none
  where
    go : (b : Bool) → is_some (if b then None else Some v.number) ≡ false → b ≡ true
    go true e = refl
    go false e = absurd (false≢true (sym e))

not_not : (b : Bool) → not b ≡ false → b ≡ true
not_not true e = refl
not_not false e = absurd (false≢true (sym e))

-- the event leaves these flags
record Leaves (ev : Event) : Type 0 where
  pub accepted : (m : Flags) → (noted m (In ev)).accepted ≡ m.accepted
  pub over : (m : Flags) → (noted m (In ev)).shut ≡ m.shut

module _ (law : StepsAreGood) (site : Site) (conn : HttpConn) (L : List Item) (t : ConnStands site conn L) (free : needs_slot conn ≡ false) where
  over : (flags_of conn).shut ≡ true
  over = not_not (flags_of conn).shut (or_parts (not (flags_of conn).shut) (is_some (unsettled_child_of conn)) free).0

  settled_now : run_settled conn.run ≡ true
  settled_now = free_settled conn.run (or_parts (not (flags_of conn).shut) (is_some (unsettled_child_of conn)) free).1

  rest : AtRest conn L t.exchange t.legs t.next
  rest = subst (λ (left : ℕ). AtRest (with_left left conn) L t.exchange t.legs t.next) (t.told (t.met over)) t.rest

  passing : Passing conn
  passing = record { unanswered = unanswered conn L t.exchange t.legs t.next rest settled_now; calm = run_calm conn L t.exchange t.legs t.next rest settled_now; begun = λ b. over }

  module _ (limit n : ℕ) (stamp : Option ℕ) where
    stays : (ev : Event) (new : HttpConn) → Leaves ev → Passed conn ev new → fits_own (site_of conn).limits.children L ev ≡ true → Fitting limit (number_of conn) n stamp L ev
        → Gone conn_kind site (number_of conn) (L ++ In ev ∷ [])
    stays ev new leaves p fits fit =
        let number : number_of new ≡ number_of conn = ap (λ (m : Flags). m.c) p.flags in
        let over_then : (flags_of new).shut ≡ true = ap (λ (m : Flags). m.shut) p.flags ∙ (leaves.over (flags_of conn) ∙ over) in
        let met_then : (flags_of new).accepted ≡ true = ap (λ (m : Flags). m.accepted) p.flags ∙ (leaves.accepted (flags_of conn) ∙ t.met over) in
        let dead : is_live (flags_of new) ≡ false = and_none (flags_of new).accepted (not (flags_of new).shut) (ap not over_then) in
        let i = idled_step law conn new L t.exchange t.legs n ev stamp (rest_at conn L t.exchange t.legs t.next n rest fit.fresh) fits fit.clock p dead in
        record {
          conn = new;
          number = number;
          stands = record {
            site_is = p.site ∙ t.site_is;
            left = new.idle_left;
            told = λ met. refl;
            exchange = i.rests.exchange;
            legs = i.rests.legs;
            next = n;
            rest = i.rests.rest;
            met = λ shut. met_then;
            accounts = accounts_kept limit L ev [] t.accounts fit.fits;
            asks = subst (λ (s : Site). hears s (number_of new) i.rests.exchange ≡ true) (sym p.site)
                (subst (λ (c : ℕ). hears (site_of conn) c i.rests.exchange ≡ true) (sym number)
                (asks_of (site_of conn) (number_of conn) L ev [] i.rests.exchange i.good
                (i.rests.rest.now ∙ (ap (λ (s : Site). current s (number_of new) (L ++ In ev ∷ [])) p.site ∙ ap (λ (c : ℕ). current (site_of conn) c (L ++ In ev ∷ [])) number))));
            good = subst (λ (c : ℕ). GoodFor site c (L ++ In ev ∷ [])) (sym number)
                (AtEachStep-push (StepGood site (number_of conn)) L ev [] t.good (subst (λ (s : Site). StepGood s (number_of conn) (step_of L ev [])) t.site_is i.good));
          };
          free = or_from (not (flags_of new).shut) (is_some (unsettled_child_of new)) (ap not over_then) (calm_free new.run p.calm);
        }
      where
        and_none : (a b : Bool) → b ≡ false → (a && b) ≡ false
        and_none true b e = e
        and_none false b e = refl

    by : (ev : Event) → Passes ev → Fitting limit (number_of conn) n stamp L ev → Gone conn_kind site (number_of conn) (L ++ In ev ∷ [])
    by ev (ticks secs is) fit =
        let f : Fitting limit (number_of conn) n stamp L (Tick secs) = subst (λ (x : Event). Fitting limit (number_of conn) n stamp L x) is fit in
        subst (λ (x : Event). Gone conn_kind site (number_of conn) (L ++ In x ∷ [])) (sym is)
        (stays (Tick secs) (ticked_on conn secs (conn.idle_left == 1) (begun_of conn.request)) (record { accepted = λ m. refl; over = λ m. refl }) (tick_passes conn secs passing) f.fits f)
    by ev (stops is) fit =
        let f : Fitting limit (number_of conn) n stamp L Stop = subst (λ (x : Event). Fitting limit (number_of conn) n stamp L x) is fit in
        subst (λ (x : Event). Gone conn_kind site (number_of conn) (L ++ In x ∷ [])) (sym is)
        (stays Stop (passed conn Stop) (record { accepted = λ m. refl; over = λ m. refl }) (stop_passes conn passing) f.fits f)
    by ev (takes k m is) fit =
        let f : Fitting limit (number_of conn) n stamp L (Took k m) = subst (λ (x : Event). Fitting limit (number_of conn) n stamp L x) is fit in
        subst (λ (x : Event). Gone conn_kind site (number_of conn) (L ++ In x ∷ [])) (sym is)
        (stays (Took k m) (passed conn (Took k m)) (record { accepted = λ m. refl; over = λ m. refl }) (took_passes conn k m passing) f.fits f)

    pub goes_on : (ev : Event) → Fitting limit (number_of conn) n stamp L ev → Gone conn_kind site (number_of conn) (L ++ In ev ∷ [])
    goes_on ev fit =
        by ev
        (what_passes limit (number_of conn) n L t.accounts (all_settled conn L t.exchange t.legs t.next rest settled_now) (sym rest.flags.accepted ∙ t.met over) (sym rest.flags.shut ∙ over) ev fit.mine fit.fits) fit

pub idle : (law : StepsAreGood) (site : Site) (c : ℕ) (L : List Item) (limit n : ℕ) (stamp : Option ℕ) (ev : Event) → Gone conn_kind site c L → Fitting limit c n stamp L ev
    → Gone conn_kind site c (L ++ In ev ∷ [])
idle law site c L limit n stamp ev g fit =
    subst (λ (d : ℕ). Gone conn_kind site d (L ++ In ev ∷ [])) g.number
    (goes_on law site g.conn L g.stands g.free limit n stamp ev (subst (λ (d : ℕ). Fitting limit d n stamp L ev) (sym g.number) fit))
