-- Bytes that the input of an earlier child took change nothing.
use Rattle.std.proofs.Common.{◌≡◌, ℕ, ◌==◌, ◌&&◌, ◌||◌, Bool, true, false, not, List, [], ◌∷◌, ◌++◌, Option, Some, None, is_some, if◌then◌else◌, inl, inr, refl, sym, ap, ◌∙◌, subst}
use Rattle.std.specs.Prelude.{filter}
use Rattle.std.specs.List.{list_any}
use Rattle.std.specs.Option.{option_map, option_to_list}
use Rattle.std.proofs.lemmas.Bool.{cond-false, cond-true, eqb-true, false≢true, or_cases, or_left, or_right, true_from_ne_false}
use Rattle.std.proofs.lemmas.List.Folds.{list_any-append}
use Rattle.host_base.specs.declared.site.Site.{Site}
use Rattle.host_trace.specs.declared.items.Event.{Event}
use Rattle.host_trace.specs.declared.items.Event.TheVariants.{Started, StartFailed, StartFull, ChildBytes, ChildEof, ChildBroken, Took, InputGone, Exited}
use Rattle.host_trace.specs.declared.items.Item.{Item}
use Rattle.host_trace.specs.declared.items.Item.TheVariants.{In}
use Rattle.host_trace.specs.Account.{settled}
use Rattle.host_trace.specs.Decider.{is_websocket}
use Rattle.host_trace.specs.First.{or_else}
use Rattle.host_trace.specs.Kinds.{is_accepted, names_child}
use Rattle.host_trace.specs.Projections.{children}
use Rattle.host_trace.specs.Trace.{step_of}
use Rattle.own_traces.specs.Whose.{has, is_common, is_of}
use Rattle.child_core.specs.Calls.{heard}
use Rattle.child_core.specs.View.{View}
use Rattle.conn_flags.specs.View.{View as Flags, has_room, is_live, more_by, noted}
use Rattle.trace_model.specs.Good.{StepGood}
use Rattle.trace_model.proofs.LiftLaws.{AtEachStep-push}
use Rattle.http_conn.specs.HttpConn.{HttpConn}
use Rattle.http_conn.specs.Hears.{Hears, heard_run}
use Rattle.http_conn.specs.Kept.{flags_of, number_of, site_of}
use Rattle.http_conn.specs.Parts.{Steps}
use Rattle.http_conn.specs.Settles.{is_over}
use Rattle.http_conn.specs.Slot.{unsettled_child_of}
use Rattle.http_conn.proofs.StateLaws.{heard_kept, hears_by, kept_same}
use Rattle.http_stage_laws.specs.HeardStages.{AtRest}
use Rattle.many_conns.specs.Kept.{is_child}
use Rattle.many_conns.specs.Kind.{Fitting}
use Rattle.good_step_laws.specs.Steps.Laws.{StepsAreGood}
use Rattle.good_step_laws.specs.Http.Laws.{LateAreKept}
use Rattle.good_step_laws.specs.Http.Stands.{ConnStands, with_left}
use Rattle.http_conn.specs.Kid.{number_in}
use Rattle.good_step_laws.proofs.Http.AccountLaws.{IsTook, accounts_kept, late_is_took}
use Rattle.good_step_laws.proofs.Http.StepWords.{asks_of}
use Rattle.good_step_laws.proofs.Http.KidLaws.{unsettled_is_last}
use Rattle.good_step_laws.proofs.Http.OwnLaws.{rest_at, told_kept}
use Rattle.good_step_laws.proofs.Http.PassLaws.{passed}
use Rattle.good_step_laws.proofs.Http.QuietLaws.{quiet_steps}
use Rattle.good_step_laws.proofs.Http.SettledLaws.{unsettled_is}
use Rattle.good_step_laws.proofs.Http.StillLaws.{live_still, rest_unover, still_child}
use Rattle.good_step_laws.proofs.Http.StillWords.{rest_quiet}

-- ---- the child is settled

-- it was started for the connection
pub kid_named : (c n k : ℕ) (ks : List ℕ) (ev : Event) → names_child k (In ev) ≡ true → (is_common (In ev) || is_of c ks n (In ev)) ≡ true → has ks k ≡ true
kid_named c n k ks (Started d) e mine = subst (λ (j : ℕ). list_any (λ i. i == j) ks ≡ true) (sym (eqb-true k d e)) mine
kid_named c n k ks (StartFailed d) e mine = subst (λ (j : ℕ). list_any (λ i. i == j) ks ≡ true) (sym (eqb-true k d e)) mine
kid_named c n k ks (StartFull d seen) e mine = subst (λ (j : ℕ). list_any (λ i. i == j) ks ≡ true) (sym (eqb-true k d e)) mine
kid_named c n k ks (ChildBytes d bytes) e mine = subst (λ (j : ℕ). list_any (λ i. i == j) ks ≡ true) (sym (eqb-true k d e)) mine
kid_named c n k ks (ChildEof d) e mine = subst (λ (j : ℕ). list_any (λ i. i == j) ks ≡ true) (sym (eqb-true k d e)) mine
kid_named c n k ks (ChildBroken d) e mine = subst (λ (j : ℕ). list_any (λ i. i == j) ks ≡ true) (sym (eqb-true k d e)) mine
kid_named c n k ks (Took d m) e mine = subst (λ (j : ℕ). list_any (λ i. i == j) ks ≡ true) (sym (eqb-true k d e)) mine
kid_named c n k ks (InputGone d) e mine = subst (λ (j : ℕ). list_any (λ i. i == j) ks ≡ true) (sym (eqb-true k d e)) mine
kid_named c n k ks (Exited d) e mine = subst (λ (j : ℕ). list_any (λ i. i == j) ks ≡ true) (sym (eqb-true k d e)) mine
kid_named c n k ks ev e mine = absurd (false≢true e)

kept_in : (test : ℕ → Bool) (k : ℕ) (ks : List ℕ) → has ks k ≡ true → test k ≡ true → has (filter test ks) k ≡ true
kept_in test k [] it passes = absurd (false≢true it)
kept_in test k (j ∷ ks) it passes = elim (or_cases (j == k) (has ks k) it) [
  | inl here ↦
      let also : test j ≡ true = subst (λ (i : ℕ). test i ≡ true) (sym (eqb-true j k here)) passes in
      ap (λ (l : List ℕ). has l k) (cond-true (test j) (j ∷ filter test ks) (filter test ks) also) ∙ or_left (j == k) (has (filter test ks) k) here
  | inr later ↦ go (test j) refl (kept_in test k ks later passes)
]
  where
    go : (b : Bool) → test j ≡ b → has (filter test ks) k ≡ true → has (filter test (j ∷ ks)) k ≡ true
    go true is rest = ap (λ (l : List ℕ). has l k) (cond-true (test j) (j ∷ filter test ks) (filter test ks) is) ∙ or_right (j == k) (has (filter test ks) k) rest
    go false is rest = ap (λ (l : List ℕ). has l k) (cond-false (test j) (j ∷ filter test ks) (filter test ks) is) ∙ rest

only_child : (o : Option ℕ) (k : ℕ) → has (option_to_list o) k ≡ true → is_child o k ≡ true
only_child None k it = absurd (false≢true it)
only_child (Some j) k it = alone (j == k) it
  where
    alone : (b : Bool) → (b || false) ≡ true → b ≡ true
    alone true e = refl
    alone false e = e

pub settled_but : (L : List Item) (c k : ℕ) (child : Option ℕ) → filter (λ j. not (settled L j)) (children L c) ≡ option_to_list child → has (children L c) k ≡ true → (is_child child k ≡ true → ⊥) → settled L k ≡ true
settled_but L c k child are it other =
    true_from_ne_false (settled L k) (λ open_yet.
    other (only_child child k (ap (λ (l : List ℕ). has l k) (sym are) ∙ kept_in (λ j. not (settled L j)) k (children L c) it (ap not open_yet))))

settled_kid : (site : Site) (conn : HttpConn) (L : List Item) (k : ℕ) → ConnStands site conn L → has (children L (number_of conn)) k ≡ true → is_child (option_map number_in conn.run) k ≡ false → settled L k ≡ true
settled_kid site conn L k t it other =
    settled_but L (number_of conn) k (unsettled_child_of conn) (unsettled_is site conn L t) it (λ open_yet. false≢true (sym other ∙ unsettled_is_last conn k open_yet))

-- ---- it hears nothing of it

flags_same : (m : Flags) (k n : ℕ) → m.upgraded ≡ false → noted m (In (Took k n)) ≡ m
flags_same m k n http = ap (λ (b : Bool). record m { pending = more_by (if b then 0 else 0) m.pending }) http

and_false : (b : Bool) → (b && false) ≡ false
and_false true = refl
and_false false = refl

or_none : {X : Type 0} (o : Option X) → or_else o None ≡ o
or_none None = refl
or_none (Some x) = refl

run_same : (run : Option View) (k n : ℕ) → is_child (option_map number_in run) k ≡ false → heard_run (Took k n) true run ≡ run
run_same None k n other = refl
run_same (Some v) k n other =
    ap (λ (w : View). Some w) (let same : heard v (Took k n) true ≡ v = rw (other, and_false (is_websocket v.kind), and_false (not (is_some v.outcome)), or_none v.outcome) refl in same)

-- ---- nothing is done

module _ (law : StepsAreGood) (site : Site) (conn : HttpConn) (L : List Item) (limit n : ℕ) (stamp : Option ℕ) (k m : ℕ) (t : ConnStands site conn L)
    (fit : Fitting limit (number_of conn) n stamp L (Took k m)) (other : is_child (option_map number_in conn.run) k ≡ false) where
  met : (flags_of conn).accepted ≡ true
  met = t.rest.flags.accepted ∙ or_nothing (list_any is_accepted L) (sym (list_any-append is_accepted L (In (Took k m) ∷ [])) ∙ fit.told)
    where
      or_nothing : (b : Bool) → (b || false) ≡ true → b ≡ true
      or_nothing true e = refl
      or_nothing false e = e

  rest : AtRest conn L t.exchange t.legs n
  rest = rest_at conn L t.exchange t.legs t.next n (subst (λ (left : ℕ). AtRest (with_left left conn) L t.exchange t.legs t.next) (t.told met) t.rest) fit.fresh

  same : passed conn (Took k m) ≡ conn
  same =
      ap (λ (x : Flags). record conn { flags = x; run = heard_run (Took k m) true conn.run }) (flags_same conn.flags k m rest.inward.http)
      ∙ ap (λ (x : Option View). record conn { run = x }) (run_same conn.run k m other)

  unover : is_over conn ≡ false
  unover = rest_unover conn L t.exchange t.legs n rest

  hears_it : Hears conn (Took k m) conn
  hears_it =
      let new : HttpConn = passed conn (Took k m) in
      let un : is_over new ≡ false = ap is_over same ∙ unover in
      subst (λ (x : HttpConn). Hears conn (Took k m) x) same
      (hears_by conn new new new (Took k m) (noted (flags_of conn) (In (Took k m))) true refl (told_kept (record conn { flags = noted (flags_of conn) (In (Took k m)) }) (Took k m) true)
      (λ x. absurd (false≢true x)) refl (λ x. absurd (false≢true (sym x))) (heard_kept (record { anew = refl; tick = refl; bytes = refl; peer_is = refl }) (kept_same new)) refl
      (record { on = λ o. refl; over = λ o. absurd (false≢true (sym un ∙ o)) }))

  steps : Steps stamp conn n [] conn
  steps = go (is_live (flags_of conn)) refl
    where
      go : (b : Bool) → is_live (flags_of conn) ≡ b → Steps stamp conn n [] conn
      go true live = live_still conn L t.exchange t.legs n rest t.asks stamp live (still_child conn L t.exchange t.legs n rest)
      go false dead = quiet_steps conn stamp n dead unover (λ v is. rest_quiet (has_room conn.flags) v (rest.even v is))

  pub took_late : ConnStands site conn (L ++ In (Took k m) ∷ [])
  took_late =
      let one = law conn conn conn L t.exchange t.legs (Took k m) stamp n [] rest fit.fits fit.clock hears_it steps refl refl in
      record {
        site_is = t.site_is;
        left = conn.idle_left;
        told = λ x. refl;
        exchange = one.exchange;
        legs = one.legs;
        next = n;
        rest = one.rests;
        met = t.met;
        accounts = accounts_kept limit L (Took k m) [] t.accounts fit.fits;
        asks = asks_of (site_of conn) (number_of conn) L (Took k m) [] one.exchange one.good one.rests.now;
        good = AtEachStep-push (StepGood site (number_of conn)) L (Took k m) [] t.good (subst (λ (s : Site). StepGood s (number_of conn) (step_of L (Took k m) [])) t.site_is one.good);
      }

pub late : StepsAreGood → LateAreKept
late law site conn L limit n stamp k ev t fit named other =
    let it : has (children L (number_of conn)) k ≡ true = kid_named (number_of conn) n k (children L (number_of conn)) ev named fit.mine in
    let took : IsTook ev k = late_is_took limit L k t.accounts (settled_kid site conn L k t it other) ev named fit.fits in
    subst (λ (x : Event). ConnStands site conn (L ++ In x ∷ [])) (sym took.is)
    (took_late law site conn L limit n stamp k took.count t (subst (λ (x : Event). Fitting limit (number_of conn) n stamp L x) took.is fit) other)
