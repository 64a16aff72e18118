-- A step gives what the core of all connections asks of it.
use Rattle.std.proofs.Common.{◌≡◌, ◌≤◌, ℕ, ◌==◌, ◌||◌, Bool, true, false, List, [], ◌∷◌, ◌++◌, map, Option, Some, None, refl, sym, ap, ◌∙◌, subst, append_assoc}
use Rattle.std.specs.List.{list_any}
use Rattle.std.specs.Option.{option_map}
use Rattle.std.proofs.lemmas.Bool.{eq-eqb, eqb-true, false≢true, or_left, or_right}
use Rattle.std.proofs.lemmas.Grind.{flat_map-append}
use Rattle.std.proofs.lemmas.List.Folds.{list_any-append}
use Rattle.host_base.specs.declared.launch.Peer.{Peer}
use Rattle.host_base.specs.declared.site.Site.{Site}
use Rattle.host_trace.specs.declared.items.Act.{Act}
use Rattle.host_trace.specs.declared.items.Event.{Event}
use Rattle.host_trace.specs.declared.items.Event.TheVariants.{Accepted}
use Rattle.host_trace.specs.declared.items.Item.{Item}
use Rattle.host_trace.specs.declared.items.Item.TheVariants.{In, Out}
use Rattle.host_trace.specs.Kinds.{child_started, is_accepted, names_child}
use Rattle.host_trace.specs.Projections.{children}
use Rattle.host_trace.specs.Trace.{after_step, step_of}
use Rattle.own_traces.specs.OwnFits.{was_accepted}
use Rattle.own_traces.specs.Whose.{are_of, has, kids_after, next_after}
use Rattle.child_core.specs.Calls.{heard_if, is_heard}
use Rattle.child_core.specs.View.{View}
use Rattle.conn_flags.specs.Form.{are_given}
use Rattle.conn_flags.specs.View.{View as Flags, noted}
use Rattle.conn_flags.proofs.KnowsLaws.{given_all-number}
use Rattle.trace_model.specs.Between.{turns_away}
use Rattle.trace_model.specs.Exchange.{Exchange, all_of}
use Rattle.trace_model.specs.Exchanges.{current}
use Rattle.trace_model.specs.Good.{GoodFor, StepGood}
use Rattle.trace_model.specs.Hears.{hears}
use Rattle.trace_model.specs.Legs.{Leg}
use Rattle.trace_model.proofs.ExchangeLaws.{all_of-current}
use Rattle.trace_model.proofs.LiftLaws.{AtEachStep-push}
use Rattle.child_laws.specs.Children.{KnowsChildren, KnowsRuns, NoMore}
use Rattle.child_laws.specs.Legs.{children_of_legs}
use Rattle.child_laws.proofs.LegLaws.{children-last}
use Rattle.conn_laws.specs.Moves.{acts_of}
use Rattle.conn_laws.proofs.MoveLaws.{acts_of-append}
use Rattle.http_conn.specs.HttpConn.{HttpConn}
use Rattle.http_conn.specs.Hears.{Hears, accepted, heard_run, told_run}
use Rattle.http_conn.specs.Kept.{HasChildIn, Kept, Within, flags_of, number_of, site_of}
use Rattle.http_conn.specs.Step.{Stepped}
use Rattle.http_conn.proofs.StateLaws.{heard_accepted, hears_by}
use Rattle.http_conn.specs.Kept.{HeardOwn}
use Rattle.http_stage_laws.specs.HeardStages.{AtRest}
use Rattle.many_conns.specs.Kept.{is_child}
use Rattle.many_conns.specs.Kind.{AreIts, Fitting, Gives, StepOwn, Within as KidWithin}
use Rattle.good_step_laws.specs.Steps.Laws.{StepsAreGood}
use Rattle.good_step_laws.specs.Http.Laws.{Rests, StepsGive}
use Rattle.good_step_laws.specs.Http.Stands.{ConnStands, conn_kind, with_left}
use Rattle.http_conn.specs.Kid.{number_in}
use Rattle.good_step_laws.proofs.Http.AccountLaws.{accounts_kept}
use Rattle.good_step_laws.proofs.Http.StepWords.{as_pair, asks_of}
use Rattle.good_step_laws.proofs.Http.FullLaws.{none_given, of_steps}

-- ---- its child

pub within_in : (run : Option View) (ks : List ℕ) → KidWithin (option_map number_in run) ks → Within run ks
within_in None ks w = tt
within_in (Some v) ks w = w

pub within_out : (run : Option View) (ks : List ℕ) → Within run ks → KidWithin (option_map number_in run) ks
within_out None ks w = tt
within_out (Some v) ks w = w

pub has-append : (k : ℕ) (xs ys : List ℕ) → has ys k ≡ true → has (xs ++ ys) k ≡ true
has-append k xs ys it = list_any-append (λ j. j == k) xs ys ∙ or_right (has xs k) (has ys k) it

-- its child was started in its list
pub child_in : (site : Site) (c : ℕ) (e : Exchange) (next : ℕ) (legs : List Leg) (run : Option View) → KnowsChildren site c e false next legs run → Within run (children (all_of e) c)
child_in site c e next legs run k = go run k.runs
  where
    go : (r : Option View) → KnowsRuns NoMore site c e false legs r → Within r (children (all_of e) c)
    go None runs = tt
    go (Some v) runs =
        let number : v.number ≡ runs.leg.child = ap number_in runs.held_as ∙ runs.known.is.number in
        let kids : children e.items c ≡ children_of_legs runs.older ++ runs.leg.child ∷ [] = runs.started ∙ (ap children_of_legs runs.are ∙ children-last runs.older runs.leg) in
        ap (λ (l : List ℕ). has l v.number) (flat_map-append (child_started c) e.before e.items)
        ∙ has-append v.number (children e.before c) (children e.items c)
        (ap (λ (l : List ℕ). has l v.number) kids
        ∙ has-append v.number (children_of_legs runs.older) (runs.leg.child ∷ []) (or_left _ _ (eq-eqb runs.leg.child v.number (sym number))))

pub last_child_started : (site : Site) (conn : HttpConn) (L : List Item) (k : ℕ) → ConnStands site conn L → is_child (option_map number_in conn.run) k ≡ true → has (children L (number_of conn)) k ≡ true
last_child_started site conn L k t is =
    go conn.run is
    (subst (λ (l : List Item). Within conn.run (children l (number_of conn))) (ap all_of t.rest.now ∙ all_of-current (site_of conn) (number_of conn) L)
    (child_in (site_of conn) (number_of conn) t.exchange t.next t.legs conn.run t.rest.children))
  where
    go : (run : Option View) → is_child (option_map number_in run) k ≡ true → Within run (children L (number_of conn)) → has (children L (number_of conn)) k ≡ true
    go None is w = absurd (false≢true is)
    go (Some v) is w = subst (λ (j : ℕ). has (children L (number_of conn)) j ≡ true) (eqb-true v.number k is) w

-- ---- at rest, whatever number the next child has that no item names

pub rest_at : (conn : HttpConn) (L : List Item) (e : Exchange) (legs : List Leg) (next n : ℕ) → AtRest conn L e legs next → ((k : ℕ) → n ≤ k → list_any (names_child k) L ≡ false) → AtRest conn L e legs n
rest_at conn L e legs next n r fresh = record {
  two = r.two;
  small = r.small;
  now = r.now;
  front = r.front;
  children = record { fresh = λ k le. ap (list_any (names_child k)) (ap all_of r.now ∙ all_of-current (site_of conn) (number_of conn) L) ∙ fresh k le; runs = r.children.runs };
  even = r.even;
  starts_first = r.starts_first;
  flags = r.flags;
  inward = r.inward;
  unheard = r.unheard;
  unended = r.unended;
  found = r.found;
  lost = r.lost;
}

-- ---- the Ticks before its Accepted

heard_number : (v : View) (ev : Event) (found b : Bool) → (heard_if b v ev found).number ≡ v.number
heard_number v ev found true = refl
heard_number v ev found false = refl

pub told_kept : (conn : HttpConn) (ev : Event) (found : Bool) → Kept conn (told_run ev found conn)
told_kept conn ev true = record {
  site = refl;
  flags = refl;
  peer_is = refl;
  child = λ ks w. go ks conn.run w;
  front = refl;
  lost = λ l. l;
  reading = λ r. r;
}
  where
    go : (ks : List ℕ) (run : Option View) → Within run ks → Within (heard_run ev true run) ks
    go ks None w = tt
    go ks (Some v) w = subst (λ (k : ℕ). has ks k ≡ true) (sym (heard_number v ev true (is_heard ev))) w
told_kept conn ev false = record {
  site = refl;
  flags = refl;
  peer_is = refl;
  child = λ ks w. go ks conn.run w;
  front = refl;
  lost = λ l. refl;
  reading = λ r. r;
}
  where
    go : (ks : List ℕ) (run : Option View) → Within run ks → HasChildIn (told_run ev false (record conn { run = run })) ks
    go ks None w = tt
    go ks (Some v) w = subst (λ (k : ℕ). has ks k ≡ true) (sym (heard_number v ev false (is_heard ev))) w

-- With its Accepted the idle count begins anew, whatever was left of it.
hears_anew : (old mid : HttpConn) (p : Peer) (left : ℕ) → Hears old (Accepted p) mid → Hears (with_left left old) (Accepted p) mid
hears_anew old mid p left h =
    let m : Flags = noted (flags_of old) (In (Accepted p)) in
    let first : HttpConn = told_run (Accepted p) h.found (record (with_left left old) { flags = m }) in
    let own : h.mid ≡ accepted p first = go h.found h.own in
    let heard : HeardOwn first (Accepted p) h.mid =
    subst (λ (conn : HttpConn). HeardOwn first (Accepted p) conn) (sym own) (heard_accepted first p _ _ refl refl) in
    hears_by (with_left left old) first h.mid mid (Accepted p) m h.found refl (told_kept (record (with_left left old) { flags = m }) (Accepted p) h.found)
    (λ t. absurd (false≢true t)) refl h.memory heard own h.settles
  where
    go : (f : Bool) → h.mid ≡ accepted p (told_run (Accepted p) f (record old { flags = noted (flags_of old) (In (Accepted p)) }))
        → h.mid ≡ accepted p (told_run (Accepted p) f (record (with_left left old) { flags = noted (flags_of old) (In (Accepted p)) }))
    go true e = e
    go false e = e

-- It hears an event as if it had heard the Ticks before its Accepted.
pub hears_left : (old mid : HttpConn) (ev : Event) (left : ℕ) (L : List Item) → (flags_of old).accepted ≡ list_any is_accepted L → ((flags_of old).accepted ≡ true → left ≡ old.idle_left)
    → was_accepted (L ++ In ev ∷ []) ≡ true → Hears old ev mid → Hears (with_left left old) ev mid
hears_left old mid (Accepted p) left L knows told met h = hears_anew old mid p left h
hears_left old mid ev left L knows told met h =
    let was : list_any is_accepted L ≡ true = or_nothing (list_any is_accepted L) (sym (list_any-append is_accepted L (In ev ∷ [])) ∙ met) in
    subst (λ (n : ℕ). Hears (with_left n old) ev mid) (sym (told (knows ∙ was))) h
  where
    or_nothing : (b : Bool) → (b || false) ≡ true → b ≡ true
    or_nothing true e = e
    or_nothing false e = e

-- ---- the step

module _ (old new : HttpConn) (ev : Event) (stamp : Option ℕ) (n m : ℕ) (before after : Option (List Item)) (s : Stepped old ev stamp n before new m after) where
  acts_later : s.acts ≡ acts_of s.later
  acts_later =
      sym s.same ∙ (ap acts_of s.are ∙ (acts_of-append s.heard.moves s.later ∙ ap (λ (l : List Act). l ++ acts_of s.later) s.heard.none))

  pub number_kept : number_of new ≡ number_of old
  number_kept = ap (λ (v : Flags). v.c) s.flags ∙ given_all-number (noted (flags_of old) (In ev)) s.acts

  its_own : (ks : List ℕ) → KidWithin (option_map number_in old.run) ks → AreIts conn_kind old n ks s.acts new
  its_own ks w =
      let own = s.own ks (within_in old.run ks w) in
      record { are = own.are; child = within_out new.run (kids_after ks (number_of old) s.acts) own.child }

  module _ (law : StepsAreGood) (L : List Item) (t : ConnStands (site_of old) old L) (fit : Fitting (site_of old).limits.children (number_of old) n stamp L ev) where
    all_is : all_of t.exchange ≡ L
    all_is = ap all_of t.rest.now ∙ all_of-current (site_of old) (number_of old) L

    alone : are_of (number_of old) (children L (number_of old)) n s.acts ≡ true
    alone =
        (s.own (children L (number_of old))
        (subst (λ (l : List Item). HasChildIn old (children l (number_of old))) all_is
        (child_in (site_of old) (number_of old) t.exchange t.next t.legs old.run t.rest.children))).are

    one : StepGood (site_of old) (number_of old) (step_of L ev s.acts) × Rests new (after_step L ev s.acts) (next_after n s.acts)
    one =
        subst (λ (acts : List Act). StepGood (site_of old) (number_of old) (step_of L ev acts) × Rests new (after_step L ev acts) (next_after n acts)) (sym acts_later)
        (as_pair (law (with_left t.left old) s.mid new L t.exchange t.legs ev stamp n s.later (rest_at (with_left t.left old) L t.exchange t.legs t.next n t.rest fit.fresh) fit.fits fit.clock
        (hears_left old s.mid ev t.left L t.rest.flags.accepted t.told fit.told s.exact) s.does
        (subst (λ (acts : List Act). are_given (noted (flags_of old) (In ev)) acts ≡ true) acts_later s.form)
        (subst (λ (acts : List Act). are_of (number_of old) (children L (number_of old)) n acts ≡ true) acts_later alone)))

    met_then : (flags_of new).accepted ≡ true
    met_then =
        one.1.rest.flags.accepted
        ∙ (ap (list_any is_accepted) (sym (append_assoc L (In ev ∷ []) (map Out s.acts)))
        ∙ (list_any-append is_accepted (L ++ In ev ∷ []) (map Out s.acts) ∙ or_left _ _ fit.told))

    now_then : one.1.exchange ≡ current (site_of old) (number_of old) (after_step L ev s.acts)
    now_then =
        one.1.rest.now
        ∙ (ap (λ (site : Site). current site (number_of new) (after_step L ev s.acts)) s.site ∙ ap (λ (c : ℕ). current (site_of old) c (after_step L ev s.acts)) number_kept)

    pub own_step : StepOwn conn_kind (site_of old) old n ev s.acts new L
    own_step = record {
      alone = alone;
      stands = record {
        site_is = s.site;
        left = new.idle_left;
        told = λ met. refl;
        exchange = one.1.exchange;
        legs = one.1.legs;
        next = next_after n s.acts;
        rest = one.1.rest;
        met = λ shut. met_then;
        accounts = accounts_kept (site_of old).limits.children L ev s.acts t.accounts fit.fits;
        asks = subst (λ (site : Site). hears site (number_of new) one.1.exchange ≡ true) (sym s.site)
            (subst (λ (c : ℕ). hears (site_of old) c one.1.exchange ≡ true) (sym number_kept) (asks_of (site_of old) (number_of old) L ev s.acts one.1.exchange one.0 now_then));
        good = subst (λ (c : ℕ). GoodFor (site_of old) c (after_step L ev s.acts)) (sym number_kept)
            (AtEachStep-push (StepGood (site_of old) (number_of old)) L ev s.acts t.good one.0);
      };
    }

  pub given : StepsAreGood → Gives conn_kind old n ev stamp new m before after
  given law = record {
    acts = s.acts;
    added = s.told;
    next = s.next;
    site = s.site;
    number = number_kept;
    stays = λ c. none_given c s.acts (ap (λ (l : List Act). list_any (λ act. turns_away c (Out act)) l) acts_later ∙ of_steps c stamp s.mid new n s.later s.does);
    its = its_own;
    own = λ L t fit. own_step law L t fit;
  }

pub steps_give : StepsGive
steps_give old new ev stamp n m before after law s = given old new ev stamp n m before after s law
