-- One may be turned away: its step is good, and it needs no slot.
use Rattle.std.proofs.Common.{◌≡◌, ℕ, ◌==◌, ◌&&◌, ◌||◌, Bool, true, false, not, List, [], ◌∷◌, ◌++◌, None, if◌then◌else◌, refl, sym, ap, ◌∙◌, subst}
use Rattle.std.proofs.lemmas.Bool.{and_from, eq-eqb, false≢true, or_right}
use Rattle.host_base.specs.declared.launch.Peer.{Peer}
use Rattle.host_base.specs.declared.site.Site.{Site}
use Rattle.host_trace.specs.declared.items.Act.{Act}
use Rattle.host_trace.specs.declared.items.Act.TheVariants.{Shut}
use Rattle.host_trace.specs.declared.items.Event.{Event}
use Rattle.host_trace.specs.declared.items.Event.TheVariants.{Accepted}
use Rattle.host_trace.specs.declared.items.Item.{Item}
use Rattle.host_trace.specs.declared.items.Item.TheVariants.{In, Out}
use Rattle.host_trace.specs.declared.items.Why.{Why}
use Rattle.host_trace.specs.declared.items.Why.TheVariants.{Full, NoMemory}
use Rattle.host_trace.specs.Projections.{client_wanted, shut, stopped}
use Rattle.host_trace.specs.Trace.{Step, step_of}
use Rattle.trace_child.specs.Words.{once}
use Rattle.conn_laws.proofs.FormLaws.{flags_say}
use Rattle.trace_model.specs.Children.{ChildrenGood}
use Rattle.trace_model.specs.Demands.{is_live as live_then, must_hear}
use Rattle.trace_model.specs.Exchange.{Exchange, all_of, pushed}
use Rattle.trace_model.specs.Exchanges.{current, ended_after, ended_by, ended_of, has_ended, next_by}
use Rattle.trace_model.specs.Form.{comes_in_form}
use Rattle.trace_model.specs.Good.{GoodFor, StepGood}
use Rattle.trace_model.specs.Legs.{Leg}
use Rattle.trace_model.specs.Replies.{is_silent_once_closed, replies_end}
use Rattle.trace_model.specs.Shuts.{are_whys, why_due, whys_due}
use Rattle.trace_model.specs.Steps.{each_act, ended_in, exchanges_in, goes_on}
use Rattle.trace_model.proofs.ExchangeLaws.{all_of-current}
use Rattle.trace_model.proofs.LiftLaws.{AtEachStep-push}
use Rattle.exchange_laws.proofs.AskLaws.{shut_asks}
use Rattle.exchange_laws.proofs.RestLaws.{met, no_demand}
use Rattle.trace_model.specs.Says.{says}
use Rattle.trace_model.specs.Talks.{talks}
use Rattle.child_laws.specs.Children.{KnowsChildren}
use Rattle.child_laws.specs.Step.{waiting}
use Rattle.child_laws.specs.Moves.{Deals}
use Rattle.child_laws.proofs.MoveLaws.{acts_move, moves_begin, moves_end_well}
use Rattle.http_conn.specs.HttpConn.{HttpConn}
use Rattle.http_conn.specs.Kept.{site_of}
use Rattle.http_stage_laws.specs.HeardStages.{AtRest}
use Rattle.many_conns.specs.Kind.{AreTicks, Gone}
use Rattle.good_step_laws.specs.Steps.Laws.{StepsAreGood}
use Rattle.good_step_laws.specs.Http.Stands.{ConnStands, conn_kind}
use Rattle.good_step_laws.proofs.Http.AccountLaws.{accounts_kept}
use Rattle.good_step_laws.proofs.Http.StepWords.{asks_of}
use Rattle.good_step_laws.proofs.Http.AwayRest.{away_conn, away_dead, away_on, away_rests, away_shut, fits, fresh_conn, fresh_is_new, met_conn, met_flags, met_on}
use Rattle.good_step_laws.proofs.Http.BeginLaws.{begins}
use Rattle.good_step_laws.proofs.Http.RuleLaws.{Rules, rules_at, says_at, talks_at}

-- no exchange ends with either item
none_ended : (site : Site) (c : ℕ) (d : Exchange) (a b : Item) → has_ended site c (pushed d a) ≡ false → has_ended site c (pushed (pushed d a) b) ≡ false → ended_after site c d (a ∷ b ∷ []) ≡ []
none_ended site c d a b first second =
    ap (λ (x : Bool). ended_by (pushed d a) x ++ (ended_of site c (next_by site c (pushed d a) x) b ++ [])) first
    ∙ ap (λ (x : Bool). ended_by (pushed (pushed d a) b) x ++ []) second

-- it is shut since too many are held
away_shuts : (was same : Bool) (due : List Why) → was ≡ false → same ≡ true
    → (if was then are_whys ((if same then Full ∷ [] else []) ++ []) []
    else are_whys ((if same then Full ∷ [] else []) ++ []) due || are_whys ((if same then Full ∷ [] else []) ++ []) (NoMemory ∷ []) || true && are_whys ((if same then Full ∷ [] else []) ++ []) (Full ∷ [])) ≡ true
away_shuts true same due first second = absurd (false≢true (sym first))
away_shuts false false due first second = absurd (false≢true second)
away_shuts false true due first second = or_right (are_whys (Full ∷ []) due || are_whys (Full ∷ []) (NoMemory ∷ [])) true refl

module _ (x : HttpConn) (c left : ℕ) (peer : Peer) (L : List Item) (e : Exchange) (legs : List Leg) (n : ℕ) (r : AtRest (fresh_conn x c left) L e legs n) where
  abbrev s : Site
  s = site_of x

  abbrev ev : Event
  ev = Accepted peer

  abbrev act : Act
  act = Shut c Full

  abbrev last : Exchange
  last = pushed (pushed e (In ev)) (Out act)

  abbrev step : Step
  step = step_of L ev (act ∷ [])

  rest : AtRest (away_conn x c left peer) (L ++ In ev ∷ Out act ∷ []) last legs n
  rest = away_rests x c left peer L e legs n r

  last_is : last ≡ goes_on s c step
  last_is = rest.now

  ended_none : ended_in s c step ≡ []
  ended_none =
      none_ended s c (current s c L) (In ev) (Out act) (subst (λ (d : Exchange). has_ended s c (pushed d (In ev)) ≡ false) r.now (met_on x c left peer L e legs n r))
      (subst (λ (d : Exchange). has_ended s c (pushed (pushed d (In ev)) (Out act)) ≡ false) r.now (away_on x c left peer L e legs n r))

  rules : Rules s c (goes_on s c step)
  rules = subst (λ (d : Exchange). Rules s c d) last_is (rules_at (away_conn x c left peer) (L ++ In ev ∷ Out act ∷ []) last legs n rest)

  dead : live_then c (all_of (goes_on s c step)) ≡ false
  dead =
      ap (λ (l : List Item). live_then c l) (all_of-current s c (L ++ In ev ∷ Out act ∷ []))
      ∙ (sym (flags_say (away_conn x c left peer).flags (L ++ In ev ∷ Out act ∷ []) rest.flags).live ∙ away_dead x c left peer L e legs n r)

  asks_none : must_hear s c (goes_on s c step) ≡ false
  asks_none = shut_asks s c (goes_on s c step) dead

  silent_all : replies_end c (exchanges_in s c step) ≡ true
  silent_all = ap (λ (es : List Exchange). replies_end c (es ++ goes_on s c step ∷ [])) ended_none ∙ and_from (is_silent_once_closed c (goes_on s c step)) true rules.silent refl

  in_form : each_act s c comes_in_form step ≡ true
  in_form =
      and_from (live_then c (all_of (current s c (L ++ In ev ∷ [])))) true
      (ap (λ (l : List Item). live_then c l) (all_of-current s c (L ++ In ev ∷ []))
      ∙ sym (flags_say (met_conn x c left peer).flags (L ++ In ev ∷ []) (met_flags x c left peer L e legs n r)).live) refl

  children : ChildrenGood s c step
  children =
      let on : has_ended s c (pushed (current s c L) (In ev)) ≡ false = subst (λ (d : Exchange). has_ended s c (pushed d (In ev)) ≡ false) r.now (met_on x c left peer L e legs n r) in
      let on_then : has_ended s c (pushed (pushed (current s c L) (In ev)) (Out act)) ≡ false =
      subst (λ (d : Exchange). has_ended s c (pushed (pushed d (In ev)) (Out act)) ≡ false) r.now (away_on x c left peer L e legs n r) in
      let first : Deals s c L ev [] (pushed (current s c L) (In ev)) [] false waiting n legs None =
      moves_begin s c L ev true n legs None r.two (fits x c left peer L e legs n r) (subst (λ (d : Exchange). KnowsChildren s c d false n legs None) r.now r.children) in
      let second : Deals s c L ev (act ∷ []) (pushed (pushed (current s c L) (In ev)) (Out act)) [] false waiting n legs None =
      acts_move s c L ev [] (pushed (current s c L) (In ev)) [] act false waiting n legs None r.two refl refl on first in
      moves_end_well s c L ev (act ∷ []) (pushed (pushed (current s c L) (In ev)) (Out act)) [] waiting n legs None on_then second tt

  good : StepGood s c step
  good = record {
    good = record {
      replies = rules.replies_then;
      replies_end = silent_all;
      launches = refl;
      talk_acts = refl;
      upgrades = rules.upgrades_then;
      talks = subst (λ (d : Exchange). talks s c d ≡ true) last_is (talks_at (away_conn x c left peer) (L ++ In ev ∷ Out act ∷ []) last legs n rest);
      shuts = away_shuts (shut L c) (c == c) (whys_due (why_due s c (goes_on s c step))) (sym r.flags.shut) (eq-eqb c c refl);
      wants = ap (λ (b : Bool). 0 == once (b && not (client_wanted (L ++ In ev ∷ []) c))) asks_none;
      form = in_form;
      order = refl;
    };
    ready = record {
      begins = rules.begins_then;
      answers = rules.answers_then;
      in_turn = refl;
      hops = rules.hops_then;
      hears = no_demand (must_hear s c (goes_on s c step)) (client_wanted (all_of (goes_on s c step)) c) asks_none;
      continues = rules.continues_on;
      says = subst (λ (d : Exchange). says s c d ≡ true) last_is (says_at (away_conn x c left peer) (L ++ In ev ∷ Out act ∷ []) last legs n rest);
      stops = met (stopped (all_of (goes_on s c step))) (not (live_then c (all_of (goes_on s c step)))) (ap not dead);
      streams = rules.streams_then;
      no_sooner = rules.no_sooner;
      takes_no_memory = ap (λ (b : Bool). not (b && false || false)) (eq-eqb c c refl);
    };
    children = children;
  }

-- ---- the law

pub full : (law : StepsAreGood) (site : Site) (x : HttpConn) (M : List Item) (c : ℕ) (L : List Item) (peer : Peer) → ConnStands site x M → AreTicks L
    → Gone conn_kind site c (L ++ In (Accepted peer) ∷ Out (Shut c Full) ∷ [])
full law site x M c L peer t ticks =
    let first : HttpConn = fresh_conn x c (site_of x).limits.idle_ticks in
    let w : ConnStands (site_of x) first L = begins first (fresh_is_new x c t.rest.two) t.rest.two t.rest.small law (site_of x) L refl ticks in
    let new : HttpConn = away_conn x c w.left peer in
    let r : AtRest (fresh_conn x c w.left) L w.exchange w.legs w.next = w.rest in
    record {
      conn = new;
      number = refl;
      stands = record {
        site_is = t.site_is;
        left = new.idle_left;
        told = λ met. refl;
        exchange = pushed (pushed w.exchange (In (Accepted peer))) (Out (Shut c Full));
        legs = w.legs;
        next = w.next;
        rest = away_rests x c w.left peer L w.exchange w.legs w.next r;
        met = λ shut. refl;
        accounts = accounts_kept (site_of x).limits.children L (Accepted peer) (Shut c Full ∷ []) w.accounts (fits x c w.left peer L w.exchange w.legs w.next r);
        asks = asks_of (site_of x) c L (Accepted peer) (Shut c Full ∷ []) _ (good x c w.left peer L w.exchange w.legs w.next r) (away_rests x c w.left peer L w.exchange w.legs w.next r).now;
        good = AtEachStep-push (StepGood site c) L (Accepted peer) (Shut c Full ∷ []) (subst (λ (s : Site). GoodFor s c L) t.site_is w.good)
            (subst (λ (s : Site). StepGood s c (step_of L (Accepted peer) (Shut c Full ∷ []))) t.site_is (good x c w.left peer L w.exchange w.legs w.next r));
      };
      free = ap (λ (b : Bool). not b || false) (away_shut x c w.left peer L w.exchange w.legs w.next r);
    }
