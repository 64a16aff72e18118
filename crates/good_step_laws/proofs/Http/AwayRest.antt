-- A connection that was turned away is at rest.
use Rattle.std.proofs.Common.{◌≡◌, ◌≤◌, ℕ, ◌&&◌, ◌||◌, Bool, true, false, not, List, [], ◌∷◌, ◌++◌, Some, None, refl, sym, ap, ◌∙◌, subst, append_assoc}
use Rattle.std.proofs.lemmas.Bool.{and_from, eq-eqb, false≢true}
use Rattle.host_base.specs.declared.launch.Peer.{Peer}
use Rattle.host_base.specs.declared.site.Site.{Site}
use Rattle.host_trace.specs.declared.items.Act.{Act}
use Rattle.host_trace.specs.declared.items.Act.TheVariants.{Shut}
use Rattle.host_trace.specs.declared.items.Event.{Event}
use Rattle.host_trace.specs.declared.items.Event.TheVariants.{Accepted}
use Rattle.host_trace.specs.declared.items.Item.{Item}
use Rattle.host_trace.specs.declared.items.Item.TheVariants.{In, Out}
use Rattle.host_trace.specs.declared.items.Why.TheVariants.{Full}
use Rattle.own_traces.specs.OwnFits.{fits_own}
use Rattle.conn_flags.specs.Knows.{KnowsFlags}
use Rattle.conn_flags.specs.View.{fresh, is_live, noted}
use Rattle.conn_flags.proofs.KnowsLaws.{act_admitted, events_admitted, known_next}
use Rattle.conn_laws.proofs.FormLaws.{flags_say}
use Rattle.conn_laws.proofs.QuietLaws.{reading-quiet}
use Rattle.trace_model.specs.Demands.{is_live as live_then}
use Rattle.trace_model.specs.Exchange.{Exchange, all_of, pushed}
use Rattle.trace_model.specs.Exchanges.{current, has_ended}
use Rattle.trace_model.specs.Legs.{Leg}
use Rattle.trace_model.specs.Readings.{is_due}
use Rattle.trace_model.proofs.ExchangeLaws.{all_of-current, current-push-on}
use Rattle.request_reader.specs.Reader.{unread}
use Rattle.exchange_request.specs.declared.incoming.Incoming.{Incoming}
use Rattle.exchange_request.proofs.KnowsLaws.{knows_new}
use Rattle.exchange_stage.specs.declared.stage.Stage.TheVariants as At
use Rattle.exchange_laws.specs.Unanswered.{is_awaited, is_open}
use Rattle.child_laws.specs.Children.{KnowsChildren}
use Rattle.child_laws.proofs.ActLaws.{others_known}
use Rattle.child_laws.proofs.EventLaws.{events_known as children_heard}
use Rattle.child_laws.proofs.KnowLaws.{unsettled_exact}
use Rattle.conn_laws.proofs.FrontLaws.{acts_keep, events_known}
use Rattle.http_conn.specs.HttpConn.{HttpConn}
use Rattle.http_conn.specs.Hears.{Hears, accepted}
use Rattle.http_conn.specs.Kept.{StandsFor, front_of, site_of}
use Rattle.http_conn.specs.New.{IsNew}
use Rattle.http_conn.proofs.StateLaws.{heard_accepted}
use Rattle.http_stage_laws.specs.HeardStages.{AtRest, Rested}
use Rattle.http_stage_laws.specs.Inward.{Inward}
use Rattle.http_stage_laws.specs.Staged.{Staged}
use Rattle.http_stage_laws.proofs.EndLaws.{ends_taken}
use Rattle.http_stage_laws.proofs.HeardEvents.{events_are_staged}
use Rattle.http_stage_laws.proofs.ItemLaws.{others_staged}
use Rattle.http_stage_laws.proofs.StartWords.{first_event, first_quiet}
use Rattle.good_step_laws.proofs.Http.PassLaws.{passed}

-- ---- a connection of which nothing was heard, made of another

abbrev unheard_request : HttpConn → Incoming
unheard_request x = record x.request {
  limits = (site_of x).limits;
  reader = unread (site_of x).limits [];
  manner = None;
  whole = false;
  due = false;
  fresh = false;
}

-- it waits for its Accepted, with so much of the idle time left
abbrev pub fresh_conn : HttpConn → ℕ → ℕ → HttpConn
fresh_conn x c left = record x {
  flags = fresh c;
  peer = None;
  lost = false;
  idled = false;
  closing = false;
  closes = false;
  cut = None;
  number = 0;
  idle_left = left;
  request = unheard_request x;
  continued = false;
  stage = At.Reading;
  run = None;
}

pub fresh_is_new : (x : HttpConn) (c : ℕ) → 2 ≤ (site_of x).limits.head → IsNew (fresh_conn x c (site_of x).limits.idle_ticks)
fresh_is_new x c two = record {
  flags = refl;
  peer_is = refl;
  found = refl;
  reads = refl;
  run = refl;
  unclosed = refl;
  uncut = refl;
  front = record {
    number = refl;
    idle_left = refl;
    continued = refl;
    closing = refl;
    idled = refl;
    limits_then = refl;
    request = knows_new (unheard_request x) two refl refl refl refl;
    ready = refl;
  };
}

-- ---- its Accepted

abbrev pub met_conn : HttpConn → ℕ → ℕ → Peer → HttpConn
met_conn x c left peer = accepted peer (passed (fresh_conn x c left) (Accepted peer))

pub met_hears : (x : HttpConn) (c left : ℕ) (peer : Peer) → (h : Hears (fresh_conn x c left) (Accepted peer) (met_conn x c left peer)) × ((h.mid ≡ met_conn x c left peer) × (h.mid.lost ≡ false))
met_hears x c left peer = (
  record {
    found = true;
    memory = λ none. absurd (false≢true (sym none));
    mid = met_conn x c left peer;
    own = refl;
    lasts = λ l. absurd (false≢true l);
    keeps = λ e least settled known. events_known (site_of x) c None false false true true (front_of (fresh_conn x c left)) (front_of (met_conn x c left peer)) e (Accepted peer) true least settled (λ l. l) (λ r. r)
        (heard_accepted (passed (fresh_conn x c left) (Accepted peer)) peer (Some peer) (site_of x).limits.idle_ticks refl refl).front known;
    settles = record { on = λ o. refl; over = λ o. absurd (false≢true o) };
  },
  (refl, refl),
)

-- ---- .. and its Shut

abbrev pub away_conn : HttpConn → ℕ → ℕ → Peer → HttpConn
away_conn x c left peer = record (met_conn x c left peer) { flags = noted (met_conn x c left peer).flags (Out (Shut c Full)) }

module _ (x : HttpConn) (c left : ℕ) (peer : Peer) (L : List Item) (e : Exchange) (legs : List Leg) (n : ℕ) (r : AtRest (fresh_conn x c left) L e legs n) where
  abbrev s : Site
  s = site_of x

  abbrev ev : Event
  ev = Accepted peer

  abbrev act : Act
  act = Shut c Full

  abbrev mid : HttpConn
  mid = met_conn x c left peer

  abbrev new : HttpConn
  new = away_conn x c left peer

  abbrev pub met_exchange : Exchange
  met_exchange = pushed e (In (Accepted peer))

  abbrev pub away_exchange : Exchange
  away_exchange = pushed (pushed e (In (Accepted peer))) (Out (Shut c Full))

  pub fits : fits_own s.limits.children L ev ≡ true
  fits = and_from _ _ (ap not (sym r.flags.stopped)) (ap not (sym r.flags.accepted))

  all_is : all_of e ≡ L
  all_is = ap all_of r.now ∙ all_of-current s c L

  pub met_flags : KnowsFlags mid.flags (L ++ In ev ∷ [])
  met_flags = known_next (fresh c) L (In ev) r.flags (events_admitted s.limits.children (fresh c) L ev r.flags fits)

  pub away_flags : KnowsFlags new.flags ((L ++ In ev ∷ []) ++ Out act ∷ [])
  away_flags = known_next mid.flags (L ++ In ev ∷ []) (Out act) met_flags (act_admitted mid.flags act refl)

  met_children : KnowsChildren s c met_exchange false n legs None
  met_children = children_heard s c e n legs None ev true r.two (subst (λ (l : List Item). fits_own s.limits.children l ev ≡ true) (sym all_is) fits) r.children

  away_children : KnowsChildren s c away_exchange false n legs None
  away_children = others_known s c met_exchange false n legs None act r.two refl refl met_children

  away_front : StandsFor new away_exchange
  away_front =
      acts_keep s c (Some peer) false true (front_of new) met_exchange act refl
      (events_known s c None false false true true (front_of (fresh_conn x c left)) (front_of mid) e ev true r.two
      (sym (ap not (unsettled_exact s c e false n legs None r.children))) (λ l. l) (λ k. k)
      (heard_accepted (passed (fresh_conn x c left) ev) peer (Some peer) s.limits.idle_ticks refl refl).front r.front)

  met_staged : Staged mid met_exchange legs
  met_staged =
      let h = met_hears x c left peer in
      subst (λ (conn : HttpConn). Staged conn met_exchange legs) h.1.0 (events_are_staged (fresh_conn x c left) mid L e legs n ev r fits refl h.0 h.1.1).staged

  away_staged : Staged new away_exchange legs
  away_staged =
      let t : Staged mid away_exchange legs = others_staged mid met_exchange legs act r.two met_staged refl refl refl in
      record { more = t.more; kept = t.kept; is = t.is }

  pub met_on : has_ended s c met_exchange ≡ false
  met_on = ends_taken mid met_exchange legs false n met_staged met_children tt

  pub away_on : has_ended s c away_exchange ≡ false
  away_on = ends_taken new away_exchange legs false n away_staged away_children tt

  pub met_now : met_exchange ≡ current s c (L ++ In ev ∷ [])
  met_now =
      ap (λ (d : Exchange). pushed d (In ev)) r.now
      ∙ sym (current-push-on s c L (In ev) (subst (λ (d : Exchange). has_ended s c (pushed d (In ev)) ≡ false) r.now met_on))

  pub away_now : away_exchange ≡ current s c ((L ++ In ev ∷ []) ++ Out act ∷ [])
  away_now =
      ap (λ (d : Exchange). pushed d (Out act)) met_now
      ∙ sym (current-push-on s c (L ++ In ev ∷ []) (Out act) (subst (λ (d : Exchange). has_ended s c (pushed d (Out act)) ≡ false) met_now away_on))

  pub away_shut : new.flags.shut ≡ true
  away_shut = ap (λ (b : Bool). b || false) (eq-eqb c c refl)

  pub away_dead : is_live new.flags ≡ false
  away_dead = ap not away_shut

  pub dead_then : live_then c (all_of away_exchange) ≡ false
  dead_then =
      ap (λ (l : List Item). live_then c l) (ap all_of away_now ∙ all_of-current s c ((L ++ In ev ∷ []) ++ Out act ∷ []))
      ∙ (sym (flags_say new.flags ((L ++ In ev ∷ []) ++ Out act ∷ []) away_flags).live ∙ away_dead)

  unawaited : is_awaited s c away_exchange ≡ false
  unawaited =
      ap (λ (b : Bool). is_open c e && b)
      (ap is_due (reading-quiet s c met_exchange (Out act) refl ∙ reading-quiet s c e (In ev) refl))
      ∙ (r.found refl).let_on refl

  rested : Rested new away_exchange legs
  rested = record {
    staged = away_staged;
    rests = λ live. absurd (false≢true (sym dead_then ∙ live));
    heard = record {
      bodies = λ hop request at. absurd (cc);
      looked = λ other. absurd (false≢true (sym other));
      handed = λ ready. absurd (false≢true ready);
    };
    going = λ live. absurd (false≢true (sym away_dead ∙ live));
    let_on = λ first. unawaited;
  }

  inward : Inward new
  inward = record {
    calm = λ is. absurd (false≢true is);
    calm_found = λ found is. absurd (false≢true is);
    accepted = λ other. refl;
    http = refl;
    lost_in = λ lost. refl;
    decided = λ found still. tt;
    left = λ found is. absurd (false≢true is);
    cut_is = λ found. refl;
    held = λ shut. tt;
    stays = λ found unshut ends whole. tt;
    closes_is = λ is. absurd (false≢true is);
    room = λ found. refl;
    asked = λ is. absurd (false≢true is);
    within = λ found open_yet is. absurd (false≢true is);
    past = λ found open_yet unshut is. absurd (false≢true is);
  }

  pub away_rests : AtRest new (L ++ In ev ∷ Out act ∷ []) away_exchange legs n
  away_rests =
      subst (λ (l : List Item). AtRest new l away_exchange legs n) (append_assoc L (In ev ∷ []) (Out act ∷ [])) (record {
        two = r.two;
        small = r.small;
        now = away_now;
        front = away_front;
        children = away_children;
        even = λ v is. absurd (cc);
        starts_first = first_quiet met_exchange (Out act) (λ k. refl) (first_event e ev r.starts_first);
        flags = away_flags;
        inward = inward;
        unheard = λ other. absurd (false≢true (sym other));
        unended = away_on;
        found = λ found. rested;
        lost = λ lost. absurd (false≢true lost);
      })
