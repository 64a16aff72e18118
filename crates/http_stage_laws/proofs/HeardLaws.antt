-- An event between two steps, where memory was found.
use Rattle.std.proofs.Common.{◌≡◌, ℕ, ◌==◌, Bool, true, false, ◌&&◌, not, List, [], Option, Some, None, refl, sym, ap, ◌∙◌, subst}
use Rattle.std.proofs.lemmas.Bool.{and_parts, eq-eqb, eqb-true, false≢true}
use Rattle.host_trace.specs.declared.items.Event.{Event}
use Rattle.host_trace.specs.declared.items.Event.TheVariants.{ClientBytes}
use Rattle.host_trace.specs.declared.items.Item.{Item}
use Rattle.host_trace.specs.declared.items.Item.TheVariants.{In}
use Rattle.host_trace.specs.Fits.{is_asked, is_piece}
use Rattle.host_trace.specs.Kinds.{bytes_heard, is_tick}
use Rattle.host_trace.specs.Projections.{client_wanted, shut, upgraded}
use Rattle.own_traces.specs.OwnFits.{fits_own}
use Rattle.child_core.specs.declared.ending.Ending.TheVariants.{Gone}
use Rattle.child_core.specs.Calls.{ended, heard}
use Rattle.child_core.specs.View.{View}
use Rattle.conn_flags.specs.View.{is_live, noted}
use Rattle.trace_model.specs.Breaks.{breaks}
use Rattle.trace_model.specs.Exchange.{Exchange}
use Rattle.trace_model.specs.Legs.{Leg as StartedLeg}
use Rattle.exchange_request.specs.Knows.{is_ready, is_taken}
use Rattle.exchange_request.specs.declared.incoming.Incoming.{Incoming}
use Rattle.child_laws.specs.Heard.{heard_by, last_hop, run_heard}
use Rattle.http_conn.specs.HttpConn.{HttpConn}
use Rattle.http_conn.specs.Hears.{BodyBy, Feeds, FeedsBy, HearsBytes, When, awaits_body, heard_run, told_run}
use Rattle.http_conn.specs.Kept.{is_reading, flags_of, number_of, site_of}
use Rattle.http_conn.specs.Moves.{ended_run}
use Rattle.http_stage_laws.specs.HeardStages.{AtRest, HeardWell, Rested, SameAs}
use Rattle.http_stage_laws.proofs.HeardFed.{Fed, unoffered}
use Rattle.http_stage_laws.proofs.HeardBytes.{ready_now}
use Rattle.http_stage_laws.proofs.HeardQuiet.{quiet_well}
use Rattle.http_stage_laws.proofs.HeardRest.{asked_live}
use Rattle.http_stage_laws.proofs.HeardStage.{noted_still}
use Rattle.http_stage_laws.proofs.HeardTaken.{taken_well}

module _ (old : HttpConn) (L : List Item) (e : Exchange) (legs : List StartedLeg) (next : ℕ) (rest : AtRest old L e legs next) (found : old.lost ≡ false) (rested : Rested old e legs) where
  -- the connection once its flags and its child heard the event
  abbrev pub told : Event → HttpConn
  told ev = told_run ev true (record old { flags = noted old.flags (In ev) })

  pub same_told : (ev : Event) → SameAs old (told ev)
  same_told ev = record { site = refl; number = refl; cut = refl; closing = refl; closes = refl; continued = refl }

  abbrev pub Fits : Event → Type 0
  Fits ev = fits_own (site_of old).limits.children L ev ≡ true

  run_by : (ev : Event) → ((v : View) → heard v ev true ≡ heard_by (site_of old) (number_of old) e (last_hop legs) true ev v) → (run : Option View)
      → heard_run ev true run ≡ run_heard (site_of old) (number_of old) e legs true ev run
  run_by ev same None = refl
  run_by ev same (Some v) = ap (λ (w : View). Some w) (same v)

  -- an event that brings no bytes of the client, breaks nothing and is no Tick
  pub plain : (ev : Event) → Fits ev → bytes_heard (number_of old) (In ev) ≡ [] → is_tick (In ev) ≡ false → breaks (site_of old) (number_of old) e e.items (In ev) ≡ false
      → ((v : View) → heard v ev true ≡ heard_by (site_of old) (number_of old) e (last_hop legs) true ev v) → (mid : HttpConn) → mid ≡ told ev → HeardWell old mid e ev legs
  plain ev fits quiet untimed unbroken same mid is =
      subst (λ (conn : HttpConn). HeardWell old conn e ev legs) (sym is)
      (quiet_well old L e legs next ev rest fits rested quiet (told ev) (same_told ev) refl (sym (noted_still (In ev) untimed old.stage)) (run_by ev same old.run)
      (λ none. unbroken) (λ tick. absurd (false≢true (sym untimed ∙ tick))))

  -- the client failed
  pub gone : (ev : Event) → Fits ev → bytes_heard (number_of old) (In ev) ≡ [] → is_tick (In ev) ≡ false → breaks (site_of old) (number_of old) e e.items (In ev) ≡ false
      → ((v : View) → heard v ev true ≡ v) → ((v : View) → ended v Gone ≡ heard_by (site_of old) (number_of old) e (last_hop legs) true ev v)
      → (mid : HttpConn) → mid ≡ record (told ev) { run = ended_run Gone (told ev).run } → HeardWell old mid e ev legs
  gone ev fits quiet untimed unbroken idle same mid is =
      subst (λ (conn : HttpConn). HeardWell old conn e ev legs) (sym is)
      (quiet_well old L e legs next ev rest fits rested quiet (record (told ev) { run = ended_run Gone (told ev).run })
      (record { site = refl; number = refl; cut = refl; closing = refl; closes = refl; continued = refl }) refl (sym (noted_still (In ev) untimed old.stage)) (run_is old.run)
      (λ none. unbroken) (λ tick. absurd (false≢true (sym untimed ∙ tick))))
    where
      run_is : (run : Option View) → ended_run Gone (heard_run ev true run) ≡ run_heard (site_of old) (number_of old) e legs true ev run
      run_is None = refl
      run_is (Some v) = ap (λ (w : View). Some (ended w Gone)) (idle v) ∙ ap (λ (w : View). Some w) (same v)

  -- ---- the client

  pub record Asked : Type 0 where
    pub live : is_live (flags_of old) ≡ true
    pub wanted : client_wanted L (number_of old) ≡ true

  not_true : (b : Bool) → not b ≡ true → b ≡ false
  not_true true e = sym e
  not_true false e = refl

  pub asked : is_asked L (number_of old) ≡ true → Asked
  asked fits =
      let parts = and_parts (not (shut L (number_of old)) && not (upgraded L (number_of old))) (client_wanted L (number_of old)) fits in
      let unshut = (and_parts (not (shut L (number_of old))) (not (upgraded L (number_of old))) parts.0).0 in
      record { live = asked_live old L e legs next rest parts.1 (not_true (shut L (number_of old)) unshut); wanted = parts.1 }

  module _ (bytes : List ℕ) (fits : Fits (ClientBytes (number_of old) bytes)) where
    ask : Asked
    ask = asked (and_parts (is_asked L (number_of old)) (is_piece bytes) fits).0

    abbrev was : Incoming → HttpConn
    was request = record (told (ClientBytes (number_of old) bytes)) { idle_left = (site_of old).limits.idle_ticks; request = request }

    feeds : (f : Bool) (mid : HttpConn) → mid.lost ≡ false → Feeds bytes f (told (ClientBytes (number_of old) bytes)) mid → HeardWell old mid e (ClientBytes (number_of old) bytes) legs
    feeds f mid kept feed = by_awaits (is_reading old.stage) refl (is_taken feed.request) refl
      where
        fed : Fed bytes old.request feed.request
        fed = record { limits = feed.limits; ready = feed.ready; taken_is = feed.taken_is; looked = feed.looked; knows = feed.knows }

        same : SameAs old (was feed.request)
        same = record { site = refl; number = refl; cut = refl; closing = refl; closes = refl; continued = refl }

        -- nothing is awaited
        none : (is_reading old.stage ≡ false → is_taken old.request ≡ true) → awaits_body (was feed.request) ≡ false → HeardWell old mid e (ClientBytes (number_of old) bytes) legs
        none whole awaits =
            let is : mid ≡ was feed.request = subst (λ (b : Bool). BodyBy b f (was feed.request) mid) awaits feed.body in
            subst (λ (conn : HttpConn). HeardWell old conn e (ClientBytes (number_of old) bytes) legs) (sym is)
            (unoffered old L e legs next bytes rest fits found rested ask.live ask.wanted feed.request fed (was feed.request) same refl refl refl whole)

        some : is_reading old.stage ≡ false → is_taken old.request ≡ false → (b : Bool) → BodyBy true b (was feed.request) mid → HeardWell old mid e (ClientBytes (number_of old) bytes) legs
        some other open_yet true by =
            subst (λ (conn : HttpConn). HeardWell old conn e (ClientBytes (number_of old) bytes) legs) (sym by.is)
            (taken_well old L e legs next bytes rest fits found rested ask.live ask.wanted feed.request fed by.request by.body by.limits by.hands other open_yet _
            (record { site = refl; number = refl; cut = refl; closing = refl; closes = refl; continued = refl }) refl refl refl)
        some other open_yet false by = absurd (false≢true (sym kept ∙ ap (λ (conn : HttpConn). conn.lost) by.is))

        by_awaits : (r : Bool) → is_reading old.stage ≡ r → (t : Bool) → is_taken feed.request ≡ t → HeardWell old mid e (ClientBytes (number_of old) bytes) legs
        by_awaits true reads t taken =
            none (λ other. absurd (false≢true (sym other ∙ reads))) (ap (λ (b : Bool). not b && not (is_taken feed.request) && is_ready feed.request) reads)
        by_awaits false other true taken =
            none (λ o. sym feed.taken_is ∙ taken)
            (ap (λ (b : Bool). not b && not (is_taken feed.request) && is_ready feed.request) other ∙ ap (λ (b : Bool). not b && is_ready feed.request) taken)
        by_awaits false other false taken =
            let awaits : awaits_body (was feed.request) ≡ true =
            ap (λ (b : Bool). not b && not (is_taken feed.request) && is_ready feed.request) other
            ∙ (ap (λ (b : Bool). not b && is_ready feed.request) taken ∙ (feed.ready ∙ ready_now old L e legs next bytes rest found rested ask.live other)) in
            some other (sym feed.taken_is ∙ taken) f (subst (λ (b : Bool). BodyBy b f (was feed.request) mid) awaits feed.body)

    pub bytes_well : (mid : HttpConn) → mid.lost ≡ false → HearsBytes bytes (told (ClientBytes (number_of old) bytes)) mid → HeardWell old mid e (ClientBytes (number_of old) bytes) legs
    bytes_well mid kept h = go h.fed h.by
      where
        go : (b : Bool) → FeedsBy b bytes h.found (told (ClientBytes (number_of old) bytes)) mid → HeardWell old mid e (ClientBytes (number_of old) bytes) legs
        go true feed = feeds h.found mid kept feed
        go false is = absurd (false≢true (sym kept ∙ ap (λ (conn : HttpConn). conn.lost) is))

  -- ---- whoever the event names

  pub elsewhere : (By : HttpConn → HttpConn → Type 0) (d : ℕ) (first mid : HttpConn) → (number_of old == d) ≡ false → When (number_of old == d) By first mid → mid ≡ first
  elsewhere By d first mid other w = subst (λ (b : Bool). When b By first mid) other w

  pub here : (By : HttpConn → HttpConn → Type 0) (d : ℕ) (first mid : HttpConn) → (number_of old == d) ≡ true → When (number_of old == d) By first mid → By first mid
  here By d first mid mine w = subst (λ (b : Bool). When b By first mid) mine w

  -- it is the event of this one's client
  pub mine_is : (d : ℕ) → (number_of old == d) ≡ true → d ≡ number_of old
  mine_is d is = sym (eqb-true (number_of old) d is)

  pub is_mine : (number_of old == number_of old) ≡ true
  is_mine = eq-eqb (number_of old) (number_of old) refl
