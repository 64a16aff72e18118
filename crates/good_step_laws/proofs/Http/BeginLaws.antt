-- A connection that is not accepted yet stands for each list of Ticks, of which it is told nothing.
use Rattle.std.proofs.Common.{◌≡◌, ◌≤◌, ◌<◌, ◌^◌, ℕ, ◌-◌, ◌==◌, Bool, true, false, List, [], ◌∷◌, ◌++◌, Option, Some, None, refl, sym, ap, ◌∙◌, subst, append-nil, append_assoc}
use Rattle.std.proofs.lemmas.Bool.{false≢true}
use Rattle.host_base.specs.declared.limits.Limits.{Limits}
use Rattle.host_base.specs.declared.site.Site.{Site}
use Rattle.host_trace.specs.declared.items.Event.{Event}
use Rattle.host_trace.specs.declared.items.Event.TheVariants.{Tick}
use Rattle.host_trace.specs.declared.items.Item.{Item}
use Rattle.host_trace.specs.declared.items.Item.TheVariants.{In, Out}
use Rattle.host_trace.specs.Projections.{last_secs}
use Rattle.host_trace.specs.Trace.{step_of}
use Rattle.own_traces.specs.OwnFits.{fits_own}
use Rattle.child_core.specs.View.{View}
use Rattle.conn_flags.specs.View.{View as Flags, fresh, has_room, is_live}
use Rattle.child_core.specs.Due.{acted, acting}
use Rattle.trace_model.specs.Exchange.{Exchange, first_exchange}
use Rattle.trace_model.specs.Good.{GoodFor, StepGood}
use Rattle.trace_model.specs.Legs.{Leg}
use Rattle.trace_model.proofs.LiftLaws.{AtEachStep-push}
use Rattle.exchange_stage.specs.declared.stage.Stage.{Stage}
use Rattle.exchange_stage.specs.declared.stage.Stage.TheVariants as At
use Rattle.http_conn.specs.HttpConn.{HttpConn}
use Rattle.http_conn.specs.Kept.{flags_of, number_of, site_of}
use Rattle.http_conn.specs.New.{IsNew}
use Rattle.http_stage_laws.specs.HeardStages.{AtRest}
use Rattle.http_stage_laws.proofs.HeardStart.{starts_rest}
use Rattle.many_conns.specs.Kind.{AreTicks, is_clock_tick}
use Rattle.host_base.specs.declared.launch.Peer.{Peer}
use Rattle.host_base.specs.declared.cause.Cause.{Cause}
use Rattle.good_step_laws.specs.Steps.Laws.{StepsAreGood}
use Rattle.good_step_laws.specs.Http.Laws.{Rests}
use Rattle.good_step_laws.specs.Http.Stands.{ConnStands, with_left}
use Rattle.good_step_laws.proofs.Http.AccountLaws.{tick_accounts}
use Rattle.good_step_laws.proofs.Http.PassLaws.{Calm, Passed, Passing, idled_by, tick_passes, ticked_on}
use Rattle.exchange_laws.proofs.AskLaws.{shut_asks}
use Rattle.exchange_laws.proofs.RestLaws.{no_demand}
use Rattle.good_step_laws.proofs.Http.RuleLaws.{live_same}
use Rattle.good_step_laws.proofs.Http.QuietLaws.{begun_of, begun_told, quiet_steps, settled_quiet}

-- ---- an event that passes a connection that is not live

-- what a step without acts leaves
pub record Idled (new : HttpConn) (old : HttpConn) (L : List Item) (ev : Event) (n : ℕ) : Type 0 where
  pub good : StepGood (site_of old) (number_of old) (step_of L ev [])
  pub rests : Rests new (L ++ In ev ∷ []) n

pub calm_still : (may : Bool) (run : Option View) → Calm run → (v : View) → run ≡ Some v → (acting may v ≡ []) × (acted may v ≡ v)
calm_still may run calm v is = settled_quiet may v (calm v is).1 (calm v is).0

pub idled_step : (law : StepsAreGood) (old new : HttpConn) (L : List Item) (e : Exchange) (legs : List Leg) (n : ℕ) (ev : Event) (stamp : Option ℕ) → AtRest old L e legs n
    → fits_own (site_of old).limits.children L ev ≡ true → stamp ≡ last_secs (L ++ In ev ∷ []) → (p : Passed old ev new) → is_live (flags_of new) ≡ false → Idled new old L ev n
idled_step law old new L e legs n ev stamp r fits clock p dead =
    let one = law old new new L e legs ev stamp n [] r fits clock p.hears (quiet_steps new stamp n dead p.unover (calm_still (has_room (flags_of new)) new.run p.calm)) refl refl in
    record { good = one.good; rests = record { exchange = one.exchange; legs = one.legs; rest = one.rests } }

-- ---- before its Accepted

-- it waits for its Accepted, with so much of the idle time left
abbrev waiting : HttpConn → ℕ → HttpConn
waiting conn left = record conn {
  flags = fresh (number_of conn);
  peer = None;
  lost = false;
  idled = false;
  closing = false;
  closes = false;
  cut = None;
  idle_left = left;
  continued = false;
  stage = At.Reading;
  run = None;
}

module _ (conn : HttpConn) (new : IsNew conn) where
  is_waiting : conn ≡ waiting conn conn.idle_left
  is_waiting =
      ap (λ (m : Flags). record conn { flags = m }) new.flags
      ∙ (ap (λ (p : Option Peer). record conn { flags = fresh (number_of conn); peer = p }) new.peer_is
      ∙ (ap (λ (b : Bool). record conn { flags = fresh (number_of conn); peer = None; lost = b }) new.found
      ∙ (ap (λ (b : Bool). record conn { flags = fresh (number_of conn); peer = None; lost = false; idled = b }) new.front.idled
      ∙ (ap (λ (b : Bool). record conn { flags = fresh (number_of conn); peer = None; lost = false; idled = false; closing = b }) new.front.closing
      ∙ (ap (λ (b : Bool). record conn { flags = fresh (number_of conn); peer = None; lost = false; idled = false; closing = false; closes = b }) new.unclosed
      ∙ (ap (λ (x : Option Cause). record conn { flags = fresh (number_of conn); peer = None; lost = false; idled = false; closing = false; closes = false; cut = x }) new.uncut
      ∙ (ap (λ (b : Bool). record conn { flags = fresh (number_of conn); peer = None; lost = false; idled = false; closing = false; closes = false; cut = None; continued = b }) new.front.continued
      ∙ (ap (λ (s : Stage). record conn { flags = fresh (number_of conn); peer = None; lost = false; idled = false; closing = false; closes = false; cut = None; continued = false; stage = s }) new.reads
      ∙ ap (λ (r : Option View). record conn { flags = fresh (number_of conn); peer = None; lost = false; idled = false; closing = false; closes = false; cut = None; continued = false; stage = At.Reading; run = r })
      new.run))))))))

  left_waiting : (left : ℕ) → with_left left conn ≡ waiting conn left
  left_waiting left = ap (with_left left) is_waiting

  module _ (two : 2 ≤ (site_of conn).limits.head) (small : (site_of conn).limits.output < 2 ^ 64) where
    unbegun : begun_of conn.request ≡ false
    unbegun = begun_told conn.request [] 0 new.front.request (subst (λ (l : Limits). 2 ≤ l.head) (sym new.front.limits_then) two)

    passing : (left : ℕ) → Passing (waiting conn left)
    passing left = record { unanswered = refl; calm = λ v is. absurd (cc); begun = λ b. absurd (false≢true (sym unbegun ∙ b)) }

    -- it stands for these Ticks, with so much left
    record Waits (L : List Item) : Type 0 where
      pub left : ℕ
      pub exchange : Exchange
      pub legs : List Leg
      pub rest : AtRest (waiting conn left) L exchange legs 0
      pub good : GoodFor (site_of conn) (number_of conn) L

    none_idled : (ends begun : Bool) → idled_by ends begun false false ≡ false
    none_idled true true = refl
    none_idled true false = refl
    none_idled false begun = refl

    waits_first : Waits []
    waits_first = record {
      left = conn.idle_left;
      exchange = first_exchange;
      legs = [];
      rest = subst (λ (x : HttpConn). AtRest x [] first_exchange [] 0) is_waiting (starts_rest conn 0 two small new);
      good = tt;
    }

    module _ (law : StepsAreGood) where
      waits_more : (L : List Item) (secs : ℕ) → is_clock_tick (In (Tick secs)) ≡ true → Waits L → Waits (L ++ In (Tick secs) ∷ [])
      waits_more L secs clock w =
          let old : HttpConn = waiting conn w.left in
          let new : HttpConn = ticked_on old secs (w.left == 1) (begun_of conn.request) in
          let i : Idled new old L (Tick secs) 0 = idled_step law old new L w.exchange w.legs 0 (Tick secs) (last_secs (L ++ In (Tick secs) ∷ [])) w.rest clock refl (tick_passes old secs (passing w.left)) refl in
          record {
            left = w.left - 1;
            exchange = i.rests.exchange;
            legs = i.rests.legs;
            rest = subst (λ (b : Bool). AtRest (record (waiting conn (w.left - 1)) { idled = b }) (L ++ In (Tick secs) ∷ []) i.rests.exchange i.rests.legs 0)
                (none_idled (w.left == 1) (begun_of conn.request)) i.rests.rest;
            good = AtEachStep-push (StepGood (site_of conn) (number_of conn)) L (Tick secs) [] w.good i.good;
          }

      waits_all : (L more : List Item) → AreTicks more → Waits L → Waits (L ++ more)
      waits_all L [] ticks w = subst (λ (l : List Item). Waits l) (sym (append-nil L)) w
      waits_all L (In (Tick secs) ∷ more) ticks w =
          subst (λ (l : List Item). Waits l) (append_assoc L (In (Tick secs) ∷ []) more) (waits_all (L ++ In (Tick secs) ∷ []) more ticks.1 (waits_more L secs ticks.0 w))
      waits_all L (In ev ∷ more) ticks w = absurd (false≢true ticks.0)
      waits_all L (Out act ∷ more) ticks w = absurd (false≢true ticks.0)

      pub begins : (site : Site) (L : List Item) → site_of conn ≡ site → AreTicks L → ConnStands site conn L
      begins site L is ticks =
          let w : Waits L = waits_all [] L ticks waits_first in
          record {
            site_is = is;
            left = w.left;
            told = λ met. absurd (false≢true (sym (ap (λ (m : Flags). m.accepted) new.flags) ∙ met));
            exchange = w.exchange;
            legs = w.legs;
            next = 0;
            rest = subst (λ (x : HttpConn). AtRest x L w.exchange w.legs 0) (sym (left_waiting w.left)) w.rest;
            met = λ shut. absurd (false≢true (sym (ap (λ (m : Flags). m.shut) new.flags) ∙ shut));
            accounts = tick_accounts L ticks;
            asks = no_demand _ _ (shut_asks (site_of conn) (number_of conn) w.exchange (live_same (waiting conn w.left) L w.exchange w.legs 0 w.rest));
            good = subst (λ (s : Site). GoodFor s (number_of conn) L) is w.good;
          }
