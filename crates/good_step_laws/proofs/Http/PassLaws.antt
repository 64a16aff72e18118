-- A Tick, Stop or bytes taken of an input, heard by a connection whose child is settled.
use Rattle.std.proofs.Common.{◌≡◌, ℕ, ◌-◌, ◌==◌, ◌&&◌, ◌||◌, Bool, true, false, not, Option, Some, None, is_some, refl, sym, ap, ◌∙◌, subst}
use Rattle.std.proofs.lemmas.Bool.{false≢true}
use Rattle.host_base.specs.declared.cause.Cause.TheVariants as Cause
use Rattle.host_trace.specs.declared.items.Event.{Event}
use Rattle.host_trace.specs.declared.items.Event.TheVariants.{Stop, Tick, Took}
use Rattle.host_trace.specs.declared.items.Item.TheVariants.{In}
use Rattle.request_reader.specs.Request.{is_begun}
use Rattle.child_core.specs.Calls.{heard, is_settled}
use Rattle.child_core.specs.View.{View}
use Rattle.conn_flags.specs.View.{View as Flags, noted}
use Rattle.exchange_stage.specs.declared.stage.Stage.{Stage}
use Rattle.exchange_stage.specs.declared.stage.Stage.TheVariants as At
use Rattle.http_conn.specs.HttpConn.{HttpConn}
use Rattle.http_conn.specs.Hears.{BreaksBy, CountsDown, Hears, HearsOwn, IdlesBy, TellsBegun, TicksBy, heard_run, is_untouched, told_run}
use Rattle.http_conn.specs.Kept.{HeardOwn, flags_of, site_of}
use Rattle.http_conn.specs.Moves.{IdlesOut, ticked_stage}
use Rattle.http_conn.specs.Settles.{Settles, is_answered, is_over}
use Rattle.http_conn.specs.Slot.{run_settled}
use Rattle.http_conn.proofs.StateLaws.{heard_kept, heard_tick_counted, heard_tick_last, hears_by, kept_same}
use Rattle.good_step_laws.proofs.Http.OwnLaws.{told_kept}
use Rattle.good_step_laws.proofs.Http.QuietLaws.{begun_of, begun_told}

-- its child is settled, and either was started or refused
abbrev pub Calm : Option View → Type 0
Calm run = (v : View) → run ≡ Some v → (is_settled v ≡ true) × (v.started ≡ true → v.refused ≡ false)

-- no answer stands whole, its child is settled, and no request has begun that might be broken
pub record Passing (conn : HttpConn) : Type 0 where
  pub unanswered : is_answered conn.stage ≡ false
  pub calm : Calm conn.run
  pub begun : begun_of conn.request ≡ true → (flags_of conn).shut ≡ true

-- the event passed
pub record Passed (old : HttpConn) (ev : Event) (new : HttpConn) : Type 0 where
  pub hears : Hears old ev new
  pub site : site_of new ≡ site_of old
  pub flags : flags_of new ≡ noted (flags_of old) (In ev)
  pub unover : is_over new ≡ false
  pub calm : Calm new.run

-- ---- words

calm_settled : (run : Option View) → Calm run → run_settled run ≡ true
calm_settled None calm = refl
calm_settled (Some v) calm = (calm v refl).0

none_over : (conn : HttpConn) → is_answered conn.stage ≡ false → is_over conn ≡ false
none_over conn un = ap (λ (b : Bool). b && run_settled conn.run) un

settles_not : (conn : HttpConn) → is_over conn ≡ false → Settles conn conn
settles_not conn un = record { on = λ o. refl; over = λ o. absurd (false≢true (sym un ∙ o)) }

and_none : (a b : Bool) → b ≡ false → (a && b) ≡ false
and_none true b e = e
and_none false b e = refl

and_all : (a b : Bool) → b ≡ true → (a && b) ≡ a
and_all true b e = e
and_all false b e = refl

or_same : (a : Bool) → (a || false) ≡ a
or_same true = refl
or_same false = refl

-- ---- Stop, and bytes that a settled child's input took

stop_calm : (run : Option View) → Calm run → Calm (heard_run Stop true run)
stop_calm None calm w is = absurd (cc)
stop_calm (Some v) calm w is = subst (λ (u : View). (is_settled u ≡ true) × (u.started ≡ true → u.refused ≡ false)) (let e : heard v Stop true ≡ w = cc in e) (calm v refl)

took_calm : (k n : ℕ) (run : Option View) → Calm run → Calm (heard_run (Took k n) true run)
took_calm k n None calm w is = absurd (cc)
took_calm k n (Some v) calm w is = subst (λ (u : View). (is_settled u ≡ true) × (u.started ≡ true → u.refused ≡ false)) (let e : heard v (Took k n) true ≡ w = cc in e) (calm v refl)

tick_calm : (secs : ℕ) (run : Option View) → Calm run → Calm (heard_run (Tick secs) true run)
tick_calm secs None calm w is = absurd (cc)
tick_calm secs (Some v) calm w is = subst (λ (u : View). (is_settled u ≡ true) × (u.started ≡ true → u.refused ≡ false)) (let e : heard v (Tick secs) true ≡ w = cc in e) (calm v refl)

-- its flags and its child heard it
abbrev pub passed : HttpConn → Event → HttpConn
passed old ev = told_run ev true (record old { flags = noted (flags_of old) (In ev) })

pub stop_passes : (old : HttpConn) → Passing old → Passed old Stop (passed old Stop)
stop_passes old p =
    let m : Flags = noted (flags_of old) (In Stop) in
    let new : HttpConn = passed old Stop in
    let un : is_over new ≡ false = none_over new p.unanswered in
    record {
      hears = hears_by old new new new Stop m true refl (told_kept (record old { flags = m }) Stop true) (λ t. absurd (false≢true t)) refl (λ t. absurd (false≢true (sym t)))
          (heard_kept (record { anew = refl; tick = refl; bytes = refl; peer_is = refl }) (kept_same new)) refl (settles_not new un);
      site = refl;
      flags = refl;
      unover = un;
      calm = stop_calm old.run p.calm;
    }

pub took_passes : (old : HttpConn) (k n : ℕ) → Passing old → Passed old (Took k n) (passed old (Took k n))
took_passes old k n p =
    let m : Flags = noted (flags_of old) (In (Took k n)) in
    let new : HttpConn = passed old (Took k n) in
    let un : is_over new ≡ false = none_over new p.unanswered in
    record {
      hears = hears_by old new new new (Took k n) m true refl (told_kept (record old { flags = m }) (Took k n) true) (λ t. absurd (false≢true t)) refl (λ t. absurd (false≢true (sym t)))
          (heard_kept (record { anew = refl; tick = refl; bytes = refl; peer_is = refl }) (kept_same new)) refl (settles_not new un);
      site = refl;
      flags = refl;
      unover = un;
      calm = took_calm k n old.run p.calm;
    }

-- ---- a Tick

ticked_answered : (s : Stage) → is_answered (ticked_stage s) ≡ is_answered s
ticked_answered At.Reading = refl
ticked_answered _ = refl

-- the idle time is over with it, or not; a request has begun, or not
abbrev pub idled_by : Bool → Bool → Bool → Bool → Bool
idled_by true false idled met = idled || met
idled_by true true idled met = idled
idled_by false begun idled met = idled

-- .. and the idle count
abbrev pub ticked_on : HttpConn → ℕ → Bool → Bool → HttpConn
ticked_on old secs ends begun = record (passed old (Tick secs)) {
  idle_left = old.idle_left - 1;
  stage = ticked_stage old.stage;
  idled = idled_by ends begun old.idled (is_some old.peer);
}

module _ (old : HttpConn) (secs : ℕ) (p : Passing old) where
  abbrev m : Flags
  m = noted (flags_of old) (In (Tick secs))

  abbrev first : HttpConn
  first = passed old (Tick secs)

  abbrev ticked : HttpConn
  ticked = record first { idle_left = first.idle_left - 1; stage = ticked_stage first.stage }

  abbrev then_by : Bool → Bool → HttpConn
  then_by ends begun = ticked_on old secs ends begun

  settled_now : run_settled first.run ≡ true
  settled_now = calm_settled first.run (tick_calm secs old.run p.calm)

  idles_out : (b : Bool) → begun_of first.request ≡ b → IdlesOut ticked (then_by true b)
  idles_out true begun = record {
    stays = record { site = refl; flags = refl; peer_is = refl; child = λ ks w. w; lost = λ l. l; reading = λ r. r; front = refl };
    idled = λ bytes taken two k.
        let is : is_begun bytes ≡ true = sym (begun_told first.request bytes taken k two) ∙ begun in
        sym (ap (λ (b : Bool). first.idled || b) (and_none (is_some first.peer) (not (is_begun bytes)) (ap not is)) ∙ or_same first.idled);
  }
  idles_out false begun = record {
    stays = record { site = refl; flags = refl; peer_is = refl; child = λ ks w. w; lost = λ l. l; reading = λ r. r; front = refl };
    idled = λ bytes taken two k.
        let is : is_begun bytes ≡ false = sym (begun_told first.request bytes taken k two) ∙ begun in
        sym (ap (λ (b : Bool). first.idled || b) (and_all (is_some first.peer) (not (is_begun bytes)) (ap not is)));
  }

  heard_by : (ends b : Bool) → (first.idle_left == 1) ≡ ends → begun_of first.request ≡ b → HeardOwn first (Tick secs) (then_by ends b)
  heard_by false b at begun = heard_tick_counted first secs (first.idle_left - 1) settled_now refl at
  heard_by true b at begun = heard_tick_last first secs (first.idle_left - 1) settled_now refl at (idles_out b begun)

  idles_by : (b : Bool) → begun_of first.request ≡ b → IdlesBy b ticked (then_by true b)
  idles_by true begun =
      subst (λ (x : Bool). BreaksBy x Cause.IdleTime ticked (then_by true true)) (sym (and_none (is_untouched ticked) (not ticked.flags.shut) (ap not (p.begun begun)))) refl
  idles_by false begun = refl

  counts_by : (ends b : Bool) → begun_of first.request ≡ b → CountsDown ends ticked (then_by ends b)
  counts_by false b begun = refl
  counts_by true b begun = record { begun = b; tells = subst (λ (x : Bool). TellsBegun first.request x) begun (begun_told first.request); by = idles_by b begun }

  own_by : (ends b : Bool) → (first.idle_left == 1) ≡ ends → begun_of first.request ≡ b → HearsOwn (Tick secs) first (then_by ends b)
  own_by ends b at begun =
      subst (λ (x : Bool). TicksBy x (record first { stage = ticked_stage first.stage }) (then_by ends b)) (sym settled_now)
      (subst (λ (x : Bool). CountsDown x ticked (then_by ends b)) (sym at) (counts_by ends b begun))

  passed_by : (ends b : Bool) → (first.idle_left == 1) ≡ ends → begun_of first.request ≡ b → Passed old (Tick secs) (then_by ends b)
  passed_by ends b at begun =
      let un : is_over (then_by ends b) ≡ false = none_over (then_by ends b) (ticked_answered old.stage ∙ p.unanswered) in
      record {
        hears = hears_by old first (then_by ends b) (then_by ends b) (Tick secs) m true refl (told_kept (record old { flags = m }) (Tick secs) true)
            (λ t. settled_now ∙ sym (calm_settled old.run p.calm)) refl (λ t. absurd (false≢true (sym t))) (heard_by ends b at begun) (own_by ends b at begun) (settles_not (then_by ends b) un);
        site = refl;
        flags = refl;
        unover = un;
        calm = tick_calm secs old.run p.calm;
      }

  pub tick_passes : Passed old (Tick secs) (ticked_on old secs (old.idle_left == 1) (begun_of old.request))
  tick_passes = passed_by (old.idle_left == 1) (begun_of old.request) refl refl
