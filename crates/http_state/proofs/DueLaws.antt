-- What may be done for a connection.
use Rattle.std.proofs.Common.{◌≡◌, Bool, true, false, not, ◌||◌, ◌&&◌, is_some, refl, sym, ap}
use Rattle.std.proofs.lemmas.Bool.{false≢true}
use Rattle.conn_flags.specs.View.{has_room, may_write}
use Rattle.exchange_request.specs.Knows.{is_looked_at}
use Rattle.exchange_stage.specs.declared.stage.Stage.{Stage}
use Rattle.exchange_stage.specs.declared.stage.Stage.TheVariants as At
use Rattle.exchange_stage.specs.declared.stage.Stage.TheVariants.{Finishing, Running, Silent, Starting}
use Rattle.http_state.specs.declared.conn.HttpConn.{HttpConn}
use Rattle.http_state.specs.Moves.{losing}
use Rattle.http_state.specs.Reasons.{ends_with}
use Rattle.http_state.specs.Slot.{run_settled}
use Rattle.http_state.specs.Tells.{TellsEnding, TellsMore, TellsTurn, goes_at, has_turn}

-- ---- nothing ends the connection

or_false : (a b : Bool) → (a || b) ≡ false → b ≡ false
or_false true b e = absurd (false≢true (sym e))
or_false false b e = e

or_first : (a b : Bool) → (a || b) ≡ false → a ≡ false
or_first true b e = e
or_first false b e = refl

or_true : (a b : Bool) → b ≡ true → (a || b) ≡ true
or_true true b e = refl
or_true false b e = e

not_false : (a : Bool) → not a ≡ true → a ≡ false
not_false true e = absurd (false≢true e)
not_false false e = refl

pub and_first : (a b : Bool) → (a && b) ≡ true → a ≡ true
and_first true b e = refl
and_first false b e = e

or_left : (a b : Bool) → a ≡ true → (a || b) ≡ true
or_left true b e = refl
or_left false b e = absurd (false≢true e)

pub none_by_first : (a b d : Bool) → a ≡ false → false ≡ (a && b && d)
none_by_first true b d e = absurd (false≢true (sym e))
none_by_first false b d e = refl

pub none_by_mid : (a b d : Bool) → b ≡ false → false ≡ (a && b && d)
none_by_mid false b d e = refl
none_by_mid true true d e = absurd (false≢true (sym e))
none_by_mid true false d e = refl

-- .. so memory was found
fourth_false : (w s g l i c k x d : Bool) → (w || s || g || l || i || c || k || x || d) ≡ false → l ≡ false
fourth_false w s g l i c k x d e =
    or_false (w || s || g) l (or_first (w || s || g || l) i (or_first (w || s || g || l || i) c (or_first (w || s || g || l || i || c) k
    (or_first (w || s || g || l || i || c || k) x (or_first (w || s || g || l || i || c || k || x) d e)))))

fourth_true : (w s g l i c k x d : Bool) → l ≡ true → (w || s || g || l || i || c || k || x || d) ≡ true
fourth_true w s g l i c k x d e =
    or_left (w || s || g || l || i || c || k || x) d (or_left (w || s || g || l || i || c || k) x (or_left (w || s || g || l || i || c) k
    (or_left (w || s || g || l || i) c (or_left (w || s || g || l) i (or_true (w || s || g) l e)))))

pub going_found : (conn : HttpConn) (done : Bool) → ends_with conn done ≡ false → conn.lost ≡ false
going_found conn done e =
    fourth_false (not (may_write conn.flags)) conn.flags.stopped conn.flags.gone conn.lost conn.idled conn.closing conn.closes (is_some conn.cut) done e

pub ends_lost : (conn : HttpConn) (done : Bool) → conn.lost ≡ true → ends_with conn done ≡ true
ends_lost conn done lost =
    fourth_true (not (may_write conn.flags)) conn.flags.stopped conn.flags.gone conn.lost conn.idled conn.closing conn.closes (is_some conn.cut) done lost

pub ending_found : {conn : HttpConn} → TellsEnding conn false → conn.lost ≡ false
ending_found {conn} t = going_found conn t.done (sym t.is)

pub turn_found : {conn : HttpConn} → TellsTurn conn true → conn.lost ≡ false
turn_found {conn} t =
    going_found conn t.done (not_false (ends_with conn t.done) (and_first (not (ends_with conn t.done)) (run_settled conn.run)
    (and_first (not (ends_with conn t.done) && run_settled conn.run) (has_room conn.flags) (sym t.is))))

-- once memory ran out nothing goes on
pub lost_rests : {conn : HttpConn} → TellsMore conn true → TellsMore (losing conn) false
lost_rests {conn} t = record { done = t.done; tells = t.tells; is = go conn.stage }
  where
    ended_then : ends_with (losing conn) t.done ≡ true
    ended_then = ends_lost (losing conn) t.done refl

    no_turn : false ≡ has_turn (losing conn) t.done
    no_turn = sym (ap (λ (b : Bool). not b && run_settled (losing conn).run && has_room conn.flags) ended_then)

    go : (stage : Stage) → false ≡ goes_at (losing conn) t.done stage
    go At.Reading = sym (ap (λ (b : Bool). not b && not (is_looked_at conn.request)) ended_then)
    go (At.Refused cause) = no_turn
    go (At.Unstarted hop request) = no_turn
    go _ = refl
