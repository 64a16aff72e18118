-- What ends a connection, and what doesn't.
use Rattle.std.proofs.Common.{◌≡◌, ◌≤◌, Bool, true, false, ◌||◌, not, Option, Some, None, is_some, refl, sym, ap, ◌∙◌, subst}
use Rattle.std.proofs.lemmas.Bool.{and_parts, false≢true, not-false, or_from, or_parts}
use Rattle.host_base.specs.declared.cause.Cause.{Cause}
use Rattle.host_base.specs.declared.limits.Limits.{Limits}
use Rattle.trace_model.specs.Exchange.{Exchange, request_bytes}
use Rattle.conn_flags.specs.View.{is_live, may_write}
use Rattle.exchange_request.specs.Knows.{limits_of}
use Rattle.conn_laws.specs.Front.{IsHeard}
use Rattle.http_conn.specs.HttpConn.{HttpConn}
use Rattle.http_conn.specs.Kept.{StandsFor, is_reading, flags_of, number_of, site_of}
use Rattle.http_conn.specs.Reasons.{ends_with, is_done_with}
use Rattle.http_conn.specs.Tells.{TellsDone, TellsEnding}
use Rattle.http_step_laws.specs.Standing.{ends_at}

-- nothing does
pub record Going (conn : HttpConn) (done : Bool) : Type 0 where
  pub may : may_write (flags_of conn) ≡ true
  pub unstopped : (flags_of conn).stopped ≡ false
  pub here : (flags_of conn).gone ≡ false
  pub found : conn.lost ≡ false
  pub calm : conn.idled ≡ false
  pub open_yet : conn.closing ≡ false
  pub unclosed : conn.closes ≡ false
  pub uncut : conn.cut ≡ None
  pub undone : done ≡ false

none_cut : (cut : Option Cause) → is_some cut ≡ false → cut ≡ None
none_cut None e = refl
none_cut (Some cause) e = absurd (false≢true (sym e))

pub going : (conn : HttpConn) (done : Bool) → ends_with conn done ≡ false → Going conn done
going conn done e =
    let m = flags_of conn in
    let p8 = or_parts (not (may_write m) || m.stopped || m.gone || conn.lost || conn.idled || conn.closing || conn.closes || is_some conn.cut) done e in
    let p7 = or_parts (not (may_write m) || m.stopped || m.gone || conn.lost || conn.idled || conn.closing || conn.closes) (is_some conn.cut) p8.0 in
    let p6 = or_parts (not (may_write m) || m.stopped || m.gone || conn.lost || conn.idled || conn.closing) conn.closes p7.0 in
    let p5 = or_parts (not (may_write m) || m.stopped || m.gone || conn.lost || conn.idled) conn.closing p6.0 in
    let p4 = or_parts (not (may_write m) || m.stopped || m.gone || conn.lost) conn.idled p5.0 in
    let p3 = or_parts (not (may_write m) || m.stopped || m.gone) conn.lost p4.0 in
    let p2 = or_parts (not (may_write m) || m.stopped) m.gone p3.0 in
    let p1 = or_parts (not (may_write m)) m.stopped p2.0 in
    record {
      may = not-false (may_write m) p1.0;
      unstopped = p1.1;
      here = p2.1;
      found = p3.1;
      calm = p4.1;
      open_yet = p5.1;
      unclosed = p6.1;
      uncut = none_cut conn.cut p7.1;
      undone = p8.1;
    }

pub goes : (conn : HttpConn) (done : Bool) → Going conn done → ends_with conn done ≡ false
goes conn done g =
    or_from _ _ (or_from _ _ (or_from _ _ (or_from _ _ (or_from _ _ (or_from _ _ (or_from _ _ (or_from _ _ (ap not g.may) g.unstopped) g.here) g.found) g.calm)
    g.open_yet) g.unclosed) (ap is_some g.uncut)) g.undone

fourth : (x d f h i j k : Bool) → d ≡ true → (x || d || f || h || i || j || k) ≡ true
fourth true d f h i j k e = refl
fourth false true f h i j k e = refl
fourth false false f h i j k e = absurd (false≢true e)

sixth : (x h i j k : Bool) → h ≡ true → (x || h || i || j || k) ≡ true
sixth true h i j k e = refl
sixth false true i j k e = refl
sixth false false i j k e = absurd (false≢true e)

pub lost_ends : (conn : HttpConn) (done : Bool) → conn.lost ≡ true → ends_with conn done ≡ true
lost_ends conn done is =
    fourth (not (may_write (flags_of conn)) || (flags_of conn).stopped || (flags_of conn).gone) conn.lost conn.idled conn.closing conn.closes (is_some conn.cut) done is

pub closing_ends : (conn : HttpConn) (done : Bool) → conn.closing ≡ true → ends_with conn done ≡ true
closing_ends conn done is =
    sixth (not (may_write (flags_of conn)) || (flags_of conn).stopped || (flags_of conn).gone || conn.lost || conn.idled) conn.closing conn.closes (is_some conn.cut) done is

pub head_two : (conn : HttpConn) (e : Exchange) → 2 ≤ (site_of conn).limits.head → StandsFor conn e → 2 ≤ (limits_of conn.request).head
head_two conn e two front = subst (λ (l : Limits). 2 ≤ l.head) (sym front.limits) two

-- it is told of the bytes that were heard
pub ends_same : (conn : HttpConn) (e : Exchange) → 2 ≤ (site_of conn).limits.head → StandsFor conn e → (done : Bool) → TellsDone conn done → ends_with conn done ≡ ends_at conn e
ends_same conn e two front done tells = by_lost conn.lost refl
  where
    by_closed : (found : conn.lost ≡ false) (b : Bool) → e.closed ≡ b → ends_with conn done ≡ ends_at conn e
    by_closed found true closed =
        closing_ends conn done (front.closing ∙ closed) ∙ sym (closing_ends conn (is_done_with conn (request_bytes (number_of conn) e)) (front.closing ∙ closed))
    by_closed found false unclosed =
        let h : IsHeard conn.request (is_reading conn.stage) (request_bytes (number_of conn) e) = front.request found unclosed in
        ap (λ (d : Bool). ends_with conn d) (tells (request_bytes (number_of conn) e) h.taken (head_two conn e two front) h.knows)

    by_lost : (b : Bool) → conn.lost ≡ b → ends_with conn done ≡ ends_at conn e
    by_lost true is = lost_ends conn done is ∙ sym (lost_ends conn (is_done_with conn (request_bytes (number_of conn) e)) is)
    by_lost false found = by_closed found e.closed refl

pub ends_is : (conn : HttpConn) (e : Exchange) → 2 ≤ (site_of conn).limits.head → StandsFor conn e → (b : Bool) → TellsEnding conn b → b ≡ ends_at conn e
ends_is conn e two front b t = t.is ∙ ends_same conn e two front t.done t.tells

-- ---- what follows where nothing ends it

pub live_of : (conn : HttpConn) (done : Bool) → Going conn done → is_live (flags_of conn) ≡ true
live_of conn done g = (and_parts (is_live (flags_of conn)) (not (flags_of conn).upgraded) g.may).0

pub accepted_of : (conn : HttpConn) (done : Bool) → Going conn done → (flags_of conn).accepted ≡ true
accepted_of conn done g = (and_parts (flags_of conn).accepted (not (flags_of conn).shut) (live_of conn done g)).0

not_true : (b : Bool) → not b ≡ true → b ≡ false
not_true true e = absurd (false≢true e)
not_true false e = refl

pub unshut_of : (conn : HttpConn) (done : Bool) → Going conn done → (flags_of conn).shut ≡ false
unshut_of conn done g = not_true (flags_of conn).shut (and_parts (flags_of conn).accepted (not (flags_of conn).shut) (live_of conn done g)).1

pub unclosed_of : (conn : HttpConn) (e : Exchange) (done : Bool) → StandsFor conn e → Going conn done → e.closed ≡ false
unclosed_of conn e done front g = sym front.closing ∙ g.open_yet
