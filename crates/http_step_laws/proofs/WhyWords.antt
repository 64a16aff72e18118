-- The reasons for which a connection is shut.
use Rattle.std.proofs.Common.{◌≡◌, ◌≤◌, Bool, true, false, ◌||◌, not, if◌then◌else◌, Option, Some, None, refl, sym, ap, ◌∙◌}
use Rattle.std.proofs.lemmas.Bool.{and_from, false≢true, or_from, or_parts}
use Rattle.host_base.specs.declared.cause.Cause.{Cause}
use Rattle.host_trace.specs.declared.items.Why.{Why}
use Rattle.host_trace.specs.declared.items.Why.TheVariants.{Cut, Done, Full, Gone, Idle, NoMemory, Stopped}
use Rattle.host_trace.specs.Kinds.{is_no_memory}
use Rattle.trace_model.specs.Exchange.{Exchange, request_bytes}
use Rattle.conn_flags.specs.View.{is_live}
use Rattle.conn_laws.specs.Front.{IsHeard}
use Rattle.http_conn.specs.HttpConn.{HttpConn}
use Rattle.http_conn.specs.Kept.{StandsFor, is_reading, flags_of, number_of, site_of}
use Rattle.http_conn.specs.Reasons.{is_done_with, or_cut, why_of}
use Rattle.http_conn.specs.Tells.{TellsDone}
use Rattle.http_step_laws.proofs.EndWords.{Going, head_two}

abbrev why_by : Bool → Bool → Bool → Bool → Option Cause → Bool → Bool → Option Why
why_by live lost stopped gone cut idled over =
    if not live then None
    else (if lost then Some NoMemory
    else (if stopped then Some Stopped
    else (if gone then Some Gone
    else or_cut cut (if idled then Some Idle else (if over then Some Done else None)))))

abbrev named : Option Why → Bool
named None = false
named (Some why) = is_no_memory why

-- it is for want of memory exactly where memory ran out
pub some_why : (live lost stopped gone : Bool) (cut : Option Cause) (idled over : Bool) (why : Why) → why_by live lost stopped gone cut idled over ≡ Some why → (is_no_memory why ≡ lost) × (live ≡ true)
some_why false lost stopped gone cut idled over why e = absurd (cc)
some_why true true stopped gone cut idled over why e = (sym (ap named e), refl)
some_why true false true gone cut idled over why e = (sym (ap named e), refl)
some_why true false false true cut idled over why e = (sym (ap named e), refl)
some_why true false false false (Some cause) idled over why e = (sym (ap named e), refl)
some_why true false false false None true over why e = (sym (ap named e), refl)
some_why true false false false None false true why e = (sym (ap named e), refl)
some_why true false false false None false false why e = absurd (cc)

pub record NoWhy (lost stopped gone : Bool) (cut : Option Cause) (idled over : Bool) : Type 0 where
  pub found : lost ≡ false
  pub unstopped : stopped ≡ false
  pub here : gone ≡ false
  pub uncut : cut ≡ None
  pub calm : idled ≡ false
  pub open_yet : over ≡ false

pub no_why : (lost stopped gone : Bool) (cut : Option Cause) (idled over : Bool) → why_by true lost stopped gone cut idled over ≡ None → NoWhy lost stopped gone cut idled over
no_why true stopped gone cut idled over e = absurd (cc)
no_why false true gone cut idled over e = absurd (cc)
no_why false false true cut idled over e = absurd (cc)
no_why false false false (Some cause) idled over e = absurd (cc)
no_why false false false None true over e = absurd (cc)
no_why false false false None false true e = absurd (cc)
no_why false false false None false false e = record { found = refl; unstopped = refl; here = refl; uncut = refl; calm = refl; open_yet = refl }

pub no_memory_is : (why : Why) → is_no_memory why ≡ true → why ≡ NoMemory
no_memory_is NoMemory e = refl
no_memory_is _ e = absurd (false≢true e)

-- where nothing ends it there is none
pub none_going : (conn : HttpConn) (done : Bool) → Going conn done → why_of conn done ≡ None
none_going conn done g =
    ap (λ (b : Bool). why_by (is_live conn.flags) b conn.flags.stopped conn.flags.gone conn.cut conn.idled (conn.closing || conn.closes || done)) g.found
    ∙ (ap (λ (b : Bool). why_by (is_live conn.flags) false b conn.flags.gone conn.cut conn.idled (conn.closing || conn.closes || done)) g.unstopped
    ∙ (ap (λ (b : Bool). why_by (is_live conn.flags) false false b conn.cut conn.idled (conn.closing || conn.closes || done)) g.here
    ∙ (ap (λ (o : Option Cause). why_by (is_live conn.flags) false false false o conn.idled (conn.closing || conn.closes || done)) g.uncut
    ∙ (ap (λ (b : Bool). why_by (is_live conn.flags) false false false None b (conn.closing || conn.closes || done)) g.calm
    ∙ (ap (λ (b : Bool). why_by (is_live conn.flags) false false false None false b) (or_from _ _ (or_from _ _ g.open_yet g.unclosed) g.undone) ∙ none_by (is_live conn.flags))))))
  where
    none_by : (live : Bool) → why_by live false false false None false false ≡ None
    none_by true = refl
    none_by false = refl

-- .. and where there is none of a live connection nothing does
pub going_none : (conn : HttpConn) (done : Bool) → is_live (flags_of conn) ≡ true → (flags_of conn).upgraded ≡ false → why_of conn done ≡ None → Going conn done
going_none conn done live http none =
    let w = no_why conn.lost conn.flags.stopped conn.flags.gone conn.cut conn.idled (conn.closing || conn.closes || done)
    (sym (ap (λ (b : Bool). why_by b conn.lost conn.flags.stopped conn.flags.gone conn.cut conn.idled (conn.closing || conn.closes || done)) live) ∙ none) in
    let p = or_parts (conn.closing || conn.closes) done w.open_yet in
    let r = or_parts conn.closing conn.closes p.0 in
    record {
      may = and_from _ _ live (ap not http);
      unstopped = w.unstopped;
      here = w.here;
      found = w.found;
      calm = w.calm;
      open_yet = r.0;
      unclosed = r.1;
      uncut = w.uncut;
      undone = p.1;
    }

-- it is told of the bytes that were heard
pub why_same : (conn : HttpConn) (e : Exchange) → 2 ≤ (site_of conn).limits.head → StandsFor conn e → (done : Bool) → TellsDone conn done
    → why_of conn done ≡ why_of conn (is_done_with conn (request_bytes (number_of conn) e))
why_same conn e two front done tells = by_lost conn.lost refl
  where
    by_closed : (found : conn.lost ≡ false) (b : Bool) → e.closed ≡ b → why_of conn done ≡ why_of conn (is_done_with conn (request_bytes (number_of conn) e))
    by_closed found true closed =
        ap (λ (b : Bool). why_by (is_live conn.flags) conn.lost conn.flags.stopped conn.flags.gone conn.cut conn.idled (b || conn.closes || done)) (front.closing ∙ closed)
        ∙ sym (ap (λ (b : Bool). why_by (is_live conn.flags) conn.lost conn.flags.stopped conn.flags.gone conn.cut conn.idled (b || conn.closes || is_done_with conn (request_bytes (number_of conn) e))) (front.closing ∙ closed))
    by_closed found false unclosed =
        let h : IsHeard conn.request (is_reading conn.stage) (request_bytes (number_of conn) e) = front.request found unclosed in
        ap (λ (d : Bool). why_of conn d) (tells (request_bytes (number_of conn) e) h.taken (head_two conn e two front) h.knows)

    by_lost : (b : Bool) → conn.lost ≡ b → why_of conn done ≡ why_of conn (is_done_with conn (request_bytes (number_of conn) e))
    by_lost true is = ap (λ (b : Bool). why_by (is_live conn.flags) b conn.flags.stopped conn.flags.gone conn.cut conn.idled (conn.closing || conn.closes || done)) is
        ∙ sym (ap (λ (b : Bool). why_by (is_live conn.flags) b conn.flags.stopped conn.flags.gone conn.cut conn.idled (conn.closing || conn.closes || is_done_with conn (request_bytes (number_of conn) e))) is)
    by_lost false found = by_closed found e.closed refl
