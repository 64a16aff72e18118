-- What is known of the request goes on.
use Rattle.std.proofs.Common.{◌≡◌, ℕ, Bool, true, false, List, [], length, sym, ap, ◌∙◌, subst}
use Rattle.std.proofs.lemmas.Bool.{false≢true}
use Rattle.host_base.specs.declared.request.Request.{Request}
use Rattle.host_base.specs.declared.site.Site.{Site}
use Rattle.host_trace.specs.declared.items.Item.{Item}
use Rattle.host_trace.specs.Kinds.{bytes_heard}
use Rattle.request_reader.specs.Request.{Reading}
use Rattle.trace_model.specs.Exchange.{Exchange, pushed, request_bytes}
use Rattle.trace_model.specs.Readings.{body_of, headed}
use Rattle.exchange_request.specs.Knows.{KnowsRequest}
use Rattle.exchange_stage.specs.declared.stage.Stage.{Stage}
use Rattle.exchange_stage.specs.declared.stage.Stage.TheVariants as At
use Rattle.exchange_laws.specs.Bodies.{HasBody, body_heard}
use Rattle.exchange_laws.proofs.BodyStageLaws.{bodies_are_heard}
use Rattle.conn_laws.proofs.QuietLaws.{reading-quiet}
use Rattle.http_conn.specs.HttpConn.{HttpConn}
use Rattle.http_conn.specs.Kept.{number_of, site_of}
use Rattle.http_stage_laws.specs.HeardStages.{HasHeard}
use Rattle.http_stage_laws.proofs.HeardOffers.{waits_same}
use Rattle.http_step_laws.proofs.PushWords.{bytes_quiet}

-- another item than bytes of the client leaves it
pub heard_push : (conn : HttpConn) (e : Exchange) (x : Item) → bytes_heard (number_of conn) x ≡ [] → HasHeard conn e → HasHeard conn (pushed e x)
heard_push conn e x none h =
    let body : body_heard (site_of conn) (number_of conn) e ≡ body_heard (site_of conn) (number_of conn) (pushed e x) =
    sym (ap (λ (r : Reading). body_of (headed r)) (reading-quiet (site_of conn) (number_of conn) e x none)) in
    record {
      bodies = λ hop request at. (bodies_are_heard (site_of conn) (number_of conn) e x request).quiet hop none (h.bodies hop request at);
      looked = h.looked;
      handed = λ ready.
          subst (λ (l : List ℕ). KnowsRequest conn.request l (length (body_heard (site_of conn) (number_of conn) (pushed e x)))) (sym (bytes_quiet (number_of conn) e x none))
          (subst (λ (l : List ℕ). KnowsRequest conn.request (request_bytes (number_of conn) e) (length l)) body (h.handed ready));
    }

abbrev pub is_unstarted : Stage → Bool
is_unstarted (At.Unstarted hop request) = true
is_unstarted stage = false

-- no script waits for its turn
pub no_script_waits : (site : Site) (c : ℕ) (e : Exchange) (t : Stage) → is_unstarted t ≡ false → (hop : ℕ) (request : Request) → t ≡ At.Unstarted hop request → HasBody site c e hop request
no_script_waits site c e t none hop request at = absurd (false≢true (sym none ∙ ap is_unstarted at))

-- this one does
pub one_waits : (site : Site) (c : ℕ) (e : Exchange) (hop : ℕ) (request : Request) → HasBody site c e hop request → (h : ℕ) (q : Request) → At.Unstarted hop request ≡ At.Unstarted h q → HasBody site c e h q
one_waits site c e hop request has h q at =
    let same = waits_same hop h request q at in
    subst (λ (k : ℕ). HasBody site c e k q) same.0 (subst (λ (r : Request). HasBody site c e hop r) same.1 has)
