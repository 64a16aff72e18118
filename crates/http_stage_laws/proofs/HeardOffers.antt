-- The body of a script that waits for its turn.
use Rattle.std.proofs.Common.{◌≡◌, ℕ, zero, suc, Bool, true, ◌||◌, List, length, Some, inl, inr, sym, ap, ◌∙◌, subst, arith}
use Rattle.std.specs.Prelude.{nat_lt}
use Rattle.std.proofs.lemmas.Bool.{false≢true, lt-ltb}
use Rattle.host_base.specs.declared.cause.Cause.{Cause}
use Rattle.host_base.specs.declared.limits.Limits.{Limits}
use Rattle.host_base.specs.declared.request.Request.{Request}
use Rattle.host_trace.specs.declared.items.Event.TheVariants.{Stop}
use Rattle.host_trace.specs.declared.items.Item.TheVariants.{In}
use Rattle.request_reader.specs.Request.{read_request}
use Rattle.trace_model.specs.Exchange.{reading, request_bytes}
use Rattle.trace_model.specs.Readings.{is_whole, startable}
use Rattle.exchange_request.specs.declared.found.Found.{Found}
use Rattle.exchange_request.specs.declared.found.Found.TheVariants as Seen
use Rattle.exchange_request.specs.Knows.{Finds, KnowsRequest, is_taken, limits_of}
use Rattle.exchange_stage.specs.declared.stage.Stage.{Stage}
use Rattle.exchange_stage.specs.declared.stage.Stage.TheVariants as At
use Rattle.exchange_laws.specs.Bodies.{HasBody, is_offered_whole}
use Rattle.exchange_laws.proofs.BodyStageLaws.{bodies_are_heard, offers_are_bodies}
use Rattle.conn_laws.specs.Front.{IsHeard}
use Rattle.conn_laws.proofs.FrontLaws.{unready_none}
use Rattle.http_conn.specs.HttpConn.{HttpConn}
use Rattle.http_conn.specs.Kept.{is_reading, number_of, site_of}
use Rattle.http_conn.specs.Ready.{LooksTo}
use Rattle.http_stage_laws.specs.HeardStages.{HasHeard, LooksAreHeard, OffersAreKnown}
use Rattle.http_stage_laws.proofs.HeardRest.{taken_is_whole}

pub offers_are_known : OffersAreKnown
offers_are_known conn e hop request front found open_yet heard at =
    offers_are_bodies (site_of conn) (number_of conn) e hop request (heard.bodies hop request at) ∙ ap (λ (w : Bool). record { body = request.body; whole = w }) (whole_is hop)
  where
    taken_is : is_taken conn.request ≡ is_whole (reading (site_of conn) (number_of conn) e)
    taken_is =
        taken_is_whole conn.request (request_bytes (number_of conn) e) (front.request found open_yet).taken (front.request found open_yet).knows (heard.looked (ap is_reading at))
        ∙ ap (λ (l : Limits). is_whole (read_request l (request_bytes (number_of conn) e))) front.limits

    whole_is : (hop : ℕ) → is_offered_whole (site_of conn) (number_of conn) e hop ≡ (nat_lt 0 hop || is_taken conn.request)
    whole_is zero = sym taken_is
    whole_is (suc hop) = sym (ap (λ (b : Bool). b || is_taken conn.request) (lt-ltb 0 (suc hop) (omega arith)))

pub waits_same : (hop hop' : ℕ) (a b : Request) → At.Unstarted hop a ≡ At.Unstarted hop' b → (hop ≡ hop') × (a ≡ b)
waits_same hop hop' a b is = (cc, cc)

pub looks_are_heard : LooksAreHeard
looks_are_heard old new e front found open_yet heard (inl same) = subst (λ (conn : HttpConn). HasHeard conn e) (sym same) heard
looks_are_heard old new e front found open_yet heard (inr l) =
    finds l.found l.to (l.limits ∙ front.limits)
    (l.finds (request_bytes (number_of old) e) (unready_none old.request (request_bytes (number_of old) e) h.taken (h.unready l.reading) h.knows) (h.unready l.reading))
  where
    h : IsHeard old.request (is_reading old.stage) (request_bytes (number_of old) e)
    h = front.request found open_yet

    same_site : (stage : Stage) → new ≡ record old { request = new.request; stage = stage } → (site_of new ≡ site_of old) × (number_of new ≡ number_of old)
    same_site stage is = (ap (λ (conn : HttpConn). site_of conn) is, ap (λ (conn : HttpConn). number_of conn) is)

    finds : (seen : Found) → LooksTo seen old new → limits_of new.request ≡ (site_of old).limits → Finds (request_bytes (number_of old) e) seen new.request → HasHeard new e
    finds Seen.More to limits f =
        let at : is_reading new.stage ≡ true = ap (λ (conn : HttpConn). is_reading conn.stage) to ∙ l.reading in
        record {
          bodies = λ hop request is. absurd (false≢true (sym (ap is_reading is) ∙ at));
          looked = λ other. ap (λ (b : Bool). b || is_taken new.request) f.looked;
          handed = λ ready. absurd (false≢true (sym f.ready ∙ ready));
        }
    finds (Seen.Refused cause bare) to limits f = record {
      bodies = λ hop request is. absurd (never cause bare hop request (sym (ap (λ (conn : HttpConn). conn.stage) to) ∙ is));
      looked = λ other. ap (λ (b : Bool). b || is_taken new.request) f.looked;
      handed = λ ready. absurd (false≢true (sym f.ready ∙ ready));
    }
      where
        never : (cause : Cause) (bare : Bool) (hop : ℕ) (request : Request) → At.Rejected cause bare ≡ At.Unstarted hop request → ⊥
        never cause bare hop request is = cc
    finds (Seen.Ready request) to limits f = has_ready request to limits f
      where
        has_ready : (request : Request) → new ≡ record old { request = new.request; stage = At.Unstarted 0 request } → limits_of new.request ≡ (site_of old).limits
            → Finds (request_bytes (number_of old) e) (Seen.Ready request) new.request → HasHeard new e
        has_ready request to limits f =
            let starts : startable (reading (site_of old) (number_of old) e) ≡ Some request =
            sym (ap (λ (l : Limits). startable (read_request l (request_bytes (number_of old) e))) limits) ∙ f.is in
            let body : HasBody (site_of old) (number_of old) e 0 request = (bodies_are_heard (site_of old) (number_of old) e (In Stop) request).found starts in
            subst (λ (conn : HttpConn). HasHeard conn e) (sym to) (record {
              bodies = λ hop r is.
                  let same = waits_same 0 hop request r is in
                  subst (λ (h : ℕ). HasBody (site_of old) (number_of old) e h r) same.0 (subst (λ (q : Request). HasBody (site_of old) (number_of old) e 0 q) same.1 body);
              looked = λ other. ap (λ (b : Bool). b || is_taken new.request) f.looked;
              handed = λ ready. subst (λ (l : List ℕ). KnowsRequest new.request (request_bytes (number_of old) e) (length l)) body f.knows;
            })
