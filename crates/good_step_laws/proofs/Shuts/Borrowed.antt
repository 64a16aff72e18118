-- Lemmas of other crates that are private there.
--   http_step_laws KeepLaws: number, last_is
--   http_stage_laws WhyLaws: same_reading, three
--   http_step_laws WhyWords: why_by (an abbrev)
--   exchange_stage HopStageLaws: later_hop, hop_after (the second half of of_hop)
use Rattle.std.proofs.Common.{◌≡◌, ℕ, zero, suc, ◌∷◌, Bool, true, false, ◌||◌, not, if◌then◌else◌, Option, Some, None, List, [], refl, sym, ap, ◌∙◌, subst}
use Rattle.std.proofs.lemmas.Bool.{false≢true}
use Rattle.host_base.specs.declared.cause.Cause.{Cause}
use Rattle.host_base.specs.declared.request.Request.{Request}
use Rattle.host_base.specs.declared.site.Site.{Site}
use Rattle.host_trace.specs.declared.items.Event.{Event}
use Rattle.host_trace.specs.declared.items.Item.{Item}
use Rattle.host_trace.specs.declared.items.Why.{Why}
use Rattle.host_trace.specs.declared.items.Why.TheVariants.{Done as IsDone, Gone, Idle, NoMemory, Stopped}
use Rattle.host_trace.specs.Trace.{after_step}
use Rattle.trace_child.specs.Words.{is_filled}
use Rattle.trace_model.specs.Answer.{request_of_hop}
use Rattle.trace_model.specs.Exchange.{Exchange}
use Rattle.trace_model.specs.Legs.{Leg as Started}
use Rattle.conn_laws.specs.Hops.{Leads, SameLegs, StillReaches}
use Rattle.trace_model.specs.Exchanges.{current}
use Rattle.exchange_stage.specs.declared.stage.Stage.{Stage}
use Rattle.exchange_stage.specs.declared.stage.Stage.TheVariants as At
use Rattle.exchange_laws.specs.Asks.{is_reading as reads}
use Rattle.conn_flags.specs.View.{View as Flags}
use Rattle.conn_flags.proofs.KnowsLaws.{given_all-number}
use Rattle.conn_laws.specs.Moves.{Move, acts_of, moved}
use Rattle.http_conn.specs.HttpConn.{HttpConn}
use Rattle.http_conn.specs.Kept.{is_reading, flags_of, number_of, site_of}
use Rattle.http_conn.specs.Reasons.{or_cut}
use Rattle.http_step_laws.specs.Standing.{Leaves}
use Rattle.http_step_laws.proofs.RestWords.{current_is}
use Rattle.http_step_laws.proofs.WantLaws.{Done}

-- ---- http_step_laws KeepLaws

module _ (L : List Item) (ev : Event) (e : Exchange) (old new : HttpConn) (n : ℕ) (moves : List Move) (l : Leaves Done L ev [] e old n moves new) where
  pub number : number_of new ≡ number_of old
  number = ap (λ (m : Flags). m.c) l.flags ∙ given_all-number (flags_of old) (acts_of moves)

  pub last_is : current (site_of old) (number_of old) (after_step L ev (acts_of moves)) ≡ moved (site_of old) (number_of old) e moves
  last_is =
      subst (λ (k : ℕ). current (site_of old) k (after_step L ev (acts_of moves)) ≡ moved (site_of old) (number_of old) e moves) number
      (subst (λ (t : Site). current t (number_of new) (after_step L ev (acts_of moves)) ≡ moved (site_of old) (number_of old) e moves) l.site
      (current_is L ev (acts_of moves) l.turn (moved (site_of old) (number_of old) e moves) new _ l.standing l.post.closed))

-- ---- http_stage_laws WhyLaws

pub same_reading : (s : Stage) → reads s ≡ is_reading s
same_reading At.Reading = refl
same_reading _ = refl

pub three : (a b c : Bool) → ((a || b) || c) ≡ (a || b || c)
three true b c = refl
three false true c = refl
three false false c = refl

-- ---- http_step_laws WhyWords

abbrev pub why_by : Bool → Bool → Bool → Bool → Option Cause → Bool → Bool → Option Why
why_by live lost stopped gone cut idled over =
    if not live then None
    else (if lost then Some NoMemory
    else (if stopped then Some Stopped
    else (if gone then Some Gone
    else or_cut cut (if idled then Some Idle else (if over then Some IsDone else None)))))

-- ---- exchange_stage HopStageLaws

later_hop : (site : Site) (c : ℕ) (e : Exchange) (left hop : ℕ) (request : Request) (leg : Started) (legs : List Started) (left' hop' : ℕ) (request' : Request)
    → Leads site c e left hop request (leg ∷ legs) left' hop' request' → (n : ℕ) × (hop' ≡ suc n)
later_hop site c e zero hop request leg legs left' hop' request' l = absurd l
later_hop site c e (suc left) hop request leg [] left' hop' request' l = (hop, sym l.2.1)
later_hop site c e (suc left) hop request leg (next ∷ legs) left' hop' request' l = later_hop site c e left (suc hop) (request_of_hop request l.0) next legs left' hop' request' l.2

pub hop_after : (site : Site) (c : ℕ) (e : Exchange) (legs : List Started) (left hop : ℕ) (request : Request) → is_filled legs ≡ true → StillReaches site c e legs left hop request → (n : ℕ) × (hop ≡ suc n)
hop_after site c e [] left hop request some r = absurd (false≢true some)
hop_after site c e (leg ∷ legs) left hop request some r = go r.legs_then r.same_legs r.reaches.leads
  where
    go : (legs_then : List Started) → SameLegs (leg ∷ legs) legs_then → Leads site c e site.limits.redirects 0 r.reaches.first legs_then left hop r.request_then → (n : ℕ) × (hop ≡ suc n)
    go [] same l = absurd same
    go (first ∷ rest) same l = later_hop site c e site.limits.redirects 0 r.reaches.first first rest left hop r.request_then l
