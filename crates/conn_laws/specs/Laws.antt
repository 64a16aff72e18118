-- What holds of the walk along the hops of an exchange.
use Rattle.std.specs.Prelude.{ℕ, zero, suc, true, false, ◌≡◌, ◌≤◌, List, [], ◌∷◌, ◌++◌, Option, Some, None, Ok, Err}
use Rattle.host_base.specs.declared.cause.Cause.{Cause}
use Rattle.host_base.specs.declared.cause.Cause.TheVariants.{RedirectLoop}
use Rattle.host_base.specs.declared.reply.Reply.{Reply}
use Rattle.host_base.specs.declared.request.Request.{Request}
use Rattle.host_base.specs.declared.site.Mapped.{Mapped}
use Rattle.host_base.specs.declared.site.Site.{Site}
use Rattle.host_trace.specs.declared.items.Act.{Act}
use Rattle.host_trace.specs.declared.items.Item.{Item}
use Rattle.host_trace.specs.declared.items.Item.TheVariants.{Out}
use Rattle.host_trace.specs.Decider.{derived, failed, unanswered, is_websocket}
use Rattle.host_trace.specs.First.{last_of}
use Rattle.host_trace.specs.Projections.{child_out, children_of}
use Rattle.reply_kinds.specs.declared.derived.Derived.TheVariants as Output
use Rattle.reply_kinds.specs.Derived.{derived_of}
use Rattle.trace_child.specs.Decided.{decided_at, outcome_at}
use Rattle.trace_model.specs.Answer.{Stage, refused, unstarted, running, broken_off, answered, walk, walk_from, stage, request_of_hop}
use Rattle.trace_model.specs.Breaks.{broken}
use Rattle.trace_model.specs.Exchange.{Exchange, pushed, up_to, final}
use Rattle.trace_model.specs.Legs.{Leg, run_of}
use Rattle.trace_model.specs.Places.{place_of, kind_of}
use Rattle.conn_laws.specs.Quiet.{IsQuiet, is_plain}
use Rattle.conn_laws.specs.Hops.{IsStarted, LeadsOn, Reaches, StillReaches, with_legs}

abbrev pub QuietItemsChangeNothing : Type 0
QuietItemsChangeNothing = (site : Site) (c : ℕ) (e : Exchange) (x : Item) → IsQuiet site c e x → walk site c (pushed e x) ≡ walk site c e

abbrev pub PlainActsAreQuiet : Type 0
PlainActsAreQuiet = (site : Site) (c : ℕ) (e : Exchange) (act : Act) → is_plain act ≡ true → IsQuiet site c e (Out act)

abbrev pub ActsBreakNothing : Type 0
ActsBreakNothing = (site : Site) (c : ℕ) (e : Exchange) (act : Act) → broken site c (pushed e (Out act)) ≡ broken site c e

-- Where local redirects led to a hop, the walk goes on there ..
abbrev pub HopsAreWalked : Type 0
HopsAreWalked = (site : Site) (c : ℕ) (e : Exchange) (legs : List Leg) (left hop : ℕ) (request : Request) → Reaches site c e legs left hop request
    → walk site c e ≡ with_legs legs (walk_from site c e left hop request)

-- .. and one item more, which breaks nothing, leaves it reached.
abbrev pub WalksAreKept : Type 0
WalksAreKept = (site : Site) (c : ℕ) (e : Exchange) (x : Item) (legs : List Leg) (left hop : ℕ) (request : Request) → 2 ≤ site.limits.head
    → broken site c (pushed e x) ≡ None → Reaches site c e legs left hop request → StillReaches site c (pushed e x) legs left hop request

-- ---- what stands at the hop that was reached

-- the run of the leg was decided by the item at the end of this front
pub record IsDecidedBy (site : Site) (c : ℕ) (e : Exchange) (leg : Leg) (front : List Item) (item : Item) : Type 0 where
  pub decided : decided_at (run_of site c e leg) e.items ≡ Some front
  pub last : last_of front ≡ Some item

pub record StandsAs (site : Site) (c : ℕ) (e : Exchange) (left hop : ℕ) (request : Request) : Type 0 where
  pub no_script : (cause : Cause) → place_of site request ≡ Err cause → stage site c e ≡ refused cause
  pub not_started : (mapped : Mapped) → place_of site request ≡ Ok mapped → is_websocket (kind_of site mapped) ≡ false
      → children_of e.items c e.number hop ≡ [] → stage site c e ≡ unstarted hop request mapped
  pub runs : (leg : Leg) → IsStarted site c e hop request leg → decided_at (run_of site c e leg) e.items ≡ None → stage site c e ≡ running leg
  pub fails : (leg : Leg) (front : List Item) (item : Item) (cause : Cause) → IsStarted site c e hop request leg → IsDecidedBy site c e leg front item
      → outcome_at (run_of site c e leg) item ≡ failed cause → stage site c e ≡ broken_off leg (Some cause) (final site c (up_to e front))
  pub ends : (leg : Leg) (front : List Item) (item : Item) → IsStarted site c e hop request leg → IsDecidedBy site c e leg front item
      → outcome_at (run_of site c e leg) item ≡ unanswered → stage site c e ≡ broken_off leg None (final site c (up_to e front))
  pub replies : (leg : Leg) (front : List Item) (item : Item) (reply : Reply) → IsStarted site c e hop request leg → IsDecidedBy site c e leg front item
      → outcome_at (run_of site c e leg) item ≡ derived → derived_of leg.kind (child_out front leg.child) ≡ Output.Reply reply
      → stage site c e ≡ answered leg (Output.Reply reply)
  pub raw : (leg : Leg) (front : List Item) (item : Item) (bytes : List ℕ) → IsStarted site c e hop request leg → IsDecidedBy site c e leg front item
      → outcome_at (run_of site c e leg) item ≡ derived → derived_of leg.kind (child_out front leg.child) ≡ Output.Raw bytes
      → stage site c e ≡ answered leg (Output.Raw bytes)
  pub bad : (leg : Leg) (front : List Item) (item : Item) (cause : Cause) → IsStarted site c e hop request leg → IsDecidedBy site c e leg front item
      → outcome_at (run_of site c e leg) item ≡ derived → derived_of leg.kind (child_out front leg.child) ≡ Output.Bad cause
      → stage site c e ≡ answered leg (Output.Bad cause)
  -- one local redirect too many
  pub loops : (leg : Leg) (location : List ℕ) → left ≡ 0 → LeadsOn site c e hop request leg location → stage site c e ≡ refused RedirectLoop

abbrev pub HopsStandAsTheyAre : Type 0
HopsStandAsTheyAre = (site : Site) (c : ℕ) (e : Exchange) (legs : List Leg) (left hop : ℕ) (request : Request) → Reaches site c e legs left hop request
    → StandsAs site c e left hop request

-- A local redirect leads to the next hop.
abbrev pub RedirectsLeadOn : Type 0
RedirectsLeadOn = (site : Site) (c : ℕ) (e : Exchange) (legs : List Leg) (left hop : ℕ) (request : Request) (leg : Leg) (location : List ℕ)
    → Reaches site c e legs (suc left) hop request → LeadsOn site c e hop request leg location
    → Reaches site c e (legs ++ leg ∷ []) left (suc hop) (request_of_hop request location)
