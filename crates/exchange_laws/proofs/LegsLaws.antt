-- The legs of the model are those that were started.
use Rattle.std.proofs.Common.{◌≡◌, ℕ, zero, suc, Bool, true, false, List, [], ◌∷◌, ◌++◌, map, Option, Some, None, Result, Ok, Err, refl, sym, ap, subst, ◌∙◌, le_refl}
use Rattle.std.specs.Prelude.{if◌then◌else◌, ◌==◌, ◌&&◌}
use Rattle.std.proofs.lemmas.Bool.{false≢true}
use Rattle.host_base.specs.declared.cause.Cause.{Cause}
use Rattle.host_base.specs.declared.cause.Cause.TheVariants.{RedirectLoop}
use Rattle.host_base.specs.declared.request.Request.{Request}
use Rattle.host_base.specs.declared.site.Mapped.{Mapped}
use Rattle.host_base.specs.declared.site.ScriptKind.{ScriptKind}
use Rattle.host_base.specs.declared.site.ScriptKind.TheVariants.{Cgi, Nph, WebSocket}
use Rattle.host_base.specs.declared.site.Site.{Site}
use Rattle.host_trace.specs.declared.items.Act.TheVariants.{Start}
use Rattle.host_trace.specs.declared.items.Item.{Item}
use Rattle.host_trace.specs.declared.items.Item.TheVariants.{Out}
use Rattle.host_trace.specs.Decider.{Outcome, derived, failed, unanswered, is_websocket}
use Rattle.host_trace.specs.First.{last_of}
use Rattle.host_trace.specs.Kinds.{child_of, child_started}
use Rattle.host_trace.specs.Projections.{child_out, children, children_of}
use Rattle.reply_kinds.specs.declared.derived.Derived.{Derived}
use Rattle.reply_kinds.specs.declared.derived.Derived.TheVariants as Output
use Rattle.reply_kinds.specs.Derived.{derived_of}
use Rattle.request_reader.specs.Request.{Reading, Whole, More, Bad}
use Rattle.ws_handshake.specs.Handshake.{handshake}
use Rattle.trace_child.specs.Decided.{decided_at, outcome_at}
use Rattle.trace_model.specs.Answer.{Walk, refused, walk_by, walk_by_break, walk_from, stopped_at, at_hop, at_place, at_script, at_handshake, at_start, at_leg, at_run, at_decider, at_outcome, at_output, request_of_hop, legs as legs_of}
use Rattle.trace_model.specs.Breaks.{broken}
use Rattle.trace_model.specs.Exchange.{Exchange, reading}
use Rattle.trace_model.specs.Legs.{Leg, leg_of, run_of}
use Rattle.trace_model.specs.Places.{place_of, kind_of, origins_of}
use Rattle.trace_model.specs.Readings.{if_length}
use Rattle.conn_laws.specs.Hops.{IsStarted, SameLegs, with_legs}
use Rattle.conn_laws.proofs.HopLaws.{reaches_walk}
use Rattle.exchange_laws.specs.Walked.{IsLast}
use Rattle.exchange_laws.specs.StageIs.{IsWalked}
use Rattle.exchange_laws.specs.Rules.{LegsAre}
use Rattle.exchange_laws.proofs.RunLaws.{leg_now, started_now}
use Rattle.exchange_laws.proofs.SplitLaws.{last_count}
use Rattle.exchange_laws.proofs.WalkLaws.{same_legs-append}

-- ---- no script, no leg

started_is : (c j hop : ℕ) (x : Item) → child_started c x ≡ [] → child_of c j hop x ≡ []
started_is c j hop (Out (Start k d i h launch)) none = go (c == d) (j == i) (hop == h) none
  where
    go : (mine same_exchange same_hop : Bool) → (if mine then k ∷ [] else []) ≡ [] → (if mine && same_exchange && same_hop then k ∷ [] else []) ≡ []
    go true a b is = absurd (cc)
    go false a b is = refl
started_is c j hop x none = refl

both_none : (a b : List ℕ) → a ++ b ≡ [] → (a ≡ []) × (b ≡ [])
both_none [] b is = (refl, is)
both_none (x ∷ a) b is = absurd (cc)

-- where no child was started none was for a hop
pub no_children_of : (items : List Item) (c j hop : ℕ) → children items c ≡ [] → children_of items c j hop ≡ []
no_children_of [] c j hop none = refl
no_children_of (x ∷ items) c j hop none =
    let parts = both_none (child_started c x) (children items c) none in
    ap (λ l. l ++ children_of items c j hop) (started_is c j hop x parts.0) ∙ no_children_of items c j hop parts.1

module _ (site : Site) (c : ℕ) (e : Exchange) where
  no_legs_at : (hop : ℕ) (request : Request) (next : List ℕ → Walk) → children_of e.items c e.number hop ≡ [] → (at_hop site c e hop request next).legs ≡ []
  no_legs_at hop request next none = by_place (place_of site request)
    where
      by_handshake : (mapped : Mapped) (h : Result (List ℕ) Cause) → (at_handshake c e hop request mapped h).legs ≡ []
      by_handshake mapped (Err cause) = refl
      by_handshake mapped (Ok value) = ap (map (leg_of hop WebSocket request)) none

      by_kind : (mapped : Mapped) (kind : ScriptKind) → (at_script site c e hop request mapped next kind).legs ≡ []
      by_kind mapped WebSocket = by_handshake mapped (handshake request (origins_of site mapped))
      by_kind mapped Cgi = ap (λ ks. (at_start site c e hop request mapped Cgi next ks).legs) none
      by_kind mapped Nph = ap (λ ks. (at_start site c e hop request mapped Nph next ks).legs) none

      by_place : (p : Result Mapped Cause) → (at_place site c e hop request next p).legs ≡ []
      by_place (Err cause) = refl
      by_place (Ok mapped) = by_kind mapped (kind_of site mapped)

  no_legs_from : (left hop : ℕ) (request : Request) → children_of e.items c e.number hop ≡ [] → (walk_from site c e left hop request).legs ≡ []
  no_legs_from zero hop request none = no_legs_at hop request (λ location. stopped_at (refused RedirectLoop)) none
  no_legs_from (suc left) hop request none =
      no_legs_at hop request (λ location. walk_from site c e left (suc hop) (request_of_hop request location)) none

  pub no_legs : children e.items c ≡ [] → legs_of site c e ≡ []
  no_legs none = by_reading (reading site c e)
    where
      by_break : (request : Option Request) (o : Option (List Item)) → (walk_by_break site c e o request).legs ≡ []
      by_break request (Some front) = refl
      by_break None None = refl
      by_break (Some request) None = no_legs_from site.limits.redirects 0 request (no_children_of e.items c e.number 0 none)

      by_reading : (r : Reading) → (walk_by site c e r).legs ≡ []
      by_reading (Bad cause bare) = refl
      by_reading (Whole request used due) = by_break (Some request) (broken site c e)
      by_reading (More request due) = by_break (if_length request) (broken site c e)

  -- ---- the last leg

  started_at : (hop : ℕ) (request : Request) (next : List ℕ → Walk) (leg : Leg) → IsStarted site c e hop request leg
      → at_hop site c e hop request next ≡ at_leg site c e next leg
  started_at hop request next leg s =
      ap (at_place site c e hop request next) s.place
      ∙ (ap (at_script site c e hop request s.mapped next) s.kind
      ∙ (by_kind leg.kind s.plain
      ∙ (ap (at_start site c e hop request s.mapped leg.kind next) s.child
      ∙ ap (at_leg site c e next) (sym s.same))))
    where
      by_kind : (kind : ScriptKind) → is_websocket kind ≡ false
          → at_script site c e hop request s.mapped next kind ≡ at_start site c e hop request s.mapped kind next (children_of e.items c e.number hop)
      by_kind WebSocket plain = absurd (false≢true (sym plain))
      by_kind Cgi plain = refl
      by_kind Nph plain = refl

  one_leg : (next : List ℕ → Walk) (leg : Leg) → ((location : List ℕ) → (next location).legs ≡ []) → (at_leg site c e next leg).legs ≡ leg ∷ []
  one_leg next leg none = ap (λ l. leg ∷ l) (by_run (decided_at (run_of site c e leg) e.items))
    where
      by_output : (output : Derived) → (at_output leg next output).legs ≡ []
      by_output (Output.Hop location) = none location
      by_output _ = refl

      by_outcome : (front : List Item) (o : Outcome) → (at_outcome site c e leg next front o).legs ≡ []
      by_outcome front derived = by_output (derived_of leg.kind (child_out front leg.child))
      by_outcome front (failed cause) = refl
      by_outcome front unanswered = refl

      by_decider : (front : List Item) (x : Option Item) → (at_decider site c e leg next front x).legs ≡ []
      by_decider front None = refl
      by_decider front (Some x) = by_outcome front (outcome_at (run_of site c e leg) x)

      by_run : (o : Option (List Item)) → (at_run site c e leg next o).legs ≡ []
      by_run None = refl
      by_run (Some front) = by_decider front (last_of front)

  last_from : (left hop : ℕ) (request : Request) (leg : Leg) → IsStarted site c e hop request leg → children_of e.items c e.number (suc hop) ≡ []
      → (walk_from site c e left hop request).legs ≡ leg ∷ []
  last_from zero hop request leg s none =
      ap (λ (w : Walk). w.legs) (started_at hop request (λ location. stopped_at (refused RedirectLoop)) leg s)
      ∙ one_leg (λ location. stopped_at (refused RedirectLoop)) leg (λ location. refl)
  last_from (suc left) hop request leg s none =
      ap (λ (w : Walk). w.legs) (started_at hop request (λ location. walk_from site c e left (suc hop) (request_of_hop request location)) leg s)
      ∙ one_leg (λ location. walk_from site c e left (suc hop) (request_of_hop request location)) leg
      (λ location. no_legs_from left (suc hop) (request_of_hop request location) none)

  with_legs_are : (legs : List Leg) (w : Walk) → (with_legs legs w).legs ≡ legs ++ w.legs
  with_legs_are [] w = refl
  with_legs_are (leg ∷ legs) w = ap (λ l. leg ∷ l) (with_legs_are legs w)

  pub last_legs : (legs : List Leg) (leg : Leg) (l : IsLast site c e legs leg) → legs_of site c e ≡ l.reached.legs_then ++ leg_now leg l.reached.request_then ∷ []
  last_legs legs leg l =
      ap (λ (w : Walk). w.legs) (reaches_walk site c e l.reached.legs_then l.left leg.hop l.reached.request_then l.reached.reaches)
      ∙ with_legs_are l.reached.legs_then (walk_from site c e l.left leg.hop l.reached.request_then)
      ∙ ap (λ g. l.reached.legs_then ++ g)
      (last_from l.left leg.hop l.reached.request_then (leg_now leg l.reached.request_then) (started_now site c e legs leg l) (l.new (suc leg.hop) (le_refl (suc leg.hop))))

  last_same : (legs : List Leg) (leg : Leg) → IsLast site c e legs leg → SameLegs legs (legs_of site c e)
  last_same legs leg l =
      subst (λ g. SameLegs g (legs_of site c e)) (sym l.is)
      (subst (λ g. SameLegs (l.before ++ leg ∷ []) g) (sym (last_legs legs leg l))
      (subst (λ q. SameLegs (l.before ++ leg ∷ []) (l.reached.legs_then ++ leg_now leg q ∷ [])) (sym l.reached.same_request)
      (same_legs-append l.before l.reached.legs_then leg l.reached.request_then.body l.reached.same_legs)))

  walked_same : (legs : List Leg) → IsWalked site c e legs → SameLegs legs (legs_of site c e)
  walked_same [] w = subst (λ g. SameLegs [] g) (sym (no_legs w)) tt
  walked_same (first ∷ legs) w = last_same (first ∷ legs) w.0 w.1

pub legs_are : (site : Site) (c : ℕ) (e : Exchange) (legs : List Leg) → LegsAre site c e legs
legs_are site c e legs = record { walked = walked_same site c e legs; counted = λ leg last. last_count site c e legs leg last }
