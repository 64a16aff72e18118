-- The legs of the walk, where their Starts stand hop by hop.
use Rattle.std.proofs.Common.{◌≡◌, ℕ, zero, suc, false, List, [], ◌∷◌, ◌++◌, map, Option, Some, None, Result, Ok, Err, refl, sym, ap, subst, ◌∙◌, arith, length, length-append, zero-add}
use Rattle.std.proofs.lemmas.Bool.{false≢true}
use Rattle.host_base.specs.declared.cause.Cause.{Cause}
use Rattle.host_base.specs.declared.request.Request.{Request}
use Rattle.host_base.specs.declared.site.Mapped.{Mapped}
use Rattle.host_base.specs.declared.site.ScriptKind.{ScriptKind}
use Rattle.host_base.specs.declared.site.ScriptKind.TheVariants.{Cgi, Nph, WebSocket}
use Rattle.host_base.specs.declared.site.Site.{Site}
use Rattle.host_trace.specs.declared.items.Item.{Item}
use Rattle.host_trace.specs.Decider.{Outcome, derived, failed, unanswered, is_websocket}
use Rattle.host_trace.specs.First.{last_of}
use Rattle.host_trace.specs.Projections.{child_out, children_of}
use Rattle.reply_kinds.specs.declared.derived.Derived.{Derived}
use Rattle.reply_kinds.specs.declared.derived.Derived.TheVariants as Output
use Rattle.reply_kinds.specs.Derived.{derived_of}
use Rattle.request_reader.specs.Request.{Reading, Whole, More, Bad}
use Rattle.ws_handshake.specs.Handshake.{handshake}
use Rattle.trace_child.specs.Decided.{decided_at, outcome_at}
use Rattle.trace_model.specs.Readings.{if_length}
use Rattle.trace_model.specs.Exchange.{Exchange, reading}
use Rattle.trace_model.specs.Breaks.{broken}
use Rattle.trace_model.specs.Places.{place_of, kind_of, origins_of}
use Rattle.trace_model.specs.Legs.{Leg, leg_of, run_of}
use Rattle.trace_model.specs.Answer.{Walk, walk_by, walk_by_break, walk_from, legs, at_hop, at_place, at_script, at_handshake, at_start, at_leg, at_run, at_decider, at_outcome, at_output, request_of_hop}
use Rattle.conn_laws.specs.Hops.{IsStarted, with_legs}
use Rattle.conn_laws.proofs.HopLaws.{reaches_walk}
use Rattle.child_laws.specs.Legs.{ByHop, SameRuns, Led}
use Rattle.child_laws.proofs.LegLaws.{and_last, by_hop_last, by_hop_later}

module _ (site : Site) (c : ℕ) (e : Exchange) where
  -- at a hop whose script is not started no leg follows
  module _ (hop : ℕ) (request : Request) (next : List ℕ → Walk) (none : children_of e.items c e.number hop ≡ []) where
    at_welcome : (mapped : Mapped) (value : Result (List ℕ) Cause) → (at_handshake c e hop request mapped value).legs ≡ []
    at_welcome mapped (Ok value) = ap (λ ks. map (leg_of hop WebSocket request) ks) none
    at_welcome mapped (Err cause) = refl

    unstarted_script : (mapped : Mapped) (kind : ScriptKind) → (at_script site c e hop request mapped next kind).legs ≡ []
    unstarted_script mapped WebSocket = at_welcome mapped (handshake request (origins_of site mapped))
    unstarted_script mapped Cgi = ap (λ ks. (at_start site c e hop request mapped Cgi next ks).legs) none
    unstarted_script mapped Nph = ap (λ ks. (at_start site c e hop request mapped Nph next ks).legs) none

    unstarted_place : (place : Result Mapped Cause) → (at_place site c e hop request next place).legs ≡ []
    unstarted_place (Err cause) = refl
    unstarted_place (Ok mapped) = unstarted_script mapped (kind_of site mapped)

    unstarted_hop : (at_hop site c e hop request next).legs ≡ []
    unstarted_hop = unstarted_place (place_of site request)

  unstarted_walk : (left hop : ℕ) (request : Request) → children_of e.items c e.number hop ≡ [] → (walk_from site c e left hop request).legs ≡ []
  unstarted_walk zero hop request none = unstarted_hop hop request _ none
  unstarted_walk (suc left) hop request none = unstarted_hop hop request _ none

  unstarted_by_break : (b : Option (List Item)) (request : Option Request) → children_of e.items c e.number 0 ≡ [] → (walk_by_break site c e b request).legs ≡ []
  unstarted_by_break (Some front) request none = refl
  unstarted_by_break None None none = refl
  unstarted_by_break None (Some request) none = unstarted_walk site.limits.redirects 0 request none

  unstarted_by : (r : Reading) → children_of e.items c e.number 0 ≡ [] → (walk_by site c e r).legs ≡ []
  unstarted_by (Bad cause bare) none = refl
  unstarted_by (Whole request used due) none = unstarted_by_break (broken site c e) (Some request) none
  unstarted_by (More request due) none = unstarted_by_break (broken site c e) (if_length request) none

  -- no child was started
  pub no_legs : children_of e.items c e.number 0 ≡ [] → legs site c e ≡ []
  no_legs none = unstarted_by (reading site c e) none

  -- ---- at a hop whose script was started

  started_at : (hop : ℕ) (request : Request) (next : List ℕ → Walk) (leg : Leg) → IsStarted site c e hop request leg
      → at_hop site c e hop request next ≡ at_leg site c e next leg
  started_at hop request next leg s =
      ap (at_place site c e hop request next) s.place
      ∙ (ap (at_script site c e hop request s.mapped next) s.kind
      ∙ (by_kind leg.kind s.plain
      ∙ (ap (at_start site c e hop request s.mapped leg.kind next) s.child ∙ ap (at_leg site c e next) (sym s.same))))
    where
      by_kind : (kind : ScriptKind) → is_websocket kind ≡ false
          → at_script site c e hop request s.mapped next kind ≡ at_start site c e hop request s.mapped kind next (children_of e.items c e.number hop)
      by_kind WebSocket plain = absurd (false≢true (sym plain))
      by_kind Cgi plain = refl
      by_kind Nph plain = refl

  module _ (leg : Leg) (next : List ℕ → Walk) (none : (location : List ℕ) → (next location).legs ≡ []) where
    after_output : (output : Derived) → (at_output leg next output).legs ≡ []
    after_output (Output.Hop location) = none location
    after_output _ = refl

    after_outcome : (front : List Item) (o : Outcome) → (at_outcome site c e leg next front o).legs ≡ []
    after_outcome front derived = after_output (derived_of leg.kind (child_out front leg.child))
    after_outcome front (failed cause) = refl
    after_outcome front unanswered = refl

    after_decider : (front : List Item) (x : Option Item) → (at_decider site c e leg next front x).legs ≡ []
    after_decider front None = refl
    after_decider front (Some x) = after_outcome front (outcome_at (run_of site c e leg) x)

    after_run : (front : Option (List Item)) → (at_run site c e leg next front).legs ≡ []
    after_run None = refl
    after_run (Some front) = after_decider front (last_of front)

    at_last : (at_leg site c e next leg).legs ≡ leg ∷ []
    at_last = ap (λ ls. leg ∷ ls) (after_run (decided_at (run_of site c e leg) e.items))

  last_walk : (left hop : ℕ) (request : Request) (leg : Leg) → IsStarted site c e hop request leg → children_of e.items c e.number (suc hop) ≡ []
      → (walk_from site c e left hop request).legs ≡ leg ∷ []
  last_walk zero hop request leg s none = ap (λ (w : Walk). w.legs) (started_at hop request _ leg s) ∙ at_last leg _ (λ location. refl)
  last_walk (suc left) hop request leg s none =
      ap (λ (w : Walk). w.legs) (started_at hop request _ leg s)
      ∙ at_last leg _ (λ location. unstarted_walk left (suc hop) (request_of_hop request location) none)

  legs_with : (ls : List Leg) (w : Walk) → (with_legs ls w).legs ≡ ls ++ w.legs
  legs_with [] w = refl
  legs_with (leg ∷ ls) w = ap (λ l. leg ∷ l) (legs_with ls w)

  pub hop_is : (older : List Leg) (leg : Leg) (l : Led site c e older leg) → ByHop c e 0 (older ++ leg ∷ []) → l.hop ≡ length older
  hop_is older leg l b = ap (λ (g : Leg). g.hop) (sym l.started.same) ∙ (l.same_last.hop ∙ (by_hop_last c e 0 older leg b ∙ zero-add (length older)))

  pub legs_are : (older : List Leg) (leg : Leg) (l : Led site c e older leg) → ByHop c e 0 (older ++ leg ∷ []) → legs site c e ≡ l.walked ++ l.last ∷ []
  legs_are older leg l b =
      let here = hop_is older leg l b in
      let len = length-append older (leg ∷ []) in
      let none : children_of e.items c e.number (suc l.hop) ≡ [] = by_hop_later c e 0 (older ++ leg ∷ []) (suc l.hop) (omega (arith, here, len)) b in
      ap (λ (w : Walk). w.legs) (reaches_walk site c e l.walked l.left l.hop l.request l.reaches)
      ∙ (legs_with l.walked (walk_from site c e l.left l.hop l.request)
      ∙ ap (λ ls. l.walked ++ ls) (last_walk l.left l.hop l.request l.last l.started none))

  pub legs_same : (older : List Leg) (leg : Leg) → Led site c e older leg → ByHop c e 0 (older ++ leg ∷ []) → SameRuns (older ++ leg ∷ []) (legs site c e)
  legs_same older leg l b =
      subst (SameRuns (older ++ leg ∷ [])) (sym (legs_are older leg l b)) (and_last older l.walked leg l.last l.same_older l.same_last)
