-- A quiet item leaves the walk as it was.
use Rattle.std.proofs.Common.{◌≡◌, ℕ, zero, suc, Bool, true, false, List, [], ◌∷◌, ◌++◌, map, Option, Some, None, Result, Ok, Err, refl, sym, ap, ◌∙◌, append-nil}
use Rattle.std.specs.Prelude.{if◌then◌else◌, not, ◌&&◌, ◌||◌, ◌==◌}
use Rattle.std.proofs.lemmas.Bool.{false≢true}
use Rattle.host_base.specs.declared.cause.Cause.{Cause}
use Rattle.host_base.specs.declared.request.Request.{Request}
use Rattle.host_base.specs.declared.site.Mapped.{Mapped}
use Rattle.host_base.specs.declared.site.ScriptKind.{ScriptKind}
use Rattle.host_base.specs.declared.site.ScriptKind.TheVariants.{Cgi, Nph, WebSocket}
use Rattle.host_base.specs.declared.site.Site.{Site}
use Rattle.host_trace.specs.declared.items.Act.{Act}
use Rattle.host_trace.specs.declared.items.Act.TheVariants.{WantClient, Write, Shut, Start, Feed, EndInput, WantChild, Kill, Release, Upgrade, Says, CloseWs}
use Rattle.host_trace.specs.declared.items.Item.{Item}
use Rattle.host_trace.specs.declared.items.Item.TheVariants.{In, Out}
use Rattle.host_trace.specs.First.{last_of, or_else, since}
use Rattle.host_base.specs.declared.limits.Limits.{Limits}
use Rattle.host_trace.specs.declared.items.Why.{Why}
use Rattle.host_trace.specs.Decider.{Outcome, derived, failed, unanswered, decides, is_websocket}
use Rattle.host_trace.specs.Kinds.{is_no_memory, is_shut_for_memory}
use Rattle.host_trace.specs.Projections.{shut, start_stands}
use Rattle.host_trace.specs.Kinds.{bytes_heard, child_of, child_started, is_start}
use Rattle.host_trace.specs.Projections.{child_out, children_of}
use Rattle.host_trace.proofs.FirstLaws.{first_front-push, flat_map-push}
use Rattle.reply_kinds.specs.declared.derived.Derived.{Derived}
use Rattle.reply_kinds.specs.declared.derived.Derived.TheVariants as Output
use Rattle.reply_kinds.specs.Derived.{derived_of}
use Rattle.request_reader.specs.Request.{Reading, Whole, More, Bad, read_request}
use Rattle.ws_handshake.specs.Handshake.{handshake}
use Rattle.trace_child.specs.Decided.{decides_run, decided_at, outcome_at}
use Rattle.trace_child.proofs.DecidedLaws.{decided_at-push}
use Rattle.trace_model.specs.Readings.{if_length}
use Rattle.trace_model.specs.Exchange.{Exchange, pushed, request_bytes, reading}
use Rattle.trace_model.specs.Breaks.{breaks, broken}
use Rattle.trace_model.specs.Places.{place_of, kind_of, origins_of}
use Rattle.trace_model.specs.Legs.{Leg, leg_of, run_of}
use Rattle.trace_model.specs.Answer.{Walk, walk, walk_by, walk_by_break, walk_from, at_hop, at_place, at_script, at_handshake, at_start, at_leg, at_run, at_decider, at_outcome, at_output, request_of_hop, with_leg}
use Rattle.trace_model.proofs.ExchangeLaws.{request_bytes-push}
use Rattle.conn_laws.specs.Quiet.{IsQuiet, is_plain}

or_none : {X : Type 0} (o : Option X) → or_else o None ≡ o
or_none None = refl
or_none (Some x) = refl

-- a Start for another exchange, or for another connection, is no child of this one
no_child : (c j hop : ℕ) (x : Item) → child_started c x ≡ [] → child_of c j hop x ≡ []
no_child c j hop (Out (Start k d i h launch)) none = go (c == d) (j == i) (hop == h) none
  where
    go : (mine same_exchange same_hop : Bool) → (if mine then k ∷ [] else []) ≡ [] → (if mine && same_exchange && same_hop then k ∷ [] else []) ≡ []
    go true a b e = absurd (cc)
    go false a b e = refl
no_child c j hop x none = refl

module _ (site : Site) (c : ℕ) (e : Exchange) (x : Item) (starts : child_started c x ≡ []) (decides_none : (leg : Leg) → decides_run (run_of site c e leg) e.items x ≡ false) where
  children_same : (hop : ℕ) → children_of (pushed e x).items c e.number hop ≡ children_of e.items c e.number hop
  children_same hop =
      flat_map-push (child_of c e.number hop) e.items x
      ∙ ap (λ l. children_of e.items c e.number hop ++ l) (no_child c e.number hop x starts)
      ∙ append-nil (children_of e.items c e.number hop)

  decided_same : (leg : Leg) → decided_at (run_of site c e leg) (pushed e x).items ≡ decided_at (run_of site c e leg) e.items
  decided_same leg =
      decided_at-push (run_of site c e leg) e.items x
      ∙ ap (λ (b : Bool). or_else (decided_at (run_of site c e leg) e.items) (if b then Some (e.items ++ x ∷ []) else None)) (decides_none leg)
      ∙ or_none (decided_at (run_of site c e leg) e.items)

  module _ (next later : List ℕ → Walk) (each : (location : List ℕ) → later location ≡ next location) where
    output_same : (leg : Leg) (output : Derived) → at_output leg later output ≡ at_output leg next output
    output_same leg (Output.Hop location) = each location
    output_same leg _ = refl

    outcome_same : (leg : Leg) (front : List Item) (o : Outcome) → at_outcome site c (pushed e x) leg later front o ≡ at_outcome site c e leg next front o
    outcome_same leg front derived = output_same leg (derived_of leg.kind (child_out front leg.child))
    outcome_same leg front (failed cause) = refl
    outcome_same leg front unanswered = refl

    decider_same : (leg : Leg) (front : List Item) (o : Option Item) → at_decider site c (pushed e x) leg later front o ≡ at_decider site c e leg next front o
    decider_same leg front None = refl
    decider_same leg front (Some y) = outcome_same leg front (outcome_at (run_of site c e leg) y)

    run_same : (leg : Leg) (front : Option (List Item)) → at_run site c (pushed e x) leg later front ≡ at_run site c e leg next front
    run_same leg None = refl
    run_same leg (Some front) = decider_same leg front (last_of front)

    leg_same : (leg : Leg) → at_leg site c (pushed e x) later leg ≡ at_leg site c e next leg
    leg_same leg =
        ap (λ o. with_leg leg (at_run site c (pushed e x) leg later o)) (decided_same leg)
        ∙ ap (with_leg leg) (run_same leg (decided_at (run_of site c e leg) e.items))

    start_same : (hop : ℕ) (request : Request) (mapped : Mapped) (kind : ScriptKind) (ks : List ℕ)
        → at_start site c (pushed e x) hop request mapped kind later ks ≡ at_start site c e hop request mapped kind next ks
    start_same hop request mapped kind [] = refl
    start_same hop request mapped kind (k ∷ ks) = leg_same (leg_of hop kind request k)

    handshake_same : (hop : ℕ) (request : Request) (mapped : Mapped) (value : Result (List ℕ) Cause)
        → at_handshake c (pushed e x) hop request mapped value ≡ at_handshake c e hop request mapped value
    handshake_same hop request mapped (Ok value) =
        ap (λ ks. record { legs = map (leg_of hop WebSocket request) ks; stage = (at_handshake c e hop request mapped (Ok value)).stage }) (children_same hop)
    handshake_same hop request mapped (Err cause) = refl

    script_same : (hop : ℕ) (request : Request) (mapped : Mapped) (kind : ScriptKind)
        → at_script site c (pushed e x) hop request mapped later kind ≡ at_script site c e hop request mapped next kind
    script_same hop request mapped WebSocket = handshake_same hop request mapped (handshake request (origins_of site mapped))
    script_same hop request mapped Cgi =
        ap (λ ks. at_start site c (pushed e x) hop request mapped Cgi later ks) (children_same hop)
        ∙ start_same hop request mapped Cgi (children_of e.items c e.number hop)
    script_same hop request mapped Nph =
        ap (λ ks. at_start site c (pushed e x) hop request mapped Nph later ks) (children_same hop)
        ∙ start_same hop request mapped Nph (children_of e.items c e.number hop)

    place_same : (hop : ℕ) (request : Request) (place : Result Mapped Cause)
        → at_place site c (pushed e x) hop request later place ≡ at_place site c e hop request next place
    place_same hop request (Err cause) = refl
    place_same hop request (Ok mapped) = script_same hop request mapped (kind_of site mapped)

    hop_same : (hop : ℕ) (request : Request) → at_hop site c (pushed e x) hop request later ≡ at_hop site c e hop request next
    hop_same hop request = place_same hop request (place_of site request)

  walk_from-same : (left hop : ℕ) (request : Request) → walk_from site c (pushed e x) left hop request ≡ walk_from site c e left hop request
  walk_from-same zero hop request = hop_same _ _ (λ location. refl) hop request
  walk_from-same (suc left) hop request =
      hop_same (λ location. walk_from site c e left (suc hop) (request_of_hop request location))
      (λ location. walk_from site c (pushed e x) left (suc hop) (request_of_hop request location))
      (λ location. walk_from-same left (suc hop) (request_of_hop request location)) hop request

pub reading-quiet : (site : Site) (c : ℕ) (e : Exchange) (x : Item) → bytes_heard c x ≡ [] → reading site c (pushed e x) ≡ reading site c e
reading-quiet site c e x none =
    ap (λ l. read_request site.limits l)
    (request_bytes-push c e x ∙ ap (λ l. request_bytes c e ++ l) none ∙ append-nil (request_bytes c e))

pub broken-quiet : (site : Site) (c : ℕ) (e : Exchange) (x : Item) → breaks site c e e.items x ≡ false → broken site c (pushed e x) ≡ broken site c e
broken-quiet site c e x none =
    first_front-push (breaks site c e) e.items x
    ∙ ap (λ (b : Bool). or_else (broken site c e) (if b then Some (e.items ++ x ∷ []) else None)) none
    ∙ or_none (broken site c e)

pub walk-quiet : (site : Site) (c : ℕ) (e : Exchange) (x : Item) → IsQuiet site c e x → walk site c (pushed e x) ≡ walk site c e
walk-quiet site c e x q =
    ap (λ r. walk_by site c (pushed e x) r) (reading-quiet site c e x q.bytes) ∙ by_reading (reading site c e)
  where
    by_break : (request : Option Request) (o : Option (List Item)) → walk_by_break site c (pushed e x) o request ≡ walk_by_break site c e o request
    by_break request (Some front) = refl
    by_break None None = refl
    by_break (Some request) None = walk_from-same site c e x q.starts q.decides_none site.limits.redirects 0 request

    both : (request : Option Request) → walk_by_break site c (pushed e x) (broken site c (pushed e x)) request ≡ walk_by_break site c e (broken site c e) request
    both request =
        ap (λ o. walk_by_break site c (pushed e x) o request) (broken-quiet site c e x q.breaks_none) ∙ by_break request (broken site c e)

    by_reading : (r : Reading) → walk_by site c (pushed e x) r ≡ walk_by site c e r
    by_reading (Bad cause bare) = refl
    by_reading (Whole request used due) = both (Some request)
    by_reading (More request due) = both (if_length request)

-- ---- acts

undecided : (limits : Limits) (kind : ScriptKind) (c k : ℕ) (front : List Item) (act : Act) → is_plain act ≡ true → decides limits kind c k front (Out act) ≡ false
undecided limits kind c k front act p = go (is_websocket kind) (shut front c) act p
  where
    memory : (d : ℕ) (why : Why) → not (is_no_memory why) ≡ true → (c == d && is_no_memory why) ≡ false
    memory d why e = go_on (c == d) (is_no_memory why) e
      where
        go_on : (a b : Bool) → not b ≡ true → (a && b) ≡ false
        go_on a true e = absurd (false≢true e)
        go_on true false e = refl
        go_on false false e = refl

    end : (ws was : Bool) → (if ws then not was && (false || false) else false || false) ≡ false
    end true true = refl
    end true false = refl
    end false was = refl

    go : (ws was : Bool) (act : Act) → is_plain act ≡ true
        → ((false || false || false || false || (false || false || false || false || is_shut_for_memory c (Out act) || false)) || (if ws then not was && (false || false) else false || false)) ≡ false
    go ws was (Shut d why) p = ap (λ b. (false || false || false || false || (false || false || false || false || b || false)) || (if ws then not was && (false || false) else false || false)) (memory d why p) ∙ end ws was
    go ws was (Start k d j hop launch) p = absurd (false≢true p)
    go ws was _ p = end ws was

and_none : (a b : Bool) → b ≡ false → (a && b) ≡ false
and_none true b e = e
and_none false b e = refl

pub act_undecides : (site : Site) (c : ℕ) (e : Exchange) (act : Act) → is_plain act ≡ true → (leg : Leg) → decides_run (run_of site c e leg) e.items (Out act) ≡ false
act_undecides site c e act p leg =
    let run = run_of site c e leg in
    and_none (start_stands e.items run.child) _ (ap (λ b. b || false) (undecided run.limits run.kind run.conn run.child (since (is_start run.child) e.items) act p))

pub act_quiet : (site : Site) (c : ℕ) (e : Exchange) (act : Act) → is_plain act ≡ true → IsQuiet site c e (Out act)
act_quiet site c e act p = record {
  bytes = refl;
  starts = no_start act p;
  breaks_none = refl;
  decides_none = act_undecides site c e act p;
}
  where
    no_start : (act : Act) → is_plain act ≡ true → child_started c (Out act) ≡ []
    no_start (Start k d j hop launch) p = absurd (false≢true p)
    no_start _ p = refl

pub act_breaks_none : (site : Site) (c : ℕ) (e : Exchange) (act : Act) → broken site c (pushed e (Out act)) ≡ broken site c e
act_breaks_none site c e act = broken-quiet site c e (Out act) refl
