-- The Start that is due makes its child a leg of the exchange.
use Rattle.std.proofs.Common.{◌≡◌, ℕ, zero, suc, Bool, true, false, List, [], ◌∷◌, ◌++◌, Option, Some, None, Result, Ok, Err, refl, sym, ◌∙◌, ap, append-nil}
use Rattle.std.specs.Prelude.{◌==◌, ◌&&◌, if◌then◌else◌}
use Rattle.std.specs.List.{list_any}
use Rattle.std.proofs.lemmas.Bool.{or_left, or_right, and_from, eq-eqb, eqb-true, false≢true}
use Rattle.host_base.specs.declared.cause.Cause.{Cause}
use Rattle.host_base.specs.declared.launch.Launch.{Launch}
use Rattle.host_base.specs.declared.request.Request.{Request}
use Rattle.host_base.specs.declared.site.Mapped.{Mapped}
use Rattle.host_base.specs.declared.site.ScriptKind.{ScriptKind}
use Rattle.host_base.specs.declared.site.ScriptKind.TheVariants.{Cgi, Nph, WebSocket}
use Rattle.host_base.specs.declared.site.Site.{Site}
use Rattle.host_trace.specs.declared.items.Act.TheVariants.{Start}
use Rattle.host_trace.specs.declared.items.Item.{Item}
use Rattle.host_trace.specs.declared.items.Item.TheVariants.{Out}
use Rattle.host_trace.specs.Decider.{Outcome, derived, failed, unanswered}
use Rattle.host_trace.specs.First.{last_of, or_else}
use Rattle.host_trace.specs.Kinds.{child_of, child_started}
use Rattle.host_trace.specs.Projections.{child_out, children, children_of}
use Rattle.host_trace.proofs.FirstLaws.{first_front-push, flat_map-push, or_else-some}
use Rattle.reply_kinds.specs.declared.derived.Derived.{Derived}
use Rattle.reply_kinds.specs.declared.derived.Derived.TheVariants as Output
use Rattle.reply_kinds.specs.Derived.{derived_of}
use Rattle.request_reader.specs.Request.{Reading, Whole, More, Bad, read_request}
use Rattle.ws_handshake.specs.Handshake.{handshake}
use Rattle.trace_child.specs.Decided.{decided_at, outcome_at}
use Rattle.trace_child.proofs.DecidedLaws.{decided_at-push}
use Rattle.trace_model.specs.Readings.{if_length}
use Rattle.trace_model.specs.Exchange.{Exchange, pushed, request_bytes, reading}
use Rattle.trace_model.specs.Breaks.{breaks, broken}
use Rattle.trace_model.specs.Places.{place_of, kind_of, origins_of}
use Rattle.trace_model.specs.Legs.{Leg, leg_of, run_of}
use Rattle.trace_model.specs.Answer.{Stage, unstarted, welcomed, Walk, walk_by, walk_by_break, walk_from, stage, legs, at_hop, at_place, at_script, at_handshake, at_start, at_leg, at_run, at_decider, at_outcome, at_output, request_of_hop}
use Rattle.trace_model.proofs.ExchangeLaws.{request_bytes-push}

-- k is the child of one of these legs
abbrev pub has_leg : List Leg → ℕ → Bool
has_leg legs k = list_any (λ (leg : Leg). leg.child == k) legs

-- the script of this hop is to be started, or the handshake was accepted
abbrev pub is_at : ℕ → Stage → Bool
is_at hop (unstarted h request mapped) = hop == h
is_at hop _ = false

abbrev pub is_welcome : Stage → Bool
is_welcome (welcomed value request mapped) = true
is_welcome _ = false

-- a Start breaks nothing and brings no byte
pub broken-act : (site : Site) (c : ℕ) (e : Exchange) (k d j hop : ℕ) (launch : Launch) → broken site c (pushed e (Out (Start k d j hop launch))) ≡ broken site c e
broken-act site c e k d j hop launch =
    first_front-push (breaks site c e) e.items (Out (Start k d j hop launch)) ∙ same (broken site c e)
  where
    same : (o : Option (List Item)) → or_else o None ≡ o
    same None = refl
    same (Some front) = refl

reading-act : (site : Site) (c : ℕ) (e : Exchange) (k d j hop : ℕ) (launch : Launch) → reading site c (pushed e (Out (Start k d j hop launch))) ≡ reading site c e
reading-act site c e k d j hop launch =
    ap (read_request site.limits) (request_bytes-push c e (Out (Start k d j hop launch)) ∙ append-nil (request_bytes c e))

-- the Start of k for a hop of the exchange is one of its hop's
started_here : (c j hop k : ℕ) (launch : Launch) → child_of c j hop (Out (Start k c j hop launch)) ≡ k ∷ []
started_here c j hop k launch = ap (λ (b : Bool). if b then k ∷ [] else []) (and_from _ _ (and_from _ _ (eq-eqb c c refl) (eq-eqb j j refl)) (eq-eqb hop hop refl))

-- ---- at a script

-- the exchange before and after the Start of k for hop `due`
module _ (site : Site) (c : ℕ) (e : Exchange) (due k : ℕ) (launch : Launch) where
  abbrev start : Item
  start = Out (Start k c e.number due launch)

  abbrev now : Exchange
  now = pushed e start

  abbrev Leads : (was then_on : Walk) → Type 0
  Leads was then_on = is_at due was.stage ≡ true → has_leg then_on.legs k ≡ true

  children-now : (hop : ℕ) → children_of now.items c e.number hop ≡ children_of e.items c e.number hop ++ child_of c e.number hop start
  children-now hop = flat_map-push (child_of c e.number hop) e.items start

  module _ (hop : ℕ) (request : Request) (next later : List ℕ → Walk) (each : (location : List ℕ) → Leads (next location) (later location)) where
    at_output_leads : (leg : Leg) (output : Derived) → Leads (at_output leg next output) (at_output leg later output)
    at_output_leads leg (Output.Hop location) is = each location is
    at_output_leads leg (Output.Reply reply) is = absurd (false≢true is)
    at_output_leads leg (Output.Raw bytes) is = absurd (false≢true is)
    at_output_leads leg (Output.Bad cause) is = absurd (false≢true is)

    at_outcome_leads : (leg : Leg) (front : List Item) (o : Outcome) → Leads (at_outcome site c e leg next front o) (at_outcome site c now leg later front o)
    at_outcome_leads leg front derived is = at_output_leads leg (derived_of leg.kind (child_out front leg.child)) is
    at_outcome_leads leg front (failed cause) is = absurd (false≢true is)
    at_outcome_leads leg front unanswered is = absurd (false≢true is)

    at_decider_leads : (leg : Leg) (front : List Item) (o : Option Item) → Leads (at_decider site c e leg next front o) (at_decider site c now leg later front o)
    at_decider_leads leg front None is = absurd (false≢true is)
    at_decider_leads leg front (Some y) is = at_outcome_leads leg front (outcome_at (run_of site c e leg) y) is

    at_run_leads : (leg : Leg) (front then_on : Option (List Item)) → ((f : List Item) → front ≡ Some f → then_on ≡ Some f)
        → Leads (at_run site c e leg next front) (at_run site c now leg later then_on)
    at_run_leads leg None then_on stays is = absurd (false≢true is)
    at_run_leads leg (Some front) then_on stays is = rw (stays front refl) (at_decider_leads leg front (last_of front) is)

    at_leg_leads : (leg : Leg) → Leads (at_leg site c e next leg) (at_leg site c now later leg)
    at_leg_leads leg is =
        or_right (leg.child == k) _
        (at_run_leads leg (decided_at (run_of site c e leg) e.items) (decided_at (run_of site c e leg) now.items)
        (λ f found. decided_at-push (run_of site c e leg) e.items start ∙ or_else-some _ _ f found) is)

    at_start_leads : (mapped : Mapped) (kind : ScriptKind) (ks : List ℕ) → children_of e.items c e.number hop ≡ ks
        → Leads (at_start site c e hop request mapped kind next ks) (at_start site c now hop request mapped kind later (children_of now.items c e.number hop))
    at_start_leads mapped kind [] none is =
        let here : due ≡ hop = eqb-true due hop is in
        let begun : children_of now.items c e.number hop ≡ k ∷ [] =
        children-now hop ∙ (ap (λ l. l ++ child_of c e.number hop start) none
        ∙ (ap (λ h. child_of c e.number hop (Out (Start k c e.number h launch))) here ∙ started_here c e.number hop k launch)) in
        rw begun (or_left (k == k) _ (eq-eqb k k refl))
    at_start_leads mapped kind (m ∷ ks) some is =
        rw (children-now hop ∙ ap (λ l. l ++ child_of c e.number hop start) some) (at_leg_leads (leg_of hop kind request m) is)

    at_handshake_leads : (mapped : Mapped) (value : Result (List ℕ) Cause) → Leads (at_handshake c e hop request mapped value) (at_handshake c now hop request mapped value)
    at_handshake_leads mapped (Ok value) is = absurd (false≢true is)
    at_handshake_leads mapped (Err cause) is = absurd (false≢true is)

    at_script_leads : (mapped : Mapped) (kind : ScriptKind) → Leads (at_script site c e hop request mapped next kind) (at_script site c now hop request mapped later kind)
    at_script_leads mapped WebSocket is = at_handshake_leads mapped (handshake request (origins_of site mapped)) is
    at_script_leads mapped Cgi is = at_start_leads mapped Cgi (children_of e.items c e.number hop) refl is
    at_script_leads mapped Nph is = at_start_leads mapped Nph (children_of e.items c e.number hop) refl is

    at_place_leads : (place : Result Mapped Cause) → Leads (at_place site c e hop request next place) (at_place site c now hop request later place)
    at_place_leads (Err cause) is = absurd (false≢true is)
    at_place_leads (Ok mapped) is = at_script_leads mapped (kind_of site mapped) is

    at_hop_leads : Leads (at_hop site c e hop request next) (at_hop site c now hop request later)
    at_hop_leads is = at_place_leads (place_of site request) is

  walk_leads : (left hop : ℕ) (request : Request) → Leads (walk_from site c e left hop request) (walk_from site c now left hop request)
  walk_leads zero hop request is = at_hop_leads hop request _ _ (λ location not_here. absurd (false≢true not_here)) is
  walk_leads (suc left) hop request is = at_hop_leads hop request _ _ (λ location. walk_leads left (suc hop) (request_of_hop request location)) is

  break_leads : (b : Option (List Item)) (request : Option Request) → Leads (walk_by_break site c e b request) (walk_by_break site c now b request)
  break_leads (Some front) request is = absurd (false≢true is)
  break_leads None None is = absurd (false≢true is)
  break_leads None (Some request) is = walk_leads site.limits.redirects 0 request is

  by_leads : (r : Reading) → Leads (walk_by site c e r) (walk_by site c now r)
  by_leads (Bad cause bare) is = absurd (false≢true is)
  by_leads (Whole request used due') is = rw (broken-act site c e k c e.number due launch) (break_leads (broken site c e) (Some request) is)
  by_leads (More request due') is = rw (broken-act site c e k c e.number due launch) (break_leads (broken site c e) (if_length request) is)

  pub start_leads : is_at due (stage site c e) ≡ true → has_leg (legs site c now) k ≡ true
  start_leads is = ap (λ r. has_leg (walk_by site c now r).legs k) (reading-act site c e k c e.number due launch) ∙ by_leads (reading site c e) is

-- ---- behind a handshake

none_left : (ks js : List ℕ) → ks ++ js ≡ [] → ks ≡ []
none_left [] js is = refl
none_left (k ∷ ks) js is = absurd (cc)

none_right : (ks js : List ℕ) → ks ++ js ≡ [] → js ≡ []
none_right [] js is = is
none_right (k ∷ ks) js is = absurd (cc)

not_started : (c j hop : ℕ) (x : Item) → child_started c x ≡ [] → child_of c j hop x ≡ []
not_started c j hop (Out (Start k d i h launch)) none = go (c == d) (j == i) (hop == h) none
  where
    go : (mine same_exchange same_hop : Bool) → (if mine then k ∷ [] else []) ≡ [] → (if mine && same_exchange && same_hop then k ∷ [] else []) ≡ []
    go true a b e = absurd (cc)
    go false a b e = refl
not_started c j hop _ none = refl

-- an exchange without a child has none of any hop
pub none_of_hop : (c j hop : ℕ) (items : List Item) → children items c ≡ [] → children_of items c j hop ≡ []
none_of_hop c j hop [] none = refl
none_of_hop c j hop (x ∷ items) none =
    ap (λ l. l ++ children_of items c j hop) (not_started c j hop x (none_left (child_started c x) (children items c) none))
    ∙ none_of_hop c j hop items (none_right (child_started c x) (children items c) none)

-- the exchange before and after the Start of k, its first
module _ (site : Site) (c : ℕ) (e : Exchange) (k : ℕ) (launch : Launch) (none : children e.items c ≡ []) where
  abbrev first_start : Item
  first_start = Out (Start k c e.number 0 launch)

  abbrev begun : Exchange
  begun = pushed e first_start

  abbrev Welcomes : (was then_on : Walk) → Type 0
  Welcomes was then_on = is_welcome was.stage ≡ true → has_leg then_on.legs k ≡ true

  the_child : children_of begun.items c e.number 0 ≡ k ∷ []
  the_child =
      flat_map-push (child_of c e.number 0) e.items first_start
      ∙ (ap (λ l. l ++ child_of c e.number 0 first_start) (none_of_hop c e.number 0 e.items none) ∙ started_here c e.number 0 k launch)

  module _ (request : Request) (next later : List ℕ → Walk) where
    handshake_welcomes : (mapped : Mapped) (value : Result (List ℕ) Cause) → Welcomes (at_handshake c e 0 request mapped value) (at_handshake c begun 0 request mapped value)
    handshake_welcomes mapped (Ok value) is = rw the_child (or_left (k == k) _ (eq-eqb k k refl))
    handshake_welcomes mapped (Err cause) is = absurd (false≢true is)

    unstarted_welcomes : {X : Type 0} (mapped : Mapped) (kind : ScriptKind) → is_welcome (at_start site c e 0 request mapped kind next (children_of e.items c e.number 0)).stage ≡ true → X
    unstarted_welcomes mapped kind is =
        absurd (false≢true (sym (ap (λ ks. is_welcome (at_start site c e 0 request mapped kind next ks).stage) (none_of_hop c e.number 0 e.items none)) ∙ is))

    script_welcomes : (mapped : Mapped) (kind : ScriptKind) → Welcomes (at_script site c e 0 request mapped next kind) (at_script site c begun 0 request mapped later kind)
    script_welcomes mapped WebSocket is = handshake_welcomes mapped (handshake request (origins_of site mapped)) is
    script_welcomes mapped Cgi is = unstarted_welcomes mapped Cgi is
    script_welcomes mapped Nph is = unstarted_welcomes mapped Nph is

    place_welcomes : (place : Result Mapped Cause) → Welcomes (at_place site c e 0 request next place) (at_place site c begun 0 request later place)
    place_welcomes (Err cause) is = absurd (false≢true is)
    place_welcomes (Ok mapped) is = script_welcomes mapped (kind_of site mapped) is

  walk_welcomes : (left : ℕ) (request : Request) → Welcomes (walk_from site c e left 0 request) (walk_from site c begun left 0 request)
  walk_welcomes zero request is = place_welcomes request _ _ (place_of site request) is
  walk_welcomes (suc left) request is = place_welcomes request _ _ (place_of site request) is

  break_welcomes : (b : Option (List Item)) (request : Option Request) → Welcomes (walk_by_break site c e b request) (walk_by_break site c begun b request)
  break_welcomes (Some front) request is = absurd (false≢true is)
  break_welcomes None None is = absurd (false≢true is)
  break_welcomes None (Some request) is = walk_welcomes site.limits.redirects request is

  by_welcomes : (r : Reading) → Welcomes (walk_by site c e r) (walk_by site c begun r)
  by_welcomes (Bad cause bare) is = absurd (false≢true is)
  by_welcomes (Whole request used due') is = rw (broken-act site c e k c e.number 0 launch) (break_welcomes (broken site c e) (Some request) is)
  by_welcomes (More request due') is = rw (broken-act site c e k c e.number 0 launch) (break_welcomes (broken site c e) (if_length request) is)

  pub welcome_leads : is_welcome (stage site c e) ≡ true → has_leg (legs site c begun) k ≡ true
  welcome_leads is = ap (λ r. has_leg (walk_by site c begun r).legs k) (reading-act site c e k c e.number 0 launch) ∙ by_welcomes (reading site c e) is

-- ---- nothing broke the request

pub unbroken_at : (site : Site) (c : ℕ) (e : Exchange) (hop : ℕ) → is_at hop (stage site c e) ≡ true → broken site c e ≡ None
unbroken_at site c e hop is = go (reading site c e) is
  where
    by_break : (b : Option (List Item)) (request : Option Request) → is_at hop (walk_by_break site c e b request).stage ≡ true → b ≡ None
    by_break (Some front) request is = absurd (false≢true is)
    by_break None request is = refl

    go : (r : Reading) → is_at hop (walk_by site c e r).stage ≡ true → broken site c e ≡ None
    go (Bad cause bare) is = absurd (false≢true is)
    go (Whole request used due) is = by_break (broken site c e) (Some request) is
    go (More request due) is = by_break (broken site c e) (if_length request) is

pub unbroken_welcome : (site : Site) (c : ℕ) (e : Exchange) → is_welcome (stage site c e) ≡ true → broken site c e ≡ None
unbroken_welcome site c e is = go (reading site c e) is
  where
    by_break : (b : Option (List Item)) (request : Option Request) → is_welcome (walk_by_break site c e b request).stage ≡ true → b ≡ None
    by_break (Some front) request is = absurd (false≢true is)
    by_break None request is = refl

    go : (r : Reading) → is_welcome (walk_by site c e r).stage ≡ true → broken site c e ≡ None
    go (Bad cause bare) is = absurd (false≢true is)
    go (Whole request used due) is = by_break (broken site c e) (Some request) is
    go (More request due) is = by_break (broken site c e) (if_length request) is
