-- The Write of the first byte of an answer, and what any Write leaves as it was.
use Rattle.std.proofs.Common.{◌≡◌, ◌≤◌, ◌<◌, ℕ, zero, suc, Bool, true, false, List, [], ◌∷◌, ◌++◌, length, drop, Option, Some, None, Result, Ok, Err, refl, sym, ap, ◌∙◌, subst, arith, append_assoc, append-nil, length-append, length-drop}
use Rattle.std.specs.Prelude.{◌&&◌, ◌||◌, ◌==◌, not, nat_lt, if◌then◌else◌, map, unwrap_or}
use Rattle.std.proofs.Math.Bool.{and-false}
use Rattle.std.proofs.lemmas.Bool.{eq-eqb, false≢true, le-ltb, lt-ltb}
use Rattle.std.proofs.lemmas.Grind.{flat_map-append}
use Rattle.host_base.specs.declared.cause.Cause.{Cause}
use Rattle.host_base.specs.declared.request.Request.{Request}
use Rattle.host_base.specs.declared.site.Mapped.{Mapped}
use Rattle.host_base.specs.declared.site.ScriptKind.{ScriptKind}
use Rattle.host_base.specs.declared.site.ScriptKind.TheVariants.{Cgi, Nph, WebSocket}
use Rattle.host_base.specs.declared.site.Site.{Site}
use Rattle.host_trace.specs.declared.items.Act.TheVariants.{WantClient, Write, Shut, Start, Feed, EndInput, WantChild, Kill, Release, Upgrade, Says, CloseWs}
use Rattle.host_trace.specs.declared.items.Item.{Item}
use Rattle.host_trace.specs.declared.items.Item.TheVariants.{In, Out}
use Rattle.host_trace.specs.First.{first_front, first_front_from, or_else, since}
use Rattle.host_trace.specs.Kinds.{bytes_heard, bytes_written, is_start}
use Rattle.host_trace.specs.Projections.{children_of, client_in, client_out, last_secs, shut, start_stands}
use Rattle.host_trace.proofs.FirstLaws.{first_front-push, flat_map-push}
use Rattle.host_trace.proofs.ProjectionLaws.{client_out-push, last_secs-push}
use Rattle.request_reader.specs.Request.{Reading, Whole, More, Bad, read_request}
use Rattle.ws_handshake.specs.Handshake.{handshake}
use Rattle.trace_child.specs.Run.{Run}
use Rattle.trace_child.specs.Decided.{cuts_body_short, decided_at, decides_run}
use Rattle.host_trace.specs.Decider.{is_websocket}
use Rattle.trace_child.specs.Words.{is_filled}
use Rattle.trace_model.specs.Answer.{Stage, Walk, answer_at, at_handshake, at_hop, at_leg, at_place, at_run, at_script, at_start, is_undecided, request_of_hop, stage, stopped_at, refused, welcomed, walk, walk_by, walk_by_break, walk_from, with_leg}
use Rattle.host_base.specs.declared.cause.Cause.TheVariants.{RedirectLoop}
use Rattle.trace_model.specs.Breaks.{breaks, broken}
use Rattle.trace_model.specs.Closes.{is_by_nph, is_closing_fault, is_first_byte, persists_by, version_by, way_now}
use Rattle.trace_model.specs.Exchange.{Exchange, all_of, continue_part, continue_text, pushed, reading, request_bytes, up_to, was_due, written}
use Rattle.trace_model.specs.Legs.{Leg, leg_of, run_of}
use Rattle.trace_model.specs.Places.{kind_of, origins_of, place_of}
use Rattle.trace_model.specs.Readings.{headed, if_length, is_bare, is_due, is_whole}
use Rattle.trace_model.proofs.ExchangeLaws.{request_bytes-push}
use Rattle.reply_writer.specs.WholeReply.{Way}
use Rattle.exchange_reply.specs.LegRules.{UnbegunIsNow, WritesAreOfAnswers, WritesBegin}

-- ---- no first byte where few were written

not_first : (c skipped : ℕ) (front : List Item) (x : Item) → length (client_out (front ++ x ∷ []) c) ≤ skipped → is_first_byte c skipped front x ≡ false
not_first c skipped front (In event) few = refl
not_first c skipped front (Out (Write d bytes)) few =
    ap (λ (b : Bool). c == d && b) (le-ltb skipped (length (client_out (front ++ Out (Write d bytes) ∷ []) c)) few) ∙ and-false (c == d)
not_first c skipped front (Out _) few = refl

out-append : (c : ℕ) (front more : List Item) → client_out (front ++ more) c ≡ client_out front c ++ client_out more c
out-append c front more = flat_map-append (bytes_written c) front more

no_first : (c skipped : ℕ) (before items : List Item) → length (client_out (before ++ items) c) ≤ skipped
    → first_front_from (is_first_byte c skipped) before items ≡ None
no_first c skipped before [] few = refl
no_first c skipped before (x ∷ items) few =
    let joined : (before ++ x ∷ []) ++ items ≡ before ++ x ∷ items = append_assoc before (x ∷ []) items in
    let all : length (client_out ((before ++ x ∷ []) ++ items) c) ≤ skipped = subst (λ (l : List Item). length (client_out l c) ≤ skipped) (sym joined) few in
    let parts : length (client_out ((before ++ x ∷ []) ++ items) c) ≡ length (client_out (before ++ x ∷ []) c ++ client_out items c) =
    ap (λ (l : List ℕ). length l) (out-append c (before ++ x ∷ []) items) in
    let front : length (client_out (before ++ x ∷ []) c) ≤ skipped =
    omega (arith, all, parts, length-append (client_out (before ++ x ∷ []) c) (client_out items c)) in
    ap (λ (b : Bool). if b then Some (before ++ x ∷ []) else first_front_from (is_first_byte c skipped) (before ++ x ∷ []) items)
    (not_first c skipped before x front)
    ∙ no_first c skipped (before ++ x ∷ []) items all

unfilled : {X : Type 0} (items : List X) → is_filled items ≡ false → length items ≡ 0
unfilled [] none = refl
unfilled (x ∷ items) none = absurd (false≢true (sym none))

pub unbegun_is_now : UnbegunIsNow
unbegun_is_now site c e none =
    let skipped = length (continue_part site c e) in
    let left : length (drop (length (continue_part site c e)) (written c e)) ≡ 0 = unfilled (drop (length (continue_part site c e)) (written c e)) none in
    let few : length (written c e) ≤ length (continue_part site c e) = omega (arith, left, length-drop (length (continue_part site c e)) (written c e)) in
    ap (λ (o : Option (List Item)). up_to e (unwrap_or o e.items)) (no_first c (length (continue_part site c e)) [] e.items few)

-- ---- what a Write leaves as it was

none_after : {A : Type 0} (first : Option A) → or_else first None ≡ first
none_after (Some x) = refl
none_after None = refl

no_push : {X : Type 0} (test : List X → X → Bool) (items : List X) (x : X) → test items x ≡ false → first_front test (items ++ x ∷ []) ≡ first_front test items
no_push test items x none =
    first_front-push test items x
    ∙ ap (λ (b : Bool). or_else (first_front test items) (if b then Some (items ++ x ∷ []) else None)) none
    ∙ none_after (first_front test items)

or_assoc : (a b d : Bool) → (a || (b || d)) ≡ ((a || b) || d)
or_assoc true b d = refl
or_assoc false b d = refl

or_true : (a b : Bool) → b ≡ true → (a || b) ≡ true
or_true true b is = refl
or_true false b is = is

absorb : (a b : Bool) → (b ≡ true → a ≡ true) → (a || b) ≡ a
absorb true b implies = refl
absorb false true implies = sym (implies refl)
absorb false false implies = refl

module _ (site : Site) (c : ℕ) (d : ℕ) (bytes : List ℕ) where
  due_last : (heard : List ℕ) (items : List Item) → is_due (read_request site.limits (heard ++ client_in items c)) ≡ true → was_due site c heard items ≡ true
  due_last heard [] is = ap (λ (l : List ℕ). is_due (read_request site.limits l)) (sym (append-nil heard)) ∙ is
  due_last heard (y ∷ items) is =
      or_true (is_due (read_request site.limits heard)) _
      (due_last (heard ++ bytes_heard c y) items (ap (λ (l : List ℕ). is_due (read_request site.limits l)) (append_assoc heard (bytes_heard c y) (client_in items c)) ∙ is))

  due_same : (heard : List ℕ) (items : List Item) → was_due site c heard (items ++ Out (Write d bytes) ∷ []) ≡ was_due site c heard items
  due_same heard [] =
      ap (λ (l : List ℕ). is_due (read_request site.limits heard) || is_due (read_request site.limits l)) (append-nil heard)
      ∙ absorb (is_due (read_request site.limits heard)) (is_due (read_request site.limits heard)) (λ is. is)
  due_same heard (y ∷ items) = ap (λ (b : Bool). is_due (read_request site.limits heard) || b) (due_same (heard ++ bytes_heard c y) items)

none_by : (kind : ScriptKind) (shut_then : Bool) → (if is_websocket kind then not shut_then && false else false) ≡ false
none_by Cgi shut_then = refl
none_by Nph shut_then = refl
none_by WebSocket true = refl
none_by WebSocket false = refl

module _ (site : Site) (c : ℕ) (e : Exchange) (d : ℕ) (bytes : List ℕ) where
  reading_same : reading site c (pushed e (Out (Write d bytes))) ≡ reading site c e
  reading_same = ap (read_request site.limits) (request_bytes-push c e (Out (Write d bytes)) ∙ append-nil (request_bytes c e))

  continue_same : continue_part site c (pushed e (Out (Write d bytes))) ≡ continue_part site c e
  continue_same =
      ap (λ (b : Bool). if not e.closed && not (shut e.before c) && b then continue_text else []) (due_same site c d bytes e.rest e.items)

  broken_same : broken site c (pushed e (Out (Write d bytes))) ≡ broken site c e
  broken_same = no_push (breaks site c e) e.items (Out (Write d bytes)) refl

  children_same : (j hop : ℕ) → children_of (e.items ++ Out (Write d bytes) ∷ []) c j hop ≡ children_of e.items c j hop
  children_same j hop = flat_map-push _ e.items (Out (Write d bytes)) ∙ append-nil (children_of e.items c j hop)

  decides_not : (run : Run) (front : List Item) → decides_run run front (Out (Write d bytes)) ≡ false
  decides_not run front =
      ap (λ (b : Bool). start_stands front run.child && (b || cuts_body_short run front (Out (Write d bytes)))) (none_by run.kind (shut (since (is_start run.child) front) run.conn))
      ∙ and-false (start_stands front run.child)

  decided_same : (leg : Leg) → decided_at (run_of site c e leg) (e.items ++ Out (Write d bytes) ∷ []) ≡ decided_at (run_of site c e leg) e.items
  decided_same leg = no_push (decides_run (run_of site c e leg)) e.items (Out (Write d bytes)) (decides_not (run_of site c e leg) e.items)

  run_same : (leg : Leg) (next : List ℕ → Walk) (front : Option (List Item))
      → at_run site c (pushed e (Out (Write d bytes))) leg next front ≡ at_run site c e leg next front
  run_same leg next front = refl

  leg_same : (leg : Leg) (next : List ℕ → Walk) → at_leg site c (pushed e (Out (Write d bytes))) next leg ≡ at_leg site c e next leg
  leg_same leg next =
      ap (λ (w : Walk). with_leg leg w)
      (run_same leg next (decided_at (run_of site c e leg) (e.items ++ Out (Write d bytes) ∷ []))
      ∙ ap (at_run site c e leg next) (decided_same leg))

  start_same : (hop : ℕ) (request : Request) (mapped : Mapped) (kind : ScriptKind) (next : List ℕ → Walk) (ks : List ℕ)
      → at_start site c (pushed e (Out (Write d bytes))) hop request mapped kind next ks ≡ at_start site c e hop request mapped kind next ks
  start_same hop request mapped kind next [] = refl
  start_same hop request mapped kind next (k ∷ ks) = leg_same (leg_of hop kind request k) next

  started_same : (hop : ℕ) (request : Request) (mapped : Mapped) (kind : ScriptKind) (next : List ℕ → Walk)
      → at_start site c (pushed e (Out (Write d bytes))) hop request mapped kind next (children_of (e.items ++ Out (Write d bytes) ∷ []) c e.number hop)
      ≡ at_start site c e hop request mapped kind next (children_of e.items c e.number hop)
  started_same hop request mapped kind next =
      start_same hop request mapped kind next (children_of (e.items ++ Out (Write d bytes) ∷ []) c e.number hop)
      ∙ ap (at_start site c e hop request mapped kind next) (children_same e.number hop)

  handshake_same : (hop : ℕ) (request : Request) (mapped : Mapped) (r : Result (List ℕ) Cause)
      → at_handshake c (pushed e (Out (Write d bytes))) hop request mapped r ≡ at_handshake c e hop request mapped r
  handshake_same hop request mapped (Err cause) = refl
  handshake_same hop request mapped (Ok value) =
      ap (λ (ks : List ℕ). record { legs = map (leg_of hop WebSocket request) ks; stage = welcomed value request mapped }) (children_same e.number hop)

  script_same : (hop : ℕ) (request : Request) (mapped : Mapped) (next : List ℕ → Walk) (kind : ScriptKind)
      → at_script site c (pushed e (Out (Write d bytes))) hop request mapped next kind ≡ at_script site c e hop request mapped next kind
  script_same hop request mapped next WebSocket = handshake_same hop request mapped (handshake request (origins_of site mapped))
  script_same hop request mapped next Cgi = started_same hop request mapped Cgi next
  script_same hop request mapped next Nph = started_same hop request mapped Nph next

  place_same : (hop : ℕ) (request : Request) (next : List ℕ → Walk) (place : Result Mapped Cause)
      → at_place site c (pushed e (Out (Write d bytes))) hop request next place ≡ at_place site c e hop request next place
  place_same hop request next (Err cause) = refl
  place_same hop request next (Ok mapped) = script_same hop request mapped next (kind_of site mapped)

  hop_same : (hop : ℕ) (request : Request) (next : List ℕ → Walk) → at_hop site c (pushed e (Out (Write d bytes))) hop request next ≡ at_hop site c e hop request next
  hop_same hop request next = place_same hop request next (place_of site request)

from_same : (site : Site) (c : ℕ) (e : Exchange) (d : ℕ) (bytes : List ℕ) (left hop : ℕ) (request : Request)
    → walk_from site c (pushed e (Out (Write d bytes))) left hop request ≡ walk_from site c e left hop request
from_same site c e d bytes zero hop request = hop_same site c e d bytes hop request (λ location. stopped_at (refused RedirectLoop))
from_same site c e d bytes (suc left) hop request =
    hop_same site c e d bytes hop request (λ location. walk_from site c (pushed e (Out (Write d bytes))) left (suc hop) (request_of_hop request location))
    ∙ (λ i. at_hop site c e hop request (λ location. from_same site c e d bytes left (suc hop) (request_of_hop request location) i))

module _ (site : Site) (c : ℕ) (e : Exchange) (d : ℕ) (bytes : List ℕ) where
  break_same : (front : Option (List Item)) (request : Option Request)
      → walk_by_break site c (pushed e (Out (Write d bytes))) front request ≡ walk_by_break site c e front request
  break_same (Some front) request = refl
  break_same None None = refl
  break_same None (Some request) = from_same site c e d bytes site.limits.redirects 0 request

  by_same : (r : Reading) → walk_by site c (pushed e (Out (Write d bytes))) r ≡ walk_by site c e r
  by_same (Bad cause bare) = refl
  by_same (Whole request used due) =
      ap (λ (o : Option (List Item)). walk_by_break site c (pushed e (Out (Write d bytes))) o (Some request)) (broken_same site c e d bytes)
      ∙ break_same (broken site c e) (Some request)
  by_same (More request due) =
      ap (λ (o : Option (List Item)). walk_by_break site c (pushed e (Out (Write d bytes))) o (if_length request)) (broken_same site c e d bytes)
      ∙ break_same (broken site c e) (if_length request)

  walk_same : walk site c (pushed e (Out (Write d bytes))) ≡ walk site c e
  walk_same = ap (walk_by site c (pushed e (Out (Write d bytes)))) (reading_same site c e d bytes) ∙ by_same (reading site c e)

  stage_same : stage site c (pushed e (Out (Write d bytes))) ≡ stage site c e
  stage_same = ap (λ (w : Walk). w.stage) walk_same

  secs_same : last_secs (all_of (pushed e (Out (Write d bytes)))) ≡ last_secs (all_of e)
  secs_same =
      ap last_secs (sym (append_assoc e.before e.items (Out (Write d bytes) ∷ []))) ∙ last_secs-push (all_of e) (Out (Write d bytes))

-- the way of an answer that begins now, by what it depends on
way_by : Reading → Stage → Option ℕ → Way
way_by r s secs = record {
  version = version_by (headed r);
  head_only = is_bare r;
  close = not (persists_by (headed r)) || is_by_nph s || is_closing_fault (answer_at s) || not (is_whole r);
  stamp = secs;
  known = not (is_undecided (answer_at s));
}

way_is : (site : Site) (c : ℕ) (e : Exchange) → way_now site c e ≡ way_by (reading site c e) (stage site c e) (last_secs (all_of e))
unfolding way_by
way_is site c e = refl

way_same : (site : Site) (c : ℕ) (e : Exchange) (d : ℕ) (bytes : List ℕ) → way_now site c (pushed e (Out (Write d bytes))) ≡ way_now site c e
way_same site c e d bytes =
    way_is site c (pushed e (Out (Write d bytes)))
    ∙ (λ i. way_by (reading_same site c e d bytes i) (stage_same site c e d bytes i) (secs_same site c e d bytes i))
    ∙ sym (way_is site c e)

own_bytes : (c : ℕ) (bytes : List ℕ) → bytes_written c (Out (Write c bytes)) ≡ bytes
own_bytes c bytes = ap (λ (b : Bool). if b then bytes else []) (eq-eqb c c refl)

written_then : (c : ℕ) (e : Exchange) (bytes : List ℕ) → written c (pushed e (Out (Write c bytes))) ≡ written c e ++ bytes
written_then c e bytes = client_out-push e.items (Out (Write c bytes)) c ∙ ap (λ (l : List ℕ). written c e ++ l) (own_bytes c bytes)

pub writes_are_of_answers : WritesAreOfAnswers
writes_are_of_answers site c e bytes = record {
  stage_then = stage_same site c e c bytes;
  reading_then = reading_same site c e c bytes;
  continue_then = continue_same site c e c bytes;
  written_then = written_then c e bytes;
  way_now_then = way_same site c e c bytes;
}

-- ---- the first byte

filled_long : (bytes : List ℕ) → is_filled bytes ≡ true → 0 < length bytes
filled_long [] some = absurd (false≢true some)
filled_long (byte ∷ bytes) some = omega arith

first_item : (c skipped : ℕ) (e : Exchange) (bytes : List ℕ) → length (written c e) ≤ skipped → skipped < length (written c e ++ bytes)
    → first_front (is_first_byte c skipped) (e.items ++ Out (Write c bytes) ∷ []) ≡ Some (e.items ++ Out (Write c bytes) ∷ [])
first_item c skipped e bytes few much =
    let none : first_front (is_first_byte c skipped) e.items ≡ None = no_first c skipped [] e.items few in
    let more : nat_lt skipped (length (client_out (e.items ++ Out (Write c bytes) ∷ []) c)) ≡ true =
    lt-ltb skipped _ (subst (λ (l : List ℕ). skipped < length l) (sym (written_then c e bytes)) much) in
    let is : is_first_byte c skipped e.items (Out (Write c bytes)) ≡ true =
    ap (λ (b : Bool). b && nat_lt skipped (length (client_out (e.items ++ Out (Write c bytes) ∷ []) c))) (eq-eqb c c refl) ∙ more in
    first_front-push (is_first_byte c skipped) e.items (Out (Write c bytes))
    ∙ ap (λ (o : Option (List Item)). or_else o (if is_first_byte c skipped e.items (Out (Write c bytes)) then Some (e.items ++ Out (Write c bytes) ∷ []) else None)) none
    ∙ ap (λ (b : Bool). if b then Some (e.items ++ Out (Write c bytes) ∷ []) else None) is

pub writes_begin : WritesBegin
writes_begin site c e bytes wrote some =
    let long : length (written c e) ≡ length (continue_part site c e) = ap (λ (l : List ℕ). length l) wrote in
    let much : length (continue_part site c e) < length (written c e ++ bytes) =
    omega (arith, long, length-append (written c e) bytes, filled_long bytes some) in
    ap (λ (l : List ℕ). first_front (is_first_byte c (length l)) (e.items ++ Out (Write c bytes) ∷ [])) (continue_same site c e c bytes)
    ∙ first_item c (length (continue_part site c e)) e bytes (omega (arith, long)) much
