-- Where the model's exchange stands at a hop for which no script was started.
use Rattle.std.proofs.Common.{◌≡◌, ◌⊎◌, ℕ, zero, suc, Bool, true, false, List, [], ◌∷◌, map, filter, Option, Some, None, Result, Ok, Err, codes, refl, sym, ap, subst, ◌∙◌, inl, inr, le_refl, arith}
use Rattle.std.specs.Prelude.{◌||◌, ◌&&◌, not, if◌then◌else◌, flat_map}
use Rattle.std.specs.List.{list_any}
use Rattle.std.specs.Str.{bytes_eq, str_eq_ignore_ascii_case}
use Rattle.std.proofs.lemmas.Bool.{false≢true, and_left, and_right, or_left}
use Rattle.host_base.specs.Ascii.{comma_words}
use Rattle.host_base.specs.FieldLists.{is_named, value_of}
use Rattle.host_base.specs.declared.cause.Cause.{Cause}
use Rattle.host_base.specs.declared.cause.Cause.TheVariants.{RedirectLoop, UpgradeNeeded}
use Rattle.host_base.specs.declared.fields.Field.{Field}
use Rattle.host_base.specs.declared.request.Request.{Request}
use Rattle.host_base.specs.declared.site.Mapped.{Mapped}
use Rattle.host_base.specs.declared.site.ScriptKind.{ScriptKind}
use Rattle.host_base.specs.declared.site.ScriptKind.TheVariants.{Cgi, Nph, WebSocket}
use Rattle.host_base.specs.declared.site.Site.{Site}
use Rattle.host_trace.specs.Decider.{is_websocket}
use Rattle.host_trace.specs.Projections.{children}
use Rattle.request_reader.specs.Request.{begins_name, is_kept, with_body}
use Rattle.ws_handshake.specs.Handshake.{asks_websocket, handshake, is_1_1, lists}
use Rattle.trace_child.specs.Words.{implies, is_filled}
use Rattle.trace_model.specs.Answer.{Stage, Walk, answered, broken_off, interrupted, refused, rejected, running, unready, unstarted, welcomed, answer, answer_at, at_handshake, at_place, at_script, is_final, request_of_hop, stage, stopped_at, walk_from, legs as legs_of}
use Rattle.trace_model.specs.Demands.{begins_at, has_room, is_live, is_ready, is_to_stream, may_go_on, must_answer, must_begin, must_hop, must_stream, waits_its_turn}
use Rattle.trace_model.specs.Exchange.{Exchange, all_of, has_start}
use Rattle.trace_model.specs.Legs.{Leg}
use Rattle.trace_model.specs.Places.{kind_of, origins_of, place_of}
use Rattle.conn_laws.specs.Ends.{has_unsettled_of}
use Rattle.conn_laws.specs.Hops.{Leads, SameLegs, StillReaches}
use Rattle.conn_laws.proofs.HopLaws.{reaches_stage, reaches_stands}
use Rattle.exchange_laws.specs.Walked.{AtHop, HasChildren, child_of_leg}
use Rattle.exchange_laws.proofs.RestLaws.{KeepsDemands, met, no_demand}

-- ---- a local redirect asks for no WebSocket

left_out : (f : Field) → is_kept f ≡ true → is_named (codes "Connection") f ≡ false
left_out f kept = go (is_named (codes "Content-Length") f) (is_named (codes "Content-Type") f) (is_named (codes "Transfer-Encoding") f) (is_named (codes "Expect") f) (is_named (codes "Upgrade") f) (is_named (codes "Connection") f) (begins_name (codes "Sec-WebSocket-") f) kept
  where
    go : (a b d e u n s : Bool) → not (a || (b || (d || (e || (u || (n || s)))))) ≡ true → n ≡ false
    go true b d e u n s is = absurd (false≢true is)
    go false true d e u n s is = absurd (false≢true is)
    go false false true e u n s is = absurd (false≢true is)
    go false false false true u n s is = absurd (false≢true is)
    go false false false false true n s is = absurd (false≢true is)
    go false false false false false true s is = absurd (false≢true is)
    go false false false false false false s is = refl

none_named : (fields : List Field) → filter (is_named (codes "Connection")) (filter is_kept fields) ≡ []
none_named [] = refl
none_named (f ∷ fields) = go (none_named fields) (is_kept f) refl
  where
    go : filter (is_named (codes "Connection")) (filter is_kept fields) ≡ [] → (b : Bool) → is_kept f ≡ b → filter (is_named (codes "Connection")) (if is_kept f then f ∷ filter is_kept fields else filter is_kept fields) ≡ []
    go later true kept =
        ap (λ b. filter (is_named (codes "Connection")) (if b then f ∷ filter is_kept fields else filter is_kept fields)) kept
        ∙ ap (λ b. if b then f ∷ filter (is_named (codes "Connection")) (filter is_kept fields) else filter (is_named (codes "Connection")) (filter is_kept fields)) (left_out f kept)
        ∙ later
    go later false dropped =
        ap (λ b. filter (is_named (codes "Connection")) (if b then f ∷ filter is_kept fields else filter is_kept fields)) dropped
        ∙ later

fails_first : (b : Bool) (x y : Result (List ℕ) Cause) → b ≡ false → (if not b then x else y) ≡ x
fails_first true x y is = absurd (false≢true (sym is))
fails_first false x y is = refl

pub no_upgrade : (request : Request) (location : List ℕ) (origins : Option (List (List ℕ))) → handshake (request_of_hop request location) origins ≡ Err UpgradeNeeded
unfolding handshake
no_upgrade request location origins =
    let hop : Request = request_of_hop request location in
    let none : lists hop.fields (codes "Connection") (codes "Upgrade") ≡ false =
    ap (λ fs. list_any (str_eq_ignore_ascii_case (codes "Upgrade")) (flat_map comma_words (map value_of fs))) (none_named request.fields) in
    let asks : asks_websocket hop ≡ false =
    and_right (bytes_eq hop.method (codes "GET") && is_1_1 hop.version && lists hop.fields (codes "Upgrade") (codes "websocket"))
    (lists hop.fields (codes "Connection") (codes "Upgrade")) none in
    fails_first (asks_websocket hop) (Err UpgradeNeeded) _ asks

-- the body is none of a handshake's
pub handshake_same : (request : Request) (body : List ℕ) (origins : Option (List (List ℕ))) → handshake (with_body request body) origins ≡ handshake request origins
unfolding handshake
handshake_same request body None = refl
handshake_same request body (Some origins) = refl

record IsOfHop (request : Request) : Type 0 where
  pub first : Request
  pub location : List ℕ
  pub is : request ≡ request_of_hop first location

redirected_is : (site : Site) (c : ℕ) (e : Exchange) (left hop : ℕ) (request : Request) (leg : Leg) (legs : List Leg) (left' hop' : ℕ) (request' : Request)
    → Leads site c e left hop request (leg ∷ legs) left' hop' request' → IsOfHop request' × ((n : ℕ) × (hop' ≡ suc n))
redirected_is site c e zero hop request leg legs left' hop' request' l = absurd l
redirected_is site c e (suc left) hop request leg [] left' hop' request' l =
    (record { first = request; location = l.0; is = sym l.2.2 }, (hop, sym l.2.1))
redirected_is site c e (suc left) hop request leg (next ∷ legs) left' hop' request' l =
    redirected_is site c e left (suc hop) (request_of_hop request l.0) next legs left' hop' request' l.2

of_hop : (site : Site) (c : ℕ) (e : Exchange) (leg : Leg) (legs : List Leg) (left hop : ℕ) (request : Request) (r : StillReaches site c e (leg ∷ legs) left hop request)
    → IsOfHop r.request_then × ((n : ℕ) × (hop ≡ suc n))
of_hop site c e leg legs left hop request r = go r.legs_then r.same_legs r.reaches.leads
  where
    go : (legs_then : List Leg) → SameLegs (leg ∷ legs) legs_then → Leads site c e site.limits.redirects 0 r.reaches.first legs_then left hop r.request_then
        → IsOfHop r.request_then × ((n : ℕ) × (hop ≡ suc n))
    go [] same l = absurd same
    go (first ∷ rest) same l = redirected_is site c e site.limits.redirects 0 r.reaches.first first rest left hop r.request_then l

-- no local redirect leads to an accepted handshake
pub accepted_first : (site : Site) (c : ℕ) (e : Exchange) (legs : List Leg) (left hop : ℕ) (request : Request) (origins : Option (List (List ℕ))) (value : List ℕ)
    → StillReaches site c e legs left hop request → handshake request origins ≡ Ok value → hop ≡ 0
accepted_first site c e legs left hop request origins value r taken = go r.legs_then r.reaches.leads
  where
    taken_then : handshake r.request_then origins ≡ Ok value
    taken_then = ap (λ (q : Request). handshake q origins) r.same_request ∙ handshake_same request r.request_then.body origins ∙ taken

    go : (legs_then : List Leg) → Leads site c e site.limits.redirects 0 r.reaches.first legs_then left hop r.request_then → hop ≡ 0
    go [] l = sym l.1
    go (first ∷ rest) l =
        let was = (redirected_is site c e site.limits.redirects 0 r.reaches.first first rest left hop r.request_then l).0 in
        let refused : handshake r.request_then origins ≡ Err UpgradeNeeded = ap (λ (q : Request). handshake q origins) was.is ∙ no_upgrade was.first was.location origins in
        let both : Ok value ≡ Err UpgradeNeeded = sym taken_then ∙ refused in
        absurd (cc)

-- ---- the stage

at_websocket : (site : Site) (c : ℕ) (e : Exchange) (left hop : ℕ) (request : Request) (mapped : Mapped) → place_of site request ≡ Ok mapped → kind_of site mapped ≡ WebSocket
    → (walk_from site c e left hop request).stage ≡ (at_handshake c e hop request mapped (handshake request (origins_of site mapped))).stage
at_websocket site c e zero hop request mapped place kind =
    let next : List ℕ → Walk = λ location. stopped_at (refused RedirectLoop) in
    ap (λ p. (at_place site c e hop request next p).stage) place ∙ ap (λ k. (at_script site c e hop request mapped next k).stage) kind
at_websocket site c e (suc left) hop request mapped place kind =
    let next : List ℕ → Walk = λ location. walk_from site c e left (suc hop) (request_of_hop request location) in
    ap (λ p. (at_place site c e hop request next p).stage) place ∙ ap (λ k. (at_script site c e hop request mapped next k).stage) kind

pub refused_handshake : (site : Site) (c : ℕ) (e : Exchange) (legs : List Leg) (left hop : ℕ) (request : Request) (mapped : Mapped) (cause : Cause)
    → (r : StillReaches site c e legs left hop request) → place_of site r.request_then ≡ Ok mapped → kind_of site mapped ≡ WebSocket
    → handshake r.request_then (origins_of site mapped) ≡ Err cause → stage site c e ≡ refused cause
refused_handshake site c e legs left hop request mapped cause r place kind no_hand =
    reaches_stage site c e r.legs_then left hop r.request_then r.reaches
    ∙ at_websocket site c e left hop r.request_then mapped place kind
    ∙ ap (λ h. (at_handshake c e hop r.request_then mapped h).stage) no_hand

-- on the way to a script
abbrev pub OnWay : List Leg → Stage → Type 0
OnWay legs (refused cause) = Unit {0}
OnWay legs (unstarted hop request mapped) = (legs ≡ []) ⊎ ((n : ℕ) × (hop ≡ suc n))
OnWay legs (welcomed value request mapped) = legs ≡ []
OnWay legs _ = ⊥

module _ (site : Site) (c : ℕ) (e : Exchange) (legs : List Leg) (left hop : ℕ) (request : Request) (a : AtHop site c e legs left hop request) where
  by_legs : (g : List Leg) → legs ≡ g → (legs ≡ []) ⊎ (IsOfHop a.reached.request_then × ((n : ℕ) × (hop ≡ suc n)))
  by_legs [] is = inl is
  by_legs (leg ∷ rest) is = inr (go legs is a.reached)
    where
      go : (g : List Leg) → g ≡ leg ∷ rest → (r : StillReaches site c e g left hop request) → IsOfHop r.request_then × ((n : ℕ) × (hop ≡ suc n))
      go [] no_legs r = absurd (cc)
      go (first ∷ others) some r = of_hop site c e first others left hop request r

  websocket_way : (mapped : Mapped) → place_of site a.reached.request_then ≡ Ok mapped → kind_of site mapped ≡ WebSocket → OnWay legs (stage site c e)
  websocket_way mapped place kind =
      subst (λ s. OnWay legs s) (sym at) (by_handshake (handshake a.reached.request_then (origins_of site mapped)) refl)
    where
      at : stage site c e ≡ (at_handshake c e hop a.reached.request_then mapped (handshake a.reached.request_then (origins_of site mapped))).stage
      at =
          reaches_stage site c e a.reached.legs_then left hop a.reached.request_then a.reached.reaches
          ∙ at_websocket site c e left hop a.reached.request_then mapped place kind

      by_handshake : (h : Result (List ℕ) Cause) → handshake a.reached.request_then (origins_of site mapped) ≡ h
          → OnWay legs (at_handshake c e hop a.reached.request_then mapped h).stage
      by_handshake (Err cause) is = tt
      by_handshake (Ok value) is = go (by_legs legs refl)
        where
          go : (legs ≡ []) ⊎ (IsOfHop a.reached.request_then × ((n : ℕ) × (hop ≡ suc n))) → legs ≡ []
          go (inl none) = none
          go (inr some) =
              let same : Ok value ≡ Err UpgradeNeeded =
              sym is ∙ ap (λ q. handshake q (origins_of site mapped)) some.0.is ∙ no_upgrade some.0.first some.0.location (origins_of site mapped) in
              absurd (cc)

  plain_way : (mapped : Mapped) → place_of site a.reached.request_then ≡ Ok mapped → is_websocket (kind_of site mapped) ≡ false → OnWay legs (stage site c e)
  plain_way mapped place plain =
      subst (λ s. OnWay legs s)
      (sym ((reaches_stands site c e a.reached.legs_then left hop a.reached.request_then a.reached.reaches).not_started mapped place plain (a.new hop (le_refl hop))))
      (go (by_legs legs refl))
    where
      go : (legs ≡ []) ⊎ (IsOfHop a.reached.request_then × ((n : ℕ) × (hop ≡ suc n))) → (legs ≡ []) ⊎ ((n : ℕ) × (hop ≡ suc n))
      go (inl none) = inl none
      go (inr some) = inr some.1

  pub at_hop_way : OnWay legs (stage site c e)
  at_hop_way = by_place (place_of site a.reached.request_then) refl
    where
      by_kind : (mapped : Mapped) (kind : ScriptKind) → kind_of site mapped ≡ kind → place_of site a.reached.request_then ≡ Ok mapped → OnWay legs (stage site c e)
      by_kind mapped WebSocket kind place = websocket_way mapped place kind
      by_kind mapped Cgi kind place = plain_way mapped place (ap is_websocket kind)
      by_kind mapped Nph kind place = plain_way mapped place (ap is_websocket kind)

      by_place : (p : Result Mapped Cause) → place_of site a.reached.request_then ≡ p → OnWay legs (stage site c e)
      by_place (Err cause) place =
          subst (λ s. OnWay legs s)
          (sym ((reaches_stands site c e a.reached.legs_then left hop a.reached.request_then a.reached.reaches).no_script cause place)) tt
      by_place (Ok mapped) place = by_kind mapped (kind_of site mapped) refl place

-- no script was started before the first hop
pub no_legs_first : (site : Site) (c : ℕ) (e : Exchange) (legs : List Leg) (left : ℕ) (request : Request) → AtHop site c e legs left 0 request → legs ≡ []
no_legs_first site c e legs left request a = go (by_legs site c e legs left 0 request a legs refl)
  where
    go : (legs ≡ []) ⊎ (IsOfHop a.reached.request_then × ((n : ℕ) × (0 ≡ suc n))) → legs ≡ []
    go (inl none) = none
    go (inr some) = let never : 0 ≡ suc some.1.0 = some.1.1 in absurd (omega (arith, never))

-- ---- what waits for its turn

no_children_settled : (c : ℕ) (e : Exchange) → HasChildren c e [] → may_go_on c e ≡ (has_room c (all_of e) && true)
no_children_settled c e none = ap (λ ks. has_room c (all_of e) && not (has_unsettled_of e.items ks)) none

and_true : (b : Bool) → (b && true) ≡ b
and_true true = refl
and_true false = refl

-- where no child was started room is all that is waited for
pub room_alone : (c : ℕ) (e : Exchange) → HasChildren c e [] → may_go_on c e ≡ has_room c (all_of e)
room_alone c e none = no_children_settled c e none ∙ and_true (has_room c (all_of e))

skip : (a b m : Bool) → (a && m) ≡ false → (a && b && m) ≡ false
skip true true m is = is
skip true false m is = refl
skip false b m is = refl

pub way_keeps : (site : Site) (c : ℕ) (e : Exchange) (legs : List Leg) → HasChildren c e legs → (is_live c (all_of e) && may_go_on c e) ≡ false → OnWay legs (stage site c e)
    → KeepsDemands site c e
way_keeps site c e legs are waits way = record {
  begins_then = by_legs legs refl;
  answers_then = no_demand (must_answer site c e) _ (answer_waits (stage site c e) refl way);
  hops_then = no_demand (must_hop site c e) _ (skip (is_live c (all_of e)) (is_filled (legs_of site c e)) (may_go_on c e) waits);
  streams_then = no_demand (must_stream site c e) _ (and_right (is_live c (all_of e)) (is_to_stream e (stage site c e)) (unstreamed (stage site c e) way));
}
  where
    unstreamed : (s : Stage) → OnWay legs s → is_to_stream e s ≡ false
    unstreamed (refused cause) w = refl
    unstreamed (unstarted hop request mapped) w = refl
    unstreamed (welcomed value request mapped) w = refl
    unstreamed (rejected cause) w = absurd w
    unstreamed (interrupted cause) w = absurd w
    unstreamed unready w = absurd w
    unstreamed (running leg) w = absurd w
    unstreamed (broken_off leg cause stood) w = absurd w
    unstreamed (answered leg output) w = absurd w

    unfinal : (s : Stage) → stage site c e ≡ s → is_final (answer_at s) ≡ false → must_answer site c e ≡ false
    unfinal s at none =
        and_left (is_live c (all_of e) && is_final (answer site c e)) _ (and_right (is_live c (all_of e)) (is_final (answer site c e)) (ap (λ t. is_final (answer_at t)) at ∙ none))

    answer_waits : (s : Stage) → stage site c e ≡ s → OnWay legs s → must_answer site c e ≡ false
    answer_waits (refused cause) at w =
        ap (λ t. is_live c (all_of e) && is_final (answer_at t) && (not (waits_its_turn t) || may_go_on c e)) at
        ∙ skip (is_live c (all_of e)) true (may_go_on c e) waits
    answer_waits (unstarted hop request mapped) at w = unfinal (unstarted hop request mapped) at refl
    answer_waits (welcomed value request mapped) at w = unfinal (welcomed value request mapped) at refl
    answer_waits (rejected cause) at w = absurd w
    answer_waits (interrupted cause) at w = absurd w
    answer_waits unready at w = absurd w
    answer_waits (running leg) at w = absurd w
    answer_waits (broken_off leg cause stood) at w = absurd w
    answer_waits (answered leg output) at w = absurd w

    some_start : (g : List Leg) (leg : Leg) (rest : List Leg) → g ≡ leg ∷ rest → children e.items c ≡ map child_of_leg g → has_start c e ≡ true
    some_start g leg rest is ks = ap (λ l. is_filled l) (ks ∙ ap (map child_of_leg) is)

    begun : (leg : Leg) (rest : List Leg) → legs ≡ leg ∷ rest → (s : Stage) → OnWay legs s → begins_at site c e s ≡ true
    begun leg rest is (refused cause) w = or_left (has_start c e) _ (some_start legs leg rest is are)
    begun leg rest is (unstarted hop request mapped) (inl none) = absurd (cc)
    begun leg rest is (unstarted hop request mapped) (inr some) = ap (λ h. begins_at site c e (unstarted h request mapped)) some.1
    begun leg rest is (welcomed value request mapped) w = absurd (cc)
    begun leg rest is (rejected cause) w = absurd w
    begun leg rest is (interrupted cause) w = absurd w
    begun leg rest is unready w = absurd w
    begun leg rest is (running leg') w = absurd w
    begun leg rest is (broken_off leg' cause stood) w = absurd w
    begun leg rest is (answered leg' output) w = absurd w

    by_legs : (g : List Leg) → legs ≡ g → implies (must_begin site c e) (begins_at site c e (stage site c e)) ≡ true
    by_legs [] none =
        let room : may_go_on c e ≡ has_room c (all_of e) =
        no_children_settled c e (are ∙ ap (map child_of_leg) none) ∙ and_true (has_room c (all_of e)) in
        no_demand (must_begin site c e) _
        (and_left (is_live c (all_of e) && has_room c (all_of e)) (is_ready (stage site c e)) (ap (λ b. is_live c (all_of e) && b) (sym room) ∙ waits))
    by_legs (leg ∷ rest) some = met (must_begin site c e) (begins_at site c e (stage site c e)) (begun leg rest some (stage site c e) way)
