-- Where a script was started, and where an answer stands whole, no handshake is accepted.
use Rattle.std.proofs.Common.{◌≡◌, ℕ, zero, suc, Bool, true, false, ◌&&◌, not, List, [], ◌∷◌, Option, Some, None, Result, Ok, Err, bytes_eq, refl, sym, ap, ◌∙◌, subst}
use Rattle.std.proofs.lemmas.Bool.{and_right, false≢true}
use Rattle.host_base.specs.declared.cause.Cause.{Cause}
use Rattle.host_base.specs.declared.request.Request.{Request}
use Rattle.host_base.specs.declared.site.Mapped.{Mapped}
use Rattle.host_base.specs.declared.site.ScriptKind.{ScriptKind}
use Rattle.host_base.specs.declared.site.ScriptKind.TheVariants.{Cgi, Nph, WebSocket}
use Rattle.host_base.specs.declared.site.Site.{Site}
use Rattle.host_trace.specs.declared.items.Item.{Item}
use Rattle.host_trace.specs.Decider.{Outcome, derived, failed, is_websocket, unanswered}
use Rattle.host_trace.specs.Projections.{children_of, shut_for_memory, upgraded}
use Rattle.reply_kinds.specs.declared.derived.Derived.{Derived}
use Rattle.reply_kinds.specs.declared.derived.Derived.TheVariants as Output
use Rattle.ws_handshake.specs.Handshake.{accept_text, handshake}
use Rattle.trace_child.specs.Decided.{decided_at, outcome_at}
use Rattle.trace_model.specs.Answer.{Stage as Model, Walk, answer_at, answered, at_decider, at_handshake, at_outcome, at_output, at_place, at_run, at_script, at_start, broken_off, interrupted, refused, rejected, request_of_hop, running, stage, unready, unstarted, walk_from, welcomed}
use Rattle.trace_model.specs.Demands.{is_welcomed}
use Rattle.trace_model.specs.Exchange.{Exchange, all_of, final}
use Rattle.trace_model.specs.Legs.{Leg, leg_of, run_of}
use Rattle.trace_model.specs.Places.{kind_of, origins_of, place_of}
use Rattle.trace_model.specs.Standing.{is_whole_final, spells_answer, stands_whole}
use Rattle.trace_model.specs.Talks.{upgrades}
use Rattle.host_trace.specs.First.{last_of}
use Rattle.conn_laws.specs.Hops.{StillReaches}
use Rattle.conn_laws.proofs.HopLaws.{reaches_stage}
use Rattle.exchange_reply.specs.StepRules.{is_continued}
use Rattle.exchange_stage.specs.declared.stage.Stage.{Stage}
use Rattle.exchange_stage.specs.declared.stage.Stage.TheVariants as At
use Rattle.exchange_laws.specs.StageIs.{IsLeftOver, LostIs, StageIs}
use Rattle.exchange_laws.specs.Unanswered.{IsUnanswered}
use Rattle.exchange_laws.specs.Walked.{IsLast}
use Rattle.exchange_laws.proofs.HopStageLaws.{no_upgrade}
use Rattle.exchange_laws.proofs.RestLaws.{no_demand}
use Rattle.exchange_laws.proofs.UnansweredLaws.{unanswered_final}

-- the model's stage is none of a WebSocket
abbrev pub IsPlain : Model → Type 0
IsPlain (welcomed value request mapped) = ⊥
IsPlain _ = Unit {0}

module _ (site : Site) (c : ℕ) (e : Exchange) where
  -- ---- the walk

  abbrev LeadsToPlain : (List ℕ → Walk) → Type 0
  LeadsToPlain next = (location : List ℕ) → IsPlain (next location).stage

  output_plain : (leg : Leg) (next : List ℕ → Walk) → LeadsToPlain next → (d : Derived) → IsPlain (at_output leg next d).stage
  output_plain leg next plain (Output.Hop location) = plain location
  output_plain leg next plain _ = tt

  outcome_plain : (leg : Leg) (next : List ℕ → Walk) → LeadsToPlain next → (front : List Item) (o : Outcome) → IsPlain (at_outcome site c e leg next front o).stage
  outcome_plain leg next plain front derived = output_plain leg next plain _
  outcome_plain leg next plain front (failed cause) = tt
  outcome_plain leg next plain front unanswered = tt

  decider_plain : (leg : Leg) (next : List ℕ → Walk) → LeadsToPlain next → (front : List Item) (x : Option Item) → IsPlain (at_decider site c e leg next front x).stage
  decider_plain leg next plain front None = tt
  decider_plain leg next plain front (Some x) = outcome_plain leg next plain front (outcome_at (run_of site c e leg) x)

  run_plain : (leg : Leg) (next : List ℕ → Walk) → LeadsToPlain next → (o : Option (List Item)) → IsPlain (at_run site c e leg next o).stage
  run_plain leg next plain None = tt
  run_plain leg next plain (Some front) = decider_plain leg next plain front (last_of front)

  start_plain : (hop : ℕ) (request : Request) (mapped : Mapped) (kind : ScriptKind) (next : List ℕ → Walk) → LeadsToPlain next → (ks : List ℕ)
      → IsPlain (at_start site c e hop request mapped kind next ks).stage
  start_plain hop request mapped kind next plain [] = tt
  start_plain hop request mapped kind next plain (k ∷ ks) =
      run_plain (leg_of hop kind request k) next plain (decided_at (run_of site c e (leg_of hop kind request k)) e.items)

  script_plain : (hop : ℕ) (request : Request) (mapped : Mapped) (next : List ℕ → Walk) → LeadsToPlain next → (kind : ScriptKind)
      → (is_websocket kind ≡ true → IsPlain (at_handshake c e hop request mapped (handshake request (origins_of site mapped))).stage) → IsPlain (at_script site c e hop request mapped next kind).stage
  script_plain hop request mapped next plain Cgi other = start_plain hop request mapped Cgi next plain (children_of e.items c e.number hop)
  script_plain hop request mapped next plain Nph other = start_plain hop request mapped Nph next plain (children_of e.items c e.number hop)
  script_plain hop request mapped next plain WebSocket other = other refl

  -- what a local redirect leads to
  hop_plain : (hop : ℕ) (request : Request) (location : List ℕ) (next : List ℕ → Walk) → LeadsToPlain next → (p : Result Mapped Cause)
      → IsPlain (at_place site c e hop (request_of_hop request location) next p).stage
  hop_plain hop request location next plain (Err cause) = tt
  hop_plain hop request location next plain (Ok mapped) =
      script_plain hop (request_of_hop request location) mapped next plain (kind_of site mapped)
      (λ web. subst (λ (h : Result (List ℕ) Cause). IsPlain (at_handshake c e hop (request_of_hop request location) mapped h).stage) (sym (no_upgrade request location (origins_of site mapped))) tt)

  walk_plain : (left hop : ℕ) (request : Request) (location : List ℕ) → IsPlain (walk_from site c e left hop (request_of_hop request location)).stage
  walk_plain zero hop request location = hop_plain hop request location _ (λ further. tt) (place_of site (request_of_hop request location))
  walk_plain (suc left) hop request location =
      hop_plain hop request location _ (λ further. walk_plain left (suc hop) (request_of_hop request location) further) (place_of site (request_of_hop request location))

  -- .. and where a script is to be started at a hop
  place_plain : (hop : ℕ) (request : Request) (next : List ℕ → Walk) → LeadsToPlain next → (mapped : Mapped) → place_of site request ≡ Ok mapped → is_websocket (kind_of site mapped) ≡ false
      → IsPlain (at_place site c e hop request next (place_of site request)).stage
  place_plain hop request next plain mapped place kind =
      subst (λ (p : Result Mapped Cause). IsPlain (at_place site c e hop request next p).stage) (sym place)
      (script_plain hop request mapped next plain (kind_of site mapped) (λ web. absurd (false≢true (sym kind ∙ web))))

  started_plain : (left hop : ℕ) (request : Request) (mapped : Mapped) → place_of site request ≡ Ok mapped → is_websocket (kind_of site mapped) ≡ false
      → IsPlain (walk_from site c e left hop request).stage
  started_plain zero hop request mapped place kind = place_plain hop request _ (λ location. tt) mapped place kind
  started_plain (suc left) hop request mapped place kind =
      place_plain hop request _ (λ location. walk_plain left (suc hop) request location) mapped place kind

  last_plain : (legs : List Leg) (leg : Leg) → IsLast site c e legs leg → IsPlain (stage site c e)
  last_plain legs leg last =
      let r : StillReaches site c e last.before last.left leg.hop leg.request = last.reached in
      subst (λ (s : Model). IsPlain s) (sym (reaches_stage site c e r.legs_then last.left leg.hop r.request_then r.reaches))
      (started_plain last.left leg.hop r.request_then last.started.mapped (ap (place_of site) r.same_request ∙ last.started.place) (ap is_websocket last.started.kind ∙ last.started.plain))

  -- ---- so the accept text doesn't stand

  plain_none : (s : Model) → IsPlain s → is_welcomed site c e s ≡ false
  plain_none (welcomed value request mapped) p = absurd p
  plain_none (refused cause) p = refl
  plain_none (unstarted hop request mapped) p = refl
  plain_none (rejected cause) p = refl
  plain_none (interrupted cause) p = refl
  plain_none unready p = refl
  plain_none (running leg) p = refl
  plain_none (broken_off leg cause stood) p = refl
  plain_none (answered leg output) p = refl

  by_last : (legs : List Leg) (leg : Leg) → IsLast site c e legs leg → is_welcomed site c e (stage site c e) ≡ false
  by_last legs leg last = plain_none (stage site c e) (last_plain legs leg last)

  by_none : final site c e ≡ [] → is_welcomed site c e (stage site c e) ≡ false
  by_none none = go (stage site c e)
    where
      go : (s : Model) → is_welcomed site c e s ≡ false
      go (welcomed value request mapped) = ap (λ (bytes : List ℕ). bytes_eq bytes (accept_text value)) none
      go (refused cause) = refl
      go (unstarted hop request mapped) = refl
      go (rejected cause) = refl
      go (interrupted cause) = refl
      go unready = refl
      go (running leg) = refl
      go (broken_off leg cause stood) = refl
      go (answered leg output) = refl

  by_unanswered : (continued : Bool) → IsUnanswered site c e continued → is_welcomed site c e (stage site c e) ≡ false
  by_unanswered continued u = by_none (unanswered_final site c e continued u)

  unspelled : (value : List ℕ) (request : Request) (mapped : Mapped) → stage site c e ≡ welcomed value request mapped → stands_whole site c e ≡ false
  unspelled value request mapped at = and_right (is_continued site c e) (is_whole_final site c e (final site c e)) (go (final site c e))
    where
      go : (bytes : List ℕ) → is_whole_final site c e bytes ≡ false
      go [] = refl
      go (byte ∷ bytes) = ap (λ (s : Model). spells_answer site c e (byte ∷ bytes) (answer_at s)) at

  by_whole : stands_whole site c e ≡ true → is_welcomed site c e (stage site c e) ≡ false
  by_whole whole = go (stage site c e) refl
    where
      go : (s : Model) → stage site c e ≡ s → is_welcomed site c e s ≡ false
      go (welcomed value request mapped) at = absurd (false≢true (sym (unspelled value request mapped at) ∙ whole))
      go (refused cause) at = refl
      go (unstarted hop request mapped) at = refl
      go (rejected cause) at = refl
      go (interrupted cause) at = refl
      go unready at = refl
      go (running leg) at = refl
      go (broken_off leg cause stood) at = refl
      go (answered leg output) at = refl

  by_left_over : (legs : List Leg) (continued begun : Bool) → IsLeftOver site c e legs continued begun → is_welcomed site c e (stage site c e) ≡ false
  by_left_over legs continued false l = by_unanswered continued l.0
  by_left_over legs continued true l = by_last legs l.0 l.6

  unwelcomed : (legs : List Leg) (continued looked closing : Bool) (more : List ℕ) (s : Stage) → StageIs site c e legs continued looked closing more s
      → is_welcomed site c e (stage site c e) ≡ false
  unwelcomed legs continued looked closing more (At.Running held) k = by_last legs _ k.0.last
  unwelcomed legs continued looked closing more (At.Finishing text closes) k = by_left_over legs continued k.0.begun_then k.0.left_over
  unwelcomed legs continued looked closing more At.Answered k = by_whole k.whole
  unwelcomed legs continued looked closing more At.Silent k = by_last legs k.0.leg k.0.last
  unwelcomed legs continued looked closing more _ k = by_unanswered continued k.0.unanswered

  unwelcomed_lost : (legs : List Leg) (continued closing : Bool) (s : Stage) → LostIs site c e legs continued closing s → is_welcomed site c e (stage site c e) ≡ false
  unwelcomed_lost legs continued closing At.Answered k = by_whole k.whole
  unwelcomed_lost legs continued closing _ k = by_left_over legs continued k.begun k.left_over

  no_upgrade_due : is_welcomed site c e (stage site c e) ≡ false → upgrades site c e ≡ true
  no_upgrade_due none = no_demand _ (upgraded e.items c) (ap (λ (b : Bool). b && not (shut_for_memory (all_of e) c)) none)

  -- No Upgrade is due at a stage of HTTP.
  pub stages_upgrade_none : (legs : List Leg) (continued looked closing : Bool) (more : List ℕ) (s : Stage) → StageIs site c e legs continued looked closing more s → upgrades site c e ≡ true
  stages_upgrade_none legs continued looked closing more s k = no_upgrade_due (unwelcomed legs continued looked closing more s k)

  pub losses_upgrade_none : (legs : List Leg) (continued closing : Bool) (s : Stage) → LostIs site c e legs continued closing s → upgrades site c e ≡ true
  losses_upgrade_none legs continued closing s k = no_upgrade_due (unwelcomed_lost legs continued closing s k)
