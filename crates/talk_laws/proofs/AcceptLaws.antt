-- The walk of a request whose handshake is accepted.
use Rattle.std.proofs.Common.{◌≡◌, ℕ, zero, suc, List, map, Some, Ok, ap, ◌∙◌}
use Rattle.host_base.specs.declared.request.Request.{Request}
use Rattle.host_base.specs.declared.site.Mapped.{Mapped}
use Rattle.host_base.specs.declared.site.ScriptKind.TheVariants.{WebSocket}
use Rattle.host_base.specs.declared.site.Site.{Site}
use Rattle.trace_model.specs.Answer.{Walk, answer, at_handshake, at_hop, at_place, at_script, answer_at, talking, walk, walk_by, walk_by_break, walk_from}
use Rattle.trace_model.specs.Exchange.{Exchange}
use Rattle.trace_model.specs.Legs.{leg_of}
use Rattle.talk_laws.specs.Welcome.{AcceptedAreWelcomed, IsAccepted}

module _ (site : Site) (c : ℕ) (e : Exchange) (value : List ℕ) (request : Request) (mapped : Mapped) (a : IsAccepted site c e value request mapped) where
  at_the_place : (next : List ℕ → Walk) → at_hop site c e 0 request next ≡ at_handshake c e 0 request mapped (Ok value)
  at_the_place next =
      ap (at_place site c e 0 request next) a.place ∙ ap (at_script site c e 0 request mapped next) a.kind ∙ ap (at_handshake c e 0 request mapped) a.taken

  from_the_first : (left : ℕ) → walk_from site c e left 0 request ≡ at_handshake c e 0 request mapped (Ok value)
  from_the_first zero = at_the_place _
  from_the_first (suc left) = at_the_place _

  accepted_walk : walk site c e ≡ at_handshake c e 0 request mapped (Ok value)
  accepted_walk =
      ap (walk_by site c e) a.reads ∙ ap (λ o. walk_by_break site c e o (Some request)) a.unbroken ∙ from_the_first site.limits.redirects

  pub accepted_answer : answer site c e ≡ talking value
  accepted_answer = ap (λ (w : Walk). answer_at w.stage) accepted_walk

pub accepted_are_welcomed : AcceptedAreWelcomed
accepted_are_welcomed site c e value request mapped a =
    let walked = accepted_walk site c e value request mapped a in
    record {
      stage_is = ap (λ (w : Walk). w.stage) walked;
      none = λ is. ap (λ (w : Walk). w.legs) walked ∙ ap (map (leg_of 0 WebSocket request)) is;
      one = λ k is. ap (λ (w : Walk). w.legs) walked ∙ ap (map (leg_of 0 WebSocket request)) is;
    }
