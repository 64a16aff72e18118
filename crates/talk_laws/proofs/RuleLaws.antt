-- The rules on what is written, begun, answered, led on and streamed, once the accept text stands.
use Rattle.std.proofs.Common.{◌≡◌, ℕ, Bool, true, false, List, [], ◌∷◌, refl, ap, ◌∙◌}
use Rattle.std.specs.Prelude.{◌&&◌, ◌||◌, not, if◌then◌else◌, bytes_eq}
use Rattle.std.specs.List.{list_all}
use Rattle.std.proofs.lemmas.Bool.{and_from, and_left, or_left, or_right}
use Rattle.host_base.specs.declared.request.Request.{Request}
use Rattle.host_base.specs.declared.site.Mapped.{Mapped}
use Rattle.host_base.specs.declared.site.Site.{Site}
use Rattle.host_trace.specs.Projections.{shut_for_memory, upgraded}
use Rattle.ws_handshake.specs.Handshake.{accept_text}
use Rattle.trace_child.specs.Words.{implies, is_filled}
use Rattle.trace_model.specs.Answer.{answer, is_final, legs as legs_of, stage, talking, welcomed}
use Rattle.trace_model.specs.Begins.{begins}
use Rattle.trace_model.specs.Demands.{begins_at, has_room, is_live, is_to_stream, is_unstarted, is_welcomed, may_go_on, must_answer, must_begin, must_hop, must_stream, waits_its_turn}
use Rattle.trace_model.specs.Exchange.{Exchange, all_of, final, written}
use Rattle.trace_model.specs.Replies.{replies}
use Rattle.trace_model.specs.Says.{has_said_all}
use Rattle.trace_model.specs.Standing.{is_left_unfinished, is_nothing, may_be_final, may_be_left, may_follow, may_stand, may_stand_in_part, stands_whole}
use Rattle.trace_model.specs.Talks.{is_right_talk}
use Rattle.trace_model.proofs.SamenessLaws.{bytes_eq-refl}
use Rattle.child_core.proofs.ActLaws.{and_false}
use Rattle.exchange_laws.proofs.ShutLaws.{continues_are_given}
use Rattle.talk_laws.specs.Rules.{GreetedGoOn, KeepsHttpRules, LostGreetingsKeepRules, SpokenKeepHttpRules}
use Rattle.talk_laws.specs.Welcome.{IsGreeted}
use Rattle.talk_laws.proofs.AcceptLaws.{accepted_answer, accepted_are_welcomed}
use Rattle.talk_laws.proofs.GreetedLaws.{greeted_final, greeted_unended, greeted_unfinished}
use Rattle.talk_laws.proofs.HearLaws.{spoken_started}

pub greeted_go_on : GreetedGoOn
greeted_go_on site c e continued value request mapped g = record {
  unfinished = greeted_unfinished site c e continued value request mapped g;
  unended = greeted_unended site c e continued value request mapped g;
}

pub implied : (b a : Bool) → a ≡ true → implies b a ≡ true
implied true a is = is
implied false a is = refl

pub unasked : (b a : Bool) → b ≡ false → implies b a ≡ true
unasked b a none = ap (λ d. implies d a) none

either : (b : Bool) (x y : Bool) → x ≡ true → y ≡ true → (if b then x else y) ≡ true
either true x y p q = p
either false x y p q = q

none_between : (a b : Bool) → (a && false && b) ≡ false
none_between true b = refl
none_between false b = refl

module _ (site : Site) (c : ℕ) (e : Exchange) (continued : Bool) (value : List ℕ) (request : Request) (mapped : Mapped) (g : IsGreeted site c e continued value request mapped) where
  pub stage_now : stage site c e ≡ welcomed value request mapped
  stage_now = (accepted_are_welcomed site c e value request mapped g.accepted).stage_is

  answer_now : answer site c e ≡ talking value
  answer_now = accepted_answer site c e value request mapped g.accepted

  follows : may_follow site c e (accept_text value) (answer site c e) ≡ true
  follows = ap (may_follow site c e (accept_text value)) answer_now ∙ bytes_eq-refl (accept_text value)

  final_may : (bytes : List ℕ) → bytes ≡ accept_text value → may_be_final site c e bytes ≡ true
  final_may [] is = refl
  final_may (byte ∷ bytes) is = ap (λ l. may_follow site c e l (answer site c e)) is ∙ follows

  left_may : (bytes : List ℕ) → bytes ≡ accept_text value → may_be_left site c e bytes ≡ true
  left_may [] is = refl
  left_may (byte ∷ bytes) is =
      or_left (may_follow site c e (byte ∷ bytes) (answer site c e)) (is_left_unfinished site c e (byte ∷ bytes) (stage site c e))
      (ap (λ l. may_follow site c e l (answer site c e)) is ∙ follows)

  pub greeted_replies : replies site c e ≡ true
  greeted_replies =
      let stands = greeted_final site c e continued value request mapped g in
      either (shut_for_memory (all_of e) c) (may_stand_in_part site c e) (may_stand site c e)
      (or_right (is_nothing (written c e)) _ (and_from _ _ g.let_on (left_may (final site c e) stands)))
      (and_from _ _ g.let_on (final_may (final site c e) stands))

  pub welcome_stands : is_welcomed site c e (welcomed value request mapped) ≡ true
  welcome_stands =
      ap (λ l. bytes_eq l (accept_text value)) (greeted_final site c e continued value request mapped g) ∙ bytes_eq-refl (accept_text value)

  -- whatever is begun, by the rule on that and on the Upgrade
  pub http_rules : begins site c e ≡ true → implies (is_welcomed site c e (stage site c e) && not (shut_for_memory (all_of e) c)) (upgraded e.items c) ≡ true
      → KeepsHttpRules site c e
  http_rules begun speaks = record {
    replies_then = greeted_replies;
    silent = ap (λ b. implies b (not (is_filled (written c e)))) g.unclosed;
    begins_then = begun;
    answers_then =
        unasked (must_answer site c e) (stands_whole site c e)
        (ap (λ a. is_live c (all_of e) && is_final a && (not (waits_its_turn (stage site c e)) || may_go_on c e)) answer_now ∙ none_between (is_live c (all_of e)) _);
    hops_then = implied (must_hop site c e) (not (is_unstarted (stage site c e))) (ap (λ s. not (is_unstarted s)) stage_now);
    streams_then =
        unasked (must_stream site c e) _ (ap (λ s. is_live c (all_of e) && is_to_stream e s) stage_now ∙ and_false (is_live c (all_of e)));
    no_sooner = g.begun.no_sooner;
    continues_then = continues_are_given site c e (λ live. g.unclosed) g.let_on;
    upgrades_then = speaks;
  }

pub spoken_keep_http_rules : SpokenKeepHttpRules
spoken_keep_http_rules site c e legs continued k s =
    http_rules site c e continued s.value s.request s.mapped s.greeted
    (implied (must_begin site c e) (begins_at site c e (stage site c e))
    (ap (begins_at site c e) (stage_now site c e continued s.value s.request s.mapped s.greeted)
    ∙ and_from _ _ (and_from _ _ (welcome_stands site c e continued s.value s.request s.mapped s.greeted) s.upgraded_is) (spoken_started site c e legs continued k s)))
    (implied _ (upgraded e.items c) s.upgraded_is)

pub lost_greetings_keep_rules : LostGreetingsKeepRules
lost_greetings_keep_rules site c e continued value request mapped g none dead lost =
    let no_legs : legs_of site c e ≡ [] = (accepted_are_welcomed site c e value request mapped g.accepted).none none in
    record {
      http_rules =
          http_rules site c e continued value request mapped g
          (unasked (must_begin site c e) _ (and_left (is_live c (all_of e) && has_room c (all_of e)) _ (and_left (is_live c (all_of e)) (has_room c (all_of e)) dead)))
          (unasked _ (upgraded e.items c) (ap (λ b. is_welcomed site c e (stage site c e) && not b) lost ∙ and_false _));
      talks_then = ap (list_all (is_right_talk site c e)) no_legs;
      says_then = unasked (is_live c (all_of e)) (list_all (has_said_all site c e) (legs_of site c e)) dead;
    }
