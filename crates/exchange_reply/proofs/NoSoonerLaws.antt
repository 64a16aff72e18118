-- A first byte of an answer comes no sooner than it is demanded, and that stays so.
use Rattle.std.proofs.Common.{◌≡◌, ℕ, Bool, true, false, List, [], ◌∷◌, Option, refl, sym, ap, ◌∙◌}
use Rattle.std.specs.Prelude.{◌&&◌, unwrap_or}
use Rattle.std.proofs.Math.Bool.{and-false}
use Rattle.std.proofs.lemmas.Bool.{false≢true}
use Rattle.host_base.specs.declared.site.Site.{Site}
use Rattle.host_trace.specs.declared.items.Item.{Item}
use Rattle.host_trace.specs.Projections.{child_out}
use Rattle.trace_child.specs.Words.{implies, is_filled}
use Rattle.trace_model.specs.Answer.{Stage, rejected, interrupted, unready, refused, welcomed, unstarted, running, broken_off, answered, answer, answer_at, is_undecided, stage}
use Rattle.trace_model.specs.Closes.{as_begun}
use Rattle.trace_model.specs.Demands.{is_to_stream}
use Rattle.trace_model.specs.Exchange.{Exchange, has_final, pushed, up_to}
use Rattle.trace_model.specs.ModelLaws.{BeginsAt}
use Rattle.trace_model.specs.Streams.{begins_no_sooner, is_undecided_at}
use Rattle.trace_model.proofs.FirstByteLaws.{as_begun-push}
use Rattle.exchange_reply.specs.Leg.{has_ticked}
use Rattle.exchange_reply.specs.Standings.{is_due}
use Rattle.exchange_reply.specs.StepRules.{ItemsComeNoSooner, TextsComeNoSooner, UnbegunIsNoSooner, is_continued, wrote}
use Rattle.exchange_reply.proofs.FirstByteLaws.{unbegun_is_now}
use Rattle.exchange_reply.proofs.StepLaws.{texts_extend}

implied_false : (a b : Bool) → a ≡ false → implies a b ≡ true
implied_false true b is = absurd (false≢true (sym is))
implied_false false b is = refl

implied_true : (a b : Bool) → b ≡ true → implies a b ≡ true
implied_true true b is = is
implied_true false b is = refl

-- what is said of the exchange as it was at its first byte
said_at : Site → ℕ → Exchange → Bool
said_at site c e = implies (is_undecided_at site c e) (is_to_stream e (stage site c e))

said_is : (site : Site) (c : ℕ) (e : Exchange) → begins_no_sooner site c e ≡ said_at site c (as_begun site c e)
unfolding said_at
said_is site c e = refl

said_unbegun : (site : Site) (c : ℕ) (e : Exchange) → has_final site c e ≡ false → said_at site c e ≡ true
unfolding said_at
said_unbegun site c e none =
    implied_false (is_undecided_at site c e) (is_to_stream e (stage site c e))
    (ap (λ (b : Bool). is_undecided (answer site c e) && b) none ∙ and-false (is_undecided (answer site c e)))

said_decided : (site : Site) (c : ℕ) (e : Exchange) → is_undecided (answer site c e) ≡ false → said_at site c e ≡ true
unfolding said_at
said_decided site c e decided =
    implied_false (is_undecided_at site c e) (is_to_stream e (stage site c e)) (ap (λ (b : Bool). b && has_final site c e) decided)

said_due : (site : Site) (c : ℕ) (e : Exchange) → is_to_stream e (stage site c e) ≡ true → said_at site c e ≡ true
unfolding said_at
said_due site c e due = implied_true (is_undecided_at site c e) (is_to_stream e (stage site c e)) due

pub unbegun_is_no_sooner : UnbegunIsNoSooner
unbegun_is_no_sooner site c e none =
    said_is site c e ∙ ap (said_at site c) (unbegun_is_now site c e none) ∙ said_unbegun site c e none

pub items_come_no_sooner : ItemsComeNoSooner
items_come_no_sooner site c e x front two head at is =
    said_is site c (pushed e x) ∙ ap (said_at site c) (as_begun-push site c e x front two head at) ∙ sym (said_is site c e) ∙ is

begun_front : (site : Site) (c : ℕ) (e : Exchange) (front : List Item) → BeginsAt site c e front → as_begun site c e ≡ up_to e front
begun_front site c e front at = ap (λ (o : Option (List Item)). up_to e (unwrap_or o e.items)) at

module _ (site : Site) (c : ℕ) (e : Exchange) (text : List ℕ) where
  stream_same : (s : Stage) → is_to_stream (wrote c e text) s ≡ is_to_stream e s
  stream_same (running leg) =
      ap (λ (l : List ℕ). is_due leg.kind l (has_ticked (wrote c e text) leg)) ((texts_extend site c e text).output_then leg.child)
      ∙ ap (is_due leg.kind (child_out e.items leg.child)) ((texts_extend site c e text).ticked_then leg)
  stream_same (rejected cause) = refl
  stream_same (interrupted cause) = refl
  stream_same unready = refl
  stream_same (refused cause) = refl
  stream_same (welcomed value request mapped) = refl
  stream_same (unstarted hop request mapped) = refl
  stream_same (broken_off leg cause stood) = refl
  stream_same (answered leg output) = refl

  said_first : is_continued site c e ≡ true → has_final site c e ≡ false → is_filled text ≡ true
      → (is_undecided (answer site c e) ≡ true → is_to_stream e (stage site c e) ≡ true) → begins_no_sooner site c (wrote c e text) ≡ true
  said_first continued none some due =
      let extends = texts_extend site c e text in
      let now : as_begun site c (wrote c e text) ≡ wrote c e text =
      begun_front site c (wrote c e text) (wrote c e text).items ((texts_extend site c e text).first continued none some).0 in
      let stage_then : stage site c (wrote c e text) ≡ stage site c e = (texts_extend site c e text).stage_then in
      said_is site c (wrote c e text) ∙ ap (said_at site c) now ∙ go (is_undecided (answer site c e)) refl
    where
      go : (b : Bool) → is_undecided (answer site c e) ≡ b → said_at site c (wrote c e text) ≡ true
      go true is =
          said_due site c (wrote c e text)
          (ap (is_to_stream (wrote c e text)) (texts_extend site c e text).stage_then ∙ stream_same (stage site c e) ∙ due is)
      go false is =
          said_decided site c (wrote c e text) (ap (λ s. is_undecided (answer_at s)) (texts_extend site c e text).stage_then ∙ is)

  said_later : (front : List Item) → BeginsAt site c e front → begins_no_sooner site c e ≡ true → begins_no_sooner site c (wrote c e text) ≡ true
  said_later front at is =
      said_is site c (wrote c e text)
      ∙ ap (said_at site c) (begun_front site c (wrote c e text) front ((texts_extend site c e text).later front at).0 ∙ same_front ∙ sym (begun_front site c e front at))
      ∙ sym (said_is site c e) ∙ is
    where
      same_at : (t : List ℕ) → up_to (wrote c e t) front ≡ up_to e front
      same_at [] = refl
      same_at (byte ∷ bytes) = refl

      same_front : up_to (wrote c e text) front ≡ up_to e front
      same_front = same_at text

not_filled : (site : Site) (c : ℕ) (e : Exchange) (text : List ℕ) → is_filled text ≡ false → begins_no_sooner site c e ≡ true
    → begins_no_sooner site c (wrote c e text) ≡ true
not_filled site c e [] none is = is
not_filled site c e (byte ∷ bytes) none is = absurd (false≢true (sym none))

pub texts_come_no_sooner : TextsComeNoSooner
texts_come_no_sooner site c e text continued is begun_at due = go (has_final site c e) refl (is_filled text) refl
  where
    go : (b : Bool) → has_final site c e ≡ b → (some : Bool) → is_filled text ≡ some → begins_no_sooner site c (wrote c e text) ≡ true
    go true final_then some filled = let at = begun_at final_then in said_later site c e text at.0 at.1 is
    go false none true filled = said_first site c e text continued none filled (due none filled)
    go false none false filled = not_filled site c e text filled is
