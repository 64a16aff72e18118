-- A request without a body is whole once it may be served.
use Rattle.std.proofs.Common.{◌≡◌, ℕ, ◌+◌, Bool, true, false, List, Some, None, Result, Ok, Err, refl, sym, ap, subst, ◌∙◌, drop, zero-le}
use Rattle.std.specs.Prelude.{if◌then◌else◌, length, take}
use Rattle.std.proofs.lemmas.Bool.{false≢true, le-leb, eqb-true}
use Rattle.host_base.specs.declared.cause.Cause.{Cause}
use Rattle.host_base.specs.declared.limits.Limits.{Limits}
use Rattle.host_base.specs.declared.request.Framing.{Framing}
use Rattle.host_base.specs.declared.request.Framing.TheVariants.{Empty, Length, Chunked}
use Rattle.host_base.specs.declared.request.Request.{Request}
use Rattle.head_reader.specs.RequestHead.{read_head}
use Rattle.head_reader.specs.declared.step.HeadStep.{HeadStep}
use Rattle.head_reader.specs.declared.step.HeadStep.TheVariants as Step
use Rattle.body_framing.specs.Chunked.{BodyReading, ended, unended, refused}
use Rattle.request_reader.specs.declared.asked.Asked.{Asked}
use Rattle.request_reader.specs.Request.{Reading, Whole, after_asked, after_head, asked_by, is_head_method, is_length, read_body, read_counted, read_request, with_body, with_read}
use Rattle.trace_model.specs.Readings.{startable}
use Rattle.ws_handshake.specs.Handshake.{is_bodyless}

pub record IsRead (r : Reading) (request : Request) : Type 0 where
  pub used : ℕ
  pub due : Bool
  pub is : r ≡ Whole request used due

some_is : (a b : Request) → Some a ≡ Some b → a ≡ b
some_is a b is = cc

-- a body of no bytes has ended
nothing_counts : (bytes : List ℕ) → read_counted 0 bytes ≡ ended (take 0 bytes) 0
nothing_counts bytes = ap (λ b. if b then ended (take 0 bytes) 0 else unended bytes) (le-leb 0 (length bytes) zero-le)

no_body : (limit : ℕ) (framing : Framing) (bytes : List ℕ) → is_bodyless framing ≡ true → (rest : List ℕ) → read_body limit framing bytes ≡ unended rest → ⊥
no_body limit Empty bytes none rest is = differ (sym (nothing_counts bytes) ∙ is)
  where
    differ : ended (take 0 bytes) 0 ≡ unended rest → ⊥
    differ e = absurd (cc)
no_body limit (Length n) bytes none rest is = differ (sym (ap (λ m. read_counted m bytes) (eqb-true n 0 none) ∙ nothing_counts bytes) ∙ is)
  where
    differ : ended (take 0 bytes) 0 ≡ unended rest → ⊥
    differ e = absurd (cc)
no_body limit Chunked bytes none rest is = absurd (false≢true none)

module _ (used : ℕ) (bare : Bool) (limit : ℕ) (rest : List ℕ) (request : Request) (none : is_bodyless request.framing ≡ true) where
  by_body : (asked : Asked) (b : BodyReading) → read_body limit asked.request.framing rest ≡ b → startable (with_read used bare asked b) ≡ Some request
      → IsRead (with_read used bare asked b) request
  by_body asked (ended body count) at is = record {
    used = used + count;
    due = asked.due;
    is = ap (λ q. Whole q (used + count) asked.due) (some_is (with_body asked.request body) request is);
  }
  by_body asked (unended body) at is = go (is_length asked.request.framing) refl is
    where
      go : (b : Bool) → is_length asked.request.framing ≡ b → (if b then Some (with_body asked.request body) else None) ≡ Some request → IsRead (with_read used bare asked (unended body)) request
      go true long same =
          let framed : asked.request.framing ≡ request.framing = ap (λ (q : Request). q.framing) (some_is (with_body asked.request body) request same) in
          absurd (no_body limit asked.request.framing rest (ap is_bodyless framed ∙ none) body at)
      go false short same = absurd (cc)
  by_body asked (refused cause) at is = absurd (cc)

  by_asked : (r : Result Asked Cause) → (bytes : List ℕ) → bytes ≡ rest → startable (after_asked limit used bare bytes r) ≡ Some request → IsRead (after_asked limit used bare bytes r) request
  by_asked (Ok asked) bytes same is =
      subst (λ l. startable (with_read used bare asked (read_body limit asked.request.framing l)) ≡ Some request → IsRead (with_read used bare asked (read_body limit asked.request.framing l)) request)
      (sym same) (λ at. by_body asked (read_body limit asked.request.framing rest) refl at) is
  by_asked (Err cause) bytes same is = absurd (cc)

pub bodyless_read : (limits : Limits) (bytes : List ℕ) (request : Request) → is_bodyless request.framing ≡ true → startable (read_request limits bytes) ≡ Some request → IsRead (read_request limits bytes) request
unfolding read_request
bodyless_read limits bytes request none = by_head (read_head limits bytes)
  where
    by_head : (s : HeadStep) → startable (after_head limits bytes s) ≡ Some request → IsRead (after_head limits bytes s) request
    by_head (Step.Whole head used) is = by_asked used (is_head_method head) limits.body (drop used bytes) request none (asked_by limits head) (drop used bytes) refl is
    by_head Step.More is = absurd (cc)
    by_head (Step.Bad cause) is = absurd (cc)
