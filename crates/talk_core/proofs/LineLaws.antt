-- The reader of lines that a talk keeps.
use Rattle.std.proofs.Common.{◌≡◌, ℕ, Bool, true, false, List, [], ◌++◌, length, sym, ◌∙◌, ap, subst, arith}
use Rattle.std.proofs.lemmas.Bool.{le-ltb}
use Rattle.std.proofs.lemmas.List.Elements.{All-nil}
use Rattle.head_lines.specs.Lines.{HasNoLf, is_lf}
use Rattle.line_messages.specs.declared.step.LineStep.{LineStep}
use Rattle.line_messages.specs.declared.step.LineStep.TheVariants.{Texts}
use Rattle.line_messages.specs.Lines.{has_long_line, lines_within, last_within, open_line}
use Rattle.line_messages.specs.Reading.{IsStep, StandsFor, texts_of}
use Rattle.line_messages.specs.State.{Reading}
use Rattle.line_messages.proofs.JoinLemmas.{HasNoLf-open_line, behind_alone, behind_within, long_alone, within_alone}
use Rattle.child_core.specs.View.{cleared}
use Rattle.talk_core.specs.Hearing.{rest_of}

pub nothing : HasNoLf []
nothing = All-nil (λ n. is_lf n ≡ false)

pub none_long : (limit : ℕ) → has_long_line limit [] ≡ false
none_long limit = long_alone limit [] nothing ∙ le-ltb limit (length {A = ℕ} []) (omega arith)

-- what a reader keeps, and that it goes on
abbrev pub Kept : Reading → ℕ → Type 0
Kept r limit = StandsFor r r.rest × (r.over ≡ false) × (r.ended ≡ false) × (r.limit ≡ limit)

module _ (r : Reading) (limit : ℕ) (stands : StandsFor r []) (ended : r.ended ≡ false) (is : r.limit ≡ limit) where
  pub fresh_over : r.over ≡ false
  fresh_over = stands.over ∙ none_long r.limit

  pub fresh_rest : r.rest ≡ []
  fresh_rest = stands.open_line fresh_over ∙ behind_alone [] nothing

  pub fresh_kept : Kept r limit
  fresh_kept = (subst (StandsFor r) (sym fresh_rest) stands, fresh_over, ended, is)

-- ---- what stands behind the last LF of an output without a long line

pub short_rest : (limit : ℕ) (output : List ℕ) → has_long_line limit output ≡ false → has_long_line limit (open_line output) ≡ false
short_rest limit output short =
    long_alone limit (open_line output) (HasNoLf-open_line output) ∙ le-ltb limit (length (open_line output)) (behind_within limit output short)

module _ (old : Reading) (limit : ℕ) (k : Kept old limit) where
  no_lf : HasNoLf old.rest
  no_lf = subst HasNoLf (sym (k.0.open_line k.1)) (HasNoLf-open_line old.rest)

  -- the messages of a step are the lines of what the reader kept and the piece
  pub step_texts : (piece : List ℕ) (step : LineStep) → IsStep old.limit old.rest piece step → texts_of step ≡ lines_within limit (old.rest ++ piece)
  step_texts piece step is =
      subst (λ n. texts_of step ≡ lines_within n (old.rest ++ piece)) k.3
      (sym (is.joined ∙ ap (λ ts. ts ++ texts_of step) (within_alone old.limit old.rest no_lf)))

  pub step_long : (piece : List ℕ) (step : LineStep) (long : Bool) → IsStep old.limit old.rest piece step → long ≡ has_long_line old.limit (old.rest ++ piece)
      → has_long_line limit (old.rest ++ piece) ≡ long
  step_long piece step long is e = ap (λ n. has_long_line n (old.rest ++ piece)) (sym k.3) ∙ sym e

  pub rest_short : (piece : List ℕ) → has_long_line limit (old.rest ++ piece) ≡ false → (rest : List ℕ) → rest ≡ open_line (old.rest ++ piece)
      → rest ≡ rest_of limit (old.rest ++ piece)
  rest_short piece short rest is = is ∙ ap (λ b. cleared b (open_line (old.rest ++ piece))) (sym short)

  pub rest_long : (piece : List ℕ) → has_long_line limit (old.rest ++ piece) ≡ true → (rest : List ℕ) → rest ≡ []
      → rest ≡ rest_of limit (old.rest ++ piece)
  rest_long piece long rest is = is ∙ ap (λ b. cleared b (open_line (old.rest ++ piece))) (sym long)

  module _ (piece : List ℕ) (texts : List (List ℕ)) (new : Reading) (is : IsStep old.limit old.rest piece (Texts texts)) (stands : StandsFor new (old.rest ++ piece))
      (same : new.limit ≡ old.limit) (going : new.ended ≡ false) where
    goes_on : new.over ≡ false
    goes_on = stands.over ∙ (ap (λ n. has_long_line n (old.rest ++ piece)) same ∙ sym is.too_long)

    pub fed_rest : new.rest ≡ open_line (old.rest ++ piece)
    fed_rest = stands.open_line goes_on

    pub fed_kept : Kept new limit
    fed_kept =
        let short : has_long_line new.limit (old.rest ++ piece) ≡ false = sym stands.over ∙ goes_on in
        let own : has_long_line new.limit new.rest ≡ false = ap (has_long_line new.limit) fed_rest ∙ short_rest new.limit (old.rest ++ piece) short in
        let free : HasNoLf new.rest = subst HasNoLf (sym fed_rest) (HasNoLf-open_line (old.rest ++ piece)) in
        (record { over = goes_on ∙ sym own; open_line = λ still. sym (behind_alone new.rest free) }, goes_on, going, same ∙ k.3)

  pub end_texts : (texts : List (List ℕ)) → texts ≡ last_within old.limit old.rest → texts ≡ last_within limit old.rest
  end_texts texts is = is ∙ ap (λ n. last_within n old.rest) k.3
