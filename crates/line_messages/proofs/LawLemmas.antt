-- The laws of lines.
use Rattle.std.proofs.Common.{◌≡◌, ℕ, ◌<◌, Bool, true, false, ◌||◌, cond, List, [], ◌∷◌, ◌++◌, length, map, flat_map, refl, sym, ap, ◌∙◌, subst, arith, inl, inr, append_assoc, append-nil, length-append, eqb}
use Rattle.std.specs.List.{All, list_any}
use Rattle.std.proofs.lemmas.List.{map-append}
use Rattle.std.proofs.lemmas.List.Elements.{All-head, All-tail, All-nil, All-append, All-weaker}
use Rattle.std.proofs.lemmas.Bool.{cases_Bool, ltb-true, lt-ltb, ne_eqb}
use Rattle.std.proofs.Math.Bool.{or-true}
use Rattle.bstr.proofs.lemmas.EncodeLemmas.{lossy_chars-utf8}
use Rattle.head_lines.specs.Lines.{HasNoLf, is_lf, with_lf, without_cr}
use Rattle.line_messages.specs.Lines.{as_text, ended_lines, has_long_line, input, is_long, last, lines, lines_within, message_of, open_line}
use Rattle.line_messages.specs.LineLaws.{HasLongRun, InputsReadBack, IsSayable, LimitsCut, LinesAreRead, LinesJoin, LinesStay, LongLinesAreRuns, TextsAreThemselves}
use Rattle.line_messages.proofs.PartLemmas.{ended_lines-lines, line_before, lines_of, open_line-lines}
use Rattle.line_messages.proofs.JoinLemmas.{HasNoLf-open_line, has_long_line-is, joins, past, within_joined, within_lines, within_past}

-- the message of a last line
last_of : List ℕ → List (List ℕ)
last_of line = cond (eqb (length line) 0) [] (message_of line ∷ [])

last-lines : (parts : List (List ℕ)) (rest : List ℕ) → All HasNoLf parts → HasNoLf rest → last (flat_map with_lf parts ++ rest) ≡ last_of rest
unfolding last_of
last-lines parts rest each no_lf = ap last_of (open_line-lines parts rest each no_lf)

last_nothing : (parts : List (List ℕ)) → All HasNoLf parts → last (flat_map with_lf parts) ≡ []
unfolding last_of
last_nothing parts each = ap last (sym (append-nil (flat_map with_lf parts))) ∙ last-lines parts [] each (All-nil (λ n. is_lf n ≡ false))

last_something : (parts : List (List ℕ)) (rest : List ℕ) → All HasNoLf parts → HasNoLf rest → 0 < length rest
    → last (flat_map with_lf parts ++ rest) ≡ message_of rest ∷ []
unfolding last_of
last_something parts rest each no_lf some =
    last-lines parts rest each no_lf
    ∙ ap (λ (b : Bool). cond b [] (message_of rest ∷ [])) (ne_eqb (length rest) 0 (λ none. absurd (omega arith)))

pub lines_are_read : LinesAreRead
lines_are_read = record { ended = ended_lines-lines; behind = open_line-lines; last_empty = last_nothing; last_filled = last_something }

pub lines_join : LinesJoin
lines_join output more = record {
  lines_are = ap (map message_of) (joins output more).ended ∙ map-append message_of (ended_lines output) (ended_lines (open_line output ++ more));
  behind = (joins output more).behind;
}

pub lines_stay : LinesStay
lines_stay limit output more =
    elim (cases_Bool (has_long_line limit output)) [
      | inl long ↦ ([], within_past limit output more long ∙ sym (append-nil (lines_within limit output)))
      | inr none ↦ (lines_within limit (open_line output ++ more), within_joined limit output more none)
    ]

pub limits_cut : LimitsCut
limits_cut = record { within = within_lines; past = within_past }

-- a long line is a long run
run_in : (limit : ℕ) (parts : List (List ℕ)) (rest : List ℕ) → All HasNoLf parts → HasNoLf rest
    → (list_any (is_long limit) parts || is_long limit rest) ≡ true → HasLongRun limit (flat_map with_lf parts ++ rest)
run_in limit [] rest each no_lf long = record {
  before = [];
  run = rest;
  after = [];
  output_is = sym (append-nil rest);
  no_lf = no_lf;
  long = ltb-true limit (length rest) long;
}
run_in limit (p ∷ ps) rest each no_lf long =
    let own = All-head HasNoLf p ps each in
    elim (cases_Bool (is_long limit p)) [
      | inl here ↦ record {
        before = [];
        run = p;
        after = 10 ∷ (flat_map with_lf ps ++ rest);
        output_is = line_before p rest ps;
        no_lf = own;
        long = ltb-true limit (length p) here;
      }
      | inr other ↦
          let later : HasLongRun limit (flat_map with_lf ps ++ rest) =
          run_in limit ps rest (All-tail HasNoLf p ps each) no_lf
          (sym (ap (λ (b : Bool). (b || list_any (is_long limit) ps) || is_long limit rest) other) ∙ long) in
          record {
            before = p ++ 10 ∷ later.before;
            run = later.run;
            after = later.after;
            output_is =
                line_before p rest ps ∙ ap (λ (t : List ℕ). p ++ 10 ∷ t) later.output_is
                ∙ sym (append_assoc p (10 ∷ later.before) (later.run ++ later.after));
            no_lf = later.no_lf;
            long = later.long;
          }
    ]

run_is_long : (limit : ℕ) (output : List ℕ) → HasLongRun limit output → has_long_line limit output ≡ true
run_is_long limit output r =
    let before = open_line r.before in
    let front = before ++ r.run in
    let no_lf = All-append (λ n. is_lf n ≡ false) before r.run (HasNoLf-open_line r.before) r.no_lf in
    let long : is_long limit front ≡ true = lt-ltb limit (length front) (omega (arith, r.long, length-append before r.run)) in
    ap (has_long_line limit) r.output_is
    ∙ (joins r.before (r.run ++ r.after)).long limit
    ∙ ap (λ (t : List ℕ). list_any (is_long limit) (ended_lines r.before) || has_long_line limit t) (sym (append_assoc before r.run r.after))
    ∙ ap (λ (b : Bool). list_any (is_long limit) (ended_lines r.before) || b) (past limit front r.after no_lf long).long
    ∙ or-true (list_any (is_long limit) (ended_lines r.before))

pub long_lines_are_runs : LongLinesAreRuns
long_lines_are_runs limit output =
    let h = lines_of output in (
      λ long. subst (HasLongRun limit) (sym h.output_is) (run_in limit h.ended h.behind h.each h.no_lf (sym (has_long_line-is limit output h) ∙ long)),
      run_is_long limit output,
    )

pub texts_are_themselves : TextsAreThemselves
texts_are_themselves line utf8 = lossy_chars-utf8 (without_cr line) utf8

said : (text : List ℕ) → IsSayable text → message_of text ≡ text
said text s = ap as_text s.no_cr ∙ lossy_chars-utf8 text s.utf8

all_said : (texts : List (List ℕ)) → All IsSayable texts → map message_of texts ≡ texts
all_said [] each = refl
all_said (t ∷ ts) each =
    ap (λ (m : List ℕ). m ∷ map message_of ts) (said t (All-head IsSayable t ts each))
    ∙ ap (λ (ms : List (List ℕ)). t ∷ ms) (all_said ts (All-tail IsSayable t ts each))

pub inputs_read_back : InputsReadBack
inputs_read_back texts each =
    let no_lf = All-weaker IsSayable HasNoLf (λ t s. s.no_lf) texts each in
    let whole : input texts ≡ flat_map with_lf texts ++ [] = sym (append-nil (input texts)) in
    let none = All-nil (λ n. is_lf n ≡ false) in
    record {
      lines_are = ap lines whole ∙ ap (map message_of) (ended_lines-lines texts [] no_lf none) ∙ all_said texts each;
      nothing_left = ap last whole ∙ ap (λ (t : List ℕ). cond (eqb (length t) 0) [] (message_of t ∷ [])) (open_line-lines texts [] no_lf none);
    }
