-- What a reading stands for, from piece to piece.
use Rattle.std.proofs.Common.{◌≡◌, ◌≤◌, ℕ, Bool, true, false, ◌||◌, List, [], ◌∷◌, ◌++◌, refl, sym, ap, ◌∙◌, subst, append-nil, append_assoc, arith, length, true≢false}
use Rattle.std.proofs.lemmas.List.Elements.{All-append, All-nil}
use Rattle.std.proofs.lemmas.Bool.{le-ltb}
use Rattle.head_lines.specs.Lines.{HasNoLf, is_lf}
use Rattle.std.specs.Prelude.{IfOk, OnOk, Result, Ok, Err}
use Rattle.line_messages.specs.declared.step.LineStep.{LineStep}
use Rattle.line_messages.specs.declared.step.LineStep.TheVariants.{Texts, TooLong}
use Rattle.line_messages.specs.Lines.{has_long_line, is_long, lines_within, message_of, open_line}
use Rattle.line_messages.specs.Reading.{IsStep, ReadsOn, StandsFor, Takes}
use Rattle.line_messages.specs.State.{Reading}
use Rattle.line_messages.proofs.JoinLemmas.{HasNoLf-open_line, behind_alone, behind_first, behind_within, joins, long_alone, long_first, long_joined, long_past, within_alone, within_first, within_joined, within_long, within_past}

-- a piece that was taken where no line was too long
pub step_taken : (old new : Reading) (piece : List ℕ) (step : LineStep) → old.over ≡ false → Takes old piece step new
    → (output : List ℕ) → StandsFor old output → IsStep old.limit output piece step
step_taken old new piece step going t output s =
    let none : has_long_line old.limit output ≡ false = sym s.over ∙ going in
    let same : open_line output ++ piece ≡ old.rest ++ piece = ap (λ (l : List ℕ). l ++ piece) (sym (s.open_line going)) in
    record {
      joined =
          within_joined old.limit output piece none
          ∙ ap (λ (l : List ℕ). lines_within old.limit output ++ lines_within old.limit l) same
          ∙ ap (λ (ls : List (List ℕ)). lines_within old.limit output ++ ls) t.texts;
      too_long = t.too_long ∙ sym (long_joined old.limit output piece none ∙ ap (has_long_line old.limit) same);
    }

pub stands_taken : (old new : Reading) (piece : List ℕ) (step : LineStep) → old.over ≡ false → Takes old piece step new
    → (output : List ℕ) → StandsFor old output → StandsFor new (output ++ piece)
stands_taken old new piece step going t output s =
    let none : has_long_line old.limit output ≡ false = sym s.over ∙ going in
    let same : open_line output ++ piece ≡ old.rest ++ piece = ap (λ (l : List ℕ). l ++ piece) (sym (s.open_line going)) in
    record {
      over =
          t.over ∙ sym (long_joined old.limit output piece none ∙ ap (has_long_line old.limit) same)
          ∙ ap (λ (n : ℕ). has_long_line n (output ++ piece)) (sym t.limit);
      open_line = λ still. t.open_line still ∙ sym ((joins output piece).behind ∙ ap open_line same);
    }

-- and where one was
pub step_past : (old : Reading) (piece : List ℕ) (texts : List (List ℕ)) → old.over ≡ true → texts ≡ []
    → (output : List ℕ) → StandsFor old output → IsStep old.limit output piece (TooLong texts)
step_past old piece texts over none output s =
    let long : has_long_line old.limit output ≡ true = sym s.over ∙ over in
    record {
      joined =
          within_past old.limit output piece long ∙ sym (append-nil (lines_within old.limit output))
          ∙ ap (λ (ts : List (List ℕ)). lines_within old.limit output ++ ts) (sym none);
      too_long = sym (long_past old.limit output piece long);
    }

pub stands_past : (old : Reading) (piece : List ℕ) → old.over ≡ true → (output : List ℕ) → StandsFor old output → StandsFor old (output ++ piece)
stands_past old piece over output s =
    let long : has_long_line old.limit output ≡ true = sym s.over ∙ over in
    record {
      over = over ∙ sym (long_past old.limit output piece long);
      open_line = λ still. absurd (true≢false (sym over ∙ still));
    }

-- ---- a line at a time

-- nothing was read yet
pub reads_first : (limit : ℕ) (bytes : List ℕ) (texts : List (List ℕ)) → ReadsOn limit bytes texts texts bytes
reads_first limit bytes texts = record { texts = refl; long = refl; behind = refl }

-- a line that is short enough
pub reads_line : (limit : ℕ) (bytes : List ℕ) (before now next : List (List ℕ)) (rest line more : List ℕ) → ReadsOn limit bytes before now rest
    → rest ≡ line ++ 10 ∷ more → HasNoLf line → is_long limit line ≡ false → next ≡ now ++ message_of line ∷ [] → ReadsOn limit bytes before next more
reads_line limit bytes before now next rest line more r is no_lf short pushed = record {
  texts =
      ap (λ (ts : List (List ℕ)). ts ++ lines_within limit more) pushed
      ∙ append_assoc now (message_of line ∷ []) (lines_within limit more)
      ∙ ap (λ (ts : List (List ℕ)). now ++ ts) (sym (ap (lines_within limit) is ∙ within_first limit line more no_lf short))
      ∙ r.texts;
  long =
      sym (ap (has_long_line limit) is ∙ long_first limit line more no_lf ∙ ap (λ (b : Bool). b || has_long_line limit more) short)
      ∙ r.long;
  behind = sym (ap open_line is ∙ behind_first line more no_lf) ∙ r.behind;
}

-- nothing more is given from here on
stopped : (limit : ℕ) (bytes : List ℕ) (before now : List (List ℕ)) (rest : List ℕ) → ReadsOn limit bytes before now rest
    → lines_within limit rest ≡ [] → now ≡ before ++ lines_within limit bytes
stopped limit bytes before now rest r none = sym (append-nil now) ∙ ap (λ (ts : List (List ℕ)). now ++ ts) (sym none) ∙ r.texts

-- a line that is too long
pub texts_long : (limit : ℕ) (bytes : List ℕ) (before now : List (List ℕ)) (rest line more : List ℕ) → ReadsOn limit bytes before now rest
    → rest ≡ line ++ 10 ∷ more → HasNoLf line → is_long limit line ≡ true → now ≡ before ++ lines_within limit bytes
texts_long limit bytes before now rest line more r is no_lf long =
    stopped limit bytes before now rest r (ap (lines_within limit) is ∙ within_long limit line more no_lf long)

pub long_line : (limit : ℕ) (bytes : List ℕ) (before now : List (List ℕ)) (rest line more : List ℕ) → ReadsOn limit bytes before now rest
    → rest ≡ line ++ 10 ∷ more → HasNoLf line → is_long limit line ≡ true → has_long_line limit bytes ≡ true
long_line limit bytes before now rest line more r is no_lf long =
    sym r.long ∙ ap (has_long_line limit) is ∙ long_first limit line more no_lf ∙ ap (λ (b : Bool). b || has_long_line limit more) long

-- no LF is left
pub texts_end : (limit : ℕ) (bytes : List ℕ) (before now : List (List ℕ)) (rest : List ℕ) → ReadsOn limit bytes before now rest
    → HasNoLf rest → now ≡ before ++ lines_within limit bytes
texts_end limit bytes before now rest r no_lf = stopped limit bytes before now rest r (within_alone limit rest no_lf)

pub long_end : (limit : ℕ) (bytes : List ℕ) (before now : List (List ℕ)) (rest : List ℕ) (is : Bool) → ReadsOn limit bytes before now rest
    → HasNoLf rest → is_long limit rest ≡ is → has_long_line limit bytes ≡ is
long_end limit bytes before now rest is r no_lf long = sym r.long ∙ long_alone limit rest no_lf ∙ long

pub behind_end : (limit : ℕ) (bytes : List ℕ) (before now : List (List ℕ)) (rest : List ℕ) → ReadsOn limit bytes before now rest
    → HasNoLf rest → rest ≡ open_line bytes
behind_end limit bytes before now rest r no_lf = sym (behind_alone rest no_lf) ∙ r.behind

-- ---- a piece

joined_no_lf : (a b : List ℕ) → HasNoLf a → HasNoLf b → HasNoLf (a ++ b)
joined_no_lf = All-append (λ n. is_lf n ≡ false)

-- Each of these is said of the reading as its fields have it, and holds of the reading that is seen.

-- without an LF, and too long
open_long : (v : Reading) (piece : List ℕ) (texts : List (List ℕ)) → texts ≡ [] → HasNoLf v.rest → HasNoLf piece → is_long v.limit (v.rest ++ piece) ≡ true
    → Takes v piece (TooLong texts) (record { limit = v.limit; rest = v.rest; over = true; ended = v.ended })
open_long v piece texts none own no_lf long =
    let whole = joined_no_lf v.rest piece own no_lf in
    let is : has_long_line v.limit (v.rest ++ piece) ≡ true = long_alone v.limit (v.rest ++ piece) whole ∙ long in
    record {
      texts = within_alone v.limit (v.rest ++ piece) whole ∙ sym none;
      too_long = sym is;
      over = sym is;
      open_line = λ still. absurd (true≢false still);
      limit = refl;
      ended = refl;
    }

pub takes_open_long : (v old : Reading) → v ≡ old → (piece : List ℕ) (texts : List (List ℕ)) → texts ≡ [] → HasNoLf v.rest → HasNoLf piece
    → is_long old.limit (old.rest ++ piece) ≡ true → Takes old piece (TooLong texts) (record { limit = v.limit; rest = v.rest; over = true; ended = v.ended })
takes_open_long v old same piece texts none own no_lf =
    subst (λ (o : Reading). is_long o.limit (o.rest ++ piece) ≡ true
    → Takes o piece (TooLong texts) (record { limit = v.limit; rest = v.rest; over = true; ended = v.ended })) same
    (open_long v piece texts none own no_lf)

-- without an LF
open_short : (v : Reading) (piece rest : List ℕ) (texts : List (List ℕ)) → texts ≡ [] → HasNoLf v.rest → HasNoLf piece → rest ≡ v.rest ++ piece
    → v.over ≡ false → is_long v.limit (v.rest ++ piece) ≡ false
    → Takes v piece (Texts texts) (record { limit = v.limit; rest = rest; over = v.over; ended = v.ended })
open_short v piece rest texts nothing own no_lf is going short =
    let whole = joined_no_lf v.rest piece own no_lf in
    let none : has_long_line v.limit (v.rest ++ piece) ≡ false = long_alone v.limit (v.rest ++ piece) whole ∙ short in
    record {
      texts = within_alone v.limit (v.rest ++ piece) whole ∙ sym nothing;
      too_long = sym none;
      over = going ∙ sym none;
      open_line = λ still. is ∙ sym (behind_alone (v.rest ++ piece) whole);
      limit = refl;
      ended = refl;
    }

pub takes_open : (v old : Reading) → v ≡ old → (piece rest : List ℕ) (texts : List (List ℕ)) → texts ≡ [] → HasNoLf v.rest → HasNoLf piece
    → rest ≡ v.rest ++ piece → old.over ≡ false → is_long old.limit (old.rest ++ piece) ≡ false
    → Takes old piece (Texts texts) (record { limit = v.limit; rest = rest; over = v.over; ended = v.ended })
takes_open v old same piece rest texts nothing own no_lf is =
    subst (λ (o : Reading). o.over ≡ false → is_long o.limit (o.rest ++ piece) ≡ false
    → Takes o piece (Texts texts) (record { limit = v.limit; rest = rest; over = v.over; ended = v.ended })) same
    (open_short v piece rest texts nothing own no_lf is)

-- the open line and what ends it
regrouped : (rest line more : List ℕ) → rest ++ (line ++ 10 ∷ more) ≡ (rest ++ line) ++ 10 ∷ more
regrouped rest line more = sym (append_assoc rest line (10 ∷ more))

-- with an LF behind a line that is too long
first_is_long : (v : Reading) (line more : List ℕ) (texts : List (List ℕ)) → texts ≡ [] → HasNoLf v.rest → HasNoLf line → is_long v.limit (v.rest ++ line) ≡ true
    → Takes v (line ++ 10 ∷ more) (TooLong texts) (record { limit = v.limit; rest = v.rest; over = true; ended = v.ended })
first_is_long v line more texts none own no_lf long =
    let whole = joined_no_lf v.rest line own no_lf in
    let group = regrouped v.rest line more in
    let is : has_long_line v.limit (v.rest ++ (line ++ 10 ∷ more)) ≡ true =
    ap (has_long_line v.limit) group ∙ long_first v.limit (v.rest ++ line) more whole ∙ ap (λ (b : Bool). b || has_long_line v.limit more) long in
    record {
      texts = ap (lines_within v.limit) group ∙ within_long v.limit (v.rest ++ line) more whole long ∙ sym none;
      too_long = sym is;
      over = sym is;
      open_line = λ still. absurd (true≢false still);
      limit = refl;
      ended = refl;
    }

pub takes_first_long : (v old : Reading) → v ≡ old → (line more : List ℕ) (texts : List (List ℕ)) → texts ≡ [] → HasNoLf v.rest → HasNoLf line
    → is_long old.limit (old.rest ++ line) ≡ true
    → Takes old (line ++ 10 ∷ more) (TooLong texts) (record { limit = v.limit; rest = v.rest; over = true; ended = v.ended })
takes_first_long v old same line more texts none own no_lf =
    subst (λ (o : Reading). is_long o.limit (o.rest ++ line) ≡ true
    → Takes o (line ++ 10 ∷ more) (TooLong texts) (record { limit = v.limit; rest = v.rest; over = true; ended = v.ended })) same
    (first_is_long v line more texts none own no_lf)

-- the lines of what the open line ends and what follows
first_texts : (v : Reading) (line more : List ℕ) (texts : List (List ℕ)) → HasNoLf v.rest → HasNoLf line → is_long v.limit (v.rest ++ line) ≡ false
    → texts ≡ message_of (v.rest ++ line) ∷ lines_within v.limit more → lines_within v.limit (v.rest ++ (line ++ 10 ∷ more)) ≡ texts
first_texts v line more texts own no_lf short is =
    ap (lines_within v.limit) (regrouped v.rest line more)
    ∙ within_first v.limit (v.rest ++ line) more (joined_no_lf v.rest line own no_lf) short ∙ sym is

first_long : (v : Reading) (line more : List ℕ) → HasNoLf v.rest → HasNoLf line → is_long v.limit (v.rest ++ line) ≡ false
    → has_long_line v.limit (v.rest ++ (line ++ 10 ∷ more)) ≡ has_long_line v.limit more
first_long v line more own no_lf short =
    ap (has_long_line v.limit) (regrouped v.rest line more)
    ∙ long_first v.limit (v.rest ++ line) more (joined_no_lf v.rest line own no_lf) ∙ ap (λ (b : Bool). b || has_long_line v.limit more) short

-- and then a line that is too long
later_is_long : (v : Reading) (line more : List ℕ) (texts : List (List ℕ)) → HasNoLf v.rest → HasNoLf line → has_long_line v.limit more ≡ true
    → is_long v.limit (v.rest ++ line) ≡ false → texts ≡ message_of (v.rest ++ line) ∷ lines_within v.limit more
    → Takes v (line ++ 10 ∷ more) (TooLong texts) (record { limit = v.limit; rest = v.rest; over = true; ended = v.ended })
later_is_long v line more texts own no_lf long short is =
    let all = first_long v line more own no_lf short ∙ long in
    record {
      texts = first_texts v line more texts own no_lf short is;
      too_long = sym all;
      over = sym all;
      open_line = λ still. absurd (true≢false still);
      limit = refl;
      ended = refl;
    }

pub takes_lines_long : (v old : Reading) → v ≡ old → (line more : List ℕ) (texts : List (List ℕ)) → HasNoLf v.rest → HasNoLf line → has_long_line v.limit more ≡ true
    → is_long old.limit (old.rest ++ line) ≡ false → texts ≡ message_of (old.rest ++ line) ∷ lines_within v.limit more
    → Takes old (line ++ 10 ∷ more) (TooLong texts) (record { limit = v.limit; rest = v.rest; over = true; ended = v.ended })
takes_lines_long v old same line more texts own no_lf long =
    subst (λ (o : Reading). is_long o.limit (o.rest ++ line) ≡ false → texts ≡ message_of (o.rest ++ line) ∷ lines_within v.limit more
    → Takes o (line ++ 10 ∷ more) (TooLong texts) (record { limit = v.limit; rest = v.rest; over = true; ended = v.ended })) same
    (later_is_long v line more texts own no_lf long)

-- and no line that is too long
none_is_long : (v : Reading) (line more rest : List ℕ) (texts : List (List ℕ)) → HasNoLf v.rest → HasNoLf line → has_long_line v.limit more ≡ false
    → rest ≡ open_line more → v.over ≡ false → is_long v.limit (v.rest ++ line) ≡ false → texts ≡ message_of (v.rest ++ line) ∷ lines_within v.limit more
    → Takes v (line ++ 10 ∷ more) (Texts texts) (record { limit = v.limit; rest = rest; over = v.over; ended = v.ended })
none_is_long v line more rest texts own no_lf none behind going short is =
    let all = first_long v line more own no_lf short ∙ none in
    record {
      texts = first_texts v line more texts own no_lf short is;
      too_long = sym all;
      over = going ∙ sym all;
      open_line =
          λ still. behind ∙ sym (ap open_line (regrouped v.rest line more) ∙ behind_first (v.rest ++ line) more (joined_no_lf v.rest line own no_lf));
      limit = refl;
      ended = refl;
    }

pub takes_lines : (v old : Reading) → v ≡ old → (line more rest : List ℕ) (texts : List (List ℕ)) → HasNoLf v.rest → HasNoLf line
    → has_long_line v.limit more ≡ false → rest ≡ open_line more → old.over ≡ false → is_long old.limit (old.rest ++ line) ≡ false
    → texts ≡ message_of (old.rest ++ line) ∷ lines_within v.limit more
    → Takes old (line ++ 10 ∷ more) (Texts texts) (record { limit = v.limit; rest = rest; over = v.over; ended = v.ended })
takes_lines v old same line more rest texts own no_lf none behind =
    subst (λ (o : Reading). o.over ≡ false → is_long o.limit (o.rest ++ line) ≡ false → texts ≡ message_of (o.rest ++ line) ∷ lines_within v.limit more
    → Takes o (line ++ 10 ∷ more) (Texts texts) (record { limit = v.limit; rest = rest; over = v.over; ended = v.ended })) same
    (none_is_long v line more rest texts own no_lf none behind)

-- the texts that were pushed one after another
pub all_pushed : (nothing first all later : List (List ℕ)) (text own : List ℕ) → nothing ≡ [] → first ≡ nothing ++ text ∷ [] → text ≡ own → all ≡ first ++ later
    → all ≡ own ∷ later
all_pushed nothing first all later text own none push is rest =
    rest ∙ ap (λ (ts : List (List ℕ)). ts ++ later) (push ∙ ap (λ (ts : List (List ℕ)). ts ++ text ∷ []) none ∙ ap (λ (t : List ℕ). t ∷ []) is)

-- what stands behind the last LF keeps to the limit
pub kept : (limit : ℕ) (more rest : List ℕ) → has_long_line limit more ≡ false → rest ≡ open_line more → HasNoLf rest × (length rest ≤ limit)
kept limit more rest none is =
    (subst HasNoLf (sym is) (HasNoLf-open_line more), subst (λ (t : List ℕ). length t ≤ limit) (sym is) (behind_within limit more none))

-- a new reader stands for no output
pub stands_first : (reading : Reading) → reading.over ≡ false → reading.rest ≡ [] → StandsFor reading []
stands_first reading going none =
    let nothing : HasNoLf [] = All-nil (λ n. is_lf n ≡ false) in
    record { over = going ∙ sym (long_alone reading.limit [] nothing ∙ le-ltb reading.limit (length {A = ℕ} []) (omega arith)); open_line = λ still. none ∙ sym (behind_alone [] nothing) }

pub pushed : (texts : List (List ℕ)) (text own : List ℕ) → text ≡ own → texts ++ text ∷ [] ≡ texts ++ own ∷ []
pushed texts text own is = ap (λ (t : List ℕ). texts ++ t ∷ []) is

-- ---- what holds of an answer

pub if_ok : {A E : Type 0} (r : Result A E) (P Q : A → Type 0) → ((x : A) → P x → Q x) → IfOk r P → IfOk r Q
if_ok (Ok x) P Q f h = f x h
if_ok (Err e) P Q f h = tt

pub on_ok : {A E : Type 0} (r : Result A E) (P : A → Type 0) (Q : Type 0) → ((x : A) → P x → Q) → IfOk r P → OnOk r Q
on_ok (Ok x) P Q f h = f x h
on_ok (Err e) P Q f h = tt
