-- No line ends within a line.
use Rattle.std.proofs.Common.{◌≡◌, ℕ, ◌/◌, ◌%◌, ◌<◌, ◌≤◌, Bool, true, false, List, [], ◌∷◌, ◌++◌, take, drop, refl, arith, codes, decimal, All, Option, Some, None}
use Rattle.std.specs.Prelude.{IsTrue, not, ◌==◌, nat_lt, if◌then◌else◌}
use Rattle.std.specs.List.{flat_map, list_all}
use Rattle.std.specs.Char.{is_ascii_digit}
use Rattle.std.specs.Fmt.{digit_glyph}
use Rattle.std.proofs.lemmas.Bool.{ltb-true}
use Rattle.std.proofs.lemmas.Bool.Decides.{nat_tests}
use Rattle.std.proofs.lemmas.List.Elements.{All-append, All-cons, All-nil, All-drop, All-take, All-weaker}
use Rattle.std.proofs.lemmas.List.Sums.{AllPass-from_list_all}
use Rattle.host_base.specs.declared.cause.Cause.{Cause}
use Rattle.host_base.specs.CauseText.{text_of}
use Rattle.head_lines.specs.Lines.{HasNoLf, is_lf}
use Rattle.httparse.specs.Grammar.{is_value_byte}
use Rattle.shown_text.specs.Shown.{escaped}
use Rattle.reply_writer.specs.Dates.{date_text_of}
use Rattle.reply_writer.proofs.DatePlainLaws.{dates_are_plain}
use Rattle.reply_writer.proofs.NumberLaws.{decimal_digits}
use Rattle.log_line.specs.declared.entry.Entry.{Entry}
use Rattle.log_line.specs.declared.entry.Remark.{Remark}
use Rattle.log_line.specs.declared.entry.Remark.TheVariants.{Whole, Own, Bare, Cut, Gone, Stopped, NoMemory}
use Rattle.log_line.specs.Line.{LinesAreSingle, clock_text, closing, dropped_text, is_plain, line_of, opening, or_dash, quoted, remark_text, shown, shown_byte, status_text, time_text, words_of}

abbrev None_ends : ℕ → Type 0
None_ends b = is_lf b ≡ false

joined : (a b : List ℕ) → HasNoLf a → HasNoLf b → HasNoLf (a ++ b)
joined a b one two = All-append None_ends a b one two

-- ---- what is escaped

glyph_is_none : (d : ℕ) → is_lf (digit_glyph true d) ≡ false
glyph_is_none d = by_test (nat_lt d 10) refl
  where
    by_test : (t : Bool) → nat_lt d 10 ≡ t → is_lf (digit_glyph true d) ≡ false
    by_test true e = grind (arith, nat_tests)
    by_test false e = grind (arith, nat_tests)

plain_is_none : (b : ℕ) → is_plain b ≡ true → is_lf b ≡ false
plain_is_none b h = grind (arith, nat_tests)

escaped_is_one : (b : ℕ) → HasNoLf (escaped b)
escaped_is_one b =
    All-cons None_ends 92 (120 ∷ digit_glyph true (b / 16) ∷ digit_glyph true (b % 16) ∷ []) refl
    (All-cons None_ends 120 (digit_glyph true (b / 16) ∷ digit_glyph true (b % 16) ∷ []) refl
    (All-cons None_ends (digit_glyph true (b / 16)) (digit_glyph true (b % 16) ∷ []) (glyph_is_none (b / 16))
    (All-cons None_ends (digit_glyph true (b % 16)) [] (glyph_is_none (b % 16)) (All-nil None_ends))))

byte_is_one : (b : ℕ) → HasNoLf (shown_byte b)
byte_is_one b = by_test (is_plain b) refl
  where
    by_test : (t : Bool) → is_plain b ≡ t → HasNoLf (if t then b ∷ [] else escaped b)
    by_test true e = All-cons None_ends b [] (plain_is_none b e) (All-nil None_ends)
    by_test false e = escaped_is_one b

shown_is_one : (text : List ℕ) → HasNoLf (shown text)
shown_is_one [] = All-nil None_ends
shown_is_one (b ∷ bs) = joined (shown_byte b) (shown bs) (byte_is_one b) (shown_is_one bs)

-- ---- literals, numbers and dates

abbrev not_lf : ℕ → Bool
not_lf b = not (is_lf b)

from_not : (b : Bool) → not b ≡ true → b ≡ false
from_not true h = absurd (cc)
from_not false h = refl

literal : (text : List ℕ) → list_all not_lf text ≡ true → HasNoLf text
literal text all = All-weaker (λ b. not_lf b ≡ true) None_ends (λ b h. from_not (is_lf b) h) text (AllPass-from_list_all not_lf text all)

digit_is_none : (b : ℕ) → is_ascii_digit b ≡ true → is_lf b ≡ false
digit_is_none b h = grind (arith, nat_tests)

number_is_one : (n : ℕ) → HasNoLf (decimal n)
number_is_one n = All-weaker (λ b. is_ascii_digit b ≡ true) None_ends digit_is_none (decimal n) (decimal_digits n)

value_is_none : (b : ℕ) → IsTrue (is_value_byte b) → is_lf b ≡ false
value_is_none b h = grind (arith, nat_tests)

date_is_one : (secs : ℕ) → secs < 253402300800 → HasNoLf (date_text_of secs)
date_is_one secs h = All-weaker (λ b. IsTrue (is_value_byte b)) None_ends value_is_none (date_text_of secs) (dates_are_plain secs h).value

part : (n k : ℕ) (date : List ℕ) → HasNoLf date → HasNoLf (take n (drop k date))
part n k date h = All-take None_ends n (drop k date) (All-drop None_ends k date h)

clock_is_one : (date : List ℕ) → HasNoLf date → HasNoLf (clock_text date)
clock_is_one date h = joined (take 2 (drop 5 date) ++ codes "/" ++ take 3 (drop 8 date) ++ codes "/" ++ take 4 (drop 12 date) ++ codes ":" ++ take 8 (drop 17 date)) (codes " +0000") (joined (take 2 (drop 5 date) ++ codes "/" ++ take 3 (drop 8 date) ++ codes "/" ++ take 4 (drop 12 date) ++ codes ":") (take 8 (drop 17 date)) (joined (take 2 (drop 5 date) ++ codes "/" ++ take 3 (drop 8 date) ++ codes "/" ++ take 4 (drop 12 date)) (codes ":") (joined (take 2 (drop 5 date) ++ codes "/" ++ take 3 (drop 8 date) ++ codes "/") (take 4 (drop 12 date)) (joined (take 2 (drop 5 date) ++ codes "/" ++ take 3 (drop 8 date)) (codes "/") (joined (take 2 (drop 5 date) ++ codes "/") (take 3 (drop 8 date)) (joined (take 2 (drop 5 date)) (codes "/") (part 2 5 date h) (literal (codes "/") refl)) (part 3 8 date h)) (literal (codes "/") refl)) (part 4 12 date h)) (literal (codes ":") refl)) (part 8 17 date h)) (literal (codes " +0000") refl)

time_is_one : (secs : ℕ) → HasNoLf (time_text secs)
time_is_one secs = by_test (nat_lt secs 253402300800) refl
  where
    by_test : (t : Bool) → nat_lt secs 253402300800 ≡ t → HasNoLf (if t then clock_text (date_text_of secs) else codes "-")
    by_test true e = clock_is_one (date_text_of secs) (date_is_one secs (ltb-true secs 253402300800 e))
    by_test false e = literal (codes "-") refl

-- ---- the fields

quoted_is_one : (text : List ℕ) → HasNoLf (quoted text)
quoted_is_one text = joined (codes "\"" ++ shown (or_dash text)) (codes "\"") (joined (codes "\"") (shown (or_dash text)) (literal (codes "\"") refl) (shown_is_one (or_dash text))) (literal (codes "\"") refl)

status_is_one : (status : Option ℕ) → HasNoLf (status_text status)
status_is_one None = literal (codes "-") refl
status_is_one (Some code) = number_is_one code

cut_is_one : (cause : Cause) → HasNoLf (remark_text (Cut cause))
cut_is_one cause = joined (codes "\"cut off: " ++ shown (text_of cause)) (codes "\"") (joined (codes "\"cut off: ") (shown (text_of cause)) (literal (codes "\"cut off: ") refl) (shown_is_one (text_of cause))) (literal (codes "\"") refl)

remark_is_one : (remark : Remark) → HasNoLf (remark_text remark)
remark_is_one Whole = literal (codes "-") refl
remark_is_one (Own cause) = quoted_is_one (text_of cause)
remark_is_one Bare = literal (codes "\"own reply\"") refl
remark_is_one (Cut cause) = cut_is_one cause
remark_is_one Gone = literal (codes "\"client gone\"") refl
remark_is_one Stopped = literal (codes "\"server stopped\"") refl
remark_is_one NoMemory = literal (codes "\"out of memory\"") refl

dropped_is_one : (dropped : ℕ) → HasNoLf (dropped_text dropped)
dropped_is_one dropped = by_test (dropped == 0)
  where
    by_test : (t : Bool) → HasNoLf (if t then [] else codes " dropped=" ++ decimal dropped)
    by_test true = All-nil None_ends
    by_test false = joined (codes " dropped=") (decimal dropped) (literal (codes " dropped=") refl) (number_is_one dropped)

-- ---- the line

space : HasNoLf (codes " ")
space = literal (codes " ") refl

opening_is_one : (e : Entry) → HasNoLf (opening e)
opening_is_one e = joined (shown (or_dash e.peer) ++ codes " - - [" ++ time_text e.began ++ codes "] " ++ quoted e.request ++ codes " " ++ status_text e.status ++ codes " ") (decimal e.bytes) (joined (shown (or_dash e.peer) ++ codes " - - [" ++ time_text e.began ++ codes "] " ++ quoted e.request ++ codes " " ++ status_text e.status) (codes " ") (joined (shown (or_dash e.peer) ++ codes " - - [" ++ time_text e.began ++ codes "] " ++ quoted e.request ++ codes " ") (status_text e.status) (joined (shown (or_dash e.peer) ++ codes " - - [" ++ time_text e.began ++ codes "] " ++ quoted e.request) (codes " ") (joined (shown (or_dash e.peer) ++ codes " - - [" ++ time_text e.began ++ codes "] ") (quoted e.request) (joined (shown (or_dash e.peer) ++ codes " - - [" ++ time_text e.began) (codes "] ") (joined (shown (or_dash e.peer) ++ codes " - - [") (time_text e.began) (joined (shown (or_dash e.peer)) (codes " - - [") (shown_is_one (or_dash e.peer)) (literal (codes " - - [") refl)) (time_is_one e.began)) (literal (codes "] ") refl)) (quoted_is_one e.request)) (space)) (status_is_one e.status)) (space)) (number_is_one e.bytes)

closing_is_one : (e : Entry) → HasNoLf (closing e)
closing_is_one e = joined (codes " " ++ quoted e.script ++ codes " " ++ decimal e.millis ++ codes " " ++ remark_text e.remark) (dropped_text e.dropped) (joined (codes " " ++ quoted e.script ++ codes " " ++ decimal e.millis ++ codes " ") (remark_text e.remark) (joined (codes " " ++ quoted e.script ++ codes " " ++ decimal e.millis) (codes " ") (joined (codes " " ++ quoted e.script ++ codes " ") (decimal e.millis) (joined (codes " " ++ quoted e.script) (codes " ") (joined (codes " ") (quoted e.script) space (quoted_is_one e.script)) (space)) (number_is_one e.millis)) (space)) (remark_is_one e.remark)) (dropped_is_one e.dropped)

words_are_one : (e : Entry) → HasNoLf (words_of e)
words_are_one e = joined (opening e) (closing e) (opening_is_one e) (closing_is_one e)

pub lines_are_single : LinesAreSingle
lines_are_single e = (refl, words_are_one e)
