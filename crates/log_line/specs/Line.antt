-- The line of a reply: the common log format, and behind it the script, the time it took, and what is remarked of it.
use Rattle.std.specs.Prelude.{ℕ, zero, suc, ◌≡◌, ◌/◌, ◌%◌, Bool, true, not, ◌&&◌, ◌||◌, ◌==◌, nat_lt, nat_le, if◌then◌else◌, List, [], ◌∷◌, ◌++◌, take, drop, codes, decimal, Option, Some, None}
use Rattle.std.specs.List.{flat_map}
use Rattle.head_lines.specs.Lines.{HasNoLf}
use Rattle.host_base.specs.CauseText.{text_of}
use Rattle.shown_text.specs.Shown.{escaped}
use Rattle.reply_writer.specs.Dates.{date_text_of}
use Rattle.log_line.specs.declared.entry.Entry.{Entry}
use Rattle.log_line.specs.declared.entry.Remark.{Remark}
use Rattle.log_line.specs.declared.entry.Remark.TheVariants.{Whole, Own, Bare, Cut, Gone, Stopped, NoMemory}

-- printable ASCII (RFC 20) but for the quote, which would end a field, and the backslash, which stands before what is escaped
abbrev pub is_plain : ℕ → Bool
is_plain b = nat_le 0x20 b && nat_le b 0x7E && not (b == 0x22) && not (b == 0x5C)

-- a byte as it is, or as `\x` and two upper-case hex digits
abbrev pub shown_byte : ℕ → List ℕ
shown_byte b = if is_plain b then b ∷ [] else escaped b

abbrev pub shown : List ℕ → List ℕ
shown text = flat_map shown_byte text

-- what isn't there is a dash
abbrev pub or_dash : List ℕ → List ℕ
or_dash [] = codes "-"
or_dash (b ∷ bs) = b ∷ bs

abbrev pub quoted : List ℕ → List ℕ
quoted text = codes "\"" ++ shown (or_dash text) ++ codes "\""

-- the date and the time of day of an IMF-fixdate (`Sun, 06 Nov 1994 08:49:37 GMT`) in the order of the common log format,
-- `06/Nov/1994:08:49:37 +0000`
abbrev pub clock_text : List ℕ → List ℕ
clock_text date =
    take 2 (drop 5 date) ++ codes "/" ++ take 3 (drop 8 date) ++ codes "/" ++ take 4 (drop 12 date) ++ codes ":" ++ take 8 (drop 17 date)
    ++ codes " +0000"

-- .. of a Unix second before the year 10,000
abbrev pub time_text : ℕ → List ℕ
time_text secs = if nat_lt secs 253402300800 then clock_text (date_text_of secs) else codes "-"

abbrev pub status_text : Option ℕ → List ℕ
status_text None = codes "-"
status_text (Some code) = decimal code

abbrev pub remark_text : Remark → List ℕ
remark_text Whole = codes "-"
remark_text (Own cause) = quoted (text_of cause)
remark_text Bare = codes "\"own reply\""
remark_text (Cut cause) = codes "\"cut off: " ++ shown (text_of cause) ++ codes "\""
remark_text Gone = codes "\"client gone\""
remark_text Stopped = codes "\"server stopped\""
remark_text NoMemory = codes "\"out of memory\""

abbrev pub dropped_text : ℕ → List ℕ
dropped_text dropped = if dropped == 0 then [] else codes " dropped=" ++ decimal dropped

-- the common log format
abbrev pub opening : Entry → List ℕ
opening e =
    shown (or_dash e.peer) ++ codes " - - [" ++ time_text e.began ++ codes "] " ++ quoted e.request ++ codes " " ++ status_text e.status
    ++ codes " " ++ decimal e.bytes

-- .. and what stands behind it
abbrev pub closing : Entry → List ℕ
closing e = codes " " ++ quoted e.script ++ codes " " ++ decimal e.millis ++ codes " " ++ remark_text e.remark ++ dropped_text e.dropped

-- the line without its end
abbrev pub words_of : Entry → List ℕ
words_of e = opening e ++ closing e

abbrev pub line_of : Entry → List ℕ
line_of e = opening e ++ closing e ++ codes "\n"

-- whatever an entry holds, no line ends within its line, and one does at its end
abbrev pub LinesAreSingle : Type 0
LinesAreSingle = (e : Entry) → (line_of e ≡ words_of e ++ 10 ∷ []) × HasNoLf (words_of e)
