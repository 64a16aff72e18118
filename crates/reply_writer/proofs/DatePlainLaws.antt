-- A date may be the value of a field.
use Rattle.std.proofs.Common.{◌≡◌, ℕ, zero, suc, ◌+◌, ◌/◌, ◌%◌, ◌<◌, ◌≤◌, true, List, [], ◌∷◌, ◌++◌, refl, sym, ap, ◌∙◌, arith, codes, reverse}
use Rattle.std.specs.Prelude.{IsTrue}
use Rattle.std.specs.Int.{IsInRange}
use Rattle.std.specs.List.{list_all}
use Rattle.std.proofs.lemmas.Bool.Decides.{nat_tests}
use Rattle.std.proofs.lemmas.List.{reverse-append, reverse-reverse}
use Rattle.std.proofs.lemmas.List.Elements.{All-append, All-cons, All-nil}
use Rattle.std.proofs.lemmas.List.Sums.{AllPass-from_list_all}
use Rattle.httparse.specs.Grammar.{AllPass, is_token_byte, is_value_byte, skip_ows, trim_ows}
use Rattle.httpdate.specs.declared.parts.Parts.{Parts}
use Rattle.httpdate.specs.Text.{day_name, four_digits, imf_fixdate, month_name, time_of_day, two_digits}
use Rattle.httpdate.specs.Valid.{IsValid}
use Rattle.httpdate.proofs.FormatLemmas.{imf_fixdate_grouped}
use Rattle.reply_writer.specs.DateRules.{DatesArePlain}
use Rattle.reply_writer.specs.Dates.{date_parts, date_text_of}
use Rattle.reply_writer.proofs.DateLaws.{date_holds}
use Rattle.reply_writer.proofs.ReadBackLaws.{token_by_test}

abbrev IsValue : List ℕ → Type 0
IsValue text = AllPass is_value_byte text

joined : (a b : List ℕ) → IsValue a → IsValue b → IsValue (a ++ b)
joined a b one two = All-append (λ b. IsTrue (is_value_byte b)) a b one two

-- a name of a day: it has no blank in front, and only bytes that a value may have
record IsDayName (name : List ℕ) : Type 0 where
  plain : IsValue name
  front : (rest : List ℕ) → skip_ows (name ++ rest) ≡ name ++ rest

day_is_plain : (n : ℕ) → IsInRange 1 7 n → IsDayName (day_name n)
day_is_plain (suc zero) h = record { plain = AllPass-from_list_all is_value_byte (codes "Mon") refl; front = λ rest. refl }
day_is_plain (suc (suc zero)) h = record { plain = AllPass-from_list_all is_value_byte (codes "Tue") refl; front = λ rest. refl }
day_is_plain (suc (suc (suc zero))) h = record { plain = AllPass-from_list_all is_value_byte (codes "Wed") refl; front = λ rest. refl }
day_is_plain (suc (suc (suc (suc zero)))) h = record { plain = AllPass-from_list_all is_value_byte (codes "Thu") refl; front = λ rest. refl }
day_is_plain (suc (suc (suc (suc (suc zero))))) h = record { plain = AllPass-from_list_all is_value_byte (codes "Fri") refl; front = λ rest. refl }
day_is_plain (suc (suc (suc (suc (suc (suc zero)))))) h = record { plain = AllPass-from_list_all is_value_byte (codes "Sat") refl; front = λ rest. refl }
day_is_plain (suc (suc (suc (suc (suc (suc (suc zero))))))) h = record { plain = AllPass-from_list_all is_value_byte (codes "Sun") refl; front = λ rest. refl }
day_is_plain zero h = absurd (omega arith)
day_is_plain (suc (suc (suc (suc (suc (suc (suc (suc k)))))))) h = absurd (omega arith)

month_is_plain : (n : ℕ) → IsInRange 1 12 n → IsValue (month_name n)
month_is_plain (suc zero) h = AllPass-from_list_all is_value_byte (codes "Jan") refl
month_is_plain (suc (suc zero)) h = AllPass-from_list_all is_value_byte (codes "Feb") refl
month_is_plain (suc (suc (suc zero))) h = AllPass-from_list_all is_value_byte (codes "Mar") refl
month_is_plain (suc (suc (suc (suc zero)))) h = AllPass-from_list_all is_value_byte (codes "Apr") refl
month_is_plain (suc (suc (suc (suc (suc zero))))) h = AllPass-from_list_all is_value_byte (codes "May") refl
month_is_plain (suc (suc (suc (suc (suc (suc zero)))))) h = AllPass-from_list_all is_value_byte (codes "Jun") refl
month_is_plain (suc (suc (suc (suc (suc (suc (suc zero))))))) h = AllPass-from_list_all is_value_byte (codes "Jul") refl
month_is_plain (suc (suc (suc (suc (suc (suc (suc (suc zero)))))))) h = AllPass-from_list_all is_value_byte (codes "Aug") refl
month_is_plain (suc (suc (suc (suc (suc (suc (suc (suc (suc zero))))))))) h = AllPass-from_list_all is_value_byte (codes "Sep") refl
month_is_plain (suc (suc (suc (suc (suc (suc (suc (suc (suc (suc zero)))))))))) h = AllPass-from_list_all is_value_byte (codes "Oct") refl
month_is_plain (suc (suc (suc (suc (suc (suc (suc (suc (suc (suc (suc zero))))))))))) h = AllPass-from_list_all is_value_byte (codes "Nov") refl
month_is_plain (suc (suc (suc (suc (suc (suc (suc (suc (suc (suc (suc (suc zero)))))))))))) h = AllPass-from_list_all is_value_byte (codes "Dec") refl
month_is_plain zero h = absurd (omega arith)
month_is_plain (suc (suc (suc (suc (suc (suc (suc (suc (suc (suc (suc (suc (suc k))))))))))))) h = absurd (omega arith)

digit_is_plain : (d : ℕ) → d < 10 → is_value_byte (48 + d) ≡ true
digit_is_plain d small = grind (arith, nat_tests)

two_are_plain : (n : ℕ) → n < 100 → IsValue (two_digits n)
two_are_plain n small =
    All-cons (λ b. IsTrue (is_value_byte b)) (48 + n / 10) ((48 + n % 10) ∷ []) (digit_is_plain (n / 10) (omega arith))
    (All-cons (λ b. IsTrue (is_value_byte b)) (48 + n % 10) [] (digit_is_plain (n % 10) (omega arith)) (All-nil (λ b. IsTrue (is_value_byte b))))

literal_is_plain : (text : List ℕ) → list_all is_value_byte text ≡ true → IsValue text
literal_is_plain text all = AllPass-from_list_all is_value_byte text all

time_is_plain : (p : Parts) → p.hour < 24 → p.min < 60 → p.sec < 60 → IsValue (time_of_day p)
time_is_plain p hour min sec =
    joined (two_digits p.hour ++ codes ":" ++ two_digits p.min ++ codes ":") (two_digits p.sec)
    (joined (two_digits p.hour ++ codes ":" ++ two_digits p.min) (codes ":")
    (joined (two_digits p.hour ++ codes ":") (two_digits p.min)
    (joined (two_digits p.hour) (codes ":") (two_are_plain p.hour (omega arith)) (literal_is_plain (codes ":") refl))
    (two_are_plain p.min (omega arith)))
    (literal_is_plain (codes ":") refl))
    (two_are_plain p.sec (omega arith))

-- what stands before the time
abbrev day_text : Parts → List ℕ
day_text p = day_name p.wday ++ codes ", " ++ two_digits p.day ++ codes " " ++ month_name p.mon ++ codes " "

day_text_is_plain : (p : Parts) → IsInRange 1 7 p.wday → p.day < 100 → IsInRange 1 12 p.mon → IsValue (day_text p)
day_text_is_plain p wday day mon =
    joined (day_name p.wday ++ codes ", " ++ two_digits p.day ++ codes " " ++ month_name p.mon) (codes " ")
    (joined (day_name p.wday ++ codes ", " ++ two_digits p.day ++ codes " ") (month_name p.mon)
    (joined (day_name p.wday ++ codes ", " ++ two_digits p.day) (codes " ")
    (joined (day_name p.wday ++ codes ", ") (two_digits p.day)
    (joined (day_name p.wday) (codes ", ") (let it = day_is_plain p.wday wday in it.plain) (literal_is_plain (codes ", ") refl))
    (two_are_plain p.day day))
    (literal_is_plain (codes " ") refl))
    (month_is_plain p.mon mon))
    (literal_is_plain (codes " ") refl)

year_is_plain : (year : ℕ) → year ≤ 9999 → IsValue (four_digits year)
year_is_plain year most =
    joined (two_digits (year / 100)) (two_digits (year % 100)) (two_are_plain (year / 100) (omega arith)) (two_are_plain (year % 100) (omega arith))

-- the day of a month
month_day : (p : Parts) → IsValid p → p.day < 100
month_day p valid = grind (arith, valid.0.2.1)

text_is_plain : (p : Parts) → IsValid p → IsValue (imf_fixdate p)
text_is_plain p valid =
    joined (day_text p ++ four_digits p.year ++ codes " " ++ time_of_day p) (codes " GMT")
    (joined (day_text p ++ four_digits p.year ++ codes " ") (time_of_day p)
    (joined (day_text p ++ four_digits p.year) (codes " ")
    (joined (day_text p) (four_digits p.year)
    (day_text_is_plain p (omega arith) (month_day p valid) valid.0.1)
    (year_is_plain p.year valid.0.0.1))
    (literal_is_plain (codes " ") refl))
    (time_is_plain p valid.1.0 valid.1.1 valid.1.2))
    (literal_is_plain (codes " GMT") refl)

-- no blank stands at its ends
trimmed : (text front : List ℕ) → skip_ows text ≡ text → text ≡ front ++ codes " GMT" → trim_ows text ≡ text
unfolding trim_ows
trimmed text front begins ends =
    ap (λ l. reverse (skip_ows (reverse l))) begins
    ∙ (ap (λ l. reverse (skip_ows (reverse l))) ends
    ∙ (ap (λ l. reverse (skip_ows l)) (reverse-append front (codes " GMT"))
    ∙ (ap reverse (sym (reverse-append front (codes " GMT"))) ∙ (reverse-reverse (front ++ codes " GMT") ∙ sym ends))))

text_begins : (p : Parts) → IsValid p → skip_ows (imf_fixdate p) ≡ imf_fixdate p
text_begins p valid =
    rw (imf_fixdate_grouped p) (let it = day_is_plain p.wday (omega arith) in it.front _)

pub dates_are_plain : DatesArePlain
unfolding date_text_of is_token_byte
dates_are_plain secs within =
    let held = date_holds secs within in
    record {
      name = token_by_test (codes "Date") refl;
      value = text_is_plain (date_parts secs) held.0;
      trimmed = trimmed (imf_fixdate (date_parts secs)) _ (text_begins (date_parts secs) held.0) refl;
    }
