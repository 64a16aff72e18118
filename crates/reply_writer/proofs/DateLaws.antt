-- The text of a date is that of `httpdate`, is read back, and is plain.
use Rattle.std.proofs.Common.{◌≡◌, ℕ, zero, suc, ◌+◌, ◌-◌, ◌*◌, ◌/◌, ◌%◌, ◌<◌, ◌≤◌, Bool, true, false, Some, None, refl, sym, ap, ◌∙◌, inl, arith}
use Rattle.std.specs.Prelude.{nat_lt, if◌then◌else◌, option_and_then}
use Rattle.std.proofs.lemmas.Bool.{ltb-true, ltb-false}
use Rattle.httpdate.specs.declared.parts.Parts.{Parts}
use Rattle.httpdate.specs.declared.date.HttpDate.{HttpDate}
use Rattle.httpdate.specs.Calendar.{IsCivilDate, days_from_civil, days_in_month, days_in_year, days_of_months, days_of_years, weekday}
use Rattle.httpdate.specs.Date.{date_text, unix_secs, parse_secs, valid_secs}
use Rattle.httpdate.specs.Text.{imf_fixdate}
use Rattle.httpdate.specs.Valid.{IsValid, parts_secs}
use Rattle.httpdate.proofs.CalendarLemmas.{days_of_months_all, days_of_years_closed}
use Rattle.httpdate.proofs.FormatLemmas.{parse_complete}
use Rattle.httpdate.proofs.Theorems.{date_text_is}
use Rattle.httpdate.proofs.ValidLemmas.{is_valid_complete}
use Rattle.reply_writer.specs.DateRules.{DatesReadBack}
use Rattle.reply_writer.specs.Dates.{civil_parts, date_parts, date_text_of, months_within, whole_spans, years_within}

-- ---- spans

-- `before k` is how many days the first k spans have
module _ (span before : ℕ → ℕ) (adds : (k : ℕ) → before (suc k) ≡ before k + span k) where
  -- n whole spans from the k-th on lie within the days, and no more
  record Fit (most k days n : ℕ) : Type 0 where
    few : n < most
    low : before (k + n) ≤ before k + days
    high : before k + days < before (k + n) + span (k + n)

  none_fits : (most k days : ℕ) → days < span k → Fit (suc most) k days 0
  none_fits most k days short =
      let here : k + 0 ≡ k = omega arith in
      record {
        few = omega arith;
        low = rw here (omega arith);
        high = rw here (omega arith);
      }

  one_more_fits : (most k days n : ℕ) → span k ≤ days → Fit most (suc k) (days - span k) n → Fit (suc most) k days (suc n)
  one_more_fits most k days n long later =
      let place : k + suc n ≡ suc k + n = omega arith in
      let first = adds k in
      record {
        few = omega (arith, later.few);
        low = rw place (omega (arith, later.low, first));
        high = rw place (omega (arith, later.high, first));
      }

  whole_spans_fit : (most k days : ℕ) → before k + days < before (k + most) → Fit most k days (whole_spans span most k days)
  whole_spans_fit zero k days within =
      let here : k + 0 ≡ k = omega arith in absurd (let over : before k + days < before k = rw here at within in omega arith)
  whole_spans_fit (suc most) k days within = by_test (nat_lt days (span k)) refl (whole_spans_fit most (suc k) (days - span k))
    where
      by_test : (b : Bool) → nat_lt days (span k) ≡ b
          → (before (suc k) + (days - span k) < before (suc k + most) → Fit most (suc k) (days - span k) (whole_spans span most (suc k) (days - span k)))
          → Fit (suc most) k days (if b then 0 else suc (whole_spans span most (suc k) (days - span k)))
      by_test true short more = none_fits most k days (ltb-true days (span k) short)
      by_test false long more =
          let at_least : span k ≤ days = ltb-false days (span k) long in
          let first = adds k in
          let place : k + suc most ≡ suc k + most = omega arith in
          let left : before k + days < before (suc k + most) = rw place at within in
          one_more_fits most k days _ at_least (more (omega (arith, at_least, first, left)))

  -- the same from the first span on
  record FitFirst (most days n : ℕ) : Type 0 where
    few : n < most
    low : before n ≤ days
    high : days < before n + span n

  first_spans_fit : (most days : ℕ) → before 0 ≡ 0 → days < before most → FitFirst most days (whole_spans span most 0 days)
  first_spans_fit most days none within =
      let whole : 0 + most ≡ most = omega arith in
      at_start (whole_spans span most 0 days) (whole_spans_fit most 0 days (rw whole (omega (arith, none, within))))
    where
      at_start : (n : ℕ) → Fit most 0 days n → FitFirst most days n
      at_start n fit =
          let here : 0 + n ≡ n = omega arith in
          let low : before n ≤ before 0 + days = rw here at fit.low in
          let high : before 0 + days < before n + span n = rw here at fit.high in
          record { few = fit.few; low = omega (arith, low, none); high = omega (arith, high, none) }

-- ---- the calendar

years_add : (k : ℕ) → days_of_years (suc k) ≡ days_of_years k + days_in_year (1970 + k)
unfolding days_of_years
years_add k = refl

months_add : (year k : ℕ) → days_of_months year (suc k) ≡ days_of_months year k + days_in_month year (suc k)
unfolding days_of_months
months_add year k = refl

all_years : days_of_years 8030 ≡ 2932897
all_years = omega (arith, days_of_years_closed 8030)

no_years : days_of_years 0 ≡ 0
unfolding days_of_years
no_years = refl

no_months : (year : ℕ) → days_of_months year 0 ≡ 0
unfolding days_of_months
no_months year = refl

-- what the numbers of a day are found by
record IsDay (days years months : ℕ) : Type 0 where
  known : years < 8030
  year_low : days_of_years years ≤ days
  year_high : days < days_of_years years + days_in_year (1970 + years)
  in_year : months < 12
  month_low : days_of_months (1970 + years) months ≤ days - days_of_years years
  month_high : days - days_of_years years < days_of_months (1970 + years) months + days_in_month (1970 + years) (suc months)

years_fit : (days : ℕ) → days < 2932897 → FitFirst (λ k. days_in_year (1970 + k)) days_of_years years_add 8030 days (years_within days)
years_fit days within =
    first_spans_fit (λ k. days_in_year (1970 + k)) days_of_years years_add 8030 days no_years
    (let all = all_years in omega (arith, all, within))

months_fit : (year day : ℕ) → day < days_in_year year
    → FitFirst (λ k. days_in_month year (suc k)) (days_of_months year) (months_add year) 12 day (months_within year day)
months_fit year day within =
    first_spans_fit (λ k. days_in_month year (suc k)) (days_of_months year) (months_add year) 12 day (no_months year)
    (let all = days_of_months_all year in omega (arith, all, within))

day_by : (days years months : ℕ) → FitFirst (λ k. days_in_year (1970 + k)) days_of_years years_add 8030 days years
    → FitFirst (λ k. days_in_month (1970 + years) (suc k)) (days_of_months (1970 + years)) (months_add (1970 + years)) 12 (days - days_of_years years) months
    → IsDay days years months
day_by days years months year month = record {
  known = year.few;
  year_low = year.low;
  year_high = year.high;
  in_year = month.few;
  month_low = month.low;
  month_high = month.high;
}

day_is : (days : ℕ) → days < 2932897 → IsDay days (years_within days) (months_within (1970 + years_within days) (days - days_of_years (years_within days)))
day_is days within = by_years (years_within days) (years_fit days within)
  where
    by_years : (years : ℕ) → FitFirst (λ k. days_in_year (1970 + k)) days_of_years years_add 8030 days years
        → IsDay days years (months_within (1970 + years) (days - days_of_years years))
    by_years years year =
        day_by days years _ year (months_fit (1970 + years) (days - days_of_years years) (omega (arith, year.low, year.high)))

civil_is : (days years months : ℕ) → IsDay days years months
    → IsCivilDate (1970 + years) (months + 1) (days - days_of_years years - days_of_months (1970 + years) months + 1)
civil_is days years months day =
    let next : months + 1 ≡ suc months = omega arith in (
      (omega arith, omega (arith, day.known)),
      (omega arith, omega (arith, day.in_year)),
      (omega arith, rw next (omega (arith, day.month_low, day.month_high))),
    )

days_are : (days years months : ℕ) → IsDay days years months
    → days_from_civil (1970 + years) (months + 1) (days - days_of_years years - days_of_months (1970 + years) months + 1) ≡ days
days_are days years months day =
    let year : 1970 + years - 1970 ≡ years = omega arith in
    let month : months + 1 - 1 ≡ months = omega arith in
    rw (year, month) (omega (arith, day.year_low, day.month_low))

parts_hold : (days second years months : ℕ) → second < 86400 → IsDay days years months
    → (p : Parts) → p ≡ record {
      year = 1970 + years;
      mon = months + 1;
      day = days - days_of_years years - days_of_months (1970 + years) months + 1;
      hour = second / 3600;
      min = second % 3600 / 60;
      sec = second % 60;
      wday = weekday days;
    } → IsValid p × (parts_secs p ≡ days * 86400 + second)
parts_hold days second years months in_day day p is =
    let same = days_are days years months day in
    rw is (
      (civil_is days years months day, (omega arith, omega arith, omega arith), sym (ap weekday same)),
      rw same (omega arith),
    )

civil_holds : (days second : ℕ) → days < 2932897 → second < 86400
    → IsValid (civil_parts days second) × (parts_secs (civil_parts days second) ≡ days * 86400 + second)
civil_holds days second within in_day =
    parts_hold days second _ _ in_day (day_is days within) (civil_parts days second) refl

pub date_holds : (secs : ℕ) → secs < 253402300800 → IsValid (date_parts secs) × (parts_secs (date_parts secs) ≡ secs)
date_holds secs within =
    let held = civil_holds (secs / 86400) (secs % 86400) (omega arith) (omega arith) in
    (held.0, held.1 ∙ (let whole : secs / 86400 * 86400 + secs % 86400 ≡ secs = omega arith in whole))

-- ---- the text

-- the date of a second has this text
pub date_is : (date : HttpDate) (secs : ℕ) → secs < 253402300800 → unix_secs date ≡ secs → date_text date ≡ date_text_of secs
unfolding date_text_of
date_is date secs within is =
    let held = date_holds secs within in
    date_text_is date (date_parts secs) (is_valid_complete (date_parts secs) held.0) (is ∙ sym held.1)

read_parts : (p : Parts) (secs : ℕ) → IsValid p → parts_secs p ≡ secs → parse_secs (imf_fixdate p) ≡ Some secs
read_parts p secs valid same =
    ap (option_and_then valid_secs) (parse_complete (imf_fixdate p) p valid (inl refl))
    ∙ (ap (λ b. if b then Some (parts_secs p) else None) (is_valid_complete p valid) ∙ ap Some same)

pub dates_read_back : DatesReadBack
unfolding date_text_of
dates_read_back secs within =
    let held = date_holds secs within in read_parts (date_parts secs) secs held.0 held.1
