-- The text of a date: the second of a clock, in the calendar, as IMF-fixdate (RFC 9110 5.6.7).
use Rattle.std.specs.Prelude.{ℕ, zero, suc, ◌+◌, ◌-◌, ◌/◌, ◌%◌, nat_lt, if◌then◌else◌, List}
use Rattle.httpdate.specs.declared.parts.Parts.{Parts}
use Rattle.httpdate.specs.Calendar.{days_in_month, days_in_year, days_of_months, days_of_years, weekday}
use Rattle.httpdate.specs.Text.{imf_fixdate}

-- With spans of `span 0`, `span 1`, .. days, one after the other: how many whole ones from the k-th on lie within so
-- many days, of at most `most`.
abbrev pub whole_spans : (ℕ → ℕ) → ℕ → ℕ → ℕ → ℕ
whole_spans span zero k days = 0
whole_spans span (suc most) k days =
    if nat_lt days (span k) then 0 else suc (whole_spans span most (suc k) (days - span k))

-- the whole years from 1970 on that lie within so many days, up to the year 9999
abbrev pub years_within : ℕ → ℕ
years_within days = whole_spans (λ k. days_in_year (1970 + k)) 8030 0 days

-- the whole months of that year that lie within so many days of it
abbrev pub months_within : ℕ → ℕ → ℕ
months_within year days = whole_spans (λ k. days_in_month year (suc k)) 12 0 days

-- day number `days` after 1 January 1970, and a second of it
abbrev pub civil_parts : ℕ → ℕ → Parts
civil_parts days second =
    let years = years_within days in
    let day_of_year = days - days_of_years years in
    let months = months_within (1970 + years) day_of_year in
    record {
      year = 1970 + years;
      mon = months + 1;
      day = day_of_year - days_of_months (1970 + years) months + 1;
      hour = second / 3600;
      min = second % 3600 / 60;
      sec = second % 60;
      wday = weekday days;
    }

-- the date of a second after 1970 began
abbrev pub date_parts : ℕ → Parts
date_parts secs = civil_parts (secs / 86400) (secs % 86400)

unfoldable pub date_text_of : ℕ → List ℕ
date_text_of secs = imf_fixdate (date_parts secs)
