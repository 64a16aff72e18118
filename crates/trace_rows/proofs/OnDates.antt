-- .. and on a trace with a Date.
use Rattle.std.specs.Prelude.{⊤}
use Rattle.httpdate.specs.Calendar.{days_of_years, days_of_months}
use Rattle.reply_writer.specs.Dates.{date_text_of}
use Rattle.trace_rows.proofs.OnLiterals.{on_literals}

unfoldable pub on_dates : ⊤
unfolding on_literals date_text_of days_of_years days_of_months
on_dates = on_literals
