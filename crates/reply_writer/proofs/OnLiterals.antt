-- What a proof unfolds to compute the definitions on literals.
use Rattle.std.specs.Prelude.{⊤}
use Rattle.std.specs.Fmt.{digits}
use Rattle.httpdate.specs.Calendar.{days_of_months, days_of_years}
use Rattle.reply_writer.specs.Dates.{date_text_of}

unfoldable pub reply_writer_on_literals : ⊤
unfolding digits days_of_months days_of_years date_text_of
reply_writer_on_literals = tt
