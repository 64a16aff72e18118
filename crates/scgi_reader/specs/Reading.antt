-- A request that is heard piece by piece.
use Rattle.std.specs.Prelude.{ℕ, List, ◌≡◌}
use Rattle.host_base.specs.declared.limits.Limits.{Limits}
use Rattle.scgi_reader.specs.declared.reader.ScgiStep.TheVariants as Step
use Rattle.scgi_reader.specs.Scgi.{scgi_of}
use Rattle.scgi_reader.specs.declared.reading.Heard.{Heard}
use Rattle.scgi_reader.specs.declared.reading.Heard.TheVariants.{More, Whole, Bad}

-- all that was heard is this: more is to come of it, or it begins with a whole request, or with none
abbrev pub IsHeard : Limits → List ℕ → Heard → Type 0
IsHeard limits bytes (More reading) = (reading ≡ record { limits = limits; bytes = bytes }) × (scgi_of limits bytes ≡ Step.More)
IsHeard limits bytes (Whole request) = (used : ℕ) × (scgi_of limits bytes ≡ Step.Whole request used)
IsHeard limits bytes (Bad cause) = scgi_of limits bytes ≡ Step.Bad cause
