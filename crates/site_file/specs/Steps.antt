-- Readings one after the other, up to the first fault.
use Rattle.std.specs.Prelude.{◌≡◌, ◌≢◌, Option, Some, None, Result, Ok, Err}
use Rattle.site_file.specs.declared.fault.SiteFault.{SiteFault}
use Rattle.site_file.specs.declared.fault.SiteFault.TheVariants.{NoMemory}

infixl 10 ◌>>=◌
-- what follows a reading, where that found no fault
abbrev pub ◌>>=◌ : {A B : Type 0} → Result A SiteFault → (A → Result B SiteFault) → Result B SiteFault
Ok value >>= next = next value
Err fault >>= next = Err fault

-- the fault, or else what follows
abbrev pub unless : {A : Type 0} → Option SiteFault → Result A SiteFault → Result A SiteFault
unless None next = next
unless (Some fault) next = Err fault

-- the first of two faults
abbrev pub or_else : Option SiteFault → Option SiteFault → Option SiteFault
or_else None second = second
or_else (Some fault) second = Some fault

-- the result is what the definition says, or no memory was found
abbrev pub Reads : {A : Type 0} → Result A SiteFault → Result A SiteFault → Type 0
Reads expected (Ok value) = expected ≡ Ok value
Reads expected (Err fault) = fault ≢ NoMemory → expected ≡ Err fault

-- .. where only a fault or nothing is said
abbrev pub Finds : Option SiteFault → Result (Unit {0}) SiteFault → Type 0
Finds expected (Ok none) = expected ≡ None
Finds expected (Err fault) = fault ≢ NoMemory → expected ≡ Some fault
