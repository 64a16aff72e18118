-- What serving with a record gives back.
use Rattle.std.specs.Prelude.{◌≡◌, ◌++◌, ◌∷◌, [], ℕ, List, Option, Some}
use Rattle.host_trace.specs.declared.items.Item.{Item}
use Rattle.host_trace.specs.declared.world.EnterFault.{EnterFault}
use Rattle.host_trace.specs.declared.world.EnterFault.TheVariants.{Failed, NoMemory}
use Rattle.host_trace.specs.declared.world.Entry.{Entry}
use Rattle.host_trace.specs.Entries.{Enters}
use Rattle.host_loop.specs.declared.world.WorldEnd.{WorldEnd}
use Rattle.host_loop.specs.declared.world.WorldEnd.TheVariants.{Refused, Unentered, Ended}
use Rattle.record_outside.specs.Record.{IsRecord}
use Rattle.record_serve.specs.declared.serve.RecordEnd.{RecordEnd}
use Rattle.record_serve.specs.declared.serve.RecordEnd.TheVariants as Was

abbrev pub refused : EnterFault → RecordEnd
refused Failed = Was.Refused
refused NoMemory = Was.Unentered

abbrev pub end_of : RecordEnd → WorldEnd
end_of Was.NoRoom = Unentered
end_of Was.Refused = Refused
end_of Was.Unentered = Unentered
end_of (Was.Ended end text) = Ended end

-- one trace was given back, and the text is its record
pub record IsRecordOf (before : Option (List (List Item))) (text : List ℕ) (now : List (List Item)) : Type 0 where
  pub was : List (List Item)
  pub trace : List Item
  pub told : before ≡ Some was
  pub grew : now ≡ was ++ trace ∷ []
  pub recorded : ∥ IsRecord trace text ∥₁

-- where the loop ended and the world tells, its record is that of the trace that was given back
abbrev pub GivesRecord : RecordEnd → Option (List (List Item)) → Option (List (List Item)) → Type 0
GivesRecord (Was.Ended end text) before after = (now : List (List Item)) → after ≡ Some now → IsRecordOf before text now
GivesRecord Was.NoRoom before after = Unit {0}
GivesRecord Was.Refused before after = Unit {0}
GivesRecord Was.Unentered before after = Unit {0}

-- the world was entered for one loop, unless no memory was found for the record
abbrev pub EntersBy : RecordEnd → Entry → Option (List Entry) → Option (List Entry) → Type 0
EntersBy Was.NoRoom entry before after = after ≡ before
EntersBy Was.Refused entry before after = Enters before entry after
EntersBy Was.Unentered entry before after = Enters before entry after
EntersBy (Was.Ended end text) entry before after = Enters before entry after
