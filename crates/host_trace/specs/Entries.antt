-- What a world tells of its entries.
use Rattle.std.specs.Prelude.{ℕ, List, [], ◌∷◌, ◌++◌, ◌≡◌, Option, Some}
use Rattle.host_base.specs.declared.site.Site.{Site}
use Rattle.host_trace.specs.declared.world.Entry.{Entry}
use Rattle.host_trace.specs.declared.world.Mode.{Mode}

abbrev pub entry_of : Mode → Site → ℕ → Entry
entry_of mode site loops = record { mode = mode; site = site; loops = loops }

-- what is told now is what was told before and this entry
pub record EnteredBy (before : Option (List Entry)) (entry : Entry) (now : List Entry) : Type 0 where
  pub was : List Entry
  pub told : before ≡ Some was
  pub grew : now ≡ was ++ entry ∷ []

-- where it tells afterwards, it told before, and this entry was added
abbrev pub Enters : Option (List Entry) → Entry → Option (List Entry) → Type 0
Enters before entry after = (now : List Entry) → after ≡ Some now → EnteredBy before entry now
