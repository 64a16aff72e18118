-- Names that were seen.
use Rattle.std.specs.Prelude.{ℕ, Bool, not, List}
use Rattle.std.specs.List.{list_any, list_all}
use Rattle.std.specs.Global.{Vec}
use Rattle.std.specs.BTreeSet.{BTreeSet, keys}
use Rattle.std.specs.Str.{bytes_eq}
use Rattle.host_base.specs.declared.fields.Field.{Field}

-- the name is among them
abbrev pub was_seen : BTreeSet (Vec ℕ) → List ℕ → Bool
was_seen names name = list_any (λ seen. bytes_eq name seen.items) (keys names)

-- none of these fields has such a name
abbrev pub are_new : BTreeSet (Vec ℕ) → List Field → Bool
are_new names fields = list_all (λ f. not (was_seen names f.name)) fields
