-- The fields that a map of names and values holds, in its order.
use Rattle.std.specs.Prelude.{ℕ, List, map}
use Rattle.std.specs.declared.vec.Vec.{Vec}
use Rattle.std.specs.declared.alloc.Global.{Global}
use Rattle.host_base.specs.declared.fields.Field.{Field}
use Rattle.fcgi_records.specs.Pairs.{field_with}

abbrev pub field_in : Vec ℕ Global × Vec ℕ Global → Field
field_in entry = field_with entry.0.items entry.1.items

abbrev pub fields_in : List (Vec ℕ Global × Vec ℕ Global) → List Field
fields_in entries = map field_in entries
