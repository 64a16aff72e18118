-- What a store in memory has, and which reads of it fail.
use Rattle.std.specs.Prelude.{ℕ, Bool, not, ◌&&◌, List, map, is_some}
use Rattle.std.specs.List.{list_any}
use Rattle.std.specs.Str.{bytes_eq}
use Rattle.host_base.specs.Outsides.{Stored, stored_at}
use Rattle.memory_world.specs.declared.store.StoredFile.{StoredFile}
use Rattle.memory_world.specs.declared.store.MemoryStore.{MemoryStore}

abbrev pub stored_of : StoredFile → Stored
stored_of file = record { name = file.name; bytes = file.bytes }

-- the file of the name is there, and the name is not among those whose reading fails
abbrev pub can_read : MemoryStore → List ℕ → Bool
can_read s name = not (list_any (bytes_eq name) s.failing.items) && is_some (stored_at name (map stored_of s.files.items))
