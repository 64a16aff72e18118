-- What a store in memory holds, and which reads of it fail.
use Rattle.std.specs.Prelude.{ℕ, Bool, ◌&&◌, List, find, Option, option_map}
use Rattle.std.specs.Str.{bytes_eq}
use Rattle.doc_files.specs.declared.memory.DocFile.{DocFile}
use Rattle.doc_files.specs.Held.{Held}

-- the file stands at that path below that root
abbrev pub is_at : List ℕ → List ℕ → DocFile → Bool
is_at root path file = bytes_eq file.root root && bytes_eq file.path path

abbrev pub bytes_in : DocFile → List ℕ
bytes_in file = file.bytes

abbrev pub held_in : List DocFile → Held
held_in files root path = option_map bytes_in (find (is_at root path) files)
