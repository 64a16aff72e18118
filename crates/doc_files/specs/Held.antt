-- What a store of documents holds: a map from a root and a path to bytes.
use Rattle.std.specs.Prelude.{ℕ, ◌≡◌, List, Option, Some, option_and_then}
use Rattle.host_base.specs.declared.launch.Launch.{Launch}
use Rattle.host_base.specs.declared.site.DocRoot.{DocRoot}
use Rattle.document_output.specs.declared.read.DocRead.{DocRead}
use Rattle.document_output.specs.Folders.{folder_of}
use Rattle.document_output.specs.Output.{bytes_of, output_of}
use Rattle.document_output.specs.Paths.{document_path}

abbrev pub Held : Type 0
Held = List ℕ → List ℕ → Option (List ℕ)

-- where the store tells what it holds, this is what it has there
abbrev pub Reads : Option Held → List ℕ → List ℕ → DocRead → Type 0
Reads told root path read = (held : Held) → told ≡ Some held → held root path ≡ bytes_of read

abbrev pub held_below : Held → Launch → DocRoot → Option (List ℕ)
held_below held launch folder = held folder.root (document_path launch.env)

-- what a store holds at the path that a child is started for, below the folder that its program names
abbrev pub held_at : Held → List DocRoot → Launch → Option (List ℕ)
held_at held docs launch = option_and_then (held_below held launch) (folder_of docs launch.program)

-- the output of a document child, of a site's folders, of what it is started with and of what the store holds
abbrev pub served_output : Held → List DocRoot → Launch → List ℕ
served_output held docs launch = output_of docs launch (held_at held docs launch)
