-- What document children hand up, in a trace: the output of a document, in order and once.
use Rattle.std.specs.Prelude.{ℕ, ◌≡◌, Bool, true, ◌||◌, ◌==◌, List, [], ◌∷◌, length, take, Option, Some, is_some, if◌then◌else◌}
use Rattle.std.specs.List.{flat_map}
use Rattle.host_base.specs.declared.launch.Launch.{Launch}
use Rattle.host_base.specs.declared.site.DocRoot.{DocRoot}
use Rattle.host_trace.specs.declared.items.Act.TheVariants.{Start}
use Rattle.host_trace.specs.declared.items.Item.{Item}
use Rattle.host_trace.specs.declared.items.Item.TheVariants.{Out}
use Rattle.host_trace.specs.First.{last_of}
use Rattle.host_trace.specs.Projections.{child_out, exited, killed, output_eof}
use Rattle.document_output.specs.Folders.{folder_of}
use Rattle.doc_files.specs.Held.{Held, served_output}

-- a child that is started with this is a document's: its program names one of the folders
abbrev pub is_document : List DocRoot → Launch → Bool
is_document docs launch = is_some (folder_of docs launch.program)

-- what child k was started with
abbrev pub launched : ℕ → Item → List Launch
launched k (Out (Start d c j hop launch)) = if k == d then launch ∷ [] else []
launched k _ = []

abbrev pub launch_of : List Item → ℕ → Option Launch
launch_of T k = last_of (flat_map (launched k) T)

-- its output has ended, or it was killed
abbrev pub is_over : List Item → ℕ → Bool
is_over T k = output_eof T k || killed T k

-- What was heard of child k's output is a front of this output, and the whole of it where its end was heard. It exited
-- only behind that end, or once it was killed.
pub record IsServed (output : List ℕ) (T : List Item) (k : ℕ) : Type 0 where
  pub front : take (length (child_out T k)) output ≡ child_out T k
  pub whole : output_eof T k ≡ true → child_out T k ≡ output
  pub exit : exited T k ≡ true → is_over T k ≡ true

-- each child that was started for a document of these folders hands up that document's output, for a store that holds this
abbrev pub Serves : List DocRoot → Held → List Item → Type 0
Serves docs held T = (k : ℕ) (launch : Launch) → launch_of T k ≡ Some launch → is_document docs launch ≡ true
    → IsServed (served_output held docs launch) T k

-- .. where the trace and what the store holds are told
abbrev pub ServesWhere : Option Held → List DocRoot → Option (List Item) → Type 0
ServesWhere held docs trace = (T : List Item) (h : Held) → trace ≡ Some T → held ≡ Some h → Serves docs h T
