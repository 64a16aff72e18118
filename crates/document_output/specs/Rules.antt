-- What the output of a document keeps, in the words of ranges and of numbered folders.
use Rattle.std.specs.Prelude.{ℕ, ◌≡◌, ◌≤◌, ◌<◌, ◌+◌, ◌-◌, ◌^◌, List, ◌++◌, length, drop, min, Option, Some, slice_get}
use Rattle.host_base.specs.declared.site.DocRoot.{DocRoot}
use Rattle.document_output.specs.declared.range.RangeSpec.TheVariants.{From, Between, Suffix}
use Rattle.document_output.specs.declared.range.Span.{Span}
use Rattle.document_output.specs.Folders.{documents_program, folder_number, folder_of}
use Rattle.document_output.specs.Output.{bytes_in}
use Rattle.document_output.specs.Ranges.{span_of}

-- the bytes from 0 to a and those from a + 1 on are both there, and are the file
pub record AreJoined (file : List ℕ) (a : ℕ) : Type 0 where
  pub front : Span
  pub rest : Span
  pub is_front : span_of (Between 0 a) (length file) ≡ Some front
  pub is_rest : span_of (From (a + 1)) (length file) ≡ Some rest
  pub joined : bytes_in front file ++ bytes_in rest file ≡ file

abbrev pub SpansJoin : Type 0
SpansJoin = (file : List ℕ) (a : ℕ) → a + 1 < length file → AreJoined file a

-- the last n bytes are what the file ends with, or all of it
pub record IsEnd (file : List ℕ) (n : ℕ) : Type 0 where
  pub span : Span
  pub is : span_of (Suffix n) (length file) ≡ Some span
  pub bytes : bytes_in span file ≡ drop (length file - n) file

abbrev pub SuffixesAreEnds : Type 0
SuffixesAreEnds = (file : List ℕ) (n : ℕ) → 0 < n → 0 < length file → IsEnd file n

-- the program of the documents of a number names the folder of that number
abbrev pub FoldersAreNumbered : Type 0
FoldersAreNumbered = (docs : List DocRoot) (n : ℕ) → n < 10 ^ 18 → folder_of docs (documents_program n) ≡ slice_get docs n
