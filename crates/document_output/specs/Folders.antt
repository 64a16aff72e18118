-- The folder of documents that a program names.
use Rattle.std.specs.Prelude.{ℕ, Bool, ◌&&◌, ◌||◌, ◌==◌, List, [], ◌++◌, length, slice_get, slice_index, Option, option_and_then, if◌then◌else◌, None, nat_le, not, codes, decimal}
use Rattle.std.specs.Option.{option_map_or}
use Rattle.host_base.specs.declared.launch.Pair.{Pair}
use Rattle.host_base.specs.declared.site.DocRoot.{DocRoot}
use Rattle.document_output.specs.Numbers.{number_in}
use Rattle.document_output.specs.Paths.{after_prefix}

-- the program of the documents of a number
abbrev pub documents_program : ℕ → List ℕ
documents_program number = codes "documents:" ++ decimal number

-- decimal digits as numbers are spelled: without zeros before them
abbrev pub has_no_lead : List ℕ → Bool
has_no_lead digits = nat_le (length digits) 1 || not (slice_index digits 0 == 48)

abbrev pub spelled_number : List ℕ → Option ℕ
spelled_number digits = if has_no_lead digits then number_in digits else None

-- the number of such a program
abbrev pub folder_number : List ℕ → Option ℕ
folder_number program = option_and_then spelled_number (after_prefix (codes "documents:") program)

-- the folder that a program names, of a site's folders in their order
abbrev pub folder_of : List DocRoot → List ℕ → Option DocRoot
folder_of docs program = option_and_then (slice_get docs) (folder_number program)

abbrev pub types_in : DocRoot → List Pair
types_in folder = folder.types

abbrev pub types_of : List DocRoot → List ℕ → List Pair
types_of docs program = option_map_or types_in (folder_of docs program) []
