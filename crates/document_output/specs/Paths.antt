-- The path of a document below its folder, and the media type that its name has.
use Rattle.std.specs.Prelude.{ℕ, Bool, ◌&&◌, ◌==◌, ◌-◌, List, ◌++◌, length, take, drop, map, slice_index, Option, Some, None, option_and_then, unwrap_or, if◌then◌else◌, nat_lt, codes}
use Rattle.std.specs.Char.{to_ascii_lowercase}
use Rattle.std.specs.List.{after_last, list_any}
use Rattle.std.specs.Str.{bytes_eq}
use Rattle.host_base.specs.declared.launch.Pair.{Pair}
use Rattle.document_output.specs.Values.{named_value}

-- what follows a prefix, where the bytes begin with it
abbrev pub after_prefix : List ℕ → List ℕ → Option (List ℕ)
after_prefix prefix bytes = if bytes_eq (take (length prefix) bytes) prefix then Some (drop (length prefix) bytes) else None

abbrev pub is_slash : ℕ → Bool
is_slash byte = byte == 47

abbrev pub is_dot : ℕ → Bool
is_dot byte = byte == 46

abbrev pub ends_by_slash : List ℕ → Bool
ends_by_slash path = nat_lt 0 (length path) && is_slash (slice_index path (length path - 1))

-- a path that ends by "/" stands for the index of that folder
abbrev pub indexed : List ℕ → List ℕ
indexed path = if ends_by_slash path then path ++ codes "index.html" else path

-- the path below the folder: PATH_INFO (RFC 3875 4.1.5), or "/" where there is none
abbrev pub document_path : List Pair → List ℕ
document_path env = indexed (unwrap_or (named_value (codes "PATH_INFO") env) (codes "/"))

-- what follows the last "." of the last segment, where it has one
abbrev pub extension_in : List ℕ → Option (List ℕ)
extension_in segment = if list_any is_dot segment then Some (after_last is_dot segment) else None

abbrev pub extension_of : List ℕ → Option (List ℕ)
extension_of path = extension_in (after_last is_slash path)

-- the type of an extension, which counts in lower case
abbrev pub extension_type : List Pair → List ℕ → Option (List ℕ)
extension_type types extension = named_value (map to_ascii_lowercase extension) types

-- the media type of a file by its name (RFC 9110 8.3); that of any bytes where the table has none (RFC 2046 4.5.1)
abbrev pub media_type : List Pair → List ℕ → List ℕ
media_type types path = unwrap_or (option_and_then (extension_type types) (extension_of path)) (codes "application/octet-stream")
