-- Whether an absolute path without links stands below such a folder.
use Rattle.std.specs.Prelude.{ℕ, Bool, false, ◌&&◌, ◌||◌, ◌==◌, List, [], ◌∷◌, length, take, drop, nat_le, codes}
use Rattle.std.specs.Str.{bytes_eq}

abbrev pub begins_with_slash : List ℕ → Bool
begins_with_slash [] = false
begins_with_slash (byte ∷ bytes) = byte == 47

-- it begins with the folder's path and a slash behind it; everything stands below "/"
abbrev pub is_below : List ℕ → List ℕ → Bool
is_below folder path =
    nat_le (length folder) (length path) && bytes_eq (take (length folder) path) folder
    && (bytes_eq folder (codes "/") || begins_with_slash (drop (length folder) path))
