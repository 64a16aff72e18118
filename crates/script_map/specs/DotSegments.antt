-- Paths without dot segments (RFC 3986 5.2.4), on the segments of a whole path.
use Rattle.std.specs.Prelude.{◌≡◌, ℕ, ◌-◌, Bool, false, ◌||◌, List, [], ◌∷◌, ◌++◌, length, take, drop, fold, All, if◌then◌else◌, ◌==◌, codes}
use Rattle.std.specs.List.{slice_split, flat_map}
use Rattle.std.specs.Str.{bytes_eq}

abbrev pub is_slash : ℕ → Bool
is_slash byte = byte == 47

abbrev pub is_dot : List ℕ → Bool
is_dot segment = bytes_eq segment (codes ".")

abbrev pub is_dot_dot : List ℕ → Bool
is_dot_dot segment = bytes_eq segment (codes "..")

abbrev pub is_dot_segment : List ℕ → Bool
is_dot_segment segment = is_dot segment || is_dot_dot segment

-- the segments of a path that begins with "/"
abbrev pub segments_of : List ℕ → List (List ℕ)
segments_of path = slice_split is_slash (drop 1 path)

-- a dot segment at the end is read as if a "/" followed it
abbrev pub with_end : List (List ℕ) → List (List ℕ)
with_end [] = []
with_end (last ∷ []) = if is_dot_segment last then last ∷ [] ∷ [] else last ∷ []
with_end (segment ∷ next ∷ more) = segment ∷ with_end (next ∷ more)

-- the segments that stand after one more: "." adds nothing, ".." takes the last one away
abbrev pub with_segment : List (List ℕ) → List ℕ → List (List ℕ)
with_segment kept segment =
    if is_dot segment then kept
    else (if is_dot_dot segment then take (length kept - 1) kept else kept ++ segment ∷ [])

abbrev pub with_slash : List ℕ → List ℕ
with_slash segment = 47 ∷ segment

-- the path that begins with "/" without its dot segments
unfoldable pub without_dot_segments : List ℕ → List ℕ
without_dot_segments path = flat_map with_slash (fold with_segment [] (with_end (segments_of path)))

abbrev pub HasNoDotSegment : List ℕ → Type 0
HasNoDotSegment path = All (λ segment. is_dot_segment segment ≡ false) (segments_of path)

-- the path begins with "/"
abbrev pub IsRooted : List ℕ → Type 0
IsRooted path = take 1 path ≡ 47 ∷ []

abbrev pub HasNoSlash : List ℕ → Type 0
HasNoSlash segment = All (λ byte. is_slash byte ≡ false) segment
