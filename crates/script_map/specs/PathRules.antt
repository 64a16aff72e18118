-- What holds of paths without dot segments.
use Rattle.std.specs.Prelude.{◌≡◌, ℕ, true, false, List, [], ◌∷◌, ◌++◌}
use Rattle.script_map.specs.DotSegments.{is_dot_segment, without_dot_segments, IsRooted, HasNoDotSegment, HasNoSlash}

-- no segment "." or ".." is left, and the path begins with "/"
abbrev pub LeavesNoDotSegment : Type 0
LeavesNoDotSegment = (path : List ℕ) → IsRooted (without_dot_segments path) × HasNoDotSegment (without_dot_segments path)

-- a path with no such segment stays as it is
abbrev pub KeepsOtherPaths : Type 0
KeepsOtherPaths = (path : List ℕ) → IsRooted path → HasNoDotSegment path → without_dot_segments path ≡ path

-- "/./" is "/"
abbrev pub DropsDots : Type 0
DropsDots = (front rest : List ℕ)
    → without_dot_segments (front ++ 47 ∷ 46 ∷ 47 ∷ rest) ≡ without_dot_segments (front ++ 47 ∷ rest)

-- a segment and the ".." after it are dropped together
abbrev pub DropsPairs : Type 0
DropsPairs = (front segment rest : List ℕ) → HasNoSlash segment → is_dot_segment segment ≡ false
    → without_dot_segments (front ++ 47 ∷ (segment ++ 47 ∷ 46 ∷ 46 ∷ 47 ∷ rest)) ≡ without_dot_segments (front ++ 47 ∷ rest)

-- a ".." with no segment before it is dropped
abbrev pub DropsAtRoot : Type 0
DropsAtRoot = (rest : List ℕ) → without_dot_segments (47 ∷ 46 ∷ 46 ∷ 47 ∷ rest) ≡ without_dot_segments (47 ∷ rest)

-- "." or ".." at the end stands for itself and a "/"
abbrev pub EndsWithSlash : Type 0
EndsWithSlash = (front segment : List ℕ) → is_dot_segment segment ≡ true
    → without_dot_segments (front ++ 47 ∷ segment) ≡ without_dot_segments (front ++ 47 ∷ (segment ++ 47 ∷ []))
