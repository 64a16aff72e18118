-- What real loops say of themselves.
use Rattle.std.specs.Prelude.{ℕ, List, ◌++◌, codes}
use Rattle.std.specs.Fmt.{decimal}

-- the line that says where a server listens
abbrev pub listening_text : List ℕ → ℕ → List ℕ
listening_text address port = codes "cgihost: listening on " ++ address ++ codes ":" ++ decimal port

-- .. and the one that says where it can't, and what to do
abbrev pub refused_text : List ℕ → ℕ → List ℕ
refused_text address port = codes "cgihost: end what listens there, or set another port in the site file: " ++ address ++ codes ":" ++ decimal port
