-- The keys of each kind of table of a site file.
use Rattle.std.specs.Prelude.{ℕ, List, [], ◌∷◌, codes}
use Rattle.site_file.specs.declared.levels.Level.{Level}
use Rattle.site_file.specs.declared.levels.Level.TheVariants.{Version1, Version2, Limits, Host, Script, WebSocketScript, Documents}

-- the keys of each kind of table
abbrev pub known_at : Level → List (List ℕ)
known_at Version1 = codes "version" ∷ codes "name" ∷ codes "listen" ∷ codes "port" ∷ codes "root" ∷ codes "limits" ∷ codes "script" ∷ []
known_at Version2 = codes "version" ∷ codes "listen" ∷ codes "port" ∷ codes "limits" ∷ codes "host" ∷ []
known_at Limits =
    codes "head" ∷ codes "target" ∷ codes "body" ∷ codes "output" ∷ codes "run_ticks" ∷ codes "idle_ticks" ∷ codes "linger_ticks"
    ∷ codes "redirects" ∷ codes "connections" ∷ codes "children" ∷ codes "ws_text" ∷ []
known_at Host = codes "name" ∷ codes "aliases" ∷ codes "any" ∷ codes "root" ∷ codes "script" ∷ codes "documents" ∷ []
known_at Script = codes "path" ∷ codes "program" ∷ codes "kind" ∷ []
known_at WebSocketScript = codes "path" ∷ codes "program" ∷ codes "kind" ∷ codes "origins" ∷ []
known_at Documents = codes "path" ∷ codes "root" ∷ codes "types" ∷ []
