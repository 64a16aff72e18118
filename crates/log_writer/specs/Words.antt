-- The option of the log among the words of a command.
use Rattle.std.specs.Prelude.{ℕ, ◌≡◌, ◌⊎◌, ◌<◌, ◌≤◌, ◌+◌, Bool, true, false, List, [], ◌∷◌, length, Option, Some, None, Result, Ok, Err, IfSome, bytes_eq, codes, is_some, String, string_bytes}
use Rattle.std.specs.Global.{Global}
use Rattle.std.specs.List.{position, remove, slice_index_or}
use Rattle.log_writer.specs.declared.words.LogWords.{LogWords}
use Rattle.log_writer.specs.declared.words.WordsFault.{WordsFault}

abbrev pub is_log : String Global → Bool
is_log word = bytes_eq (string_bytes word) (codes "--log")

abbrev pub has_log : List (String Global) → Bool
has_log words = is_some (position is_log words)

-- a server is to be run
abbrev pub is_serve : List (String Global) → Bool
is_serve [] = false
is_serve (word ∷ words) = bytes_eq (string_bytes word) (codes "serve")

-- without the option at this place and the word behind it
abbrev pub without : ℕ → List (String Global) → List (String Global)
without at words = remove (remove words (at + 1)) at

-- what is taken where the option stands first at this place, if anywhere: the word behind it, which has to be there; and
-- the option may not stand among the others
abbrev pub IsTakenAt : List (String Global) → Option ℕ → Result LogWords WordsFault → Type 0
IsTakenAt words None (Ok taken) = (taken.file ≡ None) × (taken.words.items ≡ words)
IsTakenAt words None (Err fault) = true ≡ false
IsTakenAt words (Some at) (Ok taken) =
    (at + 1 < length words) × (is_some taken.file ≡ true) × IfSome taken.file (λ file. file ≡ slice_index_or words (at + 1) file)
    × (taken.words.items ≡ without at words) × (has_log taken.words.items ≡ false)
IsTakenAt words (Some at) (Err fault) = (length words ≤ at + 1) ⊎ (has_log (without at words) ≡ true)

abbrev pub IsTaken : List (String Global) → Result LogWords WordsFault → Type 0
IsTaken words result = IsTakenAt words (position is_log words) result
