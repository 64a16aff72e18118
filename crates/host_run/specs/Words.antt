-- The words of the command line that have a form.
use Rattle.std.specs.Prelude.{ℕ, ◌<◌, ◌≤◌, ◌^◌, ◌==◌, ◌&&◌, Bool, true, false, nat_lt, nat_le, length, List, [], ◌∷◌, Option, Some, None, option_and_then, option_map, codes, bytes_eq, String, string_bytes, if◌then◌else◌}
use Rattle.std.specs.Char.{is_ascii_digit}
use Rattle.std.specs.List.{list_all, position_or_len, before_first, after_first}
use Rattle.std.specs.Str.Parse.{digits_value}
use Rattle.std.specs.Global.{Global}
use Rattle.site_file.specs.Ranges.{is_script_path, is_program}
use Rattle.host_run.specs.declared.words.Command.{Command}
use Rattle.host_run.specs.declared.words.Command.TheVariants as Rust
use Rattle.host_run.specs.declared.words.Place.{Place}
use Rattle.host_run.specs.declared.words.Place.TheVariants as At
use Rattle.host_run.specs.declared.words.ServeOption.{ServeOption}
use Rattle.host_run.specs.declared.words.ServeOption.TheVariants.{Loops, Turns}
use Rattle.host_run.specs.declared.words.Task.{Task}
use Rattle.host_run.specs.declared.words.Task.TheVariants.{Once, Serve, Check, Upgrade, Explain}

-- where a site is said
pub data SitePlace : Type 0 where
  -- by the path and the program of one script
  ByScript : List ℕ → List ℕ → SitePlace
  -- in a file of this name
  InFile : List ℕ → SitePlace

-- what a command line asks for
pub data Form : Type 0 where
  Does : Task → SitePlace → Form
  -- by a seed, so many connections
  Sample : ℕ → ℕ → Form
  Help : Form
  Version : Form

abbrev pub is_file : SitePlace → Bool
is_file (ByScript path program) = false
is_file (InFile name) = true

abbrev pub place_at : Place → SitePlace
place_at (At.OneScript path program) = ByScript path.now program.now
place_at (At.File name) = InFile name.now

abbrev pub form_at : Command → Form
form_at (Rust.Does task place) = Does task (place_at place)
form_at (Rust.Sample seed count) = Sample seed count
form_at Rust.Help = Help
form_at Rust.Version = Version

-- ---- SITE

abbrev pub is_equals : ℕ → Bool
is_equals b = b == 61

-- PATH and PROGRAM of PATH=PROGRAM, split at the first `=`
abbrev pub parts_of : List ℕ → Option (List ℕ × List ℕ)
parts_of word = if nat_lt (position_or_len is_equals word) (length word) then Some (before_first is_equals word, after_first is_equals word) else None

-- .. where they can be a script's
abbrev pub script_of : List ℕ × List ℕ → Option SitePlace
script_of parts = if is_script_path parts.0 && is_program parts.1 then Some (ByScript parts.0 parts.1) else None

-- a name that isn't empty
abbrev pub file_of : List ℕ → Option SitePlace
file_of word = if nat_lt 0 (length word) then Some (InFile word) else None

abbrev pub place_of_parts : List ℕ → Option (List ℕ × List ℕ) → Option SitePlace
place_of_parts word (Some parts) = script_of parts
place_of_parts word None = file_of word

-- a word with `=` in it is PATH=PROGRAM, any other a file's name
abbrev pub place_of : List ℕ → Option SitePlace
place_of word = place_of_parts word (parts_of word)

-- ---- the forms

abbrev pub task_of : List ℕ → Option Task
task_of word =
    if bytes_eq word (codes "once") then Some Once
    else (if bytes_eq word (codes "serve") then Some (Serve 1 (2 ^ 62))
    else (if bytes_eq word (codes "check") then Some Check
    else (if bytes_eq word (codes "upgrade") then Some Upgrade
    else (if bytes_eq word (codes "explain") then Some Explain else None))))

-- a number: 1 to 19 decimal digits
abbrev pub is_number : List ℕ → Bool
is_number word = nat_lt 0 (length word) && nat_le (length word) 19 && list_all is_ascii_digit word

abbrev pub number_of : List ℕ → Option ℕ
number_of word = if is_number word then Some (digits_value 10 word) else None

-- how many turns a loop has: 1 to 2^62
abbrev pub turns_at : ℕ → Option ℕ
turns_at number = if nat_le 1 number && nat_le number (2 ^ 62) then Some number else None

abbrev pub turns_of : List ℕ → Option ℕ
turns_of word = option_and_then turns_at (number_of word)

-- how many loops there are: 1 to 16
abbrev pub loops_at : ℕ → Option ℕ
loops_at number = if nat_le 1 number && nat_le number 16 then Some number else None

abbrev pub loops_of : List ℕ → Option ℕ
loops_of word = option_and_then loops_at (number_of word)

-- an option of `serve`
abbrev pub option_of : List ℕ → List ℕ → Option ServeOption
option_of name number =
    if bytes_eq name (codes "--loops") then option_map Loops (loops_of number)
    else (if bytes_eq name (codes "--turns") then option_map Turns (turns_of number) else None)

-- with no option `serve` has one loop of 2^62 turns
abbrev pub with_one : Option ServeOption → Option Task
with_one (Some (Loops loops)) = Some (Serve loops (2 ^ 62))
with_one (Some (Turns turns)) = Some (Serve 1 turns)
with_one None = None

-- each option stands once at most, in any order
abbrev pub with_two : Option ServeOption → Option ServeOption → Option Task
with_two (Some (Loops loops)) (Some (Turns turns)) = Some (Serve loops turns)
with_two (Some (Turns turns)) (Some (Loops loops)) = Some (Serve loops turns)
with_two _ _ = None

-- the numbers that an option, a task and a form say are in their ranges
abbrev pub IsOption : ServeOption → Type 0
IsOption (Loops loops) = (0 < loops) × (loops ≤ 16)
IsOption (Turns turns) = turns ≤ 2 ^ 62

abbrev pub IsTask : Task → Type 0
IsTask (Serve loops turns) = (0 < loops) × (loops ≤ 16) × (turns ≤ 2 ^ 62)
IsTask _ = Unit {0}

abbrev pub IsInRange : Form → Type 0
IsInRange (Does task place) = IsTask task
IsInRange _ = Unit {0}

abbrev pub form_alone : List ℕ → Option Form
form_alone word =
    if bytes_eq word (codes "--help") then Some Help else (if bytes_eq word (codes "--version") then Some Version else None)

abbrev pub form_of_two : List ℕ → List ℕ → Option Form
form_of_two first second = option_and_then (λ task. option_map (Does task) (place_of second)) (task_of first)

-- `serve SITE` with options
abbrev pub form_of_serve : List ℕ → List ℕ → Option Task → Option Form
form_of_serve first second task =
    if bytes_eq first (codes "serve") then option_and_then (λ task. option_map (Does task) (place_of second)) task else None

-- a seed: below 2^32
abbrev pub seed_at : ℕ → Option ℕ
seed_at number = if nat_lt number (2 ^ 32) then Some number else None

abbrev pub seed_of : List ℕ → Option ℕ
seed_of word = option_and_then seed_at (number_of word)

-- how many connections a sample has: 1 to 100,000
abbrev pub count_at : ℕ → Option ℕ
count_at number = if nat_le 1 number && nat_le number 100000 then Some number else None

abbrev pub count_of : List ℕ → Option ℕ
count_of word = option_and_then count_at (number_of word)

-- `sample SEED N`
abbrev pub form_of_sample : List ℕ → List ℕ → List ℕ → Option Form
form_of_sample first seed count =
    if bytes_eq first (codes "sample") then option_and_then (λ seed. option_map (Sample seed) (count_of count)) (seed_of seed) else None

-- The form that the words after the program's name have.
abbrev pub form_of : List (String Global) → Option Form
form_of (word ∷ []) = form_alone (string_bytes word)
form_of (first ∷ second ∷ []) = form_of_two (string_bytes first) (string_bytes second)
form_of (first ∷ seed ∷ count ∷ []) = form_of_sample (string_bytes first) (string_bytes seed) (string_bytes count)
form_of (first ∷ second ∷ name ∷ number ∷ []) = form_of_serve (string_bytes first) (string_bytes second) (with_one (option_of (string_bytes name) (string_bytes number)))
form_of (first ∷ second ∷ name ∷ number ∷ name' ∷ number' ∷ []) =
    form_of_serve (string_bytes first) (string_bytes second) (with_two (option_of (string_bytes name) (string_bytes number)) (option_of (string_bytes name') (string_bytes number')))
form_of _ = None
