-- The text that explains what is started for a request.
use Rattle.std.specs.Prelude.{ℕ, List, [], ◌++◌, Option, Some, None, Result, Ok, Err, codes}
use Rattle.std.specs.Fmt.{decimal}
use Rattle.std.specs.List.{flat_map}
use Rattle.std.specs.Option.{option_map_or}
use Rattle.host_base.specs.CauseText.{status_of, text_of}
use Rattle.host_base.specs.declared.cause.Cause.{Cause}
use Rattle.host_base.specs.declared.launch.Launch.{Launch}
use Rattle.host_base.specs.declared.launch.Pair.{Pair}
use Rattle.host_base.specs.declared.launch.Peer.{Peer}
use Rattle.host_base.specs.declared.request.Request.{Request}
use Rattle.host_base.specs.declared.site.Mapped.{Mapped}
use Rattle.host_base.specs.declared.site.Site.{Site}
use Rattle.shown_text.specs.Shown.{shown}
use Rattle.script_map.specs.Mapping.{mapped_of}
use Rattle.meta_variables.specs.Launch.{launch_of}
use Rattle.explain.specs.declared.input.Ending.{Ending}
use Rattle.explain.specs.declared.input.Ending.TheVariants.{Whole, Refused, Nothing}

-- ---- lines

abbrev pub program_line : List ℕ → List ℕ
program_line program = codes "program " ++ shown program ++ codes "\n"

abbrev pub dir_line : List ℕ → List ℕ
dir_line dir = codes "dir " ++ shown dir ++ codes "\n"

abbrev pub arg_line : List ℕ → List ℕ
arg_line word = codes "arg " ++ shown word ++ codes "\n"

-- a name is letters, digits and `_`
abbrev pub env_line : Pair → List ℕ
env_line pair = codes "env " ++ pair.name ++ codes "=" ++ shown pair.value ++ codes "\n"

-- the program, its folder, one line for each argument and one for each variable
abbrev pub launch_text : Launch → List ℕ
launch_text launch = program_line launch.program ++ dir_line launch.dir ++ flat_map arg_line launch.args ++ flat_map env_line launch.env

-- the status and the words with which the request is answered
abbrev pub refused_text : Cause → List ℕ
refused_text cause = codes "refused: " ++ decimal (status_of cause) ++ codes " " ++ text_of cause ++ codes "\n"

abbrev pub nothing_text : List ℕ
nothing_text = codes "no request\n"

-- ---- a request

abbrev pub mapped_text : Site → Peer → Request → Result Mapped Cause → List ℕ
mapped_text site peer request (Ok mapped) = option_map_or launch_text (launch_of site peer request mapped) []
mapped_text site peer request (Err cause) = refused_text cause

-- the launch of the script that the request's target is mapped to, or the cause to refuse it; the kind of the script is not looked at
abbrev pub request_text : Site → Peer → Request → List ℕ
request_text site peer request = mapped_text site peer request (mapped_of site.hosts request.target)

-- .. of a client, by how its first request ended
abbrev pub ending_text : Site → Option Peer → Ending → List ℕ
ending_text site (Some peer) (Whole request) = request_text site peer request
ending_text site None (Whole request) = nothing_text
ending_text site peer (Refused cause) = refused_text cause
ending_text site peer Nothing = nothing_text
