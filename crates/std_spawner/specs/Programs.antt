-- A program that was started, and how it ended.
use Rattle.std.specs.Prelude.{◌≡◌, Bool, true, false, Option, Some, None, is_some, ◌||◌}
use Rattle.std.specs.Process.{child_status}
use Rattle.host_base.specs.declared.launch.Launch.{Launch}
use Rattle.std_spawner.specs.declared.program.Program.{Program}

-- the launch that it was started by
abbrev pub launch_of : Program → Launch
launch_of program = program.launch.value

-- the system told how it ended, or that there is no such child any more
abbrev pub has_ended : Program → Bool
has_ended program = is_some (child_status program.process) || is_some program.lost

-- .. of this program, where there is one
abbrev pub has_gone : Option Program → Bool
has_gone None = false
has_gone (Some program) = has_ended program

-- the program of the same launch; of one that has ended that is still known
pub record OfSameLaunch (old new : Program) : Type 0 where
  pub launch : launch_of new ≡ launch_of old
  pub ended : has_ended old ≡ true → has_ended new ≡ true
