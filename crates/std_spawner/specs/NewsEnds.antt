-- The ends of the way on which a start is told.
use Rattle.std.specs.Prelude.{◌≡◌, Option, Some, None, ⊤}
use Rattle.host_base.specs.declared.launch.Launch.{Launch}
use Rattle.std_spawner.specs.Programs.{launch_of}
use Rattle.std_spawner.specs.declared.news.Started.{Started}
use Rattle.std_spawner.specs.declared.news.Teller.{Teller}
use Rattle.std_spawner.specs.declared.news.Listener.{Listener}

abbrev pub launch_told : Teller → Launch
launch_told teller = teller.launch.value

abbrev pub launch_heard : Listener → Launch
launch_heard listener = listener.launch.value

-- a program that is heard of is this launch's
abbrev pub IsHeard : Launch → Option (Option Started) → Type 0
IsHeard launch None = ⊤
IsHeard launch (Some None) = ⊤
IsHeard launch (Some (Some started)) = launch_of started.program.value ≡ launch
