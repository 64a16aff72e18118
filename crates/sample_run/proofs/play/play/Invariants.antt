-- The plan is the list of the outside.
use Rattle.memory_world.specs.MemoryWords.{listed_of}
use Rattle.sample_run.proofs.play.play.Given as goal

abbrev pub ghosts-play_plan : goal.ghosts-play_plan
ghosts-play_plan a = record { events = listed_of a.outside; children = a.outside.limit }
