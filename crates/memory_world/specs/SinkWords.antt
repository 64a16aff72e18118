-- Which puts of a sink in memory fail.
use Rattle.std.specs.Prelude.{Bool, ◌==◌}
use Rattle.std.specs.List.{list_any}
use Rattle.memory_world.specs.declared.sink.MemorySink.{MemorySink}

-- the number of the next put is listed
abbrev pub fails_next : MemorySink → Bool
fails_next s = list_any (λ number. number == s.puts) s.failing.items
