-- What a world is entered for.
use Rattle.host_trace.specs.declared.world.Entry.{Entry}
use Rattle.trace_log.specs.declared.entry_log.Entered.{Entered}

abbrev pub noted_entry : Entered × Unit {0} → Entry
noted_entry note = record { mode = note.0.mode; site = note.0.site.value; loops = note.0.loops }
