-- What a note says.
use Rattle.host_trace.specs.declared.items.Item.{Item}
use Rattle.host_trace.specs.declared.items.Item.TheVariants.{In, Out}
use Rattle.trace_log.specs.declared.trace_log.Noted.{Noted}
use Rattle.trace_log.specs.declared.trace_log.Noted.TheVariants.{Heard, Done}

abbrev pub noted_item : Noted → Item
noted_item (Heard event) = In event.value
noted_item (Done act) = Out act.value

abbrev pub item_of : Noted × Unit {0} → Item
item_of note = noted_item note.0
