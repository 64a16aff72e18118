-- Where an act on a child may stand.
use Rattle.std.specs.Prelude.{Bool, true, not, ◌&&◌, List}
use Rattle.host_trace.specs.declared.items.Act.{Act}
use Rattle.host_trace.specs.declared.items.Act.TheVariants.{WantClient, Write, Shut, Start, Feed, EndInput, WantChild, Kill, Release, Upgrade, Says, CloseWs}
use Rattle.host_trace.specs.declared.items.Item.{Item}
use Rattle.host_trace.specs.Projections.{child_wanted, start_stands, started, exited, killed, input_ended, output_ended}
use Rattle.trace_child.specs.Words.{is_filled}

-- It may come next after these items: of a started child alone; a byte at least, while its input is open; its input
-- ended once; one question at a time, while its output is open; a kill once and before its exit; its output given up
-- after it. What is no act on a child may come as far as this rule goes, and no child is started twice.
abbrev pub may_be_given : List Item → Act → Bool
may_be_given items (Start k c j hop launch) = not (start_stands items k)
may_be_given items (Feed k bytes) = started items k && not (input_ended items k) && is_filled bytes
may_be_given items (EndInput k) = started items k && not (input_ended items k)
may_be_given items (WantChild k) = started items k && not (output_ended items k) && not (child_wanted items k)
may_be_given items (Kill k) = started items k && not (killed items k) && not (exited items k)
may_be_given items (Release k) = started items k && exited items k && not (output_ended items k)
may_be_given items (WantClient c) = true
may_be_given items (Write c bytes) = true
may_be_given items (Shut c why) = true
may_be_given items (Upgrade c rest) = true
may_be_given items (Says c texts) = true
may_be_given items (CloseWs c code) = true
