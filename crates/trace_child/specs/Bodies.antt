-- What a child is fed: the body of its request (RFC 3875 4.2), as it was heard, in pieces.
use Rattle.std.specs.Prelude.{ℕ, Bool, true, not, ◌&&◌, ◌||◌, ◌==◌, nat_eq, List}
use Rattle.std.specs.List.{list_any, starts_with}
use Rattle.host_trace.specs.declared.items.Act.TheVariants.{Feed}
use Rattle.host_trace.specs.declared.items.Item.{Item}
use Rattle.host_trace.specs.declared.items.Item.TheVariants.{Out}
use Rattle.host_trace.specs.Fits.{is_piece}
use Rattle.host_trace.specs.Kinds.{is_end_input, is_input_gone, is_kill, is_exited}
use Rattle.host_trace.specs.Projections.{child_in, shut_for_memory}
use Rattle.trace_child.specs.Words.{implies, until, each}
use Rattle.trace_child.specs.Run.{Run, takes_body}
use Rattle.trace_child.specs.Decided.{is_decided}
use Rattle.trace_child.specs.ChildDemands.{is_all_taken, is_fed_whole}

-- a piece of 1 to 65,536 bytes is fed only where all that was fed before was taken
abbrev pub is_fed_in_turn : ℕ → List Item → Item → Bool
is_fed_in_turn k front (Out (Feed d bytes)) = implies (k == d) (is_all_taken front k && is_piece bytes)
is_fed_in_turn k front _ = true

-- x means that nobody reads the rest of the body
abbrev pub ends_reading : ℕ → Item → Bool
ends_reading k x = is_input_gone k x || is_kill k x || is_exited k x

-- before its input was ended nobody read it any more, or the run was decided
abbrev pub is_excused : Run → List Item → Bool
is_excused run items =
    let front = until (is_end_input run.child) items in list_any (ends_reading run.child) front || is_decided run front

-- its input was ended by the host, which owes it the whole body. Where memory was wanting for its connection nothing is
-- owed any more.
abbrev pub owes_whole : Run → List Item → Bool
owes_whole run items =
    list_any (is_end_input run.child) items && not (is_excused run items) && not (shut_for_memory items run.conn)

abbrev pub bodies : Run → List Item → Bool
bodies run items =
    implies (takes_body run)
    (starts_with nat_eq (run.offered items).body (child_in items run.child)
    && each (is_fed_in_turn run.child) items
    && implies (owes_whole run items) (is_fed_whole run items))
