-- By which parts an item decides a run.
use Rattle.std.proofs.Common.{◌≡◌, Bool, true, false, not, ◌||◌, ◌&&◌, List, refl}
use Rattle.std.specs.Prelude.{if◌then◌else◌}
use Rattle.host_trace.specs.declared.items.Item.{Item}
use Rattle.host_trace.specs.Decider.{ends_connection, is_last_tick, is_long_text, is_websocket, makes_long_line, passes_output}
use Rattle.host_trace.specs.First.{since}
use Rattle.host_trace.specs.Kinds.{is_child_broken, is_child_eof, is_start, is_start_failed, is_start_full}
use Rattle.host_trace.specs.Projections.{shut, start_stands}
use Rattle.trace_child.specs.Run.{Run}
use Rattle.trace_child.specs.Decided.{cuts_body_short, decides_run}

all_by : (a b d : Bool) → ((a || b) || d) ≡ (a || b || d)
all_by true b d = refl
all_by false b d = refl

pub parts : (run : Run) (front : List Item) (x : Item) (alone limit : Bool) → start_stands front run.child ≡ true
    → alone ≡ (is_child_eof run.child x || is_start_failed run.child x || is_start_full run.child x || is_child_broken run.child x || ends_connection run.conn x)
    → limit ≡ (if is_websocket run.kind
    then not (shut (since (is_start run.child) front) run.conn) && (is_long_text run.limits run.conn x || makes_long_line run.limits run.child (since (is_start run.child) front) x)
    else passes_output run.limits run.child (since (is_start run.child) front) x || is_last_tick run.limits (since (is_start run.child) front) x)
    → decides_run run front x ≡ ((alone || limit) || cuts_body_short run front x)
parts run front x alone limit stands is_alone is_limit = rw (stands, is_alone, is_limit) refl

pub by_limit : (alone limit cut : Bool) → limit ≡ true → ((alone || limit) || cut) ≡ true
by_limit true limit cut so = refl
by_limit false limit cut so = rw so refl

pub by_cut : (alone limit cut : Bool) → alone ≡ false → limit ≡ false → ((alone || limit) || cut) ≡ cut
by_cut alone limit cut not_alone not_limit = rw (not_alone, not_limit) refl

pub so : (a : Bool) → not a ≡ false → a ≡ true
so true h = refl
so false h = absurd (cc)
