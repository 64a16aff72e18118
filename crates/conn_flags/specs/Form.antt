-- Which acts may be given by the flags of a connection, and what acts make of them.
use Rattle.std.specs.Prelude.{ℕ, Bool, true, not, ◌&&◌, List, [], ◌∷◌, length}
use Rattle.host_trace.specs.declared.items.Act.{Act}
use Rattle.host_trace.specs.declared.items.Act.TheVariants.{WantClient, Write, Shut, Start, Feed, EndInput, WantChild, Kill, Release, Upgrade, Says, CloseWs}
use Rattle.host_trace.specs.declared.items.Item.TheVariants.{Out}
use Rattle.trace_child.specs.Words.{is_filled}
use Rattle.conn_flags.specs.View.{View, noted, is_live, may_write, has_place, has_room}

-- the act may be given to the connection; what may be given to its child is not said here
abbrev pub may_give : View → Act → Bool
may_give m (WantClient c) = is_live m && not m.asked
may_give m (Write c bytes) = may_write m && is_filled bytes && has_place m (length bytes)
may_give m (Shut c why) = is_live m
may_give m (Start k c j hop launch) = is_live m
may_give m (Feed k bytes) = true
may_give m (EndInput k) = true
may_give m (WantChild k) = true
may_give m (Kill k) = true
may_give m (Release k) = true
may_give m (Upgrade c rest) = may_write m
may_give m (Says c texts) = is_live m && m.upgraded && is_filled texts
may_give m (CloseWs c code) = is_live m && m.upgraded

-- .. and it waits for room, and comes before the server is to end
abbrev pub is_timely : View → Act → Bool
is_timely m (WantClient c) = has_room m && not m.stopped
is_timely m (Start k c j hop launch) = has_room m && not m.stopped
is_timely m _ = true

abbrev pub is_allowed : View → Act → Bool
is_allowed m act = may_give m act && is_timely m act

-- a child may be started
abbrev pub may_start : View → Bool
may_start m = may_write m && has_room m && not m.stopped

-- acts one after another
abbrev pub given_all : View → List Act → View
given_all m [] = m
given_all m (act ∷ acts) = given_all (noted m (Out act)) acts

-- each is allowed when it is given
abbrev pub are_given : View → List Act → Bool
are_given m [] = true
are_given m (act ∷ acts) = is_allowed m act && are_given (noted m (Out act)) acts
