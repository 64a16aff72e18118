-- The part between connections, of a step of the whole trace: the numbers of Starts, whose each act is, and which
-- connections are turned away.
use Rattle.std.specs.Prelude.{ℕ, suc, Bool, true, false, ◌&&◌, ◌==◌, ◌≡◌, nat_le, if◌then◌else◌, List, [], ◌∷◌, ◌++◌, Option, Some, None}
use Rattle.host_base.specs.declared.site.Site.{Site}
use Rattle.host_trace.specs.declared.items.Act.{Act}
use Rattle.host_trace.specs.declared.items.Act.TheVariants.{WantClient, Write, Shut, Start, Feed, EndInput, WantChild, Kill, Release, Upgrade, Says as SayTexts, CloseWs}
use Rattle.host_trace.specs.declared.items.Event.{Event}
use Rattle.host_trace.specs.declared.items.Event.TheVariants.{Accepted, ClientBytes, ClientEof, ClientGone, Wrote, Started, StartFailed, StartFull, ChildBytes, ChildEof, ChildBroken, Took, InputGone, Exited, WsText, WsBinary, WsClosed, WsBad, NoRoom, Tick, Stop}
use Rattle.host_trace.specs.declared.items.Item.{Item}
use Rattle.host_trace.specs.declared.items.Item.TheVariants.{Out}
use Rattle.host_trace.specs.declared.items.Why.{Why}
use Rattle.host_trace.specs.declared.items.Why.TheVariants.{Done, Gone, Cut, Idle, Full, Stopped, NoMemory}
use Rattle.host_trace.specs.Account.{slots_held}
use Rattle.host_trace.specs.Projections.{accepted_count, is_known, start_count}
use Rattle.host_trace.specs.Trace.{Step}
use Rattle.trace_child.specs.Words.{given, once}
use Rattle.trace_model.specs.Steps.{heard_of}

-- ---- the connection that an item concerns: the one that it names, or that its child was started for

abbrev pub starter : ℕ → List Item → Option ℕ
starter k [] = None
starter k (Out (Start d c j hop launch) ∷ items) = if k == d then Some c else starter k items
starter k (x ∷ items) = starter k items

-- None for an event of all connections
abbrev pub owner_of_event : List Item → Event → Option ℕ
owner_of_event T (Accepted peer) = Some (accepted_count T)
owner_of_event T (ClientBytes c bytes) = Some c
owner_of_event T (ClientEof c) = Some c
owner_of_event T (ClientGone c) = Some c
owner_of_event T (Wrote c n) = Some c
owner_of_event T (Started k) = starter k T
owner_of_event T (StartFailed k) = starter k T
owner_of_event T (StartFull k seen) = starter k T
owner_of_event T (ChildBytes k bytes) = starter k T
owner_of_event T (ChildEof k) = starter k T
owner_of_event T (ChildBroken k) = starter k T
owner_of_event T (Took k n) = starter k T
owner_of_event T (InputGone k) = starter k T
owner_of_event T (Exited k) = starter k T
owner_of_event T (WsText c bytes) = Some c
owner_of_event T (WsBinary c) = Some c
owner_of_event T (WsClosed c) = Some c
owner_of_event T (WsBad c) = Some c
owner_of_event T (NoRoom c) = Some c
owner_of_event T (Tick secs) = None
owner_of_event T Stop = None

-- None where the child was never started
abbrev pub owner_of_act : List Item → Act → Option ℕ
owner_of_act T (WantClient c) = Some c
owner_of_act T (Write c bytes) = Some c
owner_of_act T (Shut c why) = Some c
owner_of_act T (Start k c j hop launch) = Some c
owner_of_act T (Feed k bytes) = starter k T
owner_of_act T (EndInput k) = starter k T
owner_of_act T (WantChild k) = starter k T
owner_of_act T (Kill k) = starter k T
owner_of_act T (Release k) = starter k T
owner_of_act T (Upgrade c rest) = Some c
owner_of_act T (SayTexts c texts) = Some c
owner_of_act T (CloseWs c code) = Some c

-- ---- whose the acts are

-- an act of `actor` may stand in a step whose event is of `concerned`, or of all, where acts of connections below
-- `least` may not come any more
abbrev pub may_act : List Item → Option ℕ → ℕ → Option ℕ → Bool
may_act T concerned least None = false
may_act T None least (Some actor) = nat_le least actor && is_known T actor
may_act T (Some c) least (Some actor) = c == actor && is_known T actor

abbrev pub or_least : Option ℕ → ℕ → ℕ
or_least None least = least
or_least (Some c) least = c

abbrev pub are_in_turn : List Item → Option ℕ → ℕ → List Act → Bool
are_in_turn T concerned least [] = true
are_in_turn T concerned least (act ∷ acts) =
    may_act T concerned least (owner_of_act T act)
    && are_in_turn (T ++ Out act ∷ []) concerned (or_least (owner_of_act T act) least) acts

-- A step whose event concerns one connection has acts of that one alone; those of a Tick or Stop come by rising number;
-- and each act is of a connection that was accepted.
abbrev pub owners : Step → Bool
owners s = are_in_turn (heard_of s) (owner_of_event s.before s.event) 0 s.acts

-- ---- the numbers of children

-- the i-th Start of the trace has number i
abbrev pub is_numbered_from : ℕ → List Act → Bool
is_numbered_from n [] = true
is_numbered_from n (Start k c j hop launch ∷ acts) = k == n && is_numbered_from (suc n) acts
is_numbered_from n (act ∷ acts) = is_numbered_from n acts

abbrev pub numbers : Step → Bool
numbers s = is_numbered_from (start_count s.before) s.acts

-- ---- slots

abbrev pub is_full : Why → Bool
is_full Done = false
is_full Gone = false
is_full (Cut cause) = false
is_full Idle = false
is_full Full = true
is_full Stopped = false
is_full NoMemory = false

abbrev pub turns_away : ℕ → Item → Bool
turns_away c (Out (Shut d why)) = c == d && is_full why
turns_away c _ = false

-- A connection is turned away exactly where as many slots were held as may be when it was accepted; and none else is.
abbrev pub is_slot_kept : Site → List Item → Event → List Act → Bool
is_slot_kept site T (Accepted peer) acts = given (turns_away (accepted_count T)) acts == once (nat_le site.limits.connections (slots_held T))
is_slot_kept site T _ acts = true

abbrev pub slots : Site → Step → Bool
slots site s = is_slot_kept site s.before s.event s.acts

pub record BetweenGood (site : Site) (s : Step) : Type 0 where
  pub numbers : numbers s ≡ true
  pub owners : owners s ≡ true
  pub slots : slots site s ≡ true
