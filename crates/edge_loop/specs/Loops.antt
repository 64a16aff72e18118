-- What the outside of one loop remembers, and which event comes next.
use Rattle.std.specs.Prelude.{◌≡◌, ◌≢◌, ℕ, ◌≤◌, ◌<◌, ◌+◌, ◌-◌, ◌^◌, ◌⊎◌, min, true, false, List, [], ◌∷◌, ◌++◌, count_by, Option, Some, None, ⊤}
use Rattle.std.specs.List.{All}
use Rattle.host_base.specs.Outsides.{Rose}
use Rattle.host_base.specs.declared.launch.Launch.{Launch}
use Rattle.host_base.specs.declared.limits.Limits.{Limits}
use Rattle.host_trace.specs.declared.items.Event.{Event}
use Rattle.host_trace.specs.declared.items.Event.TheVariants.{StartFailed, NoRoom, Tick, Stop}
use Rattle.host_trace.specs.declared.items.Act.{Act}
use Rattle.host_trace.specs.declared.items.Act.TheVariants.{WantClient, Write, Shut, Start, Feed, EndInput, WantChild, Kill, Release, Upgrade, Says, CloseWs}
use Rattle.host_trace.specs.declared.outside.Acted.{Acted}
use Rattle.host_trace.specs.declared.outside.Acted.TheVariants.{Done, NoRoom as HasNoRoom}
use Rattle.host_trace.specs.Told.{is_failure, is_full_book}
use Rattle.child_edge.specs.Kids.{KidTells}
use Rattle.child_edge.specs.declared.starts.StartCounts.{StartCounts}
use Rattle.child_edge.specs.declared.row.Row.{Row}
use Rattle.child_edge.specs.Rows.{OneSays, Each, Rests, kept, is_kept}
use Rattle.child_edge.specs.Starts.{Between, Repeats}
use Rattle.booked_children.specs.Booked.{BookedState, Begins, Refuses, ChildrenDo}
use Rattle.socket_set.specs.Sets.{SetState, Tells, IsQuiet as IsQuietSet, Counted as CountedBySet, Acts as SetActs, OnEach, clients, is_open_at}
use Rattle.socket_set.specs.Clients.{EndsHearing}
use Rattle.edge_loop.specs.Orders.{no_end, ticked, ordered_by, stopped_by}
use Rattle.edge_loop.specs.declared.orders.Order.{Order}
use Rattle.edge_loop.specs.declared.orders.Order.TheVariants.{Stop as StopNow, Drain}
use Rattle.edge_loop.specs.declared.asked.Asked.{Asked}
use Rattle.edge_loop.specs.declared.ending.Ending.{Ending}

pub record LoopState (K : Type 0) : Type 0 where
  -- the clients
  pub set : SetState
  -- what is kept of each child, how many may be kept, and how their starts were answered
  pub rows : List (Row K)
  pub room : ℕ
  pub tried : StartCounts
  -- the children that are to be started, the first to be asked for first
  pub starts : List Asked
  -- a child that found no memory, until it is told not to have been started
  pub unstarted : Option ℕ
  pub ending : Ending
  -- how often the book was full, and how often a child failed
  pub full : ℕ
  pub child_faults : ℕ
  -- how many children may run
  pub limit : ℕ

-- how often something failed
abbrev pub faults_of : {K : Type 0} → LoopState K → ℕ
faults_of s = min (s.set.faults + s.child_faults) (2 ^ 64 - 1)

-- how the end goes on after an event of a client or of the clock
abbrev pub ending_after : Event → Ending → Ending
ending_after (Tick secs) ending = ticked ending
ending_after _ ending = ending

-- the child for which no memory was found
abbrev pub unstarted_by : Event → ℕ → Option ℕ → Option ℕ
unstarted_by (NoRoom c) k before = Some k
unstarted_by _ k before = before

-- client c is open no more, and the others are as they were
pub record Closes (c : ℕ) (old new : SetState) : Type 0 where
  pub shut : is_open_at (clients new c) ≡ false
  pub others : (d : ℕ) → d ≢ c → clients new d ≡ clients old d
  pub accepted : new.accepted ≡ old.accepted
  pub listening : new.listening ≡ old.listening

-- each client that is there was shut
abbrev pub NoneOpen : SetState → Type 0
NoneOpen set = (c : ℕ) → c < set.accepted → is_open_at (clients set c) ≡ false

-- What an order does to the clients: no further one is accepted, and before a quiet end each that speaks no WebSocket is
-- heard to end.
abbrev pub SetObeys : Order → SetState → SetState → Type 0
SetObeys StopNow old new = new ≡ record old { listening = false }
SetObeys Drain old new = OnEach EndsHearing (record old { listening = false }) new

-- NoRoom is told of a connection that is open
abbrev pub TellsOpen : Event → SetState → Type 0
TellsOpen (NoRoom c) set = is_open_at (clients set c) ≡ true
TellsOpen _ set = ⊤

module _ {K : Type 0} where
  -- the children of a loop
  abbrev pub booked : LoopState K → BookedState K
  booked s = record { rows = s.rows; room = s.room; tried = s.tried }

  -- no client, no child, and nothing was ordered; so many children may be kept, and so many may run
  pub record IsNew (set : SetState) (room limit : ℕ) (s : LoopState K) : Type 0 where
    pub set_is : s.set ≡ set
    pub rows : s.rows ≡ []
    pub room_is : s.room ≡ room
    pub starts : s.starts ≡ []
    pub unstarted : s.unstarted ≡ None
    pub ending : s.ending ≡ no_end
    pub counts : (s.full ≡ 0) × (s.child_faults ≡ 0)
    pub limit_is : s.limit ≡ limit

  -- nobody was let in and may be, no child was asked for, nothing was ordered, and nothing failed
  pub record IsFresh (s : LoopState K) : Type 0 where
    pub nobody : (s.set.rows ≡ []) × (s.set.accepted ≡ 0) × (s.set.ticked ≡ 0)
    pub listening : s.set.listening ≡ true
    pub none_kept : s.rows ≡ []
    pub none_asked : (s.starts ≡ []) × (s.unstarted ≡ None)
    pub ending : s.ending ≡ no_end
    pub counts : (s.set.faults ≡ 0) × (s.full ≡ 0) × (s.child_faults ≡ 0)

  -- as many children may run, and be kept, as the limits say: those of all loops, and one for each connection of the loop
  pub record IsLimited (limits : Limits) (s : LoopState K) : Type 0 where
    pub runs : s.limit ≡ limits.children
    pub kept : s.room ≡ limits.connections

  -- nothing of a child was told, and those that are settled may be gone
  abbrev pub ChildrenRest : (K → KidTells) → List (Row K) → List (Row K) → Type 0
  ChildrenRest tells rows now = (now ≡ rows) ⊎ Each (Rests tells) (kept rows) now

  -- what is to be told besides of clients and of children that run is the same, and no child was tried to be started
  pub record SameDue (old new : LoopState K) : Type 0 where
    pub starts : new.starts ≡ old.starts
    pub unstarted : new.unstarted ≡ old.unstarted
    pub tried : new.tried ≡ old.tried

  -- counts never fall, and each failure of the ports is counted
  pub record Counts (old new : LoopState K) : Type 0 where
    pub limit : new.limit ≡ old.limit
    pub room : new.room ≡ old.room
    pub set : CountedBySet old.set new.set
    pub children : old.child_faults ≤ new.child_faults
    pub full : old.full ≤ new.full

  -- nothing was told
  pub record IsQuiet (tells : K → KidTells) (old new : LoopState K) : Type 0 where
    pub set : IsQuietSet old.set new.set
    pub rows : ChildrenRest tells old.rows new.rows
    pub due : SameDue old new
    pub ending : new.ending ≡ old.ending

  -- an event of failure comes only where a count of faults rose, and a full book only where that was counted
  pub record Counted (event : Event) (old new : LoopState K) : Type 0 where
    pub counts : Counts old new
    pub failure : is_failure event ≡ true → Rose old.set.faults new.set.faults ⊎ Rose old.child_faults new.child_faults
    pub full_book : is_full_book event ≡ true → Rose old.full new.full

  -- a client or the clock gave the event, by its clauses
  pub record OfClient (tells : K → KidTells) (event : Event) (old new : LoopState K) : Type 0 where
    pub says : Tells event old.set new.set
    pub rows : ChildrenRest tells old.rows new.rows
    pub due : SameDue old new
    pub ending : new.ending ≡ ending_after event old.ending

  -- one child that was kept gave the event, by its clauses
  pub record OfChild (tells : K → KidTells) (event : Event) (old new : LoopState K) : Type 0 where
    pub says : OneSays tells event (kept old.rows) new.rows
    pub set : IsQuietSet old.set new.set
    pub due : SameDue old new
    pub ending : new.ending ≡ old.ending

  -- nothing is under way: no child is kept, none is to be started, no client is open, and nothing waits to be sent
  pub record IsStill (s : LoopState K) : Type 0 where
    pub none_kept : count_by is_kept s.rows ≡ 0
    pub none_asked : s.starts ≡ []
    pub none_open : All (λ row. row.1.shut ≡ true) s.set.rows
    pub sent : All (λ row. row.1.outgoing ≡ []) s.set.rows

  -- no child is kept, no further client is accepted, and each that is there was shut: what is unsent to one that takes none
  -- of it is given up in its time
  pub record IsHalted (s : LoopState K) : Type 0 where
    pub none_kept : s.rows ≡ []
    pub deaf : s.set.listening ≡ false
    pub closed : NoneOpen s.set

  -- nothing waits to be sent
  pub record IsSent (s : LoopState K) : Type 0 where
    pub sent : All (λ row. row.1.outgoing ≡ []) s.set.rows

  -- an end was ordered, or a quiet end that is reached, or was ordered 300 ticks ago
  abbrev pub EndsBy : LoopState K → Type 0
  EndsBy s = (s.ending.ordered ≡ true) ⊎ ((s.ending.draining ≡ true) × (IsStill s ⊎ (300 ≤ s.ending.ticks)))

  -- .. and Stop was not given
  pub record IsStopDue (s : LoopState K) : Type 0 where
    pub first : s.ending.stopped ≡ false
    pub cause : EndsBy s

  -- Stop is given, for that cause and for the first time
  pub record OfOrder (tells : K → KidTells) (event : Event) (old new : LoopState K) : Type 0 where
    pub is_stop : event ≡ Stop
    pub set : IsQuietSet old.set new.set
    pub rows : ChildrenRest tells old.rows new.rows
    pub due : SameDue old new
    pub first : old.ending.stopped ≡ false
    pub ending : new.ending ≡ stopped_by old.ending
    pub cause : EndsBy new

  -- Why a start is refused. Where no memory was found for it, and its connection is over, it is told not to have been
  -- started.
  abbrev pub Answers : ℕ → ℕ → Event → LoopState K → LoopState K → Type 0
  Answers k c event old new =
      Refuses k c event (booked old) (booked new)
      ⊎ ((event ≡ StartFailed k) × (is_open_at (clients old.set c) ≡ false) × Refuses k c (NoRoom c) (booked old) (booked new))

  -- a start was refused
  pub record IsRefused (asked : Asked) (event : Event) (old new : LoopState K) : Type 0 where
    pub answers : Answers asked.k asked.c event old new
    pub unstarted : new.unstarted ≡ unstarted_by event asked.k old.unstarted
    pub starts : new.starts ≡ old.starts
    pub set : new.set ≡ old.set
    pub ending : new.ending ≡ old.ending

  -- a start was handed over, and nothing of it is told yet
  pub record IsBegun (tells : K → KidTells) (asked : Asked) (old new : LoopState K) : Type 0 where
    pub begins : Begins tells asked.k asked.c asked.launch None (booked old) (booked new)
    pub unstarted : new.unstarted ≡ old.unstarted
    pub starts : new.starts ≡ old.starts
    pub set : new.set ≡ old.set
    pub ending : new.ending ≡ old.ending

  -- no memory was found for child k, which is told of its connection c, or else that it was not started
  abbrev pub ToldNoRoom : ℕ → ℕ → Event → LoopState K → LoopState K → Type 0
  ToldNoRoom k c event old new =
      ((is_open_at (clients old.set c) ≡ true) × (event ≡ NoRoom c) × (new ≡ record old { unstarted = Some k }))
      ⊎ ((is_open_at (clients old.set c) ≡ false) × (event ≡ StartFailed k) × (new ≡ record old { child_faults = new.child_faults }))

  -- the start of the first child that was asked for was refused, once all before it were answered or handed over
  pub record OfStart (event : Event) (old new : LoopState K) : Type 0 where
    pub asked : Asked
    pub answered : old.unstarted ≡ None
    pub first : old.starts ≡ asked ∷ new.starts
    pub answers : Answers asked.k asked.c event old new
    pub reachable : TellsOpen event old.set
    pub unstarted : new.unstarted ≡ unstarted_by event asked.k old.unstarted
    pub set : new.set ≡ old.set
    pub ending : new.ending ≡ old.ending

  -- .. or it was handed over
  pub record HandsOver (tells : K → KidTells) (old new : LoopState K) : Type 0 where
    pub asked : Asked
    pub answered : old.unstarted ≡ None
    pub first : old.starts ≡ asked ∷ new.starts
    pub begins : Begins tells asked.k asked.c asked.launch None (booked old) (booked new)
    pub unstarted : new.unstarted ≡ None
    pub set : new.set ≡ old.set
    pub ending : new.ending ≡ old.ending

  -- a child found no memory
  pub record OfUnstarted (event : Event) (old new : LoopState K) : Type 0 where
    pub k : ℕ
    pub found_none : old.unstarted ≡ Some k
    pub event_is : event ≡ StartFailed k
    pub told : new ≡ record old { unstarted = None; child_faults = new.child_faults }

  -- what is due before anything is waited for
  abbrev pub IsDue : Event → LoopState K → LoopState K → Type 0
  IsDue event old new = OfUnstarted event old new ⊎ OfStart event old new

  -- what is waited for
  abbrev pub IsHeard : (K → KidTells) → Event → LoopState K → LoopState K → Type 0
  IsHeard tells event old new = OfClient tells event old new ⊎ OfChild tells event old new ⊎ OfOrder tells event old new

  -- every start was answered or handed over
  pub record HasNoneDue (s : LoopState K) : Type 0 where
    pub unstarted : s.unstarted ≡ None
    pub starts : s.starts ≡ []

  -- starts that were asked for were handed over, up to one that is refused, or none where a child found no memory
  abbrev pub IsTold : (K → KidTells) → Event → LoopState K → LoopState K → Type 0
  IsTold tells event old new = Between (λ mid. Repeats (HandsOver tells) old mid) (λ mid. IsDue event mid new)

  -- all starts that were asked for were handed over
  pub record AllHanded (tells : K → KidTells) (old new : LoopState K) : Type 0 where
    pub handed : Repeats (HandsOver tells) old new
    pub none_due : HasNoneDue new

  -- The event is owed: it has a cause in what was asked, heard and ordered, and is told once. What is due comes before
  -- what is waited for, and so does each start that was asked for.
  abbrev pub IsOwed : (K → KidTells) → Event → LoopState K → LoopState K → Type 0
  IsOwed tells event old new =
      IsTold tells event old new ⊎ Between (λ mid. AllHanded tells old mid) (λ mid. IsHeard tells event mid new)

  -- an order was heard
  pub record Obeys (order : Order) (old new : LoopState K) : Type 0 where
    pub set : SetObeys order old.set new.set
    pub is_now : new ≡ record old { ending = ordered_by order old.ending; set = new.set }

  -- an order was heard, if one came
  abbrev pub TakesOrder : LoopState K → LoopState K → Type 0
  TakesOrder old new = (new ≡ old) ⊎ ((order : Order) × Obeys order old new)

  -- an order was heard, if one came, and then the event is owed
  pub record OwedAfterOrder (tells : K → KidTells) (event : Event) (old new : LoopState K) : Type 0 where
    pub mid : LoopState K
    pub ordered : TakesOrder old mid
    pub owed : IsOwed tells event mid new

  -- ---- acts

  -- a child is to be started, behind the others
  pub record Asks (k c : ℕ) (launch : Launch) (old new : LoopState K) : Type 0 where
    pub asked : Asked
    pub number : asked.k ≡ k
    pub connection : asked.c ≡ c
    pub launch_is : asked.launch ≡ launch
    pub added : new ≡ record old { starts = old.starts ++ asked ∷ [] }

  -- the children were changed so, and nothing else
  pub record OnChildren (R : List (Row K) → List (Row K) → Type 0) (old new : LoopState K) : Type 0 where
    pub changed : R old.rows new.rows
    pub same : new ≡ record old { rows = new.rows }

  -- the clients were changed so, and nothing else
  pub record OnClients (R : SetState → SetState → Type 0) (old new : LoopState K) : Type 0 where
    pub changed : R old.set new.set
    pub same : new ≡ record old { set = new.set }

  abbrev pub Starts : ℕ → ℕ → Launch → Acted → LoopState K → LoopState K → Type 0
  Starts k c launch Done old new = Asks k c launch old new
  Starts k c launch HasNoRoom old new = new ≡ old

  -- what an act does; one that finds no room does nothing
  abbrev pub Acts : (K → KidTells) → Act → Acted → LoopState K → LoopState K → Type 0
  Acts tells (Start k c j hop launch) acted old new = Starts k c launch acted old new
  Acts tells (Feed k bytes) acted old new = OnChildren (ChildrenDo tells (Feed k bytes) acted) old new
  Acts tells (EndInput k) acted old new = OnChildren (ChildrenDo tells (EndInput k) acted) old new
  Acts tells (WantChild k) acted old new = OnChildren (ChildrenDo tells (WantChild k) acted) old new
  Acts tells (Kill k) acted old new = OnChildren (ChildrenDo tells (Kill k) acted) old new
  Acts tells (Release k) acted old new = OnChildren (ChildrenDo tells (Release k) acted) old new
  Acts tells (Write c bytes) acted old new = OnClients (SetActs (Write c bytes) acted) old new
  Acts tells (Upgrade c rest) acted old new = OnClients (SetActs (Upgrade c rest) acted) old new
  Acts tells (WantClient c) acted old new = OnClients (SetActs (WantClient c) acted) old new
  Acts tells (Says c texts) acted old new = OnClients (SetActs (Says c texts) acted) old new
  Acts tells (CloseWs c code) acted old new = OnClients (SetActs (CloseWs c code) acted) old new
  Acts tells (Shut c why) acted old new = OnClients (SetActs (Shut c why) acted) old new
