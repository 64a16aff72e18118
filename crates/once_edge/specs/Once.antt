-- What the outside of one connection remembers, and which event comes next.
use Rattle.std.specs.Prelude.{◌≡◌, ℕ, ◌≤◌, ◌⊎◌, Bool, true, false, List, [], ◌∷◌, ◌++◌, length, sum_by, count_by, Option, Some, None, codes}
use Rattle.host_base.specs.Outsides.{Rose}
use Rattle.host_base.specs.declared.launch.Launch.{Launch}
use Rattle.host_base.specs.declared.launch.Peer.{Peer}
use Rattle.host_trace.specs.declared.items.Event.{Event}
use Rattle.host_trace.specs.declared.items.Event.TheVariants.{Accepted, StartFailed, NoRoom, Stop}
use Rattle.host_trace.specs.declared.items.Act.{Act}
use Rattle.host_trace.specs.declared.items.Act.TheVariants.{WantClient, Write, Shut, Start, Feed, EndInput, WantChild, Kill, Release, Upgrade, Says as SaysTexts, CloseWs}
use Rattle.host_trace.specs.declared.items.Item.{Item}
use Rattle.host_trace.specs.declared.outside.Acted.{Acted}
use Rattle.host_trace.specs.declared.world.Entry.{Entry}
use Rattle.host_trace.specs.declared.outside.Acted.TheVariants.{Done, NoRoom as HasNoRoom}
use Rattle.host_trace.specs.Told.{is_failure}
use Rattle.child_edge.specs.Kids.{KidTells}
use Rattle.child_edge.specs.declared.row.Row.{Row}
use Rattle.child_edge.specs.Rows.{OneSays, Each, Rests, OnKept, Feeds, Changes, Kills, Releases, StartsRow, want_marks, end_marks, kept, is_kept, runs}
use Rattle.child_edge.specs.declared.starts.StartCounts.{StartCounts}
use Rattle.child_edge.specs.Starts.{Between, Repeats, no_starts, has_started, has_failed, has_wanted}
use Rattle.socket_set.specs.Clients.{ClientState, Says, Rests as ClientRests, IsNewClient, UnlessShut, WantsMore, Writes, Upgrades, Frames, Shuts}
use Rattle.socket_set.specs.Sockets.{SocketTells}
use Rattle.once_edge.specs.declared.asked.Asked.{Asked}

pub record OnceState (K : Type 0) : Type 0 where
  -- the client
  pub client : ClientState
  -- what is kept of each child, and how many may be
  pub rows : List (Row K)
  pub room : ℕ
  -- how the starts of children were answered, and how often what starts them failed
  pub tried : StartCounts
  pub failed : ℕ
  -- the client that connected, until that is told
  pub peer : Option Peer
  -- the children that are to be started, the first to be asked for first
  pub starts : List Asked
  -- a child that found no memory, until it is told not to have been started
  pub unstarted : Option ℕ
  -- the client failed, so what waits for it is not sent
  pub cut : Bool
  -- Stop was told
  pub stopped : Bool
  -- how many children may run
  pub limit : ℕ
  pub faults : ℕ

-- it tells no trace, and its world none that were given back and not what it was entered for
abbrev pub untold : {A : Type 0} → A → Option (List Item)
untold _ = None

abbrev pub none_given : {A : Type 0} → A → Option (List (List Item))
none_given _ = None

abbrev pub none_entered : {A : Type 0} → A → Option (List Entry)
none_entered _ = None

-- how often it found as many children as may run
abbrev pub none_full : {A : Type 0} → A → ℕ
none_full _ = 0

-- an act on a child that runs, and an act on the client
abbrev pub is_on_child : Act → Bool
is_on_child (Feed k bytes) = true
is_on_child (EndInput k) = true
is_on_child (WantChild k) = true
is_on_child (Kill k) = true
is_on_child (Release k) = true
is_on_child _ = false

abbrev pub is_on_client : Act → Bool
is_on_client (Write c bytes) = true
is_on_client (Upgrade c rest) = true
is_on_client (WantClient c) = true
is_on_client (SaysTexts c texts) = true
is_on_client (CloseWs c code) = true
is_on_client (Shut c why) = true
is_on_client _ = false

-- the client is cut off only where a count of faults rose
abbrev pub CutCounts : Bool → Bool → ℕ → ℕ → Type 0
CutCounts before now old new = (now ≡ before) ⊎ Rose old new

-- the child for which no memory was found
abbrev pub unstarted_by : Event → ℕ → Option ℕ → Option ℕ
unstarted_by (NoRoom c) k before = Some k
unstarted_by _ k before = before

module _ {K : Type 0} where
  -- a client that connected, to whom nothing was told or written, and no child
  pub record IsNew (socket : SocketTells) (peer : Peer) (limit : ℕ) (s : OnceState K) : Type 0 where
    pub client : IsNewClient socket s.client
    pub rows : s.rows ≡ []
    pub untried : s.tried ≡ no_starts
    pub connected : s.peer ≡ Some peer
    pub starts : s.starts ≡ []
    pub unstarted : s.unstarted ≡ None
    pub not_cut : s.cut ≡ false
    pub not_stopped : s.stopped ≡ false
    pub limit_is : s.limit ≡ limit
    pub faults : s.faults ≡ 0

  -- a client at 127.0.0.1 that connected, and nothing else
  pub record IsFresh (s : OnceState K) : Type 0 where
    pub who : Peer
    pub at : who.0 ≡ codes "127.0.0.1"
    pub socket : SocketTells
    pub children : ℕ
    pub is_new : IsNew socket who children s

  -- nothing of a child was told, and those that are settled may be gone
  abbrev pub ChildrenRest : (K → KidTells) → List (Row K) → List (Row K) → Type 0
  ChildrenRest tells rows now = (now ≡ rows) ⊎ Each (Rests tells) (kept rows) now

  -- what is to be told besides of the client and of children that run is the same, and no child was tried to be started
  pub record SameDue (old new : OnceState K) : Type 0 where
    pub peer : new.peer ≡ old.peer
    pub starts : new.starts ≡ old.starts
    pub unstarted : new.unstarted ≡ old.unstarted
    pub tried : new.tried ≡ old.tried
    pub stopped : new.stopped ≡ old.stopped

  -- nothing was told
  pub record IsQuiet (tells : K → KidTells) (old new : OnceState K) : Type 0 where
    pub client : ClientRests old.client new.client
    pub rows : ChildrenRest tells old.rows new.rows
    pub due : SameDue old new

  -- counts never fall, and each failure is counted
  pub record Counts (old new : OnceState K) : Type 0 where
    pub limit : new.limit ≡ old.limit
    pub room : new.room ≡ old.room
    pub grown : old.faults ≤ new.faults
    pub cut : CutCounts old.cut new.cut old.faults new.faults

  -- the client gave the event, by its clauses
  pub record OfClient (tells : K → KidTells) (event : Event) (old new : OnceState K) : Type 0 where
    pub says : Says 0 old.client new.client event
    pub rows : ChildrenRest tells old.rows new.rows
    pub due : SameDue old new

  -- one child that was kept gave the event, by its clauses
  pub record OfChild (tells : K → KidTells) (event : Event) (old new : OnceState K) : Type 0 where
    pub says : OneSays tells event (kept old.rows) new.rows
    pub client : ClientRests old.client new.client
    pub due : SameDue old new

  -- the client was shut, every child that was started was told to have exited, none is to be started, what was written
  -- left for the client unless that failed, and this was not told before
  pub record IsOver (tells : K → KidTells) (old new : OnceState K) : Type 0 where
    pub quiet : IsQuiet tells old (record new { stopped = false })
    pub untold : old.stopped ≡ false
    pub told : new.stopped ≡ true
    pub shut : new.client.shut ≡ true
    pub none_runs : count_by runs new.rows ≡ 0
    pub none_asked : new.starts ≡ []
    pub sent : (new.client.outgoing ≡ []) ⊎ (new.cut ≡ true)

  -- as many children were kept as may be, and none was tried to be started
  pub record HadNoRoom (old new : OnceState K) : Type 0 where
    pub full : old.room ≤ count_by is_kept old.rows
    pub rows : new.rows ≡ old.rows
    pub tried : new.tried ≡ old.tried

  -- a child was tried to be started, once, which failed
  pub record StartFails (old new : OnceState K) : Type 0 where
    pub tried : new.tried ≡ has_failed old.tried
    pub cause : Rose old.failed new.failed
    pub rows : new.rows ≡ kept old.rows

  -- .. or for which no memory was found
  pub record StartWants (old new : OnceState K) : Type 0 where
    pub tried : new.tried ≡ has_wanted old.tried
    pub rows : new.rows ≡ kept old.rows

  -- Why the start of child k of connection c is refused, by what it did to the children. Where no memory was found, NoRoom
  -- is told, and where the client was shut, StartFailed.
  abbrev pub Refuses : ℕ → ℕ → Event → OnceState K → OnceState K → Type 0
  Refuses k c (StartFailed j) old new =
      (j ≡ k) × (HadNoRoom old new ⊎ StartFails old new ⊎ ((old.client.shut ≡ true) × StartWants old new))
  Refuses k c (NoRoom d) old new = (d ≡ c) × (old.client.shut ≡ false) × StartWants old new
  Refuses k c _ old new = ⊥

  -- the start of child k of connection c by a launch was handed over, and nothing of it is told yet
  pub record Begins (tells : K → KidTells) (k c : ℕ) (launch : Launch) (old new : OnceState K) : Type 0 where
    pub tried : new.tried ≡ has_started old.tried
    pub row : StartsRow tells k c launch (kept old.rows) new.rows

  -- what a start leaves as it was
  pub record SameRest (old new : OnceState K) : Type 0 where
    pub client : new.client ≡ old.client
    pub peer : new.peer ≡ old.peer
    pub stopped : new.stopped ≡ old.stopped

  -- a start was refused
  pub record IsRefused (asked : Asked) (event : Event) (old new : OnceState K) : Type 0 where
    pub refuses : Refuses asked.k asked.c event old new
    pub unstarted : new.unstarted ≡ unstarted_by event asked.k old.unstarted
    pub starts : new.starts ≡ old.starts
    pub rest : SameRest old new

  -- a start was handed over
  pub record IsBegun (tells : K → KidTells) (asked : Asked) (old new : OnceState K) : Type 0 where
    pub begins : Begins tells asked.k asked.c asked.launch old new
    pub unstarted : new.unstarted ≡ old.unstarted
    pub starts : new.starts ≡ old.starts
    pub rest : SameRest old new

  -- the start of the first child that was asked for was refused, once all before it were answered or handed over
  pub record OfStart (event : Event) (old new : OnceState K) : Type 0 where
    pub asked : Asked
    pub answered : old.unstarted ≡ None
    pub first : old.starts ≡ asked ∷ new.starts
    pub refuses : Refuses asked.k asked.c event old new
    pub unstarted : new.unstarted ≡ unstarted_by event asked.k old.unstarted
    pub rest : SameRest old new

  -- .. or it was handed over
  pub record HandsOver (tells : K → KidTells) (old new : OnceState K) : Type 0 where
    pub asked : Asked
    pub answered : old.unstarted ≡ None
    pub first : old.starts ≡ asked ∷ new.starts
    pub begins : Begins tells asked.k asked.c asked.launch old new
    pub unstarted : new.unstarted ≡ None
    pub rest : SameRest old new

  -- the client connected
  pub record OfPeer (event : Event) (old new : OnceState K) : Type 0 where
    pub who : Peer
    pub connected : old.peer ≡ Some who
    pub event_is : event ≡ Accepted who
    pub told : new ≡ record old { peer = None }

  -- a child found no memory
  pub record OfUnstarted (event : Event) (old new : OnceState K) : Type 0 where
    pub k : ℕ
    pub found_none : old.unstarted ≡ Some k
    pub event_is : event ≡ StartFailed k
    pub told : new ≡ record old { unstarted = None; faults = new.faults }

  -- what is due before anything is waited for
  abbrev pub IsDue : Event → OnceState K → OnceState K → Type 0
  IsDue event old new = OfPeer event old new ⊎ OfUnstarted event old new ⊎ OfStart event old new

  -- what is waited for
  abbrev pub IsHeard : (K → KidTells) → Event → OnceState K → OnceState K → Type 0
  IsHeard tells event old new = OfClient tells event old new ⊎ OfChild tells event old new ⊎ ((event ≡ Stop) × IsOver tells old new)

  -- the client was told to have connected, and every start was answered or handed over
  pub record HasNoneDue (s : OnceState K) : Type 0 where
    pub peer : s.peer ≡ None
    pub unstarted : s.unstarted ≡ None
    pub starts : s.starts ≡ []

  -- starts that were asked for were handed over, up to one that is refused, or none where something else is due
  abbrev pub IsTold : (K → KidTells) → Event → OnceState K → OnceState K → Type 0
  IsTold tells event old new = Between (λ mid. Repeats (HandsOver tells) old mid) (λ mid. IsDue event mid new)

  -- all starts that were asked for were handed over
  pub record AllHanded (tells : K → KidTells) (old new : OnceState K) : Type 0 where
    pub handed : Repeats (HandsOver tells) old new
    pub none_due : HasNoneDue new

  -- The event is owed: it has a cause in what was asked and what was heard, and is told once. What is due comes before
  -- what is waited for, and so does each start that was asked for.
  abbrev pub IsOwed : (K → KidTells) → Event → OnceState K → OnceState K → Type 0
  IsOwed tells event old new =
      IsTold tells event old new ⊎ Between (λ mid. AllHanded tells old mid) (λ mid. IsHeard tells event mid new)

  -- an event of failure comes only where the count of faults rose
  pub record Counted (event : Event) (old new : OnceState K) : Type 0 where
    pub counts : Counts old new
    pub failure : is_failure event ≡ true → Rose old.faults new.faults

  -- ---- acts

  -- the client was changed so, and nothing else
  pub record OnClient (R : ClientState → ClientState → Type 0) (old new : OnceState K) : Type 0 where
    pub changed : R old.client new.client
    pub same : new ≡ record old { client = new.client }

  -- the children were changed so, and nothing else; what starts them may have failed to take one back
  pub record OnChildren (R : List (Row K) → List (Row K) → Type 0) (old new : OnceState K) : Type 0 where
    pub changed : R old.rows new.rows
    pub same : new ≡ record old { rows = new.rows; failed = new.failed }
    pub grown : old.failed ≤ new.failed

  -- a child is to be started, behind the others
  pub record Asks (k c : ℕ) (launch : Launch) (old new : OnceState K) : Type 0 where
    pub asked : Asked
    pub number : asked.k ≡ k
    pub connection : asked.c ≡ c
    pub launch_is : asked.launch ≡ launch
    pub added : new ≡ record old { starts = old.starts ++ asked ∷ [] }

  -- What an act does. There is one client, and each act on a client is on that. An act that finds no room does nothing.
  abbrev pub Acts : (K → KidTells) → Act → Acted → OnceState K → OnceState K → Type 0
  Acts tells (Start k c j hop launch) Done old new = Asks k c launch old new
  Acts tells (Write c bytes) Done old new = OnClient (UnlessShut (Writes bytes)) old new
  Acts tells (Upgrade c rest) Done old new = OnClient (UnlessShut Upgrades) old new
  Acts tells (Feed k bytes) Done old new = OnChildren (OnKept (Feeds tells bytes) k) old new
  Acts tells (Feed k bytes) HasNoRoom old new = OnChildren (OnKept (Feeds tells []) k) old new
  Acts tells (WantClient c) Done old new = OnClient (UnlessShut WantsMore) old new
  Acts tells (SaysTexts c texts) Done old new = OnClient (UnlessShut (Frames (sum_by length texts))) old new
  Acts tells (CloseWs c code) Done old new = OnClient (UnlessShut (Frames 0)) old new
  Acts tells (Shut c why) Done old new = OnClient Shuts old new
  Acts tells (EndInput k) Done old new = OnChildren (OnKept (Changes tells end_marks) k) old new
  Acts tells (WantChild k) Done old new = OnChildren (OnKept (Changes tells want_marks) k) old new
  Acts tells (Kill k) Done old new = OnChildren (OnKept (Kills tells) k) old new
  Acts tells (Release k) Done old new = OnChildren (OnKept (Releases tells) k) old new
  Acts tells (Start k c j hop launch) HasNoRoom old new = new ≡ old
  Acts tells (Write c bytes) HasNoRoom old new = new ≡ old
  Acts tells (Upgrade c rest) HasNoRoom old new = new ≡ old
  Acts tells _ HasNoRoom old new = ⊥
