-- What a connection is that speaks HTTP or WebSocket, and what a step makes of it.
use Rattle.std.specs.Prelude.{ℕ, ◌≡◌, ◌≤◌, Bool, true, false, not, ◌||◌, List, Option, Some, None, is_some}
use Rattle.host_base.specs.declared.site.Site.{Site}
use Rattle.host_trace.specs.declared.items.Event.{Event}
use Rattle.host_trace.specs.declared.items.Item.{Item}
use Rattle.conn_flags.specs.View.{fresh}
use Rattle.http_conn.specs.HttpConn.{HttpConn}
use Rattle.http_conn.specs.declared.conn.Onward.{Onward}
use Rattle.http_conn.specs.declared.conn.Onward.TheVariants as To
use Rattle.http_conn.specs.Fits.{fits_conn as http_fits}
use Rattle.http_conn.specs.Kept.{flags_of, number_of as http_number, site_of as http_site}
use Rattle.http_conn.specs.Kid.{last_child_of as http_last_child}
use Rattle.http_conn.specs.New.{IsNew as IsNewConn}
use Rattle.http_conn.specs.Opens.{Missed, Opened}
use Rattle.http_conn.specs.Slot.{unsettled_child_of as http_child}
use Rattle.http_conn.specs.Step.{Stepped as HttpStepped}
use Rattle.talk_conn.specs.declared.conn.TalkConn.{TalkConn}
use Rattle.talk_conn.specs.Slot.{unsettled_child_of as talk_child, fits_talk, is_held as holds_talk, last_child_of as talk_last_child}
use Rattle.talk_conn.specs.Step.{Stepped as TalkStepped}
use Rattle.talk_conn.specs.View.{IsTalk, number_of as talk_number, site_of as talk_site}
use Rattle.conn_phase.specs.declared.phase.Phase.{Phase}
use Rattle.conn_phase.specs.declared.phase.Phase.TheVariants.{Http, Talk, Shut}

abbrev pub site_of : Phase → Site
site_of (Http conn) = http_site conn
site_of (Talk talk) = talk_site talk
site_of (Shut site c) = site.now

abbrev pub number_of : Phase → ℕ
number_of (Http conn) = http_number conn
number_of (Talk talk) = talk_number talk
number_of (Shut site c) = c

abbrev pub last_child_of : Phase → Option ℕ
last_child_of (Http conn) = http_last_child conn
last_child_of (Talk talk) = Some (talk_last_child talk)
last_child_of (Shut site c) = None

abbrev pub unsettled_child_of : Phase → Option ℕ
unsettled_child_of (Http conn) = http_child conn
unsettled_child_of (Talk talk) = talk_child talk
unsettled_child_of (Shut site c) = None

abbrev pub fits_phase : Phase → Event → Bool
fits_phase (Http conn) ev = http_fits conn ev
fits_phase (Talk talk) ev = fits_talk talk ev
fits_phase (Shut site c) ev = false

abbrev pub is_held : Phase → Bool
is_held (Http conn) = not (flags_of conn).shut || is_some (http_child conn)
is_held (Talk talk) = holds_talk talk
is_held (Shut site c) = false

-- it is a connection that was not accepted yet
abbrev pub IsNew : Site → ℕ → Phase → Type 0
IsNew site c (Http conn) = (http_site conn ≡ site) × (http_number conn ≡ c) × (flags_of conn ≡ fresh c) × (2 ≤ site.limits.head → IsNewConn conn)
IsNew site c (Talk talk) = ⊥
IsNew site c (Shut of d) = ⊥

-- its talk is its own, and the program of a WebSocket runs as one
abbrev pub may_step : Phase → Type 0
may_step (Http conn) = Unit {0}
may_step (Talk talk) = IsTalk talk
may_step (Shut site c) = Unit {0}

-- what a step of a connection that speaks HTTP came to
abbrev pub GoesOn : Onward → Site → ℕ → Phase → Phase → Type 0
GoesOn To.Http site c old new = new ≡ old
GoesOn (To.Talk talk) site c old new = new ≡ Talk talk
GoesOn To.Shut site c old (Http conn) = ⊥
GoesOn To.Shut site c old (Talk talk) = ⊥
GoesOn To.Shut site c old (Shut of d) = (of.now ≡ site) × (d ≡ c)

-- its program was not started
pub record Ends (old : HttpConn) (ev : Event) (stamp : Option ℕ) (n : ℕ) (before : Option (List Item)) (site : Site) (c m : ℕ) (after : Option (List Item)) : Type 0 where
  pub left : HttpConn
  pub missed : Missed old ev stamp n before left m after
  pub site_is : site ≡ http_site left
  pub number : c ≡ http_number left

-- A connection that speaks HTTP goes on so, or speaks WebSocket from the step on, or is over; one that speaks WebSocket
-- goes on so; and one that is over does nothing.
abbrev pub Steps : Phase → Event → Option ℕ → ℕ → Option (List Item) → Phase → ℕ → Option (List Item) → Type 0
Steps (Http old) ev stamp n before (Http new) m after = HttpStepped old ev stamp n before new m after
Steps (Http old) ev stamp n before (Talk talk) m after = Opened old ev stamp n before talk m after
Steps (Http old) ev stamp n before (Shut site c) m after = Ends old ev stamp n before site.now c m after
Steps (Talk old) ev stamp n before (Talk new) m after = (m ≡ n) × TalkStepped old ev before new after
Steps (Talk old) ev stamp n before (Http new) m after = ⊥
Steps (Talk old) ev stamp n before (Shut site c) m after = ⊥
Steps (Shut site c) ev stamp n before new m after = (new ≡ Shut site c) × (m ≡ n) × (after ≡ before)
