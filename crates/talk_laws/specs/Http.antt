-- What is known of a connection until it speaks WebSocket.
use Rattle.std.specs.Prelude.{ℕ, ◌≡◌, ◌≤◌, ◌+◌, Bool, true, false, ◌||◌, List, count_by}
use Rattle.std.specs.List.{list_any}
use Rattle.host_base.specs.declared.site.Site.{Site}
use Rattle.host_trace.specs.declared.items.Act.{Act}
use Rattle.host_trace.specs.declared.items.Act.TheVariants.{CloseWs, Says, Upgrade, WantClient}
use Rattle.host_trace.specs.declared.items.Event.{Event}
use Rattle.host_trace.specs.declared.items.Item.{Item}
use Rattle.host_trace.specs.declared.items.Item.TheVariants.{In, Out}
use Rattle.host_trace.specs.Kinds.{is_client_answer, is_client_gone, is_no_room, is_stop, is_want_client, is_ws_bad}
use Rattle.host_trace.specs.Projections.{client_wanted, upgraded}
use Rattle.own_traces.specs.OwnFits.{fits_own}
use Rattle.trace_model.specs.Closes.{closes}
use Rattle.trace_model.specs.Exchange.{Exchange, all_of, first_exchange, pushed, reading}
use Rattle.trace_model.specs.Exchanges.{following}
use Rattle.trace_model.specs.Readings.{is_whole}
use Rattle.talk_core.specs.Laws.{is_of_talk}

-- the client answers what it was asked alone, and is asked once at a time
pub record AskedInTurn (c : ℕ) (L : List Item) : Type 0 where
  pub answered : count_by (is_client_answer c) L ≤ count_by (is_want_client c) L
  pub once : count_by (is_want_client c) L ≤ count_by (is_client_answer c) L + 1

-- No WebSocket is spoken, and nothing of one stands; and a question to the client stands only where its request is not whole
-- yet, or an earlier answer closes the connection.
pub record SpeaksHttp (site : Site) (c : ℕ) (e : Exchange) : Type 0 where
  pub http : upgraded (all_of e) c ≡ false
  pub untalked : list_any (is_of_talk c) (all_of e) ≡ false
  pub once : AskedInTurn c (all_of e)
  pub unasked : client_wanted (all_of e) c ≡ true → e.closed ≡ false → is_whole (reading site c e) ≡ false

-- the server is to end, or the client is gone or can't be heard
abbrev pub is_parting : ℕ → Item → Bool
is_parting c x = is_stop x || is_client_gone c x || is_ws_bad c x || is_no_room c x

-- So it is at first, ..
abbrev pub FirstSpeaksHttp : Type 0
FirstSpeaksHttp = (site : Site) (c : ℕ) → SpeaksHttp site c first_exchange

-- .. with each event that fits, ..
abbrev pub EventsKeepHttp : Type 0
EventsKeepHttp = (site : Site) (c : ℕ) (e : Exchange) (ev : Event) → fits_own site.limits.children (all_of e) ev ≡ true
    → SpeaksHttp site c e → SpeaksHttp site c (pushed e (In ev))

-- .. with each act that is none of a WebSocket, where the client is asked within its request, ..
abbrev pub IsOfHttp : Site → ℕ → Exchange → Act → Type 0
IsOfHttp site c e (WantClient d) = (client_wanted (all_of e) c ≡ false) × (is_whole (reading site c e) ≡ false)
IsOfHttp site c e (Upgrade d rest) = ⊥
IsOfHttp site c e (Says d texts) = ⊥
IsOfHttp site c e (CloseWs d code) = ⊥
IsOfHttp site c e _ = Unit {0}

abbrev pub ActsKeepHttp : Type 0
ActsKeepHttp = (site : Site) (c : ℕ) (e : Exchange) (act : Act) → IsOfHttp site c e act → SpeaksHttp site c e → SpeaksHttp site c (pushed e (Out act))

-- .. and in the exchange that follows one whose answer closes the connection unless its request is whole.
abbrev pub NextSpeaksHttp : Type 0
NextSpeaksHttp = (site : Site) (c : ℕ) (e : Exchange) → ((e.closed || closes site c e) ≡ false → is_whole (reading site c e) ≡ true)
    → SpeaksHttp site c e → SpeaksHttp site c (following site c e)
