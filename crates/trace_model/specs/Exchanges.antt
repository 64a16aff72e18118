-- How the items of a connection fall into exchanges: one ends with the item by which its whole answer stands and all its
-- children are settled, and what comes then belongs to the next.
use Rattle.std.specs.Prelude.{ℕ, ◌+◌, Bool, true, false, ◌||◌, List, [], ◌∷◌, ◌++◌, drop}
use Rattle.host_base.specs.declared.site.Site.{Site}
use Rattle.host_trace.specs.declared.items.Item.{Item}
use Rattle.host_trace.specs.Account.{has_unsettled}
use Rattle.request_reader.specs.Request.{used_by}
use Rattle.trace_model.specs.Exchange.{Exchange, first_exchange, pushed, request_bytes, reading}
use Rattle.trace_model.specs.Closes.{closes}
use Rattle.trace_model.specs.Standing.{stands_whole}

-- by whether a child of it is unsettled
abbrev pub ends_by : Site → ℕ → Exchange → Bool → Bool
ends_by site c e true = false
ends_by site c e false = stands_whole site c e

abbrev pub has_ended : Site → ℕ → Exchange → Bool
has_ended site c e = ends_by site c e (has_unsettled e.items c)

-- what the client sent and the request didn't use
abbrev pub left_over : Site → ℕ → Exchange → List ℕ
left_over site c e = drop (used_by (reading site c e)) (request_bytes c e)

-- the exchange that follows one that has ended
abbrev pub following : Site → ℕ → Exchange → Exchange
following site c e = record {
  number = e.number + 1;
  before = e.before ++ e.items;
  rest = left_over site c e;
  closed = e.closed || closes site c e;
  items = [];
}

-- ---- one more item

abbrev pub next_by : Site → ℕ → Exchange → Bool → Exchange
next_by site c e true = following site c e
next_by site c e false = e

abbrev pub ended_by : Exchange → Bool → List Exchange
ended_by e true = e ∷ []
ended_by e false = []

-- the exchange that goes on after an item, and the one that ended with it
abbrev pub next_of : Site → ℕ → Exchange → Item → Exchange
next_of site c e x = next_by site c (pushed e x) (has_ended site c (pushed e x))

abbrev pub ended_of : Site → ℕ → Exchange → Item → List Exchange
ended_of site c e x = ended_by (pushed e x) (has_ended site c (pushed e x))

-- ---- some items more

-- the exchange that goes on after them
abbrev pub current_after : Site → ℕ → Exchange → List Item → Exchange
current_after site c e [] = e
current_after site c e (x ∷ items) = current_after site c (next_of site c e x) items

-- the exchanges that ended with one of them, in order
abbrev pub ended_after : Site → ℕ → Exchange → List Item → List Exchange
ended_after site c e [] = []
ended_after site c e (x ∷ items) = ended_of site c e x ++ ended_after site c (next_of site c e x) items

-- ---- all items of a connection

abbrev pub current : Site → ℕ → List Item → Exchange
current site c L = current_after site c first_exchange L

abbrev pub ended : Site → ℕ → List Item → List Exchange
ended site c L = ended_after site c first_exchange L

abbrev pub exchanges : Site → ℕ → List Item → List Exchange
exchanges site c L = ended site c L ++ current site c L ∷ []
