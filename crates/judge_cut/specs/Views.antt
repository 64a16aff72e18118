-- An exchange as a part of its connection's items.
use Rattle.std.specs.Prelude.{ℕ, ◌≡◌, ◌≤◌, ◌-◌, Bool, List, take, drop}
use Rattle.host_trace.specs.declared.items.Item.{Item}
use Rattle.trace_model.specs.Exchange.{Exchange}
use Rattle.judge_cut.specs.declared.cut.View.{View}

-- the items of the connection from one place up to another are its own, those before are before it
abbrev pub exchange_at : List Item → ℕ → List ℕ → Bool → ℕ → ℕ → Exchange
exchange_at own number rest closed start end = record {
  number = number;
  before = take start own;
  rest = rest;
  closed = closed;
  items = take (end - start) (drop start own);
}

abbrev pub exchange_of : View → Exchange
exchange_of v = exchange_at v.own.now v.number v.rest v.closed v.start v.end

-- it has come so far in these items
pub record IsAt (v : View) (L : List Item) (count : ℕ) : Type 0 where
  pub own : v.own.now ≡ L
  pub end : v.end ≡ count
  pub start : v.start ≤ v.end
  pub number : v.number ≤ v.start
