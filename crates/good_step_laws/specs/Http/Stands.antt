-- A connection of this server, as one of many: what is told of its values, and for which items of its own it stands.
use Rattle.std.specs.Prelude.{ℕ, Bool, true, false, not, ◌||◌, ◌≡◌, List, is_some}
use Rattle.host_base.specs.declared.site.Site.{Site}
use Rattle.host_trace.specs.declared.items.Item.{Item}
use Rattle.host_trace.specs.Account.{start_refused}
use Rattle.host_trace.specs.Projections.{exited, started}
use Rattle.trace_model.specs.Exchange.{Exchange}
use Rattle.trace_model.specs.Good.{GoodFor, StepGood}
use Rattle.trace_model.specs.Hears.{hears}
use Rattle.trace_model.specs.Legs.{Leg}
use Rattle.http_conn.specs.HttpConn.{HttpConn}
use Rattle.http_conn.specs.Fits.{fits_conn}
use Rattle.http_conn.specs.Kept.{flags_of, number_of, site_of}
use Rattle.http_conn.specs.Kid.{last_child_of}
use Rattle.http_conn.specs.Slot.{unsettled_child_of}
use Rattle.http_stage_laws.specs.HeardStages.{AtRest}
use Rattle.many_conns.specs.Kind.{Kind}

-- ---- its items

-- the idle count as it would be had it heard the Ticks before it was accepted
abbrev pub with_left : ℕ → HttpConn → HttpConn
with_left left conn = record conn { idle_left = left }

-- each child that was reaped had been started, and none that was refused
pub record Accounts (L : List Item) : Type 0 where
  pub reaped : (k : ℕ) → exited L k ≡ true → started L k ≡ true
  pub apart : (k : ℕ) → start_refused L k ≡ true → started L k ≡ false

-- Between two steps it is at rest, once it heard the Ticks before its Accepted, of which it is told nothing; its client
-- was asked where it must be heard; and each step of its items was good.
pub record ConnStands (site : Site) (conn : HttpConn) (L : List Item) : Type 0 where
  pub site_is : site_of conn ≡ site
  pub left : ℕ
  pub told : (flags_of conn).accepted ≡ true → left ≡ conn.idle_left
  pub exchange : Exchange
  pub legs : List Leg
  pub next : ℕ
  pub rest : AtRest (with_left left conn) L exchange legs next
  pub met : (flags_of conn).shut ≡ true → (flags_of conn).accepted ≡ true
  pub accounts : Accounts L
  pub asks : hears (site_of conn) (number_of conn) exchange ≡ true
  pub good : GoodFor site (number_of conn) L

-- ---- the type

-- it needs its slot until it is shut and its child is settled
abbrev pub needs_slot : HttpConn → Bool
needs_slot conn = not (flags_of conn).shut || is_some (unsettled_child_of conn)

abbrev pub conn_kind : Kind HttpConn
conn_kind = record {
  site_of = λ conn. site_of conn;
  number_of = λ conn. number_of conn;
  last_child_of = λ conn. last_child_of conn;
  unsettled_child_of = λ conn. unsettled_child_of conn;
  was_shut = λ conn. (flags_of conn).shut;
  needs = λ conn. needs_slot conn;
  fits_conn = λ conn event. fits_conn conn event;
  is_good = λ site c s. StepGood site c s;
  stands = λ site conn L. ConnStands site conn L;
}
