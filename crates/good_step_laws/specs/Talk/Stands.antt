-- A connection that speaks WebSocket, as one of many: what is told of its values, and for which items of its own it stands.
use Rattle.std.specs.Prelude.{ℕ, ◌≡◌, true, List}
use Rattle.host_base.specs.declared.site.Site.{Site}
use Rattle.host_trace.specs.declared.items.Item.{Item}
use Rattle.trace_model.specs.Exchanges.{current}
use Rattle.trace_model.specs.Good.{GoodFor}
use Rattle.trace_model.specs.Hears.{hears}
use Rattle.good_step_laws.specs.Http.Stands.{Accounts}
use Rattle.talk_conn.specs.declared.conn.TalkConn.{TalkConn}
use Rattle.talk_conn.specs.View.{number_of, site_of}
use Rattle.talk_laws.specs.Stands.{TalkStands}

-- Between two steps its talk stands for its items; its client was asked where it must be heard; and each step of its items
-- was good.
pub record TalkHolds (site : Site) (talk : TalkConn) (L : List Item) : Type 0 where
  pub site_is : site_of talk ≡ site
  pub next : ℕ
  pub stands : TalkStands talk L next
  pub asks : hears site (number_of talk) (current site (number_of talk) L) ≡ true
  pub accounts : Accounts L
  pub good : GoodFor site (number_of talk) L
