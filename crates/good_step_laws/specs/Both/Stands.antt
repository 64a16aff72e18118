-- A connection of this server, as one of many: what is told of its values, and for which items of its own it stands.
use Rattle.std.specs.Prelude.{ℕ, ◌≡◌, Bool, true, false, List}
use Rattle.std.specs.List.{list_any}
use Rattle.host_base.specs.declared.site.Site.{Site}
use Rattle.host_trace.specs.declared.items.Item.{Item}
use Rattle.host_trace.specs.Account.{has_unsettled}
use Rattle.trace_model.specs.Good.{GoodFor, StepGood}
use Rattle.http_conn.specs.HttpConn.{HttpConn}
use Rattle.http_conn.specs.Kept.{flags_of, number_of as http_number}
use Rattle.good_step_laws.specs.Opens.Laws.{IsClosed}
use Rattle.many_conns.specs.Kind.{Kind}
use Rattle.good_step_laws.specs.Http.Stands.{Accounts, ConnStands}
use Rattle.talk_core.specs.Laws.{is_of_talk}
use Rattle.talk_conn.specs.declared.conn.TalkConn.{TalkConn}
use Rattle.talk_conn.specs.View.{flags_of as talk_flags}
use Rattle.good_step_laws.specs.Talk.Stands.{TalkHolds}
use Rattle.conn_phase.specs.declared.phase.Phase.{Phase}
use Rattle.conn_phase.specs.declared.phase.Phase.TheVariants.{Http, Talk, Shut}
use Rattle.conn_phase.specs.Phase.{unsettled_child_of, fits_phase, is_held, last_child_of, number_of, site_of}

-- it speaks HTTP: nothing of a WebSocket stands on its list
pub record HttpStands (site : Site) (conn : HttpConn) (L : List Item) : Type 0 where
  pub stood : ConnStands site conn L
  pub untalked : list_any (is_of_talk (http_number conn)) L ≡ false

-- some connection of the site spoke HTTP
pub record Was (site : Site) : Type 0 where
  pub conn : HttpConn
  pub list : List Item
  pub stood : ConnStands site conn list

-- it speaks WebSocket
pub record TalkStandsFor (site : Site) (talk : TalkConn) (L : List Item) : Type 0 where
  pub holds : TalkHolds site talk L
  pub was : Was site

-- it was shut before its talk began
pub record ShutStands (site of : Site) (c : ℕ) (L : List Item) : Type 0 where
  pub site_is : of ≡ site
  pub closed : IsClosed site c L
  pub settled : has_unsettled L c ≡ false
  pub accounts : Accounts L
  pub good : GoodFor site c L
  pub was : Was site

abbrev pub PhaseStands : Site → Phase → List Item → Type 0
PhaseStands site (Http conn) L = HttpStands site conn L
PhaseStands site (Talk talk) L = TalkStandsFor site talk L
PhaseStands site (Shut of c) L = ShutStands site of.now c L

abbrev pub was_shut : Phase → Bool
was_shut (Http conn) = (flags_of conn).shut
was_shut (Talk talk) = (talk_flags talk).shut
was_shut (Shut of c) = true

abbrev pub phase_kind : Kind Phase
phase_kind = record {
  site_of = λ conn. site_of conn;
  number_of = λ conn. number_of conn;
  last_child_of = λ conn. last_child_of conn;
  unsettled_child_of = λ conn. unsettled_child_of conn;
  was_shut = λ conn. was_shut conn;
  needs = λ conn. is_held conn;
  fits_conn = λ conn event. fits_phase conn event;
  is_good = λ site c s. StepGood site c s;
  stands = λ site conn L. PhaseStands site conn L;
}
