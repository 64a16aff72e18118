-- A connection before it heard anything.
use Rattle.std.specs.Prelude.{◌≡◌, false, None}
use Rattle.exchange_stage.specs.declared.stage.Stage.TheVariants.{Reading}
use Rattle.conn_flags.specs.View.{fresh}
use Rattle.conn_laws.specs.FrontLaws.{IsFresh}
use Rattle.http_state.specs.declared.conn.HttpConn.{HttpConn}
use Rattle.http_state.specs.Kept.{front_of, flags_of, number_of, peer_of, site_of}

pub record IsNew (conn : HttpConn) : Type 0 where
  pub flags : flags_of conn ≡ fresh (number_of conn)
  pub peer_is : peer_of conn ≡ None
  pub found : conn.lost ≡ false
  pub reads : conn.stage ≡ Reading
  pub run : conn.run ≡ None
  pub unclosed : conn.closes ≡ false
  pub uncut : conn.cut ≡ None
  pub front : IsFresh (site_of conn) (front_of conn)
