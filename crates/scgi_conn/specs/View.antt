-- What is told of a connection.
use Rattle.std.specs.Prelude.{ℕ, ◌≡◌, Option, None}
use Rattle.host_base.specs.declared.site.Site.{Site}
use Rattle.child_core.specs.View.{View as Run}
use Rattle.conn_flags.specs.View.{View as Flags, fresh}
use Rattle.scgi_reader.specs.View.{unheard}
use Rattle.scgi_conn.specs.declared.conn.ScgiConn.{ScgiConn}
use Rattle.scgi_conn.specs.declared.stage.Stage.{Stage}
use Rattle.scgi_conn.specs.declared.stage.Stage.TheVariants.{Hearing}

abbrev pub site_of : ScgiConn → Site
site_of conn = conn.site.now

abbrev pub flags_of : ScgiConn → Flags
flags_of conn = conn.flags

abbrev pub number_of : ScgiConn → ℕ
number_of conn = (flags_of conn).c

abbrev pub idle_of : ScgiConn → ℕ
idle_of conn = conn.idle

abbrev pub stage_of : ScgiConn → Stage
stage_of conn = conn.stage

abbrev pub run_of : ScgiConn → Option Run
run_of conn = conn.run

-- nothing was heard of it
pub record IsNew (site : Site) (c : ℕ) (conn : ScgiConn) : Type 0 where
  pub site_is : site_of conn ≡ site
  pub flags : flags_of conn ≡ fresh c
  pub stage : stage_of conn ≡ Hearing (unheard site.limits)
  pub run : run_of conn ≡ None
