-- The type of connections that the core of all connections holds.
use Rattle.trace_model.specs.Good.{StepGood}
use Rattle.many_conns.specs.Kind.{Kind}
use Rattle.conn_phase.specs.Phase.{unsettled_child_of, fits_phase, is_held, last_child_of, number_of, site_of}
use Rattle.good_step_laws.specs.Both.Stands.{PhaseStands, was_shut}
use Rattle.conn_core.specs.declared.conn.Conn.{Conn}

abbrev pub conn_kind : Kind Conn
conn_kind = record {
  site_of = λ host. site_of host.conn;
  number_of = λ host. number_of host.conn;
  last_child_of = λ host. last_child_of host.conn;
  unsettled_child_of = λ host. unsettled_child_of host.conn;
  was_shut = λ host. was_shut host.conn;
  needs = λ host. is_held host.conn;
  fits_conn = λ host event. fits_phase host.conn event;
  is_good = λ site c s. StepGood site c s;
  stands = λ site host L. PhaseStands site host.conn L;
}
