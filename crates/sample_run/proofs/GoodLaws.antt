-- What the core of all connections keeps is the promise of the model.
use Rattle.std.proofs.Common.{List}
use Rattle.std.proofs.lemmas.Bool.{ltb-true}
use Rattle.host_base.specs.declared.site.Site.{Site}
use Rattle.host_trace.specs.declared.items.Item.{Item}
use Rattle.host_trace.specs.Projections.{accepted_count}
use Rattle.trace_model.specs.Good.{Good}
use Rattle.host_core.specs.Stands.{Good as KeepsPromise}
use Rattle.conn_core.specs.Kind.{conn_kind}

pub good_by_model : (site : Site) (T : List Item) → KeepsPromise conn_kind site T → Good site T
good_by_model site T g = record { begun = g.begun; between = g.between; connections = λ c known. g.parts c (ltb-true c (accepted_count T) known) }
