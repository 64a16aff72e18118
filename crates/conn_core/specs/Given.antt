-- What is proved in the crates below.
use Rattle.many_conns.specs.Kind.{Laws}
use Rattle.good_step_laws.proofs.Both.Given.{all_steps}
use Rattle.good_step_laws.proofs.Both.KindLaws.{phases_keep_laws}
use Rattle.conn_core.specs.Kind.{conn_kind}
use Rattle.conn_core.specs.KindLaws.{kind_laws}

pub all_laws : Laws conn_kind
all_laws = kind_laws (phases_keep_laws all_steps)
