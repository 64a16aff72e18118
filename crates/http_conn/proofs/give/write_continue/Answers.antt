use Rattle.std.proofs.Common.{List, subst}
use Rattle.host_trace.specs.declared.items.Act.{Act}
use Rattle.host_trace.specs.Told.{Adds}
use Rattle.http_conn.proofs.GaveLaws.{continue_acts}
use Rattle.http_conn.proofs.give.write_continue.Goals as goal

pub returns-then-found-clause-told : goal.returns-then-found-clause-told
returns-then-found-clause-told g c =
    subst (λ (acts : List Act). Adds (g.O.Outside.trace c.args.out.now) acts (g.O.Outside.trace c.write-found.new.out))
    (continue_acts c.args.conn.now.flags.c c.in-Ok.bytes c.write-found.result c.in-Ok.ensures) c.write-found.ensures.told

pub returns-else-found-clause-told : goal.returns-else-found-clause-told
returns-else-found-clause-told g c =
    subst (λ (acts : List Act). Adds (g.O.Outside.trace c.args.out.now) acts (g.O.Outside.trace c.write-found.new.out))
    (continue_acts c.args.conn.now.flags.c c.in-Ok.bytes c.write-found.result c.in-Ok.ensures) c.write-found.ensures.told
