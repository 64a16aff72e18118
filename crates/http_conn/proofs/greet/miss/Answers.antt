use Rattle.std.proofs.Common.{ap, sym, subst, List, [], ◌∷◌, ◌∙◌, ◌≡◌}
use Rattle.host_trace.specs.declared.items.Act.{Act}
use Rattle.host_trace.specs.declared.items.Act.TheVariants.{Shut}
use Rattle.host_trace.specs.declared.items.Item.TheVariants.{Out}
use Rattle.host_trace.specs.declared.items.Why.TheVariants.{NoMemory}
use Rattle.host_trace.specs.Told.{Adds}
use Rattle.child_core.specs.declared.ending.Ending.TheVariants.{Dropped}
use Rattle.conn_flags.specs.View.{noted}
use Rattle.conn_laws.specs.Moves.{acts_of}
use Rattle.http_state.specs.declared.conn.HttpConn.{HttpConn}
use Rattle.http_state.specs.Moves.{ended_run}
use Rattle.http_conn.proofs.greet.miss.Goals as goal

pub returns-clause-value : goal.returns-clause-value
returns-clause-value g c =
    let gave = c.shut_for.ensures.gave 0 in
    gave.does.is
    ∙ ap (λ (x : HttpConn). record x { flags = noted x.flags (Out (Shut x.flags.c NoMemory)); run = ended_run Dropped x.run }) c.lose.ensures.value

pub returns-clause-told : goal.returns-clause-told
returns-clause-told g c =
    let gave = c.shut_for.ensures.gave 0 in
    let acts : gave.acts ≡ Shut c.args.conn.now.flags.c NoMemory ∷ [] =
    sym gave.same ∙ (ap acts_of gave.does.moves_are ∙ ap (λ (x : HttpConn). Shut x.flags.c NoMemory ∷ []) c.lose.ensures.value) in
    subst (λ (l : List Act). Adds (g.O.Outside.trace c.args.out.now) l (g.O.Outside.trace c.shut_for.new.out)) acts gave.told
