-- An outside that answers documents may go to another thread where the inner one and the store may.
use denote.Param.Send.{sendable}
use Rattle.std.proofs.Crossing.{crosses}
use Rattle.doc_files.proofs.outside.DocOutside.TheSendSync as outside
use Rattle.doc_run.proofs.SiteLaws.{serves_site}
use Rattle.doc_run.proofs.top.run_docs.Goals as goal

pub run-requires-send-W-Out : goal.run-requires-send-W-Out
run-requires-send-W-Out g c κs within =
    let o = c.type_bounds.send-W-Out in
    let d = c.type_bounds.send-D in
    search (sendable, crosses, outside.the_send) depth 60 fits 50000

pub returns-clause-served : goal.returns-clause-served
returns-clause-served g c = serves_site _ _ _ _ _ _ _ _ _ c.run.ensures.entered c.run.new.world.serves
