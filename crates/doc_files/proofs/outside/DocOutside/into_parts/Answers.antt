use Rattle.doc_files.proofs.OutsideLaws.{where_serves}
use Rattle.doc_files.proofs.outside.DocOutside.into_parts.Goals as goal

pub returns-clause-serves : goal.returns-clause-serves
returns-clause-serves g c =
    where_serves c.args.self.docs (g.D.DocStore.held c.args.self.store) c.args.self.told (g.O.Outside.trace c.args.self.inner) c.args.self.children.items c.args.self.keeps
