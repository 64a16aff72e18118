use Rattle.std.specs.Vec.Iter.{into_iter_items}
use Rattle.site_file.proofs.NumberLaws.{tables_go_on}
use Rattle.site_file.proofs.number.host_of.Goals as goal

pub loop-table-preserved : goal.loop-table-preserved
loop-table-preserved c =
    tables_go_on c.loop-table.scripts _ _ c.loop-table.docs _ _ c.in-Some.table (into_iter_items c.next.new.self) (into_iter_items c.loop-table.rest)
    c.loop-table.invariant c.in-Some.ensures.items c.in_ok-add_documents.ensures.scripts c.in_ok-add_documents.ensures.docs
