use Rattle.std.proofs.Common.{sym}
use Rattle.child_table.proofs.PlaceLaws.{found-place, key_in_gap}
use Rattle.child_table.proofs.table.Table.key_of.Goals as goal

pub returns-in-Ok : goal.returns-in-Ok
returns-in-Ok c =
    let f = rw c.deref.ensures.value at c.in-Ok.ensures.found in
    sym (found-place _ c.args.self.now.rising _ _ _ f c.index.ensures)

pub returns-in-Err : goal.returns-in-Err
returns-in-Err c =
    let f = rw c.deref.ensures.value at c.in-Err.ensures.absent in
    sym (key_in_gap _ _ _ f)
