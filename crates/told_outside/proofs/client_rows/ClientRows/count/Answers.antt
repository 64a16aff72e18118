-- The rows are few.
use Rattle.std.proofs.Common.{◌≤◌, sym, subst}
use Rattle.host_trace.specs.Account.{slots_held}
use Rattle.told_outside.proofs.CountLaws.{clients_few}
use Rattle.told_outside.proofs.client_rows.ClientRows.count.Goals as goal

pub returns : goal.returns
returns c = λ T tie. subst (λ n. n ≤ slots_held T) (sym c.len.ensures.len) (clients_few c.args.self.now T tie c.len.ensures.unique)
