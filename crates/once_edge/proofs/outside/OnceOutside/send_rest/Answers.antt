use Rattle.once_edge.proofs.Quiet.{quiet_self, counts_self, client_quiet, client_counts, left_quiet, left_counts}
use Rattle.once_edge.proofs.outside.OnceOutside.send_rest.Goals as goal

pub returns-then-is_sent-clause-quiet : goal.returns-then-is_sent-clause-quiet
returns-then-is_sent-clause-quiet g c = quiet_self g.S.Kid.Kid.tells c.args.self.now

pub returns-then-is_sent-clause-counts : goal.returns-then-is_sent-clause-counts
returns-then-is_sent-clause-counts g c = counts_self c.args.self.now

pub returns-then-not-leave-clause-quiet : goal.returns-then-not-leave-clause-quiet
returns-then-not-leave-clause-quiet g c = client_quiet g.S.Kid.Kid.tells c.args.self.now c.leave.new.self c.leave.ensures.rests

pub returns-then-not-leave-clause-counts : goal.returns-then-not-leave-clause-counts
returns-then-not-leave-clause-counts g c = client_counts _ c.args.self.now c.leave.new.self c.leave.ensures.rests

pub returns-clause-quiet : goal.returns-clause-quiet
returns-clause-quiet g c = left_quiet g.S.Kid.Kid.tells c.args.self.now c.leave.new.self c.cut_off.new.self c.leave.ensures.rests c.cut_off.ensures.same

pub returns-clause-counts : goal.returns-clause-counts
returns-clause-counts g c =
    left_counts c.args.self.now c.leave.new.self c.cut_off.new.self c.leave.ensures.rests c.cut_off.ensures.same c.cut_off.ensures.grown c.cut_off.ensures.rose
