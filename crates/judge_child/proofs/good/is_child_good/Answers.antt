-- Its account stands and it was fed what it is owed; the rest is in the facts.
use Rattle.std.proofs.Common.{◌≡◌, ◌∙◌, sym, true}
use Rattle.host_trace.specs.Account.{is_account as has_account}
use Rattle.trace_child.specs.Bodies.{bodies as has_bodies}
use Rattle.judge_child.specs.Runs.{run_by}
use Rattle.judge_child.proofs.good.is_child_good.Goals as goal

pub returns : goal.returns
returns g c = λ given is.
    let self = c.args.run.now in
    let run = run_by self.conn self.child self.kind self.limits.now (g.O.Offered.offered self.body) in
    let stands : has_account c.args.items.now self.child ≡ true = sym c.is_account.ensures ∙ c.if-not-is_account.false in
    let fed : has_bodies run c.args.items.now ≡ true = sym c.in_ok-bodies.ensures ∙ c.if-not-branch.false in
    rw (stands, fed) (c.keeps_rules.ensures run c.args.heard.now c.args.items.now given c.in_ok-facts.ensures c.before_of-before.ensures is)
