-- The acts of the child, one after another.
use Rattle.std.proofs.Common.{◌∙◌, ap}
use Rattle.host_trace.proofs.AddsLaws.{Adds-trans}
use Rattle.child_core.specs.Due.{acted, acting, input_given, kill_given, release_given, ask_given}
use Rattle.child_core.proofs.run.Run.act.Goals as goal

pub returns-clause-run : goal.returns-clause-run
unfolding acted
returns-clause-run g c =
    c.want.ensures.run
    ∙ (ap (ask_given c.args.may_want) c.release.ensures.run
    ∙ (ap (λ k. ask_given c.args.may_want (release_given k)) c.kill.ensures.run
    ∙ (ap (λ k. ask_given c.args.may_want (release_given (kill_given k))) c.end_input.ensures.run
    ∙ ap (λ k. ask_given c.args.may_want (release_given (kill_given (input_given k)))) c.in_ok-feed.ensures.run)))

pub returns-clause-told : goal.returns-clause-told
unfolding acting
returns-clause-told g c =
    let i = rw c.in_ok-feed.ensures.run at c.end_input.ensures.told in
    let k = rw (c.end_input.ensures.run, c.in_ok-feed.ensures.run) at c.kill.ensures.told in
    let r = rw (c.kill.ensures.run, c.end_input.ensures.run, c.in_ok-feed.ensures.run) at c.release.ensures.told in
    let w = rw (c.release.ensures.run, c.kill.ensures.run, c.end_input.ensures.run, c.in_ok-feed.ensures.run) at c.want.ensures.told in
    Adds-trans (Adds-trans (Adds-trans (Adds-trans c.in_ok-feed.ensures.told i) k) r) w
