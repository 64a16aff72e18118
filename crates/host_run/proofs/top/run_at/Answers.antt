-- What each task reports and gives back.
use Rattle.std.proofs.Common.{Ok, subst, sym}
use Rattle.host_run.specs.Statuses.{Says}
use Rattle.host_run.specs.Words.{place_at}
use Rattle.host_run.proofs.EntryLaws.{entered_by, run_explains}
use Rattle.host_run.proofs.ExplainLaws.{explains_as}
use Rattle.host_run.proofs.GivenLaws.{gives_by}
use Rattle.host_run.proofs.StatusLaws.{puts_as}
use Rattle.host_run.proofs.top.run_at.Goals as goal

pub returns-in-Check-clause-report : goal.returns-in-Check-clause-report
returns-in-Check-clause-report g c =
    let says = c.in-Ok.ensures.site in
    rw c.in-Check.is (puts_as _ _ _ (λ text is. (c.in-Ok.site, (says, is))) c.check.ensures.text)

pub returns-clause-explains : goal.returns-clause-explains
returns-clause-explains g c =
    let says = c.in-Ok.ensures.site in
    rw c.in-Explain.is (explains_as _ _ _ _ _ (λ site is. subst (λ s. Says (g.F.SiteStore.stored c.args.store.now) (place_at c.args.place.now) (Ok s)) (sym is) says) c.run_explain.ensures.explains)

pub returns-in-Once-clause-entered : goal.returns-in-Once-clause-entered
returns-in-Once-clause-entered g c = rw c.in-Once.is (entered_by _ _ _ c.in-Ok.site _ _ _ (run_explains _ c.run_loops.ensures.status) c.in-Ok.ensures.site c.run_loops.ensures.entered)

pub returns-clause-entered : goal.returns-clause-entered
returns-clause-entered g c = rw c.in-Explain.is (entered_by _ _ _ c.in-Ok.site _ _ _ c.run_explain.ensures.status c.in-Ok.ensures.site c.run_explain.ensures.entered)

pub returns-in-Once-clause-gives : goal.returns-in-Once-clause-gives
returns-in-Once-clause-gives g c = rw c.in-Once.is (gives_by _ c.in-Ok.site c.in-Ok.ensures.site _ _ _ _ _ c.run_loops.ensures.gives)

pub returns-in-Serve-clause-entered : goal.returns-in-Serve-clause-entered
returns-in-Serve-clause-entered g c = rw c.in-Serve.is (entered_by _ _ _ c.in-Ok.site _ _ _ (run_explains _ c.run_loops-in-Serve.ensures.status) c.in-Ok.ensures.site c.run_loops-in-Serve.ensures.entered)

pub returns-in-Serve-clause-gives : goal.returns-in-Serve-clause-gives
returns-in-Serve-clause-gives g c = rw c.in-Serve.is (gives_by _ c.in-Ok.site c.in-Ok.ensures.site _ _ _ _ _ c.run_loops-in-Serve.ensures.gives)
