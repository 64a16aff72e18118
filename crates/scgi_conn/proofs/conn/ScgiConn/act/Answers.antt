use Rattle.std.proofs.Common.{Bool, true, false, List, Option, sym, ap, subst, ◌∙◌, ◌≡◌}
use Rattle.host_trace.specs.declared.items.Act.{Act}
use Rattle.host_trace.specs.Told.{Adds}
use Rattle.host_trace.proofs.AddsLaws.{Adds-trans}
use Rattle.child_core.specs.View.{View}
use Rattle.scgi_conn.specs.declared.conn.ScgiConn.{ScgiConn}
use Rattle.scgi_conn.specs.Parts.{acted_run, acting_run, given_up, is_run_fed}
use Rattle.scgi_conn.proofs.RunLaws.{found, unacted, ungiven}
use Rattle.scgi_conn.proofs.conn.ScgiConn.act.Goals as goal

pub returns-clause-told : goal.returns-clause-told
returns-clause-told g c =
    let v : Option View = c.args.self.now.run in
    let failed : c.act_run.result ≡ false = c.if-act_run.false in
    let run : c.lose.new.self.run ≡ given_up v =
    ap (λ (x : ScgiConn). x.run) c.lose.ensures ∙ ap given_up (ap (λ (x : ScgiConn). x.run) c.act_run.ensures.value ∙ (ap (λ (b : Bool). acted_run b v) failed ∙ unacted v)) in
    let none = subst (λ (acts : List Act). Adds (g.O.Outside.trace c.args.out.now) acts (g.O.Outside.trace c.act_run.new.out)) (ap (λ (b : Bool). acting_run b v) failed ∙ ungiven v) c.act_run.ensures.told in
    let room : c.act_run-acted.result ≡ true = found c.act_run-acted.result v (λ is. ap is_run_fed (sym run) ∙ c.act_run-acted.ensures.memory is) in
    let told = subst (λ (acts : List Act). Adds (g.O.Outside.trace c.act_run.new.out) acts (g.O.Outside.trace c.act_run-acted.new.out)) (ap (λ (b : Bool). acting_run b c.lose.new.self.run) room ∙ ap (acting_run true) run) c.act_run-acted.ensures.told in
    Adds-trans none told
