use Rattle.std.proofs.Common.{Bool, true, false, is_ok, IsErr, sym, ap, subst, ◌∙◌, ◌≡◌}
use Rattle.host_trace.specs.Told.{Adds}
use Rattle.host_trace.proofs.AddsLaws.{Adds-trans}
use Rattle.child_core.specs.declared.ending.Ending.TheVariants.{Dropped}
use Rattle.child_core.specs.Calls.{ended}
use Rattle.child_core.specs.Due.{acted_by, acting_by, is_feed_due}
use Rattle.child_core.specs.View.{View}
use Rattle.talk_conn.specs.declared.conn.TalkConn.{TalkConn}
use Rattle.talk_conn.proofs.RunLaws.{found}
use Rattle.talk_conn.proofs.conn.TalkConn.act.Goals as goal

pub returns-then-is_ok-clause-told : goal.returns-then-is_ok-clause-told
returns-then-is_ok-clause-told g c =
    let found = subst (λ (b : Bool). Adds (g.O.Outside.trace c.args.out.now) (acting_by b c.may_want-may_want.result c.args.self.now.run) (g.O.Outside.trace c.act.new.out)) (sym c.is_ok.ensures.value ∙ c.if-is_ok.true) c.act.ensures.told in
    subst (λ (b : Bool). Adds (g.O.Outside.trace c.args.out.now) (acting_by true b c.args.self.now.run) (g.O.Outside.trace c.act.new.out)) c.may_want-may_want.ensures found

pub returns-clause-told : goal.returns-clause-told
returns-clause-told g c =
    let v : View = c.args.self.now.run in
    let lost : is_ok c.act.result ≡ false = sym c.is_ok.ensures.value ∙ c.if-is_ok.false in
    let run : c.give_up.new.self.run ≡ ended v Dropped =
    ap (λ (t : TalkConn). t.run) c.give_up.ensures ∙ ap (λ (r : View). ended r Dropped) (c.act.ensures.run ∙ ap (λ (b : Bool). acted_by b c.may_want-may_want.result v) lost) in
    let none = subst (λ (b : Bool). Adds (g.O.Outside.trace c.args.out.now) (acting_by b c.may_want-may_want.result v) (g.O.Outside.trace c.act.new.out)) lost c.act.ensures.told in
    let room : is_ok c.act-acted.result ≡ true =
    found c.act-acted.result v (subst (λ (r : View). IsErr c.act-acted.result → is_feed_due r ≡ true) run c.act-acted.ensures.memory) in
    let told = subst (λ (b : Bool). Adds (g.O.Outside.trace c.act.new.out) (acting_by b c.may_want-may_want.result c.give_up.new.self.run) (g.O.Outside.trace c.act-acted.new.out)) room c.act-acted.ensures.told in
    let told_run = subst (λ (r : View). Adds (g.O.Outside.trace c.act.new.out) (acting_by true c.may_want-may_want.result r) (g.O.Outside.trace c.act-acted.new.out)) run told in
    Adds-trans none (subst (λ (b : Bool). Adds (g.O.Outside.trace c.act.new.out) (acting_by true b (ended v Dropped)) (g.O.Outside.trace c.act-acted.new.out)) c.may_want-may_want.ensures told_run)
