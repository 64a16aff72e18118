use Rattle.std.proofs.Common.{refl, sym, ap, ◌∙◌, ◌≡◌, ◌+◌, Bool, [], ◌∷◌, Some, subst, ℕ}
use Rattle.host_trace.specs.declared.items.Act.TheVariants.{Start}
use Rattle.host_trace.specs.Told.{Adds}
use Rattle.conn_flags.proofs.KnowsLaws.{start_allowed}
use Rattle.exchange_stage.specs.declared.stage.Stage.TheVariants.{Running}
use Rattle.http_state.specs.declared.conn.HttpConn.{HttpConn}
use Rattle.http_state.specs.Kept.{Gave, front_of, is_reading}
use Rattle.http_state.specs.Deeds.{Loses, Or, Part, the_one, the_other}
use Rattle.http_conn.specs.Parts.{StartsRun}
use Rattle.http_conn.specs.Writes.{acts_started, next_if}
use Rattle.http_state.proofs.TakenLaws.{given_up}
use Rattle.http_conn.proofs.GaveLaws.{gave_as, gave_lost, gave_part, gave_start}
use Rattle.http_conn.proofs.give.give_start.Goals as goal

pub returns-then-not-start-clause-gave : goal.returns-then-not-start-clause-gave
returns-then-not-start-clause-gave g c =
    let told : Adds (g.O.Outside.trace c.args.out.now) [] (g.O.Outside.trace c.start.new.out) =
    subst (λ (b : Bool). Adds (g.O.Outside.trace c.args.out.now) (acts_started c.args.children.now c.args.conn.now c.args.leg.hop c.args.launch b) (g.O.Outside.trace c.start.new.out)) c.if-not-start.true c.start.ensures.told in
    let same : c.start.new.children ≡ c.args.children.now = c.start.ensures.next ∙ ap (λ (b : Bool). next_if b c.args.children.now) c.if-not-start.true in
    subst (λ (m : ℕ). Gave (Or (Part (StartsRun c.args.leg c.args.launch c.args.run)) (Part Loses)) c.args.conn.now c.args.children.now (g.O.Outside.trace c.args.out.now) c.lose.new.self m (g.O.Outside.trace c.start.new.out)) (sym same)
    (gave_as (λ moves p. the_other p) (gave_lost c.lose.ensures.kept (given_up c.lose.ensures.value) told))

pub returns-clause-gave : goal.returns-clause-gave
returns-clause-gave g c =
    let told : Adds (g.O.Outside.trace c.args.out.now) (Start c.args.children.now c.args.conn.now.flags.c c.args.conn.now.number c.args.leg.hop c.args.launch ∷ []) (g.O.Outside.trace c.start.new.out) =
    subst (λ (b : Bool). Adds (g.O.Outside.trace c.args.out.now) (acts_started c.args.children.now c.args.conn.now c.args.leg.hop c.args.launch b) (g.O.Outside.trace c.start.new.out)) c.if-not-start.false c.start.ensures.told in
    let next : c.start.new.children ≡ c.args.children.now + 1 = c.start.ensures.next ∙ ap (λ (b : Bool). next_if b c.args.children.now) c.if-not-start.false in
    let is : c.put.new.self ≡ record c.args.conn.now { run = Some c.args.run; stage = Running c.args.leg } =
    c.put.ensures.value ∙ ap (λ (conn : HttpConn). record conn { stage = Running c.args.leg }) c.put_run.ensures in
    subst (λ (m : ℕ). Gave (Or (Part (StartsRun c.args.leg c.args.launch c.args.run)) (Part Loses)) c.args.conn.now c.args.children.now (g.O.Outside.trace c.args.out.now) c.put.new.self m (g.O.Outside.trace c.start.new.out)) (sym next)
    (gave_as (λ moves p. the_one p) (gave_part (gave_start c.args.children.now c.args.conn.now.flags.c c.args.conn.now.number c.args.leg.hop c.args.launch c.args.run refl
    (ap (λ (x : HttpConn). x.run) is) c.requires.number (start_allowed c.args.conn.now.flags c.requires.may) told
    (ap (λ (x : HttpConn). x.site.now) is) (ap (λ (x : HttpConn). x.peer) is) (ap (λ (x : HttpConn). x.flags) is)
    (record {
      front = ap front_of is;
      lost = λ l. ap (λ (x : HttpConn). x.lost) is ∙ l;
      reading = λ r. ap (λ (x : HttpConn). is_reading x.stage) is;
    }) refl (c.start.ensures.counted c.if-not-start.false) c.requires.open (record { moves_are = refl; is = is }))))
