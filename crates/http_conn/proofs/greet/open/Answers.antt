use Rattle.std.proofs.Common.{◌≡◌, ◌<◌, ◌^◌, ◌-◌, Bool, true, refl, ap, sym, subst, ◌∙◌}
use Rattle.std.proofs.lemmas.Bool.{false≢true}
use Rattle.host_trace.specs.Told.{Adds}
use Rattle.host_trace.proofs.AddsLaws.{Adds-trans}
use Rattle.http_state.specs.declared.conn.HttpConn.{HttpConn}
use Rattle.host_base.specs.declared.site.ScriptKind.TheVariants.{WebSocket}
use Rattle.child_core.specs.View.{begun as run_begun}
use Rattle.talk_core.specs.View.{begun as talk_begun}
use Rattle.http_state.specs.Kept.{flags_of, site_of}
use Rattle.http_conn.specs.Opens.{acts_upgraded, upgraded_by}
use Rattle.http_conn.specs.Writes.{acts_started, next_if}
use Rattle.http_conn.proofs.GaveLaws.{adds_nothing}
use Rattle.http_conn.proofs.OpenLaws.{missed_by}
use Rattle.http_conn.proofs.greet.open.Goals as goal

pub returns-then-not-upgrade-clause-opens : goal.returns-then-not-upgrade-clause-opens
returns-then-not-upgrade-clause-opens g c =
    missed_by c.in-Ok.rest c.upgrade.result (λ yes. absurd (false≢true (sym c.if-not-upgrade.true ∙ yes))) c.upgrade.ensures.value c.upgrade.ensures.told
    (adds_nothing (g.O.Outside.trace c.upgrade.new.out)) refl c.miss-then-not-upgrade.ensures.told c.miss-then-not-upgrade.ensures.value

pub returns-then-not-start-clause-opens : goal.returns-then-not-start-clause-opens
returns-then-not-start-clause-opens g c =
    missed_by c.in-Ok.rest c.upgrade.result (λ yes. c.in-Ok.ensures.value) c.upgrade.ensures.value c.upgrade.ensures.told
    (subst (λ (b : Bool). Adds (g.O.Outside.trace c.upgrade.new.out) (acts_started c.args.children.now c.upgrade.new.conn 0 c.args.launch b) (g.O.Outside.trace c.start.new.out)) c.if-not-start.true c.start.ensures.told)
    (c.start.ensures.next ∙ ap (λ (b : Bool). next_if b c.args.children.now) c.if-not-start.true) c.miss-then-not-start.ensures.told c.miss-then-not-start.ensures.value

pub returns-clause-opens : goal.returns-clause-opens
returns-clause-opens g c =
    let old : HttpConn = c.args.conn.now in
    let mid : c.upgrade.new.conn ≡ upgraded_by c.in-Ok.rest true old = c.upgrade.ensures.value ∙ ap (λ (b : Bool). upgraded_by c.in-Ok.rest b old) c.if-not-upgrade.false in
    let number : c.upgrade.new.conn.flags.c ≡ old.flags.c = ap (λ (x : HttpConn). x.flags.c) mid in
    let started = subst (λ (x : HttpConn). Adds (g.O.Outside.trace c.upgrade.new.out) (acts_started c.args.children.now x 0 c.args.launch true) (g.O.Outside.trace c.start.new.out)) mid
    (subst (λ (b : Bool). Adds (g.O.Outside.trace c.upgrade.new.out) (acts_started c.args.children.now c.upgrade.new.conn 0 c.args.launch b) (g.O.Outside.trace c.start.new.out)) c.if-not-start.false c.start.ensures.told) in
    record {
      rest = c.in-Ok.rest;
      rest_is = c.in-Ok.ensures.value;
      told = Adds-trans (subst (λ (b : Bool). Adds (g.O.Outside.trace c.args.out.now) (acts_upgraded old.flags.c c.in-Ok.rest b) (g.O.Outside.trace c.upgrade.new.out)) c.if-not-upgrade.false c.upgrade.ensures.told) started;
      counted = subst (λ (x : HttpConn). x.number < 2 ^ 128 - 1) mid (c.start.ensures.counted c.if-not-start.false);
      next = c.start.ensures.next ∙ ap (λ (b : Bool). next_if b c.args.children.now) c.if-not-start.false;
      site = c.talk_with.ensures.site ∙ ap site_of mid;
      flags = c.talk_with.ensures.flags ∙ ap flags_of mid;
      talk_is = c.talk_with.ensures.talk ∙ ap (λ (x : HttpConn). talk_begun x.flags.c c.args.children.now (site_of x).limits.ws_text) mid;
      run = c.talk_with.ensures.run ∙ ap (λ (x : HttpConn). run_begun c.args.children.now WebSocket (site_of x).limits) mid;
      found = c.talk_with.ensures.found;
    }
