-- What a step of a connection leads to.
use Rattle.std.proofs.Common.{◌≡◌, ℕ, Bool, true, false, List, Option, Some, None, refl, sym, ap, ◌∙◌, subst}
use Rattle.host_base.specs.declared.site.Site.{Site}
use Rattle.host_trace.specs.declared.items.Event.{Event}
use Rattle.host_trace.specs.declared.items.Item.{Item}
use Rattle.host_trace.specs.Decider.{is_websocket}
use Rattle.child_core.specs.View.{View as Run}
use Rattle.conn_flags.specs.View.{View as Flags}
use Rattle.talk_core.specs.View.{View as Talking}
use Rattle.http_conn.specs.HttpConn.{HttpConn}
use Rattle.http_conn.specs.declared.conn.Onward.{Onward}
use Rattle.http_conn.specs.declared.conn.Onward.TheVariants as To
use Rattle.http_conn.specs.Kept.{number_of, site_of}
use Rattle.http_conn.specs.Opens.{Opened, StepsTo}
use Rattle.talk_conn.specs.declared.conn.TalkConn.{TalkConn}
use Rattle.talk_conn.specs.Step.{Stepped}
use Rattle.talk_conn.specs.View.{IsTalk, run_of, talk_of}
use Rattle.talk_conn.proofs.KeptLaws.{steps_keep}
use Rattle.conn_phase.specs.declared.phase.Phase.{Phase}
use Rattle.conn_phase.specs.declared.phase.Phase.TheVariants.{Http, Talk, Shut}
use Rattle.conn_phase.specs.Phase.{GoesOn, Steps, may_step, site_of as phase_site}

-- it speaks WebSocket from now on
opened_talks : (old : HttpConn) (ev : Event) (stamp : Option ℕ) (n m : ℕ) (before after : Option (List Item)) (talk : TalkConn) → Opened old ev stamp n before talk m after → IsTalk talk
opened_talks old ev stamp n m before after talk o = record {
  kind = ap (λ (v : Run). is_websocket v.kind) o.opens.run;
  number = ap (λ (t : Talking). t.conn) o.opens.talk_is ∙ sym (ap (λ (v : Flags). v.c) o.opens.flags);
}

-- .. or goes on so
pub stepped_talks : (old new : TalkConn) (ev : Event) (before after : Option (List Item)) → IsTalk old → Stepped old ev before new after → IsTalk new
stepped_talks old new ev before after t s =
    let k = steps_keep old new ev s.acts s.does in
    record { kind = ap is_websocket k.kind ∙ t.kind; number = k.conn ∙ (t.number ∙ sym k.number) }

-- what a step of a connection that speaks HTTP came to
pub record Comes (old : Phase) (ev : Event) (stamp : Option ℕ) (n : ℕ) (before : Option (List Item)) (new : Phase) (m : ℕ) (after : Option (List Item)) : Type 0 where
  pub steps : Steps old ev stamp n before new m after
  pub talks : may_step new
  pub site : phase_site new ≡ phase_site old

pub comes : (onward : Onward) (old left : HttpConn) (ev : Event) (stamp : Option ℕ) (n m : ℕ) (before after : Option (List Item)) (site : Site) (c : ℕ) (new : Phase)
    → StepsTo onward old ev stamp n before left m after → site ≡ site_of left → c ≡ number_of left → GoesOn onward site c (Http left) new → Comes (Http old) ev stamp n before new m after
comes To.Http old left ev stamp n m before after site c new s site_is number_is g =
    subst (λ (x : Phase). Comes (Http old) ev stamp n before x m after) (sym g) (record { steps = s; talks = tt; site = s.site })
comes (To.Talk talk) old left ev stamp n m before after site c new s site_is number_is g =
    subst (λ (x : Phase). Comes (Http old) ev stamp n before x m after) (sym g) (record { steps = s; talks = opened_talks old ev stamp n m before after talk s; site = s.opens.site ∙ s.greets.site })
comes To.Shut old left ev stamp n m before after site c (Http conn) s site_is number_is g = absurd g
comes To.Shut old left ev stamp n m before after site c (Talk talk) s site_is number_is g = absurd g
comes To.Shut old left ev stamp n m before after site c (Shut of d) s site_is number_is g = record {
  steps = record { left = left; missed = s; site_is = g.0 ∙ site_is; number = g.1 ∙ number_is };
  talks = tt;
  site = g.0 ∙ (site_is ∙ (ap site_of s.misses.is ∙ s.greets.site));
}
