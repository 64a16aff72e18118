-- What no step of a connection that speaks WebSocket changes.
use Rattle.std.proofs.Common.{◌≡◌, ℕ, Bool, true, false, List, Option, Some, None, refl, ap, ◌∙◌}
use Rattle.host_base.specs.declared.site.ScriptKind.{ScriptKind}
use Rattle.host_base.specs.declared.site.Site.{Site}
use Rattle.host_trace.specs.declared.items.Act.{Act}
use Rattle.host_trace.specs.declared.items.Event.{Event}
use Rattle.host_trace.specs.declared.items.Why.{Why}
use Rattle.child_core.specs.Due.{acted}
use Rattle.child_core.specs.View.{View as Run}
use Rattle.talk_core.specs.Hearing.{heard, heard_unless}
use Rattle.talk_core.specs.View.{View as Talk}
use Rattle.talk_conn.specs.declared.conn.TalkConn.{TalkConn}
use Rattle.talk_conn.specs.Parts.{acted_conn, asked_conn, heard_conn, is_ask_due, said_conn, shut_conn, why_of}
use Rattle.talk_conn.specs.Step.{Steps}
use Rattle.talk_conn.specs.View.{number_of, run_of, site_of, talk_of}

pub record Kept (old new : TalkConn) : Type 0 where
  pub site : site_of new ≡ site_of old
  pub number : number_of new ≡ number_of old
  pub kind : (run_of new).kind ≡ (run_of old).kind
  pub last_child : (run_of new).number ≡ (run_of old).number
  pub conn : (talk_of new).conn ≡ (talk_of old).conn

both : {old mid new : TalkConn} → Kept old mid → Kept mid new → Kept old new
both a b = record { site = b.site ∙ a.site; number = b.number ∙ a.number; kind = b.kind ∙ a.kind; last_child = b.last_child ∙ a.last_child; conn = b.conn ∙ a.conn }

heard_number : (t : Talk) (v : Run) (ev : Event) → (heard t v ev).conn ≡ t.conn
heard_number t v ev = go t.over
  where
    go : (b : Bool) → (heard_unless b t v ev).conn ≡ t.conn
    go true = refl
    go false = refl

heard_kept : (b : Bool) (ev : Event) (conn : TalkConn) → Kept conn (heard_conn b ev conn)
heard_kept true ev conn = record { site = refl; number = refl; kind = refl; last_child = refl; conn = heard_number conn.talk conn.run ev }
heard_kept false ev conn = record { site = refl; number = refl; kind = refl; last_child = refl; conn = refl }

said_kept : (b : Bool) (conn : TalkConn) → Kept conn (said_conn b conn)
said_kept true conn = record { site = refl; number = refl; kind = refl; last_child = refl; conn = refl }
said_kept false conn = record { site = refl; number = refl; kind = refl; last_child = refl; conn = refl }

acted_kept : (b : Bool) (conn : TalkConn) → Kept conn (acted_conn b conn)
unfolding acted
acted_kept true conn = record { site = refl; number = refl; kind = refl; last_child = refl; conn = refl }
acted_kept false conn = record { site = refl; number = refl; kind = refl; last_child = refl; conn = refl }

shut_kept : (why : Option Why) (conn : TalkConn) → Kept conn (shut_conn why conn)
shut_kept None conn = record { site = refl; number = refl; kind = refl; last_child = refl; conn = refl }
shut_kept (Some why) conn = record { site = refl; number = refl; kind = refl; last_child = refl; conn = refl }

asked_kept : (b : Bool) (conn : TalkConn) → Kept conn (asked_conn b conn)
asked_kept true conn = record { site = refl; number = refl; kind = refl; last_child = refl; conn = refl }
asked_kept false conn = record { site = refl; number = refl; kind = refl; last_child = refl; conn = refl }

kept_as : (old : TalkConn) {a b : TalkConn} → b ≡ a → Kept old a → Kept old b
kept_as old is k = record {
  site = ap site_of is ∙ k.site;
  number = ap number_of is ∙ k.number;
  kind = ap (λ (x : TalkConn). (run_of x).kind) is ∙ k.kind;
  last_child = ap (λ (x : TalkConn). (run_of x).number) is ∙ k.last_child;
  conn = ap (λ (x : TalkConn). (talk_of x).conn) is ∙ k.conn;
}

module _ (old new : TalkConn) (ev : Event) (acts : List Act) (w : Steps old ev acts new) where
  pub first_kept : Kept old w.first
  first_kept = kept_as old w.first_is (heard_kept w.heard ev old)

  pub second_kept : Kept old w.second
  second_kept = both first_kept (kept_as w.first w.second_is (said_kept w.said w.first))

  pub third_kept : Kept old w.third
  third_kept = both second_kept (kept_as w.second w.third_is (acted_kept w.fed w.second))

  pub last_kept : Kept old w.last
  last_kept = both third_kept (kept_as w.third w.last_is (shut_kept (why_of w.third) w.third))

  pub steps_keep : Kept old new
  steps_keep = both last_kept (kept_as w.last w.is (asked_kept (is_ask_due w.last) w.last))
