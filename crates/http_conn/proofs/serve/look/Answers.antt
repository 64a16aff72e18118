use Rattle.std.proofs.Common.{◌≡◌, refl, sym, ap, subst, ◌∙◌, length, true}
use Rattle.std.proofs.lemmas.Bool.{false≢true}
use Rattle.exchange_request.specs.declared.found.Found.{Found}
use Rattle.exchange_request.specs.declared.found.Found.TheVariants as Seen
use Rattle.exchange_request.specs.Knows.{Finds}
use Rattle.exchange_stage.specs.declared.stage.Stage.TheVariants.{Rejected, Unstarted}
use Rattle.conn_laws.proofs.FrontLaws.{unready_none}
use Rattle.http_state.specs.declared.conn.HttpConn.{HttpConn}
use Rattle.http_state.specs.Kept.{Turned}
use Rattle.http_conn.specs.Parts.{ReadsOn}
use Rattle.http_conn.proofs.GaveLaws.{looked}
use Rattle.http_conn.proofs.PartLaws.{looked_at, lost_at_look, lost_looking, reading_first}
use Rattle.http_conn.proofs.serve.look.Goals as goal

pub returns-in-Ok-More : goal.returns-in-Ok-More
returns-in-Ok-More c =
    let unread = sym c.is_unread.ensures ∙ c.if-not-is_unread.false in
    record {
      turned = looked {A = ReadsOn} c.args.conn.now c.look.new.self refl refl refl (λ ks w. w) (λ l. l) refl c.in-Ok-More.ensures.limits
          (λ l bytes taken k unready.
          let u = unready (reading_first c.args.conn.now unread) in
          let f : Finds bytes Seen.More c.look.new.self =
          subst (λ (found : Found). Finds bytes found c.look.new.self) c.in-Ok-More.field-0-is
          (c.in-Ok-More.ensures.finds bytes (unready_none c.args.conn.now.request bytes taken u k) u) in
          record { taken = 0; knows = f.knows; unready = λ t. f.ready })
          (λ n. looked_at n c.is_ending.result c.is_ending.ensures.tells c.if-is_ending.false unread refl (record {
            reading = reading_first c.args.conn.now unread;
            found = Seen.More;
            to = refl;
            limits = c.in-Ok-More.ensures.limits;
            finds = λ bytes k u.
                subst (λ (found : Found). Finds bytes found c.look.new.self) c.in-Ok-More.field-0-is (c.in-Ok-More.ensures.finds bytes k u);
          }));
    }

pub returns-in-Ok-Ready : goal.returns-in-Ok-Ready
returns-in-Ok-Ready c =
    let unread = sym c.is_unread.ensures ∙ c.if-not-is_unread.false in
    record {
      turned = subst (λ (conn : HttpConn). Turned ReadsOn c.args.conn.now conn) (sym c.put.ensures.value)
          (looked {new = record c.args.conn.now { request = c.look.new.self; stage = Unstarted 0 c.in-Ok-Ready.request }} c.args.conn.now c.look.new.self refl refl refl (λ ks w. w) (λ l. l) refl c.in-Ok-Ready.ensures.limits
          (λ l bytes taken k unready.
          let u = unready (reading_first c.args.conn.now unread) in
          let f : Finds bytes (Seen.Ready c.in-Ok-Ready.request) c.look.new.self =
          subst (λ (found : Found). Finds bytes found c.look.new.self) c.in-Ok-Ready.field-0-is
          (c.in-Ok-Ready.ensures.finds bytes (unready_none c.args.conn.now.request bytes taken u k) u) in
          record { taken = length c.in-Ok-Ready.request.body; knows = f.knows; unready = λ t. absurd (false≢true t) })
          (λ n. looked_at n c.is_ending.result c.is_ending.ensures.tells c.if-is_ending.false unread refl (record {
            reading = reading_first c.args.conn.now unread;
            found = Seen.Ready c.in-Ok-Ready.request;
            to = refl;
            limits = c.in-Ok-Ready.ensures.limits;
            finds = λ bytes k u.
                subst (λ (found : Found). Finds bytes found c.look.new.self) c.in-Ok-Ready.field-0-is (c.in-Ok-Ready.ensures.finds bytes k u);
          })));
    }

pub returns-in-Ok-Refused : goal.returns-in-Ok-Refused
returns-in-Ok-Refused c =
    let unread = sym c.is_unread.ensures ∙ c.if-not-is_unread.false in
    record {
      turned = subst (λ (conn : HttpConn). Turned ReadsOn c.args.conn.now conn) (sym c.put-in-Ok-Refused.ensures.value)
          (looked {new = record c.args.conn.now { request = c.look.new.self; stage = Rejected c.in-Ok-Refused.cause c.in-Ok-Refused.bare }} c.args.conn.now c.look.new.self refl refl refl (λ ks w. w) (λ l. l) refl c.in-Ok-Refused.ensures.limits
          (λ l bytes taken k unready.
          let u = unready (reading_first c.args.conn.now unread) in
          let f : Finds bytes (Seen.Refused c.in-Ok-Refused.cause c.in-Ok-Refused.bare) c.look.new.self =
          subst (λ (found : Found). Finds bytes found c.look.new.self) c.in-Ok-Refused.field-0-is
          (c.in-Ok-Refused.ensures.finds bytes (unready_none c.args.conn.now.request bytes taken u k) u) in
          record { taken = 0; knows = f.knows; unready = λ t. absurd (false≢true t) })
          (λ n. looked_at n c.is_ending.result c.is_ending.ensures.tells c.if-is_ending.false unread refl (record {
            reading = reading_first c.args.conn.now unread;
            found = Seen.Refused c.in-Ok-Refused.cause c.in-Ok-Refused.bare;
            to = refl;
            limits = c.in-Ok-Refused.ensures.limits;
            finds = λ bytes k u.
                subst (λ (found : Found). Finds bytes found c.look.new.self) c.in-Ok-Refused.field-0-is (c.in-Ok-Refused.ensures.finds bytes k u);
          })));
    }

pub returns-in-Err : goal.returns-in-Err
returns-in-Err c =
    let lost : c.lose.new.self.lost ≡ true = ap (λ (conn : HttpConn). conn.lost) c.lose.ensures.value in
    let unread = sym c.is_unread.ensures ∙ c.if-not-is_unread.false in
    record {
      turned = looked {A = ReadsOn} c.args.conn.now c.look.new.self c.lose.ensures.kept.site c.lose.ensures.kept.flags c.lose.ensures.kept.peer_is c.lose.ensures.kept.child c.lose.ensures.kept.lost
          c.lose.ensures.kept.front c.in-Err.ensures.limits (λ l. absurd (false≢true (sym l ∙ lost)))
          (λ n. lost_at_look n c.is_ending.result c.is_ending.ensures.tells c.if-is_ending.false unread (lost_looking c.lose.ensures.value c.in-Err.ensures.limits) c.in-Err.ensures.memory);
    }
