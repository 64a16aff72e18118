use Rattle.std.proofs.Common.{ℕ, List, ◌++◌, ap, subst}
use Rattle.exchange_request.specs.Knows.{KnowsRequest}
use Rattle.http_state.proofs.HearLaws.{heard_bytes}
use Rattle.http_state.proofs.conn.HttpConn.hear_bytes.Goals as goal

pub returns-in-Ok-clause-front : goal.returns-in-Ok-clause-front
returns-in-Ok-clause-front c =
    heard_bytes {fed = record c.args.self.now { idle_left = c.after-self.result; request = c.feed.new.self }} c.args.bytes
    (ap (λ (n : ℕ). record c.args.self.now { idle_left = n; request = c.feed.new.self }) c.after-self.ensures) c.feed.ensures.limits c.feed.ensures.ready
    (λ all taken k two. subst (λ (b : List ℕ). KnowsRequest c.feed.new.self (all ++ b) taken) c.as_slice.ensures (c.in-Ok.ensures.ok all taken k two)) c.hear_body-found.ensures.front
