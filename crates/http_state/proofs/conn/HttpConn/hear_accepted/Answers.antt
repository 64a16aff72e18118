use Rattle.std.proofs.Common.{Some}
use Rattle.http_state.proofs.HearLaws.{first_client, heard_accepted, same_client}
use Rattle.http_state.proofs.conn.HttpConn.hear_accepted.Goals as goal

pub returns-then-is_none-clause-front : goal.returns-then-is_none-clause-front
returns-then-is_none-clause-front c =
    heard_accepted c.args.self.now c.args.peer (Some c.args.peer) c.after-self.result (first_client c.args.self.now.peer c.args.peer c.if-is_none.ensures) c.after-self.ensures

pub returns-else-is_none-clause-front : goal.returns-else-is_none-clause-front
returns-else-is_none-clause-front c =
    heard_accepted c.args.self.now c.args.peer c.args.self.now.peer c.after-self.result (same_client c.args.self.now.peer c.args.peer c.if-is_none.ensures) c.after-self.ensures
