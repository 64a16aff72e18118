use Rattle.http_state.proofs.KeptLaws.{heard_by}
use Rattle.http_state.proofs.HearsLaws.{hears_by}
use Rattle.http_state.proofs.conn.HttpConn.hear.Goals as goal

pub returns : goal.returns
returns c = record {
  heard = heard_by c.hear.new.self c.hear.ensures c.hear_run-found.ensures.kept c.hear_run-found.ensures.settled c.hear_own.ensures.front c.settle.ensures;
  exact = hears_by c.args.self.now c.hear_run-found.new.self c.hear_own.new.self c.settle.new.self c.args.ev c.hear.new.self c.hear_run-found.result c.hear.ensures c.hear_run-found.ensures.kept
      c.hear_run-found.ensures.settled c.hear_run-found.ensures.value c.hear_run-found.ensures.memory c.hear_own.ensures.front c.hear_own.ensures.own c.settle.ensures;
}
