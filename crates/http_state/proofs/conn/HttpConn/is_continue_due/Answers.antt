use Rattle.std.proofs.Common.{not, sym, ap, ◌∙◌}
use Rattle.http_state.specs.Reasons.{ends_with}
use Rattle.http_state.proofs.DueLaws.{none_by_first, none_by_mid}
use Rattle.http_state.proofs.conn.HttpConn.is_continue_due.Goals as goal

pub returns-then-is_ending-clause-tells : goal.returns-then-is_ending-clause-tells
returns-then-is_ending-clause-tells c =
    let ending = c.is_ending.ensures.tells in
    record {
      done = ending.done;
      tells = ending.tells;
      awaited = c.is_due-awaited.result;
      awaits = c.is_due-awaited.ensures;
      is = none_by_first (not (ends_with c.args.self.now ending.done)) c.is_due-awaited.result (not c.args.self.now.continued) (ap not (sym ending.is ∙ c.if-is_ending.true));
    }

pub returns-else-awaited-clause-tells : goal.returns-else-awaited-clause-tells
returns-else-awaited-clause-tells c =
    let ending = c.is_ending.ensures.tells in
    record {
      done = ending.done;
      tells = ending.tells;
      awaited = c.is_due-awaited.result;
      awaits = c.is_due-awaited.ensures;
      is = c.if-awaited.false ∙ none_by_mid (not (ends_with c.args.self.now ending.done)) c.is_due-awaited.result (not c.args.self.now.continued) c.if-awaited.false;
    }
