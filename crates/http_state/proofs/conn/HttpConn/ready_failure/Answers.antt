use Rattle.std.proofs.Common.{true, false, refl, sym}
use Rattle.http_state.proofs.ReadyLaws.{fails_with, fails_without}
use Rattle.http_state.proofs.conn.HttpConn.ready_failure.Goals as goal

pub returns-in-Ok-Some-clause-failed : goal.returns-in-Ok-Some-clause-failed
returns-in-Ok-Some-clause-failed c lost = record {
  closes = c.closes_by-closes.result;
  closes_is = c.closes_by-closes.ensures;
  begun = false;
  begun_is = λ asked told ticked stood k.
      (fails_with asked c.args.cause c.closes_by-closes.result c.args.now stood c.in-Ok-Some.field-0 c.in-Ok-Some.text c.in-Ok-Some.field-0-is
      (c.in-Ok-Some.ensures.fails asked told ticked stood k)).unbegun;
  by = (
    c.in-Ok-Some.text,
    c.put.ensures.value,
    λ asked told ticked stood k.
        (fails_with asked c.args.cause c.closes_by-closes.result c.args.now stood c.in-Ok-Some.field-0 c.in-Ok-Some.text c.in-Ok-Some.field-0-is
        (c.in-Ok-Some.ensures.fails asked told ticked stood k)).spells,
  );
}

pub returns-in-Ok-None-clause-failed : goal.returns-in-Ok-None-clause-failed
returns-in-Ok-None-clause-failed c lost = record {
  closes = c.closes_by-closes.result;
  closes_is = c.closes_by-closes.ensures;
  begun = true;
  begun_is = λ asked told ticked stood k.
      fails_without asked c.args.cause c.closes_by-closes.result c.args.now stood c.in-Ok-None.field-0 c.in-Ok-None.field-0-is
      (c.in-Ok-None.ensures.fails asked told ticked stood k);
  by = refl;
}

pub returns-clause-lacks : goal.returns-clause-lacks
returns-clause-lacks c found lost asked told ticked stood k = sym (c.in-Err.ensures.memory asked told ticked stood k)
