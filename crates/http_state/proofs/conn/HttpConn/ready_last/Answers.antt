use Rattle.std.proofs.Common.{Bool, subst}
use Rattle.reply_stream.specs.declared.stream.Last.TheVariants as Ended
use Rattle.http_state.specs.Ready.{Faults}
use Rattle.http_state.proofs.ReadyLaws.{ends_as, lacks_bad, lacks_hop}
use Rattle.http_state.proofs.conn.HttpConn.ready_last.Goals as goal

pub returns-in-Ok-Written-clause-last : goal.returns-in-Ok-Written-clause-last
returns-in-Ok-Written-clause-last c lost = record {
  closes_now = c.closes_by-closes_now.result;
  closes_is = c.closes_by-closes_now.ensures;
  last = Ended.Written c.in-Ok-Written.text;
  ends = ends_as c.args.leg.reply c.closes_by-closes_now.result c.args.now c.in-Ok-Written.field-0 (Ended.Written c.in-Ok-Written.text) c.in-Ok-Written.field-0-is
      (λ asked told ticked stood k. c.in-Ok-Written.ensures.last asked told ticked stood k);
  with = (c.closes-closes.result, c.closes-closes.ensures, c.put.ensures.value);
}

pub returns-in-Ok-Hop-clause-last : goal.returns-in-Ok-Hop-clause-last
returns-in-Ok-Hop-clause-last c lost = record {
  closes_now = c.closes_by-closes_now.result;
  closes_is = c.closes_by-closes_now.ensures;
  last = Ended.Hop c.in-Ok-Hop.location;
  ends = ends_as c.args.leg.reply c.closes_by-closes_now.result c.args.now c.in-Ok-Hop.field-0 (Ended.Hop c.in-Ok-Hop.location) c.in-Ok-Hop.field-0-is
      (λ asked told ticked stood k. c.in-Ok-Hop.ensures.last asked told ticked stood k);
  with = c.hop.ensures.hop lost;
}

pub returns-in-Ok-Bad-clause-last : goal.returns-in-Ok-Bad-clause-last
returns-in-Ok-Bad-clause-last c lost = record {
  closes_now = c.closes_by-closes_now.result;
  closes_is = c.closes_by-closes_now.ensures;
  last = Ended.Bad c.in-Ok-Bad.cause;
  ends = ends_as c.args.leg.reply c.closes_by-closes_now.result c.args.now c.in-Ok-Bad.field-0 (Ended.Bad c.in-Ok-Bad.cause) c.in-Ok-Bad.field-0-is
      (λ asked told ticked stood k. c.in-Ok-Bad.ensures.last asked told ticked stood k);
  with = subst (λ (bare : Bool). Faults c.in-Ok-Bad.cause bare c.closes_by-closes_now.result c.args.now c.args.self.now c.ready_fault.new.self) c.is_head.ensures
      (c.ready_fault.ensures.fault lost);
}

pub returns-in-Ok-Hop-clause-lacks : goal.returns-in-Ok-Hop-clause-lacks
returns-in-Ok-Hop-clause-lacks c found lost =
    lacks_hop c.args.leg.reply c.closes_by-closes_now.result c.args.now c.in-Ok-Hop.location
    (ends_as c.args.leg.reply c.closes_by-closes_now.result c.args.now c.in-Ok-Hop.field-0 (Ended.Hop c.in-Ok-Hop.location) c.in-Ok-Hop.field-0-is
    (λ asked told ticked stood k. c.in-Ok-Hop.ensures.last asked told ticked stood k))

pub returns-in-Ok-Bad-clause-lacks : goal.returns-in-Ok-Bad-clause-lacks
returns-in-Ok-Bad-clause-lacks c found lost =
    lacks_bad c.args.leg.reply c.closes_by-closes_now.result c.args.now c.in-Ok-Bad.cause
    (ends_as c.args.leg.reply c.closes_by-closes_now.result c.args.now c.in-Ok-Bad.field-0 (Ended.Bad c.in-Ok-Bad.cause) c.in-Ok-Bad.field-0-is
    (λ asked told ticked stood k. c.in-Ok-Bad.ensures.last asked told ticked stood k))

pub returns-clause-lacks : goal.returns-clause-lacks
returns-clause-lacks c found lost = c.in-Err.ensures.memory
