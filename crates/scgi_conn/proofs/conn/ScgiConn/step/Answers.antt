use Rattle.std.proofs.Common.{refl}
use Rattle.host_trace.proofs.AddsLaws.{Adds-trans}
use Rattle.scgi_conn.proofs.conn.ScgiConn.step.Goals as goal

pub returns-clause-stepped : goal.returns-clause-stepped
returns-clause-stepped g c = record {
  acts = _;
  told = Adds-trans (Adds-trans c.write-written.ensures.told (Adds-trans c.act-acted.ensures.told c.begin-begun.ensures.told)) (Adds-trans c.close.ensures.told c.want.ensures.told);
  does = record {
    room = c.hear_run-room.result;
    heard = c.hear-heard.result;
    settled = c.settle-settled.result;
    written = c.write-written.result;
    fed = c.act-acted.result;
    begun = c.begin-begun.result;
    first = c.hear_run-room.new.self;
    first_is = c.hear_run-room.ensures.value;
    second = c.hear-heard.new.self;
    second_is = c.hear-heard.ensures;
    third = c.settle-settled.new.self;
    third_is = c.settle-settled.ensures;
    fourth = c.write-written.new.self;
    fourth_is = c.write-written.ensures.value;
    fifth = c.act-acted.new.self;
    fifth_is = c.act-acted.ensures.value;
    sixth = c.begin-begun.new.self;
    sixth_is = c.begin-begun.ensures.value;
    last = c.close.new.self;
    last_is = c.close.ensures.value;
    is = c.want.ensures.value;
    next = c.begin-begun.ensures.next;
    acts_are = refl;
    memory = c.hear_run-room.ensures.memory;
    unwritten = c.write-written.ensures.memory;
    unfed = c.act-acted.ensures.memory;
  };
}
