use Rattle.std.proofs.Common.{refl}
use Rattle.host_trace.proofs.AddsLaws.{Adds-trans}
use Rattle.talk_conn.proofs.conn.TalkConn.step.Goals as goal

pub returns-clause-stepped : goal.returns-clause-stepped
returns-clause-stepped g c = record {
  acts = _;
  told = Adds-trans (Adds-trans c.say-said.ensures.told c.act-acted.ensures.told) (Adds-trans c.close.ensures.told c.want.ensures.told);
  does = record {
    heard = c.hear-heard.result;
    said = c.say-said.result;
    fed = c.act-acted.result;
    first = c.hear-heard.new.self;
    first_is = c.hear-heard.ensures.value;
    second = c.say-said.new.self;
    second_is = c.say-said.ensures.value;
    third = c.act-acted.new.self;
    third_is = c.act-acted.ensures.value;
    last = c.close.new.self;
    last_is = c.close.ensures.value;
    is = c.want.ensures.value;
    acts_are = refl;
    memory = c.hear-heard.ensures.memory;
    room = c.hear-heard.ensures.room;
    said_memory = c.say-said.ensures.memory;
    fed_memory = c.act-acted.ensures.memory;
  };
}
