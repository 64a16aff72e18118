use Rattle.exchange_reply.proofs.LegLaws.{closes_are_of_legs, hops_ask_alike, ways_begin, ways_end}
use Rattle.exchange_reply.proofs.laws.ways_are_fixed.Goals as goal

pub returns : goal.returns
returns c = record { begin = ways_begin; end = ways_end; close = closes_are_of_legs; hops = hops_ask_alike }
