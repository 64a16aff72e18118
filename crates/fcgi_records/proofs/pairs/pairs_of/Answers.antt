use Rattle.std.proofs.Common.{rules}
use Rattle.fcgi_records.specs.Entries.{fields_in}
use Rattle.fcgi_records.proofs.PairLaws.{pairs_more}
use Rattle.fcgi_records.proofs.pairs.pairs_of.Goals as goal

pub loop-rest-preserved : goal.loop-rest-preserved
loop-rest-preserved c =
    pairs_more c.args.content.now c.loop-rest.rest.now c.in-Some.name.now c.in-Some.value.now c.in-Some.more.now
    (fields_in c.loop-rest.values.entries) (fields_in c.put.new.values.entries)
    (search rules) c.in-Some.ensures.some c.in_ok-put.ensures c.loop-rest.invariant
