use Rattle.std.proofs.Common.{arith, ◌≤◌, ◌-◌, length}
use Rattle.scgi_reader.proofs.StayLaws.{heads_are_within}
use Rattle.scgi_reader.proofs.ReadingLaws.{parts_within, whole_is}
use Rattle.scgi_reader.proofs.reading.with_head.Goals as goal

pub overflow_sub-rest : goal.overflow_sub-rest
overflow_sub-rest c = let within = heads_are_within c.args.limits c.args.bytes c.args.head c.requires in omega (arith, c.len.ensures)

pub invariant_of-result-2 : goal.invariant_of-result-2
invariant_of-result-2 c =
    let fits : c.args.head.len ≤ length c.args.bytes - c.args.head.used = omega (arith, c.len.ensures, c.if-head-rest.false) in
    parts_within c.args.limits c.args.bytes c.args.head c.requires fits

pub returns : goal.returns
returns c =
    let fits : c.args.head.len ≤ length c.args.bytes - c.args.head.used = omega (arith, c.len.ensures, c.if-head-rest.false) in
    (_, whole_is c.args.limits c.args.bytes c.args.head c.requires fits)
