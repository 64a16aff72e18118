-- The front of the connection that is written to is lengthened, and no other.
use Rattle.std.proofs.Common.{◌≡◌, ◌<◌, [], ◌∙◌, refl, arith, length}
use Rattle.std.specs.Prelude.{slice_index_or}
use Rattle.std.proofs.lemmas.List.{get_or_read}
use Rattle.std.proofs.lemmas.Result.{on_ok_weaker}
use Rattle.host_trace.specs.Kinds.{bytes_written}
use Rattle.sample_parts.proofs.FrontLaws.{lengthened_at, take_same}
use Rattle.sample_parts.proofs.fronts.note.Goals as goal

pub returns-in_default-clause-each : goal.returns-in_default-clause-each
returns-in_default-clause-each c = λ d h. take_same 12 (slice_index_or c.args.fronts.now.items d []) _ (c.requires d h) (c.in_default.ensures d)

pub returns-then-c-len-clause-each : goal.returns-then-c-len-clause-each
returns-then-c-len-clause-each c =
    let fronts = c.args.fronts.now in
    let lt : c.in-Some.c < length fronts.items = omega (arith, c.if-c-len.true, c.len.ensures, fronts.ok.0) in
    let at : c.index_mut.result.now ≡ slice_index_or fronts.items c.in-Some.c [] = get_or_read fronts.items c.in-Some.c c.index_mut.result.now lt c.index_mut.ensures.value [] in
    on_ok_weaker c.lengthen.result
    (λ e. λ d h. lengthened_at fronts.items c.in-Some.c c.lengthen.new.front c.in-Some.bytes.now lt (e ∙ rw at refl) (λ i l. c.requires i (omega (arith, fronts.ok.0, l))) (λ i. bytes_written i c.args.item.now) c.in-Some.ensures d (omega (arith, fronts.ok.0, h)))
    c.lengthen.ensures
