use Rattle.scgi_reader.proofs.ReadingLaws.{still_read}
use Rattle.scgi_reader.proofs.reading.Reading.hear.Goals as goal

pub with_head-requires : goal.with_head-requires
with_head-requires c =
    still_read c.self.inside.limits c.self.inside.bytes c.args.piece.now c.extend_from_slice.new.self c.self.inside.head c.in-Some.head c.self.invariant c.in-Some.is
    c.in_ok-extend_from_slice.ensures.ok
