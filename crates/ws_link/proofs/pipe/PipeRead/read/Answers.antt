use Rattle.std.proofs.Common.{sym, ap, ◌∙◌}
use Rattle.ws_link.specs.Pipe.{Directions}
use Rattle.ws_link.proofs.PipeLemmas.{reads}
use Rattle.ws_link.proofs.pipe.PipeRead.read.Goals as goal

pub returns-clause-bytes : goal.returns-clause-bytes
returns-clause-bytes c =
    reads c.self.inside.coming.items c.args.self.now.coming c.left-left.result.now c.copy_from_slice.new.self c.args.buf.now c.self.inside.start c.min-count.result
    (ap (λ (d : Directions). d.coming) c.self.view_is) c.left-left.ensures c.copy_from_slice.ensures.after c.min-count.ensures
    (sym c.is_empty.ensures ∙ c.if-is_empty.false)
