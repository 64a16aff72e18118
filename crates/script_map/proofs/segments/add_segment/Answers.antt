use Rattle.std.proofs.Common.{sym, ◌∙◌}
use Rattle.script_map.proofs.PathLaws.{drop_is}
use Rattle.script_map.proofs.segments.add_segment.Goals as goal

pub returns-then-is_dot_dot : goal.returns-then-is_dot_dot
returns-then-is_dot_dot c = λ segments plain is.
    c.drop_segment.ensures ∙ drop_is _ segments c.args.segment.now plain is (sym c.is_dot.ensures ∙ c.if-is_dot.false) (sym c.is_dot_dot.ensures ∙ c.if-is_dot_dot.true)
