use Rattle.std.proofs.Common.{sym, ◌∙◌}
use Rattle.script_map.proofs.PathLaws.{resolved_next, resolved_dots, resolved_other}
use Rattle.script_map.proofs.segments.remove_dot_segments.Goals as goal
use Rattle.script_map.proofs.segments.remove_dot_segments.Goals.{then-is_dot_segment+in_ok-push, else-is_dot_segment}

pub loop-segment-preserved : goal.loop-segment-preserved
loop-segment-preserved c =
    let before = c.loop-segment.invariant in
    resolved_next c.args.path.now _ c.loop-segment.rest.now before _ c.in-Some.segment.now c.in-Some.more.now c.in-Some.ensures.parts
    (c.in_ok-add_segment.ensures before.segments before.plain before.bytes)

pub returns : goal.returns
returns c =
    let path = c.args.path.now in
    let rest = c.loop-segment.rest.now in
    let before = c.loop-segment.invariant in
    let alone = c.in_default.ensures.alone in
    let now = c.in_ok-add_segment-2.ensures before.segments before.plain before.bytes in
    elim c.if-is_dot_segment.branch [
      | then-is_dot_segment+in_ok-push w ↦
          let law = resolved_dots path _ rest before _ alone now (sym c.is_dot_segment.ensures ∙ w.if-is_dot_segment.true) in
          cc (c.from_vec.ensures, w.kept-is, w.in_ok-push.ensures.items, law)
      | else-is_dot_segment w ↦
          let law = resolved_other path _ rest before _ alone now (sym c.is_dot_segment.ensures ∙ w.if-is_dot_segment.false) in
          cc (c.from_vec.ensures, w.kept-is, law)
    ]
