-- The front with what fits of the bytes.
use Rattle.std.proofs.Common.{◌≤◌, ◌+◌, ◌∙◌, sym, length, arith}
use Rattle.std.proofs.lemmas.Result.{on_ok_weaker}
use Rattle.sample_parts.proofs.FrontLaws.{take_part, take_whole}
use Rattle.sample_parts.proofs.fronts.lengthen.Goals as goal

pub returns-then-bytes-room : goal.returns-then-bytes-room
returns-then-bytes-room c =
    let few : length c.args.front.now + length c.args.bytes.now ≤ 12 = omega (arith, c.len-room.ensures, c.requires) in
    on_ok_weaker c.extend_from_slice.result (λ e. e ∙ sym (take_whole 12 c.args.front.now c.args.bytes.now few)) c.extend_from_slice.ensures.ok

pub returns-else-bytes-room : goal.returns-else-bytes-room
returns-else-bytes-room c =
    on_ok_weaker c.extend_from_slice-else-bytes-room.result (λ e. rw (take_part 12 c.args.front.now c.args.bytes.now c.requires, ← c.len-room.ensures) e) c.extend_from_slice-else-bytes-room.ensures.ok
