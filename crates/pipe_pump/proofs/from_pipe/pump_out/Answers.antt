use Rattle.std.proofs.Common.{◌≡◌, ℕ, ◌≤◌, ◌<◌, ◌+◌, ◌^◌, ◌++◌, List, [], take, length, Option, Some, false, nat_eq, refl, sym, ap, ◌∙◌, subst, append-nil, le_refl, le_trans, arith}
use Rattle.std.proofs.KnownBytes.{Consumes-nil, Consumes-trans}
use Rattle.std.proofs.lemmas.Bool.Decides.{nat_tests}
use Rattle.std.proofs.lemmas.Grind.{common_steps}
use Rattle.std.specs.Io.KnownBytes.{Consumes}
use Rattle.rtrb.specs.Ring.{sent}
use Rattle.pipe_pump.specs.Moved.{Sends}
use Rattle.pipe_pump.proofs.Gone.{gives_last, spent_last}
use Rattle.pipe_pump.proofs.Steps.{same_producer_two, taken_total}
use Rattle.pipe_pump.proofs.from_pipe.pump_out.Goals as goal

-- bytes after bytes, and what was told to the pipe after them
given_more : (b m n a : Option (List ℕ)) (was now piece : List ℕ) → Consumes b m was → Consumes m n piece → Consumes n a [] → now ≡ was ++ piece → Consumes b a now
given_more b m n a was now piece g h k e =
    subst (λ w. Consumes b a w) (append-nil (was ++ piece) ∙ sym e) (Consumes-trans b n a (was ++ piece) [] (Consumes-trans b m n was piece g h) k)

below_most : (n : ℕ) → nat_eq n (2 ^ 62) ≡ false → n ≤ 2 ^ 62 → n < 2 ^ 62
below_most n e h = grind (arith, nat_tests)

pub loop-init : goal.loop-init
loop-init g c =
    (tt, tt, ((refl, refl, refl, refl), refl), subst (λ w. Consumes (g.P.PipeIn.left c.args.pipe) (g.P.PipeIn.left c.args.pipe) w) (sym c.requires) (Consumes-nil (g.P.PipeIn.left c.args.pipe)), le_refl (g.P.PipeIn.faults c.args.pipe), ap length c.requires, omega arith, c.into_small-buffer.ensures.some)

pub loop-preserved : goal.loop-preserved
loop-preserved g c =
    let w = c.in-Bytes.ensures.within c.in-Bytes.count refl in
    let m : c.loop.total + c.in-Bytes.count ≤ 2 ^ 62 = omega (arith, w) in
    let h : c.in-Bytes.count ≤ length c.read_piece.new.buffer.items = grind (arith, common_steps) in
    let s : sent c.send.new.producer ≡ sent c.loop.producer ++ take c.in-Bytes.count c.read_piece.new.buffer.items = subst (λ xs. sent c.send.new.producer ≡ sent c.loop.producer ++ take c.in-Bytes.count xs) c.deref.ensures.value c.in_default.ensures.sent in
    (tt, tt, same_producer_two c.args.ring.producer c.loop.producer c.send.new.producer c.loop.invariant.2 c.send.ensures.ring, given_more (g.P.PipeIn.left c.args.pipe) (g.P.PipeIn.left c.loop.pipe) (g.P.PipeIn.left c.read_piece.new.pipe) (g.P.PipeIn.left c.send.new.pipe) (sent c.loop.producer) (sent c.send.new.producer) (take c.in-Bytes.count c.read_piece.new.buffer.items) c.loop.invariant.3 c.in-Bytes.ensures.bytes c.send.ensures.pipe s, le_trans (le_trans c.loop.invariant.4 c.read_piece.ensures.count) c.send.ensures.count, taken_total (sent c.loop.producer) (sent c.send.new.producer) c.read_piece.new.buffer.items c.in-Bytes.count c.loop.total s h c.loop.invariant.5, below_most (c.loop.total + c.in-Bytes.count) c.in_default.ensures.ends m, omega arith)

pub returns-in-Some-send-clause-moved : goal.returns-in-Some-send-clause-moved
returns-in-Some-send-clause-moved g c =
    let d = c.done-in-Some-send.ensures in
    let s = subst (λ xs. Sends (Some c.in-Some-send.end) c.loop.producer c.send.new.producer (take c.in-Bytes.count xs)) c.deref.ensures.value c.in-Some-send.ensures.sent in
    rw (d.end, d.pipe, d.ring) (gives_last c.in-Some-send.end (g.P.PipeIn.left c.args.pipe) (g.P.PipeIn.left c.loop.pipe) (g.P.PipeIn.left c.read_piece.new.pipe) (g.P.PipeIn.left c.send.new.pipe) c.loop.producer c.send.new.producer (take c.in-Bytes.count c.read_piece.new.buffer.items) c.loop.invariant.3 c.in-Bytes.ensures.bytes c.send.ensures.pipe s)

pub returns-in-Some-send-clause-spent : goal.returns-in-Some-send-clause-spent
returns-in-Some-send-clause-spent g c =
    let d = c.done-in-Some-send.ensures in
    let s = subst (λ xs. Sends (Some c.in-Some-send.end) c.loop.producer c.send.new.producer (take c.in-Bytes.count xs)) c.deref.ensures.value c.in-Some-send.ensures.sent in
    let t : length (sent c.loop.producer) + length (take c.in-Bytes.count c.read_piece.new.buffer.items) ≡ c.loop.total + c.in-Bytes.count = grind (arith, common_steps) in
    rw (d.end, d.ring) (spent_last c.in-Some-send.end (g.P.PipeIn.left c.send.new.pipe) (g.P.PipeIn.faults c.read_piece.new.pipe) (g.P.PipeIn.faults c.send.new.pipe) c.loop.producer c.send.new.producer (take c.in-Bytes.count c.read_piece.new.buffer.items) (c.loop.total + c.in-Bytes.count) s c.in-Some-send.ensures.ends t (grind (arith, common_steps)))
