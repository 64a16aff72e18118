use Rattle.std.proofs.Common.{◌≡◌, length, sym, ◌∙◌, ◌++◌}
use Rattle.std.proofs.lemmas.Result.{IfOk-weaker}
use Rattle.body_framing.specs.Chunked.{chunk_step, read_chunked}
use Rattle.request_reader.proofs.Bodies.{advance_chunks, advance_counted, chunks_stand, on_ok}
use Rattle.request_reader.proofs.opened.Opened.advance.Goals as goal

pub returns-then-is_chunked-clause-body : goal.returns-then-is_chunked-clause-body
returns-then-is_chunked-clause-body c limit read taken h =
    let old = c.args.self.now in
    let coded = sym c.is_chunked.ensures ∙ c.if-is_chunked.true in
    let stands = chunks_stand limit old.request.framing old read taken coded h in
    on_ok c.advance_chunks.result _ (λ step. step ≡ chunk_step (length read) (read_chunked limit (read ++ c.args.bytes.now))) _
    c.advance_chunks.ensures.reads (c.advance_chunks.ensures.exact limit read stands)
    (λ step new_is step_is. advance_chunks limit old.request.framing old c.advance_chunks.new.self read c.args.bytes.now taken step coded h new_is step_is)

pub returns-else-is_chunked-clause-body : goal.returns-else-is_chunked-clause-body
returns-else-is_chunked-clause-body c limit read taken h =
    let old = c.args.self.now in
    let plain = sym c.is_chunked.ensures ∙ c.if-is_chunked.false in
    IfOk-weaker c.advance_counted.result _ _
    (λ step ok. advance_counted limit old.request.framing old c.advance_counted.new.self read c.args.bytes.now taken step plain h ok.0 ok.1)
    c.advance_counted.ensures.ok
