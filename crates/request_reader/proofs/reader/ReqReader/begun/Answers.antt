use Rattle.std.proofs.Common.{drop, subst, sym, ◌∙◌, inl, inr}
use Rattle.request_reader.specs.Reader.{Reader, IsHeard}
use Rattle.request_reader.proofs.RequestLaws.{heard_begun}
use Rattle.request_reader.proofs.reader.ReqReader.begun.Goals as goal

pub returns-then-is_some : goal.returns-then-is_some
returns-then-is_some c bytes taken h =
    let s = c.self.inside in
    heard_begun s.limits s.fault s.opened (drop s.begin s.buffer.items) bytes taken
    (subst (λ (r : Reader). IsHeard r bytes taken) (sym c.self.view_is) h) (inl (sym c.is_some.ensures ∙ c.if-is_some.true))

pub returns-then-is_some-2 : goal.returns-then-is_some-2
returns-then-is_some-2 c bytes taken h =
    let s = c.self.inside in
    heard_begun s.limits s.fault s.opened (drop s.begin s.buffer.items) bytes taken
    (subst (λ (r : Reader). IsHeard r bytes taken) (sym c.self.view_is) h) (inr (sym c.is_some-2.ensures ∙ c.if-is_some-2.true))
