use Rattle.std.proofs.Common.{drop, subst, sym}
use Rattle.request_reader.specs.Reader.{Reader, IsHeard}
use Rattle.request_reader.proofs.HeardLaws.{handed_out}
use Rattle.request_reader.proofs.reader.ReqReader.take_body.Goals as goal

pub returns-clause-kept : goal.returns-clause-kept
returns-clause-kept c bytes taken h =
    let s = c.self.inside in
    handed_out s.limits s.fault s.opened c.take_kept.new.opened (drop s.begin s.buffer.items) bytes c.take_kept.result taken
    c.take_kept.ensures.value c.take_kept.ensures.emptied (subst (λ (r : Reader). IsHeard r bytes taken) (sym c.self.view_is) h)
