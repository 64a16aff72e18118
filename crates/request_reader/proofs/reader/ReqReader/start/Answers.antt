use Rattle.std.proofs.Common.{List, [], ℕ, sym, ap, ◌∙◌, drop, subst, append-nil}
use Rattle.head_reader.specs.RequestHead.{IsSearchedHead}
use Rattle.request_reader.specs.Reader.{Reader}
use Rattle.request_reader.specs.Starts.{IsStart}
use Rattle.request_reader.specs.declared.start.Start.{Start}
use Rattle.request_reader.specs.declared.start.Start.TheVariants as Found
use Rattle.request_reader.proofs.LookLaws.{first_settled}
use Rattle.request_reader.proofs.reader.ReqReader.start.Goals as goal

pub first_look-requires : goal.first_look-requires
first_look-requires c =
    let s = c.self.inside in
    subst (λ (text : List ℕ). IsSearchedHead s.limits text s.search)
    (append-nil (drop s.begin s.buffer.items) ∙ ap (λ (r : Reader). r.rest) c.self.view_is ∙ sym c.rest.ensures)
    (c.self.invariant.searched [])

pub returns-in-Opened-clause-heard : goal.returns-in-Opened-clause-heard
returns-in-Opened-clause-heard c unfaulty =
    first_settled c.args.self.now c.in-Opened.opened c.in-Opened.step c.rest.result.now c.settle.result c.settle.new.self
    (subst (λ (r : Reader). IsStart r.limits c.rest.result.now (Found.Opened c.in-Opened.opened c.in-Opened.step)) c.self.view_is
    (subst (λ (start : Start). IsStart c.self.inside.limits c.rest.result.now start) c.in-Opened.is c.in_ok-first_look.ensures.exact))
    c.rest.ensures unfaulty c.settle.ensures.look c.settle.ensures.state
