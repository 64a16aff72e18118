use Rattle.std.proofs.Common.{ℕ, List, drop, subst, sym, ap, ◌∙◌, ◌++◌}
use Rattle.std.proofs.lemmas.List.{drop-append-le, take_rest}
use Rattle.request_reader.specs.Reader.{Reader, IsHeard}
use Rattle.request_reader.proofs.HeardLaws.{heard_fed}
use Rattle.request_reader.proofs.reader.ReqReader.feed.Goals as goal

pub returns-clause-ok : goal.returns-clause-ok
returns-clause-ok c bytes taken h =
    let s = c.self.inside in
    let count = c.wanted_by-count.result in
    let kept = c.compact-self-inside.ensures in
    let tail = drop count c.args.piece.now in
    heard_fed s.limits s.fault s.opened c.read_wanted.new.opened (drop s.begin s.buffer.items)
    (drop c.compact-self-inside.result c.extend_from_slice.new.self.items) bytes c.args.piece.now taken count c.wanted_by-count.ensures
    c.in_default.ensures.ok
    (ap (drop c.compact-self-inside.result) (c.in_ok-extend_from_slice.ensures.items
    ∙ ap (λ (l : List ℕ). c.compact-self-inside.new.buffer.items ++ l) (take_rest c.args.piece.now count))
    ∙ drop-append-le c.compact-self-inside.result c.compact-self-inside.new.buffer.items tail kept.within
    ∙ ap (λ (l : List ℕ). l ++ tail) kept.same)
    (subst (λ (r : Reader). IsHeard r bytes taken) (sym c.self.view_is) h)
