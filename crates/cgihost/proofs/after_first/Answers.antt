use Rattle.std.proofs.Common.{Global, ap, ◌∙◌}
use Rattle.std.specs.Vec.Iter.{into_iter_items, into_iter_len}
use Rattle.std.proofs.lemmas.Iterator.{items_from_collect}
use Rattle.std.proofs.lemmas.Iterator.Adapters.{YieldsList-from_vec, YieldsList-from_skip}
use Rattle.cgihost.proofs.after_first.Goals as goal

pub returns-in-Ok-clause-words : goal.returns-in-Ok-clause-words
returns-in-Ok-clause-words c =
    let source = c.skip.ensures.source in
    let all = items_from_collect c.collect.result c.collect.ensures.ran
    (YieldsList-from_skip {s = c.skip.result} 1
    (YieldsList-from_vec {Z = Global} {s = c.skip.result.iter} (into_iter_items c.args.words) (ap into_iter_items source) (ap into_iter_len source ∙ c.args.words.rest.ok.0))
    c.skip.ensures.count) in
    rw c.in-Ok.is at all
