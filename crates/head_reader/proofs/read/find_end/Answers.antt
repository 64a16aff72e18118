use Rattle.std.proofs.Common.{ℕ, List, ◌++◌, take, ap, subst, ◌∙◌}
use Rattle.head_lines.specs.Lines.{IsSearched}
use Rattle.head_reader.proofs.ReadLaws.{text_is, search_goes_on}
use Rattle.head_reader.proofs.read.find_end.Goals as goal

pub returns-else-buf-lt2-clause-kept : goal.returns-else-buf-lt2-clause-kept
returns-else-buf-lt2-clause-kept c = λ more.
    let search = c.front_end-found.new.self in
    let window = c.within-text.ensures
    ∙ ap (take c.args.limits.now.head) (text_is c.args.buf.now c.leading_len.result c.leading_len.ensures.value) in
    search_goes_on c.args.limits.now c.args.buf.now more search.start search.seen c.if-buf-lt2.false
    (λ after. subst (λ (t : List ℕ). IsSearched (t ++ after) search.start search.seen) window (c.front_end-found.ensures.kept after))
