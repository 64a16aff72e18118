use Rattle.std.proofs.Common.{◌≤◌, length, sym, ◌∙◌, rules}
use Rattle.cgi_header.proofs.GrammarLaws.{whole_fits}
use Rattle.reply_kinds.proofs.output.derive_reply.Goals as goal

pub slice_bounds-derive_by_kind-count : goal.slice_bounds-derive_by_kind-count
slice_bounds-derive_by_kind-count c =
    whole_fits c.args.output.now c.in-Whole.head c.in-Whole.used (sym c.in_ok-head.ensures.exact ∙ c.in-Whole.is)

pub slice_bounds-derive_by_kind-start : goal.slice_bounds-derive_by_kind-start
slice_bounds-derive_by_kind-start c =
    let fits : c.in-Whole.used ≤ length c.args.output.now =
    whole_fits c.args.output.now c.in-Whole.head c.in-Whole.used (sym c.in_ok-head.ensures.exact ∙ c.in-Whole.is) in
    search (rules, fits)
