use Rattle.std.proofs.Common.{◌≡◌, ◌≤◌, ◌-◌, ℕ, List, length, take, drop, sym, ◌∙◌, subst, arith, rules}
use Rattle.std.specs.Prelude.{IfOk}
use Rattle.std.proofs.lemmas.Grind.{common_steps}
use Rattle.cgi_header.proofs.GrammarLaws.{whole_fits}
use Rattle.reply_stream.specs.Openings.{OpensAfter}
use Rattle.reply_stream.proofs.OpenLaws.{opens_whole_result, opens_more, opens_bad}
use Rattle.reply_stream.proofs.open.open_cgi.Goals as goal

pub slice_bounds-open_header-count : goal.slice_bounds-open_header-count
slice_bounds-open_header-count c =
    whole_fits c.args.output.now c.in-Whole.head c.in-Whole.used (sym c.in_ok-read_header.ensures.exact ∙ c.in-Whole.is)

pub slice_bounds-open_header-start : goal.slice_bounds-open_header-start
slice_bounds-open_header-start c =
    let fits : c.in-Whole.used ≤ length c.args.output.now =
    whole_fits c.args.output.now c.in-Whole.head c.in-Whole.used (sym c.in_ok-read_header.ensures.exact ∙ c.in-Whole.is) in
    search (rules, fits)

pub returns-in-More : goal.returns-in-More
returns-in-More c =
    opens_more c.args.asked c.args.close c.args.stamp c.args.output.now c.requires.kind (sym c.in_ok-read_header.ensures.exact ∙ c.in-More.is)

pub returns-in-Bad : goal.returns-in-Bad
returns-in-Bad c =
    opens_bad c.args.asked c.args.close c.args.stamp c.args.output.now c.in-Bad.field-0 c.requires.kind
    (sym c.in_ok-read_header.ensures.exact ∙ c.in-Bad.is)

pub returns-in-Whole : goal.returns-in-Whole
returns-in-Whole c =
    let rest : take (length c.args.output.now - c.in-Whole.used) (drop c.in-Whole.used c.args.output.now) ≡ drop c.in-Whole.used c.args.output.now =
    grind (arith, common_steps) in
    let opens : IfOk c.open_header.result (OpensAfter c.args.asked c.args.close c.args.stamp c.in-Whole.head (drop c.in-Whole.used c.args.output.now)) =
    subst (λ (l : List ℕ). IfOk c.open_header.result (OpensAfter c.args.asked c.args.close c.args.stamp c.in-Whole.head l)) rest c.open_header.ensures in
    opens_whole_result c.open_header.result c.args.asked c.args.close c.args.stamp c.args.output.now c.in-Whole.head c.in-Whole.used c.requires.kind
    (sym c.in_ok-read_header.ensures.exact ∙ c.in-Whole.is) opens
