use Rattle.std.proofs.Common.{sym, ap, ◌∙◌, Some, List, ℕ}
use Rattle.cgi_header.proofs.HeaderLaws.{named_here, named_later}
use Rattle.cgi_header.proofs.read.first_named.Goals as goal

pub returns-then-is_named : goal.returns-then-is_named
returns-then-is_named c =
    ap (λ (v : List ℕ). Some v) c.as_slice.ensures
    ∙ sym (named_here c.args.name.now c.args.fields.now c.loop-field.field-index c.field-item.result c.loop-field-test.true c.field-item.is
    (sym c.is_named.ensures ∙ c.if-is_named.true))
    ∙ c.loop-field.invariant

pub loop-field-preserved : goal.loop-field-preserved
loop-field-preserved c =
    sym (named_later c.args.name.now c.args.fields.now c.loop-field.field-index c.field-item.result c.loop-field-test.true c.field-item.is
    (sym c.is_named.ensures ∙ c.if-is_named.false))
    ∙ c.loop-field.invariant
