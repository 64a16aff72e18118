use Rattle.std.proofs.Common.{sym, ◌∙◌, subst, List}
use Rattle.std.proofs.lemmas.Bool.{eqb-true, eqb-false}
use Rattle.std.proofs.lemmas.Result.{err_from_is_err_and}
use Rattle.host_base.specs.declared.fields.Field.{Field}
use Rattle.cgi_header.proofs.HeaderLaws.{IsRead, read_none, read_more, read_refused, read_all, read_open}
use Rattle.cgi_header.proofs.read.read_fields.Goals as goal
use Rattle.cgi_header.proofs.read.read_fields.Goals.{in-Some+then-is_empty, in_default}

pub loop-line-init : goal.loop-line-init
loop-line-init c = λ front is.
    subst (λ (fields : List Field). IsRead front.lines c.args.header.now fields) (sym c.new-fields.ensures) (read_none c.args.header.now front is)

pub returns-in_err-read_line : goal.returns-in_err-read_line
returns-in_err-read_line c =
    let p = err_from_is_err_and c.from_residual.result c.from_residual.ensures.1 in
    rw (p.1, p.2) (λ front is.
    read_refused front.lines _ _ _ _ (c.loop-line.invariant front is) c.in-Some.ensures.cut (eqb-false _ _ (sym c.is_empty.ensures ∙ c.if-is_empty.false)) c.in_err-read_line.field-0.0 c.in_err-read_line.ensures)

pub loop-line-preserved : goal.loop-line-preserved
loop-line-preserved c = λ front is.
    read_more front.lines _ _ _ _ _ (c.loop-line.invariant front is) c.in-Some.ensures.cut (eqb-false _ _ (sym c.is_empty.ensures ∙ c.if-is_empty.false)) c.in_ok-read_line.ensures.0 c.in_ok-read_line.ensures.1

pub returns : goal.returns
returns c = λ front is.
    elim c.match-cut_line.branch [
      | in-Some+then-is_empty w ↦
          read_all front.lines _ _ _ _ (c.loop-line.invariant front is) w.in-Some.ensures.cut (eqb-true _ _ (sym w.is_empty.ensures ∙ w.if-is_empty.true))
      | in_default w ↦ absurd (read_open front.lines _ _ (c.loop-line.invariant front is) w.in_default.ensures.none)
    ]
