use Rattle.std.proofs.Common.{ℕ, ◌+◌, ◌-◌, length, take, drop, sym, ap, ◌∙◌, arith, length-drop, length-take}
use Rattle.std.proofs.lemmas.Result.{IfOk-weaker, on_err_weaker}
use Rattle.head_reader.specs.RequestHead.{step_at_end, is_whole}
use Rattle.head_reader.proofs.ReadLaws.{at_end_is_answered, read_found, read_long, read_more, text_is}
use Rattle.head_reader.proofs.read.read_head_from.Goals as goal

pub slice_bounds-judge-end : goal.slice_bounds-judge-end
slice_bounds-judge-end c =
    let found = read_found c.args.limits.now c.args.buf.now _ c.in-Some.len
    (text_is c.args.buf.now c.leading_len-before.result c.leading_len-before.ensures.value)
    (sym c.in-Some.ensures.value) in
    omega (arith, found.fits, length-take c.in-Some.len (take (length c.args.buf.now - c.leading_len-before.result) (drop c.leading_len-before.result c.args.buf.now)))

pub overflow_add-before : goal.overflow_add-before
overflow_add-before c =
    let before = c.leading_len-before.result in
    let found = read_found c.args.limits.now c.args.buf.now _ c.in-Some.len
    (text_is c.args.buf.now c.leading_len-before.result c.leading_len-before.ensures.value)
    (sym c.in-Some.ensures.value) in
    omega (
      arith,
      found.fits,
      c.leading_len-before.ensures.within,
      length-take (length c.args.buf.now - before) (drop before c.args.buf.now),
      length-drop before c.args.buf.now,
    )

pub returns-in-Some-clause-exact : goal.returns-in-Some-clause-exact
returns-in-Some-clause-exact c =
    let found = read_found c.args.limits.now c.args.buf.now _ c.in-Some.len
    (text_is c.args.buf.now c.leading_len-before.result c.leading_len-before.ensures.value)
    (sym c.in-Some.ensures.value) in
    IfOk-weaker c.judge.result _ _ (λ step told. told found.front found.own found.whole
    ∙ ap (λ (n : ℕ). step_at_end c.args.limits.now (n + c.in-Some.len) found.front) c.leading_len-before.ensures.value ∙ sym found.answers) c.judge.ensures.exact

pub returns-in-None-clause-exact : goal.returns-in-None-clause-exact
returns-in-None-clause-exact c =
    read_long c.args.limits.now c.args.buf.now _
    (text_is c.args.buf.now c.leading_len-before.result c.leading_len-before.ensures.value)
    (sym c.in-None.ensures.value) c.if-text-limits.true

pub returns-in-None-2-clause-exact : goal.returns-in-None-2-clause-exact
returns-in-None-2-clause-exact c =
    read_more c.args.limits.now c.args.buf.now _
    (text_is c.args.buf.now c.leading_len-before.result c.leading_len-before.ensures.value)
    (sym c.in-None-2.ensures.value) c.if-text-limits.false

pub returns-in-Some-clause-memory : goal.returns-in-Some-clause-memory
returns-in-Some-clause-memory c =
    let found = read_found c.args.limits.now c.args.buf.now _ c.in-Some.len
    (text_is c.args.buf.now c.leading_len-before.result c.leading_len-before.ensures.value)
    (sym c.in-Some.ensures.value) in
    on_err_weaker c.judge.result (λ told. ap is_whole (found.answers
    ∙ ap (λ (n : ℕ). step_at_end c.args.limits.now (n + c.in-Some.len) found.front) (sym c.leading_len-before.ensures.value))
    ∙ told found.front found.own found.whole) c.judge.ensures.memory

pub returns-in-Some-clause-looked : goal.returns-in-Some-clause-looked
returns-in-Some-clause-looked c = λ more two.
    let found = read_found c.args.limits.now c.args.buf.now _ c.in-Some.len
    (text_is c.args.buf.now c.leading_len-before.result c.leading_len-before.ensures.value)
    (sym c.in-Some.ensures.value) in
    absurd (at_end_is_answered c.args.limits.now _ found.front (sym found.answers ∙ more))

pub returns-in-None-clause-looked : goal.returns-in-None-clause-looked
returns-in-None-clause-looked c = λ more two.
    let long = read_long c.args.limits.now c.args.buf.now _
    (text_is c.args.buf.now c.leading_len-before.result c.leading_len-before.ensures.value)
    (sym c.in-None.ensures.value) c.if-text-limits.true in
    absurd (cc)
