use Rattle.std.proofs.Common.{true, false, not, ◌&&◌, List, ℕ, [], ◌∷◌, ◌++◌, take, filter, sym, ap, ◌∙◌, append-nil}
use Rattle.std.specs.List.{list_any}
use Rattle.std.specs.Str.{str_eq_ignore_ascii_case}
use Rattle.meta_variables.specs.HeaderVariables.{is_passed, header_variable}
use Rattle.meta_variables.specs.Variables.{is_kept}
use Rattle.meta_variables.proofs.HeaderLaws.{headers_next}
use Rattle.meta_variables.proofs.headers.push_headers.Goals as goal
use Rattle.meta_variables.proofs.headers.push_headers.Goals.{then-is_passed+then-not-is_repeated+in_ok-push_variable, else-is_passed, else-is_passed-via-then-is_passed+else-not-is_repeated, else-is_passed-via-else-is_passed}

pub loop-i-preserved : goal.loop-i-preserved
loop-i-preserved c =
    let fields = c.args.fields.now in
    let i = c.loop-i.i in
    let f = c.index-fields-i.result in
    let name = c.as_slice-name.ensures in
    let passed = ap is_passed (sym name) ∙ sym c.is_passed.ensures in
    let repeated = λ (x : List ℕ). list_any (λ g. is_passed g.name && str_eq_ignore_ascii_case g.name x) (take i fields) in
    let mid = c.loop-i.variables in
    elim c.if-is_passed.branch [
      | then-is_passed+then-not-is_repeated+in_ok-push_variable w ↦
          headers_next fields i f c.args.variables.now mid c.if-is_passed.variables true c.loop-i-test.true c.index-fields-i.is
          (λ k. (passed ∙ w.if-is_passed.true) k && not ((ap repeated (sym name) ∙ sym w.is_repeated.ensures ∙ w.if-not-is_repeated.true) k))
          c.loop-i.invariant
          (w.variables-is ∙ w.in_ok-push_variable.ensures ∙ ap (λ (x : List ℕ). mid ++ filter is_kept (header_variable fields x ∷ [])) name)
      | else-is_passed w ↦
          headers_next fields i f c.args.variables.now mid c.if-is_passed.variables false c.loop-i-test.true c.index-fields-i.is
          (elim w.else-is_passed.branch [
            | else-is_passed-via-then-is_passed+else-not-is_repeated v ↦
                λ k. (passed ∙ v.if-is_passed.true) k && not ((ap repeated (sym name) ∙ sym v.is_repeated.ensures ∙ v.if-not-is_repeated.false) k)
            | else-is_passed-via-else-is_passed v ↦ ap (λ t. t && not (repeated f.name)) (passed ∙ v.if-is_passed.false)
          ])
          c.loop-i.invariant
          (w.variables-is ∙ sym (append-nil mid))
    ]
