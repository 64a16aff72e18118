use Rattle.std.proofs.Common.{◌≡◌, take, ◌∙◌, arith, lit<}
use Rattle.std.proofs.lemmas.Str.Pattern.{rfind_char}
use Rattle.meta_variables.proofs.FolderLaws.{folder_before, folder_first, folder_none}
use Rattle.meta_variables.proofs.start.folder_of.Goals as goal
use Rattle.meta_variables.proofs.start.folder_of.Goals.{in_default-via-in-Some+else-at-gt0, in_default-via-in_default}

pub returns-in-Some : goal.returns-in-Some
returns-in-Some c =
    let last = rfind_char 47 c.args.program.now c.rfind.result c.rfind.ensures.cases (lit< tt) in
    let at = rw c.in-Some.is at last in
    let front : c.range.result.now ≡ take c.in-Some.at c.args.program.now = grind (arith, c.range.ensures.value) in
    front ∙ folder_before c.args.program.now c.in-Some.at (record { within = at.0; here = at.1; last = at.2 }) c.if-at-gt0.true

pub returns-in_default : goal.returns-in_default
returns-in_default c =
    let last = rfind_char 47 c.args.program.now c.rfind.result c.rfind.ensures.cases (lit< tt) in
    elim c.in_default.branch [
      | in_default-via-in-Some+else-at-gt0 w ↦
          let at = rw w.in-Some.is at last in
          folder_first c.args.program.now w.in-Some.at (record { within = at.0; here = at.1; last = at.2 }) (omega (arith, w.if-at-gt0.false))
      | in_default-via-in_default w ↦ folder_none c.args.program.now (rw w.in_default.is at last)
    ]
