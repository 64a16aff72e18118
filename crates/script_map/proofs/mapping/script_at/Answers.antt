use Rattle.std.proofs.Common.{length, refl, sym, ap, ◌∙◌}
use Rattle.std.proofs.lemmas.Option.{slice_get_read}
use Rattle.script_map.specs.Mapping.{is_longest}
use Rattle.script_map.proofs.MappingLaws.{passes_at, longest_fits, script_at_some, script_at_none, longest_of, on_err_always, script_found}
use Rattle.script_map.proofs.mapping.script_at.Goals as goal

pub copy_mapped-requires-clause-fitting : goal.copy_mapped-requires-clause-fitting
copy_mapped-requires-clause-fitting c =
    let path = c.args.path.now in
    let scripts = c.args.scripts.now in
    let script = c.index-scripts-index.result in
    let at = longest_of path c.as_bytes.result.now scripts c.as_bytes.ensures.value _ (sym c.in-Some.ensures) in
    longest_fits path scripts script (ap (is_longest path scripts) c.index-scripts-index.is ∙ (passes_at (is_longest path scripts) scripts c.in-Some.index script at).1)

pub returns-in_ok-copy_mapped-in-Some-clause-exact : goal.returns-in_ok-copy_mapped-in-Some-clause-exact
returns-in_ok-copy_mapped-in-Some-clause-exact c =
    let path = c.args.path.now in
    let scripts = c.args.scripts.now in
    let script = c.index-scripts-index.result in
    let at = longest_of path c.as_bytes.result.now scripts c.as_bytes.ensures.value _ (sym c.in-Some.ensures) in
    script_at_some c.args.host scripts path c.in-Some.index script c.in_ok-copy_mapped-in-Some.field-0 at
    (slice_get_read scripts (length scripts) c.in-Some.index script refl (passes_at (is_longest path scripts) scripts c.in-Some.index script at).0 c.index-scripts-index.is)
    c.in_ok-copy_mapped-in-Some.ensures

pub returns-in-None-clause-exact : goal.returns-in-None-clause-exact
returns-in-None-clause-exact c =
    let path = c.args.path.now in
    let scripts = c.args.scripts.now in
    script_at_none c.args.host scripts path (longest_of path c.as_bytes.result.now scripts c.as_bytes.ensures.value _ (sym c.in-None.ensures))

pub returns-in_err-copy_mapped-in-Some-clause-memory : goal.returns-in_err-copy_mapped-in-Some-clause-memory
returns-in_err-copy_mapped-in-Some-clause-memory c =
    let path = c.args.path.now in
    let scripts = c.args.scripts.now in
    let script = c.index-scripts-index.result in
    let at = longest_of path c.as_bytes.result.now scripts c.as_bytes.ensures.value _ (sym c.in-Some.ensures) in
    on_err_always c.from_residual.result _
    (script_found c.args.host scripts path c.in-Some.index script at
    (slice_get_read scripts (length scripts) c.in-Some.index script refl (passes_at (is_longest path scripts) scripts c.in-Some.index script at).0 c.index-scripts-index.is))
