use Rattle.std.proofs.Common.{◌≢◌, ℕ, List, ap, sym, subst}
use Rattle.std.specs.Prelude.{All, Err}
use Rattle.std.specs.Str.{IsUtf8}
use Rattle.script_map.proofs.MappingLaws.{text_or_none-some, text_or_none-none, percent_stands}
use Rattle.script_map.proofs.mapping.decode.Goals as goal

pub returns-in-Ok-clause-exact : goal.returns-in-Ok-clause-exact
returns-in-Ok-clause-exact c =
    text_or_none-some _ _ _ c.in-Ok.ensures.value c.percent_decode.ensures.bytes c.in-Ok.ensures.ok_only_if_utf8

pub returns-in-Err-Utf8-clause-exact : goal.returns-in-Err-Utf8-clause-exact
returns-in-Err-Utf8-clause-exact c =
    let told = rw c.in-Err-Utf8.field-0-is at c.in-Err-Utf8.ensures.utf8 in
    text_or_none-none _ (λ utf8. let same = told (subst IsUtf8 (sym c.percent_decode.ensures.bytes) utf8) in cc)

pub returns-in-Err-OutOfMemory-clause-memory : goal.returns-in-Err-OutOfMemory-clause-memory
returns-in-Err-OutOfMemory-clause-memory c =
    percent_stands c.args.path.now (λ none. c.in-Err-OutOfMemory.ensures.has_memory
    (subst (λ (l : List ℕ). All (λ b. b ≢ 37) l) (sym c.percent_decode.ensures.input) none)
    (ap (λ e. Err e) c.in-Err-OutOfMemory.field-0-is))
