use Rattle.std.proofs.Common.{◌≡◌, Some, ap, sym, ◌∙◌}
use Rattle.std.specs.Prelude.{option_map, is_some}
use Rattle.std.specs.Cow.{cow_str_bytes}
use Rattle.script_map.specs.Mapping.{decoded_text, has_dot_segment, script_at}
use Rattle.script_map.proofs.MappingLaws.{memory_mapped}
use Rattle.script_map.proofs.mapping.script_of_path.Goals as goal

pub returns-clause-memory : goal.returns-clause-memory
returns-clause-memory c = λ told.
    let decoded : decoded_text c.args.path.now ≡ Some (cow_str_bytes c.in-Some.decoded) =
    sym c.in_ok-decoded.ensures.exact ∙ ap (option_map cow_str_bytes) c.in-Some.is in
    memory_mapped c.args.host c.args.scripts.now c.args.path.now (cow_str_bytes c.in-Some.decoded) decoded
    (sym c.has_hidden_escape.ensures ∙ c.if-has_hidden_escape.false)
    (ap has_dot_segment (sym (c.as_bytes.ensures.value ∙ c.as_str.ensures.value)) ∙ sym c.has_dot_segment.ensures ∙ c.if-has_dot_segment.false)
    (ap (λ text. is_some (script_at c.args.host c.args.scripts.now text)) (sym c.as_str-2.ensures.value) ∙ c.found_script.ensures.memory told)
