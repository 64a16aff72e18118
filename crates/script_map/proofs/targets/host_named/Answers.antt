use Rattle.std.proofs.Common.{Some, None, codes, [], sym, ap, ◌∙◌}
use Rattle.std.proofs.lemmas.Bool.{eqb-true, eqb-false}
use Rattle.host_base.specs.FieldLists.{is_named}
use Rattle.std.specs.List.{find}
use Rattle.script_map.specs.Authority.{host_of_authority}
use Rattle.script_map.proofs.TargetLaws.{host_named_one, host_named_more, host_named_absent, host_named_in_v10, host_named_in_v11}
use Rattle.script_map.proofs.targets.host_named.Goals as goal

pub returns-in-Some : goal.returns-in-Some
returns-in-Some c =
    let head = c.args.head.now in
    let found = c.in-Some.ensures ∙ ap (find (is_named (codes "Host"))) c.as_slice.ensures in
    c.host_of_authority.ensures ∙ ap host_of_authority c.as_slice-in-Some.ensures
    ∙ sym (host_named_one (codes "Host") head.fields head.version c.in-Some.field.now (sym found) (eqb-true _ 1 (sym c.has_one_host.ensures ∙ c.if-has_one_host.true)))

pub returns-in-Some-2 : goal.returns-in-Some-2
returns-in-Some-2 c =
    let head = c.args.head.now in
    let found = c.in-Some-2.ensures ∙ ap (find (is_named (codes "Host"))) c.as_slice.ensures in
    sym (host_named_more (codes "Host") head.fields head.version c.in-Some-2.field-0.now (sym found) (eqb-false _ 1 (sym c.has_one_host.ensures ∙ c.if-has_one_host.false)))

pub returns-in-V10 : goal.returns-in-V10
returns-in-V10 c =
    let head = c.args.head.now in
    let found = c.in-None.ensures ∙ ap (find (is_named (codes "Host"))) c.as_slice.ensures in
    host_named_absent head.version (Some []) (host_named_in_v10 head.version c.in-V10.is) (codes "Host") head.fields (sym found)

pub returns-in-V11 : goal.returns-in-V11
returns-in-V11 c =
    let head = c.args.head.now in
    let found = c.in-None.ensures ∙ ap (find (is_named (codes "Host"))) c.as_slice.ensures in
    host_named_absent head.version None (host_named_in_v11 head.version c.in-V11.is) (codes "Host") head.fields (sym found)
