-- By the first field line of the name, and how many there are.
use Rattle.std.proofs.Common.{sym, ◌∙◌, ap}
use Rattle.std.specs.List.{find}
use Rattle.host_base.specs.FieldLists.{is_named}
use Rattle.ws_handshake.proofs.ValueLemmas.{only-one, only-more, only-none, of-value}
use Rattle.ws_handshake.proofs.checks.only_value.Goals as goal
use Rattle.ws_handshake.proofs.checks.only_value.Goals.{in_default-via-in-Some+else-count_named-eq1, in_default-via-in_default}

pub returns-in-Some : goal.returns-in-Some
returns-in-Some c =
    of-value _ c.in-Some.field.now c.as_slice-in-Some.result.now c.as_slice-in-Some.ensures (
    only-one c.args.name.now c.args.fields.now c.in-Some.field.now
    (sym (c.in-Some.ensures ∙ ap (λ fs. find (is_named c.args.name.now) fs) c.as_slice.ensures))
    (sym c.count_named.ensures ∙ c.if-count_named-eq1.true)
    )

pub returns-in_default : goal.returns-in_default
returns-in_default c =
    elim c.in_default.branch [
      | in_default-via-in-Some+else-count_named-eq1 w ↦
          sym (only-more c.args.name.now c.args.fields.now w.in-Some.field.now
          (sym (w.in-Some.ensures ∙ ap (λ fs. find (is_named c.args.name.now) fs) c.as_slice.ensures))
          (λ one. w.if-count_named-eq1.false (w.count_named.ensures ∙ one)))
      | in_default-via-in_default w ↦
          sym (only-none c.args.name.now c.args.fields.now (sym (w.in_default.ensures ∙ ap (λ fs. find (is_named c.args.name.now) fs) c.as_slice.ensures)))
    ]
