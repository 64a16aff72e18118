use Rattle.std.proofs.Common.{refl, false, true, sym, ap, ◌∙◌, take, drop}
use Rattle.script_map.proofs.AuthorityLaws.{authority_is}
use Rattle.script_map.proofs.authority.host_of_authority.Goals as goal
use Rattle.script_map.proofs.authority.host_of_authority.Goals.{else-is_host-via-then-is_host+else-is_port_part, else-is_host-via-else-is_host}

pub returns-then-is_port_part : goal.returns-then-is_port_part
returns-then-is_port_part c =
    authority_is c.args.value.now c.split_at.result.0.now c.split_at.result.1.now true true
    (c.split_at.ensures.front ∙ ap (λ n. take n c.args.value.now) c.host_len.ensures)
    (c.split_at.ensures.back ∙ ap (λ n. drop n c.args.value.now) c.host_len.ensures)
    (sym c.is_host.ensures ∙ c.if-is_host.true) (sym c.is_port_part.ensures ∙ c.if-is_port_part.true)

pub returns-else-is_host : goal.returns-else-is_host
returns-else-is_host c =
    let front = c.split_at.ensures.front ∙ ap (λ n. take n c.args.value.now) c.host_len.ensures in
    let back = c.split_at.ensures.back ∙ ap (λ n. drop n c.args.value.now) c.host_len.ensures in
    elim c.else-is_host.branch [
      | else-is_host-via-then-is_host+else-is_port_part w ↦
          authority_is c.args.value.now c.split_at.result.0.now c.split_at.result.1.now true false front back
          (sym c.is_host.ensures ∙ w.if-is_host.true) (sym w.is_port_part.ensures ∙ w.if-is_port_part.false)
      | else-is_host-via-else-is_host w ↦
          authority_is c.args.value.now c.split_at.result.0.now c.split_at.result.1.now false _ front back
          (sym c.is_host.ensures ∙ w.if-is_host.false) refl
    ]
