use Rattle.std.proofs.Common.{[], ◌∷◌, ◌++◌, ap, ◌∙◌}
use Rattle.std.specs.Vec.Iter.{into_iter_items}
use Rattle.site_file.proofs.NumberLaws.{hosts_go_on}
use Rattle.site_file.proofs.number.site_of.Goals as goal

pub loop-host-preserved : goal.loop-host-preserved
loop-host-preserved c =
    hosts_go_on c.loop-host.hosts _ _ c.loop-host.docs _ _ c.in-Some.host (into_iter_items c.next.new.self) (into_iter_items c.loop-host.rest)
    c.loop-host.invariant c.in-Some.ensures.items (c.in_ok-push.ensures.ok ∙ ap (λ made. c.loop-host.hosts ++ made ∷ []) c.in_ok-host_of.ensures.host) c.in_ok-host_of.ensures.docs
