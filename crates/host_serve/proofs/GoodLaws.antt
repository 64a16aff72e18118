-- What the core of all connections keeps of the connections of this server is what is promised.
use Rattle.std.proofs.Common.{List, Option}
use Rattle.std.specs.Prelude.{All}
use Rattle.std.proofs.lemmas.Bool.{ltb-true}
use Rattle.std.proofs.lemmas.List.Elements.{All-weaker}
use Rattle.host_base.specs.LimitRanges.{AreInRange}
use Rattle.host_base.specs.declared.site.Site.{Site}
use Rattle.host_trace.specs.declared.items.Item.{Item}
use Rattle.host_trace.specs.Projections.{accepted_count}
use Rattle.trace_laws.specs.Promised.{Promised}
use Rattle.host_core.specs.Stands.{Good as KeepsPromise}
use Rattle.host_loop.specs.Loops.{WhereTold}
use Rattle.conn_core.specs.Kind.{conn_kind}

promised : (site : Site) (T : List Item) → AreInRange site.limits → KeepsPromise conn_kind site T → Promised site T
promised site T limits g = record {
  good = record { begun = g.begun; between = g.between; connections = λ c known. g.parts c (ltb-true c (accepted_count T) known) };
  fit = g.fit;
  limits = limits;
}

pub all_promised : {O : Type 0} (trace : O → Option (List Item)) (site : Site) (os : List O) → AreInRange site.limits
    → All (λ o. WhereTold (KeepsPromise conn_kind site) (trace o)) os → All (λ o. WhereTold (Promised site) (trace o)) os
all_promised trace site os limits all =
    All-weaker (λ o. WhereTold (KeepsPromise conn_kind site) (trace o)) (λ o. WhereTold (Promised site) (trace o)) (λ o good T told. promised site T limits (good T told)) os all
