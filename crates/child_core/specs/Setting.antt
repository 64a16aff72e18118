-- Where a run stands: its connection, the limits it is kept to, and what there is for its input.
use Rattle.std.specs.Prelude.{ℕ, List}
use Rattle.host_base.specs.declared.limits.Limits.{Limits}
use Rattle.host_trace.specs.declared.items.Item.{Item}
use Rattle.trace_child.specs.Run.{Run, Offer}
use Rattle.child_core.specs.View.{View}

pub record Setting : Type 0 where
  pub conn : ℕ
  pub limits : Limits
  pub offered : List Item → Offer

-- the run of these rules
abbrev pub run_in : Setting → View → Run
run_in s v = record { conn = s.conn; child = v.number; kind = v.kind; limits = s.limits; offered = s.offered }
