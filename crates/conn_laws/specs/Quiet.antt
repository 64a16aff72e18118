-- Items that change nothing of an exchange's walk.
use Rattle.std.specs.Prelude.{ℕ, Bool, true, false, not, ◌&&◌, ◌≡◌, List, []}
use Rattle.host_base.specs.declared.site.Site.{Site}
use Rattle.host_trace.specs.declared.items.Act.{Act}
use Rattle.host_trace.specs.declared.items.Act.TheVariants.{Shut, Start}
use Rattle.host_trace.specs.declared.items.Item.{Item}
use Rattle.host_trace.specs.Kinds.{bytes_heard, child_started, is_no_memory}
use Rattle.trace_child.specs.Decided.{decides_run}
use Rattle.trace_model.specs.Breaks.{breaks}
use Rattle.trace_model.specs.Exchange.{Exchange}
use Rattle.trace_model.specs.Legs.{Leg, run_of}

-- the item brings no byte of the client, starts no child of the connection, breaks no request and decides no run
pub record IsQuiet (site : Site) (c : ℕ) (e : Exchange) (x : Item) : Type 0 where
  pub bytes : bytes_heard c x ≡ []
  pub starts : child_started c x ≡ []
  pub breaks_none : breaks site c e e.items x ≡ false
  pub decides_none : (leg : Leg) → decides_run (run_of site c e leg) e.items x ≡ false

-- the act is no Start, and no Shut for want of memory
abbrev pub is_plain : Act → Bool
is_plain (Start k c j hop launch) = false
is_plain (Shut c why) = not (is_no_memory why)
is_plain _ = true
