-- The limits that a site may have, and those that it has where it names none.
use Rattle.std.specs.Prelude.{ℕ, ◌≡◌, ◌≤◌}
use Rattle.host_base.specs.declared.limits.Limits.{Limits}

abbrev pub IsWithin : ℕ → ℕ → ℕ → Type 0
IsWithin least greatest n = (least ≤ n) × (n ≤ greatest)

pub record AreInRange (limits : Limits) : Type 0 where
  pub head : IsWithin 1024 65536 limits.head
  pub target : IsWithin 64 32000 limits.target
  pub body : limits.body ≤ 16777216
  pub output : IsWithin 8192 16777216 limits.output
  pub run_ticks : IsWithin 1 864000 limits.run_ticks
  pub idle_ticks : IsWithin 1 36000 limits.idle_ticks
  pub linger_ticks : IsWithin 1 600 limits.linger_ticks
  pub redirects : limits.redirects ≤ 10
  pub connections : IsWithin 1 1024 limits.connections
  pub children : IsWithin 1 256 limits.children
  pub ws_text : IsWithin 1 1048576 limits.ws_text

abbrev pub default_limits : Limits
default_limits = record {
  head = 16384;
  target = 8000;
  body = 1048576;
  output = 16777216;
  run_ticks = 300;
  idle_ticks = 150;
  linger_ticks = 20;
  redirects = 10;
  connections = 256;
  children = 64;
  ws_text = 65536;
}

abbrev pub IsDefault : Limits → Type 0
IsDefault limits = limits ≡ default_limits
