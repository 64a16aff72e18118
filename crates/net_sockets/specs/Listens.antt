-- Where a listener listens.
use Rattle.std.specs.Prelude.{ℕ}
use Rattle.std.specs.declared.net.ip_addr.IpAddr.{IpAddr}

pub record ListensAt : Type 0 where
  pub address : IpAddr
  pub port : ℕ
