-- What an authority is.
use Rattle.std.specs.Prelude.{◌≡◌, ℕ, true, ◌↔◌, List, ◌++◌, Some}
use Rattle.script_map.specs.Authority.{is_host, is_port_part, host_of_authority}

-- host [ ":" port ] (RFC 3986 3.2)
pub record IsAuthority (value host : List ℕ) : Type 0 where
  pub port : List ℕ
  pub whole : value ≡ host ++ port
  pub named : is_host host ≡ true
  pub digits : is_port_part port ≡ true

-- an authority has one host, and nothing else has any
abbrev pub AuthoritiesHaveOneHost : Type 0
AuthoritiesHaveOneHost = (value host : List ℕ) → (host_of_authority value ≡ Some host) ↔ IsAuthority value host
