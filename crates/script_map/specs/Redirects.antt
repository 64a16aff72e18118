-- Targets that are made: of a local redirect (RFC 3875 6.2.2), and of a path that a gateway gives.
use Rattle.std.specs.Prelude.{ℕ, Bool, not, ◌&&◌, List, Option, None, option_and_then, nat_le}
use Rattle.std.specs.List.{list_all}
use Rattle.host_base.specs.declared.request.Target.{Target}
use Rattle.script_map.specs.Authority.{host_of_authority}
use Rattle.script_map.specs.Bytes.{begins_with}
use Rattle.script_map.specs.DotSegments.{without_dot_segments}
use Rattle.script_map.specs.Targets.{is_hash, raw_path_of, query_of, host_or_none}

-- a visible ASCII character that begins no fragment
abbrev pub is_local_byte : ℕ → Bool
is_local_byte byte = nat_le 33 byte && nat_le byte 126 && not (is_hash byte)

-- local-Location = abs-path [ "?" query-string ] (RFC 3875 6.3.2)
abbrev pub is_local : List ℕ → Bool
is_local location = begins_with 47 location && list_all is_local_byte location

-- the target of a local redirect: the path and the query of the location, at the host of the old target
abbrev pub redirected_target : List ℕ → Target → Target
redirected_target location old = record {
  path = without_dot_segments (raw_path_of location);
  query = query_of location;
  host = old.host;
}

-- the target of a path, at a host
abbrev pub target_of_path : List ℕ → Option (List ℕ) → Target
target_of_path path host = record { path = without_dot_segments path; query = None; host = host }

-- the host of an authority (RFC 3986 3.2), where it has one
abbrev pub named_host_of : List ℕ → Option (List ℕ)
named_host_of value = option_and_then host_or_none (host_of_authority value)
