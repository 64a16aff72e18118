-- What holds of the values of every environment.
use Rattle.std.specs.Prelude.{◌≡◌, ℕ, Bool, true, ◌&&◌, not, nat_lt, List, [], All, Some, unwrap_or}
use Rattle.std.specs.List.{list_all}
use Rattle.std.specs.Str.{is_utf8}
use Rattle.host_base.specs.declared.launch.Pair.{Pair}
use Rattle.host_base.specs.declared.launch.Peer.{Peer}
use Rattle.host_base.specs.declared.request.Request.{Request}
use Rattle.host_base.specs.declared.site.Mapped.{Mapped}
use Rattle.host_base.specs.declared.site.Site.{Site}
use Rattle.script_map.specs.Mapping.{is_nul}
use Rattle.meta_variables.specs.Environment.{environment_of}

abbrev pub is_no_nul : ℕ → Bool
is_no_nul byte = not (is_nul byte)

-- what a program can be given: UTF-8 without a NUL, which would end it
abbrev pub is_program_text : List ℕ → Bool
is_program_text text = is_utf8 text && list_all is_no_nul text

-- a byte that is no NUL
abbrev pub is_value_byte : ℕ → Bool
is_value_byte byte = nat_lt 0 byte && nat_lt byte 256

-- What an environment is made of has no NUL, and all but the values of fields are UTF-8.
pub record HasProgramTexts (site : Site) (peer : Peer) (request : Request) (mapped : Mapped) : Type 0 where
  pub names : All (λ host. is_program_text host.name ≡ true) site.hosts
  pub roots : All (λ host. is_program_text host.root ≡ true) site.hosts
  pub address : is_program_text peer.0 ≡ true
  pub method : is_program_text request.method ≡ true
  pub query : is_program_text (unwrap_or request.target.query []) ≡ true
  pub host : is_program_text (unwrap_or request.target.host []) ≡ true
  pub fields : All (λ field. list_all is_value_byte field.value ≡ true) request.fields
  pub script_name : is_program_text mapped.script_name ≡ true
  pub path_info : is_program_text mapped.path_info ≡ true

-- then each value is UTF-8 without a NUL
abbrev pub ValuesAreTexts : Type 0
ValuesAreTexts = (site : Site) (peer : Peer) (request : Request) (mapped : Mapped) (env : List Pair)
    → environment_of site peer request mapped ≡ Some env → HasProgramTexts site peer request mapped
    → All (λ variable. is_program_text variable.value ≡ true) env
