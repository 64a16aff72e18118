-- The host and the script that a mapping names.
use Rattle.std.proofs.Common.{◌≡◌, ℕ, ◌<◌, true, List, [], get_or, ◌++◌, Option, Some, None, refl, ◌∙◌, arith, inl, inr, codes}
use Rattle.std.specs.Prelude.{Ok, is_some, option_and_then, slice_get, unwrap_or}
use Rattle.std.specs.Option.{option_map_or}
use Rattle.std.specs.List.{list_all}
use Rattle.std.specs.Str.{is_utf8}
use Rattle.std.proofs.lemmas.Bool.{and_parts}
use Rattle.std.proofs.lemmas.Bool.Decides.{nat_tests}
use Rattle.std.proofs.lemmas.Option.{slice_get_within, get_or_from_slice_get}
use Rattle.host_base.proofs.SplitLaws.{chosen}
use Rattle.host_base.specs.declared.fields.Field.{Field}
use Rattle.host_base.specs.declared.site.Mapped.{Mapped}
use Rattle.host_base.specs.declared.site.Script.{Script}
use Rattle.host_base.specs.declared.site.Site.{Site}
use Rattle.host_base.specs.declared.site.VHost.{VHost}
use Rattle.script_map.specs.Bytes.{begins_with}
use Rattle.script_map.specs.Hosts.{scripts_of}
use Rattle.script_map.specs.MappingRules.{IsMappedTo}
use Rattle.script_map.specs.Redirects.{target_of_path}
use Rattle.script_map.specs.Targets.{is_question}
use Rattle.std.specs.List.{before_first}
use Rattle.script_map.proofs.MappingRulesLaws.{maps_to_longest}
use Rattle.script_map.proofs.MappingCausesLaws.{maps_decoded_to_longest}
use Rattle.meta_variables.specs.Gateway.{received_value, gateway_host, mapped_by_uri, mapped_received, gateway_mapped, is_variable_char, is_passed_variable}
use Rattle.meta_variables.specs.Launch.{NamesScript, script_in}
use Rattle.meta_variables.proofs.TextLaws.{ascii_text}

-- a host and a script stand at the places of a mapping
pub record HasPlaces (hosts : List VHost) (mapped : Mapped) : Type 0 where
  pub host : VHost
  pub script : Script
  pub host_at : slice_get hosts mapped.host ≡ Some host
  pub script_at : slice_get host.scripts mapped.index ≡ Some script

and_then_some : {X Y : Type 0} (f : X → Option Y) (o : Option X) → is_some (option_and_then f o) ≡ true → (x : X) × (y : Y) × (o ≡ Some x) × (f x ≡ Some y)
and_then_some f None is = absurd (cc)
and_then_some {X} {Y} f (Some x) is = by_case (f x) refl is
  where
    by_case : (o : Option Y) → f x ≡ o → is_some o ≡ true → (z : X) × (y : Y) × (Some x ≡ Some z) × (f z ≡ Some y)
    by_case None none told = absurd (cc)
    by_case (Some y) some told = (x, y, refl, some)

pub named_places : (site : Site) (mapped : Mapped) → NamesScript site mapped → HasPlaces site.hosts mapped
named_places site mapped names =
    let found = and_then_some (λ host. script_in host mapped) (slice_get site.hosts mapped.host) names in
    record { host = found.0; script = found.1; host_at = found.2; script_at = found.3 }

mapped_places : (hosts : List VHost) (name : Option (List ℕ)) (path : List ℕ) (mapped : Mapped) → IsMappedTo hosts name path mapped → HasPlaces hosts mapped
mapped_places hosts name path mapped is = by_case (slice_get hosts mapped.host) refl is.script.listed
  where
    by_case : (o : Option VHost) → slice_get hosts mapped.host ≡ o → slice_get (option_map_or scripts_of o []) mapped.index ≡ Some is.script.script → HasPlaces hosts mapped
    by_case None none told = absurd (omega (arith, slice_get_within [] mapped.index is.script.script told))
    by_case (Some host) some told = record { host = host; script = is.script.script; host_at = some; script_at = told }

pub gateway_places : (hosts : List VHost) (pairs : List Field) (mapped : Mapped) → gateway_mapped hosts pairs ≡ Ok mapped → HasPlaces hosts mapped
gateway_places hosts pairs mapped is = by_name (received_value pairs (codes "SCRIPT_NAME")) is
  where
    by_path : (uri : Option (List ℕ)) → mapped_by_uri hosts (gateway_host pairs) uri ≡ Ok mapped → HasPlaces hosts mapped
    by_path None told = absurd (cc)
    by_path (Some uri) told =
        elim (chosen (begins_with 47 (before_first is_question uri)) _ _ _ told) [
          | inl rooted ↦ mapped_places hosts _ _ mapped (maps_to_longest hosts (target_of_path (before_first is_question uri) (gateway_host pairs)) mapped rooted.1)
          | inr other ↦ absurd (cc)
        ]

    by_name : (name : Option (List ℕ)) → mapped_received hosts pairs name ≡ Ok mapped → HasPlaces hosts mapped
    by_name None told = by_path (received_value pairs (codes "REQUEST_URI")) told
    by_name (Some name) told =
        elim (chosen (begins_with 47 (name ++ unwrap_or (received_value pairs (codes "PATH_INFO")) [])) _ _ _ told) [
          | inl rooted ↦ mapped_places hosts _ _ mapped (maps_decoded_to_longest hosts (gateway_host pairs) (name ++ unwrap_or (received_value pairs (codes "PATH_INFO")) []) mapped rooted.1)
          | inr other ↦ absurd (cc)
        ]

-- what is read there
pub read_at : {X : Type 0} (xs : List X) (k : ℕ) (x read : X) → slice_get xs k ≡ Some x → read ≡ get_or xs k read → read ≡ x
read_at xs k x read at is = is ∙ get_or_from_slice_get xs k x read at

-- ---- names of variables are texts

char_small : (b : ℕ) → is_variable_char b ≡ true → b < 128
char_small b is = grind (arith, nat_tests)

pub passed_text : (name : List ℕ) → is_passed_variable name ≡ true → is_utf8 name ≡ true
passed_text name passed = ascii_text is_variable_char char_small name (and_parts _ (list_all is_variable_char name) passed).1
