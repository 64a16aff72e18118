use Rattle.script_map.proofs.MappingCausesLaws.{maps_decoded_to_longest, finds_what_fits_decoded, refuses_decoded_other_hosts, refuses_decoded_unreadable, refuses_decoded_what_fits_none}
use Rattle.script_map.proofs.laws.decoded_paths_are_mapped.Goals as goal

pub returns-clause-longest : goal.returns-clause-longest
returns-clause-longest c = maps_decoded_to_longest

pub returns-clause-found : goal.returns-clause-found
returns-clause-found c = finds_what_fits_decoded

pub returns-clause-hosts : goal.returns-clause-hosts
returns-clause-hosts c = refuses_decoded_other_hosts

pub returns-clause-unreadable : goal.returns-clause-unreadable
returns-clause-unreadable c = refuses_decoded_unreadable

pub returns-clause-unfit : goal.returns-clause-unfit
returns-clause-unfit c = refuses_decoded_what_fits_none
