use Rattle.script_map.proofs.MappingRulesLaws.{fits_whole_segments, maps_to_longest}
use Rattle.script_map.proofs.MappingCausesLaws.{finds_what_fits}
use Rattle.script_map.proofs.DecodingLaws.{decodes_segments}
use Rattle.script_map.proofs.laws.paths_are_mapped.Goals as goal

pub returns-clause-fitting : goal.returns-clause-fitting
returns-clause-fitting c = fits_whole_segments

pub returns-clause-longest : goal.returns-clause-longest
returns-clause-longest c = maps_to_longest

pub returns-clause-found : goal.returns-clause-found
returns-clause-found c = finds_what_fits

pub returns-clause-segments : goal.returns-clause-segments
returns-clause-segments c = decodes_segments
