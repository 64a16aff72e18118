-- All the parts that the separator cuts.
use Rattle.std.proofs.Common.{rules, tests}
use Rattle.std.proofs.lemmas.Iterator.Search.{all_from_yields_List}
use Rattle.std.proofs.lemmas.Iterator.Splits.{YieldsList-from_slice_split}
use Rattle.site_file.specs.Ranges.{is_segment}
use Rattle.script_map.specs.DotSegments.{is_slash}
use Rattle.site_file.proofs.ranges.are_segments.Goals as goal

pub returns : goal.returns
returns c =
    all_from_yields_List is_segment _ _ c.all.result c.all.ensures.ran
    (YieldsList-from_slice_split _ is_slash c.args.path.now c.split.ensures.rest c.split.ensures.done c.split.ensures.closure (λ x r q k. search (rules, tests)))
    (λ x b q k. search (rules, tests))
