-- All the parts that the separator cuts.
use Rattle.std.proofs.Common.{rules, tests}
use Rattle.std.proofs.lemmas.Iterator.Search.{all_from_yields_List}
use Rattle.std.proofs.lemmas.Iterator.Splits.{YieldsList-from_slice_split}
use Rattle.site_file.specs.Ranges.{is_octet}
use Rattle.site_file.specs.Ranges.{is_period}
use Rattle.site_file.proofs.ranges.are_octets.Goals as goal

pub returns : goal.returns
returns c =
    all_from_yields_List is_octet _ _ c.all.result c.all.ensures.ran
    (YieldsList-from_slice_split _ is_period c.args.text.now c.split.ensures.rest c.split.ensures.done c.split.ensures.closure (λ x r q k. search (rules, tests)))
    (λ x b q k. search (rules, tests))
