use Rattle.std.proofs.Common.{◌≡◌, drop}
use Rattle.toml.specs.Data.{as_str}
use Rattle.toml.specs.View.{items_view}
use Rattle.site_file.specs.Keys.{each_of}
use Rattle.site_file.proofs.ArrayLaws.{with_rest}
use Rattle.site_file.proofs.keys.texts_of.Given as goal

abbrev pub invariant-loop-value : goal.invariant-loop-value
invariant-loop-value l = with_rest l.texts (each_of as_str (items_view (drop l.value-index l.array.items))) ≡ each_of as_str (items_view l.array.items)
