use Rattle.std.proofs.Common.{rules, ◌≡◌, ◌++◌, sym, ap, ◌∙◌, take, length, encode_utf8, true}
use Rattle.std.proofs.Output.{has_written_append, has_written_of_eq}
use Rattle.std.specs.List.{flat_map}
use Rattle.shown_text.specs.Shown.{shown_char, escaped}
use Rattle.shown_text.proofs.ShownLaws.{escaped-more, all-escaped}
use Rattle.shown_text.proofs.shown.ShownCharDisplay.fmt.Goals as goal

pub loop-byte-init : goal.loop-byte-init
loop-byte-init g c = search rules

pub loop-byte-preserved : goal.loop-byte-preserved
loop-byte-preserved g c = λ plain.
    has_written_of_eq _ _ _ _ _ (sym (escaped-more _ _ c.loop-byte-test.true))
    (has_written_append _ _ _ _ _ _ (c.loop-byte.invariant plain) (search rules))

pub returns-clause-writes : goal.returns-clause-writes
returns-clause-writes g c = λ plain ok.
    has_written_of_eq _ _ _ _ _ (all-escaped c.args.self.now.0 _ _ (search rules) (search rules) c.loop-byte-test.false) (c.loop-byte.invariant plain)
