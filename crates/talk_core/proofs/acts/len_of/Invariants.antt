-- The texts before this one.
use Rattle.std.proofs.Common.{◌≡◌, take}
use Rattle.talk_core.specs.Acting.{len_of}
use Rattle.talk_core.proofs.acts.len_of.Given as goal

abbrev pub invariant-loop-text : goal.invariant-loop-text
invariant-loop-text l = l.len ≡ len_of (take l.text-index l.texts)
