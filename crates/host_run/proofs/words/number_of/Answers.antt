-- What was read is the number of the digits.
use Rattle.std.proofs.Common.{◌≡◌, true, refl, sym}
use Rattle.host_run.specs.Words.{is_number}
use Rattle.host_run.proofs.NumberLaws.{number_read}
use Rattle.host_run.proofs.words.number_of.Goals as goal

pub returns-then-is_number : goal.returns-then-is_number
returns-then-is_number c =
    let is : is_number c.args.word.now ≡ true = sym c.if-is_number.ensures in
    rw (c.ok.ensures.value, number_read c.args.word.now c.parse.result c.parse.ensures.value.0 is, is) refl
