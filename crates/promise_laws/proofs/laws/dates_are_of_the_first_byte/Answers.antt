use Rattle.promise_laws.proofs.DateLaws.{dated_at}
use Rattle.promise_laws.proofs.laws.dates_are_of_the_first_byte.Goals as goal

pub returns : goal.returns
returns c = dated_at
