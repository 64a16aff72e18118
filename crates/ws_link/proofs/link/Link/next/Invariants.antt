-- Only pings and pongs were read so far.
use Rattle.ws_link.specs.Answers.{HasPassed}
use Rattle.ws_link.proofs.link.Link.next.Given as goal

abbrev pub invariant-loop : goal.invariant-loop
invariant-loop l = HasPassed l.fn.self l.self
