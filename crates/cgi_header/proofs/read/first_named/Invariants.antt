-- No field before this one has the name.
use Rattle.std.proofs.Common.{◌≡◌}
use Rattle.cgi_header.specs.ScriptHeader.{value_named}
use Rattle.cgi_header.proofs.HeaderLaws.{valued_at}
use Rattle.cgi_header.proofs.read.first_named.Given as goal

abbrev pub invariant-loop-field : goal.invariant-loop-field
invariant-loop-field l = valued_at l.name l.fields l.field-index ≡ value_named l.name l.fields
