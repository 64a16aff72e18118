use Rattle.std.proofs.Common.{ap, ◌∙◌}
use Rattle.head_lines.specs.Lines.{front_len}
use Rattle.cgi_header.specs.ScriptHeader.{most_header}
use Rattle.cgi_header.proofs.HeaderLaws.{len_within}
use Rattle.cgi_header.proofs.read.header_len.Goals as goal

pub returns-clause-within : goal.returns-clause-within
returns-clause-within c =
    len_within c.args.output.now most_header c.front_end.result (c.front_end.ensures.value ∙ ap front_len c.first.ensures)
