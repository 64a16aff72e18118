use Rattle.std.proofs.Common.{ap, ◌∙◌}
use Rattle.head_reader.specs.HeadLaws.{version_named}
use Rattle.head_reader.proofs.ReadLaws.{fields_parsed}
use Rattle.head_reader.proofs.parse.copy_head.Goals as goal

pub returns : goal.returns
returns c = λ r at.
    let method = c.in_ok-method.ensures ∙ c.of.ensures ∙ at.method in
    let target = c.in_ok-target.ensures ∙ c.of-2.ensures ∙ at.path in
    let version = c.version_of.ensures ∙ ap version_named at.version in
    let fields = c.in_ok-fields.ensures ∙ fields_parsed c.args.bytes.now c.args.spans.now c.args.found.headers r.fields at.fields in
    λ i. record { method = method i; target = target i; version = version i; fields = fields i }
