use Rattle.std.proofs.Common.{ℕ, List, ap, ◌∙◌}
use Rattle.fcgi_records.specs.Pairs.{field_with, put}
use Rattle.fcgi_records.specs.Entries.{fields_in}
use Rattle.fcgi_records.proofs.EntryLaws.{insert_is_put}
use Rattle.fcgi_records.proofs.pairs.put.Goals as goal

pub returns : goal.returns
returns c =
    ap fields_in c.in_ok-insert.ensures.entries
    ∙ insert_is_put c.in_ok-name.name c.in_ok-value.value c.args.values.now.entries
    ∙ ap (λ (n : List ℕ). put (field_with n c.in_ok-value.value.items) (fields_in c.args.values.now.entries)) c.in_ok-name.ensures.items
    ∙ ap (λ (v : List ℕ). put (field_with c.args.name.now v) (fields_in c.args.values.now.entries)) c.in_ok-value.ensures.items
