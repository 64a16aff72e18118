use Rattle.std.proofs.Common.{◌≤◌, Some, ap, sym, subst, ◌∙◌}
use Rattle.std.specs.Str.{IsUtf8}
use Rattle.std.proofs.lemmas.Str.{IsUtf8-string_bytes}
use Rattle.toml.specs.Data.{members_depth}
use Rattle.toml.specs.Parse.{parse_document}
use Rattle.site_file.proofs.DepthLaws.{document_depth}
use Rattle.site_file.proofs.ServedLaws.{said_is_served}
use Rattle.site_file.proofs.SiteBackLaws.{text_back}
use Rattle.site_file.proofs.write.write_site.Goals as goal

pub document-requires : goal.document-requires
document-requires c = (said_is_served c.requires.0 c.args.site.now c.requires.1).limits

pub returns-in-Ok-clause-document : goal.returns-in-Ok-clause-document
returns-in-Ok-clause-document c =
    ap parse_document c.from_string.ensures
    ∙ c.in-Ok.ensures.reads_back (subst (λ written. members_depth written ≤ 80) (sym c.in_ok-table.ensures) (document_depth c.args.site.now))
    ∙ ap Some c.in_ok-table.ensures

pub returns-in-Ok-clause-reads_back : goal.returns-in-Ok-clause-reads_back
returns-in-Ok-clause-reads_back c =
    text_back c.from_string.result c.args.site.now (subst IsUtf8 (sym c.from_string.ensures) (IsUtf8-string_bytes c.in-Ok.text))
    (ap parse_document c.from_string.ensures
    ∙ c.in-Ok.ensures.reads_back (subst (λ written. members_depth written ≤ 80) (sym c.in_ok-table.ensures) (document_depth c.args.site.now))
    ∙ ap Some c.in_ok-table.ensures)
    c.requires
