use Rattle.std.proofs.Common.{ap, ◌∙◌}
use Rattle.toml.specs.View.{view, table_view, members_view}
use Rattle.site_file.specs.SiteText.{put}
use Rattle.site_file.proofs.WriteLaws.{members_view-insert_entry}
use Rattle.site_file.proofs.write.put.Goals as goal

pub returns : goal.returns
returns c =
    ap members_view c.in_ok-insert.ensures.entries
    ∙ members_view-insert_entry c.args.table.now.entries c.in_ok-key.key c.args.value
    ∙ ap (λ key. put key (view c.args.value) (table_view c.args.table.now)) c.in_ok-key.ensures.ok
