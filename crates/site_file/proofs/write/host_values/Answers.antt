use Rattle.std.proofs.Common.{ap, ◌∙◌, ◌+◌, drop}
use Rattle.std.specs.Prelude.{count_by}
use Rattle.toml.specs.Data.{table}
use Rattle.site_file.specs.SiteText.{host_tables, is_documents}
use Rattle.site_file.proofs.WriteLaws.{before, hosts_more, hosts_end}
use Rattle.site_file.proofs.write.host_values.Goals as goal

pub loop-host-preserved : goal.loop-host-preserved
loop-host-preserved c =
    let left = c.loop-host.left.now in
    ap (λ left. before c.push.new.self.items (host_tables (drop (c.loop-host.host-index + 1) c.args.hosts.now) left))
    (c.after-left.ensures ∙ ap (λ n. drop n left) c.documents_count.ensures ∙ ap (λ scripts. drop (count_by is_documents scripts) left) c.as_slice.ensures)
    ∙ hosts_more c.args.hosts.now c.loop-host.host-index c.host-item.result left c.loop-host.values.items c.push.new.self.items c.table_of.result _
    c.loop-host.invariant c.loop-host-test.true c.host-item.is c.in_ok-push.ensures.items (c.table_of.ensures ∙ ap table c.in_ok-host_table.ensures)

pub returns : goal.returns
returns c = hosts_end c.args.hosts.now c.loop-host.host-index c.loop-host.left.now c.loop-host.values.items _ c.loop-host.invariant c.loop-host-test.false
