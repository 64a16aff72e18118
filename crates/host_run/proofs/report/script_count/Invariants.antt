-- What was counted so far, which is fewer than 2^32 for each host.
use Rattle.std.proofs.Common.{◌≡◌, ◌^◌, ◌*◌, ◌≤◌, take}
use Rattle.std.specs.Prelude.{sum_by}
use Rattle.host_run.specs.Statuses.{scripts_len}
use Rattle.host_run.proofs.report.script_count.Given as goal

abbrev pub invariant-loop-host : goal.invariant-loop-host
invariant-loop-host l = record {
  counted : l.count ≡ sum_by scripts_len (take l.host-index l.hosts);
  few : l.count ≤ l.host-index * 2 ^ 32;
}
