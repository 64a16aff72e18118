use Rattle.script_map.proofs.TargetRulesLaws.{reads_targets, refuses_unserved, refuses_hosts, refuses_targets}
use Rattle.script_map.proofs.laws.targets_are_read.Goals as goal

pub returns-clause-target : goal.returns-clause-target
returns-clause-target c = reads_targets

pub returns-clause-unserved : goal.returns-clause-unserved
returns-clause-unserved c = refuses_unserved

pub returns-clause-hosts : goal.returns-clause-hosts
returns-clause-hosts c = refuses_hosts

pub returns-clause-targets : goal.returns-clause-targets
returns-clause-targets c = refuses_targets
