use Rattle.meta_variables.proofs.DifferLaws.{names_differ}
use Rattle.meta_variables.proofs.NameLaws.{names_are_plain, no_name_is_hostile}
use Rattle.meta_variables.proofs.ValueLaws.{values_are_texts}
use Rattle.meta_variables.proofs.laws.environments_are_safe.Goals as goal

pub returns-clause-plain : goal.returns-clause-plain
returns-clause-plain c = names_are_plain

pub returns-clause-hostile : goal.returns-clause-hostile
returns-clause-hostile c = no_name_is_hostile

pub returns-clause-differ : goal.returns-clause-differ
returns-clause-differ c = names_differ

pub returns-clause-texts : goal.returns-clause-texts
returns-clause-texts c = values_are_texts
