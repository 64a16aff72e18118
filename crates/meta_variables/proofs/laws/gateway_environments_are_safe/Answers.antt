use Rattle.meta_variables.proofs.GatewayLaws.{gateway_names_are_plain, gateway_no_name_is_hostile, mapping_decides, passes_in_order, leaves_others_out, gateway_values_are_texts}
use Rattle.meta_variables.proofs.laws.gateway_environments_are_safe.Goals as goal

pub returns-clause-plain : goal.returns-clause-plain
returns-clause-plain c = gateway_names_are_plain

pub returns-clause-hostile : goal.returns-clause-hostile
returns-clause-hostile c = gateway_no_name_is_hostile

pub returns-clause-mapping : goal.returns-clause-mapping
returns-clause-mapping c = mapping_decides

pub returns-clause-order : goal.returns-clause-order
returns-clause-order c = passes_in_order

pub returns-clause-others : goal.returns-clause-others
returns-clause-others c = leaves_others_out

pub returns-clause-texts : goal.returns-clause-texts
returns-clause-texts c = gateway_values_are_texts
