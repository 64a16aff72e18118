use Rattle.script_map.proofs.PathRulesLaws.{leaves_no_dot_segment, keeps_other_paths, drops_dots, drops_pairs, drops_at_root, ends_with_slash}
use Rattle.script_map.proofs.laws.dot_segments_are_removed.Goals as goal

pub returns-clause-nothing_left : goal.returns-clause-nothing_left
returns-clause-nothing_left c = leaves_no_dot_segment

pub returns-clause-others_stay : goal.returns-clause-others_stay
returns-clause-others_stay c = keeps_other_paths

pub returns-clause-dots : goal.returns-clause-dots
returns-clause-dots c = drops_dots

pub returns-clause-pairs : goal.returns-clause-pairs
returns-clause-pairs c = drops_pairs

pub returns-clause-root : goal.returns-clause-root
returns-clause-root c = drops_at_root

pub returns-clause-end : goal.returns-clause-end
returns-clause-end c = ends_with_slash
