-- The acts of a step, as a run sees them.
use Rattle.std.specs.Prelude.{Bool, true, false, List, [], ◌∷◌, ◌++◌, ◌≡◌}
use Rattle.host_trace.specs.declared.items.Act.{Act}
use Rattle.host_trace.specs.declared.items.Item.{Item}
use Rattle.host_trace.specs.declared.items.Item.TheVariants.{Out}
use Rattle.host_trace.specs.Kinds.{is_end_input, is_kill, is_release}
use Rattle.child_core.specs.View.{View, plain, noted}
use Rattle.child_core.specs.Due.{wants_input_end, wants_kill, wants_release, wants_output}
use Rattle.child_core.specs.Setting.{Setting}
use Rattle.child_core.specs.Knows.{Admits}

-- the act may come next: no input is ended twice, no child killed twice, no output given up twice
pub record MayAct (early : Bool) (s : Setting) (v : View) (L : List Item) (act : Act) : Type 0 where
  pub admits : Admits early s v L plain (Out act)
  pub input : is_end_input v.number (Out act) ≡ true → v.input_ended ≡ false
  pub kill : is_kill v.number (Out act) ≡ true → v.killed ≡ false
  pub release : is_release v.number (Out act) ≡ true → v.output_ended ≡ false

-- each act of the step may come when it comes
abbrev pub Walk : Bool → Setting → View → List Item → List Act → Type 0
Walk early s v L [] = Unit {0}
Walk early s v L (act ∷ acts) = MayAct early s v L act × Walk early s (noted s.conn v plain (Out act)) (L ++ Out act ∷ []) acts

abbrev pub walked : Setting → View → List Act → View
walked s v [] = v
walked s v (act ∷ acts) = walked s (noted s.conn v plain (Out act)) acts

-- what the step did to the child is wanted at its end
pub record Deserved (may : Bool) (old new : View) : Type 0 where
  pub input : old.input_ended ≡ false → new.input_ended ≡ true → wants_input_end new ≡ true
  pub kill : old.killed ≡ false → new.killed ≡ true → wants_kill new ≡ true
  pub release : old.output_ended ≡ false → new.output_ended ≡ true → wants_release new ≡ true
  pub ask : old.asked ≡ false → new.asked ≡ true → wants_output may new ≡ true
