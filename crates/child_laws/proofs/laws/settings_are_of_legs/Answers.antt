use Rattle.child_laws.proofs.SettingLaws.{setting_is}
use Rattle.child_laws.proofs.laws.settings_are_of_legs.Goals as goal

pub returns : goal.returns
returns c = setting_is
