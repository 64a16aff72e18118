use Rattle.child_laws.proofs.SettingLaws.{still}
use Rattle.child_laws.proofs.laws.settings_are_still.Goals as goal

pub returns : goal.returns
returns c = still
