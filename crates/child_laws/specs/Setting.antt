-- Where the run of an exchange's leg stands.
use Rattle.std.specs.Prelude.{ℕ, ◌≡◌, []}
use Rattle.host_base.specs.declared.site.Site.{Site}
use Rattle.child_core.specs.Laws.{IsStill}
use Rattle.child_core.specs.Setting.{Setting, run_in}
use Rattle.child_core.specs.View.{View}
use Rattle.trace_model.specs.Exchange.{Exchange, up_to}
use Rattle.trace_model.specs.Legs.{Leg, offered_at, run_of}

-- the connection, its limits, and what there is for the input of a hop's child
abbrev pub setting : Site → ℕ → Exchange → ℕ → Setting
setting site c e hop = record { conn = c; limits = site.limits; offered = offered_at site c (up_to e []) hop }

-- the view is one of this leg's child
pub record IsRunOf (v : View) (leg : Leg) : Type 0 where
  pub number : v.number ≡ leg.child
  pub kind : v.kind ≡ leg.kind

-- There the run is the leg's run over the items of the exchange ..
abbrev pub SettingsAreOfLegs : Type 0
SettingsAreOfLegs = (site : Site) (c : ℕ) (e : Exchange) (leg : Leg) (v : View) → IsRunOf v leg → run_in (setting site c e leg.hop) v ≡ run_of site c e leg

-- .. and no act brings anything for its input.
abbrev pub SettingsAreStill : Type 0
SettingsAreStill = (site : Site) (c : ℕ) (e : Exchange) (hop : ℕ) → IsStill (setting site c e hop)
