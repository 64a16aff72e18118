-- What holds of each connection of this server, as one of many, by what is proved of a step.
use Rattle.std.specs.Prelude.{ℕ, List, Option}
use Rattle.host_base.specs.SiteRules.{IsServed}
use Rattle.host_base.specs.declared.site.Site.{Site}
use Rattle.host_trace.specs.declared.items.Event.{Event}
use Rattle.host_trace.specs.declared.items.Item.{Item}
use Rattle.good_step_laws.specs.Steps.Laws.{StepsAreGood}
use Rattle.good_step_laws.specs.Opens.Laws.{ClosedPass, MissesAreGood, OpeningsAreGood, UntalkedStays}
use Rattle.many_conns.specs.Kind.{AreTicks, Gives, Laws}
use Rattle.talk_laws.specs.Stands.{StepsAreGood as TalkStepsAreGood}
use Rattle.conn_phase.specs.declared.phase.Phase.{Phase}
use Rattle.conn_phase.specs.Phase.{IsNew, Steps, may_step}
use Rattle.good_step_laws.specs.Both.Stands.{PhaseStands, phase_kind}

-- Each step is good: one of a connection that speaks HTTP, in which it comes to speak WebSocket, or isn't found memory for
-- that, and one of a connection that speaks WebSocket.
pub record AllSteps : Type 0 where
  pub http : StepsAreGood
  pub opens : OpeningsAreGood
  pub misses : MissesAreGood
  pub passes : ClosedPass
  pub untalked : UntalkedStays
  pub talks : TalkStepsAreGood

abbrev pub PhasesGive : Type 0
PhasesGive = AllSteps → (old new : Phase) (ev : Event) (stamp : Option ℕ) (n m : ℕ) (before after : Option (List Item)) → may_step old
    → Steps old ev stamp n before new m after → Gives phase_kind old n ev stamp new m before after

abbrev pub PhasesKeepLaws : Type 0
PhasesKeepLaws = AllSteps → Laws phase_kind

abbrev pub PhasesBegin : Type 0
PhasesBegin = AllSteps → (conn : Phase) (site : Site) (c : ℕ) (L : List Item) → IsNew site c conn → IsServed site → AreTicks L → PhaseStands site conn L
