-- A good trace, at which the host is ready: the part of each connection, and the part between connections.
use Rattle.std.specs.Prelude.{ℕ, Bool, true, List, [], ◌∷◌, ◌≡◌}
use Rattle.host_base.specs.declared.site.Site.{Site}
use Rattle.host_trace.specs.declared.items.Item.{Item}
use Rattle.host_trace.specs.Kinds.{is_event}
use Rattle.host_trace.specs.Projections.{is_known, own}
use Rattle.host_trace.specs.Trace.{Step, AtEachStep}
use Rattle.trace_model.specs.Answers.{answers, begins_in_turn}
use Rattle.trace_model.specs.Begins.{begins}
use Rattle.trace_model.specs.Between.{BetweenGood}
use Rattle.trace_model.specs.Children.{ChildrenGood}
use Rattle.trace_model.specs.Continues.{continues_then}
use Rattle.trace_model.specs.Form.{comes_in_form, order}
use Rattle.trace_model.specs.Hears.{hears}
use Rattle.trace_model.specs.Hops.{hops}
use Rattle.trace_model.specs.Launches.{is_right_start}
use Rattle.trace_model.specs.Replies.{replies, replies_end}
use Rattle.trace_model.specs.Says.{says}
use Rattle.trace_model.specs.Shuts.{shuts}
use Rattle.trace_model.specs.Steps.{goes_on, exchanges_in, each_act}
use Rattle.trace_model.specs.Stops.{stops}
use Rattle.trace_model.specs.Streams.{streams, begins_no_sooner}
use Rattle.trace_model.specs.TakesNoMemory.{takes_no_memory}
use Rattle.trace_model.specs.Talks.{is_right_talk_act, upgrades, talks}
use Rattle.trace_model.specs.Wants.{wants}

-- ---- one connection, by its own items alone; s is a step of these

-- what may stand: the rules on what was written, started, fed, said and shut
pub record IsGood (site : Site) (c : ℕ) (s : Step) : Type 0 where
  pub replies : replies site c (goes_on site c s) ≡ true
  pub replies_end : replies_end c (exchanges_in site c s) ≡ true
  pub launches : each_act site c (is_right_start site c) s ≡ true
  pub talk_acts : each_act site c (is_right_talk_act site c) s ≡ true
  pub upgrades : upgrades site c (goes_on site c s) ≡ true
  pub talks : talks site c (goes_on site c s) ≡ true
  pub shuts : shuts site c s ≡ true
  pub wants : wants site c s ≡ true
  pub form : each_act site c comes_in_form s ≡ true
  pub order : order site c s ≡ true

-- what must stand by the step's end: whatever is demanded there
pub record IsReady (site : Site) (c : ℕ) (s : Step) : Type 0 where
  pub begins : begins site c (goes_on site c s) ≡ true
  pub answers : answers site c (goes_on site c s) ≡ true
  pub in_turn : each_act site c (begins_in_turn site c) s ≡ true
  pub hops : hops site c (goes_on site c s) ≡ true
  pub hears : hears site c (goes_on site c s) ≡ true
  pub continues : continues_then site c (goes_on site c s) ≡ true
  pub says : says site c (goes_on site c s) ≡ true
  pub stops : stops c (goes_on site c s) ≡ true
  pub streams : streams site c (goes_on site c s) ≡ true
  pub no_sooner : begins_no_sooner site c (goes_on site c s) ≡ true
  pub takes_no_memory : takes_no_memory site c s ≡ true

-- .. and what is owed to the children, and given to them
pub record StepGood (site : Site) (c : ℕ) (s : Step) : Type 0 where
  pub good : IsGood site c s
  pub ready : IsReady site c s
  pub children : ChildrenGood site c s

-- the part of connection c, over its own items
abbrev pub GoodFor : Site → ℕ → List Item → Type 0
GoodFor site c L = AtEachStep (StepGood site c) L

-- ---- the whole trace

-- the first item is an event, so each act belongs to a step
abbrev pub begins_with_event : List Item → Bool
begins_with_event [] = true
begins_with_event (x ∷ items) = is_event x

pub record Good (site : Site) (T : List Item) : Type 0 where
  pub begun : begins_with_event T ≡ true
  pub between : AtEachStep (BetweenGood site) T
  pub connections : (c : ℕ) → is_known T c ≡ true → GoodFor site c (own T c)
