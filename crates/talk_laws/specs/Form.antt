-- The form and the order of the acts of a step on a connection that speaks WebSocket.
use Rattle.std.specs.Prelude.{ℕ, ◌≡◌, ◌≤◌, Bool, true, ◌&&◌, nat_le, List, [], ◌∷◌, ◌++◌}
use Rattle.host_base.specs.declared.launch.Launch.{Launch}
use Rattle.host_base.specs.declared.request.Request.{Request}
use Rattle.host_base.specs.declared.site.Mapped.{Mapped}
use Rattle.host_base.specs.declared.site.Site.{Site}
use Rattle.host_trace.specs.declared.items.Act.{Act}
use Rattle.host_trace.specs.declared.items.Act.TheVariants.{Write}
use Rattle.host_trace.specs.declared.items.Item.TheVariants.{Out}
use Rattle.host_trace.specs.Kinds.{bytes_written}
use Rattle.trace_model.specs.Answers.{begins_in_turn}
use Rattle.trace_model.specs.Demands.{is_live}
use Rattle.trace_model.specs.Exchange.{Exchange, all_of, pushed}
use Rattle.trace_model.specs.Form.{comes_in_form, is_ordered, rank}
use Rattle.trace_model.specs.Launches.{is_right_start}
use Rattle.trace_model.specs.Legs.{Leg}
use Rattle.trace_model.specs.Steps.{each_act_from}
use Rattle.trace_model.specs.Talks.{is_right_talk_act}
use Rattle.child_core.specs.Due.{acting as run_acting}
use Rattle.child_core.specs.View.{View as Run}
use Rattle.talk_core.specs.Acting.{acting}
use Rattle.talk_core.specs.View.{View as Talk}
use Rattle.talk_laws.specs.TalkIs.{TalkIs, TalkLostIs}
use Rattle.talk_laws.specs.Welcome.{IsGreeted, IsWelcoming}

-- ---- an exchange that goes on with each act

-- each act keeps the rule where it is given
abbrev pub each_keeps : (Exchange → Act → Bool) → Exchange → List Act → Bool
each_keeps rule e [] = true
each_keeps rule e (act ∷ acts) = rule e act && each_keeps rule (pushed e (Out act)) acts

-- the places of the acts don't fall
abbrev pub rises : ℕ → List Act → Bool
rises least [] = true
rises least (act ∷ acts) = nat_le least (rank act) && rises (rank act) acts

-- the acts write no bytes for the connection
abbrev pub AreUnwritten : ℕ → List Act → Type 0
AreUnwritten c [] = Unit {0}
AreUnwritten c (act ∷ acts) = (bytes_written c (Out act) ≡ []) × AreUnwritten c acts

-- Once the accept text stands the exchange goes on with each act that writes nothing, so rules on the acts of a step are
-- read act by act, and their order is that of their places.
pub record ActsComeOn (site : Site) (c : ℕ) (e : Exchange) (acts : List Act) : Type 0 where
  pub each : (rule : Exchange → Act → Bool) → each_act_from site c rule e acts ≡ each_keeps rule e acts
  pub order : (least : ℕ) → is_ordered site c e least acts ≡ rises least acts

abbrev pub GreetedComeOn : Type 0
GreetedComeOn = (site : Site) (c : ℕ) (e : Exchange) (continued : Bool) (value : List ℕ) (request : Request) (mapped : Mapped) (acts : List Act) → 2 ≤ site.limits.head
    → AreUnwritten c acts → IsGreeted site c e continued value request mapped → ActsComeOn site c e acts

-- The accept text comes before them.
pub record WelcomesComeOn (site : Site) (c : ℕ) (e : Exchange) (text : List ℕ) (acts : List Act) : Type 0 where
  pub each : (rule : Exchange → Act → Bool) → each_act_from site c rule e (Write c text ∷ acts) ≡ (rule e (Write c text) && each_keeps rule (pushed e (Out (Write c text))) acts)
  pub order : is_ordered site c e 0 (Write c text ∷ acts) ≡ rises 0 acts

abbrev pub WelcomesAreOrdered : Type 0
WelcomesAreOrdered = (site : Site) (c : ℕ) (e : Exchange) (legs : List Leg) (continued : Bool) (text : List ℕ) (launch : Launch) (acts : List Act) → 2 ≤ site.limits.head
    → AreUnwritten c acts → IsWelcoming site c e legs continued text launch → WelcomesComeOn site c e text acts

-- ---- acts of a talk and of its child

-- They write nothing, come in form, and rise; and no rule on Starts, Upgrades and answers speaks of them.
pub record TalkActsFit (site : Site) (c : ℕ) (e : Exchange) (acts : List Act) : Type 0 where
  pub unwritten : AreUnwritten c acts
  pub in_form : each_keeps comes_in_form e acts ≡ true
  pub starts : each_keeps (is_right_start site c) e acts ≡ true
  pub talk_acts : each_keeps (is_right_talk_act site c) e acts ≡ true
  pub in_turn : each_keeps (begins_in_turn site c) e acts ≡ true

abbrev pub TalkActsComeInForm : Type 0
TalkActsComeInForm = (site : Site) (c : ℕ) (e : Exchange) (legs : List Leg) (continued : Bool) (t : Talk) (v : Run) → 2 ≤ site.limits.head → is_live c (all_of e) ≡ true
    → TalkIs site c e legs continued t v → TalkActsFit site c e (acting t)

abbrev pub ChildActsComeInForm : Type 0
ChildActsComeInForm = (site : Site) (c : ℕ) (e : Exchange) (legs : List Leg) (continued may : Bool) (t : Talk) (v : Run) → 2 ≤ site.limits.head
    → TalkIs site c e legs continued t v → TalkActsFit site c e (run_acting may v)

abbrev pub LostActsComeInForm : Type 0
LostActsComeInForm = (site : Site) (c : ℕ) (e : Exchange) (legs : List Leg) (continued early may : Bool) (held : Run) → 2 ≤ site.limits.head
    → TalkLostIs site c e legs continued early held → TalkActsFit site c e (run_acting may held)

-- Messages, the close frame, the child's acts, and then the Shut or the question are in order.
abbrev pub TalkActsRise : Type 0
TalkActsRise = (may : Bool) (t : Talk) (v : Run) (tail : List Act) → rises 8 tail ≡ true → rises 0 (acting t ++ (run_acting may v ++ tail)) ≡ true
