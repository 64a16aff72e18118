-- What follows of each trace for which holds what is promised.
use Rattle.std.specs.Prelude.{ℕ, Bool, true, false, List, [], ◌∷◌, ◌++◌, ◌≡◌, ◌≤◌, ◌<◌, ◌+◌, count_by}
use Rattle.std.specs.List.{list_all}
use Rattle.host_base.specs.declared.launch.Launch.{Launch}
use Rattle.host_base.specs.declared.site.Site.{Site}
use Rattle.host_trace.specs.declared.items.Act.{Act}
use Rattle.host_trace.specs.declared.items.Act.TheVariants.{Start}
use Rattle.host_trace.specs.declared.items.Item.{Item}
use Rattle.host_trace.specs.declared.items.Item.TheVariants.{Out}
use Rattle.host_trace.specs.Account.{all_settled, has_unsettled, settled}
use Rattle.host_trace.specs.Kinds.{is_exited}
use Rattle.host_trace.specs.Projections.{accepted_count, children, exited, pending, shut, start_answered, start_count, start_numbers, start_stands, started, stopped, upgraded}
use Rattle.own_traces.specs.Between.{Between}
use Rattle.own_traces.specs.Whose.{has}
use Rattle.trace_child.specs.ChildForm.{may_be_given}
use Rattle.trace_child.specs.Words.{implies}
use Rattle.trace_model.specs.Good.{Good}
use Rattle.trace_model.specs.Verdict.{broken_by}
use Rattle.trace_laws.specs.Promised.{Promised}

-- ---- whose a child is

abbrev pub GoodTracesAreBetween : Type 0
GoodTracesAreBetween = (site : Site) (T : List Item) → Promised site T → Between T

-- the Start of k stands here, for this exchange and hop of this connection, and nowhere else
pub record StartsOnce (T : List Item) (k : ℕ) : Type 0 where
  pub before : List Item
  pub conn : ℕ
  pub exchange : ℕ
  pub hop : ℕ
  pub launch : Launch
  pub later : List Item
  pub stands : T ≡ before ++ Out (Start k conn exchange hop launch) ∷ later
  pub none_before : start_stands before k ≡ false
  pub none_later : start_stands later k ≡ false

-- Each child belongs to one exchange and hop of one connection.
abbrev pub ChildrenAreOfOne : Type 0
ChildrenAreOfOne = (site : Site) (T : List Item) (k : ℕ) → Promised site T → k < start_count T → StartsOnce T k

-- No connection has two children that are not settled.
abbrev pub OneChildIsUnsettled : Type 0
OneChildIsUnsettled = (site : Site) (T : List Item) (c k m : ℕ) → Promised site T → has (children T c) k ≡ true → has (children T c) m ≡ true
    → settled T k ≡ false → settled T m ≡ false → k ≡ m

-- ---- its Start

-- neither Stop nor a Shut of the connection stands, and no child of it is unsettled
pub record IsFree (before : List Item) (c : ℕ) : Type 0 where
  pub going : stopped before ≡ false
  pub unshut : shut before c ≡ false
  pub all_settled_then : has_unsettled before c ≡ false

-- So it is before each Start: after Stop nothing is started, and no exchange or hop begins before the children of those
-- before it are settled.
abbrev pub StartsComeInTurn : Type 0
StartsComeInTurn = (site : Site) (T before : List Item) (k c exchange hop : ℕ) (launch : Launch) (later : List Item) → Promised site T
    → T ≡ before ++ Out (Start k c exchange hop launch) ∷ later → IsFree before c

-- ---- the acts on it

-- Each act on a child may stand where it does: its input is ended once and fed before that, its output is asked for by
-- one question at a time and given up after its exit, and it is killed once and not after its exit.
abbrev pub ActsComeInForm : Type 0
ActsComeInForm = (site : Site) (T before : List Item) (act : Act) (later : List Item) → Promised site T → T ≡ before ++ Out act ∷ later
    → may_be_given before act ≡ true

-- ---- the end

-- every Start was answered
abbrev pub all_answered : List Item → Bool
all_answered T = list_all (start_answered T) (start_numbers T)

-- every child that was started has exited
abbrev pub all_exited : List Item → Bool
all_exited T = list_all (λ k. implies (started T k) (exited T k)) (start_numbers T)

-- At a step's end at which Stop stands, every Start was answered and every started child has exited, all is settled.
abbrev pub ExitsSettleAll : Type 0
ExitsSettleAll = (site : Site) (T : List Item) → Promised site T → stopped T ≡ true → all_answered T ≡ true → all_exited T ≡ true
    → all_settled T ≡ true

-- Where all is settled, each child that was started was reaped once.
abbrev pub StartedAreReapedOnce : Type 0
StartedAreReapedOnce = (site : Site) (T : List Item) (k : ℕ) → Promised site T → all_settled T ≡ true → started T k ≡ true
    → count_by (is_exited k) T ≡ 1

-- ---- what waits to be sent

-- Of a connection that speaks HTTP no more bytes were written and have not left than 262,144, a piece of output and 16,384.
abbrev pub UnsentIsBounded : Type 0
UnsentIsBounded = (site : Site) (T : List Item) (c : ℕ) → Promised site T → c < accepted_count T → upgraded T c ≡ false
    → pending T c ≤ 262144 + 65536 + 16384

-- ---- verdicts

-- A trace that is good breaks no rule by the tests, so one that breaks a rule is not good.
abbrev pub GoodTracesBreakNothing : Type 0
GoodTracesBreakNothing = (site : Site) (T : List Item) → Good site T → broken_by site T ≡ []
