-- What a step comes to in which no script is started and none is to be heard of its client.
use Rattle.std.specs.Prelude.{ℕ, Bool, true, false, ◌≡◌, List, ◌++◌}
use Rattle.host_trace.specs.declared.items.Act.{Act}
use Rattle.host_trace.specs.declared.items.Event.{Event}
use Rattle.conn_flags.specs.View.{is_live}
use Rattle.scgi_conn.specs.declared.conn.ScgiConn.{ScgiConn}
use Rattle.scgi_conn.specs.declared.stage.Stage.{Stage}
use Rattle.scgi_conn.specs.declared.stage.Stage.TheVariants.{Over, Running}
use Rattle.scgi_conn.specs.Parts.{acts_acted, acts_shut, acts_written, why_at}
use Rattle.scgi_conn.specs.Step.{Steps}
use Rattle.scgi_conn.specs.View.{flags_of, number_of, run_of, stage_of}

-- a script runs, or the connection is over
abbrev pub is_past : Stage → Bool
is_past Running = true
is_past (Over end) = true
is_past _ = false

-- The answer, where there is one, then the acts for the child, then the Shut, where there is a reason; and the child's run is
-- as these acts left it.
pub record EndsAt (old new : ScgiConn) (ev : Event) (n m : ℕ) (acts : List Act) (w : Steps old ev n acts new m) (stage : Stage) : Type 0 where
  pub acts_are : acts ≡ (acts_written w.written w.third ++ acts_acted w.fed w.fourth) ++ acts_shut (number_of old) (why_at stage)
  pub run_is : run_of new ≡ run_of w.fifth
  pub stage_is : stage_of new ≡ stage

abbrev pub StepsEnd : Type 0
StepsEnd = (old new : ScgiConn) (ev : Event) (n m : ℕ) (acts : List Act) (w : Steps old ev n acts new m) (stage : Stage) → is_past stage ≡ true
    → stage_of w.fifth ≡ stage → is_live (flags_of w.fifth) ≡ true → EndsAt old new ev n m acts w stage
