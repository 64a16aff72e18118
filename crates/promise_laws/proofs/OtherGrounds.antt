-- The ground of one cause is not that of another.
use Rattle.std.proofs.Common.{◌≡◌, ℕ, List}
use Rattle.host_base.specs.declared.cause.Cause.{Cause}
use Rattle.host_base.specs.declared.cause.Cause.TheVariants.{Full, IdleTime, Incomplete, OutputBroken, OutputTooLarge, RunTime, StartFailed as StartFailedCause}
use Rattle.host_base.specs.declared.site.Site.{Site}
use Rattle.host_trace.specs.declared.items.Act.{Act}
use Rattle.host_trace.specs.declared.items.Event.TheVariants.{ChildBroken, ChildBytes, ChildEof, ClientEof, ClientGone, Exited, StartFailed, StartFull, Tick, Stop}
use Rattle.host_trace.specs.declared.items.Item.{Item}
use Rattle.host_trace.specs.declared.items.Item.TheVariants.{In, Out}
use Rattle.trace_child.specs.Run.{Run}
use Rattle.trace_model.specs.Exchange.{Exchange}
use Rattle.promise_laws.specs.Grounds.{FailsBy, InterruptsBy}

module _ (run : Run) (front : List Item) (k n : ℕ) (bytes : List ℕ) where
  -- no run fails by the end of its output, by its child's exit, by an act, or because nobody is left to answer
  end_of_output_fails_none : (cause : Cause) → FailsBy run front (In (ChildEof k)) cause → ⊥
  end_of_output_fails_none cause fails = fails

  exit_fails_none : (cause : Cause) → FailsBy run front (In (Exited k)) cause → ⊥
  exit_fails_none cause fails = fails

  act_fails_none : (act : Act) (cause : Cause) → FailsBy run front (Out act) cause → ⊥
  act_fails_none act cause fails = fails

  gone_fails_none : (cause : Cause) → FailsBy run front (In (ClientGone k)) cause → ⊥
  gone_fails_none cause fails = fails

  stop_fails_none : (cause : Cause) → FailsBy run front (In Stop) cause → ⊥
  stop_fails_none cause fails = fails

  -- a script that couldn't be started took no time
  failed_start_is_no_run_time : FailsBy run front (In (StartFailed k)) RunTime → ⊥
  failed_start_is_no_run_time fails = let same : RunTime ≡ StartFailedCause = fails.1 in cc

  -- a full book tells the number that it saw
  full_book_saw_one_number : (seen told : ℕ) → FailsBy run front (In (StartFull k seen)) (Full told) → seen ≡ told
  full_book_saw_one_number seen told fails = let same : Full told ≡ Full seen = fails.1 in cc

  -- output that broke was not too long, and output that is too long didn't break
  broken_is_not_too_long : FailsBy run front (In (ChildBroken k)) OutputTooLarge → ⊥
  broken_is_not_too_long fails = let same : OutputTooLarge ≡ OutputBroken = fails.1 in cc

  too_long_is_not_broken : FailsBy run front (In (ChildBytes k bytes)) OutputBroken → ⊥
  too_long_is_not_broken fails = let same : OutputBroken ≡ OutputTooLarge = fails.2 in cc

  -- the output of another child ends no run
  another_child_fails_none : (cause : Cause) → FailsBy run front (In (ChildBroken k)) cause → k ≡ run.child
  another_child_fails_none cause fails = fails.0

  -- a Tick is no end of the client
  tick_is_no_end : FailsBy run front (In (Tick n)) Incomplete → ⊥
  tick_is_no_end fails = let same : Incomplete ≡ RunTime = fails.1 in cc

module _ (site : Site) (c : ℕ) (e : Exchange) (front : List Item) (n : ℕ) where
  -- no request is interrupted by the end of an output, or by an act
  output_interrupts_none : (cause : Cause) → InterruptsBy site c e front (In (ChildEof n)) cause → ⊥
  output_interrupts_none cause interrupts = interrupts

  act_interrupts_none : (act : Act) (cause : Cause) → InterruptsBy site c e front (Out act) cause → ⊥
  act_interrupts_none act cause interrupts = interrupts

  -- the idle Tick is no end of the client, nor the other way round
  idle_is_no_end : InterruptsBy site c e front (In (Tick n)) Incomplete → ⊥
  idle_is_no_end interrupts = let same : Incomplete ≡ IdleTime = interrupts.1 in cc

  end_is_not_idle : InterruptsBy site c e front (In (ClientEof n)) IdleTime → ⊥
  end_is_not_idle interrupts = let same : IdleTime ≡ Incomplete = interrupts.2 in cc

  another_client_interrupts_none : (cause : Cause) → InterruptsBy site c e front (In (ClientEof n)) cause → c ≡ n
  another_client_interrupts_none cause interrupts = interrupts.0
