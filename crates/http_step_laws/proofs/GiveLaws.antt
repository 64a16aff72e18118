-- What is ready of an answer is given.
use Rattle.std.proofs.Common.{◌≡◌, ◌≤◌, ℕ, true, false, List, refl, sym, ap, ◌∙◌, subst}
use Rattle.std.proofs.lemmas.Bool.{false≢true}
use Rattle.host_trace.specs.declared.items.Act.{Act}
use Rattle.host_trace.specs.declared.items.Event.{Event}
use Rattle.host_trace.specs.declared.items.Item.{Item}
use Rattle.trace_model.specs.Exchange.{Exchange}
use Rattle.exchange_stage.specs.declared.stage.Stage.{Stage}
use Rattle.exchange_stage.specs.declared.stage.Stage.TheVariants as At
use Rattle.conn_flags.specs.Form.{are_given}
use Rattle.child_laws.specs.Step.{Turn}
use Rattle.child_laws.specs.Moves.{may_lose}
use Rattle.conn_laws.specs.Moves.{Move, acts_of}
use Rattle.http_conn.specs.HttpConn.{HttpConn}
use Rattle.http_conn.specs.Kept.{flags_of, site_of}
use Rattle.http_conn.specs.Parts.{Gives, GivesBy, Nothing}
use Rattle.http_step_laws.specs.Standing.{Leaves, Quiet, QuietBy, Ready, ReadyAt, Standing, Within, ends_at, gives_at}
use Rattle.http_step_laws.proofs.ThenLaws.{leaves_none}
use Rattle.http_step_laws.proofs.LastLaws.{rest_leaves}
use Rattle.http_step_laws.proofs.PieceLaws.{part_leaves}

-- What is ready of an answer is given, and nothing is due of it then.
module _ (L : List Item) (ev : Event) (acts : List Act) (turn : Turn) (e : Exchange) (old : HttpConn) (n : ℕ) (s : Standing L ev acts turn n e old) (two : 2 ≤ (site_of old).limits.head)
    (ready : Ready e old) (free : may_lose turn old.run ≡ true) (moves : List Move) (new : HttpConn) (form : are_given (flags_of old) (acts_of moves) ≡ true) where
  given_at : (t : Stage) → old.stage ≡ t → gives_at t ≡ true → ends_at old e ≡ false
  given_at t at gives = ready.on (ap gives_at at ∙ gives)

  kept : (t : Stage) → old.stage ≡ t → QuietBy old e t → Nothing old n moves new → Leaves (Within turn Quiet) L ev acts e old n moves new
  kept t at quiet none =
      leaves_none (Within turn Quiet) L ev acts turn e old new n moves s none (
        refl,
        free,
        record {
          unover = ready.unover;
          found = λ found. record {
            quiet = subst (λ (x : Stage). QuietBy old e x) (sym at) quiet;
            let_on = λ u first awaited. absurd (false≢true (sym (ready.none u first) ∙ awaited));
          };
        },
      )

  by_stage : (t : Stage) → old.stage ≡ t → GivesBy t old n moves new → Leaves (Within turn Quiet) L ev acts e old n moves new
  by_stage (At.Running leg) at by = part_leaves L ev acts turn e old n s two ready free (given_at (At.Running leg) at refl) leg at moves new by form
  by_stage (At.Finishing text closes) at by = rest_leaves L ev acts turn e old n s two ready free (given_at (At.Finishing text closes) at refl) text closes at moves new by form
  by_stage (At.Rejected cause bare) at none = absurd (subst (λ (x : Stage). ReadyAt old e x) at ready.at)
  by_stage (At.Interrupted cause) at none = absurd (subst (λ (x : Stage). ReadyAt old e x) at ready.at)
  by_stage (At.Starting leg launch body whole) at none = absurd (subst (λ (x : Stage). ReadyAt old e x) at ready.at)
  by_stage At.Reading at none = kept At.Reading at tt none
  by_stage (At.Refused cause) at none = kept (At.Refused cause) at tt none
  by_stage (At.Unstarted hop request) at none = kept (At.Unstarted hop request) at tt none
  by_stage At.Answered at none = kept At.Answered at tt none
  by_stage At.Silent at none = kept At.Silent at tt none

  pub gives_leave : Gives old n moves new → Leaves (Within turn Quiet) L ev acts e old n moves new
  gives_leave by = by_stage old.stage refl by
