-- What the stage and the child of a connection say of its exchange.
use Rattle.std.proofs.Common.{◌≡◌, ℕ, Bool, true, false, ◌&&◌, ◌||◌, not, List, Option, Some, None, refl, sym, ap, ◌∙◌, subst}
use Rattle.std.proofs.lemmas.Bool.{false≢true}
use Rattle.host_trace.specs.declared.items.Act.{Act}
use Rattle.host_trace.specs.declared.items.Event.{Event}
use Rattle.host_trace.specs.declared.items.Item.{Item}
use Rattle.child_core.specs.View.{View}
use Rattle.child_core.specs.Calls.{ended, is_settled}
use Rattle.child_core.specs.declared.ending.Ending.TheVariants.{Dropped}
use Rattle.trace_model.specs.Exchange.{Exchange}
use Rattle.trace_model.specs.Exchanges.{has_ended}
use Rattle.trace_model.specs.Legs.{Leg as Started}
use Rattle.trace_model.specs.Standing.{stands_whole}
use Rattle.exchange_request.specs.Knows.{is_looked_at}
use Rattle.exchange_stage.specs.declared.stage.Stage.{Stage}
use Rattle.exchange_stage.specs.declared.stage.Stage.TheVariants as At
use Rattle.exchange_laws.specs.Rules.{IsUnended, is_answered as answers}
use Rattle.exchange_laws.specs.StageIs.{LostIs, StageIs}
use Rattle.exchange_laws.specs.Items.{is_unanswered}
use Rattle.exchange_laws.specs.Unanswered.{is_awaited}
use Rattle.exchange_laws.proofs.WholeLaws.{continues_come_first, whole_is_answered}
use Rattle.conn_flags.specs.View.{View as Flags}
use Rattle.child_laws.specs.Children.{KnowsChildren, is_over as is_settled_run}
use Rattle.child_laws.specs.Step.{Turn, waiting, begun, served}
use Rattle.child_laws.specs.Moves.{may_lose}
use Rattle.child_laws.proofs.KnowLaws.{ends_exact}
use Rattle.child_laws.proofs.MoveLaws.{moves_tell}
use Rattle.http_conn.specs.HttpConn.{HttpConn}
use Rattle.http_conn.specs.Kept.{flags_of, number_of, site_of}
use Rattle.http_conn.specs.Moves.{ended_run}
use Rattle.http_conn.specs.Ready.{undrained}
use Rattle.http_conn.specs.Settles.{is_answered, is_over}
use Rattle.http_conn.specs.Slot.{run_settled}
use Rattle.http_stage_laws.specs.Staged.{Staged, drops_of}
use Rattle.http_stage_laws.proofs.EndLaws.{ends_taken}
use Rattle.http_step_laws.specs.Standing.{EvenAt, IsAwake, Standing, is_early}

pub same_answered : (s : Stage) → answers s ≡ is_answered s
same_answered At.Reading = refl
same_answered _ = refl

-- the output that was heard and that the reply wasn't told of
abbrev pub more_in : (conn : HttpConn) (e : Exchange) (legs : List Started) → Staged conn e legs → List ℕ
more_in conn e legs staged = staged.more

pub stage_is : (conn : HttpConn) (e : Exchange) (legs : List Started) → (staged : Staged conn e legs)
    → StageIs (site_of conn) (number_of conn) e legs conn.continued (is_looked_at conn.request) (conn.closing || conn.closes) (more_in conn e legs staged) conn.stage
stage_is conn e legs staged = staged.is

pub stage_at : (conn : HttpConn) (e : Exchange) (legs : List Started) (stage : Stage) → conn.stage ≡ stage → (staged : Staged conn e legs)
    → StageIs (site_of conn) (number_of conn) e legs conn.continued (is_looked_at conn.request) (conn.closing || conn.closes) (more_in conn e legs staged) stage
stage_at conn e legs stage at staged =
    subst (λ (t : Stage). StageIs (site_of conn) (number_of conn) e legs conn.continued (is_looked_at conn.request) (conn.closing || conn.closes) (more_in conn e legs staged) t) at
    (stage_is conn e legs staged)

pub unwhole : (conn : HttpConn) (e : Exchange) (legs : List Started) → Staged conn e legs → IsUnended (site_of conn) (number_of conn) e legs conn.stage → is_answered conn.stage ≡ false
    → stands_whole (site_of conn) (number_of conn) e ≡ false
unwhole conn e legs staged unended none =
    whole_is_answered (site_of conn) (number_of conn) e legs conn.continued (is_looked_at conn.request) (conn.closing || conn.closes) (more_in conn e legs staged) conn.stage (stage_is conn e legs staged) unended
    ∙ (same_answered conn.stage ∙ none)

-- where 100 Continue was not written, and doesn't wait before an answer has begun, it doesn't wait at all
pub first_unawaited : (conn : HttpConn) (e : Exchange) (legs : List Started) → Staged conn e legs → (is_unanswered conn.stage ≡ true → is_awaited (site_of conn) (number_of conn) e ≡ false)
    → conn.continued ≡ false → is_awaited (site_of conn) (number_of conn) e ≡ false
first_unawaited conn e legs staged before first = go (is_unanswered conn.stage) refl
  where
    go : (b : Bool) → is_unanswered conn.stage ≡ b → is_awaited (site_of conn) (number_of conn) e ≡ false
    go true is = before is
    go false is =
        continues_come_first (site_of conn) (number_of conn) e legs (is_looked_at conn.request) (conn.closing || conn.closes) (more_in conn e legs staged) conn.stage
        (subst (λ (b : Bool). StageIs (site_of conn) (number_of conn) e legs b (is_looked_at conn.request) (conn.closing || conn.closes) (more_in conn e legs staged) conn.stage) first (stage_is conn e legs staged)) is

-- ---- where memory ran out

lost_whole : (conn : HttpConn) (e : Exchange) (legs : List Started) (s : Stage) → LostIs (site_of conn) (number_of conn) e legs conn.continued (conn.closing || conn.closes) s
    → stands_whole (site_of conn) (number_of conn) e ≡ is_answered s
lost_whole conn e legs At.Answered l = l.whole
lost_whole conn e legs _ l = l.unfinished

pub same_settled : (run : Option View) → is_settled_run run ≡ run_settled run
same_settled None = refl
same_settled (Some v) = refl

and_swap : (a b : Bool) → (a && b) ≡ (b && a)
and_swap true true = refl
and_swap true false = refl
and_swap false true = refl
and_swap false false = refl

-- ---- the children

module _ (L : List Item) (ev : Event) (acts : List Act) (turn : Turn) (n : ℕ) (e : Exchange) (conn : HttpConn) (s : Standing L ev acts turn n e conn) where
  pub known_now : KnowsChildren (site_of conn) (number_of conn) e (is_early conn) n s.legs conn.run
  known_now = (moves_tell (site_of conn) (number_of conn) L ev acts e s.over (is_early conn) turn n s.legs conn.run s.children).knows

  pub known : conn.lost ≡ false → KnowsChildren (site_of conn) (number_of conn) e false n s.legs conn.run
  known found =
      subst (λ (b : Bool). KnowsChildren (site_of conn) (number_of conn) e b n s.legs conn.run) (ap (λ (b : Bool). b && not (flags_of conn).shut) found) known_now

  -- the exchange has ended where the connection says so
  pub ended_lost : conn.lost ≡ true → has_ended (site_of conn) (number_of conn) e ≡ is_over conn
  ended_lost is =
      ends_exact (site_of conn) (number_of conn) e (is_early conn) n s.legs conn.run known_now
      ∙ (ap (λ (b : Bool). b && stands_whole (site_of conn) (number_of conn) e) (same_settled conn.run)
      ∙ (ap (λ (b : Bool). run_settled conn.run && b) (lost_whole conn e s.legs conn.stage (s.lost is)) ∙ and_swap (run_settled conn.run) (is_answered conn.stage)))

  pub ended_found : (found : conn.lost ≡ false) → IsUnended (site_of conn) (number_of conn) e s.legs conn.stage → has_ended (site_of conn) (number_of conn) e ≡ is_over conn
  ended_found found unended = ends_taken conn e s.legs false n (s.staged found) (known found) unended

-- ---- when memory may run out

pub free_none : (turn : Turn) → may_lose turn None ≡ true
free_none waiting = refl
free_none begun = refl
free_none (served may) = refl

pub free_same : (turn : Turn) (v w : View) → is_settled w ≡ is_settled v → may_lose turn (Some v) ≡ true → may_lose turn (Some w) ≡ true
free_same waiting v w same free = refl
free_same begun v w same free = refl
free_same (served may) v w same free = same ∙ free

pub free_settled : (turn : Turn) (run : Option View) → run_settled run ≡ true → may_lose turn run ≡ true
free_settled turn None is = free_none turn
free_settled waiting (Some v) is = refl
free_settled begun (Some v) is = refl
free_settled (served may) (Some v) is = is

pub free_lost : (turn : Turn) (run : Option View) → may_lose turn run ≡ true → may_lose turn (ended_run Dropped run) ≡ true
free_lost turn None free = free
free_lost turn (Some v) free = free_same turn v (ended v Dropped) refl free

pub even_free : (room : Bool) (turn : Turn) (run : Option View) → IsAwake turn → may_lose turn run ≡ true → EvenAt room turn run
even_free room turn None awake free = tt
even_free room waiting (Some v) awake free = absurd awake
even_free room begun (Some v) awake free = tt
even_free room (served may) (Some v) awake free = λ undecided unsettled. absurd (false≢true (sym unsettled ∙ free))

-- other flags of the same number leave the stage, and so does the same run
pub staged_run : (conn : HttpConn) (flags : Flags) (run : Option View) (e : Exchange) (legs : List Started) → flags.c ≡ number_of conn → run ≡ conn.run → Staged conn e legs
    → Staged (record conn { flags = flags; run = run }) e legs
staged_run conn flags run e legs number same staged = record {
  more = staged.more;
  kept = λ keeps. staged.kept (ap drops_of (sym same) ∙ keeps) ∙ sym (ap undrained same);
  is = subst (λ (d : ℕ). StageIs (site_of conn) d e legs conn.continued (is_looked_at conn.request) (conn.closing || conn.closes) staged.more conn.stage) (sym number) staged.is;
}
