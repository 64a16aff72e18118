-- What an act of the connection leaves as it was.
use Rattle.std.proofs.Common.{◌≡◌, ℕ, Bool, true, List, [], ◌++◌, ap, ◌∙◌, append-nil}
use Rattle.std.proofs.lemmas.Bool.{false≢true}
use Rattle.host_base.specs.declared.site.Site.{Site}
use Rattle.host_trace.specs.declared.items.Item.{Item}
use Rattle.host_trace.specs.Kinds.{bytes_heard}
use Rattle.trace_model.specs.Exchange.{Exchange, pushed, request_bytes}
use Rattle.trace_model.specs.Legs.{Leg as Started}
use Rattle.trace_model.proofs.ExchangeLaws.{request_bytes-push}
use Rattle.exchange_stage.specs.declared.stage.Stage.{Stage}
use Rattle.exchange_stage.specs.declared.stage.Stage.TheVariants as At
use Rattle.exchange_laws.specs.Items.{is_unanswered}
use Rattle.exchange_laws.specs.Rules.{IsUnended}
use Rattle.exchange_laws.specs.StageIs.{StageIs}
use Rattle.exchange_laws.specs.Unanswered.{IsUnanswered}

pub bytes_quiet : (c : ℕ) (e : Exchange) (x : Item) → bytes_heard c x ≡ [] → request_bytes c (pushed e x) ≡ request_bytes c e
bytes_quiet c e x none = request_bytes-push c e x ∙ (ap (λ (l : List ℕ). request_bytes c e ++ l) none ∙ append-nil (request_bytes c e))

-- where nothing of the final answer is written
pub unanswered_at : (site : Site) (c : ℕ) (e : Exchange) (legs : List Started) (continued looked closing : Bool) (more : List ℕ) (s : Stage)
    → StageIs site c e legs continued looked closing more s → is_unanswered s ≡ true → IsUnanswered site c e continued
unanswered_at site c e legs continued looked closing more (At.Starting held launch body whole) is so = absurd (false≢true so)
unanswered_at site c e legs continued looked closing more (At.Running held) is so = absurd (false≢true so)
unanswered_at site c e legs continued looked closing more (At.Finishing text closes) is so = absurd (false≢true so)
unanswered_at site c e legs continued looked closing more At.Answered is so = absurd (false≢true so)
unanswered_at site c e legs continued looked closing more At.Silent is so = absurd (false≢true so)
unanswered_at site c e legs continued looked closing more _ is so = is.0.unanswered

pub unanswered_unended : (site : Site) (c : ℕ) (e : Exchange) (legs : List Started) (s : Stage) → is_unanswered s ≡ true → IsUnended site c e legs s
unanswered_unended site c e legs (At.Starting held launch body whole) so = absurd (false≢true so)
unanswered_unended site c e legs (At.Running held) so = absurd (false≢true so)
unanswered_unended site c e legs (At.Finishing text closes) so = absurd (false≢true so)
unanswered_unended site c e legs At.Answered so = absurd (false≢true so)
unanswered_unended site c e legs At.Silent so = absurd (false≢true so)
unanswered_unended site c e legs _ so = tt
