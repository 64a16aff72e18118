use Rattle.std.proofs.Common.{◌≡◌, Option, Some, refl, sym, ap, ◌∙◌, subst}
use Rattle.host_base.specs.declared.limits.Limits.{Limits}
use Rattle.host_base.specs.declared.request.Request.{Request}
use Rattle.request_reader.specs.declared.step.ReqStep.TheVariants as Answer
use Rattle.request_reader.specs.Reader.{Reader, IsBehind}
use Rattle.request_reader.specs.Request.{Reading, More, read_request, step_of}
use Rattle.trace_model.specs.Readings.{headed}
use Rattle.exchange_request.proofs.KnowsLaws.{awaited, handed_whole, handed_more}
use Rattle.exchange_request.proofs.ReadyLaws.{answers_whole, answers_more}
use Rattle.exchange_request.proofs.incoming.Incoming.more_body.Goals as goal

pub returns-in-Whole-clause-body : goal.returns-in-Whole-clause-body
returns-in-Whole-clause-body c bytes taken k ready open_yet =
    let i = c.args.self.now in
    let w = awaited i bytes taken ready open_yet k in
    let told : Answer.Whole c.in-Whole.request ≡ step_of taken (read_request i.limits bytes) =
    subst (λ (l : Limits). Answer.Whole c.in-Whole.request ≡ step_of taken (read_request l bytes)) k.limits
    (sym c.in-Whole.is ∙ c.in_ok-request.ensures.exact bytes taken w.is.heard) in
    handed_whole i _ bytes taken c.in-Whole.request refl refl refl refl refl w
    (answers_whole taken c.in-Whole.request (read_request i.limits bytes) told)
    (subst (λ (l : Limits). IsBehind l bytes taken (read_request l bytes) c.step.new.self) k.limits
    (c.in_ok-request.ensures.behind bytes taken w.is.heard))

pub returns-in-More-clause-body : goal.returns-in-More-clause-body
returns-in-More-clause-body c bytes taken k ready open_yet =
    let i = c.args.self.now in
    let w = awaited i bytes taken ready open_yet k in
    let told : Answer.More c.in-More.continue_due ≡ step_of taken (read_request i.limits bytes) =
    subst (λ (l : Limits). Answer.More c.in-More.continue_due ≡ step_of taken (read_request l bytes)) k.limits
    (sym c.in-More.is ∙ c.in_ok-request.ensures.exact bytes taken w.is.heard) in
    let a = answers_more taken c.in-More.continue_due (read_request i.limits bytes) told in
    let reads : read_request i.limits bytes ≡ More (Some w.is.request) c.in-More.continue_due =
    a.is ∙ ap (λ (q : Option Request). More q c.in-More.continue_due) (sym (ap headed a.is) ∙ w.is.head) in
    let behind : IsBehind i.limits bytes taken (More (Some w.is.request) c.in-More.continue_due) c.step.new.self =
    subst (λ (r : Reading). IsBehind i.limits bytes taken r c.step.new.self) reads
    (subst (λ (l : Limits). IsBehind l bytes taken (read_request l bytes) c.step.new.self) k.limits
    (c.in_ok-request.ensures.behind bytes taken w.is.heard)) in
    handed_more i _ bytes taken c.in-More.continue_due c.take_body.result refl refl refl open_yet refl refl
    (ap (λ (r : Reader). r.limits) c.take_body.ensures.state ∙ behind.0) w a
    (c.take_body.ensures.body ∙ c.in_ok-request.ensures.next bytes taken w.is.request c.in-More.continue_due w.is.heard
    (ap (λ (l : Limits). read_request l bytes) k.limits ∙ reads) w.is.long)
    (c.take_body.ensures.kept bytes taken behind.1)
