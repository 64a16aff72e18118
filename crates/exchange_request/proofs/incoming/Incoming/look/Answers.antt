use Rattle.std.proofs.Common.{◌≡◌, Some, refl, sym, ap, ◌∙◌, subst}
use Rattle.host_base.specs.declared.limits.Limits.{Limits}
use Rattle.request_reader.specs.declared.step.ReqStep.TheVariants as Answer
use Rattle.request_reader.specs.Reader.{IsBehind}
use Rattle.request_reader.specs.Request.{read_request, step_of}
use Rattle.exchange_request.specs.declared.found.Manner.{Manner}
use Rattle.exchange_request.proofs.KnowsLaws.{unready, found_whole}
use Rattle.exchange_request.proofs.ReadyLaws.{answers_whole}
use Rattle.exchange_request.proofs.incoming.Incoming.look.Goals as goal

pub returns-in-Whole-clause-finds : goal.returns-in-Whole-clause-finds
returns-in-Whole-clause-finds c bytes k none =
    let i = c.args.self.now in
    let u = unready i bytes 0 none k in
    let told : Answer.Whole c.in-Whole.request ≡ step_of 0 (read_request i.limits bytes) =
    subst (λ (l : Limits). Answer.Whole c.in-Whole.request ≡ step_of 0 (read_request l bytes)) k.limits
    (sym c.in-Whole.is ∙ c.in_ok-request.ensures.exact bytes 0 u.heard) in
    found_whole _ bytes c.in-Whole.request (ap (λ (m : Manner). Some m) c.manner_of.ensures) refl refl c.due_of-self.ensures
    (answers_whole 0 c.in-Whole.request (read_request i.limits bytes) told)
    (subst (λ (l : Limits). IsBehind l bytes 0 (read_request l bytes) c.step.new.self) k.limits (c.in_ok-request.ensures.behind bytes 0 u.heard))
