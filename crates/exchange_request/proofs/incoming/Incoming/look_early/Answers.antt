use Rattle.std.proofs.Common.{◌≡◌, ℕ, ◌+◌, Option, Some, IfSome, length, refl, sym, ap, ◌∙◌, subst, arith}
use Rattle.host_base.specs.declared.limits.Limits.{Limits}
use Rattle.host_base.specs.declared.request.Request.{Request}
use Rattle.request_reader.specs.Opening.{kept_of}
use Rattle.request_reader.specs.Reader.{Reader, IsHeard}
use Rattle.request_reader.specs.Request.{early_of, read_request}
use Rattle.exchange_request.specs.declared.found.Manner.{Manner}
use Rattle.exchange_request.proofs.KnowsLaws.{unready, untaken, found_early}
use Rattle.exchange_request.proofs.ReadyLaws.{early_more}
use Rattle.exchange_request.proofs.incoming.Incoming.look_early.Goals as goal

pub returns-in-Some-clause-finds : goal.returns-in-Some-clause-finds
returns-in-Some-clause-finds c bytes request k none is =
    let i = c.args.self.now in
    let u = unready i bytes 0 none k in
    let kept = c.in_ok-early.ensures.kept bytes 0 u.heard in
    let early : Some c.in-Some.request ≡ early_of 0 (read_request i.limits bytes) =
    subst (λ (l : Limits). Some c.in-Some.request ≡ early_of 0 (read_request l bytes)) k.limits
    (sym c.in-Some.is ∙ c.in_ok-early.ensures.exact bytes 0 u.heard) in
    let body : c.take_body-body.result ≡ c.in-Some.request.body = c.take_body-body.ensures.body
    ∙ subst (λ (o : Option Request). IfSome o (λ r. kept_of c.early.new.self.opened ≡ r.body)) c.in-Some.is c.in_ok-early.ensures.next in
    let count : 0 + length c.take_body-body.result ≡ length c.in-Some.request.body = omega (arith, ap length body) in
    found_early _ bytes c.in-Some.request request c.args.due (ap (λ (m : Manner). Some m) c.manner_of.ensures) (untaken i bytes 0 none k) refl refl
    (ap (λ (r : Reader). r.limits) c.take_body-body.ensures.state ∙ kept.0 ∙ k.limits) is
    (early_more 0 c.in-Some.request request c.args.due (read_request i.limits bytes) is early)
    (subst (λ (n : ℕ). IsHeard c.take_body-body.new.self bytes n) count (c.take_body-body.ensures.kept bytes 0 kept.1))
