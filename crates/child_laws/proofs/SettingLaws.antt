-- The setting of a leg.
use Rattle.std.proofs.Common.{◌≡◌, ℕ, zero, suc, refl, ap, ◌∙◌, append-nil}
use Rattle.host_base.specs.declared.site.Site.{Site}
use Rattle.host_trace.specs.declared.items.Item.{Item}
use Rattle.host_trace.specs.declared.items.Item.TheVariants.{Out}
use Rattle.request_reader.specs.Request.{read_request}
use Rattle.child_core.specs.Laws.{IsStill}
use Rattle.child_core.specs.Setting.{run_in}
use Rattle.child_core.specs.View.{View}
use Rattle.trace_model.specs.Exchange.{Exchange, pushed, up_to, request_bytes}
use Rattle.trace_model.specs.Legs.{Leg, run_of}
use Rattle.trace_model.specs.Readings.{offer_of}
use Rattle.trace_model.proofs.ExchangeLaws.{request_bytes-push}
use Rattle.child_laws.specs.Setting.{setting, IsRunOf}

pub setting_is : (site : Site) (c : ℕ) (e : Exchange) (leg : Leg) (v : View) → IsRunOf v leg → run_in (setting site c e leg.hop) v ≡ run_of site c e leg
setting_is site c e leg v is =
    ap (λ k. record (run_of site c e leg) { child = k; kind = v.kind }) is.number
    ∙ ap (λ kind. record (run_of site c e leg) { kind = kind }) is.kind

pub still : (site : Site) (c : ℕ) (e : Exchange) (hop : ℕ) → IsStill (setting site c e hop)
still site c e zero L act =
    ap (λ bytes. offer_of (read_request site.limits bytes))
    (request_bytes-push c (up_to e L) (Out act) ∙ append-nil (request_bytes c (up_to e L)))
still site c e (suc hop) L act = refl

-- one item more leaves it
pub setting_same : (site : Site) (c : ℕ) (e : Exchange) (x : Item) (hop : ℕ) → setting site c (pushed e x) hop ≡ setting site c e hop
setting_same site c e x hop = refl
