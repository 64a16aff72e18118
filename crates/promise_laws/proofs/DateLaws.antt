-- The Date of an answer stands still from its first byte on.
use Rattle.std.proofs.Common.{◌≡◌, ℕ, List, ◌++◌, Option, ap}
use Rattle.std.specs.Prelude.{unwrap_or}
use Rattle.host_base.specs.declared.site.Site.{Site}
use Rattle.host_trace.specs.declared.items.Item.{Item}
use Rattle.host_trace.specs.Projections.{last_secs}
use Rattle.trace_model.specs.Closes.{answer_front}
use Rattle.trace_model.specs.Exchange.{Exchange}
use Rattle.trace_model.specs.ModelLaws.{BeginsAt}
use Rattle.promise_laws.specs.PromiseLaws.{DatesAreOfTheFirstByte}

front_is : (site : Site) (c : ℕ) (e : Exchange) (front : List Item) → BeginsAt site c e front → answer_front site c e ≡ front
front_is site c e front is = ap (λ (o : Option (List Item)). unwrap_or o e.items) is

pub dated_at : DatesAreOfTheFirstByte
dated_at site c e front is = record {
  reply = ap (λ (l : List Item). last_secs (e.before ++ l)) (front_is site c e front is);
  fault = ap (λ (l : List Item). last_secs (e.before ++ l)) (front_is site c e front is);
}
