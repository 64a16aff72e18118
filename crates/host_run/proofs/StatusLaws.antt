-- What was put of a text.
use Rattle.std.proofs.Common.{ℕ, List, Option}
use Rattle.host_run.specs.Statuses.{PutsBy}
use Rattle.host_run.specs.declared.top.Status.{Status}
use Rattle.host_run.specs.declared.top.Status.TheVariants.{Done, Usage, SiteRefused, SiteUnread, WorldRefused, Spent, ReportFault, NoMemory}

-- a text of one kind that is one of another kind too
pub puts_as : {P Q : List ℕ → Type 0} (status : Status) (before after : Option (List ℕ)) → ((text : List ℕ) → P text → Q text) →
    PutsBy P status before after → PutsBy Q status before after
puts_as Done before after also put = (put.0, (also put.0 put.1.0, put.1.1))
puts_as ReportFault before after also put = (put.0, (also put.0 put.1.0, put.1.1))
puts_as NoMemory before after also put = put
puts_as Usage before after also put = put
puts_as (SiteRefused fault) before after also put = put
puts_as SiteUnread before after also put = put
puts_as WorldRefused before after also put = put
puts_as Spent before after also put = put
