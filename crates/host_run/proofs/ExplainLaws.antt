-- What is given back and put, from the parts to the whole.
use Rattle.std.proofs.Common.{◌≡◌, ℕ, List, Option, Some, refl, ◌∙◌, sym, inr, subst}
use Rattle.host_base.specs.declared.site.Site.{Site}
use Rattle.host_trace.specs.declared.items.Item.{Item}
use Rattle.explain.specs.Explained.{AsksAlone}
use Rattle.explain.specs.declared.explain.Explained.{Explained}
use Rattle.explain.specs.declared.explain.Explained.TheVariants as Was
use Rattle.host_run.proofs.JoinLaws.{JoinedOne}
use Rattle.host_run.specs.Explains.{GaveAsking, GivesAsking, ExplainsBy}
use Rattle.host_run.specs.ExplainSteps.{GivesEnd, PutsEnd}
use Rattle.host_run.specs.declared.top.Status.{Status}
use Rattle.host_run.specs.declared.top.Status.TheVariants.{Done, Usage, SiteRefused, SiteUnread, WorldRefused, Spent, ReportFault, NoMemory}

gives_as : {P Q : List Item → Type 0} (given given' : Option (List (List Item))) → ((T : List Item) → P T → Q T) →
    GivesAsking P given given' → GivesAsking Q given given'
gives_as given given' also gives = λ now told.
    let g = gives now told in
    record { was = g.was; trace = g.trace; told = g.told; grew = g.grew; asks = g.asks; is = also g.trace g.is }

-- the one outside that came out is given back
pub gave_asking : (Is : List Item → Type 0) (before : Option (List (List Item))) (trace : Option (List Item)) (now : List (List Item)) →
    ((T : List Item) → trace ≡ Some T → AsksAlone T) → ((T : List Item) → trace ≡ Some T → Is T) → JoinedOne before trace now → GaveAsking Is before now
gave_asking Is before trace now asks is j =
    record { was = j.was; trace = j.of; told = j.told; grew = j.grew; asks = asks j.of j.is; is = is j.of j.is }

-- the end of explaining, and what was put of it
pub explained : (site : Site) (end : Explained) (status : Status) (given given' : Option (List (List Item))) (put put' : Option (List ℕ)) →
    GivesEnd site end given given' → PutsEnd end status put put' → ExplainsBy (λ s. s ≡ site) status given given' put put'
explained site (Was.Text text) Done given given' put put' gives puts = record {
  site = site;
  text = puts.1.0;
  said = refl;
  gives = gives_as given given' (λ T is. (is.0, puts.1.1.0 ∙ is.1)) gives;
  puts = puts.1.1.1;
}
explained site (Was.Text text) ReportFault given given' put put' gives puts = record {
  site = site;
  text = puts.1.0;
  said = refl;
  gives = gives_as given given' (λ T is. (is.0, puts.1.1.0 ∙ is.1)) gives;
  puts = puts.1.1.1;
}
explained site (Was.Text text) NoMemory given given' put put' gives puts = (inr (gives_as given given' (λ T is. tt) gives), puts.1)
explained site (Was.Text text) Usage given given' put put' gives puts = absurd puts.0
explained site (Was.Text text) (SiteRefused fault) given given' put put' gives puts = absurd puts.0
explained site (Was.Text text) SiteUnread given given' put put' gives puts = absurd puts.0
explained site (Was.Text text) WorldRefused given given' put put' gives puts = absurd puts.0
explained site (Was.Text text) Spent given given' put put' gives puts = absurd puts.0
explained site Was.Spent status given given' put put' gives puts =
    subst (λ s. ExplainsBy (λ s. s ≡ site) s given given' put put') (sym puts.0)
    (record { site = site; said = refl; gives = gives; puts = puts.1 })
explained site Was.NoMemory status given given' put put' gives puts =
    subst (λ s. ExplainsBy (λ s. s ≡ site) s given given' put put') (sym puts.0)
    (inr (gives_as given given' (λ T is. tt) gives), puts.1)

-- a site of one kind that is one of another kind too
pub explains_as : {P Q : Site → Type 0} (status : Status) (given given' : Option (List (List Item))) (put put' : Option (List ℕ)) →
    ((site : Site) → P site → Q site) → ExplainsBy P status given given' put put' → ExplainsBy Q status given given' put put'
explains_as Done given given' put put' also e = record { site = e.site; text = e.text; said = also e.site e.said; gives = e.gives; puts = e.puts }
explains_as ReportFault given given' put put' also e = record { site = e.site; text = e.text; said = also e.site e.said; gives = e.gives; puts = e.puts }
explains_as Spent given given' put put' also e = record { site = e.site; said = also e.site e.said; gives = e.gives; puts = e.puts }
explains_as NoMemory given given' put put' also e = e
explains_as Usage given given' put put' also e = e
explains_as (SiteRefused fault) given given' put put' also e = e
explains_as SiteUnread given given' put put' also e = e
explains_as WorldRefused given given' put put' also e = e
