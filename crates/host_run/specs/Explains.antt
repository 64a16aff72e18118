-- What `explain` gives back to its world, and what it reports.
use Rattle.std.specs.Prelude.{ℕ, ◌≡◌, ◌^◌, ◌⊎◌, List, [], ◌∷◌, ◌++◌, Option, Some, None, Ok}
use Rattle.host_base.specs.Outsides.{Stored, Puts, PutsPart}
use Rattle.host_base.specs.declared.site.Site.{Site}
use Rattle.host_trace.specs.declared.items.Item.{Item}
use Rattle.explain.specs.Explained.{AsksAlone, IsFirstExplained, IsNeverExplained, explanation}
use Rattle.host_run.specs.Statuses.{Says}
use Rattle.host_run.specs.Words.{Form, Does, Sample, Help, Version}
use Rattle.host_run.specs.declared.words.Task.TheVariants.{Once, Serve, Check, Upgrade, Explain}
use Rattle.host_run.specs.declared.top.Status.{Status}
use Rattle.host_run.specs.declared.top.Status.TheVariants.{Done, Usage, SiteRefused, SiteUnread, WorldRefused, Spent, ReportFault, NoMemory}

-- exactly one trace was given back in this call: the first client was asked for its bytes, nothing else was done,
-- and this is so of it
pub record GaveAsking (Is : List Item → Type 0) (before : Option (List (List Item))) (now : List (List Item)) : Type 0 where
  pub was : List (List Item)
  pub trace : List Item
  pub told : before ≡ Some was
  pub grew : now ≡ was ++ trace ∷ []
  pub asks : AsksAlone trace
  pub is : Is trace

abbrev pub GivesAsking : (List Item → Type 0) → Option (List (List Item)) → Option (List (List Item)) → Type 0
GivesAsking Is before after = (now : List (List Item)) → after ≡ Some now → GaveAsking Is before now

-- the text explains the first request of the trace, which ends as soon as that request does, within 2^22 events
abbrev pub Explains : Site → List ℕ → List Item → Type 0
Explains site text T = IsFirstExplained site (2 ^ 22) T × (text ≡ explanation site T)

-- the request did not end in 2^22 events
abbrev pub IsUnexplained : Site → List Item → Type 0
IsUnexplained site T = IsNeverExplained site (2 ^ 22) T

-- the explanation of the one trace that came back was put whole
pub record IsExplained (IsSite : Site → Type 0) (given given' : Option (List (List Item))) (put put' : Option (List ℕ)) : Type 0 where
  pub site : Site
  pub text : List ℕ
  pub said : IsSite site
  pub gives : GivesAsking (Explains site text) given given'
  pub puts : Puts put text put'

-- .. a front of it
pub record IsCutOff (IsSite : Site → Type 0) (given given' : Option (List (List Item))) (put put' : Option (List ℕ)) : Type 0 where
  pub site : Site
  pub text : List ℕ
  pub said : IsSite site
  pub gives : GivesAsking (Explains site text) given given'
  pub puts : PutsPart put text put'

-- a trace came back whose request did not end, and nothing was put
pub record IsWithoutEnd (IsSite : Site → Type 0) (given given' : Option (List (List Item))) (put put' : Option (List ℕ)) : Type 0 where
  pub site : Site
  pub said : IsSite site
  pub gives : GivesAsking (IsUnexplained site) given given'
  pub puts : put' ≡ put

-- By the status, for a site of which this is so, the trace that was given back and what was put. Where memory was
-- wanting no trace came back or one.
abbrev pub ExplainsBy : (Site → Type 0) → Status → Option (List (List Item)) → Option (List (List Item)) → Option (List ℕ) → Option (List ℕ) → Type 0
ExplainsBy IsSite Done given given' put put' = IsExplained IsSite given given' put put'
ExplainsBy IsSite ReportFault given given' put put' = IsCutOff IsSite given given' put put'
ExplainsBy IsSite Spent given given' put put' = IsWithoutEnd IsSite given given' put put'
ExplainsBy IsSite NoMemory given given' put put' = ((given' ≡ given) ⊎ GivesAsking (λ T. Unit {0}) given given') × (put' ≡ put)
ExplainsBy IsSite Usage given given' put put' = (given' ≡ given) × (put' ≡ put)
ExplainsBy IsSite (SiteRefused fault) given given' put put' = (given' ≡ given) × (put' ≡ put)
ExplainsBy IsSite SiteUnread given given' put put' = (given' ≡ given) × (put' ≡ put)
ExplainsBy IsSite WorldRefused given given' put put' = (given' ≡ given) × (put' ≡ put)

-- .. the site that is said at the place
abbrev pub ExplainsAt : Option (List Stored) → Option Form → Status → Option (List (List Item)) → Option (List (List Item)) → Option (List ℕ) → Option (List ℕ) → Type 0
ExplainsAt stored (Some (Does Explain place)) status given given' put put' = ExplainsBy (λ site. Says stored place (Ok site)) status given given' put put'
ExplainsAt stored (Some (Does Once place)) status given given' put put' = Unit {0}
ExplainsAt stored (Some (Does (Serve loops turns) place)) status given given' put put' = Unit {0}
ExplainsAt stored (Some (Does Check place)) status given given' put put' = Unit {0}
ExplainsAt stored (Some (Does Upgrade place)) status given given' put put' = Unit {0}
ExplainsAt stored (Some (Sample seed count)) status given given' put put' = Unit {0}
ExplainsAt stored (Some Help) status given given' put put' = Unit {0}
ExplainsAt stored (Some Version) status given given' put put' = Unit {0}
ExplainsAt stored None status given given' put put' = Unit {0}
