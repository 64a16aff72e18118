-- Whether an exchange has ended, by what its state holds.
use Rattle.std.specs.Prelude.{ℕ, Bool, true, false, not, ◌≡◌, List, [], ◌∷◌, ◌++◌, Option}
use Rattle.std.specs.List.{list_any}
use Rattle.host_base.specs.declared.cause.Cause.{Cause}
use Rattle.host_base.specs.declared.site.Site.{Site}
use Rattle.host_trace.specs.declared.items.Item.{Item}
use Rattle.host_trace.specs.Account.{has_unsettled, settled}
use Rattle.host_trace.specs.Kinds.{bytes_written}
use Rattle.host_trace.specs.Projections.{children}
use Rattle.trace_model.specs.Answer.{Answer, cut_off, no_answer, undecided, answer}
use Rattle.trace_model.specs.Closes.{way}
use Rattle.trace_model.specs.Exchange.{Exchange, pushed, continue_part, final}
use Rattle.trace_model.specs.Exchanges.{has_ended}
use Rattle.trace_model.specs.Standing.{stands_whole}

-- ---- the children

-- one of these children is not settled
abbrev pub has_unsettled_of : List Item → List ℕ → Bool
has_unsettled_of items ks = list_any (λ k. not (settled items k)) ks

-- these children were started, of which all but the last are settled
pub record IsLastChild (c : ℕ) (items : List Item) (older : List ℕ) (k : ℕ) : Type 0 where
  pub are : children items c ≡ older ++ k ∷ []
  pub settled_then : has_unsettled_of items older ≡ false

-- Whether a child is unsettled is said by the last one.
abbrev pub LastChildDecides : Type 0
LastChildDecides = (c : ℕ) (items : List Item) (older : List ℕ) (k : ℕ) → IsLastChild c items older k
    → has_unsettled items c ≡ not (settled items k)

-- What is settled stays so.
abbrev pub SettledStay : Type 0
SettledStay = (items : List Item) (x : Item) (ks : List ℕ) → has_unsettled_of items ks ≡ false → has_unsettled_of (items ++ x ∷ []) ks ≡ false

-- ---- the answer

-- no whole answer stands where none of its bytes is written, or where there is none to write
pub record IsNotWhole (site : Site) (c : ℕ) (e : Exchange) : Type 0 where
  pub unwritten : final site c e ≡ [] → stands_whole site c e ≡ false
  pub waits : answer site c e ≡ undecided → stands_whole site c e ≡ false
  pub cut : (cause : Option Cause) → answer site c e ≡ cut_off cause → stands_whole site c e ≡ false
  pub none : answer site c e ≡ no_answer → stands_whole site c e ≡ false

abbrev pub UnfinishedAreNotWhole : Type 0
UnfinishedAreNotWhole = (site : Site) (c : ℕ) (e : Exchange) → IsNotWhole site c e

-- nothing is written with an item, and what an answer is and how it is spelled is as before
pub record LeavesAnswer (site : Site) (c : ℕ) (e : Exchange) (x : Item) : Type 0 where
  pub bytes : bytes_written c x ≡ []
  pub answer_then : answer site c (pushed e x) ≡ answer site c e
  pub continues_then : continue_part site c (pushed e x) ≡ continue_part site c e
  pub way_then : way site c (pushed e x) ≡ way site c e

-- Such an item leaves whether the whole answer stands.
abbrev pub WholeStays : Type 0
WholeStays = (site : Site) (c : ℕ) (e : Exchange) (x : Item) → LeavesAnswer site c e x → stands_whole site c (pushed e x) ≡ stands_whole site c e

-- ---- an exchange with no child, and with a last one

pub record EndsBy (site : Site) (c : ℕ) (e : Exchange) : Type 0 where
  pub without : children e.items c ≡ [] → has_ended site c e ≡ stands_whole site c e
  pub unsettled : (older : List ℕ) (k : ℕ) → IsLastChild c e.items older k → settled e.items k ≡ false → has_ended site c e ≡ false
  pub settled_then : (older : List ℕ) (k : ℕ) → IsLastChild c e.items older k → settled e.items k ≡ true → has_ended site c e ≡ stands_whole site c e

abbrev pub EndsAreTested : Type 0
EndsAreTested = (site : Site) (c : ℕ) (e : Exchange) → EndsBy site c e
