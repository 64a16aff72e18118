-- What a run says of its documents.
use Rattle.std.specs.Prelude.{ℕ, ◌≡◌, All, List, Option, Some, None, Ok}
use Rattle.host_base.specs.Outsides.{Stored}
use Rattle.host_base.specs.declared.site.Site.{Site}
use Rattle.host_trace.specs.declared.items.Item.{Item}
use Rattle.host_run.specs.Statuses.{Says}
use Rattle.host_run.specs.Words.{Form, Does}
use Rattle.doc_files.specs.Held.{Held}
use Rattle.doc_files.specs.Served.{Serves}

-- the site is said at the place of the form
abbrev pub SaysAt : Option (List Stored) → Option Form → Site → Type 0
SaysAt stored (Some (Does task place)) site = Says stored place (Ok site)
SaysAt stored _ site = ⊥

-- each child of the trace that was started for a document of the site that is said hands up that document's output
pub record IsServedAt (stored : Option (List Stored)) (form : Option Form) (held : Held) (T : List Item) : Type 0 where
  pub site : Site
  pub said : SaysAt stored form site
  pub serves : Serves site.docs held T

abbrev pub ServesSite : Option (List Stored) → Option Form → Option Held → Option (List (List Item)) → Type 0
ServesSite stored form held told = (now : List (List Item)) (h : Held) → told ≡ Some now → held ≡ Some h → All (λ T. ∥ IsServedAt stored form h T ∥₁) now
