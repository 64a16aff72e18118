-- What a world says of the traces that were given back to it.
use Rattle.std.specs.Prelude.{ℕ, ◌≡◌, List, ◌∷◌, ◌++◌, All, Option, Some}
use Rattle.host_base.specs.declared.site.DocRoot.{DocRoot}
use Rattle.host_trace.specs.declared.items.Item.{Item}
use Rattle.host_trace.specs.declared.world.Entry.{Entry}
use Rattle.doc_files.specs.Held.{Held}
use Rattle.doc_files.specs.Served.{Serves}
use Rattle.doc_world.specs.declared.world.Given.{Given}

-- one of these entries is for a site of these folders
pub record IsEnteredFor (entries : List Entry) (docs : List DocRoot) : Type 0 where
  pub front : List Entry
  pub entry : Entry
  pub back : List Entry
  pub stands : entries ≡ front ++ entry ∷ back
  pub docs_are : entry.site.docs ≡ docs

abbrev pub items_of : Given → List Item
items_of given = given.items

-- the trace is one of an entry, and each of its document children hands up the document's output, for what is held
pub record IsServed (held : Held) (entries : List Entry) (docs : List DocRoot) (T : List Item) : Type 0 where
  pub entered : ∥ IsEnteredFor entries docs ∥₁
  pub serves : Serves docs held T

abbrev pub ServesEach : Option Held → List Entry → List Given → Option (List (List Item)) → Type 0
ServesEach held entries given told = (now : List (List Item)) (h : Held) → told ≡ Some now → held ≡ Some h
    → All (λ g. IsServed h entries g.docs g.items) given
