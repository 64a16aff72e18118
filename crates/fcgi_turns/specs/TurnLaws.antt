-- What holds of the turns of a connection.
use Rattle.std.specs.Prelude.{ℕ, true, List, [], ◌∷◌, ◌++◌, ◌≡◌, ◌⊎◌}
use Rattle.std.specs.List.{flat_map}
use Rattle.host_base.specs.declared.site.Site.{Site}
use Rattle.host_trace.specs.declared.items.Event.TheVariants.{WsBinary}
use Rattle.host_trace.specs.declared.items.Item.{Item}
use Rattle.host_trace.specs.declared.items.Item.TheVariants.{In}
use Rattle.host_trace.specs.Kinds.{is_client_bytes}
use Rattle.fcgi_records.specs.declared.record.Record.{Record}
use Rattle.fcgi_records.specs.RecordLaws.{text_of}
use Rattle.fcgi_turns.specs.Turns.{turns_of, next_turns, out_of}

-- They go on item by item.
abbrev pub TurnsGoOn : Type 0
TurnsGoOn = (site : Site) (c : ℕ) (L : List Item) (x : Item) → turns_of site c (L ++ x ∷ []) ≡ next_turns site c (turns_of site c L) x

-- ---- what is due is whole records

-- bytes are whole records, one after another
pub record AreRecords (bytes : List ℕ) : Type 0 where
  pub records : List Record
  pub are : bytes ≡ flat_map text_of records

-- What is due to be written is whole records.
abbrev pub RecordsAreDue : Type 0
RecordsAreDue = (site : Site) (c : ℕ) (L : List Item) → AreRecords (out_of (turns_of site c L))

-- ---- what the runs of children see

-- the runs see an item as it is, or, where it is bytes of the client, as what ends a talk
abbrev pub IsSeen : ℕ → Item → Item → Type 0
IsSeen c x y = (y ≡ x) ⊎ ((is_client_bytes c x ≡ true) × (y ≡ In (WsBinary c)))

abbrev pub AreSeen : ℕ → List Item → List Item → Type 0
AreSeen c [] [] = Unit {0}
AreSeen c [] (y ∷ ys) = ⊥
AreSeen c (x ∷ xs) [] = ⊥
AreSeen c (x ∷ xs) (y ∷ ys) = IsSeen c x y × AreSeen c xs ys

abbrev pub SeenAreItems : Type 0
SeenAreItems = (site : Site) (c : ℕ) (L : List Item) → AreSeen c L (turns_of site c L).seen
