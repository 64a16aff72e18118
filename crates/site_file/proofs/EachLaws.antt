-- Tables of an array read one after the other.
use Rattle.std.proofs.Common.{◌≡◌, ◌≢◌, ℕ, ◌+◌, ◌<◌, ◌≤◌, List, [], ◌∷◌, ◌++◌, drop, map, length, get_or, Option, Some, None, Result, Ok, Err, Bor, append_assoc, append-nil, refl, ap, sym, ◌∙◌}
use Rattle.std.proofs.lemmas.List.{drop_more, drop-map, drop_all}
use Rattle.toml.specs.Data.{Members}
use Rattle.site_file.specs.declared.fault.SiteFault.{SiteFault}
use Rattle.site_file.specs.declared.fault.SiteFault.TheVariants.{NoMemory}
use Rattle.site_file.specs.Keys.{entry, each_from}
use Rattle.site_file.specs.Steps.{◌>>=◌, or_else}
use Rattle.site_file.specs.Tables.{Table, members_at, members_of_all}
use Rattle.site_file.specs.Unknown.{first_from}

-- what was read so far before what is left to be read
abbrev pub onto : {A : Type 0} → List A → Result (List A) SiteFault → Result (List A) SiteFault
onto done rest = rest >>= (λ values. Ok (done ++ values))

pub onto_more : {A : Type 0} (done : List A) (value : A) (rest : Result (List A) SiteFault)
    → onto done (rest >>= (λ values. Ok (value ∷ values))) ≡ onto (done ++ value ∷ []) rest
onto_more done value (Ok values) = rw append_assoc
onto_more done value (Err fault) = refl

pub onto_none : {A : Type 0} (rest : Result (List A) SiteFault) → onto [] rest ≡ rest
onto_none (Ok values) = refl
onto_none (Err fault) = refl

-- the item at an index and those after it, each under a function
pub map_left : {X Y : Type 0} (f : X → Y) (xs : List X) (index : ℕ) (x : X) → index < length xs → x ≡ get_or xs index x
    → drop index (map f xs) ≡ f x ∷ drop (index + 1) (map f xs)
map_left f xs index x within is =
    drop-map f index xs
    ∙ ap (map f) (drop_more xs index x within)
    ∙ ap (λ first. f first ∷ map f (drop (index + 1) xs)) (sym is)
    ∙ ap (λ rest. f x ∷ rest) (sym (drop-map f (index + 1) xs))

pub none_left : {X Y : Type 0} (f : X → Y) (xs : List X) (index : ℕ) → length xs ≤ index → drop index (map f xs) ≡ []
none_left f xs index past = drop-map f index xs ∙ ap (map f) (drop_all index xs past)

-- the table at an index and those after it
members_left : (tables : List (Bor Table)) (index : ℕ) (table : Bor Table) → index < length tables → table ≡ get_or tables index table
    → drop index (members_of_all tables) ≡ members_at table ∷ drop (index + 1) (members_of_all tables)
members_left tables index table within is = map_left members_at tables index table within is

module _ {A : Type 0} (one : List ℕ → Members → Result A SiteFault) (place key : List ℕ) where
  abbrev pub each : ℕ → List Members → Result (List A) SiteFault
  each index tables = each_from (λ index table. one (entry place key index) table) index tables

  each_read : (done : List A) (value : A) (index : ℕ) (table : Members) (tables : List Members) → one (entry place key index) table ≡ Ok value
      → onto done (each index (table ∷ tables)) ≡ onto (done ++ value ∷ []) (each (index + 1) tables)
  unfolding each_from
  each_read done value index table tables same = rw same (onto_more done value (each (index + 1) tables))

  each_refused : (done : List A) (fault : SiteFault) (index : ℕ) (table : Members) (tables : List Members) → one (entry place key index) table ≡ Err fault
      → onto done (each index (table ∷ tables)) ≡ Err fault
  unfolding each_from
  each_refused done fault index table tables same = rw same

  -- a table is refused
  pub each_stops : (done : List A) (tables : List (Bor Table)) (index : ℕ) (table : Bor Table) (inner : List ℕ) (fault : SiteFault) (all : Result (List A) SiteFault)
      → onto done (each index (drop index (members_of_all tables))) ≡ all → index < length tables → table ≡ get_or tables index table → inner ≡ entry place key index
      → (fault ≢ NoMemory → one inner (members_at table) ≡ Err fault) → fault ≢ NoMemory → all ≡ Err fault
  each_stops done tables index table inner fault all so_far within is at refused known =
      sym so_far ∙ ap (λ rest. onto done (each index rest)) (members_left tables index table within is)
      ∙ each_refused done fault index (members_at table) (drop (index + 1) (members_of_all tables)) (ap (λ place. one place (members_at table)) (sym at) ∙ refused known)

  -- one more table is read
  pub each_goes_on : (done : List A) (tables : List (Bor Table)) (index : ℕ) (table : Bor Table) (inner : List ℕ) (value : A) (all : Result (List A) SiteFault)
      → onto done (each index (drop index (members_of_all tables))) ≡ all → index < length tables → table ≡ get_or tables index table → inner ≡ entry place key index
      → one inner (members_at table) ≡ Ok value
      → onto (done ++ value ∷ []) (each (index + 1) (drop (index + 1) (members_of_all tables))) ≡ all
  each_goes_on done tables index table inner value all so_far within is at read =
      sym (each_read done value index (members_at table) (drop (index + 1) (members_of_all tables)) (ap (λ place. one place (members_at table)) (sym at) ∙ read))
      ∙ ap (λ rest. onto done (each index rest)) (sym (members_left tables index table within is))
      ∙ so_far

  -- all tables are read
  pub each_ends : (done : List A) (tables : List (Bor Table)) (index : ℕ) (all : Result (List A) SiteFault)
      → onto done (each index (drop index (members_of_all tables))) ≡ all → length tables ≤ index → all ≡ Ok done
  unfolding each_from
  each_ends done tables index all so_far past =
      sym so_far ∙ ap (λ rest. onto done (each index rest)) (none_left members_at tables index past) ∙ ap Ok (append-nil done)

module _ (look : List ℕ → Members → Option SiteFault) (place key : List ℕ) where
  abbrev pub first : ℕ → List Members → Option SiteFault
  first index tables = first_from (λ index table. look (entry place key index) table) index tables

  -- a table has a fault
  pub first_stops : (tables : List (Bor Table)) (index : ℕ) (table : Bor Table) (inner : List ℕ) (fault : SiteFault) (all : Option SiteFault)
      → first index (drop index (members_of_all tables)) ≡ all → index < length tables → table ≡ get_or tables index table → inner ≡ entry place key index
      → (fault ≢ NoMemory → look inner (members_at table) ≡ Some fault) → fault ≢ NoMemory → all ≡ Some fault
  unfolding first_from
  first_stops tables index table inner fault all so_far within is at found known =
      sym so_far ∙ ap (first index) (members_left tables index table within is)
      ∙ ap (λ here. or_else here (first (index + 1) (drop (index + 1) (members_of_all tables)))) (ap (λ place. look place (members_at table)) (sym at) ∙ found known)

  -- one more table has none
  pub first_goes_on : (tables : List (Bor Table)) (index : ℕ) (table : Bor Table) (inner : List ℕ) (all : Option SiteFault)
      → first index (drop index (members_of_all tables)) ≡ all → index < length tables → table ≡ get_or tables index table → inner ≡ entry place key index
      → look inner (members_at table) ≡ None
      → first (index + 1) (drop (index + 1) (members_of_all tables)) ≡ all
  unfolding first_from
  first_goes_on tables index table inner all so_far within is at found =
      ap (λ here. or_else here (first (index + 1) (drop (index + 1) (members_of_all tables)))) (sym found ∙ ap (λ place. look place (members_at table)) at)
      ∙ ap (first index) (sym (members_left tables index table within is))
      ∙ so_far

  pub first_ends : (tables : List (Bor Table)) (index : ℕ) (all : Option SiteFault)
      → first index (drop index (members_of_all tables)) ≡ all → length tables ≤ index → all ≡ None
  unfolding first_from
  first_ends tables index all so_far past = sym so_far ∙ ap (first index) (none_left members_at tables index past)
