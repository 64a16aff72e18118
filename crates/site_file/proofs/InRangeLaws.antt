-- What a site file says is in its ranges.
use Rattle.std.proofs.Common.{◌≡◌, ℕ, suc, ℤ, pos, negsuc, ◌+◌, Bool, true, false, ◌&&◌, cond, leb, List, [], ◌∷◌, ◌++◌, length, Option, Some, None, Result, Ok, Err, All, arith, refl, ap, sym, ◌∙◌, subst, codes}
use Rattle.std.proofs.lemmas.Bool.{and_parts, leb-true}
use Rattle.std.proofs.lemmas.List.Elements.{All-nil, All-cons}
use Rattle.toml.specs.Data.{Data, Members, no_members, as_integer, as_table, get_member}
use Rattle.host_base.specs.declared.limits.Limits.{Limits}
use Rattle.host_base.specs.LimitRanges.{AreInRange, IsWithin}
use Rattle.site_file.specs.declared.fault.SiteFault.{SiteFault}
use Rattle.site_file.specs.declared.said.ByteLimits.{ByteLimits}
use Rattle.site_file.specs.declared.said.CountLimits.{CountLimits}
use Rattle.site_file.specs.declared.said.TickLimits.{TickLimits}
use Rattle.site_file.specs.Keys.{any_value, ranged, required, required_at, optional, optional_at, optional_number, optional_number_at, number_within, each_from}
use Rattle.site_file.specs.SiteFile.{byte_limits_in, tick_limits_in, count_limits_in, limits_in, limits_of}
use Rattle.site_file.specs.Steps.{◌>>=◌, unless}

-- ---- readings that found no fault

pub record Read {A B : Type 0} (first : Result A SiteFault) (next : A → Result B SiteFault) (last : B) : Type 0 where
  pub value : A
  pub first_is : first ≡ Ok value
  pub rest : next value ≡ Ok last

pub read_parts : {A B : Type 0} (first : Result A SiteFault) (next : A → Result B SiteFault) (last : B) → (first >>= next) ≡ Ok last → Read first next last
read_parts (Ok value) next last e = record { value = value; first_is = refl; rest = e }
read_parts (Err fault) next last e = absurd (cc e)

pub unless_parts : {A : Type 0} (fault : Option SiteFault) (next : Result A SiteFault) (last : A) → unless fault next ≡ Ok last → (fault ≡ None) × (next ≡ Ok last)
unless_parts None next last e = (refl, e)
unless_parts (Some fault) next last e = absurd (cc e)

pub ok_parts : {A : Type 0} (a b : A) → ◌≡◌ {A = Result A SiteFault} (Ok a) (Ok b) → a ≡ b
ok_parts a b e = cc e

-- ---- values in their ranges

pub if_ok : {A : Type 0} (test : Bool) (a b : A) (fault : SiteFault) → cond test (Ok a) (Err fault) ≡ Ok b → (test ≡ true) × (a ≡ b)
if_ok true a b fault e = (refl, ok_parts a b e)
if_ok false a b fault e = absurd (cc e)

pub ranged_ok : {A : Type 0} (range : A → Bool) (name : List ℕ) (found : Option A) (value : A) → ranged range name found ≡ Ok value → range value ≡ true
ranged_ok range name None value e = absurd (cc e)
ranged_ok range name (Some found) value e =
    let (here, same) = if_ok (range found) found value _ e in
    subst (λ value. range value ≡ true) same here

required_at_ok : {A : Type 0} (kind : Data → Option A) (range : A → Bool) (name : List ℕ) (found : Option Data) (value : A) → required_at kind range name found ≡ Ok value → range value ≡ true
required_at_ok kind range name None value e = absurd (cc e)
required_at_ok kind range name (Some found) value e = ranged_ok range name (kind found) value e

pub required_ok : {A : Type 0} (kind : Data → Option A) (range : A → Bool) (place : List ℕ) (table : Members) (key : List ℕ) (value : A)
    → required kind range place table key ≡ Ok value → range value ≡ true
unfolding required
required_ok kind range place table key value e = required_at_ok kind range (place ++ key) (get_member key table) value e

optional_at_ok : {A : Type 0} (kind : Data → Option A) (range : A → Bool) (default : A) (name : List ℕ) (found : Option Data) (value : A) → range default ≡ true
    → optional_at kind range default name found ≡ Ok value → range value ≡ true
optional_at_ok kind range default name None value fits e = subst (λ value. range value ≡ true) (ok_parts default value e) fits
optional_at_ok kind range default name (Some found) value fits e = ranged_ok range name (kind found) value e

pub optional_ok : {A : Type 0} (kind : Data → Option A) (range : A → Bool) (place : List ℕ) (table : Members) (key : List ℕ) (default value : A) → range default ≡ true
    → optional kind range place table key default ≡ Ok value → range value ≡ true
unfolding optional
optional_ok kind range place table key default value fits e = optional_at_ok kind range default (place ++ key) (get_member key table) value fits e

pub within_tests : (least greatest n : ℕ) → (leb least n && leb n greatest) ≡ true → IsWithin least greatest n
within_tests least greatest n e =
    let (low, high) = and_parts (leb least n) (leb n greatest) e in
    (leb-true least n low, leb-true n greatest high)

number_ok : (least greatest : ℕ) (name : List ℕ) (found : Option ℤ) (n : ℕ) → number_within least greatest name found ≡ Ok n → IsWithin least greatest n
number_ok least greatest name None n e = absurd (cc e)
number_ok least greatest name (Some (negsuc m)) n e = absurd (cc e)
number_ok least greatest name (Some (pos m)) n e =
    let (here, same) = if_ok (leb least m && leb m greatest) m n _ e in
    subst (IsWithin least greatest) same (within_tests least greatest m here)

optional_number_at_ok : (least greatest default : ℕ) (name : List ℕ) (found : Option Data) (n : ℕ) → IsWithin least greatest default
    → optional_number_at least greatest default name found ≡ Ok n → IsWithin least greatest n
optional_number_at_ok least greatest default name None n fits e = subst (IsWithin least greatest) (ok_parts default n e) fits
optional_number_at_ok least greatest default name (Some found) n fits e = number_ok least greatest name (as_integer found) n e

pub optional_number_ok : (place : List ℕ) (table : Members) (key : List ℕ) (least greatest default n : ℕ) → IsWithin least greatest default
    → optional_number place table key least greatest default ≡ Ok n → IsWithin least greatest n
unfolding optional_number
optional_number_ok place table key least greatest default n fits e = optional_number_at_ok least greatest default (place ++ key) (get_member key table) n fits e

-- ---- limits

record AreBytes (limits : ByteLimits) : Type 0 where
  pub head : IsWithin 1024 65536 limits.head
  pub target : IsWithin 64 32000 limits.target
  pub body : IsWithin 0 16777216 limits.body
  pub output : IsWithin 8192 16777216 limits.output

bytes_ok : (place : List ℕ) (table : Members) (limits : ByteLimits) → byte_limits_in place table ≡ Ok limits → AreBytes limits
unfolding byte_limits_in
bytes_ok place table limits e =
    let a = read_parts _ _ _ e in
    let b = read_parts _ _ _ a.rest in
    let c = read_parts _ _ _ b.rest in
    let d = read_parts _ _ _ c.rest in
    subst AreBytes (ok_parts _ _ d.rest) (record {
      head = optional_number_ok place table _ _ _ _ _ (omega arith, omega arith) a.first_is;
      target = optional_number_ok place table _ _ _ _ _ (omega arith, omega arith) b.first_is;
      body = optional_number_ok place table _ _ _ _ _ (omega arith, omega arith) c.first_is;
      output = optional_number_ok place table _ _ _ _ _ (omega arith, omega arith) d.first_is;
    })

record AreTicks (limits : TickLimits) : Type 0 where
  pub run : IsWithin 1 864000 limits.run
  pub idle : IsWithin 1 36000 limits.idle
  pub linger : IsWithin 1 600 limits.linger

ticks_ok : (place : List ℕ) (table : Members) (limits : TickLimits) → tick_limits_in place table ≡ Ok limits → AreTicks limits
unfolding tick_limits_in
ticks_ok place table limits e =
    let a = read_parts _ _ _ e in
    let b = read_parts _ _ _ a.rest in
    let c = read_parts _ _ _ b.rest in
    subst AreTicks (ok_parts _ _ c.rest) (record {
      run = optional_number_ok place table _ _ _ _ _ (omega arith, omega arith) a.first_is;
      idle = optional_number_ok place table _ _ _ _ _ (omega arith, omega arith) b.first_is;
      linger = optional_number_ok place table _ _ _ _ _ (omega arith, omega arith) c.first_is;
    })

record AreCounts (limits : CountLimits) : Type 0 where
  pub redirects : IsWithin 0 10 limits.redirects
  pub connections : IsWithin 1 1024 limits.connections
  pub children : IsWithin 1 256 limits.children
  pub ws_text : IsWithin 1 1048576 limits.ws_text

counts_ok : (place : List ℕ) (table : Members) (limits : CountLimits) → count_limits_in place table ≡ Ok limits → AreCounts limits
unfolding count_limits_in
counts_ok place table limits e =
    let a = read_parts _ _ _ e in
    let b = read_parts _ _ _ a.rest in
    let c = read_parts _ _ _ b.rest in
    let d = read_parts _ _ _ c.rest in
    subst AreCounts (ok_parts _ _ d.rest) (record {
      redirects = optional_number_ok place table _ _ _ _ _ (omega arith, omega arith) a.first_is;
      connections = optional_number_ok place table _ _ _ _ _ (omega arith, omega arith) b.first_is;
      children = optional_number_ok place table _ _ _ _ _ (omega arith, omega arith) c.first_is;
      ws_text = optional_number_ok place table _ _ _ _ _ (omega arith, omega arith) d.first_is;
    })

limits_in_ok : (place : List ℕ) (table : Members) (limits : Limits) → limits_in place table ≡ Ok limits → AreInRange limits
unfolding limits_in
limits_in_ok place table limits e =
    let a = read_parts _ _ _ e in
    let b = read_parts _ _ _ a.rest in
    let c = read_parts _ _ _ b.rest in
    let bytes = bytes_ok place table a.value a.first_is in
    let ticks = ticks_ok place table b.value b.first_is in
    let counts = counts_ok place table c.value c.first_is in
    subst AreInRange (ok_parts _ _ c.rest) (record {
      head = bytes.head;
      target = bytes.target;
      body = bytes.body.1;
      output = bytes.output;
      run_ticks = ticks.run;
      idle_ticks = ticks.idle;
      linger_ticks = ticks.linger;
      redirects = counts.redirects.1;
      connections = counts.connections;
      children = counts.children;
      ws_text = counts.ws_text;
    })

pub limits_ok : (table : Members) (limits : Limits) → limits_of table ≡ Ok limits → AreInRange limits
unfolding limits_of
limits_ok table limits e =
    let a = read_parts (optional as_table any_value [] table (codes "limits") no_members) (λ limits. limits_in (codes "limits.") limits) limits e in
    limits_in_ok (codes "limits.") a.value limits a.rest

-- ---- arrays

module _ {A : Type 0} (read : ℕ → Members → Result A SiteFault) where
  pub each_length : (index : ℕ) (tables : List Members) (values : List A) → each_from read index tables ≡ Ok values → length values ≡ length tables
  unfolding each_from
  each_length index [] values e = ap length (sym (ok_parts [] values e))
  each_length index (table ∷ tables) values e =
      let a = read_parts (read index table) _ _ e in
      let b = read_parts (each_from read (index + 1) tables) _ _ a.rest in
      ap length (sym (ok_parts (a.value ∷ b.value) values b.rest)) ∙ ap (λ n. suc n) (each_length (index + 1) tables b.value b.first_is)

  -- what holds of each value that is read holds of all
  pub each_all : (P : A → Type 0) → ((index : ℕ) (table : Members) (value : A) → read index table ≡ Ok value → P value)
      → (index : ℕ) (tables : List Members) (values : List A) → each_from read index tables ≡ Ok values → All P values
  unfolding each_from
  each_all P holds index [] values e = subst (All P) (ok_parts [] values e) (All-nil P)
  each_all P holds index (table ∷ tables) values e =
      let a = read_parts (read index table) _ _ e in
      let b = read_parts (each_from read (index + 1) tables) _ _ a.rest in
      subst (All P) (ok_parts (a.value ∷ b.value) values b.rest)
      (All-cons P a.value b.value (holds index table a.value a.first_is) (each_all P holds (index + 1) tables b.value b.first_is))
