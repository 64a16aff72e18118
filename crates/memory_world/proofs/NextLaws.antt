-- The event that comes after the list fits.
use Rattle.std.proofs.Common.{◌≡◌, ℕ, Bool, true, false, List, [], ◌∷◌, ◌++◌, Option, Some, None, refl, sym, ◌∙◌, ap, min, arith, eq-eqb, subst, inl, inr}
use Rattle.std.specs.Prelude.{filter, not, ◌||◌, ◌&&◌, if◌then◌else◌}
use Rattle.std.specs.List.{flat_map, fold, list_any, AllByRecursion}
use Rattle.std.specs.Option.{unwrap_or}
use Rattle.std.proofs.lemmas.List.Concat.{flat_map-cons}
use Rattle.std.proofs.lemmas.Bool.{cases_lt}
use Rattle.host_trace.specs.declared.items.Event.{Event}
use Rattle.host_trace.specs.declared.items.Event.TheVariants.{Started, Stop}
use Rattle.host_trace.specs.declared.items.Act.TheVariants.{Start}
use Rattle.host_trace.specs.declared.items.Item.{Item}
use Rattle.host_trace.specs.declared.items.Item.TheVariants.{In, Out}
use Rattle.host_trace.specs.Kinds.{is_start, is_started, start_number}
use Rattle.host_trace.specs.Projections.{stopped, start_stands, start_answered, started, exited}
use Rattle.host_trace.specs.Fits.{fits, is_start_open}
use Rattle.host_trace.specs.Told.{Hears}
use Rattle.memory_world.specs.NextEvent.{least, lesser, open_starts, running, started_number, started_or_exited, after_list, first_listed, next_event}

-- ---- the least of numbers is one of them

-- the fact holds of the number, where there is one
abbrev pub OfSome : (ℕ → Type 0) → Option ℕ → Type 0
OfSome P None = Unit {0}
OfSome P (Some k) = P k

one_of_two : (P : ℕ → Type 0) (a b : ℕ) → P a → P b → P (min a b)
one_of_two P a b pa pb =
    elim (cases_lt b a) [
      | inl below ↦ let e : min a b ≡ b = omega arith in subst P (sym e) pb
      | inr above ↦ let e : min a b ≡ a = omega arith in subst P (sym e) pa
    ]

lesser_of : (P : ℕ → Type 0) (least : Option ℕ) (k : ℕ) → OfSome P least → P k → OfSome P (lesser least k)
lesser_of P None k none pk = pk
lesser_of P (Some a) k pa pk = one_of_two P a k pa pk

fold_of : (P : ℕ → Type 0) (least : Option ℕ) (ks : List ℕ) → OfSome P least → AllByRecursion P ks → OfSome P (fold lesser least ks)
fold_of P least [] p all = p
fold_of P least (k ∷ ks) p all = fold_of P (lesser least k) ks (lesser_of P least k p all.0) all.1

-- ---- what passes a filter

kept : (P : ℕ → Type 0) (test : ℕ → Bool) (k : ℕ) (ks rest : List ℕ) (b : Bool) → test k ≡ b → P k →
    AllByRecursion (λ n. P n × (test n ≡ true)) rest → AllByRecursion (λ n. P n × (test n ≡ true)) (if b then k ∷ rest else rest)
kept P test k ks rest true passes pk all = ((pk, passes), all)
kept P test k ks rest false fails pk all = all

filter_of : (P : ℕ → Type 0) (test : ℕ → Bool) (ks : List ℕ) → AllByRecursion P ks → AllByRecursion (λ k. P k × (test k ≡ true)) (filter test ks)
filter_of P test [] all = tt
filter_of P test (k ∷ ks) all = kept P test k ks (filter test ks) (test k) refl all.0 (filter_of P test ks all.1)

-- ---- a number of a Start is one that stands

all_weaker : (P Q : ℕ → Type 0) → ((k : ℕ) → P k → Q k) → (ks : List ℕ) → AllByRecursion P ks → AllByRecursion Q ks
all_weaker P Q weaker [] all = tt
all_weaker P Q weaker (k ∷ ks) all = (weaker k all.0, all_weaker P Q weaker ks all.1)

or_true : (a : Bool) → (a || true) ≡ true
or_true true = refl
or_true false = refl

later : (test : ℕ → Item → Bool) (x : Item) (T : List Item) (k : ℕ) → list_any (test k) T ≡ true → list_any (test k) (x ∷ T) ≡ true
later test x T k is = rw is (or_true (test k x))

here : (test : ℕ → Item → Bool) (x : Item) (T : List Item) (k : ℕ) → test k x ≡ true → list_any (test k) (x ∷ T) ≡ true
here test x T k is = rw is refl

all_append : (P : ℕ → Type 0) (ks more : List ℕ) → AllByRecursion P ks → AllByRecursion P more → AllByRecursion P (ks ++ more)
all_append P [] more all rest = rest
all_append P (k ∷ ks) more all rest = (all.0, all_append P ks more all.1 rest)

numbered : (test : ℕ → Item → Bool) (number : Item → List ℕ) → ((x : Item) → AllByRecursion (λ k. test k x ≡ true) (number x)) →
    (T : List Item) → AllByRecursion (λ k. list_any (test k) T ≡ true) (flat_map number T)
numbered test number each [] = tt
numbered test number each (x ∷ T) =
    rw (flat_map-cons number x T)
    (all_append (λ k. list_any (test k) (x ∷ T) ≡ true) (number x) (flat_map number T)
    (all_weaker (λ k. test k x ≡ true) (λ k. list_any (test k) (x ∷ T) ≡ true) (here test x T) (number x) (each x))
    (all_weaker (λ k. list_any (test k) T ≡ true) (λ k. list_any (test k) (x ∷ T) ≡ true) (later test x T) (flat_map number T) (numbered test number each T)))

start_numbers : (x : Item) → AllByRecursion (λ k. is_start k x ≡ true) (start_number x)
start_numbers (Out (Start k c j hop launch)) = (eq-eqb k k refl, tt)
start_numbers _ = tt

started_numbers : (x : Item) → AllByRecursion (λ k. is_started k x ≡ true) (started_number x)
started_numbers (In (Started k)) = (eq-eqb k k refl, tt)
started_numbers _ = tt

-- ---- the three kinds of events after the list

both_true : (a b : Bool) → a ≡ true → b ≡ true → (a && b) ≡ true
both_true a b is also = rw (is, also) refl

pub start_fits : (T : List Item) → OfSome (λ k. is_start_open T k ≡ true) (least (open_starts T))
start_fits T =
    fold_of (λ k. is_start_open T k ≡ true) None (open_starts T) tt
    (all_weaker (λ k. (start_stands T k ≡ true) × (not (start_answered T k) ≡ true)) (λ k. is_start_open T k ≡ true)
    (λ k p. both_true (start_stands T k) (not (start_answered T k)) p.0 p.1) (open_starts T)
    (filter_of (λ k. start_stands T k ≡ true) (λ k. not (start_answered T k)) (flat_map start_number T)
    (numbered is_start start_number start_numbers T)))

pub exit_fits : (T : List Item) → OfSome (λ k. (started T k && not (exited T k)) ≡ true) (least (running T))
exit_fits T =
    fold_of (λ k. (started T k && not (exited T k)) ≡ true) None (running T) tt
    (all_weaker (λ k. (started T k ≡ true) × (not (exited T k) ≡ true)) (λ k. (started T k && not (exited T k)) ≡ true)
    (λ k p. both_true (started T k) (not (exited T k)) p.0 p.1) (running T)
    (filter_of (λ k. started T k ≡ true) (λ k. not (exited T k)) (flat_map started_number T)
    (numbered is_started started_number started_numbers T)))

either_fits : (limit : ℕ) (T : List Item) (open_start run : Option ℕ) → OfSome (λ k. is_start_open T k ≡ true) open_start →
    OfSome (λ k. (started T k && not (exited T k)) ≡ true) run → fits limit T (started_or_exited open_start run) ≡ true
either_fits limit T (Some k) run is also = is
either_fits limit T None (Some k) none is = is
either_fits limit T None None none also = refl

stop_fits : (limit : ℕ) (T : List Item) (event : Event) (b : Bool) → not (stopped T) ≡ b → fits limit T event ≡ true →
    fits limit T (if b then Stop else event) ≡ true
stop_fits limit T event true is also = is
stop_fits limit T event false is also = also

pub after_list_fits : (limit : ℕ) (T : List Item) → fits limit T (after_list T) ≡ true
after_list_fits limit T =
    stop_fits limit T (started_or_exited (least (open_starts T)) (least (running T))) (not (stopped T)) refl
    (either_fits limit T (least (open_starts T)) (least (running T)) (start_fits T) (exit_fits T))

-- ---- the next event

taken : (limit : ℕ) (T : List Item) (event : Event) (more : Option Event) (other : Event) (b : Bool) → fits limit T event ≡ b →
    fits limit T (unwrap_or more other) ≡ true → fits limit T (unwrap_or (if b then Some event else more) other) ≡ true
taken limit T event more other true is also = is
taken limit T event more other false is also = also

first_fits : (limit : ℕ) (T : List Item) (events : List Event) (other : Event) → fits limit T other ≡ true →
    fits limit T (unwrap_or (first_listed false limit T events) other) ≡ true
first_fits limit T [] other is = is
first_fits limit T (event ∷ events) other is =
    taken limit T event (first_listed false limit T events) other (fits limit T event) refl (first_fits limit T events other is)

-- an outside that isn't wild hands up what fits
pub next_event_fits : (limit : ℕ) (T : List Item) (events : List Event) → fits limit T (next_event false limit T events) ≡ true
next_event_fits limit T events = first_fits limit T events (after_list T) (after_list_fits limit T)

-- ---- what an outside tells after one more event

Some-injective : {A : Type 0} (a b : A) (o : Option A) → o ≡ Some a → o ≡ Some b → a ≡ b
Some-injective a b o p q = cc

pub hears_next : (limit : ℕ) (wild old_tells new_tells has_room : Bool) (items now_items : List Item) (events : List Event) (told given : Event) →
    told ≡ given → given ≡ next_event wild limit items events → new_tells ≡ (old_tells && has_room) →
    (new_tells ≡ true → now_items ≡ items ++ In told ∷ []) →
    Hears limit (if old_tells && not wild then Some items else None) given (if new_tells && not wild then Some now_items else None)
hears_next limit true old_tells new_tells has_room items now_items events told given same is tells kept now says = absurd (none (new_tells) says)
  where
    none : (b : Bool) → (if b && false then Some now_items else None) ≡ Some now → ⊥
    none true e = cc
    none false e = cc
hears_next limit false true true has_room items now_items events told given same is tells kept now says =
    let e : now_items ≡ now = Some-injective _ _ _ refl says in
    record {
      was = items;
      told = refl;
      grew = sym e ∙ (kept refl ∙ ap (λ event. items ++ In event ∷ []) same);
      fits_then = rw is (next_event_fits limit items events);
    }
hears_next limit false true false has_room items now_items events told given same is tells kept now says = absurd (cc)
hears_next limit false false true has_room items now_items events told given same is tells kept now says = absurd (cc)
hears_next limit false false false has_room items now_items events told given same is tells kept now says = absurd (cc)
