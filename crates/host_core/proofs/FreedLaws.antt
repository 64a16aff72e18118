-- A slot given back, and what the clock showed.
use Rattle.std.proofs.Common.{◌≡◌, ℕ, zero, suc, ◌<◌, Bool, true, false, List, [], ◌∷◌, ◌++◌, map, Some, refl, sym, ◌∙◌, ap, append-nil, arith, length, get_or, set}
use Rattle.std.specs.Prelude.{filter}
use Rattle.std.specs.List.{All as Each, AllByRecursion, flat_map, remove}
use Rattle.std.proofs.lemmas.Bool.{cond-true, cond-false, false≢true}
use Rattle.std.proofs.lemmas.List.Elements.{recursion_from_All}
use Rattle.std.proofs.lemmas.Grind.{flat_map-append}
use Rattle.host_trace.specs.declared.items.Event.{Event}
use Rattle.host_trace.specs.declared.items.Event.TheVariants.{Tick}
use Rattle.host_trace.specs.declared.items.Act.{Act}
use Rattle.host_trace.specs.declared.items.Item.{Item}
use Rattle.host_trace.specs.declared.items.Item.TheVariants.{In, Out}
use Rattle.host_trace.specs.Kinds.{is_tick, tick_secs}
use Rattle.host_trace.specs.First.{last_of}
use Rattle.host_trace.specs.Projections.{last_secs}
use Rattle.host_trace.specs.Trace.{after_step}
use Rattle.many_conns.specs.Kind.{Kind}
use Rattle.host_core.specs.Stands.{freed_conns}

-- ---- the clock

secs_acts : (acts : List Act) → flat_map tick_secs (map Out acts) ≡ []
secs_acts [] = refl
secs_acts (act ∷ acts) = secs_acts acts

no_secs : (event : Event) → is_tick (In event) ≡ false → tick_secs (In event) ≡ []
no_secs (Tick secs) e = absurd (false≢true (sym e))
no_secs _ e = refl

pub clock_more : (T : List Item) (event : Event) → is_tick (In event) ≡ false → last_secs (T ++ In event ∷ []) ≡ last_secs T
clock_more T event none =
    ap last_of (flat_map-append tick_secs T (In event ∷ []) ∙ (ap (λ l. flat_map tick_secs T ++ (l ++ [])) (no_secs event none) ∙ append-nil (flat_map tick_secs T)))

pub clock_acts : (T : List Item) (event : Event) (acts : List Act) → last_secs (after_step T event acts) ≡ last_secs (T ++ In event ∷ [])
clock_acts T event acts =
    ap last_of
    (flat_map-append tick_secs T (In event ∷ map Out acts)
    ∙ (ap (λ l. flat_map tick_secs T ++ (tick_secs (In event) ++ l)) (secs_acts acts) ∙ sym (flat_map-append tick_secs T (In event ∷ []))))

last_more : (l : List ℕ) (n : ℕ) → last_of (l ++ n ∷ []) ≡ Some n
last_more [] n = refl
last_more (m ∷ l) n = by l (last_more l n)
  where
    by : (l : List ℕ) → last_of (l ++ n ∷ []) ≡ Some n → last_of (m ∷ (l ++ n ∷ [])) ≡ Some n
    by [] e = e
    by (k ∷ l) e = e

pub clock_tick : (T : List Item) (secs : ℕ) → last_secs (T ++ In (Tick secs) ∷ []) ≡ Some secs
clock_tick T secs = ap last_of (flat_map-append tick_secs T (In (Tick secs) ∷ [])) ∙ last_more (flat_map tick_secs T) secs

module _ {C : Type 0} (K : Kind C) where
  -- ---- a slot

  all_pass : (xs : List C) → AllByRecursion (λ x. K.needs x ≡ true) xs → filter K.needs xs ≡ xs
  all_pass [] a = refl
  all_pass (x ∷ xs) a = cond-true (K.needs x) (x ∷ filter K.needs xs) (filter K.needs xs) a.0 ∙ ap (λ l. x ∷ l) (all_pass xs a.1)

  set_pass : (xs : List C) (i : ℕ) (now : C) → AllByRecursion (λ x. K.needs x ≡ true) xs → K.needs now ≡ true → AllByRecursion (λ x. K.needs x ≡ true) (set xs i now)
  set_pass [] i now a h = tt
  set_pass (x ∷ xs) zero now a h = (h, a.1)
  set_pass (x ∷ xs) (suc i) now a h = (a.0, set_pass xs i now a.1 h)

  gone_pass : (xs : List C) (i : ℕ) (now : C) → AllByRecursion (λ x. K.needs x ≡ true) xs → i < length xs → K.needs now ≡ false → remove (set xs i now) i ≡ filter K.needs (set xs i now)
  gone_pass [] i now a lt h = absurd (omega (arith, lt))
  gone_pass (x ∷ xs) zero now a lt h = sym (cond-false (K.needs now) (now ∷ filter K.needs xs) (filter K.needs xs) h ∙ all_pass xs a.1)
  gone_pass (x ∷ xs) (suc i) now a lt h =
      ap (λ l. x ∷ l) (gone_pass xs i now a.1 (omega (arith, lt)) h) ∙ sym (cond-true (K.needs x) (x ∷ filter K.needs (set xs i now)) (filter K.needs (set xs i now)) a.0)

  pub freed_is : (xs : List C) (i : ℕ) (now : C) → Each (λ x. K.needs x ≡ true) xs → i < length xs → freed_conns (K.needs now) (set xs i now) i ≡ filter K.needs (set xs i now)
  freed_is xs i now all lt = by (K.needs now) refl
    where
      each : AllByRecursion (λ x. K.needs x ≡ true) xs
      each = recursion_from_All (λ x. K.needs x ≡ true) xs all

      by : (held : Bool) → held ≡ K.needs now → freed_conns held (set xs i now) i ≡ filter K.needs (set xs i now)
      by true is = sym (all_pass (set xs i now) (set_pass xs i now each (sym is)))
      by false is = gone_pass xs i now each lt (sym is)

  -- those from place i on gave back what they don't need
  abbrev pub freed_from : ℕ → List C → List C
  freed_from zero xs = filter K.needs xs
  freed_from (suc i) [] = []
  freed_from (suc i) (x ∷ xs) = x ∷ freed_from i xs

  pub freed_all : (xs : List C) → freed_from (length xs) xs ≡ xs
  freed_all [] = refl
  freed_all (x ∷ xs) = ap (λ l. x ∷ l) (freed_all xs)

  pub freed_long : (i : ℕ) (xs : List C) → i < length xs → i < length (freed_from (suc i) xs)
  freed_long i [] lt = absurd (omega (arith, lt))
  freed_long zero (x ∷ xs) lt = omega arith
  freed_long (suc i) (x ∷ xs) lt = let rest = freed_long i xs (omega (arith, lt)) in omega (arith, rest)

  pub freed_at : (i : ℕ) (xs : List C) (d : C) → i < length xs → get_or (freed_from (suc i) xs) i d ≡ get_or xs i d
  freed_at i [] d lt = absurd (omega (arith, lt))
  freed_at zero (x ∷ xs) d lt = refl
  freed_at (suc i) (x ∷ xs) d lt = freed_at i xs d (omega (arith, lt))

  first_freed : (held : Bool) (x : C) (xs : List C) → held ≡ K.needs x → freed_conns held (x ∷ filter K.needs xs) 0 ≡ filter K.needs (x ∷ xs)
  first_freed true x xs is = sym (cond-true (K.needs x) (x ∷ filter K.needs xs) (filter K.needs xs) (sym is))
  first_freed false x xs is = sym (cond-false (K.needs x) (x ∷ filter K.needs xs) (filter K.needs xs) (sym is))

  later_freed : (held : Bool) (x : C) (xs : List C) (i : ℕ) → freed_conns held (x ∷ xs) (suc i) ≡ x ∷ freed_conns held xs i
  later_freed true x xs i = refl
  later_freed false x xs i = refl

  pub freed_step : (held : Bool) (i : ℕ) (xs : List C) (d : C) → i < length xs → held ≡ K.needs (get_or xs i d) → freed_conns held (freed_from (suc i) xs) i ≡ freed_from i xs
  freed_step held i [] d lt is = absurd (omega (arith, lt))
  freed_step held zero (x ∷ xs) d lt is = first_freed held x xs is
  freed_step held (suc i) (x ∷ xs) d lt is = later_freed held x (freed_from (suc i) xs) i ∙ ap (λ l. x ∷ l) (freed_step held i xs d (omega (arith, lt)) is)
