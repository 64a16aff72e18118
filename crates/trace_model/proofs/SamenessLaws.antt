-- The tests of sameness tell things apart.
use Rattle.std.proofs.Common.{◌≡◌, ℕ, zero, suc, Bool, true, List, [], ◌∷◌, refl, sym, ◌∙◌, ap}
use Rattle.std.specs.Prelude.{◌&&◌, ◌==◌, bytes_eq}
use Rattle.std.proofs.lemmas.Bool.{and_parts, and_from, eqb-true, eq-eqb, false≢true}
use Rattle.std.proofs.lemmas.Slice.Eq.{bytes_eq-Decides}
use Rattle.host_base.specs.declared.cause.Cause.{Cause}
use Rattle.host_base.specs.declared.cause.Cause.TheVariants.{BadHead, Incomplete, BadTarget, BadHost, BadFraming, BadChunk, BadPath, BadHandshake, BadScgi, BadParams, BadRecord, OriginRefused, NoScript, IdleTime, BodyTooLong, TargetTooLong, BadExpect, UnknownHost, UpgradeNeeded, HeadTooLong, TooManyFields, RedirectLoop, NotServed, CodingUnknown, StartFailed, OutputBroken, OutputTooLarge, NoOutput, HeaderIncomplete, HeaderTooLarge, HeaderLine, HeaderRepeated, BadStatus, BadLocation, NoneOfThree, RunTime, Full}
use Rattle.host_base.specs.declared.launch.Launch.{Launch}
use Rattle.host_base.specs.declared.launch.Pair.{Pair}
use Rattle.host_trace.specs.declared.items.Why.{Why}
use Rattle.host_trace.specs.declared.items.Why.TheVariants.{Done, Gone, Cut, Idle, Full as FullHouse, Stopped, NoMemory}
use Rattle.trace_model.specs.ModelLaws.{TestsTellApart}
use Rattle.trace_model.specs.Sameness.{place_of_cause, seen_of_cause, is_same_cause, is_same_why, are_same, is_same_pair, is_same_launch}

-- the causes in their places
abbrev causes : List Cause
causes = BadHead ∷ Incomplete ∷ BadTarget ∷ BadHost ∷ BadFraming ∷ BadChunk ∷ BadPath ∷ BadHandshake ∷ BadScgi ∷ BadParams ∷ BadRecord ∷ OriginRefused ∷ NoScript ∷ IdleTime ∷ BodyTooLong ∷ TargetTooLong ∷ BadExpect ∷ UnknownHost ∷ UpgradeNeeded ∷ HeadTooLong ∷ TooManyFields ∷ RedirectLoop ∷ NotServed ∷ CodingUnknown ∷ StartFailed ∷ OutputBroken ∷ OutputTooLarge ∷ NoOutput ∷ HeaderIncomplete ∷ HeaderTooLarge ∷ HeaderLine ∷ HeaderRepeated ∷ BadStatus ∷ BadLocation ∷ NoneOfThree ∷ RunTime ∷ []

abbrev cause_in : List Cause → ℕ → ℕ → Cause
cause_in [] seen place = Full seen
cause_in (cause ∷ more) seen zero = cause
cause_in (cause ∷ more) seen (suc place) = cause_in more seen place

found_again : (cause : Cause) → cause_in causes (seen_of_cause cause) (place_of_cause cause) ≡ cause
found_again BadHead = refl
found_again Incomplete = refl
found_again BadTarget = refl
found_again BadHost = refl
found_again BadFraming = refl
found_again BadChunk = refl
found_again BadPath = refl
found_again BadHandshake = refl
found_again BadScgi = refl
found_again BadParams = refl
found_again BadRecord = refl
found_again OriginRefused = refl
found_again NoScript = refl
found_again IdleTime = refl
found_again BodyTooLong = refl
found_again TargetTooLong = refl
found_again BadExpect = refl
found_again UnknownHost = refl
found_again UpgradeNeeded = refl
found_again HeadTooLong = refl
found_again TooManyFields = refl
found_again RedirectLoop = refl
found_again NotServed = refl
found_again CodingUnknown = refl
found_again StartFailed = refl
found_again OutputBroken = refl
found_again OutputTooLarge = refl
found_again NoOutput = refl
found_again HeaderIncomplete = refl
found_again HeaderTooLarge = refl
found_again HeaderLine = refl
found_again HeaderRepeated = refl
found_again BadStatus = refl
found_again BadLocation = refl
found_again NoneOfThree = refl
found_again RunTime = refl
found_again (Full seen) = refl

pub same_cause : (a b : Cause) → is_same_cause a b ≡ true → a ≡ b
same_cause a b is =
    let parts = and_parts (place_of_cause a == place_of_cause b) (seen_of_cause a == seen_of_cause b) is in
    sym (found_again a)
    ∙ (ap (cause_in causes (seen_of_cause a)) (eqb-true (place_of_cause a) (place_of_cause b) parts.0)
    ∙ (ap (λ n. cause_in causes n (place_of_cause b)) (eqb-true (seen_of_cause a) (seen_of_cause b) parts.1) ∙ found_again b))

pub is_same_cause-refl : (a : Cause) → is_same_cause a a ≡ true
is_same_cause-refl a = and_from _ _ (eq-eqb (place_of_cause a) (place_of_cause a) refl) (eq-eqb (seen_of_cause a) (seen_of_cause a) refl)

pub is_same_why-refl : (a : Why) → is_same_why a a ≡ true
is_same_why-refl Done = refl
is_same_why-refl Gone = refl
is_same_why-refl (Cut cause) = is_same_cause-refl cause
is_same_why-refl Idle = refl
is_same_why-refl FullHouse = refl
is_same_why-refl Stopped = refl
is_same_why-refl NoMemory = refl

pub same_why : (a b : Why) → is_same_why a b ≡ true → a ≡ b
same_why Done Done is = refl
same_why Done Gone is = absurd (false≢true is)
same_why Done (Cut y) is = absurd (false≢true is)
same_why Done Idle is = absurd (false≢true is)
same_why Done FullHouse is = absurd (false≢true is)
same_why Done Stopped is = absurd (false≢true is)
same_why Done NoMemory is = absurd (false≢true is)
same_why Gone Done is = absurd (false≢true is)
same_why Gone Gone is = refl
same_why Gone (Cut y) is = absurd (false≢true is)
same_why Gone Idle is = absurd (false≢true is)
same_why Gone FullHouse is = absurd (false≢true is)
same_why Gone Stopped is = absurd (false≢true is)
same_why Gone NoMemory is = absurd (false≢true is)
same_why (Cut x) Done is = absurd (false≢true is)
same_why (Cut x) Gone is = absurd (false≢true is)
same_why (Cut x) (Cut y) is = ap Cut (same_cause x y is)
same_why (Cut x) Idle is = absurd (false≢true is)
same_why (Cut x) FullHouse is = absurd (false≢true is)
same_why (Cut x) Stopped is = absurd (false≢true is)
same_why (Cut x) NoMemory is = absurd (false≢true is)
same_why Idle Done is = absurd (false≢true is)
same_why Idle Gone is = absurd (false≢true is)
same_why Idle (Cut y) is = absurd (false≢true is)
same_why Idle Idle is = refl
same_why Idle FullHouse is = absurd (false≢true is)
same_why Idle Stopped is = absurd (false≢true is)
same_why Idle NoMemory is = absurd (false≢true is)
same_why FullHouse Done is = absurd (false≢true is)
same_why FullHouse Gone is = absurd (false≢true is)
same_why FullHouse (Cut y) is = absurd (false≢true is)
same_why FullHouse Idle is = absurd (false≢true is)
same_why FullHouse FullHouse is = refl
same_why FullHouse Stopped is = absurd (false≢true is)
same_why FullHouse NoMemory is = absurd (false≢true is)
same_why Stopped Done is = absurd (false≢true is)
same_why Stopped Gone is = absurd (false≢true is)
same_why Stopped (Cut y) is = absurd (false≢true is)
same_why Stopped Idle is = absurd (false≢true is)
same_why Stopped FullHouse is = absurd (false≢true is)
same_why Stopped Stopped is = refl
same_why Stopped NoMemory is = absurd (false≢true is)
same_why NoMemory Done is = absurd (false≢true is)
same_why NoMemory Gone is = absurd (false≢true is)
same_why NoMemory (Cut y) is = absurd (false≢true is)
same_why NoMemory Idle is = absurd (false≢true is)
same_why NoMemory FullHouse is = absurd (false≢true is)
same_why NoMemory Stopped is = absurd (false≢true is)
same_why NoMemory NoMemory is = refl

-- ---- lists

pub all_same : {X : Type 0} (test : X → X → Bool) → ((x y : X) → test x y ≡ true → x ≡ y) → (xs ys : List X) → are_same test xs ys ≡ true → xs ≡ ys
all_same test same [] [] is = refl
all_same test same [] (y ∷ ys) is = absurd (false≢true is)
all_same test same (x ∷ xs) [] is = absurd (false≢true is)
all_same test same (x ∷ xs) (y ∷ ys) is =
    let parts = and_parts (test x y) (are_same test xs ys) is in
    (λ i. same x y parts.0 i ∷ all_same test same xs ys parts.1 i)

pub are_same-refl : {X : Type 0} (test : X → X → Bool) → ((x : X) → test x x ≡ true) → (xs : List X) → are_same test xs xs ≡ true
are_same-refl test same [] = refl
are_same-refl test same (x ∷ xs) = and_from _ _ (same x) (are_same-refl test same xs)

-- ---- launches

pub same_bytes : (xs ys : List ℕ) → bytes_eq xs ys ≡ true → xs ≡ ys
same_bytes xs ys is = (bytes_eq-Decides xs ys).0 is

pub bytes_eq-refl : (xs : List ℕ) → bytes_eq xs xs ≡ true
bytes_eq-refl xs = (bytes_eq-Decides xs xs).1 refl

same_pair : (a b : Pair) → is_same_pair a b ≡ true → a ≡ b
same_pair a b is =
    let parts = and_parts (bytes_eq a.name b.name) (bytes_eq a.value b.value) is in
    (λ i. record { name = same_bytes a.name b.name parts.0 i; value = same_bytes a.value b.value parts.1 i })

pub same_launch : (a b : Launch) → is_same_launch a b ≡ true → a ≡ b
same_launch a b is =
    let one = and_parts (bytes_eq a.program b.program && bytes_eq a.dir b.dir && are_same bytes_eq a.args b.args) (are_same is_same_pair a.env b.env) is in
    let two = and_parts (bytes_eq a.program b.program && bytes_eq a.dir b.dir) (are_same bytes_eq a.args b.args) one.0 in
    let three = and_parts (bytes_eq a.program b.program) (bytes_eq a.dir b.dir) two.0 in
    (λ i. record {
      program = same_bytes a.program b.program three.0 i;
      dir = same_bytes a.dir b.dir three.1 i;
      args = all_same bytes_eq same_bytes a.args b.args two.1 i;
      env = all_same is_same_pair same_pair a.env b.env one.1 i;
    })

pub is_same_launch-refl : (a : Launch) → is_same_launch a a ≡ true
is_same_launch-refl a =
    and_from _ _ (and_from _ _ (and_from _ _ (bytes_eq-refl a.program) (bytes_eq-refl a.dir)) (are_same-refl bytes_eq bytes_eq-refl a.args))
    (are_same-refl is_same_pair (λ pair. and_from _ _ (bytes_eq-refl pair.name) (bytes_eq-refl pair.value)) a.env)

pub tests_tell_apart : TestsTellApart
tests_tell_apart = record { causes = same_cause; whys = same_why; launches = same_launch }
