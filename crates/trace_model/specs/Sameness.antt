-- Tests of whether two causes, reasons or launches are one.
use Rattle.std.specs.Prelude.{ℕ, Bool, true, false, ◌&&◌, ◌==◌, List, [], ◌∷◌, bytes_eq}
use Rattle.host_base.specs.declared.cause.Cause.{Cause}
use Rattle.host_base.specs.declared.cause.Cause.TheVariants.{BadHead, Incomplete, BadTarget, BadHost, BadFraming, BadChunk, BadPath, BadHandshake, BadScgi, BadParams, BadRecord, OriginRefused, NoScript, IdleTime, BodyTooLong, TargetTooLong, BadExpect, UnknownHost, UpgradeNeeded, HeadTooLong, TooManyFields, RedirectLoop, NotServed, CodingUnknown, StartFailed, OutputBroken, OutputTooLarge, NoOutput, HeaderIncomplete, HeaderTooLarge, HeaderLine, HeaderRepeated, BadStatus, BadLocation, NoneOfThree, RunTime, Full}
use Rattle.host_base.specs.declared.launch.Launch.{Launch}
use Rattle.host_base.specs.declared.launch.Pair.{Pair}
use Rattle.host_trace.specs.declared.items.Why.{Why}
use Rattle.host_trace.specs.declared.items.Why.TheVariants.{Done, Gone, Cut, Idle, Full as FullHouse, Stopped, NoMemory}

-- each cause has a place of its own; those of `Full` go on with the number that was seen
abbrev pub place_of_cause : Cause → ℕ
place_of_cause BadHead = 0
place_of_cause Incomplete = 1
place_of_cause BadTarget = 2
place_of_cause BadHost = 3
place_of_cause BadFraming = 4
place_of_cause BadChunk = 5
place_of_cause BadPath = 6
place_of_cause BadHandshake = 7
place_of_cause BadScgi = 8
place_of_cause BadParams = 9
place_of_cause BadRecord = 10
place_of_cause OriginRefused = 11
place_of_cause NoScript = 12
place_of_cause IdleTime = 13
place_of_cause BodyTooLong = 14
place_of_cause TargetTooLong = 15
place_of_cause BadExpect = 16
place_of_cause UnknownHost = 17
place_of_cause UpgradeNeeded = 18
place_of_cause HeadTooLong = 19
place_of_cause TooManyFields = 20
place_of_cause RedirectLoop = 21
place_of_cause NotServed = 22
place_of_cause CodingUnknown = 23
place_of_cause StartFailed = 24
place_of_cause OutputBroken = 25
place_of_cause OutputTooLarge = 26
place_of_cause NoOutput = 27
place_of_cause HeaderIncomplete = 28
place_of_cause HeaderTooLarge = 29
place_of_cause HeaderLine = 30
place_of_cause HeaderRepeated = 31
place_of_cause BadStatus = 32
place_of_cause BadLocation = 33
place_of_cause NoneOfThree = 34
place_of_cause RunTime = 35
place_of_cause (Full seen) = 36

abbrev pub seen_of_cause : Cause → ℕ
seen_of_cause (Full seen) = seen
seen_of_cause _ = 0

abbrev pub is_same_cause : Cause → Cause → Bool
is_same_cause a b = place_of_cause a == place_of_cause b && seen_of_cause a == seen_of_cause b

abbrev pub is_same_why : Why → Why → Bool
is_same_why Done Done = true
is_same_why Gone Gone = true
is_same_why (Cut a) (Cut b) = is_same_cause a b
is_same_why Idle Idle = true
is_same_why FullHouse FullHouse = true
is_same_why Stopped Stopped = true
is_same_why NoMemory NoMemory = true
is_same_why _ _ = false

-- two lists are one, where the test tells two items apart
abbrev pub are_same : {X : Type 0} → (X → X → Bool) → List X → List X → Bool
are_same test [] [] = true
are_same test [] (y ∷ ys) = false
are_same test (x ∷ xs) [] = false
are_same test (x ∷ xs) (y ∷ ys) = test x y && are_same test xs ys

abbrev pub is_same_pair : Pair → Pair → Bool
is_same_pair a b = bytes_eq a.name b.name && bytes_eq a.value b.value

abbrev pub is_same_launch : Launch → Launch → Bool
is_same_launch a b =
    bytes_eq a.program b.program && bytes_eq a.dir b.dir && are_same bytes_eq a.args b.args && are_same is_same_pair a.env b.env

-- the first begins the second
abbrev pub begins_list : {X : Type 0} → (X → X → Bool) → List X → List X → Bool
begins_list test [] ys = true
begins_list test (x ∷ xs) [] = false
begins_list test (x ∷ xs) (y ∷ ys) = test x y && begins_list test xs ys
