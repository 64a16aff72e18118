-- What the thread of a start tells, in this order: the mark that was put there for it, and what became of the start.
use Rattle.std.specs.Prelude.{◌≡◌, ◌<◌, List, [], ◌∷◌, length, Option, Some, None}
use Rattle.host_base.specs.declared.launch.Launch.{Launch}
use Rattle.std_spawner.specs.Programs.{launch_of}
use Rattle.std_spawner.specs.declared.news.News.{News}
use Rattle.std_spawner.specs.declared.news.News.TheVariants.{Marked, Born, Unborn}

-- the launch whose mark was put there first
abbrev pub launch_in : List News → Option Launch
launch_in [] = None
launch_in (Marked l ∷ rest) = Some l.value
launch_in (Born s ∷ rest) = None
launch_in (Unborn ∷ rest) = None

-- the mark of this launch is there, and no more
abbrev pub IsMarked : Launch → List News → Type 0
IsMarked launch before = (length before ≡ 1) × (launch_in before ≡ Some launch)

-- .. and maybe more
abbrev pub HasMark : Launch → List News → Type 0
HasMark launch before = (0 < length before) × (launch_in before ≡ Some launch)

-- a program that was started is the launch's whose mark is there
abbrev pub NewsAllow : List News → News → Type 0
NewsAllow before (Marked l) = before ≡ []
NewsAllow before (Born s) = (length before ≡ 1) × ((l : Launch) → launch_in before ≡ Some l → launch_of s.program.value ≡ l)
NewsAllow before Unborn = length before ≡ 1
