-- What was heard of a start.
use Rattle.std.proofs.Common.{◌≡◌, ◌++◌, List, [], ◌∷◌, subst, arith}
use Rattle.std.proofs.lemmas.Grind.{common_steps}
use Rattle.host_base.specs.declared.launch.Launch.{Launch}
use Rattle.std_spawner.specs.declared.news.News.{News}
use Rattle.std_spawner.specs.declared.news.News.TheVariants.{Marked, Born, Unborn}
use Rattle.std_spawner.specs.declared.news.Started.{Started}
use Rattle.std_spawner.specs.Programs.{launch_of}
use Rattle.std_spawner.specs.News.{HasMark, NewsAllow}

pub mark_stays : (before after more : List News) (launch : Launch) → after ≡ before ++ more → HasMark launch before → HasMark launch after
mark_stays [] after more launch e m = absurd (omega arith)
mark_stays (Marked k ∷ rest) after more launch e m = rw e (grind (arith, common_steps), m.1)
mark_stays (Born s ∷ rest) after more launch e m = grind arith
mark_stays (Unborn ∷ rest) after more launch e m = grind arith

pub born_of : (before : List News) (x : News) (s : Started) (launch : Launch) → x ≡ Born s → NewsAllow before x → HasMark launch before → launch_of s.program.value ≡ launch
born_of before x s launch e h m = (subst (λ y. NewsAllow before y) e h).1 launch m.1
