-- What holds of each value of a connection, and of each list that it stands for.
use Rattle.std.proofs.Common.{◌≤◌, ◌<◌, ◌^◌, refl, sym, subst, arith}
use Rattle.host_base.specs.LimitRanges.{AreInRange}
use Rattle.host_base.specs.declared.limits.Limits.{Limits}
use Rattle.host_base.specs.declared.site.Site.{Site}
use Rattle.http_conn.specs.Kept.{site_of}
use Rattle.good_step_laws.specs.Http.Laws.{ConnsBegin, ConnsKeepLaws}
use Rattle.good_step_laws.proofs.Http.AwayLaws.{full}
use Rattle.good_step_laws.proofs.Http.BeginLaws.{begins}
use Rattle.good_step_laws.proofs.Http.FitLaws.{fits_is}
use Rattle.good_step_laws.proofs.Http.GoneLaws.{idle}
use Rattle.good_step_laws.proofs.Http.KidLaws.{unsettled_is_last}
use Rattle.good_step_laws.proofs.Http.LateLaws.{late}
use Rattle.good_step_laws.proofs.Http.OwnLaws.{last_child_started}
use Rattle.good_step_laws.proofs.Http.SettledLaws.{unsettled_is}

-- ---- all laws

pub conns_keep_laws : ConnsKeepLaws
conns_keep_laws law = record {
  unsettled_is_last = unsettled_is_last;
  needs_is = λ conn. refl;
  site_is = λ site conn L t. t.site_is;
  good = λ site conn L t. t.good;
  unsettled = unsettled_is;
  last_child_started = last_child_started;
  shut_is = λ site conn L t. t.rest.flags.shut;
  fits_is = fits_is;
  late = late law;
  idle = idle law;
  full = full law;
}

pub conns_begin : ConnsBegin
conns_begin law conn site L is served new ticks =
    let two : 2 ≤ (site_of conn).limits.head = subst (λ (s : Site). 2 ≤ s.limits.head) (sym is) (two_of site.limits served.limits) in
    let small : (site_of conn).limits.output < 2 ^ 64 = subst (λ (s : Site). s.limits.output < 2 ^ 64) (sym is) (small_of site.limits served.limits) in
    begins conn (new (two_of site.limits served.limits)) two small law site L is ticks
  where
    two_of : (l : Limits) → AreInRange l → 2 ≤ l.head
    two_of l r = let h = r.head in omega (arith, h)

    small_of : (l : Limits) → AreInRange l → l.output < 2 ^ 64
    small_of l r = let o = r.output in omega (arith, o)
