-- What holds of each connection that speaks WebSocket, and of each list that it stands for.
use Rattle.std.proofs.Common.{◌≡◌, true, List, sym, subst}
use Rattle.host_base.specs.declared.site.Site.{Site}
use Rattle.host_trace.specs.declared.items.Act.{Act}
use Rattle.host_trace.specs.declared.items.Event.{Event}
use Rattle.own_traces.specs.OwnFits.{fits_own}
use Rattle.talk_conn.specs.declared.conn.TalkConn.{TalkConn}
use Rattle.talk_conn.specs.Step.{Steps}
use Rattle.talk_conn.specs.View.{site_of}
use Rattle.talk_laws.specs.Stands.{StepsAreGood}
use Rattle.good_step_laws.specs.Talk.Laws.{TalksGive, TalksKeepLaws}
use Rattle.good_step_laws.proofs.Talk.IdleLaws.{idle}
use Rattle.good_step_laws.proofs.Talk.KeepLaws.{step_keeps}
use Rattle.good_step_laws.proofs.Talk.LateLaws.{late}
use Rattle.good_step_laws.proofs.Talk.QuietLaws.{holds_next}
use Rattle.good_step_laws.proofs.Talk.SpeakLaws.{unsettled_is_last, fits_last_child, fits_named, is_talk, last_child_started, needs_is, shut_is, unsettled}

pub talks_give : TalksGive
talks_give law old new ev acts is_talk w = record {
  keeps = step_keeps old new ev acts is_talk w;
  stands = λ site L n stamp h fit. holds_next law site old new L ev acts h (subst (λ (s : Site). fits_own s.limits.children L ev ≡ true) (sym h.site_is) fit.fits) w;
}

pub talks_keep_laws : TalksKeepLaws
talks_keep_laws law = record {
  is_talk = is_talk;
  unsettled_is_last = unsettled_is_last;
  needs_is = needs_is;
  unsettled = unsettled;
  last_child_started = last_child_started;
  shut_is = shut_is;
  fits_named = λ site talk L ev h named. fits_named site talk L h ev named;
  fits_last_child = λ site talk L ev h named. fits_last_child site talk L h ev named;
  late = late law;
  idle = idle law;
}
