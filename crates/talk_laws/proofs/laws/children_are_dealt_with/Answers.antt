use Rattle.talk_laws.proofs.DealLaws.{conn_acts_deal, talk_acts_deal}
use Rattle.talk_laws.proofs.ServeLaws.{child_acts_deal, losses_deal, lost_acts_deal}
use Rattle.talk_laws.proofs.StepLaws.{lost_events_begin, talk_events_begin, talk_starts_deal}
use Rattle.talk_laws.proofs.laws.children_are_dealt_with.Goals as goal

pub returns : goal.returns
returns c = record {
  events = talk_events_begin;
  lost_events = lost_events_begin;
  starts = talk_starts_deal;
  conn = conn_acts_deal;
  talk = talk_acts_deal;
  child = child_acts_deal;
  losses = losses_deal;
  lost = lost_acts_deal;
}
