use Rattle.talk_laws.proofs.FormLaws.{child_acts_come_in_form, lost_acts_come_in_form, talk_acts_come_in_form}
use Rattle.talk_laws.proofs.OrderLaws.{greeted_come_on, talk_acts_rise, welcomes_are_ordered}
use Rattle.talk_laws.proofs.laws.acts_come_in_form.Goals as goal

pub returns : goal.returns
returns c = record {
  on = greeted_come_on;
  welcome = welcomes_are_ordered;
  talk = talk_acts_come_in_form;
  child = child_acts_come_in_form;
  lost = lost_acts_come_in_form;
  order = talk_acts_rise;
}
