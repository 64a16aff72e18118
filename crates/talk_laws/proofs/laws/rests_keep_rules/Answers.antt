use Rattle.talk_laws.proofs.RuleLaws.{greeted_go_on, lost_greetings_keep_rules, spoken_keep_http_rules}
use Rattle.talk_laws.proofs.TalkLaws.{losses_keep_talks, rests_keep_talks}
use Rattle.talk_laws.proofs.laws.rests_keep_rules.Goals as goal

pub returns : goal.returns
returns c = record {
  goes_on = greeted_go_on;
  http = spoken_keep_http_rules;
  greetings = lost_greetings_keep_rules;
  talks = rests_keep_talks;
  lost = losses_keep_talks;
}
