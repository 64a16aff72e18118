use Rattle.talk_laws.proofs.AcceptLaws.{accepted_are_welcomed}
use Rattle.talk_laws.proofs.GreetedLaws.{items_leave_greeted}
use Rattle.talk_laws.proofs.OpeningLaws.{accepts_are_written, openings_start_right, upgrades_are_given}
use Rattle.talk_laws.proofs.WelcomeLaws.{handshakes_are_welcome as the_law}
use Rattle.talk_laws.proofs.laws.handshakes_are_welcome.Goals as goal

pub returns : goal.returns
returns c = record {
  welcome = the_law;
  welcomed = accepted_are_welcomed;
  left = items_leave_greeted;
  accept = accepts_are_written;
  upgrade = upgrades_are_given;
  start = openings_start_right;
}
