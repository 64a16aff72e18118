use Rattle.talk_laws.proofs.RedirectLaws.{redirects_ask_no_websocket as the_law}
use Rattle.talk_laws.proofs.laws.redirects_ask_no_websocket.Goals as goal

pub returns : goal.returns
returns c = the_law
