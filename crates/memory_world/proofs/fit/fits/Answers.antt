-- A text of a WebSocket fits where its client was asked.
use Rattle.memory_world.proofs.fit.fits.Goals as goal

pub returns-in-WsText : goal.returns-in-WsText
returns-in-WsText c = rw c.in-WsText.is c.is_asked_upgraded.ensures
