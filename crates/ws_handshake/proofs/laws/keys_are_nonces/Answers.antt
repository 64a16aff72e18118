use Rattle.ws_handshake.proofs.OrderLaws as laws
use Rattle.ws_handshake.proofs.laws.keys_are_nonces.Goals as goal

pub returns : goal.returns
returns c = laws.keys_are_nonces
