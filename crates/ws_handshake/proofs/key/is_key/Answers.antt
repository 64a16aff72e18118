-- What is written into 18 bytes as 16 is what decodes to 16 bytes.
use Rattle.ws_handshake.proofs.KeyLemmas.{written-is_key}
use Rattle.ws_handshake.proofs.key.is_key.Goals as goal

pub returns-in-Ok : goal.returns-in-Ok
returns-in-Ok c = written-is_key c.args.text.now _ c.in-Ok.ensures.value

pub returns-in-Err : goal.returns-in-Err
returns-in-Err c = written-is_key c.args.text.now _ c.in-Err.ensures.value
