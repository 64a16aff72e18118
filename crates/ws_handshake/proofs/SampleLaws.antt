-- The example of RFC 6455 1.3, by computing.
use Rattle.std.proofs.Common.{refl}
use Rattle.base64.proofs.OnLiterals.{base64_on_literals}
use Rattle.sha1.specs.Sha1.{first_words, schedule, rounds, compress, hash_after, digest_bytes, sha1}
use Rattle.ws_handshake.specs.Handshake.{accept_value}
use Rattle.ws_handshake.specs.HandshakeLaws.{SampleIsAnswered}

pub sample : SampleIsAnswered
unfolding base64_on_literals first_words schedule rounds compress hash_after digest_bytes sha1 accept_value
sample = refl
