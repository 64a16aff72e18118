-- .. and on a trace with a WebSocket.
use Rattle.std.specs.Prelude.{⊤}
use Rattle.base64.proofs.OnLiterals.{base64_on_literals}
use Rattle.bstr.specs.Utf8.{pieces_from}
use Rattle.sha1.specs.Sha1.{first_words, schedule, rounds, compress, hash_after, digest_bytes, sha1}
use Rattle.trace_rows.proofs.OnLiterals.{on_literals}

unfoldable pub on_talks : ⊤
unfolding on_literals base64_on_literals first_words schedule rounds compress hash_after digest_bytes sha1 pieces_from
on_talks = on_literals
