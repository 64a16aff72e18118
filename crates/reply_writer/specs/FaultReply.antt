-- The host's own replies, one for each cause.
use Rattle.std.specs.Prelude.{ℕ, List, [], ◌∷◌, ◌++◌, codes, decimal}
use Rattle.host_base.specs.declared.cause.Cause.{Cause}
use Rattle.host_base.specs.declared.cause.Cause.TheVariants.{Full, UpgradeNeeded}
use Rattle.host_base.specs.declared.fields.Field.{Field}
use Rattle.host_base.specs.declared.reply.Reply.{Reply}
use Rattle.host_base.specs.CauseText.{status_of, text_of}
use Rattle.reply_writer.specs.Phrases.{phrase_of}
use Rattle.reply_writer.specs.Spelling.{named_field}

-- what a client that must upgrade is told (RFC 9110 7.8 and 15.5.22; RFC 6455 4.4)
abbrev pub upgrade_fields : Cause → List Field
upgrade_fields UpgradeNeeded =
    named_field (codes "Upgrade") (codes "websocket")
    ∷ named_field (codes "Connection") (codes "Upgrade")
    ∷ named_field (codes "Sec-WebSocket-Version") (codes "13")
    ∷ []
upgrade_fields _ = []

-- the number that the text of the cause ends with, if one does
abbrev pub text_number : Cause → List ℕ
text_number (Full seen) = decimal seen
text_number _ = []

abbrev pub fault_reply_of : Cause → Reply
fault_reply_of cause = record {
  status = status_of cause;
  phrase = phrase_of (status_of cause);
  fields = upgrade_fields cause ++ named_field (codes "Content-Type") (codes "text/plain") ∷ [];
  body = text_of cause ++ text_number cause ++ codes "\n";
}

-- the answer for a cause as the output of a script (RFC 3875 6), for a client that is itself a gateway
abbrev pub fault_text : Cause → List ℕ
fault_text cause =
    codes "Status: " ++ decimal (status_of cause) ++ codes " " ++ phrase_of (status_of cause)
    ++ codes "\r\nContent-Type: text/plain\r\n\r\n" ++ text_of cause ++ text_number cause ++ codes "\n"
