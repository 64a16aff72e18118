-- The opening handshake of a WebSocket as its server judges it (RFC 6455 4.2.1 and 4.2.2).
use Rattle.std.specs.Prelude.{ℕ, Bool, true, false, ◌&&◌, not, ◌==◌, List, [], ◌∷◌, ◌++◌, length, Option, Some, None, option_map, unwrap_or, Result, Ok, Err, if◌then◌else◌, codes}
use Rattle.std.specs.List.{list_any}
use Rattle.std.specs.Str.{bytes_eq, str_eq_ignore_ascii_case}
use Rattle.httparse.specs.Grammar.{trim_ows}
use Rattle.sha1.specs.Sha1.{sha1}
use Rattle.base64.specs.declared.decode.DecodeError.{DecodeError}
use Rattle.base64.specs.Engines.{standard}
use Rattle.base64.specs.GeneralPurpose.{decode_of, encode_of}
use Rattle.host_base.specs.declared.cause.Cause.{Cause}
use Rattle.host_base.specs.declared.cause.Cause.TheVariants.{BadHandshake, OriginRefused, UpgradeNeeded}
use Rattle.host_base.specs.declared.fields.Field.{Field}
use Rattle.host_base.specs.declared.request.Framing.{Framing}
use Rattle.host_base.specs.declared.request.Framing.TheVariants.{Empty, Length, Chunked}
use Rattle.host_base.specs.declared.request.Request.{Request}
use Rattle.host_base.specs.declared.request.Version.{Version}
use Rattle.host_base.specs.declared.request.Version.TheVariants.{V10, V11}
use Rattle.host_base.specs.FieldLists.{field_words, values_named}

-- the value, where there is exactly one
abbrev pub only : List (List ℕ) → Option (List ℕ)
only (value ∷ []) = Some value
only _ = None

-- there is a value, and it passes
abbrev pub passes : (List ℕ → Bool) → Option (List ℕ) → Bool
passes p None = false
passes p (Some value) = p value

abbrev pub is_1_1 : Version → Bool
is_1_1 V10 = false
is_1_1 V11 = true

-- the list of a field has the word, without regard to ASCII case
abbrev pub lists : List Field → List ℕ → List ℕ → Bool
lists fields name word = list_any (str_eq_ignore_ascii_case word) (field_words name fields)

-- a GET of HTTP/1.1 that asks to upgrade to a WebSocket (RFC 6455 4.2.1, 1 to 4)
abbrev pub asks_websocket : Request → Bool
asks_websocket request =
    bytes_eq request.method (codes "GET") && is_1_1 request.version
    && lists request.fields (codes "Upgrade") (codes "websocket")
    && lists request.fields (codes "Connection") (codes "Upgrade")

-- the version is 13 (RFC 6455 4.2.1, 6)
abbrev pub asks_version_13 : Request → Bool
asks_version_13 request = passes (bytes_eq (codes "13")) (only (values_named (codes "Sec-WebSocket-Version") request.fields))

-- so many bytes, and no error
abbrev pub gives_bytes : ℕ → Result (List ℕ) DecodeError → Bool
gives_bytes count (Ok bytes) = length bytes == count
gives_bytes count (Err e) = false

-- a text that decodes to 16 bytes (RFC 6455 4.2.1, 5)
unfoldable pub is_key : List ℕ → Bool
is_key text = gives_bytes 16 (decode_of standard text)

-- the text of the key, where there is exactly one
abbrev pub key_of : Request → Option (List ℕ)
key_of request = option_map trim_ows (only (values_named (codes "Sec-WebSocket-Key") request.fields))

-- no byte follows the head
abbrev pub is_bodyless : Framing → Bool
is_bodyless Empty = true
is_bodyless (Length n) = n == 0
is_bodyless Chunked = false

-- one key that is one, and no body
abbrev pub brings_key : Request → Bool
brings_key request = passes is_key (key_of request) && is_bodyless request.framing

-- the origin is one of those that are taken, byte for byte; any is where there is no list (RFC 6455 4.2.2, 4)
abbrev pub is_origin_taken : Option (List (List ℕ)) → Request → Bool
is_origin_taken None request = true
is_origin_taken (Some origins) request =
    passes (λ value. list_any (bytes_eq value) origins) (only (values_named (codes "Origin") request.fields))

-- what the server adds to the key (RFC 6455 1.3)
abbrev pub protocol_id : List ℕ
protocol_id = codes "258EAFA5-E914-47DA-95CA-C5AB0DC85B11"

-- the value of Sec-WebSocket-Accept for a key (RFC 6455 4.2.2, 5)
unfoldable pub accept_value : List ℕ → List ℕ
accept_value key = encode_of standard (sha1 (key ++ protocol_id))

-- The accept value for a request at a script that takes these origins, or the cause of the first check that fails.
unfoldable pub handshake : Request → Option (List (List ℕ)) → Result (List ℕ) Cause
handshake request origins =
    if not (asks_websocket request) then Err UpgradeNeeded
    else if not (asks_version_13 request) then Err UpgradeNeeded
    else if not (brings_key request) then Err BadHandshake
    else if not (is_origin_taken origins request) then Err OriginRefused
    else Ok (accept_value (unwrap_or (key_of request) []))

-- the head of the reply that accepts (RFC 6455 4.2.2, 5)
abbrev pub accept_text : List ℕ → List ℕ
accept_text value =
    codes "HTTP/1.1 101 Switching Protocols\r\nUpgrade: websocket\r\nConnection: Upgrade\r\nSec-WebSocket-Accept: "
    ++ value ++ codes "\r\n\r\n"
