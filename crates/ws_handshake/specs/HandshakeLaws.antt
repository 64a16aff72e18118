-- What the judgement of a handshake means, in the words of RFC 6455.
use Rattle.std.specs.Prelude.{◌≡◌, ◌↔◌, ◌⊎◌, ⊤, ℕ, true, List, [], ◌∷◌, ◌++◌, length, Any, Contains, Option, Some, None, Ok, Err, codes}
use Rattle.std.specs.Str.{str_eq_ignore_ascii_case}
use Rattle.httparse.specs.Grammar.{trim_ows}
use Rattle.sha1.specs.Sha1.{sha1}
use Rattle.base64.specs.Engines.{standard}
use Rattle.base64.specs.GeneralPurpose.{IsBytes, encode_of}
use Rattle.host_base.specs.declared.cause.Cause.TheVariants.{BadHandshake, OriginRefused, UpgradeNeeded}
use Rattle.host_base.specs.declared.request.Framing.TheVariants.{Empty, Length}
use Rattle.host_base.specs.declared.request.Request.{Request}
use Rattle.host_base.specs.declared.request.Version.TheVariants.{V11}
use Rattle.host_base.specs.FieldLists.{field_words, values_named}
use Rattle.ws_handshake.specs.Handshake.{accept_value, handshake, is_key, protocol_id}

-- the text is the base64 of a list of 16
pub record IsEncodedNonce (text : List ℕ) : Type 0 where
  pub nonce : List ℕ
  pub len : length nonce ≡ 16
  pub encoded : text ≡ encode_of standard nonce

-- the base64 of 16 bytes is a key, and nothing else is one (RFC 6455 4.1, 7)
pub record KeysAreNonces : Type 0 where
  pub encoded : (nonce : List ℕ) → IsBytes nonce → length nonce ≡ 16 → is_key (encode_of standard nonce) ≡ true
  pub decoded : (text : List ℕ) → IsBytes text → is_key text ≡ true → IsEncodedNonce text

-- a word of the list of a field, without regard to ASCII case
abbrev pub Lists : Request → List ℕ → List ℕ → Type 0
Lists request name word = Any (λ w. str_eq_ignore_ascii_case word w ≡ true) (field_words name request.fields)

-- a GET of HTTP/1.1 that asks for a WebSocket of version 13 (RFC 6455 4.2.1, 1 to 4 and 6)
pub record AsksWebSocket (request : Request) : Type 0 where
  pub method : request.method ≡ codes "GET"
  pub http : request.version ≡ V11
  pub upgrade : Lists request (codes "Upgrade") (codes "websocket")
  pub connection : Lists request (codes "Connection") (codes "Upgrade")
  pub version : values_named (codes "Sec-WebSocket-Version") request.fields ≡ codes "13" ∷ []

-- one key and no body (RFC 6455 4.2.1, 5)
pub record BringsKey (request : Request) (key : List ℕ) : Type 0 where
  pub value : List ℕ
  pub one : values_named (codes "Sec-WebSocket-Key") request.fields ≡ value ∷ []
  pub trimmed : trim_ows value ≡ key
  pub decodes : is_key key ≡ true
  pub bodyless : (request.framing ≡ Empty) ⊎ (request.framing ≡ Length 0)

-- one origin, which is one of these
pub record HasOrigin (request : Request) (origins : List (List ℕ)) : Type 0 where
  pub origin : List ℕ
  pub one : values_named (codes "Origin") request.fields ≡ origin ∷ []
  pub taken : Contains origins origin

-- the origin is taken (RFC 6455 4.2.2, 4)
abbrev pub TakesOrigin : Request → Option (List (List ℕ)) → Type 0
TakesOrigin request None = ⊤
TakesOrigin request (Some origins) = HasOrigin request origins

-- a handshake that is accepted with a value
pub record IsAccepted (request : Request) (origins : Option (List (List ℕ))) (value : List ℕ) : Type 0 where
  pub key : List ℕ
  pub asks : AsksWebSocket request
  pub brings : BringsKey request key
  pub taken : TakesOrigin request origins
  pub answers : value ≡ encode_of standard (sha1 (key ++ protocol_id))

-- some key is brought
abbrev pub BringsSomeKey : Request → Type 0
BringsSomeKey request = (key : List ℕ) × BringsKey request key

-- What is answered, and exactly when: a cause comes where all that stands before it in the order holds.
pub record JudgesInOrder (request : Request) (origins : Option (List (List ℕ))) : Type 0 where
  pub accepted : (value : List ℕ) → (handshake request origins ≡ Ok value) ↔ IsAccepted request origins value
  pub upgrade_needed : (handshake request origins ≡ Err UpgradeNeeded) ↔ (¬ (AsksWebSocket request))
  pub bad_handshake : (handshake request origins ≡ Err BadHandshake) ↔ (AsksWebSocket request × ¬ (BringsSomeKey request))
  pub origin_refused : (handshake request origins ≡ Err OriginRefused)
      ↔ (AsksWebSocket request × BringsSomeKey request × ¬ (TakesOrigin request origins))

abbrev pub HandshakesAreJudgedInOrder : Type 0
HandshakesAreJudgedInOrder = (request : Request) (origins : Option (List (List ℕ))) → JudgesInOrder request origins

-- the example of RFC 6455 1.3
abbrev pub SampleIsAnswered : Type 0
SampleIsAnswered = accept_value (codes "dGhlIHNhbXBsZSBub25jZQ==") ≡ codes "s3pPLMBiTxaQ9kYGzzhZRbK+xOo="
