-- What a client reads where a reply was spelled, by the response grammar of `httparse` (RFC 9112 2 to 5).
use Rattle.std.specs.Prelude.{ℕ, ◌≡◌, ◌≤◌, Bool, List, ◌++◌, All, Option, Some, None, codes, map}
use Rattle.httparse.specs.Grammar.{AllPass, IsToken, ReadsResponse, ResponseHead, field_value, is_value_byte, reason_phrase, status_code, trim_ows}
use Rattle.httparse.specs.Grammar as grammar
use Rattle.host_base.specs.declared.cause.Cause.{Cause}
use Rattle.host_base.specs.declared.fields.Field.{Field}
use Rattle.host_base.specs.declared.reply.Reply.{Reply}
use Rattle.reply_writer.specs.declared.shape.Shape.{Shape}
use Rattle.reply_writer.specs.FaultReply.{fault_reply_of}
use Rattle.reply_writer.specs.Phrases.{phrase_of}
use Rattle.reply_writer.specs.Spelling.{dated, named_field, head_fields, head_text_of, whole_content, whole_shape, whole_text_of}

-- the name is a token; the value has no control byte but the tab, and no blank at either end (RFC 9110 5.1 and 5.5)
pub record IsPlainField (f : Field) : Type 0 where
  pub name : IsToken f.name
  pub value : AllPass is_value_byte f.value
  pub trimmed : trim_ows f.value ≡ f.value

-- the status has three digits, the phrase no control byte but the tab, and each field is plain
pub record IsPlainReply (reply : Reply) : Type 0 where
  pub least : 100 ≤ reply.status
  pub greatest : reply.status ≤ 999
  pub phrase : AllPass is_value_byte reply.phrase
  pub fields : All IsPlainField reply.fields

-- a field line as its reader has it: the name, and the value without blanks around it
abbrev pub read_field : grammar.Field → Field
read_field f = named_field f.name (field_value f)

-- Text is one head of a response and then exactly rest. The head has HTTP/1.1, the status and the phrase of the reply
-- and these fields in their order, and text can be read as no other head.
pub record ReadsBack (text : List ℕ) (reply : Reply) (fields : List Field) (rest : List ℕ) : Type 0 where
  pub head : ResponseHead
  pub reads : ReadsResponse text head rest
  pub version : head.minor ≡ 1
  pub status : status_code head ≡ reply.status
  pub phrase : reason_phrase head.reason ≡ reply.phrase
  pub said : map read_field head.fields ≡ fields
  pub alone : (other : ResponseHead) (more : List ℕ) → ReadsResponse text other more → (other ≡ head) × (more ≡ rest)

-- bytes that may be the value of a Date field, if there are any
abbrev pub IsPlainDate : Option (List ℕ) → Type 0
IsPlainDate None = Unit {0}
IsPlainDate (Some date) = IsPlainField (named_field (codes "Date") date)

-- whatever follows a head, it is read back, with its Date
abbrev pub HeadsReadBack : Type 0
HeadsReadBack = (reply : Reply) (shape : Shape) (close : Bool) (date : Option (List ℕ)) (rest : List ℕ)
    → IsPlainReply reply → IsPlainDate date
    → ReadsBack (head_text_of (dated date reply) shape close ++ rest) reply (head_fields (dated date reply) shape close) rest

-- a whole reply is read back, and what follows its head is the body, or nothing
abbrev pub WholesReadBack : Type 0
WholesReadBack = (reply : Reply) (head_only close : Bool) (date : Option (List ℕ)) → IsPlainReply reply → IsPlainDate date
    → ReadsBack (whole_text_of (dated date reply) head_only close) reply
    (head_fields (dated date reply) (whole_shape reply head_only) close) (whole_content reply head_only)

-- every reason phrase has only bytes that a phrase may have (RFC 9112 4)
abbrev pub PhrasesArePlain : Type 0
PhrasesArePlain = (code : ℕ) → AllPass is_value_byte (phrase_of code)

-- the host's own replies are plain
abbrev pub FaultsArePlain : Type 0
FaultsArePlain = (cause : Cause) → IsPlainReply (fault_reply_of cause)
