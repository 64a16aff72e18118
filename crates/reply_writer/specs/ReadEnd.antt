-- Where a reader finds the end of a reply, and whether it may ask again (RFC 9112 6.3 and 9.3).
use Rattle.std.specs.Prelude.{ℕ, ◌≡◌, ◌/◌, ◌^◌, ◌<◌, ◌≤◌, ◌⊎◌, Bool, true, false, ◌&&◌, ◌||◌, ◌==◌, nat_lt, if◌then◌else◌, List, [], ◌∷◌, length, Option, Some, None, codes, option_map}
use Rattle.std.specs.Char.{is_ascii_digit}
use Rattle.std.specs.List.{list_all, list_any}
use Rattle.std.specs.Str.{str_eq_ignore_ascii_case}
use Rattle.std.specs.Str.Parse.{digits_value}
use Rattle.host_base.specs.declared.cause.Cause.{Cause}
use Rattle.host_base.specs.declared.fields.Field.{Field}
use Rattle.host_base.specs.declared.reply.Reply.{Reply}
use Rattle.host_base.specs.declared.request.Version.TheVariants.{V10}
use Rattle.host_base.specs.FieldLists.{field_words, values_named}
use Rattle.reply_writer.specs.FaultReply.{fault_reply_of}
use Rattle.reply_writer.specs.declared.shape.Shape.{Shape}
use Rattle.reply_writer.specs.declared.shape.Shape.TheVariants.{Bare, Length, Chunked, ToClose}
use Rattle.reply_writer.specs.Spelling.{dated, head_fields}
use Rattle.reply_writer.specs.WholeReply.{Spells, Way, head_of, shape_of, stamped}

-- Content-Length = 1*DIGIT, of exactly one field (RFC 9112 6.2)
abbrev pub one_length : List (List ℕ) → Option ℕ
one_length (value ∷ []) =
    if nat_lt 0 (length value) && list_all is_ascii_digit value then Some (digits_value 10 value) else None
one_length _ = None

-- the last of the words is this one, without regard to ASCII case
abbrev pub is_last_word : List ℕ → List (List ℕ) → Bool
is_last_word word [] = false
is_last_word word (last ∷ []) = str_eq_ignore_ascii_case word last
is_last_word word (first ∷ words) = is_last_word word words

-- the shape that the words of Transfer-Encoding and the values of Content-Length tell
abbrev pub framing_by : List (List ℕ) → List (List ℕ) → Option Shape
framing_by [] [] = Some ToClose
framing_by [] lengths = option_map Length (one_length lengths)
framing_by (word ∷ words) lengths = Some (if is_last_word (codes "chunked") (word ∷ words) then Chunked else ToClose)

-- How the head of a reply with that status and those fields frames what follows it, by the rules of RFC 9112 6.3 in
-- their order; None where the head is faulty. Nothing follows with 1xx, 204 and 304 and after HEAD. With a
-- Transfer-Encoding, chunks follow where its last word is `chunked`, and else everything up to the close. With a
-- Content-Length so many bytes follow, and with neither everything up to the close.
abbrev pub read_framing : Bool → ℕ → List Field → Option Shape
read_framing to_head status fields =
    if status / 100 == 1 || to_head || status == 204 || status == 304 then Some Bare
    else framing_by (field_words (codes "Transfer-Encoding") fields) (values_named (codes "Content-Length") fields)

-- whether the fields say that the connection closes after the reply (RFC 9112 9.6)
abbrev pub says_close : List Field → Bool
says_close fields = list_any (str_eq_ignore_ascii_case (codes "close")) (field_words (codes "Connection") fields)

-- the reply is a final one (RFC 9110 15), and its own fields leave to the writer where it ends and whether the
-- connection does
pub record LeavesEnd (reply : Reply) : Type 0 where
  pub final : 200 ≤ reply.status
  pub lengths : values_named (codes "Content-Length") reply.fields ≡ []
  pub codings : values_named (codes "Transfer-Encoding") reply.fields ≡ []
  pub closes : says_close reply.fields ≡ false

-- a reader of these fields finds that framing, and closes or not
pub record TellsEnd (fields : List Field) (to_head : Bool) (status : ℕ) (shape : Shape) (close : Bool) : Type 0 where
  pub told : read_framing to_head status fields ≡ Some shape
  pub closed : says_close fields ≡ close

-- The head of a reply tells its reader how what follows is framed, so the next reply is read from where it begins, and
-- closes exactly where it was to close.
abbrev pub EndsReadBack : Type 0
EndsReadBack = (way : Way) (date : Option (List ℕ)) (reply : Reply) → LeavesEnd reply → length reply.body < 2 ^ 64
    → TellsEnd (head_fields (dated date reply) (shape_of way reply) way.close) way.head_only reply.status
    (shape_of way reply) way.close

-- the reply is to HEAD, or its status is 204 or 304
abbrev pub StandsAlone : Way → Reply → Type 0
StandsAlone way reply = (way.head_only ≡ true) ⊎ ((reply.status ≡ 204) ⊎ (reply.status ≡ 304))

-- the fields have none that frames
pub record FramesNothing (fields : List Field) : Type 0 where
  pub lengths : values_named (codes "Content-Length") fields ≡ []
  pub codings : values_named (codes "Transfer-Encoding") fields ≡ []

-- Such a reply has no Content-Length and no Transfer-Encoding, and nothing follows its head. (RFC 9110 8.6 and RFC 9112
-- 6.1 forbid both fields with 204, and let the others have them.)
abbrev pub HeadsStandAlone : Type 0
HeadsStandAlone = (bytes : List ℕ) (way : Way) (reply : Reply) → LeavesEnd reply → StandsAlone way reply → Spells bytes way reply
    → FramesNothing (head_fields (stamped way reply) (shape_of way reply) way.close) × (bytes ≡ head_of way reply)

-- a client of HTTP/1.0 is sent no Transfer-Encoding (RFC 9112 6.1)
abbrev pub OldVersionsHaveNoCoding : Type 0
OldVersionsHaveNoCoding = (way : Way) (date : Option (List ℕ)) (reply : Reply) → LeavesEnd reply → way.version ≡ V10
    → values_named (codes "Transfer-Encoding") (head_fields (dated date reply) (shape_of way reply) way.close) ≡ []

-- the host's own replies leave their end to the writer
abbrev pub FaultsLeaveEnd : Type 0
FaultsLeaveEnd = (cause : Cause) → LeavesEnd (fault_reply_of cause)
