-- The kind of a response that a script header asks for (RFC 3875 6.2), and the reply that it gives.
use Rattle.std.specs.Prelude.{ℕ, Bool, true, false, not, ◌&&◌, ◌||◌, ◌==◌, nat_le, List, [], ◌∷◌, take, filter, Option, Some, None, is_some, Result, Ok, Err, codes, if◌then◌else◌}
use Rattle.std.specs.List.{list_all, list_any}
use Rattle.std.specs.Str.{str_eq_ignore_ascii_case}
use Rattle.host_base.specs.declared.cause.Cause.{Cause}
use Rattle.host_base.specs.declared.cause.Cause.TheVariants.{BadLocation, NoneOfThree}
use Rattle.host_base.specs.declared.fields.Field.{Field}
use Rattle.host_base.specs.declared.reply.Reply.{Reply}
use Rattle.host_base.specs.FieldLists.{is_named}
use Rattle.cgi_header.specs.declared.header.Given.{Given}
use Rattle.cgi_header.specs.declared.header.CgiHead.{CgiHead}
use Rattle.reply_writer.specs.Phrases.{phrase_of}
use Rattle.reply_kinds.specs.declared.kind.ReplyKind.{ReplyKind}
use Rattle.reply_kinds.specs.declared.kind.ReplyKind.TheVariants.{Document, LocalRedirect, Redirect, RedirectDocument}

-- ---- Location (RFC 3875 6.3.2)

-- it begins with "/"
abbrev pub is_rooted : List ℕ → Bool
is_rooted [] = false
is_rooted (byte ∷ location) = byte == 47

abbrev pub is_hash : ℕ → Bool
is_hash byte = byte == 35

-- a path and perhaps a query, as far as its first byte and its fragment tell
abbrev pub is_path : List ℕ → Bool
is_path location = is_rooted location && not (list_any is_hash location)

-- visible ASCII
abbrev pub is_visible : ℕ → Bool
is_visible byte = nat_le 33 byte && nat_le byte 126

-- local-pathquery: a path of the server's own that can be asked for again
abbrev pub is_local : List ℕ → Bool
is_local location = is_path location && list_all is_visible location

-- ---- the kind

-- a path without Status asks the server to go there (RFC 3875 6.2.2); with one it is a field like others
abbrev pub kind_of_path : List ℕ → Bool → Result ReplyKind Cause
kind_of_path location true = Ok Document
kind_of_path location false = if is_local location then Ok LocalRedirect else Err BadLocation

-- a URI that the client is sent to (RFC 3875 6.2.3), with a document where Status or Content-Type stands (6.2.4)
abbrev pub kind_of_uri : Bool → Bool → ReplyKind
kind_of_uri false false = Redirect
kind_of_uri false true = RedirectDocument
kind_of_uri true has_type = RedirectDocument

-- without Location (RFC 3875 6.2.1)
abbrev pub kind_without : Bool → Bool → Result ReplyKind Cause
kind_without has_status true = Ok Document
kind_without true false = Ok Document
kind_without false false = Err NoneOfThree

-- by Location, and whether Status and Content-Type stand
abbrev pub kind_by : Option (List ℕ) → Bool → Bool → Result ReplyKind Cause
kind_by None has_status has_type = kind_without has_status has_type
kind_by (Some location) has_status has_type =
    if is_path location then kind_of_path location has_status else Ok (kind_of_uri has_status has_type)

abbrev pub kind_of : CgiHead → Result ReplyKind Cause
kind_of head = kind_by head.location (is_some head.status) head.has_type

-- ---- the reply

-- the fields of a header that are not handed on: what frames a reply and what a connection is told is the server's
-- (RFC 3875 6.3.4; RFC 9110 7.6.1)
abbrev pub withheld_names : List (List ℕ)
withheld_names =
    codes "Status"
    ∷ codes "Content-Length"
    ∷ codes "Transfer-Encoding"
    ∷ codes "Connection"
    ∷ codes "Keep-Alive"
    ∷ codes "Proxy-Connection"
    ∷ codes "TE"
    ∷ codes "Trailer"
    ∷ codes "Upgrade"
    ∷ []

-- an extension field is for the server alone (RFC 3875 6.3.5)
abbrev pub is_extension : Field → Bool
is_extension f = str_eq_ignore_ascii_case (codes "X-CGI-") (take 6 f.name)

abbrev pub is_withheld : Field → Bool
is_withheld f = list_any (λ name. is_named name f) withheld_names || is_extension f

abbrev pub is_handed_on : Field → Bool
is_handed_on f = not (is_withheld f)

-- the status that a kind has where the script names none
abbrev pub default_status : ReplyKind → ℕ
default_status Document = 200
default_status LocalRedirect = 302
default_status Redirect = 302
default_status RedirectDocument = 302

abbrev pub status_code : Option Given → ReplyKind → ℕ
status_code (Some given) kind = given.code
status_code None kind = default_status kind

-- the phrase that the script names; else that of the code
abbrev pub given_phrase : ℕ → List ℕ → List ℕ
given_phrase code [] = phrase_of code
given_phrase code (byte ∷ phrase) = byte ∷ phrase

abbrev pub status_phrase : Option Given → ReplyKind → List ℕ
status_phrase (Some given) kind = given_phrase given.code given.phrase
status_phrase None kind = phrase_of (default_status kind)

-- whether what follows the header is the body
abbrev pub has_body : ReplyKind → Bool
has_body Document = true
has_body LocalRedirect = false
has_body Redirect = false
has_body RedirectDocument = true

-- what follows the header, unless the kind has no body; 205 has none (RFC 9110 15.3.6)
abbrev pub body_of : ℕ → ReplyKind → List ℕ → List ℕ
body_of status kind body = if has_body kind && not (status == 205) then body else []

abbrev pub reply_of : CgiHead → ReplyKind → List ℕ → Reply
reply_of head kind body = record {
  status = status_code head.status kind;
  phrase = status_phrase head.status kind;
  fields = filter is_handed_on head.fields;
  body = body_of (status_code head.status kind) kind body;
}
