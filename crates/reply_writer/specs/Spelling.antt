-- How the head of a reply is spelled, and a reply whose length is told (RFC 9112 2.1, 4, 5 and 6).
use Rattle.std.specs.Prelude.{ℕ, Bool, ◌||◌, ◌==◌, if◌then◌else◌, List, [], ◌∷◌, ◌++◌, length, flat_map, count_by, codes, decimal, Option, Some, None, option_map}
use Rattle.host_base.specs.declared.fields.Field.{Field}
use Rattle.host_base.specs.declared.reply.Reply.{Reply}
use Rattle.host_base.specs.FieldLists.{is_named}
use Rattle.reply_writer.specs.declared.date.DateText.{DateText}
use Rattle.reply_writer.specs.declared.shape.Shape.{Shape}
use Rattle.reply_writer.specs.declared.shape.Shape.TheVariants.{Bare, Length, Chunked, ToClose}

-- status-line = HTTP-version SP status-code SP reason-phrase CRLF (RFC 9112 4)
abbrev pub status_line : Reply → List ℕ
status_line reply = codes "HTTP/1.1 " ++ decimal reply.status ++ codes " " ++ reply.phrase ++ codes "\r\n"

-- field-line CRLF, with one space before the value (RFC 9112 5)
abbrev pub field_line : Field → List ℕ
field_line f = f.name ++ codes ": " ++ f.value ++ codes "\r\n"

abbrev pub named_field : List ℕ → List ℕ → Field
named_field name value = record { name = name; value = value }

-- the field that says where the body ends, if one does (RFC 9112 6.1 and 6.2)
abbrev pub framing_fields : Shape → List Field
framing_fields Bare = []
framing_fields (Length n) = named_field (codes "Content-Length") (decimal n) ∷ []
framing_fields Chunked = named_field (codes "Transfer-Encoding") (codes "chunked") ∷ []
framing_fields ToClose = []

-- the field that says that this reply is the last of its connection (RFC 9112 9.6)
abbrev pub closing_fields : Bool → List Field
closing_fields close = if close then named_field (codes "Connection") (codes "close") ∷ [] else []

-- the fields of the head: those of the reply, then what frames it, then what closes it
abbrev pub head_fields : Reply → Shape → Bool → List Field
head_fields reply shape close = reply.fields ++ framing_fields shape ++ closing_fields close

-- status-line *( field-line CRLF ) CRLF (RFC 9112 2.1)
abbrev pub head_text_of : Reply → Shape → Bool → List ℕ
head_text_of reply shape close =
    status_line reply ++ flat_map field_line (head_fields reply shape close) ++ codes "\r\n"

-- ---- the Date

-- the bytes of a date, if there is one
abbrev pub date_value : Option DateText → Option (List ℕ)
date_value date = option_map (λ (d : DateText). d.text) date

-- these fields, and after them the Date, if there is one and none of them is named so (RFC 9110 6.6.1)
abbrev pub dated_fields : Option (List ℕ) → List Field → List Field
dated_fields None fields = fields
dated_fields (Some date) fields =
    if count_by (is_named (codes "Date")) fields == 0 then fields ++ named_field (codes "Date") date ∷ [] else fields

-- the reply with its Date
abbrev pub dated : Option (List ℕ) → Reply → Reply
dated date reply = record reply { fields = dated_fields date reply.fields }

-- ---- a reply that is known as a whole

-- whether nothing follows the head: after HEAD, and with 204 or 304 (RFC 9110 6.4.1; RFC 9112 6.3)
abbrev pub is_head_alone : Reply → Bool → Bool
is_head_alone reply head_only = head_only || reply.status == 204 || reply.status == 304

-- how the head of a reply that is known as a whole frames what follows it
abbrev pub whole_shape : Reply → Bool → Shape
whole_shape reply head_only = if is_head_alone reply head_only then Bare else Length (length reply.body)

-- what follows that head
abbrev pub whole_content : Reply → Bool → List ℕ
whole_content reply head_only = if is_head_alone reply head_only then [] else reply.body

-- the head, and what follows it
abbrev pub whole_text_of : Reply → Bool → Bool → List ℕ
whole_text_of reply head_only close =
    head_text_of reply (whole_shape reply head_only) close ++ whole_content reply head_only
