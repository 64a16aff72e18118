-- What a reader finds in the Date of a reply.
use Rattle.std.specs.Prelude.{ℕ, ◌≡◌, ◌<◌, Bool, List, [], ◌∷◌, ◌++◌, Option, Some, None, codes}
use Rattle.host_base.specs.declared.fields.Field.{Field}
use Rattle.host_base.specs.declared.reply.Reply.{Reply}
use Rattle.host_base.specs.FieldLists.{values_named}
use Rattle.httpdate.specs.Date.{parse_secs}
use Rattle.reply_writer.specs.declared.date.TheConstants.{DATES_END}
use Rattle.reply_writer.specs.declared.shape.Shape.{Shape}
use Rattle.reply_writer.specs.Dates.{date_text_of}
use Rattle.reply_writer.specs.ReadBack.{IsPlainDate}
use Rattle.reply_writer.specs.Spelling.{dated, head_fields}

-- the text of a second is read as that second (RFC 9110 5.6.7)
abbrev pub DatesReadBack : Type 0
DatesReadBack = (secs : ℕ) → secs < DATES_END → parse_secs (date_text_of secs) ≡ Some secs

-- .. and may be the value of a field
abbrev pub DatesArePlain : Type 0
DatesArePlain = (secs : ℕ) → secs < DATES_END → IsPlainDate (Some (date_text_of secs))

-- the values of Date in a head: the reply's own, and else the date that is given, if one is
abbrev pub values_of_date : Option (List ℕ) → List (List ℕ) → List (List ℕ)
values_of_date date (own ∷ others) = own ∷ others
values_of_date None [] = []
values_of_date (Some date) [] = date ∷ []

-- A head has its reply's own Date, and else the one that is given; and it begins with its reply's own fields.
pub record TellsDate (fields : List Field) (date : Option (List ℕ)) (own : List Field) : Type 0 where
  pub others : List Field
  pub begins : fields ≡ own ++ others
  pub values : values_named (codes "Date") fields ≡ values_of_date date (values_named (codes "Date") own)

abbrev pub DatesStand : Type 0
DatesStand = (reply : Reply) (shape : Shape) (close : Bool) (date : Option (List ℕ))
    → TellsDate (head_fields (dated date reply) shape close) date reply.fields
