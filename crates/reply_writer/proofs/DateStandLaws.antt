-- Which Date a head has.
use Rattle.std.proofs.Common.{◌≡◌, ℕ, Bool, true, false, List, [], ◌∷◌, ◌++◌, length, Option, Some, None, refl, sym, ap, ◌∙◌, codes, filter, map, append_assoc}
use Rattle.std.specs.Prelude.{◌==◌, count_by, if◌then◌else◌}
use Rattle.std.proofs.lemmas.Bool.{eqb-true}
use Rattle.std.proofs.lemmas.List.{append-nil, nil_from_length}
use Rattle.std.proofs.lemmas.List.Sums.{length-filter}
use Rattle.host_base.specs.declared.fields.Field.{Field}
use Rattle.host_base.specs.FieldLists.{is_named, value_of, values_named}
use Rattle.reply_writer.specs.declared.shape.Shape.{Shape}
use Rattle.reply_writer.specs.declared.shape.Shape.TheVariants.{Bare, Length, Chunked, ToClose}
use Rattle.reply_writer.specs.DateRules.{DatesStand, values_of_date}
use Rattle.reply_writer.specs.Spelling.{closing_fields, dated_fields, framing_fields, named_field}
use Rattle.reply_writer.proofs.ReadEndLaws.{values_named-append}

framing_has_no_date : (shape : Shape) → values_named (codes "Date") (framing_fields shape) ≡ []
framing_has_no_date Bare = refl
framing_has_no_date (Length n) = refl
framing_has_no_date Chunked = refl
framing_has_no_date ToClose = refl

closing_has_no_date : (close : Bool) → values_named (codes "Date") (closing_fields close) ≡ []
closing_has_no_date true = refl
closing_has_no_date false = refl

-- what the host adds to the fields has no Date
dates_of_head : (fields : List Field) (shape : Shape) (close : Bool)
    → values_named (codes "Date") (fields ++ framing_fields shape ++ closing_fields close) ≡ values_named (codes "Date") fields
dates_of_head fields shape close =
    simp (
      values_named-append (codes "Date") (fields ++ framing_fields shape) (closing_fields close),
      values_named-append (codes "Date") fields (framing_fields shape),
      framing_has_no_date shape,
      closing_has_no_date close,
      append-nil,
    )

none_named : (fields : List Field) → count_by (is_named (codes "Date")) fields ≡ 0 → values_named (codes "Date") fields ≡ []
none_named fields none =
    ap (map value_of) (nil_from_length (filter (is_named (codes "Date")) fields) (length-filter (is_named (codes "Date")) fields ∙ none))

own_stands : (date : Option (List ℕ)) (fields : List Field) → (count_by (is_named (codes "Date")) fields == 0) ≡ false
    → values_named (codes "Date") fields ≡ values_of_date date (values_named (codes "Date") fields)
own_stands date fields some = by_list (filter (is_named (codes "Date")) fields) refl
  where
    by_list : (named : List Field) → filter (is_named (codes "Date")) fields ≡ named
        → map value_of named ≡ values_of_date date (map value_of named)
    by_list (f ∷ named) is = refl
    by_list [] is = absurd (
        let none : count_by (is_named (codes "Date")) fields ≡ 0 = sym (length-filter (is_named (codes "Date")) fields) ∙ ap length is in
        let found : false ≡ true = sym some ∙ ap (λ n. n == 0) none in
        cc)

-- the fields with the Date, in which the reply's own come first
record HasDate (fields : List Field) (date : Option (List ℕ)) (own : List Field) : Type 0 where
  others : List Field
  begins : fields ≡ own ++ others
  values : values_named (codes "Date") fields ≡ values_of_date date (values_named (codes "Date") own)

no_date_asked : (named : List (List ℕ)) → named ≡ values_of_date None named
no_date_asked [] = refl
no_date_asked (value ∷ named) = refl

has_date : (date : Option (List ℕ)) (own : List Field) → HasDate (dated_fields date own) date own
has_date None own =
    record { others = []; begins = sym (append-nil own); values = no_date_asked (values_named (codes "Date") own) }
has_date (Some date) own = by_test (count_by (is_named (codes "Date")) own == 0) refl
  where
    by_test : (b : Bool) → (count_by (is_named (codes "Date")) own == 0) ≡ b
        → HasDate (if b then own ++ named_field (codes "Date") date ∷ [] else own) (Some date) own
    by_test true none =
        let no_own = none_named own (eqb-true (count_by (is_named (codes "Date")) own) 0 none) in
        record {
          others = named_field (codes "Date") date ∷ [];
          begins = refl;
          values = rw (values_named-append (codes "Date") own (named_field (codes "Date") date ∷ []), no_own);
        }
    by_test false some = record { others = []; begins = sym (append-nil own); values = own_stands (Some date) own some }

pub dates_stand : DatesStand
dates_stand reply shape close date =
    let with_date = has_date date reply.fields in
    record {
      others = with_date.others ++ (framing_fields shape ++ closing_fields close);
      begins =
          ap (λ l. l ++ framing_fields shape ++ closing_fields close) with_date.begins
          ∙ grouped reply.fields with_date.others (framing_fields shape) (closing_fields close);
      values = dates_of_head (dated_fields date reply.fields) shape close ∙ with_date.values;
    }
  where
    grouped : (a b c d : List Field) → ((a ++ b) ++ c) ++ d ≡ a ++ (b ++ (c ++ d))
    grouped a b c d = simp append_assoc
