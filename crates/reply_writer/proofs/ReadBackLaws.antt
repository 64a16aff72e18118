-- The text of a plain reply as a head of the response grammar.
use Rattle.std.proofs.Common.{◌≡◌, ℕ, Bool, true, false, List, [], ◌∷◌, ◌++◌, length, refl, arith, append_assoc, decimal, Option, Some, None, codes, map, reverse, flat_map}
use Rattle.std.specs.Prelude.{IsTrue, All, nat_lt, count_by, ◌==◌, if◌then◌else◌}
use Rattle.std.specs.List.{list_all}
use Rattle.std.specs.Char.{is_ascii_digit}
use Rattle.std.proofs.lemmas.Bool.{and_parts, ltb-true}
use Rattle.std.proofs.lemmas.Bool.Decides.{nat_tests}
use Rattle.std.proofs.lemmas.List.Elements.{All-append, All-cons, All-head, All-nil, All-tail, All-weaker, All-map}
use Rattle.std.proofs.lemmas.List.Sums.{AllPass-from_list_all}
use Rattle.httparse.specs.Grammar.{AllPass, IsField, IsResponseHead, IsToken, ReadsResponse, ResponseHead, crlf, field_value, is_ows, is_token, is_token_byte, is_value_byte, print_field, print_response, skip_ows, trim_ows}
use Rattle.httparse.specs.Grammar as grammar
use Rattle.httparse.proofs.GrammarLemmas.{cons-append, print_response-append, response_unique}
use Rattle.httparse.proofs.TrimLemmas.{AllPass-reverse}
use Rattle.std.proofs.lemmas.List.{reverse-reverse}
use Rattle.host_base.specs.declared.fields.Field.{Field}
use Rattle.host_base.specs.declared.reply.Reply.{Reply}
use Rattle.host_base.specs.FieldLists.{is_named}
use Rattle.reply_writer.specs.declared.shape.Shape.{Shape}
use Rattle.reply_writer.specs.declared.shape.Shape.TheVariants.{Bare, Length, Chunked, ToClose}
use Rattle.reply_writer.specs.ReadBack.{HeadsReadBack, IsPlainDate, IsPlainField, IsPlainReply, ReadsBack, WholesReadBack, read_field}
use Rattle.reply_writer.specs.Spelling.{closing_fields, dated, field_line, named_field, framing_fields, head_fields, head_text_of, status_line, whole_content, whole_shape}
use Rattle.reply_writer.proofs.NumberLaws.{decimal_digits, digits_value-decimal, three_digits}

-- ---- fields

-- a field line as the grammar has it: one space stands before the value
abbrev pub written_field : Field → grammar.Field
written_field f = record { name = f.name; raw = 32 ∷ f.value; end = crlf }

print_written : (f : Field) → print_field (written_field f) ≡ field_line f
print_written f = simp (append_assoc, cons-append)

print_fields : (fields : List Field) → flat_map print_field (map written_field fields) ≡ flat_map field_line fields
print_fields [] = refl
print_fields (f ∷ fields) = cc (print_written f, print_fields fields)

written_is_field : (f : Field) → IsPlainField f → IsField (written_field f)
written_is_field f plain = record {
  name = plain.name;
  raw = All-cons (λ b. IsTrue (is_value_byte b)) 32 f.value refl plain.value;
}

written_are_fields : (fields : List Field) → All IsPlainField fields → All IsField (map written_field fields)
written_are_fields fields plain =
    All-map IsField written_field fields
    (All-weaker IsPlainField (λ f. IsField (written_field f)) written_is_field fields plain)

read_written : (f : Field) → IsPlainField f → read_field (written_field f) ≡ f
unfolding trim_ows
read_written f plain = λ i. record f { value = plain.trimmed i }

read_all_written : (fields : List Field) → All IsPlainField fields → map read_field (map written_field fields) ≡ fields
read_all_written [] plain = refl
read_all_written (f ∷ fields) plain =
    cc (read_written f (All-head IsPlainField f fields plain), read_all_written fields (All-tail IsPlainField f fields plain))

-- ---- the fields that the host adds are plain

pub token_by_test : (name : List ℕ) → is_token name ≡ true → IsToken name
token_by_test name named =
    let both = and_parts (nat_lt 0 (length name)) (list_all is_token_byte name) named in
    (ltb-true 0 (length name) both.0, AllPass-from_list_all is_token_byte name both.1)

digit_is_value : (b : ℕ) → is_ascii_digit b ≡ true → IsTrue (is_value_byte b)
digit_is_value b digit = grind (arith, nat_tests)

digit_is_no_blank : (b : ℕ) → is_ascii_digit b ≡ true → is_ows b ≡ false
digit_is_no_blank b digit = grind (arith, nat_tests)

skip_digits : (text : List ℕ) → AllPass is_ascii_digit text → skip_ows text ≡ text
skip_digits [] all = refl
skip_digits (b ∷ text) all =
    rw (digit_is_no_blank b (All-head (λ d. is_ascii_digit d ≡ true) b text all))

trim_digits : (text : List ℕ) → AllPass is_ascii_digit text → trim_ows text ≡ text
unfolding trim_ows
trim_digits text all =
    rw (skip_digits text all, skip_digits (reverse text) (AllPass-reverse is_ascii_digit text all), reverse-reverse)

-- a field that passes the tests is plain
pub plain_by_tests : (name value : List ℕ) → is_token name ≡ true → list_all is_value_byte value ≡ true
    → trim_ows value ≡ value → IsPlainField (named_field name value)
plain_by_tests name value named valued trimmed = record {
  name = token_by_test name named;
  value = AllPass-from_list_all is_value_byte value valued;
  trimmed = trimmed;
}

length_is_plain : (n : ℕ) → IsPlainField (named_field (codes "Content-Length") (decimal n))
unfolding is_token_byte
length_is_plain n = record {
  name = token_by_test (codes "Content-Length") refl;
  value = All-weaker (λ b. is_ascii_digit b ≡ true) (λ b. IsTrue (is_value_byte b)) digit_is_value (decimal n) (decimal_digits n);
  trimmed = trim_digits (decimal n) (decimal_digits n);
}

chunked_is_plain : IsPlainField (named_field (codes "Transfer-Encoding") (codes "chunked"))
unfolding is_token_byte trim_ows
chunked_is_plain = plain_by_tests (codes "Transfer-Encoding") (codes "chunked") refl refl refl

close_is_plain : IsPlainField (named_field (codes "Connection") (codes "close"))
unfolding is_token_byte trim_ows
close_is_plain = plain_by_tests (codes "Connection") (codes "close") refl refl refl

framing_is_plain : (shape : Shape) → All IsPlainField (framing_fields shape)
framing_is_plain Bare = All-nil IsPlainField
framing_is_plain (Length n) = All-cons IsPlainField _ [] (length_is_plain n) (All-nil IsPlainField)
framing_is_plain Chunked = All-cons IsPlainField _ [] chunked_is_plain (All-nil IsPlainField)
framing_is_plain ToClose = All-nil IsPlainField

closing_is_plain : (close : Bool) → All IsPlainField (closing_fields close)
closing_is_plain true = All-cons IsPlainField _ [] close_is_plain (All-nil IsPlainField)
closing_is_plain false = All-nil IsPlainField

head_is_plain : (reply : Reply) (shape : Shape) (close : Bool) → IsPlainReply reply
    → All IsPlainField (head_fields reply shape close)
head_is_plain reply shape close plain =
    All-append IsPlainField (reply.fields ++ framing_fields shape) (closing_fields close)
    (All-append IsPlainField reply.fields (framing_fields shape) plain.fields (framing_is_plain shape))
    (closing_is_plain close)

-- ---- heads

abbrev pub written_head : Reply → List Field → ResponseHead
written_head reply fields = record {
  blank = [];
  minor = 1;
  digits = decimal reply.status;
  reason = Some reply.phrase;
  line_end = crlf;
  fields = map written_field fields;
  last = crlf;
}

regroup : (version digits space phrase end fields rest : List ℕ)
    → (((version ++ digits ++ space ++ phrase ++ end) ++ fields) ++ end) ++ rest
    ≡ version ++ (digits ++ (space ++ (phrase ++ (end ++ ((fields ++ end) ++ rest)))))
regroup version digits space phrase end fields rest = simp append_assoc

print_head : (reply : Reply) (fields : List Field) (rest : List ℕ)
    → (status_line reply ++ flat_map field_line fields ++ codes "\r\n") ++ rest ≡ print_response (written_head reply fields) ++ rest
print_head reply fields rest =
    rw (print_response-append (written_head reply fields) rest, print_fields fields)
    (regroup (codes "HTTP/1.1 ") (decimal reply.status) (codes " ") reply.phrase (codes "\r\n") (flat_map field_line fields) rest)

written_is_head : (reply : Reply) (fields : List Field) → IsPlainReply reply → All IsPlainField fields
    → IsResponseHead (written_head reply fields)
written_is_head reply fields plain each = record {
  minor = omega arith;
  digits = (three_digits reply.status plain.least plain.greatest, decimal_digits reply.status);
  reason = plain.phrase;
  fields = written_are_fields fields each;
}

-- the reply's own fields and its Date are plain
dated_is_plain : (date : Option (List ℕ)) (reply : Reply) → IsPlainDate date → IsPlainReply reply → IsPlainReply (dated date reply)
dated_is_plain None reply plain_date plain = plain
dated_is_plain (Some date) reply plain_date plain = by_test (count_by (is_named (codes "Date")) reply.fields == 0)
  where
    by_test : (b : Bool)
        → IsPlainReply (record reply { fields = (if b then reply.fields ++ named_field (codes "Date") date ∷ [] else reply.fields) })
    by_test true = record {
      least = plain.least;
      greatest = plain.greatest;
      phrase = plain.phrase;
      fields = All-append IsPlainField reply.fields _ plain.fields (All-cons IsPlainField _ [] plain_date (All-nil IsPlainField));
    }
    by_test false = plain

own_head_reads_back : (reply : Reply) (shape : Shape) (close : Bool) (rest : List ℕ) → IsPlainReply reply
    → ReadsBack (head_text_of reply shape close ++ rest) reply (head_fields reply shape close) rest
own_head_reads_back reply shape close rest plain =
    let fields = head_fields reply shape close in
    let each = head_is_plain reply shape close plain in
    let head = written_head reply fields in
    let reads : ReadsResponse (head_text_of reply shape close ++ rest) head rest =
    (written_is_head reply fields plain each, print_head reply fields rest) in
    record {
      head = head;
      reads = reads;
      version = refl;
      status = digits_value-decimal reply.status (omega (arith, plain.greatest));
      phrase = refl;
      said = read_all_written fields each;
      alone = λ other more read. response_unique _ other head more rest read reads;
    }

pub heads_read_back : HeadsReadBack
heads_read_back reply shape close date rest plain plain_date =
    let read = own_head_reads_back (dated date reply) shape close rest (dated_is_plain date reply plain_date plain) in
    record {
      head = read.head;
      reads = read.reads;
      version = read.version;
      status = read.status;
      phrase = read.phrase;
      said = read.said;
      alone = read.alone;
    }

pub wholes_read_back : WholesReadBack
wholes_read_back reply head_only close date =
    heads_read_back reply (whole_shape reply head_only) close date (whole_content reply head_only)
