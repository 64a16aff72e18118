-- The function on lines and httparse's grammar say the same.
use Rattle.std.proofs.Common.{◌≡◌, ℕ, zero, suc, ◌<◌, ◌≤◌, Bool, false, List, [], ◌∷◌, ◌++◌, length, map, refl, sym, ap, ◌∙◌, arith, eqb, append_assoc, length-append, Option, Some, None, option_map, flat_map, inl, inr, get_or}
use Rattle.std.specs.Option.{option_and_then}
use Rattle.std.specs.List.{All}
use Rattle.std.proofs.lemmas.List.Elements.{All-head, All-tail, All-cons, All-nil, All-append, All-push}
use Rattle.std.proofs.lemmas.List.Sums.{AllPass-from_list_all}
use Rattle.std.proofs.lemmas.Bool.{cond-true, cond-false, cases_Bool, eqb-true, or_from, or_parts}
use Rattle.httparse.specs.Grammar.{AllPass, is_uri_byte, is_value_byte, print_version, LineEnd, crlf, lf, print_end, print_blank, Field as Line, print_field, IsField, print_section, RequestHead, IsRequestHead, print_request, ReadsRequest}
use Rattle.httparse.specs.Pieces.{is_newline}
use Rattle.httparse.proofs.PieceLemmas.{token_is_no_newline}
use Rattle.httparse.proofs.GrammarLemmas.{print_request-append, cons-append}
use Rattle.host_base.specs.declared.fields.Field.{Field}
use Rattle.host_base.specs.declared.request.Head.{Head}
use Rattle.head_lines.specs.Lines.{is_lf, without_cr, Front, front_of, HasNoLf, with_lf, IsFilled}
use Rattle.head_reader.specs.RequestHead.{RequestLine, request_line_of, field_of, fields_of, head_of}
use Rattle.head_reader.specs.HeadLaws.{version_named, parsed_field, parsed_head}
use Rattle.head_lines.proofs.FrontLaws.{front_shape, front_from_HasFront, map_some}
use Rattle.head_reader.proofs.WordLaws.{none_is, request_line_again, request_line_back, field_again, field_back}

-- no CR and no LF
abbrev pub IsPlain : List ℕ → Type 0
IsPlain line = All (λ b. is_newline b ≡ false) line

pub plain_from : (test : ℕ → Bool) → test 13 ≡ false → test 10 ≡ false → (w : List ℕ) → AllPass test w → IsPlain w
plain_from test cr nl w pass =
    let no_cr = none_is test 13 cr w pass in
    let no_lf = none_is test 10 nl w pass in
    λ k d below. or_from (eqb (get_or w k d) 13) (eqb (get_or w k d) 10) (no_cr k d below) (no_lf k d below)

-- ---- a line and its end

abbrev pub part_of : List ℕ → LineEnd → List ℕ
part_of line crlf = line ++ 13 ∷ []
part_of line lf = line

pub part_printed : (line : List ℕ) (e : LineEnd) → with_lf (part_of line e) ≡ line ++ print_end e
part_printed line crlf = append_assoc line (13 ∷ []) (10 ∷ [])
part_printed line lf = refl

without_cr-push : (xs : List ℕ) → without_cr (xs ++ 13 ∷ []) ≡ xs
without_cr-push [] = refl
without_cr-push (b ∷ []) = refl
without_cr-push (b ∷ c ∷ xs) = ap (λ (l : List ℕ). b ∷ l) (without_cr-push (c ∷ xs))

without_cr_same : (xs : List ℕ) → IsPlain xs → without_cr xs ≡ xs
without_cr_same [] plain = refl
without_cr_same (b ∷ []) plain =
    cond-false (eqb b 13) [] (b ∷ []) (or_parts (eqb b 13) (eqb b 10) (All-head (λ x. is_newline x ≡ false) b [] plain)).0
without_cr_same (b ∷ c ∷ xs) plain =
    ap (λ (l : List ℕ). b ∷ l) (without_cr_same (c ∷ xs) (All-tail (λ x. is_newline x ≡ false) b (c ∷ xs) plain))

pub without_cr_part : (line : List ℕ) (e : LineEnd) → IsPlain line → without_cr (part_of line e) ≡ line
without_cr_part line crlf plain = without_cr-push line
without_cr_part line lf plain = without_cr_same line plain

plain_no_lf : (line : List ℕ) → IsPlain line → HasNoLf line
plain_no_lf line plain = λ k d below. (or_parts (eqb (get_or line k d) 13) (eqb (get_or line k d) 10) (plain k d below)).1

pub part_no_lf : (line : List ℕ) (e : LineEnd) → IsPlain line → HasNoLf (part_of line e)
part_no_lf line crlf plain = All-push (λ b. is_lf b ≡ false) line 13 (plain_no_lf line plain) refl
part_no_lf line lf plain = plain_no_lf line plain

pub part_filled : (line : List ℕ) (e : LineEnd) → IsPlain line → 0 < length line → IsFilled (part_of line e)
part_filled line e plain some = record {
  no_lf = part_no_lf line e plain;
  some = rw (without_cr_part line e plain) some;
}

-- how a part ends
pub part_end : (part : List ℕ) → (e : LineEnd) × (with_lf part ≡ without_cr part ++ print_end e)
part_end [] = (lf, refl)
part_end (b ∷ []) =
    elim (cases_Bool (eqb b 13)) [
      | inl here ↦ (crlf, rw (cond-true _ _ _ here, eqb-true b 13 here))
      | inr other ↦ (lf, rw (cond-false _ _ _ other))
    ]
part_end (b ∷ c ∷ bytes) = let later = part_end (c ∷ bytes) in (later.0, ap (λ (l : List ℕ). b ∷ l) later.1)

-- ---- field lines

abbrev pub line_of : Line → List ℕ
line_of g = g.name ++ 58 ∷ g.raw

abbrev pub field_part : Line → List ℕ
field_part g = part_of (line_of g) g.end

line_plain : (g : Line) → IsField g → IsPlain (line_of g)
line_plain g is = All-append (λ b. is_newline b ≡ false) g.name (58 ∷ g.raw)
    (λ k d below. token_is_no_newline _ (is.name.1 k d below))
    (All-cons (λ b. is_newline b ≡ false) 58 g.raw refl (plain_from is_value_byte refl refl g.raw is.raw))

field_filled : (g : Line) → IsField g → IsFilled (field_part g)
field_filled g is = part_filled (line_of g) g.end (line_plain g is) (omega (arith, is.name.0, length-append g.name (58 ∷ g.raw)))

fields_filled : (gs : List Line) → All IsField gs → All IsFilled (map field_part gs)
fields_filled [] all = All-nil IsFilled
fields_filled (g ∷ gs) all =
    All-cons IsFilled (field_part g) (map field_part gs) (field_filled g (All-head IsField g gs all)) (fields_filled gs (All-tail IsField g gs all))

fields_printed : (gs : List Line) → flat_map with_lf (map field_part gs) ≡ flat_map print_field gs
fields_printed [] = refl
fields_printed (g ∷ gs) = λ i. part_printed (line_of g) g.end i ++ fields_printed gs i

fields_lines : (gs : List Line) → All IsField gs → map without_cr (map field_part gs) ≡ map line_of gs
fields_lines [] all = refl
fields_lines (g ∷ gs) all =
    let first = without_cr_part (line_of g) g.end (line_plain g (All-head IsField g gs all)) in
    let later = fields_lines gs (All-tail IsField g gs all) in
    λ i. first i ∷ later i

pub fields_again : (gs : List Line) → All IsField gs → fields_of (map line_of gs) ≡ Some (map parsed_field gs)
fields_again [] all = refl
fields_again (g ∷ gs) all =
    let first = All-head IsField g gs all in
    let one = field_again g.name g.raw first.name first.raw in
    let later = fields_again gs (All-tail IsField g gs all) in
    ap (option_and_then (λ (f : Field). option_map (λ (fs : List Field). f ∷ fs) (fields_of (map line_of gs)))) one
    ∙ ap (option_map (λ (fs : List Field). parsed_field g ∷ fs)) later

pub then_some : {A B : Type 0} (f : A → Option B) (o : Option A) (y : B) → option_and_then f o ≡ Some y
    → (x : A) × (o ≡ Some x) × (f x ≡ Some y)
then_some f None y e = absurd (cc)
then_some f (Some x) y e = (x, refl, e)

-- the lines of parts that are field lines are printed fields
pub record AreFields (parts : List (List ℕ)) (fs : List Field) : Type 0 where
  pub fields : List Line
  pub valid : All IsField fields
  pub printed : flat_map with_lf parts ≡ flat_map print_field fields
  pub parsed_are : map parsed_field fields ≡ fs
  pub lines : map without_cr parts ≡ map line_of fields
  pub count : length fields ≡ length parts

pub fields_back : (parts : List (List ℕ)) (fs : List Field) → fields_of (map without_cr parts) ≡ Some fs → AreFields parts fs
fields_back [] fs e = record { fields = []; valid = All-nil IsField; printed = refl; parsed_are = cc; lines = refl; count = refl }
fields_back (part ∷ parts) fs e =
    let one = then_some _ (field_of (without_cr part)) fs e in
    let rest = map_some (λ (ts : List Field). one.0 ∷ ts) (fields_of (map without_cr parts)) fs one.2 in
    let field = field_back (without_cr part) one.0 one.1 in
    let later = fields_back parts rest.0 rest.1 in
    let ending = part_end part in
    let g : Line = record { name = one.0.name; raw = field.0; end = ending.0 } in
    record {
      fields = g ∷ later.fields;
      valid = All-cons IsField g later.fields (record { name = field.2; raw = field.3 }) later.valid;
      printed = λ i. (ending.1 ∙ ap (λ (l : List ℕ). l ++ print_end ending.0) field.1) i ++ later.printed i;
      parsed_are =
          let same : parsed_field g ≡ one.0 = (λ i. record { name = one.0.name; value = sym field.4 i }) in
          (λ i. same i ∷ later.parsed_are i) ∙ rest.2;
      lines = λ i. field.1 i ∷ later.lines i;
      count = ap (λ (n : ℕ). suc n) later.count;
    }

-- ---- the head

abbrev pub request_line_text : RequestHead → List ℕ
request_line_text r = r.method ++ 32 ∷ (r.target ++ 32 ∷ print_version r.minor)

version_plain : (minor : ℕ) → minor ≤ 1 → IsPlain (print_version minor)
version_plain zero le = plain_from is_uri_byte refl refl (print_version 0) (AllPass-from_list_all is_uri_byte (print_version 0) refl)
version_plain (suc zero) le = plain_from is_uri_byte refl refl (print_version 1) (AllPass-from_list_all is_uri_byte (print_version 1) refl)
version_plain (suc (suc n)) le = absurd (omega arith)

request_line_plain : (r : RequestHead) → IsRequestHead r → IsPlain (request_line_text r)
request_line_plain r is =
    let P : ℕ → Type 0 = λ b. is_newline b ≡ false in
    All-append P r.method (32 ∷ (r.target ++ 32 ∷ print_version r.minor))
    (λ k d below. token_is_no_newline _ (is.method.1 k d below))
    (All-cons P 32 (r.target ++ 32 ∷ print_version r.minor) refl
    (All-append P r.target (32 ∷ print_version r.minor) (plain_from is_uri_byte refl refl r.target is.target.1)
    (All-cons P 32 (print_version r.minor) refl (version_plain r.minor is.minor))))

abbrev pub head_with : RequestLine → List Field → Head
head_with s fs = record { method = s.method; target = s.target; version = s.version; fields = fs }

abbrev pub head_lines : RequestHead → List (List ℕ)
head_lines r = request_line_text r ∷ map line_of r.fields

head_printed : (r : RequestHead)
    → flat_map with_lf (part_of (request_line_text r) r.line_end ∷ map field_part r.fields)
    ≡ (request_line_text r ++ print_end r.line_end) ++ flat_map print_field r.fields
head_printed r = λ i. part_printed (request_line_text r) r.line_end i ++ fields_printed r.fields i

-- a head with no empty line before it, printed
request_text : (r : RequestHead) (rest : List ℕ) → r.blank ≡ []
    → print_request r ++ rest ≡ ((request_line_text r ++ print_end r.line_end) ++ flat_map print_field r.fields) ++ (print_end r.last ++ rest)
request_text r rest blank =
    print_request-append r rest
    ∙ ap (λ (b : List LineEnd). print_blank b ++ (r.method ++ 32 ∷ (r.target ++ 32 ∷ (print_version r.minor
    ++ (print_end r.line_end ++ (print_section r.fields r.last ++ rest)))))) blank
    ∙ regroup r.method r.target (print_version r.minor) (print_end r.line_end) (flat_map print_field r.fields) (print_end r.last) rest
  where
    regroup : (a b c d e f t : List ℕ)
        → a ++ 32 ∷ (b ++ 32 ∷ (c ++ (d ++ ((e ++ f) ++ t)))) ≡ (((a ++ 32 ∷ (b ++ 32 ∷ c)) ++ d) ++ e) ++ (f ++ t)
    regroup a b c d e f t = simp (append_assoc, cons-append)

-- A head of the grammar with no empty line before it is a front, and its lines are a head that says the same.
pub head_front : (bytes : List ℕ) (r : RequestHead) (rest : List ℕ) → r.blank ≡ [] → ReadsRequest bytes r rest
    → front_of bytes ≡ Some (record { lines = head_lines r; len = length (print_request r) })
head_front bytes r rest blank x =
    let parts = part_of (request_line_text r) r.line_end ∷ map field_part r.fields in
    let plain = request_line_plain r x.0 in
    let some : 0 < length (request_line_text r) = omega (arith, x.0.method.0, length-append r.method (32 ∷ (r.target ++ 32 ∷ print_version r.minor))) in
    let printed = head_printed r in
    let text : bytes ≡ flat_map with_lf parts ++ (with_lf (part_of [] r.last) ++ rest) =
    x.1 ∙ request_text r rest blank ∙ (λ i. sym printed i ++ (sym (part_printed [] r.last) i ++ rest)) in
    front_from_HasFront bytes _ (record {
      parts = parts;
      last = part_of [] r.last;
      rest = rest;
      text_is = text;
      lines_are = (λ i. sym (without_cr_part (request_line_text r) r.line_end plain) i ∷ sym (fields_lines r.fields x.0.fields) i);
      len_is = omega (
        arith,
        ap length text,
        ap length x.1,
        length-append (print_request r) rest,
        length-append (flat_map with_lf parts) (with_lf (part_of [] r.last) ++ rest),
        length-append (with_lf (part_of [] r.last)) rest,
        length-append (part_of [] r.last) (10 ∷ []),
      );
      each = All-cons IsFilled _ (map field_part r.fields) (part_filled (request_line_text r) r.line_end plain some) (fields_filled r.fields x.0.fields);
      ends = record { no_lf = part_no_lf [] r.last (All-nil (λ b. is_newline b ≡ false)); none = without_cr_part [] r.last (All-nil (λ b. is_newline b ≡ false)) };
    })

pub head_again : (r : RequestHead) → IsRequestHead r → head_of (head_lines r) ≡ Some (parsed_head r)
head_again r is =
    ap (option_and_then (λ (s : RequestLine). option_map (λ (fs : List Field). head_with s fs) (fields_of (map line_of r.fields))))
    (request_line_again r.method r.target r.minor is.method is.target is.target_text is.minor)
    ∙ ap (option_map (λ (fs : List Field). head_with (record { method = r.method; target = r.target; version = version_named r.minor }) fs))
    (fields_again r.fields is.fields)

-- The lines of these parts are a head of the grammar, which ends so.
pub record IsHeadOf (parts : List (List ℕ)) (h : Head) (last : LineEnd) : Type 0 where
  pub head : RequestHead
  pub valid : IsRequestHead head
  pub blank : head.blank ≡ []
  pub ending : head.last ≡ last
  pub says : parsed_head head ≡ h
  pub printed : flat_map with_lf parts ≡ (request_line_text head ++ print_end head.line_end) ++ flat_map print_field head.fields
  pub lines : map without_cr parts ≡ head_lines head

head_of_parts : (parts : List (List ℕ)) (h : Head) (last : LineEnd) → head_of (map without_cr parts) ≡ Some h → IsHeadOf parts h last
head_of_parts [] h last e = absurd (cc)
head_of_parts (part ∷ parts) h last e =
    let one = then_some (λ (s : RequestLine). option_map (λ (fs : List Field). head_with s fs) (fields_of (map without_cr parts)))
    (request_line_of (without_cr part)) h e in
    let all = map_some (λ (fs : List Field). head_with one.0 fs) (fields_of (map without_cr parts)) h one.2 in
    let start = request_line_back (without_cr part) one.0 one.1 in
    let fields = fields_back parts all.0 all.1 in
    let ending = part_end part in
    record {
      head = record {
        blank = [];
        method = one.0.method;
        target = one.0.target;
        minor = start.0;
        line_end = ending.0;
        fields = fields.fields;
        last = last;
      };
      valid = record { method = start.4; target = start.5; target_text = start.6; minor = start.1; fields = fields.valid };
      blank = refl;
      ending = refl;
      says =
          (λ i. record { method = one.0.method; target = one.0.target; version = start.3 i; fields = fields.parsed_are i })
          ∙ all.2;
      printed = λ i. (ending.1 ∙ ap (λ (l : List ℕ). l ++ print_end ending.0) start.2) i ++ fields.printed i;
      lines = λ i. start.2 i ∷ fields.lines i;
    }

-- Lines that are a head are a head of the grammar.
pub record IsRead (bytes : List ℕ) (f : Front) (h : Head) : Type 0 where
  pub head : RequestHead
  pub rest : List ℕ
  pub reads : ReadsRequest bytes head rest
  pub blank : head.blank ≡ []
  pub says : parsed_head head ≡ h
  pub lines : f.lines ≡ head_lines head
  pub len : f.len ≡ length (print_request head)

pub head_back : (bytes : List ℕ) (f : Front) (h : Head) → front_of bytes ≡ Some f → head_of f.lines ≡ Some h → IsRead bytes f h
head_back bytes f h front e =
    let shape = front_shape bytes f front in
    let last = part_end shape.last in
    let whole = head_of_parts shape.parts h last.0 (ap head_of (sym shape.lines_are) ∙ e) in
    let r = whole.head in
    let ending : with_lf shape.last ≡ print_end r.last =
    last.1 ∙ (λ i. shape.ends.none i ++ print_end last.0) ∙ ap print_end (sym whole.ending) in
    let text : bytes ≡ print_request r ++ shape.rest =
    shape.text_is ∙ (λ i. whole.printed i ++ (ending i ++ shape.rest)) ∙ sym (request_text r shape.rest whole.blank) in
    record {
      head = r;
      rest = shape.rest;
      reads = (whole.valid, text);
      blank = whole.blank;
      says = whole.says;
      lines = shape.lines_are ∙ whole.lines;
      len = omega (
        arith,
        ap length text,
        ap length shape.text_is,
        shape.len_is,
        length-append (print_request r) shape.rest,
        length-append (flat_map with_lf shape.parts) (with_lf shape.last ++ shape.rest),
        length-append (with_lf shape.last) shape.rest,
        length-append shape.last (10 ∷ []),
      );
    }
