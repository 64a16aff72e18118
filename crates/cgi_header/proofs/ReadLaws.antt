-- A header of the grammar that is taken is read.
use Rattle.std.proofs.Common.{◌≡◌, ℕ, ◌<◌, false, List, [], ◌∷◌, ◌++◌, length, filter, map, flat_map, refl, sym, ap, ◌∙◌, subst, arith, append_assoc, length-append, Option, Some, None}
use Rattle.std.specs.List.{All, filter_map, cons_option}
use Rattle.std.proofs.lemmas.List.Elements.{All-head, All-tail, All-cons, All-nil, All-append}
use Rattle.httparse.specs.Grammar.{is_value_byte, LineEnd, Field as Line, print_field, IsField, print_section}
use Rattle.httparse.specs.Pieces.{is_newline}
use Rattle.httparse.proofs.PieceLemmas.{token_is_no_newline}
use Rattle.host_base.specs.declared.fields.Field.{Field}
use Rattle.head_lines.specs.Lines.{with_lf, without_cr, IsFilled, Front, front_of}
use Rattle.head_lines.proofs.FrontLaws.{front_from_HasFront}
use Rattle.head_reader.specs.RequestHead.{field_of}
use Rattle.head_reader.specs.HeadLaws.{parsed_field}
use Rattle.head_reader.proofs.HeadLaws.{IsPlain, plain_from, part_of, part_printed, without_cr_part, part_no_lf, part_filled, line_of, field_part, fields_again}
use Rattle.head_reader.proofs.WordLaws.{field_again}
use Rattle.cgi_header.specs.declared.header.HdrStep.TheVariants.{Whole}
use Rattle.cgi_header.specs.ScriptHeader.{most_header, has_value, step_by_fault, step_by_front, fields_of_lines, first_fault, head_of}
use Rattle.cgi_header.specs.HeaderRules.{AreTaken, HeadersAreRead}
use Rattle.cgi_header.proofs.StayLaws.{read_by, front_within}
use Rattle.cgi_header.proofs.TakenLaws.{lines_taken}

-- ---- the lines of a section of the grammar

line_plain : (g : Line) → IsField g → IsPlain (line_of g)
line_plain g is = All-append (λ b. is_newline b ≡ false) g.name (58 ∷ g.raw)
    (λ k d below. token_is_no_newline _ (is.name.1 k d below))
    (All-cons (λ b. is_newline b ≡ false) 58 g.raw refl (plain_from is_value_byte refl refl g.raw is.raw))

section_filled : (gs : List Line) → All IsField gs → All IsFilled (map field_part gs)
section_filled [] all = All-nil IsFilled
section_filled (g ∷ gs) all =
    let first = All-head IsField g gs all in
    let some : 0 < length (line_of g) = omega (arith, length-append g.name (58 ∷ g.raw)) in
    All-cons IsFilled (field_part g) (map field_part gs) (part_filled (line_of g) g.end (line_plain g first) some)
    (section_filled gs (All-tail IsField g gs all))

section_printed : (gs : List Line) → flat_map with_lf (map field_part gs) ≡ flat_map print_field gs
section_printed [] = refl
section_printed (g ∷ gs) = λ i. part_printed (line_of g) g.end i ++ section_printed gs i

section_lines : (gs : List Line) → All IsField gs → map without_cr (map field_part gs) ≡ map line_of gs
section_lines [] all = refl
section_lines (g ∷ gs) all =
    let first = without_cr_part (line_of g) g.end (line_plain g (All-head IsField g gs all)) in
    let later = section_lines gs (All-tail IsField g gs all) in
    λ i. first i ∷ later i

section_fields : (gs : List Line) → All IsField gs → filter_map field_of (map line_of gs) ≡ map parsed_field gs
section_fields [] all = refl
section_fields (g ∷ gs) all =
    let first = All-head IsField g gs all in
    ap (λ (o : Option Field). cons_option o (filter_map field_of (map line_of gs))) (field_again g.name g.raw first.name first.raw)
    ∙ ap (λ (fs : List Field). parsed_field g ∷ fs) (section_fields gs (All-tail IsField g gs all))

-- ---- the section at the front of an output

section_front : (gs : List Line) (last : LineEnd) (more : List ℕ) → All IsField gs
    → front_of (print_section gs last ++ more) ≡ Some (record { lines = map line_of gs; len = length (print_section gs last) })
section_front gs last more valid =
    let parts = map field_part gs in
    let ended = part_of [] last in
    let section : print_section gs last ≡ flat_map with_lf parts ++ with_lf ended =
    (λ i. sym (section_printed gs) i ++ sym (part_printed [] last) i) in
    let text : print_section gs last ++ more ≡ flat_map with_lf parts ++ (with_lf ended ++ more) =
    ap (λ (l : List ℕ). l ++ more) section ∙ append_assoc (flat_map with_lf parts) (with_lf ended) more in
    front_from_HasFront (print_section gs last ++ more) _ (record {
      parts = parts;
      last = ended;
      rest = more;
      text_is = text;
      lines_are = sym (section_lines gs valid);
      len_is = omega (
        arith,
        ap (λ (l : List ℕ). length l) section,
        length-append (flat_map with_lf parts) (with_lf ended),
        length-append ended (10 ∷ []),
      );
      each = section_filled gs valid;
      ends = record { no_lf = part_no_lf [] last (All-nil (λ b. is_newline b ≡ false)); none = without_cr_part [] last (All-nil (λ b. is_newline b ≡ false)) };
    })

pub headers_are_read : HeadersAreRead
headers_are_read gs last more valid within taken =
    let section = print_section gs last in
    let front : Front = record { lines = map line_of gs; len = length section } in
    let at = front_within (section ++ more) front most_header (section_front gs last more valid) within in
    let fields : fields_of_lines (map line_of gs) ≡ filter has_value (map parsed_field gs) = ap (filter has_value) (section_fields gs valid) in
    let none : first_fault [] (map line_of gs) ≡ None =
    lines_taken [] (map line_of gs) (map parsed_field gs) (fields_again gs valid) (subst AreTaken (sym fields) taken) in
    read_by (section ++ more) ∙ ap (step_by_front (length (section ++ more))) at
    ∙ ap (step_by_fault (length section) (map line_of gs)) none
    ∙ ap (λ (fs : List Field). Whole (head_of fs) (length section)) fields
