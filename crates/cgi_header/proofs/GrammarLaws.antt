-- A header that is whole is one of the grammar.
use Rattle.std.proofs.Common.{◌≡◌, ℕ, ◌≤◌, List, [], ◌∷◌, ◌++◌, length, take, drop, filter, map, flat_map, refl, sym, ap, ◌∙◌, subst, arith, leb, true, append_assoc, length-append, take-append-drop, Option, Some, None, inl, inr}
use Rattle.std.specs.Option.{is_some, option_or}
use Rattle.std.specs.List.{filter_map}
use Rattle.std.proofs.lemmas.List.{length-take, drop_at}
use Rattle.std.proofs.lemmas.List.Elements.{All-nil}
use Rattle.httparse.specs.Grammar.{print_end, print_field, print_section}
use Rattle.host_base.specs.declared.cause.Cause.{Cause}
use Rattle.host_base.specs.declared.cause.Cause.TheVariants.{HeaderTooLarge}
use Rattle.host_base.specs.declared.fields.Field.{Field}
use Rattle.host_base.proofs.SplitLaws.{chosen}
use Rattle.head_lines.specs.Lines.{with_lf, without_cr, Front, front_of}
use Rattle.head_lines.proofs.FrontLaws.{front-append, front-take, front_shape}
use Rattle.head_reader.specs.RequestHead.{field_of, fields_of}
use Rattle.head_reader.proofs.HeadLaws.{fields_back, part_end}
use Rattle.cgi_header.specs.declared.header.CgiHead.{CgiHead}
use Rattle.cgi_header.specs.declared.header.HdrStep.TheVariants.{Whole, More, Bad}
use Rattle.cgi_header.specs.ScriptHeader.{most_header, is_status, status_of, has_value, read_header, step_by_fault, step_by_front, fields_of_lines, first_fault, fault_of, fault_of_line, head_of}
use Rattle.cgi_header.specs.HeaderRules.{AreTaken, WholesAreHeaders}
use Rattle.cgi_header.proofs.StayLaws.{read_by}
use Rattle.cgi_header.proofs.TakenLaws.{taken_lines}

-- where no line is refused, each is a field
lines_are_fields : (before lines : List (List ℕ)) → first_fault before lines ≡ None → fields_of lines ≡ Some (filter_map field_of lines)
lines_are_fields before [] none = refl
lines_are_fields before (line ∷ lines) none = go (field_of line) (fault_of_line before line) refl refl none (lines_are_fields (before ++ line ∷ []) lines)
  where
    go : (o : Option Field) (fault : Option Cause) → field_of line ≡ o → fault_of_line before line ≡ fault
        → option_or fault (first_fault (before ++ line ∷ []) lines) ≡ None
        → (first_fault (before ++ line ∷ []) lines ≡ None → fields_of lines ≡ Some (filter_map field_of lines))
        → fields_of (line ∷ lines) ≡ Some (filter_map field_of (line ∷ lines))
    go o (Some cause) is at none later = absurd (cc none)
    go None None is at none later = absurd (no_field_refused is at)
      where
        no_field_refused : field_of line ≡ None → fault_of_line before line ≡ None → ⊥
        no_field_refused is at = let refused = sym (ap (fault_of (fields_of_lines before)) is) ∙ at in absurd (cc refused)
    go (Some f) None is at none later = rw (is, later none) refl

-- what a whole header was read from
record IsReadWhole (output : List ℕ) (head : CgiHead) (used : ℕ) : Type 0 where
  front : Front
  at : front_of (take most_header output) ≡ Some front
  long : front.len ≡ used
  taken : first_fault [] front.lines ≡ None
  head_is : head ≡ head_of (fields_of_lines front.lines)

read_whole : (output : List ℕ) (head : CgiHead) (used : ℕ) → read_header output ≡ Whole head used → IsReadWhole output head used
read_whole output head used is = by_front (front_of (take most_header output)) refl (sym (read_by output) ∙ is)
  where
    by_fault : (f : Front) (fault : Option Cause) → front_of (take most_header output) ≡ Some f → first_fault [] f.lines ≡ fault
        → step_by_fault f.len f.lines fault ≡ Whole head used → IsReadWhole output head used
    by_fault f None at taken told = record { front = f; at = at; long = cc; taken = taken; head_is = cc }
    by_fault f (Some cause) at taken told = absurd (cc)

    by_front : (o : Option Front) → front_of (take most_header output) ≡ o → step_by_front (length output) o ≡ Whole head used → IsReadWhole output head used
    by_front None at told =
        elim (chosen (leb most_header (length output)) (Bad HeaderTooLarge) More (Whole head used) told) [
          | inl long ↦ absurd (cc long.1)
          | inr short ↦ absurd (cc short.1)
        ]
    by_front (Some f) at told = by_fault f (first_fault [] f.lines) at refl told

none_taken : AreTaken []
none_taken = record {
  types = omega arith;
  locations = omega arith;
  statuses = omega arith;
  final = All-nil (λ (f : Field). is_status f ≡ true → is_some (status_of f.value) ≡ true);
}

pub wholes_are_headers : WholesAreHeaders
wholes_are_headers output head used is =
    let read = read_whole output head used is in
    let f = read.front in
    let whole : front_of output ≡ Some f =
    ap front_of (sym (take-append-drop most_header output)) ∙ front-append (take most_header output) (drop most_header output) f read.at in
    let shape = front_shape output f whole in
    let fields : fields_of (map without_cr shape.parts) ≡ Some (filter_map field_of f.lines) =
    ap fields_of (sym shape.lines_are) ∙ lines_are_fields [] f.lines read.taken in
    let lines = fields_back shape.parts (filter_map field_of f.lines) fields in
    let ending = part_end shape.last in
    let last : with_lf shape.last ≡ print_end ending.0 = ending.1 ∙ ap (λ (l : List ℕ). l ++ print_end ending.0) shape.ends.none in
    let section : flat_map with_lf shape.parts ++ with_lf shape.last ≡ print_section lines.fields ending.0 =
    ap (λ (l : List ℕ). l ++ with_lf shape.last) lines.printed ∙ ap (λ (l : List ℕ). flat_map print_field lines.fields ++ l) last in
    let text : output ≡ print_section lines.fields ending.0 ++ shape.rest =
    shape.text_is ∙ sym (append_assoc (flat_map with_lf shape.parts) (with_lf shape.last) shape.rest)
    ∙ ap (λ (l : List ℕ). l ++ shape.rest) section in
    let long : used ≡ length (print_section lines.fields ending.0) =
    omega (
      arith,
      read.long,
      shape.len_is,
      ap (λ (l : List ℕ). length l) section,
      length-append (flat_map with_lf shape.parts) (with_lf shape.last),
      length-append shape.last (10 ∷ []),
    ) in
    let rest : drop used output ≡ shape.rest = ap (drop used) text ∙ drop_at (print_section lines.fields ending.0) shape.rest used (sym long) in
    let cut = front-take (take most_header output) f read.at in
    record {
      lines = lines.fields;
      last = ending.0;
      reads = (lines.valid, text ∙ ap (λ (l : List ℕ). print_section lines.fields ending.0 ++ l) (sym rest));
      long = long;
      within = omega (arith, cut.0, read.long, length-take most_header output);
      head_is = read.head_is ∙ ap (λ (fs : List Field). head_of (filter has_value fs)) (sym lines.parsed_are);
      taken = subst (λ (fs : List Field). AreTaken (filter has_value fs)) (sym lines.parsed_are) (taken_lines [] f.lines none_taken read.taken);
    }

-- a whole header is part of its output
pub whole_fits : (output : List ℕ) (head : CgiHead) (used : ℕ) → read_header output ≡ Whole head used → used ≤ length output
whole_fits output head used is =
    let header = wholes_are_headers output head used is in
    omega (arith, header.long, ap (λ (l : List ℕ). length l) header.reads.1, length-append (print_section header.lines header.last) (drop used output))
