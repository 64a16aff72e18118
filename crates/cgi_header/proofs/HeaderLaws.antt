-- The reading of a header line by line.
use Rattle.std.proofs.Common.{◌≡◌, ◌≢◌, ℕ, ◌+◌, ◌<◌, ◌≤◌, true, false, List, [], ◌∷◌, ◌++◌, length, take, drop, filter, map, slice_get, refl, sym, ap, ◌∙◌, arith, append_assoc, append-nil, take-append-drop, get_or, get_or-take, Option, Some, None, option_map, IfSome}
use Rattle.std.specs.Option.{option_or}
use Rattle.std.specs.List.{cons_option, filter_map, position}
use Rattle.std.proofs.lemmas.List.{nil_from_length, drop_more, length-take, length-take-le, take-take}
use Rattle.std.proofs.lemmas.List.Elements.{All-from_get_or, filter_map-append, filter-append}
use Rattle.std.proofs.lemmas.List.Splits.{slice_split_none}
use Rattle.std.proofs.lemmas.List.Sums.{fails_before_first}
use Rattle.std.proofs.lemmas.List.Quantifiers.{position-Some}
use Rattle.std.proofs.lemmas.Option.{none-some, same_Some}
use Rattle.std.proofs.lemmas.Bool.{eqb-true, cond-true, cond-false, le-leb, lt-leb}
use Rattle.host_base.specs.declared.cause.Cause.{Cause}
use Rattle.host_base.specs.declared.cause.Cause.TheVariants.{HeaderTooLarge}
use Rattle.host_base.specs.declared.fields.Field.{Field}
use Rattle.host_base.specs.declared.memory.Refusal.{Refusal}
use Rattle.host_base.specs.declared.memory.Refusal.TheVariants as Refused
use Rattle.host_base.specs.FieldLists.{is_named, value_of}
use Rattle.head_lines.specs.Lines.{is_lf, without_cr, with_lf, with_line, HasNoLf, Front, front_of, front_len, front_of_parts}
use Rattle.head_lines.proofs.FrontLaws.{front_alone, front_filled, front_empty, front_part, front-take, map_some}
use Rattle.head_reader.specs.RequestHead.{field_of}
use Rattle.cgi_header.specs.ScriptHeader.{most_header, read_header, step_by_fault, step_by_front, has_value, fields_of_lines, sent_fields, fault_of, fault_of_line, first_fault, value_named}
use Rattle.cgi_header.specs.declared.header.HdrStep.{HdrStep}
use Rattle.cgi_header.specs.declared.header.HdrStep.TheVariants as steps
use Rattle.cgi_header.specs.HeaderLines.{IsCutLine, IsRefusal}
use Rattle.cgi_header.proofs.LineLaws.{place_none}

-- ---- the first line of a text

no_lf_before : (text : List ℕ) (at : ℕ) → at ≤ length text → ((k : ℕ) → k < at → is_lf (get_or text k 0) ≡ false) → HasNoLf (take at text)
no_lf_before text at within none =
    All-from_get_or (λ b. is_lf b ≡ false) (take at text) 0 λ k below.
    let inside : k < at = omega (arith, length-take at text) in
    rw get_or-take (none k inside)

cut_whole : (text : List ℕ) (at : ℕ) → at < length text → is_lf (get_or text at 0) ≡ true → text ≡ with_lf (take at text) ++ drop (at + 1) text
cut_whole text at within lf =
    sym (take-append-drop at text)
    ∙ ap (λ (l : List ℕ). take at text ++ l) (drop_more text at 0 within ∙ ap (λ (b : ℕ). b ∷ drop (at + 1) text) (eqb-true _ _ lf))
    ∙ sym (append_assoc (take at text) (10 ∷ []) (drop (at + 1) text))

pub cut_at : (text line rest : List ℕ) (at : ℕ) → position is_lf text ≡ Some at → line ≡ without_cr (take at text) → rest ≡ drop (at + 1) text
    → IsCutLine text line rest
cut_at text line rest at is line_is rest_is =
    let found = position-Some is_lf text at 0 is in
    record {
      part = take at text;
      whole = cut_whole text at found.0 found.1 ∙ ap (λ (l : List ℕ). with_lf (take at text) ++ l) (sym rest_is);
      no_lf = no_lf_before text at (omega (arith, found.0)) found.2;
      is = sym line_is;
    }

pub no_lf_at : (text : List ℕ) → position is_lf text ≡ None → HasNoLf text
no_lf_at text is =
    let past = place_none is_lf text is in
    All-from_get_or (λ b. is_lf b ≡ false) text 0 λ k below. fails_before_first is_lf text k 0 (omega arith)

-- ---- a header within a limit

-- the first bytes of a text up to a limit have a front of so many bytes
pub record IsWithin (text : List ℕ) (most len : ℕ) : Type 0 where
  pub front : Front
  pub at : front_of (take most text) ≡ Some front
  pub is : front.len ≡ len
  pub own : front_of (take len text) ≡ Some front
  pub whole : front.len ≡ length (take len text)
  pub fits : len ≤ length text

pub within_at : (text : List ℕ) (most len : ℕ) → front_len (take most text) ≡ Some len → IsWithin text most len
within_at text most len e =
    let found = map_some (λ (f : Front). f.len) (front_of (take most text)) len e in
    let f = found.0 in
    let cut = front-take (take most text) f found.1 in
    let within : len ≤ most = omega (arith, cut.0, found.2, length-take most text) in
    let fits : len ≤ length text = omega (arith, cut.0, found.2, length-take most text) in
    let same : take f.len (take most text) ≡ take len text =
    ap (λ (n : ℕ). take n (take most text)) found.2 ∙ take-take len most text within in
    record {
      front = f;
      at = found.1;
      is = found.2;
      own = ap front_of (sym same) ∙ cut.1;
      whole = found.2 ∙ sym (length-take-le len text fits);
      fits = fits;
    }

pub len_within : (text : List ℕ) (most : ℕ) (o : Option ℕ) → o ≡ front_len (take most text) → IfSome o (λ len. len ≤ length text)
len_within text most None e = tt
len_within text most (Some len) e = (within_at text most len (sym e)).fits

map_none : {A B : Type 0} (g : A → B) (o : Option A) → option_map g o ≡ None → o ≡ None
map_none g None e = refl
map_none g (Some x) e = absurd (cc)

pub read_at : (output : List ℕ) (len : ℕ) (step : HdrStep) → front_len (take most_header output) ≡ Some len
    → ((front : Front) → front_of (take len output) ≡ Some front → front.len ≡ length (take len output)
    → step ≡ step_by_fault front.len front.lines (first_fault [] front.lines))
    → step ≡ read_header output
unfolding read_header
read_at output len step e by_lines =
    let found = within_at output most_header len e in
    by_lines found.front found.own found.whole ∙ sym (ap (step_by_front (length output)) found.at)

pub read_none_at : (output : List ℕ) → front_len (take most_header output) ≡ None → step_by_front (length output) None ≡ read_header output
unfolding read_header
read_none_at output e = sym (ap (step_by_front (length output)) (map_none (λ (f : Front). f.len) (front_of (take most_header output)) e))

pub too_large : (output : List ℕ) → front_len (take most_header output) ≡ None → most_header ≤ length output
    → steps.Bad HeaderTooLarge ≡ read_header output
too_large output e long = sym (cond-true _ _ _ (le-leb _ _ long)) ∙ read_none_at output e

pub still_open : (output : List ℕ) → front_len (take most_header output) ≡ None → length output < most_header → steps.More ≡ read_header output
still_open output e short = sym (cond-false _ _ _ (lt-leb _ _ short)) ∙ read_none_at output e

-- ---- the first field of a name

abbrev pub valued_at : List ℕ → List Field → ℕ → Option (List ℕ)
valued_at name fields i = value_named name (drop i fields)

pub named_here : (name : List ℕ) (fields : List Field) (i : ℕ) (f : Field) → i < length fields → f ≡ get_or fields i f → is_named name f ≡ true
    → valued_at name fields i ≡ Some f.value
named_here name fields i f within at named =
    ap (value_named name) (drop_more fields i f within ∙ ap (λ (g : Field). g ∷ drop (i + 1) fields) (sym at))
    ∙ ap (λ (fs : List Field). slice_get (map value_of fs) 0) (cond-true _ _ _ named)

pub named_later : (name : List ℕ) (fields : List Field) (i : ℕ) (f : Field) → i < length fields → f ≡ get_or fields i f → is_named name f ≡ false
    → valued_at name fields i ≡ valued_at name fields (i + 1)
named_later name fields i f within at other =
    ap (value_named name) (drop_more fields i f within ∙ ap (λ (g : Field). g ∷ drop (i + 1) fields) (sym at))
    ∙ ap (λ (fs : List Field). slice_get (map value_of fs) 0) (cond-false _ _ _ other)

-- ---- the lines that were read

-- of the lines of a header some were read, which are these fields, and the rest is still to be read
pub record IsRead (lines : List (List ℕ)) (rest : List ℕ) (fields : List Field) : Type 0 where
  pub before : List (List ℕ)
  pub left : Front
  pub at : front_of rest ≡ Some left
  pub whole : before ++ left.lines ≡ lines
  pub read : fields ≡ fields_of_lines before
  pub fault : first_fault before left.lines ≡ first_fault [] lines

pub read_none : (header : List ℕ) (front : Front) → front_of header ≡ Some front → IsRead front.lines header []
read_none header front is = record { before = []; left = front; at = is; whole = refl; read = refl; fault = refl }

pub fields-more : (before : List (List ℕ)) (line : List ℕ) → fields_of_lines (before ++ line ∷ []) ≡ fields_of_lines before ++ sent_fields (field_of line)
fields-more before line =
    ap (filter has_value) (filter_map-append field_of before (line ∷ []))
    ∙ filter-append has_value (filter_map field_of before) (filter_map field_of (line ∷ []))
    ∙ ap (λ (fs : List Field). fields_of_lines before ++ fs) (by_field (field_of line))
  where
    by_field : (o : Option Field) → filter has_value (cons_option o []) ≡ sent_fields o
    by_field None = refl
    by_field (Some f) = refl

-- what a line that is not empty leaves
pub record IsNext (lines : List (List ℕ)) (line rest : List ℕ) (before : List (List ℕ)) : Type 0 where
  pub left : Front
  pub at : front_of rest ≡ Some left
  pub whole : before ++ line ∷ left.lines ≡ lines
  pub fault : first_fault before (line ∷ left.lines) ≡ first_fault [] lines

next_line : (lines : List (List ℕ)) (text line rest : List ℕ) (fields : List Field) → (read : IsRead lines text fields) → IsCutLine text line rest
    → length line ≢ 0 → IsNext lines line rest read.before
next_line lines text line rest fields read cut other =
    let some : 0 < length (without_cr cut.part) = omega (arith, other, ap (λ (l : List ℕ). length l) cut.is) in
    let found : option_map (with_line (without_cr cut.part) (length cut.part + 1)) (front_of rest) ≡ Some read.left =
    sym (front_filled cut.part rest some) ∙ sym (front_part cut.part rest cut.no_lf) ∙ ap front_of (sym cut.whole) ∙ read.at in
    let next = map_some (with_line (without_cr cut.part) (length cut.part + 1)) (front_of rest) read.left found in
    let lines_are : line ∷ next.0.lines ≡ read.left.lines =
    ap (λ (l : List ℕ). l ∷ next.0.lines) (sym cut.is) ∙ ap (λ (f : Front). f.lines) next.2 in
    record {
      left = next.0;
      at = next.1;
      whole = ap (λ (ls : List (List ℕ)). read.before ++ ls) lines_are ∙ read.whole;
      fault = ap (first_fault read.before) lines_are ∙ read.fault;
    }

-- one line more is read
pub read_more : (lines : List (List ℕ)) (text line rest : List ℕ) (fields after : List Field) → IsRead lines text fields → IsCutLine text line rest
    → length line ≢ 0 → fault_of fields (field_of line) ≡ None → after ≡ fields ++ sent_fields (field_of line) → IsRead lines rest after
read_more lines text line rest fields after read cut other none grown =
    let next = next_line lines text line rest fields read cut other in
    let no_fault : fault_of_line read.before line ≡ None = ap (λ (fs : List Field). fault_of fs (field_of line)) (sym read.read) ∙ none in
    record {
      before = read.before ++ line ∷ [];
      left = next.left;
      at = next.at;
      whole = append_assoc read.before (line ∷ []) next.left.lines ∙ next.whole;
      read = grown ∙ ap (λ (fs : List Field). fs ++ sent_fields (field_of line)) read.read ∙ sym (fields-more read.before line);
      fault =
          sym (ap (λ (o : Option Cause). option_or o (first_fault (read.before ++ line ∷ []) next.left.lines)) no_fault) ∙ next.fault;
    }

-- a line that is refused is the first one
pub read_fault : (lines : List (List ℕ)) (text line rest : List ℕ) (fields : List Field) (cause : Cause) → IsRead lines text fields → IsCutLine text line rest
    → length line ≢ 0 → fault_of fields (field_of line) ≡ Some cause → first_fault [] lines ≡ Some cause
read_fault lines text line rest fields cause read cut other is =
    let next = next_line lines text line rest fields read cut other in
    let fault : fault_of_line read.before line ≡ Some cause = ap (λ (fs : List Field). fault_of fs (field_of line)) (sym read.read) ∙ is in
    sym next.fault ∙ ap (λ (o : Option Cause). option_or o (first_fault (read.before ++ line ∷ []) next.left.lines)) fault

pub read_refused : (lines : List (List ℕ)) (text line rest : List ℕ) (fields : List Field) → IsRead lines text fields → IsCutLine text line rest
    → length line ≢ 0 → (refusal : Refusal) → IsRefusal (fault_of fields (field_of line)) refusal → IsRefusal (first_fault [] lines) refusal
read_refused lines text line rest fields read cut other (Refused.Cause cause) is = read_fault lines text line rest fields cause read cut other is
read_refused lines text line rest fields read cut other Refused.NoMemory is = tt

-- at the empty line all are read
pub read_all : (lines : List (List ℕ)) (text line rest : List ℕ) (fields : List Field) → IsRead lines text fields → IsCutLine text line rest
    → length line ≡ 0 → (first_fault [] lines ≡ None) × (fields ≡ fields_of_lines lines)
read_all lines text line rest fields read cut empty =
    let nil : without_cr cut.part ≡ [] = cut.is ∙ nil_from_length line empty in
    let found : Some (record { lines = []; len = length cut.part + 1 }) ≡ Some read.left =
    sym (front_empty cut.part rest nil) ∙ sym (front_part cut.part rest cut.no_lf) ∙ ap front_of (sym cut.whole) ∙ read.at in
    let left : read.left.lines ≡ [] = sym (ap (λ (f : Front). f.lines) (same_Some _ _ found)) in
    let before : read.before ≡ lines = sym (append-nil read.before) ∙ ap (λ (ls : List (List ℕ)). read.before ++ ls) (sym left) ∙ read.whole in
    (sym read.fault ∙ ap (first_fault read.before) left, read.read ∙ ap fields_of_lines before)

-- a header does not end without its empty line
pub read_open : (lines : List (List ℕ)) (text : List ℕ) (fields : List Field) → IsRead lines text fields → HasNoLf text → ⊥
read_open lines text fields read none =
    let alone : front_of text ≡ None = ap front_of_parts (slice_split_none is_lf text none) ∙ front_alone text in
    none-some read.left (sym alone ∙ read.at)
