-- What more bytes change of a header, and what one is.
use Rattle.std.proofs.Common.{◌≡◌, ℕ, ◌<◌, ◌≤◌, List, [], ◌∷◌, ◌++◌, length, take, drop, refl, sym, ap, ◌∙◌, arith, leb, take-append-drop, length-append, append_assoc, append-nil, Option, Some, None, inl, inr}
use Rattle.std.specs.Option.{option_or}
use Rattle.std.proofs.lemmas.List.{length-take, take-append-le, take-take, take_all}
use Rattle.std.proofs.lemmas.Bool.{cond-true, cond-false, leb-false, le-leb, lt-leb, cases_lt}
use Rattle.host_base.specs.declared.cause.Cause.{Cause}
use Rattle.host_base.proofs.SplitLaws.{chosen}
use Rattle.head_lines.specs.Lines.{Front, front_of}
use Rattle.head_lines.proofs.FrontLaws.{front-append, front-take}
use Rattle.cgi_header.specs.declared.header.HdrStep.TheVariants.{More}
use Rattle.cgi_header.specs.ScriptHeader.{most_header, read_header, step_by_fault, step_by_front, first_fault, fault_of_line}
use Rattle.cgi_header.specs.HeaderRules.{MoreIsOpen, HeadersStay, IsFirstFault, FaultsAreFirst}

-- a front within a limit is that of the first bytes
pub front_within : (text : List ℕ) (f : Front) (most : ℕ) → front_of text ≡ Some f → f.len ≤ most → front_of (take most text) ≡ Some f
front_within text f most is fits =
    let cut = front-take text f is in
    let whole : take f.len (take most text) ≡ take f.len text = take-take f.len most text fits in
    ap front_of (sym (take-append-drop f.len (take most text)) ∙ ap (λ (t : List ℕ). t ++ drop f.len (take most text)) whole)
    ∙ front-append (take f.len text) (drop f.len (take most text)) f cut.1

pub read_by : (output : List ℕ) → read_header output ≡ step_by_front (length output) (front_of (take most_header output))
unfolding read_header
read_by output = refl

fault_is_no_more : (used : ℕ) (lines : List (List ℕ)) (fault : Option Cause) → step_by_fault used lines fault ≡ More → ⊥
fault_is_no_more used lines None is = absurd (cc)
fault_is_no_more used lines (Some cause) is = absurd (cc)

open_by : (output : List ℕ) (o : Option Front) → front_of (take most_header output) ≡ o → step_by_front (length output) o ≡ More
    → (front_of output ≡ None) × (length output < most_header)
open_by output None is told =
    elim (chosen (leb most_header (length output)) _ _ _ told) [
      | inl long ↦ absurd (cc long.1)
      | inr low ↦
          let short : length output < most_header = leb-false _ _ low.0 in
          (ap front_of (sym (take_all most_header output (omega arith))) ∙ is, short)
    ]
open_by output (Some f) is told = absurd (fault_is_no_more f.len f.lines (first_fault [] f.lines) told)

pub more_is_open : MoreIsOpen
more_is_open output = (there, back)
  where
    there : read_header output ≡ More → (front_of output ≡ None) × (length output < most_header)
    there is = open_by output (front_of (take most_header output)) refl (sym (read_by output) ∙ is)

    back : (front_of output ≡ None) × (length output < most_header) → read_header output ≡ More
    back open_yet =
        let short : length output < most_header = open_yet.1 in
        read_by output
        ∙ ap (step_by_front (length output)) (ap front_of (take_all most_header output (omega arith)) ∙ open_yet.0)
        ∙ cond-false _ _ _ (lt-leb _ _ short)

pub headers_stay : HeadersStay
headers_stay output more other = go (front_of (take most_header output)) refl
  where
    go : (o : Option Front) → front_of (take most_header output) ≡ o → read_header (output ++ more) ≡ read_header output
    go None is =
        elim (cases_lt (length output) most_header) [
          | inl short ↦
              absurd (other (read_by output ∙ ap (step_by_front (length output)) is ∙ cond-false _ _ _ (lt-leb _ _ short)))
          | inr long ↦
              let same : front_of (take most_header (output ++ more)) ≡ None = ap front_of (take-append-le most_header output more long) ∙ is in
              let still : most_header ≤ length (output ++ more) = omega (arith, length-append output more) in
              read_by (output ++ more) ∙ ap (step_by_front (length (output ++ more))) same ∙ cond-true _ _ _ (le-leb _ _ still)
              ∙ sym (read_by output ∙ ap (step_by_front (length output)) is ∙ cond-true _ _ _ (le-leb _ _ long))
        ]
    go (Some f) is =
        let cut = front-take (take most_header output) f is in
        let whole : front_of output ≡ Some f =
        ap front_of (sym (take-append-drop most_header output)) ∙ front-append (take most_header output) (drop most_header output) f is in
        let again = front_within (output ++ more) f most_header (front-append output more f whole)
        (omega (arith, cut.0, length-take most_header output)) in
        read_by (output ++ more) ∙ ap (step_by_front (length (output ++ more))) again
        ∙ sym (read_by output ∙ ap (step_by_front (length output)) is)

-- ---- the first line that is refused

-- of lines after others, one is refused and none before it
record IsRefusedAfter (before lines : List (List ℕ)) (cause : Cause) : Type 0 where
  taken : List (List ℕ)
  line : List ℕ
  after : List (List ℕ)
  whole : lines ≡ taken ++ line ∷ after
  none : first_fault before taken ≡ None
  refused : fault_of_line (before ++ taken) line ≡ Some cause

refused_later : (before : List (List ℕ)) (line : List ℕ) (lines : List (List ℕ)) (cause : Cause) → fault_of_line before line ≡ None
    → IsRefusedAfter (before ++ line ∷ []) lines cause → IsRefusedAfter before (line ∷ lines) cause
refused_later before line lines cause none later = record {
  taken = line ∷ later.taken;
  line = later.line;
  after = later.after;
  whole = ap (λ (ls : List (List ℕ)). line ∷ ls) later.whole;
  none = ap (λ (o : Option Cause). option_or o (first_fault (before ++ line ∷ []) later.taken)) none ∙ later.none;
  refused = ap (λ (ls : List (List ℕ)). fault_of_line ls later.line) (sym (append_assoc before (line ∷ []) later.taken)) ∙ later.refused;
}

refused_here : (before : List (List ℕ)) (line : List ℕ) (lines : List (List ℕ)) (cause : Cause) → fault_of_line before line ≡ Some cause
    → IsRefusedAfter before (line ∷ lines) cause
refused_here before line lines cause here = record {
  taken = [];
  line = line;
  after = lines;
  whole = refl;
  none = refl;
  refused = ap (λ (ls : List (List ℕ)). fault_of_line ls line) (append-nil before) ∙ here;
}

first_refused : (before lines : List (List ℕ)) (cause : Cause) → first_fault before lines ≡ Some cause → IsRefusedAfter before lines cause
first_refused before [] cause is = absurd (cc is)
first_refused before (line ∷ lines) cause is =
    go (fault_of_line before line) refl is (first_refused (before ++ line ∷ []) lines cause)
  where
    go : (o : Option Cause) → fault_of_line before line ≡ o → option_or o (first_fault (before ++ line ∷ []) lines) ≡ Some cause
        → (first_fault (before ++ line ∷ []) lines ≡ Some cause → IsRefusedAfter (before ++ line ∷ []) lines cause)
        → IsRefusedAfter before (line ∷ lines) cause
    go None at is later = refused_later before line lines cause at (later is)
    go (Some other) at is later = refused_here before line lines cause (at ∙ is)

first_fault-append : (before taken lines : List (List ℕ)) → first_fault before taken ≡ None
    → first_fault before (taken ++ lines) ≡ first_fault (before ++ taken) lines
first_fault-append before [] lines none = ap (λ (ls : List (List ℕ)). first_fault ls lines) (sym (append-nil before))
first_fault-append before (line ∷ taken) lines none =
    go (fault_of_line before line) refl none (first_fault-append (before ++ line ∷ []) taken lines)
  where
    go : (o : Option Cause) → fault_of_line before line ≡ o → option_or o (first_fault (before ++ line ∷ []) taken) ≡ None
        → (first_fault (before ++ line ∷ []) taken ≡ None
        → first_fault (before ++ line ∷ []) (taken ++ lines) ≡ first_fault ((before ++ line ∷ []) ++ taken) lines)
        → first_fault before (line ∷ taken ++ lines) ≡ first_fault (before ++ line ∷ taken) lines
    go None at none later =
        ap (λ (o : Option Cause). option_or o (first_fault (before ++ line ∷ []) (taken ++ lines))) at ∙ later none
        ∙ ap (λ (ls : List (List ℕ)). first_fault ls lines) (append_assoc before (line ∷ []) taken)
    go (Some other) at none later = absurd (cc none)

pub faults_are_first : FaultsAreFirst
faults_are_first lines cause = (there, back)
  where
    there : first_fault [] lines ≡ Some cause → IsFirstFault lines cause
    there is =
        let first = first_refused [] lines cause is in
        record {
          before = first.taken;
          line = first.line;
          after = first.after;
          whole = first.whole;
          taken = first.none;
          refused = first.refused;
        }

    back : IsFirstFault lines cause → first_fault [] lines ≡ Some cause
    back first =
        ap (first_fault []) first.whole ∙ first_fault-append [] first.before (first.line ∷ first.after) first.taken
        ∙ ap (λ (o : Option Cause). option_or o (first_fault (first.before ++ first.line ∷ []) first.after)) first.refused
