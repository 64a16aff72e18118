-- The line of an item is read as that item, and a text is read as the trace whose text it is.
use Rattle.std.proofs.Common.{◌≡◌, ℕ, ◌+◌, ◌<◌, ◌≤◌, ◌∙◌, Bool, true, false, inl, inr, List, [], ◌∷◌, ◌++◌, refl, sym, ap, subst, arith, bytes_eq, length, map, Option, Some, None, Result, Ok, Err, append_assoc, nat_lt, eqb}
use Rattle.std.specs.Prelude.{All, IfOk, count_by}
use Rattle.std.specs.List.{join_with_byte, slice_split}
use Rattle.std.proofs.lemmas.Bool.{cases_Bool, cond-true, cond-false, eqb-true, false≢true, ltb-false}
use Rattle.std.proofs.lemmas.Bool.Decides.{nat_tests}
use Rattle.std.proofs.lemmas.List.{append-nil, length-append, length-map}
use Rattle.std.proofs.lemmas.List.Elements.{All-append, All-cons, All-head, All-nil, All-tail, All-weaker}
use Rattle.std.proofs.lemmas.List.Splits.{join_with_byte-slice_split, length-slice_split, slice_split_at, slice_split_none}
use Rattle.std.proofs.lemmas.Slice.Eq.{bytes_eq-Decides}
use Rattle.host_base.proofs.SplitLaws.{chosen}
use Rattle.host_trace.specs.declared.items.Item.{Item}
use Rattle.host_trace.specs.declared.items.Item.TheVariants.{In, Out}
use Rattle.trace_text.specs.declared.fault.TextFault.{TextFault}
use Rattle.trace_text.specs.declared.fault.TextFault.TheVariants as fault
use Rattle.trace_text.specs.Spelling.{Tokens, begins_with_event, line_of, mark_of, spelled, text_of, tokens_of}
use Rattle.trace_text.specs.Items.{IsItem}
use Rattle.trace_text.specs.Reading.{Reads, event_only, if_line_of, is_lf, is_space, item_at, item_in, likely, lines_in, trace_in, with_item, with_line}
use Rattle.trace_text.proofs.TokenLaws.{AreTokens, IsToken, item_are, mark_is}
use Rattle.trace_text.proofs.BackLaws.{likely_back}

-- ---- one line

not_space : (b : ℕ) → 32 < b → is_space b ≡ false
not_space b above = grind (arith, nat_tests)

not_lf : (b : ℕ) → 32 < b → is_lf b ≡ false
not_lf b above = grind (arith, nat_tests)

no_space : (token : List ℕ) → IsToken token → All (λ b. is_space b ≡ false) token
no_space token h = All-weaker (λ b. 32 < b) (λ b. is_space b ≡ false) not_space token h

split-spelled : (first : List ℕ) (tokens : Tokens) → IsToken first → AreTokens tokens → slice_split is_space (first ++ spelled tokens) ≡ first ∷ tokens
split-spelled first [] h hs = ap (slice_split is_space) (append-nil first) ∙ slice_split_none is_space first (no_space first h)
split-spelled first (token ∷ tokens) h hs =
    slice_split_at is_space first 32 (token ++ spelled tokens) (no_space first h) refl ∙ ap (λ (rest : Tokens). first ∷ rest) (split-spelled token tokens hs.0 hs.1)

bytes_eq_refl : (xs : List ℕ) → bytes_eq xs xs ≡ true
bytes_eq_refl xs = (bytes_eq-Decides xs xs).1 refl

pub item_back : (x : Item) → IsItem x → item_in (line_of x) ≡ Some x
unfolding item_in
item_back x h =
    ap (λ t. if_line_of (line_of x) (likely t)) (split-spelled (mark_of x) (tokens_of x) (mark_is x) (item_are x h))
    ∙ ap (if_line_of (line_of x)) (likely_back x h)
    ∙ cond-true (bytes_eq (line_of x) (line_of x)) (Some x) None (bytes_eq_refl (line_of x))

some_same : (x y : Item) → Some x ≡ Some y → x ≡ y
some_same x y h = cc

pub line_spelled : (line : List ℕ) (x : Item) → item_in line ≡ Some x → line_of x ≡ line
unfolding item_in
line_spelled line x is =
    let y = likely (slice_split is_space line) in
    elim (chosen (bytes_eq (line_of y) line) (Some y) None (Some x) is) [
      | inl same ↦ ap line_of (sym (some_same y x same.1)) ∙ (bytes_eq-Decides (line_of y) line).0 same.0
      | inr other ↦ absurd (cc)
    ]

-- the likely item of a line is the item where its line is the same
pub taken : (line : List ℕ) (x : Item) (same : Bool) → x ≡ likely (slice_split is_space line) → same ≡ bytes_eq (line_of x) line → same ≡ true → Some x ≡ item_in line
unfolding item_in
taken line x same is test so = sym (ap (if_line_of line) (sym is) ∙ cond-true (bytes_eq (line_of x) line) (Some x) None (sym test ∙ so))

pub untaken : (line : List ℕ) (x : Item) (same : Bool) → x ≡ likely (slice_split is_space line) → same ≡ bytes_eq (line_of x) line → same ≡ false → None ≡ item_in line
unfolding item_in
untaken line x same is test so = sym (ap (if_line_of line) (sym is) ∙ cond-false (bytes_eq (line_of x) line) (Some x) None (sym test ∙ so))

-- ---- lines

spelled_lines : (tokens : Tokens) → AreTokens tokens → All (λ b. is_lf b ≡ false) (spelled tokens)
spelled_lines [] h = All-nil (λ b. is_lf b ≡ false)
spelled_lines (token ∷ tokens) h =
    All-append (λ b. is_lf b ≡ false) (32 ∷ token) (spelled tokens)
    (All-cons (λ b. is_lf b ≡ false) 32 token refl (All-weaker (λ b. 32 < b) (λ b. is_lf b ≡ false) not_lf token h.0))
    (spelled_lines tokens h.1)

no_lf : (x : Item) → IsItem x → All (λ b. is_lf b ≡ false) (line_of x)
no_lf x h =
    All-append (λ b. is_lf b ≡ false) (mark_of x) (spelled (tokens_of x)) (All-weaker (λ b. 32 < b) (λ b. is_lf b ≡ false) not_lf (mark_of x) (mark_is x))
    (spelled_lines (tokens_of x) (item_are x h))

split-text : (items : List Item) → All IsItem items → slice_split is_lf (text_of items) ≡ map line_of items ++ [] ∷ []
split-text [] h = refl
split-text (x ∷ items) h =
    ap (slice_split is_lf) (append_assoc (line_of x) (10 ∷ []) (text_of items))
    ∙ slice_split_at is_lf (line_of x) 10 (text_of items) (no_lf x (All-head IsItem x items h)) refl
    ∙ ap (λ (l : Tokens). line_of x ∷ l) (split-text items (All-tail IsItem x items h))

-- the list has a first part
pub record HasHead (parts : Tokens) : Type 0 where
  pub head : List ℕ
  pub tail : Tokens
  pub is : parts ≡ head ∷ tail

pub split_head : (test : ℕ → Bool) (xs : List ℕ) → HasHead (slice_split test xs)
split_head test xs = made (slice_split test xs) (omega (arith, length-slice_split test xs))
  where
    made : (parts : Tokens) → 0 < length parts → HasHead parts
    made [] some = absurd (omega arith)
    made (head ∷ tail) some = record { head = head; tail = tail; is = refl }

pub lines_in-cons : (n : ℕ) (line : List ℕ) (parts : Tokens) → HasHead parts → lines_in n (line ∷ parts) ≡ with_line n (item_at n line) (lines_in (n + 1) parts)
lines_in-cons n line [] h = absurd (cc h.is)
lines_in-cons n line (next ∷ parts) h = refl

at_first : (x : Item) (items : List Item) → begins_with_event (x ∷ items) ≡ true → event_only (Some x) ≡ Some x
at_first (In e) items h = refl
at_first (Out a) items h = absurd (false≢true h)

item_at_back : (n : ℕ) (x : Item) (items : List Item) → IsItem x → (n ≡ 0 → begins_with_event (x ∷ items) ≡ true) → item_at n (line_of x) ≡ Some x
item_at_back n x items h begins =
    elim (cases_Bool (eqb n 0)) [
      | inl first ↦ cond-true (eqb n 0) _ _ first ∙ ap event_only (item_back x h) ∙ at_first x items (begins (eqb-true n 0 first))
      | inr later ↦ cond-false (eqb n 0) _ _ later ∙ item_back x h
    ]

lines_head : (items : List Item) → HasHead (map line_of items ++ [] ∷ [])
lines_head [] = record { head = []; tail = []; is = refl }
lines_head (x ∷ items) = record { head = line_of x; tail = map line_of items ++ [] ∷ []; is = refl }

later_first : (n : ℕ) → n + 1 ≡ 0 → ⊥
later_first n h = omega arith

lines_back : (n : ℕ) (items : List Item) → All IsItem items → (n ≡ 0 → begins_with_event items ≡ true) → lines_in n (map line_of items ++ [] ∷ []) ≡ Ok items
lines_back n [] h begins = refl
lines_back n (x ∷ items) h begins =
    lines_in-cons n (line_of x) (map line_of items ++ [] ∷ []) (lines_head items)
    ∙ ap (λ o. with_line n o (lines_in (n + 1) (map line_of items ++ [] ∷ []))) (item_at_back n x items (All-head IsItem x items h) begins)
    ∙ ap (with_item x) (lines_back (n + 1) items (All-tail IsItem x items h) (λ zero. absurd (later_first n zero)))

text_lines : (items : List Item) → All IsItem items → count_by is_lf (text_of items) ≡ length items
text_lines items h =
    let parts : length (slice_split is_lf (text_of items)) ≡ length (map line_of items) + 1 = ap length (split-text items h) ∙ length-append (map line_of items) ([] ∷ []) in
    omega (arith, length-slice_split is_lf (text_of items), length-map items line_of, parts)

few_lines : (n : ℕ) → n ≤ 2048 → nat_lt 2048 n ≡ false
few_lines n h = grind (arith, nat_tests)

-- what is written is read back
pub trace_back : (items : List Item) → All IsItem items → begins_with_event items ≡ true → length items ≤ 2048 → trace_in (text_of items) ≡ Ok items
trace_back items h begins few =
    cond-false (nat_lt 2048 (count_by is_lf (text_of items))) _ _ (few_lines (count_by is_lf (text_of items)) (omega (arith, text_lines items h, few)))
    ∙ ap (lines_in 0) (split-text items h) ∙ lines_back 0 items h (λ zero. begins)

-- ---- what is read was spelled so

-- what lines spell has them as its text, has an item for each, and an event first
pub record IsSpelled (n : ℕ) (parts : Tokens) (items : List Item) : Type 0 where
  pub text : text_of items ≡ join_with_byte 10 parts
  pub count : length items + 1 ≡ length parts
  pub begins : n ≡ 0 → begins_with_event items ≡ true

ok_same : (r : Result (List Item) TextFault) (xs ys : List Item) → r ≡ Ok xs → r ≡ Ok ys → xs ≡ ys
ok_same r xs ys h k = cc

empty_by_length : (l : List ℕ) → eqb (length l) 0 ≡ true → [] ≡ l
empty_by_length [] h = refl
empty_by_length (x ∷ l) h = absurd (omega (arith, eqb-true (length (x ∷ l)) 0 h))

event_first : (o : Option Item) (x : Item) → event_only o ≡ Some x → (o ≡ Some x) × ((items : List Item) → begins_with_event (x ∷ items) ≡ true)
event_first (Some (In e)) x h = (h, λ items. ap (λ y. begins_with_event (y ∷ items)) (sym (some_same (In e) x h)))
event_first (Some (Out a)) x h = absurd (cc)
event_first None x h = absurd (cc)

item_from : (n : ℕ) (line : List ℕ) (x : Item) → item_at n line ≡ Some x → (item_in line ≡ Some x) × (n ≡ 0 → (items : List Item) → begins_with_event (x ∷ items) ≡ true)
item_from n line x is =
    elim (chosen (eqb n 0) (event_only (item_in line)) (item_in line) (Some x) is) [
      | inl first ↦ let e = event_first (item_in line) x first.1 in (e.0, λ zero. e.1)
      | inr later ↦ (later.1, λ zero. absurd (false≢true (sym later.0 ∙ ap (λ m. eqb m 0) zero)))
    ]

line_text : (x : Item) (more : List Item) (line joined : List ℕ) → line_of x ≡ line → text_of more ≡ joined → text_of (x ∷ more) ≡ line ++ 10 ∷ joined
line_text x more line joined is later = append_assoc (line_of x) (10 ∷ []) (text_of more) ∙ (λ i. is i ++ 10 ∷ later i)

more_parts : (x : Item) (more : List Item) (line : List ℕ) (parts : Tokens) → length more + 1 ≡ length parts → length (x ∷ more) + 1 ≡ length (line ∷ parts)
more_parts x more line parts h = omega (arith, h)

pub lines_spelled : (n : ℕ) (parts : Tokens) (items : List Item) → 0 < length parts → lines_in n parts ≡ Ok items → IsSpelled n parts items
lines_spelled n [] items some is = absurd (omega arith)
lines_spelled n (rest ∷ []) items some is =
    elim (chosen (eqb (length rest) 0) (Ok []) (Err (fault.Line n)) (Ok items) is) [
      | inl empty ↦
          let none : [] ≡ items = ok_same (Ok []) [] items refl empty.1 in record {
            text = ap text_of (sym none) ∙ empty_by_length rest empty.0;
            count = ap (λ (l : List Item). length l + 1) (sym none);
            begins = λ zero. ap begins_with_event (sym none);
          }
      | inr other ↦ absurd (cc)
    ]
lines_spelled n (line ∷ next ∷ parts) items some is =
    by_item (λ more later. lines_spelled (n + 1) (next ∷ parts) more (omega arith) later) (item_at n line) refl is
  where
    by_later : ((more : List Item) → lines_in (n + 1) (next ∷ parts) ≡ Ok more → IsSpelled (n + 1) (next ∷ parts) more) → (x : Item) → item_at n line ≡ Some x
        → (r : Result (List Item) TextFault) → lines_in (n + 1) (next ∷ parts) ≡ r → with_item x r ≡ Ok items → IsSpelled n (line ∷ next ∷ parts) items
    by_later onward x here (Ok more) later told =
        let all : x ∷ more ≡ items = ok_same (Ok (x ∷ more)) (x ∷ more) items refl told in
        let inner = onward more later in
        let from = item_from n line x here in record {
          text = ap text_of (sym all) ∙ line_text x more line (join_with_byte 10 (next ∷ parts)) (line_spelled line x from.0) inner.text;
          count = ap (λ (l : List Item). length l + 1) (sym all) ∙ more_parts x more line (next ∷ parts) inner.count;
          begins = λ zero. ap begins_with_event (sym all) ∙ from.1 zero more;
        }
    by_later onward x here (Err e) later told = absurd (cc)

    by_item : ((more : List Item) → lines_in (n + 1) (next ∷ parts) ≡ Ok more → IsSpelled (n + 1) (next ∷ parts) more) → (o : Option Item) → item_at n line ≡ o
        → with_line n o (lines_in (n + 1) (next ∷ parts)) ≡ Ok items → IsSpelled n (line ∷ next ∷ parts) items
    by_item onward None here told = absurd (cc)
    by_item onward (Some x) here told = by_later onward x here (lines_in (n + 1) (next ∷ parts)) refl told

-- what a text spells has it as its text, begins with an event and has 2,048 items at most
pub record IsRead (text : List ℕ) (items : List Item) : Type 0 where
  pub spelled : text_of items ≡ text
  pub begins : begins_with_event items ≡ true
  pub few : length items ≤ 2048

pub trace_read : (text : List ℕ) (items : List Item) → trace_in text ≡ Ok items → IsRead text items
trace_read text items is =
    elim (chosen (nat_lt 2048 (count_by is_lf text)) (Err fault.TooLong) (lines_in 0 (slice_split is_lf text)) (Ok items) is) [
      | inl long ↦ absurd (cc)
      | inr short ↦
          let parts = length-slice_split is_lf text in
          let read = lines_spelled 0 (slice_split is_lf text) items (omega (arith, parts)) short.1 in
          let most = ltb-false 2048 (count_by is_lf text) short.0 in record {
            spelled = read.text ∙ join_with_byte-slice_split 10 text;
            begins = read.begins refl;
            few = omega (arith, parts, read.count, most);
          }
    ]

-- ---- what the calls say

pub spelled_if : (text : List ℕ) (r : Result (List Item) TextFault) → Reads r text → IfOk r (λ items. text_of items ≡ text)
spelled_if text (Ok items) h = (trace_read text items h).spelled
spelled_if text (Err e) h = tt

pub begins_if : (text : List ℕ) (r : Result (List Item) TextFault) → Reads r text → IfOk r (λ items. begins_with_event items ≡ true)
begins_if text (Ok items) h = (trace_read text items h).begins
begins_if text (Err e) h = tt

pub few_if : (text : List ℕ) (r : Result (List Item) TextFault) → Reads r text → IfOk r (λ items. length items ≤ 2048)
few_if text (Ok items) h = (trace_read text items h).few
few_if text (Err e) h = tt

pub back_if : {E : Type 0} (items slice now : List Item) (r : Result (List ℕ) E) → slice ≡ items → All IsItem slice → now ≡ items → IfOk r (λ text. text ≡ text_of now)
    → IfOk r (λ text. begins_with_event items ≡ true → length items ≤ 2048 → trace_in text ≡ Ok items)
back_if items slice now (Ok text) same known is h = λ begins few. ap trace_in (h ∙ ap text_of is) ∙ trace_back items (subst (All IsItem) same known) begins few
back_if items slice now (Err e) same known is h = tt
