-- A text is read line by line.
use Rattle.std.proofs.Common.{◌≡◌, ℕ, ◌+◌, ◌∙◌, true, false, List, [], ◌∷◌, ◌++◌, refl, sym, ap, arith, length, Some, None, Result, Ok, Err, append_assoc, eqb}
use Rattle.std.specs.List.{slice_split}
use Rattle.std.proofs.lemmas.Bool.{cond-true, cond-false}
use Rattle.std.proofs.lemmas.List.{append-nil}
use Rattle.host_trace.specs.declared.items.Item.{Item}
use Rattle.trace_text.specs.declared.fault.TextFault.{TextFault}
use Rattle.trace_text.specs.declared.fault.TextFault.TheVariants as fault
use Rattle.trace_text.specs.Reading.{is_lf, item_at, lines_in, with_item, with_line}
use Rattle.trace_text.proofs.LineLaws.{lines_in-cons, split_head}

abbrev pub before : List Item → Result (List Item) TextFault → Result (List Item) TextFault
before items (Ok more) = Ok (items ++ more)
before items (Err told) = Err told

-- what all lines spell is the items so far and what the rest spells
pub record IsReadTo (text : List ℕ) (items : List Item) (n : ℕ) (rest : List ℕ) : Type 0 where
  pub told : lines_in 0 (slice_split is_lf text) ≡ before items (lines_in n (slice_split is_lf rest))
  pub count : n + length (slice_split is_lf rest) ≡ length (slice_split is_lf text)

before_none : (r : Result (List Item) TextFault) → r ≡ before [] r
before_none (Ok items) = refl
before_none (Err told) = refl

pub read_none : (text : List ℕ) (items : List Item) → items ≡ [] → IsReadTo text items 0 text
read_none text items none = record {
  told = before_none (lines_in 0 (slice_split is_lf text)) ∙ ap (λ l. before l (lines_in 0 (slice_split is_lf text))) (sym none);
  count = omega arith;
}

before_more : (items : List Item) (x : Item) (now : List Item) → now ≡ items ++ x ∷ [] → (r : Result (List Item) TextFault) → before items (with_item x r) ≡ before now r
before_more items x now grew (Ok more) = ap (λ (l : List Item). Ok l) (sym (append_assoc items (x ∷ []) more) ∙ ap (λ (l : List Item). l ++ more) (sym grew))
before_more items x now grew (Err told) = refl

pub read_more : (text : List ℕ) (items : List Item) (n : ℕ) (rest line more : List ℕ) (x : Item) (now : List Item) → IsReadTo text items n rest
    → slice_split is_lf rest ≡ line ∷ slice_split is_lf more → item_at n line ≡ Some x → now ≡ items ++ x ∷ [] → IsReadTo text now (n + 1) more
read_more text items n rest line more x now is cut here grew = record {
  told = is.told ∙ ap (λ p. before items (lines_in n p)) cut ∙ ap (before items) (lines_in-cons n line (slice_split is_lf more) (split_head is_lf more))
      ∙ ap (λ o. before items (with_line n o (lines_in (n + 1) (slice_split is_lf more)))) here
      ∙ before_more items x now grew (lines_in (n + 1) (slice_split is_lf more));
  count = omega (arith, is.count, ap length cut);
}

pub read_fault : (text : List ℕ) (items : List Item) (n : ℕ) (rest line more : List ℕ) → IsReadTo text items n rest
    → slice_split is_lf rest ≡ line ∷ slice_split is_lf more → item_at n line ≡ None → lines_in 0 (slice_split is_lf text) ≡ Err (fault.Line n)
read_fault text items n rest line more is cut here =
    is.told ∙ ap (λ p. before items (lines_in n p)) cut ∙ ap (before items) (lines_in-cons n line (slice_split is_lf more) (split_head is_lf more))
    ∙ ap (λ o. before items (with_line n o (lines_in (n + 1) (slice_split is_lf more)))) here

pub read_all : (text : List ℕ) (items : List Item) (n : ℕ) (rest : List ℕ) → IsReadTo text items n rest → slice_split is_lf rest ≡ rest ∷ []
    → eqb (length rest) 0 ≡ true → lines_in 0 (slice_split is_lf text) ≡ Ok items
read_all text items n rest is alone empty =
    is.told ∙ ap (λ p. before items (lines_in n p)) alone ∙ ap (before items) (cond-true (eqb (length rest) 0) _ _ empty)
    ∙ ap (λ (l : List Item). Ok l) (append-nil items)

pub read_open : (text : List ℕ) (items : List Item) (n : ℕ) (rest : List ℕ) → IsReadTo text items n rest → slice_split is_lf rest ≡ rest ∷ []
    → eqb (length rest) 0 ≡ false → lines_in 0 (slice_split is_lf text) ≡ Err (fault.Line n)
read_open text items n rest is alone some =
    is.told ∙ ap (λ p. before items (lines_in n p)) alone ∙ ap (before items) (cond-false (eqb (length rest) 0) _ _ some)
