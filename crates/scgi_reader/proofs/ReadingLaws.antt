-- A request that is heard piece by piece.
use Rattle.std.proofs.Common.{◌≡◌, ℕ, ◌+◌, ◌-◌, ◌≤◌, List, ◌++◌, length, take, drop, sym, ap, ◌∙◌, arith, Option, Some, None, length-drop}
use Rattle.std.proofs.lemmas.Bool.{cond-true, le-leb}
use Rattle.std.specs.Prelude.{Result, Ok, Err, IfOk}
use Rattle.host_base.specs.declared.limits.Limits.{Limits}
use Rattle.host_base.specs.declared.memory.NoMemory.{NoMemory}
use Rattle.scgi_reader.specs.declared.head.Head.{Head}
use Rattle.scgi_reader.specs.declared.head.Head.TheVariants as Heard
use Rattle.scgi_reader.specs.declared.head.WholeHead.{WholeHead}
use Rattle.scgi_reader.specs.declared.reader.ScgiStep.TheVariants.{Whole}
use Rattle.scgi_reader.specs.Scgi.{behind, head_of, scgi_of}
use Rattle.scgi_reader.specs.View.{IsRead, IsWithin}
use Rattle.scgi_reader.proofs.StayLaws.{heads_are_within, heads_stay}

within_by : (limits : Limits) (s : List ℕ) (head : Head) → head_of limits s ≡ head → IsWithin s head
within_by limits s Heard.More is = tt
within_by limits s (Heard.Bad cause) is = tt
within_by limits s (Heard.Whole head) is = heads_are_within limits s head is

pub head_within : (limits : Limits) (s : List ℕ) (head : Head) → head ≡ head_of limits s → IsWithin s head
head_within limits s head is = within_by limits s head (sym is)

-- a head that was read is that of more bytes too
pub still_read : (limits : Limits) (s t u : List ℕ) (o : Option WholeHead) (head : WholeHead) → IsRead limits s o → o ≡ Some head → u ≡ s ++ t
    → head_of limits u ≡ Heard.Whole head
still_read limits s t u None head read is more = absurd (cc)
still_read limits s t u (Some was) head read is more =
    let same : was ≡ head = cc in
    ap (head_of limits) more
    ∙ heads_stay limits s t (λ e. absurd (never (sym read ∙ e)))
    ∙ read
    ∙ ap (λ (h : WholeHead). Heard.Whole h) same
  where
    never : Heard.Whole was ≡ Heard.More → ⊥
    never e = cc

pub whole_is : (limits : Limits) (s : List ℕ) (head : WholeHead) → head_of limits s ≡ Heard.Whole head → head.len ≤ length s - head.used
    → scgi_of limits s ≡ Whole (record { fields = head.fields; body = take head.len (drop head.used s) }) (head.used + head.len)
whole_is limits s head is fits =
    let cut = length-drop head.used s in
    ap (behind s) is ∙ cond-true _ _ _ (le-leb head.len (length (drop head.used s)) (omega arith))

pub parts_within : (limits : Limits) (s : List ℕ) (head : WholeHead) → head_of limits s ≡ Heard.Whole head → head.len ≤ length s - head.used → head.used + head.len ≤ length s
parts_within limits s head is fits = let within = heads_are_within limits s head is in omega arith

-- .. of what is read, where memory was found
pub head_within_ok : (limits : Limits) (s : List ℕ) (result : Result Head NoMemory) → IfOk result (λ head. head ≡ head_of limits s) → IfOk result (λ head. IsWithin s head)
head_within_ok limits s (Ok head) is = head_within limits s head is
head_within_ok limits s (Err e) is = tt
