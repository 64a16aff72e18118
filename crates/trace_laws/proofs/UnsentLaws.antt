-- What waits to be sent is bounded, since each Write finds its place.
use Rattle.std.proofs.Common.{◌≡◌, ℕ, ◌+◌, ◌<◌, ◌≤◌, Bool, true, false, List, [], ◌∷◌, ◌++◌, refl, sym, ◌∙◌, ap, arith, subst, append-nil, append_assoc, length, length-append, inl, inr}
use Rattle.std.specs.Prelude.{◌==◌, ◌-◌, ◌&&◌, not, if◌then◌else◌}
use Rattle.std.proofs.lemmas.Bool.{cases_Bool, and_parts, eqb-true, leb-true, or_parts, lt-ltb}
use Rattle.host_base.specs.declared.site.Site.{Site}
use Rattle.host_trace.specs.declared.items.Act.{Act}
use Rattle.host_trace.specs.declared.items.Act.TheVariants.{Write}
use Rattle.host_trace.specs.declared.items.Item.{Item}
use Rattle.host_trace.specs.declared.items.Item.TheVariants.{Out}
use Rattle.host_trace.specs.First.{since}
use Rattle.host_trace.specs.Kinds.{bytes_written, count_wrote, is_shut, is_upgrade}
use Rattle.host_trace.specs.Projections.{accepted_count, client_out, own, pending, said_len, sent_of_phase, left_of_phase, shut, upgraded, wrote_sum}
use Rattle.host_trace.proofs.ProjectionLaws.{client_out-push, shut-push, upgraded-push, wrote_sum-push}
use Rattle.own_traces.specs.OwnLaws.{Says}
use Rattle.own_traces.proofs.SameLaws.{says}
use Rattle.trace_child.specs.Words.{is_filled}
use Rattle.trace_model.specs.Demands.{is_live}
use Rattle.trace_model.specs.Form.{comes_in_form, has_place, may_come}
use Rattle.trace_model.proofs.ExchangeLaws.{all_of-current}
use Rattle.trace_laws.specs.Promised.{Promised}
use Rattle.trace_laws.proofs.ActLaws.{all_keep}
use Rattle.trace_laws.proofs.PrefixLaws.{Stands, stands}

abbrev most : ℕ
most = 262144 + 65536 + 16384

-- each act of these items may come where it stands
abbrev InForm : List Item → Type 0
InForm L = (p q : List Item) (a : Act) → L ≡ p ++ Out a ∷ q → may_come p a ≡ true

-- ---- by what was written and what left

waits_by : (c : ℕ) (L : List Item) → shut L c ≡ false → upgraded L c ≡ false → pending L c ≡ length (client_out L c) - wrote_sum L c
waits_by c L unshut plain =
    ap (λ (b : Bool). if b then 0 else sent_of_phase L c - left_of_phase L c) unshut
    ∙ ap (λ (b : Bool). (if b then said_len (since (is_upgrade c) L) c else length (client_out L c)) - (if b then wrote_sum (since (is_upgrade c) L) c else wrote_sum L c)) plain

waits_none : (c : ℕ) (L : List Item) → shut L c ≡ true → pending L c ≡ 0
waits_none c L over = ap (λ (b : Bool). if b then 0 else sent_of_phase L c - left_of_phase L c) over

-- ---- one item more

no_more : (sent left more waits : ℕ) → sent - left ≡ waits → waits ≤ most → sent - (left + more) ≤ most
no_more sent left more waits is below = omega (arith, is, below)

placed : (sent left bytes waits : ℕ) → sent - left ≡ waits → waits + bytes ≤ most → (sent + bytes) - (left + 0) ≤ most
placed sent left bytes waits is below = omega (arith, is, below)

-- a Write for c that may come
write_place : (c d : ℕ) (L : List Item) (bytes : List ℕ) → c ≡ d → may_come L (Write d bytes) ≡ true → pending L c + length bytes ≤ most
write_place c d L bytes same may =
    subst (λ (n : ℕ). pending L n + length bytes ≤ most) (sym same)
    (leb-true (pending L d + length bytes) most (and_parts (is_live d L && not (upgraded L d) && is_filled bytes) (has_place d L (length bytes)) may).1)

-- what one item adds to what was written, and to what left
record Adds (c : ℕ) (L : List Item) (x : Item) : Type 0 where
  within : (sent left : ℕ) → sent - left ≡ pending L c → pending L c ≤ most → (sent + length (bytes_written c x)) - (left + count_wrote c x) ≤ most

adds_nothing : (c : ℕ) (L : List Item) (x : Item) → bytes_written c x ≡ [] → Adds c L x
adds_nothing c L x none = record {
  within = λ sent left is below.
      let nothing : length (bytes_written c x) ≡ 0 = ap length none in
      let more : ℕ = count_wrote c x in
      omega (arith, nothing, is, below);
}

adds : (c : ℕ) (L : List Item) (x : Item) → ((a : Act) → x ≡ Out a → may_come L a ≡ true) → Adds c L x
adds c L (Out (Write d bytes)) may = elim (cases_Bool (c == d)) [
  | inl mine ↦ record {
    within = λ sent left is below.
        let place = write_place c d L bytes (eqb-true c d mine) (may (Write d bytes) refl) in
        let all : length (bytes_written c (Out (Write d bytes))) ≡ length bytes = ap (λ (b : Bool). length (if b then bytes else [])) mine in
        omega (arith, all, is, place);
  }
  | inr other ↦ adds_nothing c L (Out (Write d bytes)) (ap (λ (b : Bool). if b then bytes else []) other)
]
adds c L _ may = adds_nothing c L _ refl

one_more : (c : ℕ) (L : List Item) (x : Item) → ((a : Act) → x ≡ Out a → may_come L a ≡ true) → (upgraded L c ≡ false → pending L c ≤ most)
    → upgraded (L ++ x ∷ []) c ≡ false → pending (L ++ x ∷ []) c ≤ most
one_more c L x may below plain_now = elim (cases_Bool (shut (L ++ x ∷ []) c)) [
  | inl over ↦ let none = waits_none c (L ++ x ∷ []) over in omega (arith, none)
  | inr unshut ↦
      let plain : upgraded L c ≡ false = (or_parts (upgraded L c) (is_upgrade c x) (sym (upgraded-push L x c) ∙ plain_now)).0 in
      let open_then : shut L c ≡ false = (or_parts (shut L c) (is_shut c x) (sym (shut-push L x c) ∙ unshut)).0 in
      let now = waits_by c (L ++ x ∷ []) unshut plain_now in
      let sent : length (client_out (L ++ x ∷ []) c) ≡ length (client_out L c) + length (bytes_written c x) =
      ap length (client_out-push L x c) ∙ length-append (client_out L c) (bytes_written c x) in
      let left : wrote_sum (L ++ x ∷ []) c ≡ wrote_sum L c + count_wrote c x = wrote_sum-push L x c in
      let all = (adds c L x may).within (length (client_out L c)) (wrote_sum L c) (sym (waits_by c L open_then plain)) (below plain) in
      omega (arith, now, sent, left, all)
]

-- ---- all of them

bounded_from : (c : ℕ) (L p q : List Item) → InForm L → L ≡ p ++ q → (upgraded p c ≡ false → pending p c ≤ most) → upgraded L c ≡ false → pending L c ≤ most
bounded_from c L p [] form is below plain =
    let all : L ≡ p = is ∙ append-nil p in
    subst (λ (l : List Item). pending l c ≤ most) (sym all) (below (ap (λ (l : List Item). upgraded l c) (sym all) ∙ plain))
bounded_from c L p (x ∷ q) form is below plain =
    bounded_from c L (p ++ x ∷ []) q form (is ∙ sym (append_assoc p (x ∷ []) q))
    (one_more c p x (λ a act. form p q a (is ∙ ap (λ (y : Item). p ++ y ∷ q) act)) below) plain

pub unsent_bounded : (site : Site) (T : List Item) (c : ℕ) → Promised site T → c < accepted_count T → upgraded T c ≡ false → pending T c ≤ 262144 + 65536 + 16384
unsent_bounded site T c f known plain =
    let s : Stands T = stands site T f in
    let L : List Item = own T c in
    let said : Says T c = says T c s.between in
    let form : InForm L = λ p q a is.
    ap (λ (l : List Item). may_come l a) (sym (all_of-current site c p))
    ∙ all_keep site c comes_in_form (λ step good. good.good.form) L (s.begins c) (f.good.connections c (lt-ltb c (accepted_count T) known)) p q a is in
    subst (λ n. n ≤ most) said.waits
    (bounded_from c L [] L form refl (λ none. omega (arith)) (said.upgraded_then ∙ plain))
