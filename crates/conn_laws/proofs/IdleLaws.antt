-- The idle count, counted down.
use Rattle.std.proofs.Common.{◌≡◌, ℕ, ◌+◌, ◌-◌, Bool, true, false, List, [], ◌∷◌, ◌++◌, refl, sym, ap, ◌∙◌, append-nil, append_assoc, arith}
use Rattle.std.specs.Prelude.{if◌then◌else◌, ◌&&◌, ◌||◌, ◌==◌}
use Rattle.std.proofs.lemmas.Bool.{eqb-true, eq-eqb}
use Rattle.host_base.specs.declared.limits.Limits.{Limits}
use Rattle.host_trace.specs.declared.items.Item.{Item}
use Rattle.host_trace.specs.Kinds.{is_accepted, is_client_bytes, is_tick}
use Rattle.trace_model.specs.Breaks.{is_idle, idle_step, idle_after, idle_count, is_idle_end}
use Rattle.conn_laws.specs.Idle.{left_after, IsLeft}

idle_after-push : (c : ℕ) (front : List Item) (count : ℕ) (items : List Item) (x : Item) →
    idle_after c front count (items ++ x ∷ []) ≡ idle_step c (front ++ items) (idle_after c front count items) x
idle_after-push c front count [] x = ap (λ l. idle_step c l count x) (sym (append-nil front))
idle_after-push c front count (y ∷ items) x =
    idle_after-push c (front ++ y ∷ []) (idle_step c front count y) items x
    ∙ ap (λ l. idle_step c l (idle_after c (front ++ y ∷ []) (idle_step c front count y) items) x) (append_assoc front (y ∷ []) items)

pub idle_count-push : (c : ℕ) (items : List Item) (x : Item) → idle_count c (items ++ x ∷ []) ≡ idle_step c items (idle_count c items) x
idle_count-push c items x = idle_after-push c [] 0 items x

down : (anew counts : Bool) (ticks left count : ℕ) → left ≡ ticks - count
    → (if anew then ticks else (if counts then left - 1 else left)) ≡ ticks - (if anew then 0 else (if counts then count + 1 else count))
down true counts ticks left count e = omega arith
down false true ticks left count e = omega (arith, e)
down false false ticks left count e = e

pub counted_down : (limits : Limits) (c left : ℕ) (items : List Item) (x : Item) → IsLeft limits c left items
    → IsLeft limits c (left_after c limits.idle_ticks (is_idle c items) left x) (items ++ x ∷ [])
counted_down limits c left items x is =
    down (is_accepted x || is_client_bytes c x) (is_tick x && is_idle c items) limits.idle_ticks left (idle_count c items) is
    ∙ ap (λ n. limits.idle_ticks - n) (sym (idle_count-push c items x))

same_test : (ticks left count : ℕ) → left ≡ ticks - count → (count + 1 == ticks) ≡ (left == 1)
same_test ticks left count e = go (count + 1 == ticks) (left == 1) refl refl
  where
    go : (a b : Bool) → (count + 1 == ticks) ≡ a → (left == 1) ≡ b → a ≡ b
    go true true p q = refl
    go false false p q = refl
    go true false p q =
        let t : count + 1 ≡ ticks = eqb-true (count + 1) ticks p in
        sym (eq-eqb left 1 (omega (arith, e, t))) ∙ q
    go false true p q =
        let t : left ≡ 1 = eqb-true left 1 q in
        sym p ∙ eq-eqb (count + 1) ticks (omega (arith, e, t))

pub idle_end : (limits : Limits) (c left : ℕ) (items : List Item) → IsLeft limits c left items → is_idle_end limits c items ≡ (is_idle c items && left == 1)
idle_end limits c left items is = ap (λ b. is_idle c items && b) (same_test limits.idle_ticks left (idle_count c items) is)
