-- The idle count of an exchange, counted down.
use Rattle.std.specs.Prelude.{ℕ, Bool, ◌&&◌, ◌||◌, ◌==◌, ◌-◌, ◌≡◌, List, [], ◌∷◌, ◌++◌, if◌then◌else◌}
use Rattle.host_base.specs.declared.limits.Limits.{Limits}
use Rattle.host_trace.specs.declared.items.Item.{Item}
use Rattle.host_trace.specs.Kinds.{is_accepted, is_client_bytes, is_tick}
use Rattle.trace_model.specs.Breaks.{is_idle, idle_count, is_idle_end}

-- what is left after one more item, by whether a Tick counts there: it begins anew with Accepted and with bytes of the
-- client
abbrev pub left_after : ℕ → ℕ → Bool → ℕ → Item → ℕ
left_after c ticks idle left x =
    if is_accepted x || is_client_bytes c x then ticks else (if is_tick x && idle then left - 1 else left)

-- this is left at the end of an exchange's items
abbrev pub IsLeft : Limits → ℕ → ℕ → List Item → Type 0
IsLeft limits c left items = left ≡ limits.idle_ticks - idle_count c items

abbrev pub IdleIsCountedDown : Type 0
IdleIsCountedDown = (limits : Limits) (c left : ℕ) (items : List Item) (x : Item) → IsLeft limits c left items
    → IsLeft limits c (left_after c limits.idle_ticks (is_idle c items) left x) (items ++ x ∷ [])

-- The next Tick is the idle one exactly where it counts and one is left.
abbrev pub IdleEndIsTheLast : Type 0
IdleEndIsTheLast = (limits : Limits) (c left : ℕ) (items : List Item) → IsLeft limits c left items
    → is_idle_end limits c items ≡ (is_idle c items && left == 1)
