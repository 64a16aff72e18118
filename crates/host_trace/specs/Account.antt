-- The account of a child, and how long a connection holds its slot.
use Rattle.std.specs.Prelude.{ℕ, suc, zero, Bool, not, List, ◌+◌, ◌&&◌, ◌||◌, ◌==◌, nat_le, count_by, if◌then◌else◌}
use Rattle.std.specs.List.{list_any, list_all}
use Rattle.host_trace.specs.declared.items.Item.{Item}
use Rattle.host_trace.specs.Kinds.{is_start, is_start_answer, is_start_failed, is_start_full, is_exited}
use Rattle.host_trace.specs.Projections.{is_known, accepted_count, children, start_numbers, shut, exited, input_ended, output_ended}

abbrev pub is_refusal : ℕ → Item → Bool
is_refusal k x = is_start_failed k x || is_start_full k x

-- the Start of k was answered by a refusal
abbrev pub start_refused : List Item → ℕ → Bool
start_refused T k = list_any (is_refusal k) T

-- k was not started, or it was reaped, its input ended and its output ended
abbrev pub settled : List Item → ℕ → Bool
settled T k = start_refused T k || exited T k && input_ended T k && output_ended T k

-- Start stands once, at most one event answers it, and it was reaped at most once
abbrev pub is_account : List Item → ℕ → Bool
is_account T k =
    count_by (is_start k) T == 1 && nat_le (count_by (is_start_answer k) T) 1 && nat_le (count_by (is_exited k) T) 1

-- a child that was started for c is not settled
abbrev pub has_unsettled : List Item → ℕ → Bool
has_unsettled T c = list_any (λ k. not (settled T k)) (children T c)

-- c holds a slot from its Accepted until it is shut and has no unsettled child
abbrev pub holds_slot : List Item → ℕ → Bool
holds_slot T c = is_known T c && (not (shut T c) || has_unsettled T c)

abbrev pub slots_below : List Item → ℕ → ℕ
slots_below T zero = 0
slots_below T (suc c) = slots_below T c + (if holds_slot T c then 1 else 0)

-- how many slots are held
abbrev pub slots_held : List Item → ℕ
slots_held T = slots_below T (accepted_count T)

-- every child that was to be started is settled
abbrev pub all_settled : List Item → Bool
all_settled T = list_all (settled T) (start_numbers T)
