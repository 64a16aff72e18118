-- Each projection of a trace with one more item.
use Rattle.std.proofs.Common.{◌≡◌, ℕ, ◌+◌, List, [], ◌∷◌, ◌++◌, refl, ◌∙◌, ap, zero-add}
use Rattle.std.specs.Prelude.{◌||◌, ◌&&◌, if◌then◌else◌, sum_by}
use Rattle.std.specs.List.{flat_map}
use Rattle.std.proofs.lemmas.List.Sums.{sum_by-append}
use Rattle.host_trace.specs.declared.items.Item.{Item}
use Rattle.host_trace.specs.Kinds.{bytes_heard, bytes_written, child_started, count_took, count_wrote, input_fed, is_accepted, is_child_eof, is_event, is_exited, is_input_end, is_kill, is_output_end, is_release, is_shut, is_shut_for_memory, is_start, is_start_answer, is_started, is_stop, is_tick, is_upgrade, output_heard, tick_secs, texts_heard, texts_said}
use Rattle.host_trace.specs.Projections.{accepted_count, child_in, child_out, children, client_in, client_out, event_count, exited, heard, input_ended, killed, last_secs, output_ended, output_eof, released, said, shut, shut_for_memory, start_answered, start_stands, started, stopped, tick_count, took_sum, upgraded, wrote_sum}
use Rattle.host_trace.specs.Account.{is_refusal, start_refused, settled}
use Rattle.host_trace.specs.First.{last_of, or_else}
use Rattle.host_trace.proofs.FirstLaws.{flat_map-push, list_any-push, count_by-push, last_of-append}

-- ---- whole strings

pub client_in-push : (T : List Item) (x : Item) (c : ℕ) → client_in (T ++ x ∷ []) c ≡ client_in T c ++ bytes_heard c x
client_in-push T x c = flat_map-push (bytes_heard c) T x

pub client_out-push : (T : List Item) (x : Item) (c : ℕ) → client_out (T ++ x ∷ []) c ≡ client_out T c ++ bytes_written c x
client_out-push T x c = flat_map-push (bytes_written c) T x

pub child_out-push : (T : List Item) (x : Item) (k : ℕ) → child_out (T ++ x ∷ []) k ≡ child_out T k ++ output_heard k x
child_out-push T x k = flat_map-push (output_heard k) T x

pub child_in-push : (T : List Item) (x : Item) (k : ℕ) → child_in (T ++ x ∷ []) k ≡ child_in T k ++ input_fed k x
child_in-push T x k = flat_map-push (input_fed k) T x

pub said-push : (T : List Item) (x : Item) (c : ℕ) → said (T ++ x ∷ []) c ≡ said T c ++ texts_said c x
said-push T x c = flat_map-push (texts_said c) T x

pub heard-push : (T : List Item) (x : Item) (c : ℕ) → heard (T ++ x ∷ []) c ≡ heard T c ++ texts_heard c x
heard-push T x c = flat_map-push (texts_heard c) T x

pub children-push : (T : List Item) (x : Item) (c : ℕ) → children (T ++ x ∷ []) c ≡ children T c ++ child_started c x
children-push T x c = flat_map-push (child_started c) T x

-- ---- counts

sum_by-one : (f : Item → ℕ) (x : Item) → sum_by f (x ∷ []) ≡ f x
sum_by-one f x = zero-add (f x)

pub event_count-push : (T : List Item) (x : Item) → event_count (T ++ x ∷ []) ≡ event_count T + (if is_event x then 1 else 0)
event_count-push T x = count_by-push is_event T x

pub tick_count-push : (T : List Item) (x : Item) → tick_count (T ++ x ∷ []) ≡ tick_count T + (if is_tick x then 1 else 0)
tick_count-push T x = count_by-push is_tick T x

pub accepted_count-push : (T : List Item) (x : Item) → accepted_count (T ++ x ∷ []) ≡ accepted_count T + (if is_accepted x then 1 else 0)
accepted_count-push T x = count_by-push is_accepted T x

pub wrote_sum-push : (T : List Item) (x : Item) (c : ℕ) → wrote_sum (T ++ x ∷ []) c ≡ wrote_sum T c + count_wrote c x
wrote_sum-push T x c = sum_by-append (count_wrote c) T (x ∷ []) ∙ ap (λ n. wrote_sum T c + n) (sum_by-one (count_wrote c) x)

pub took_sum-push : (T : List Item) (x : Item) (k : ℕ) → took_sum (T ++ x ∷ []) k ≡ took_sum T k + count_took k x
took_sum-push T x k = sum_by-append (count_took k) T (x ∷ []) ∙ ap (λ n. took_sum T k + n) (sum_by-one (count_took k) x)

-- ---- the clock

-- a Tick sets it, and no other item does
pub last_secs-push : (T : List Item) (x : Item) → last_secs (T ++ x ∷ []) ≡ or_else (last_of (tick_secs x)) (last_secs T)
last_secs-push T x = ap last_of (flat_map-push tick_secs T x) ∙ last_of-append (flat_map tick_secs T) (tick_secs x)

-- ---- what has happened

pub stopped-push : (T : List Item) (x : Item) → stopped (T ++ x ∷ []) ≡ (stopped T || is_stop x)
stopped-push T x = list_any-push is_stop T x

pub shut-push : (T : List Item) (x : Item) (c : ℕ) → shut (T ++ x ∷ []) c ≡ (shut T c || is_shut c x)
shut-push T x c = list_any-push (is_shut c) T x

pub shut_for_memory-push : (T : List Item) (x : Item) (c : ℕ) → shut_for_memory (T ++ x ∷ []) c ≡ (shut_for_memory T c || is_shut_for_memory c x)
shut_for_memory-push T x c = list_any-push (is_shut_for_memory c) T x

pub upgraded-push : (T : List Item) (x : Item) (c : ℕ) → upgraded (T ++ x ∷ []) c ≡ (upgraded T c || is_upgrade c x)
upgraded-push T x c = list_any-push (is_upgrade c) T x

pub start_stands-push : (T : List Item) (x : Item) (k : ℕ) → start_stands (T ++ x ∷ []) k ≡ (start_stands T k || is_start k x)
start_stands-push T x k = list_any-push (is_start k) T x

pub start_answered-push : (T : List Item) (x : Item) (k : ℕ) → start_answered (T ++ x ∷ []) k ≡ (start_answered T k || is_start_answer k x)
start_answered-push T x k = list_any-push (is_start_answer k) T x

pub started-push : (T : List Item) (x : Item) (k : ℕ) → started (T ++ x ∷ []) k ≡ (started T k || is_started k x)
started-push T x k = list_any-push (is_started k) T x

pub output_eof-push : (T : List Item) (x : Item) (k : ℕ) → output_eof (T ++ x ∷ []) k ≡ (output_eof T k || is_child_eof k x)
output_eof-push T x k = list_any-push (is_child_eof k) T x

pub output_ended-push : (T : List Item) (x : Item) (k : ℕ) → output_ended (T ++ x ∷ []) k ≡ (output_ended T k || is_output_end k x)
output_ended-push T x k = list_any-push (is_output_end k) T x

pub input_ended-push : (T : List Item) (x : Item) (k : ℕ) → input_ended (T ++ x ∷ []) k ≡ (input_ended T k || is_input_end k x)
input_ended-push T x k = list_any-push (is_input_end k) T x

pub killed-push : (T : List Item) (x : Item) (k : ℕ) → killed (T ++ x ∷ []) k ≡ (killed T k || is_kill k x)
killed-push T x k = list_any-push (is_kill k) T x

pub released-push : (T : List Item) (x : Item) (k : ℕ) → released (T ++ x ∷ []) k ≡ (released T k || is_release k x)
released-push T x k = list_any-push (is_release k) T x

pub exited-push : (T : List Item) (x : Item) (k : ℕ) → exited (T ++ x ∷ []) k ≡ (exited T k || is_exited k x)
exited-push T x k = list_any-push (is_exited k) T x

-- ---- the account

pub start_refused-push : (T : List Item) (x : Item) (k : ℕ) → start_refused (T ++ x ∷ []) k ≡ (start_refused T k || is_refusal k x)
start_refused-push T x k = list_any-push (is_refusal k) T x

pub settled-push : (T : List Item) (x : Item) (k : ℕ) →
    settled (T ++ x ∷ []) k
    ≡ ((start_refused T k || is_refusal k x)
    || (exited T k || is_exited k x) && (input_ended T k || is_input_end k x) && (output_ended T k || is_output_end k x))
settled-push T x k = rw (start_refused-push T x k, exited-push T x k, input_ended-push T x k, output_ended-push T x k) refl
