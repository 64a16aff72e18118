-- What is decided with the first byte of the final answer stays: whether 100 Continue was due, where that byte stands,
-- and the second of its Date.
use Rattle.std.proofs.Common.{◌≡◌, ◌≤◌, ℕ, Bool, true, false, List, [], ◌∷◌, ◌++◌, length, Some, None, refl, sym, ap, ◌∙◌, append_assoc, append-nil}
use Rattle.std.specs.Prelude.{◌||◌, ◌&&◌, not, if◌then◌else◌, unwrap_or}
use Rattle.std.proofs.lemmas.Bool.{false≢true}
use Rattle.host_base.specs.declared.site.Site.{Site}
use Rattle.host_trace.specs.declared.items.Item.{Item}
use Rattle.host_trace.specs.First.{first_front}
use Rattle.host_trace.specs.Kinds.{bytes_heard}
use Rattle.host_trace.specs.Projections.{client_in, shut}
use Rattle.host_trace.proofs.FirstLaws.{first_front-push, or_else-some}
use Rattle.request_reader.specs.Request.{Reading, Whole, More, Bad, read_request}
use Rattle.request_reader.specs.RequestLaws.{Becomes}
use Rattle.trace_model.specs.Readings.{is_due}
use Rattle.trace_model.specs.Exchange.{Exchange, pushed, up_to, request_bytes, reading, was_due, continues, continue_part, continue_text}
use Rattle.trace_model.specs.Closes.{answer_front, as_begun, closes, closes_now, is_first_byte, way, way_now}
use Rattle.trace_model.specs.ModelLaws.{BeginsAt, IsHeaded, SpelledAsBefore}
use Rattle.trace_model.proofs.ExchangeLaws.{request_bytes-push}
use Rattle.request_reader.proofs.Becoming.{readings_become}

or_assoc : (a b d : Bool) → (a || (b || d)) ≡ ((a || b) || d)
or_assoc true b d = refl
or_assoc false b d = refl

-- ---- 100 Continue

was_due-push : (site : Site) (c : ℕ) (bytes : List ℕ) (items : List Item) (x : Item) →
    was_due site c bytes (items ++ x ∷ []) ≡ (was_due site c bytes items || is_due (read_request site.limits ((bytes ++ client_in items c) ++ bytes_heard c x)))
was_due-push site c bytes [] x =
    ap (λ l. is_due (read_request site.limits bytes) || is_due (read_request site.limits (l ++ bytes_heard c x))) (sym (append-nil bytes))
was_due-push site c bytes (y ∷ items) x =
    ap (λ b. is_due (read_request site.limits bytes) || b) (was_due-push site c (bytes ++ bytes_heard c y) items x)
    ∙ (or_assoc (is_due (read_request site.limits bytes)) (was_due site c (bytes ++ bytes_heard c y) items) _
    ∙ ap (λ l. (is_due (read_request site.limits bytes) || was_due site c (bytes ++ bytes_heard c y) items) || is_due (read_request site.limits (l ++ bytes_heard c x)))
    (append_assoc bytes (bytes_heard c y) (client_in items c)))

or_true : (a b : Bool) → b ≡ true → (a || b) ≡ true
or_true true b is = refl
or_true false b is = is

-- what is due was due
was_due-last : (site : Site) (c : ℕ) (bytes : List ℕ) (items : List Item) → is_due (read_request site.limits (bytes ++ client_in items c)) ≡ true → was_due site c bytes items ≡ true
was_due-last site c bytes [] is = ap (λ l. is_due (read_request site.limits l)) (sym (append-nil bytes)) ∙ is
was_due-last site c bytes (y ∷ items) is =
    or_true (is_due (read_request site.limits bytes)) _
    (was_due-last site c (bytes ++ bytes_heard c y) items (ap (λ l. is_due (read_request site.limits l)) (append_assoc bytes (bytes_heard c y) (client_in items c)) ∙ is))

-- what is due later was due before
due_before : (was now : Reading) → IsHeaded was → Becomes was now → is_due now ≡ true → is_due was ≡ true
due_before (Whole request used due) now head grows later = sym (ap is_due grows) ∙ later
due_before (Bad cause bare) now head grows later = sym (ap is_due grows) ∙ later
due_before (More None due) now head grows later = absurd head
due_before (More (Some request) due) (Whole request' used due') head grows later = sym grows.1 ∙ later
due_before (More (Some request) due) (More (Some request') due') head grows later = sym grows.1 ∙ later
due_before (More (Some request) due) (More None due') head grows later = absurd grows
due_before (More (Some request) due) (Bad cause bare) head grows later = absurd (false≢true later)

absorb : (a b : Bool) → (b ≡ true → a ≡ true) → (a || b) ≡ a
absorb true b implies = refl
absorb false true implies = sym (implies refl)
absorb false false implies = refl

pub continues-push : (site : Site) (c : ℕ) (e : Exchange) (x : Item) → 2 ≤ site.limits.head → IsHeaded (reading site c e) → continues site c (pushed e x) ≡ continues site c e
continues-push site c e x two head =
    let grows : Becomes (reading site c e) (reading site c (pushed e x)) =
    rw (request_bytes-push c e x) (readings_become site.limits (request_bytes c e) (bytes_heard c x) two) in
    let now_due : Bool = is_due (read_request site.limits (request_bytes c e ++ bytes_heard c x)) in
    let same : now_due ≡ is_due (reading site c (pushed e x)) = ap (λ l. is_due (read_request site.limits l)) (sym (request_bytes-push c e x)) in
    ap (λ b. not e.closed && not (shut e.before c) && b)
    (was_due-push site c e.rest e.items x
    ∙ absorb (was_due site c e.rest e.items) now_due
    (λ is. was_due-last site c e.rest e.items (due_before (reading site c e) (reading site c (pushed e x)) head grows (sym same ∙ is))))

pub continue_part-push : (site : Site) (c : ℕ) (e : Exchange) (x : Item) → 2 ≤ site.limits.head → IsHeaded (reading site c e) → continue_part site c (pushed e x) ≡ continue_part site c e
continue_part-push site c e x two head = ap (λ (b : Bool). if b then continue_text else []) (continues-push site c e x two head)

-- ---- the first byte of the final answer

pub begins-push : (site : Site) (c : ℕ) (e : Exchange) (x : Item) (front : List Item) → 2 ≤ site.limits.head → IsHeaded (reading site c e)
    → BeginsAt site c e front → BeginsAt site c (pushed e x) front
begins-push site c e x front two head is =
    ap (λ l. first_front (is_first_byte c (length l)) (e.items ++ x ∷ [])) (continue_part-push site c e x two head)
    ∙ (first_front-push (is_first_byte c (length (continue_part site c e))) e.items x ∙ or_else-some _ _ front is)

answer_front-at : (site : Site) (c : ℕ) (e : Exchange) (front : List Item) → BeginsAt site c e front → answer_front site c e ≡ front
answer_front-at site c e front is = ap (λ o. unwrap_or o e.items) is

pub answer_front-push : (site : Site) (c : ℕ) (e : Exchange) (x : Item) (front : List Item) → 2 ≤ site.limits.head → IsHeaded (reading site c e)
    → BeginsAt site c e front → answer_front site c (pushed e x) ≡ answer_front site c e
answer_front-push site c e x front two head is =
    answer_front-at site c (pushed e x) front (begins-push site c e x front two head is) ∙ sym (answer_front-at site c e front is)

pub as_begun-push : (site : Site) (c : ℕ) (e : Exchange) (x : Item) (front : List Item) → 2 ≤ site.limits.head → IsHeaded (reading site c e)
    → BeginsAt site c e front → as_begun site c (pushed e x) ≡ as_begun site c e
as_begun-push site c e x front two head is = ap (λ l. up_to e l) (answer_front-push site c e x front two head is)

-- so all that the spelling depends on stays: version, HEAD, closing, Date, and whether it was known as a whole
pub way-push : (site : Site) (c : ℕ) (e : Exchange) (x : Item) (front : List Item) → 2 ≤ site.limits.head → IsHeaded (reading site c e)
    → BeginsAt site c e front → way site c (pushed e x) ≡ way site c e
way-push site c e x front two head is = ap (λ d. way_now site c d) (as_begun-push site c e x front two head is)

pub closes-push : (site : Site) (c : ℕ) (e : Exchange) (x : Item) (front : List Item) → 2 ≤ site.limits.head → IsHeaded (reading site c e)
    → BeginsAt site c e front → closes site c (pushed e x) ≡ closes site c e
closes-push site c e x front two head is = ap (λ d. closes_now site c d) (as_begun-push site c e x front two head is)

pub spelled_as_before : (site : Site) (c : ℕ) (e : Exchange) (x : Item) (front : List Item) → 2 ≤ site.limits.head → IsHeaded (reading site c e)
    → BeginsAt site c e front → SpelledAsBefore site c e x
spelled_as_before site c e x front two head is = record {
  continues_then = continue_part-push site c e x two head;
  way_then = way-push site c e x front two head is;
  closes_then = closes-push site c e x front two head is;
}
