-- An answer that doesn't close the connection is of a request that was heard whole.
use Rattle.std.proofs.Common.{◌≡◌, ◌≤◌, ℕ, Bool, true, false, List, [], ◌++◌, length, unwrap_or, Option, refl, sym, ap, subst, ◌∙◌, append_assoc}
use Rattle.std.specs.Prelude.{◌||◌, not}
use Rattle.std.proofs.lemmas.Bool.{false≢true, or_parts}
use Rattle.std.proofs.lemmas.Grind.{flat_map-append}
use Rattle.host_base.specs.declared.site.Site.{Site}
use Rattle.host_trace.specs.declared.items.Item.{Item}
use Rattle.host_trace.specs.Kinds.{bytes_heard}
use Rattle.host_trace.specs.Projections.{client_in}
use Rattle.request_reader.specs.Request.{Reading, Whole, More, Bad, read_request}
use Rattle.request_reader.specs.RequestLaws.{Becomes}
use Rattle.request_reader.proofs.Becoming.{readings_become}
use Rattle.trace_child.proofs.DecidedLaws.{Found, found}
use Rattle.trace_model.specs.Closes.{as_begun, closes_now, is_by_nph, is_closing_fault, is_first_byte, persists_by}
use Rattle.trace_model.specs.Exchange.{Exchange, continue_part, reading, request_bytes, up_to}
use Rattle.trace_model.specs.Answer.{answer, stage}
use Rattle.trace_model.specs.Readings.{headed, is_whole}
use Rattle.exchange_laws.specs.Rules.{AnsweredAreRead}

not_false : (b : Bool) → not b ≡ false → b ≡ true
not_false true is = refl
not_false false is = absurd (false≢true (sym is))

pub open_is_whole : (site : Site) (c : ℕ) (e : Exchange) → closes_now site c e ≡ false → is_whole (reading site c e) ≡ true
open_is_whole site c e none =
    not_false (is_whole (reading site c e))
    (or_parts (not (persists_by (headed (reading site c e))) || is_by_nph (stage site c e) || is_closing_fault (answer site c e)) (not (is_whole (reading site c e))) none).1

whole_still : (was now : Reading) → Becomes was now → is_whole was ≡ true → is_whole now ≡ true
whole_still (Whole request used due) now grows is = ap is_whole grows
whole_still (More request due) now grows is = absurd (false≢true is)
whole_still (Bad cause bare) now grows is = absurd (false≢true is)

-- what was heard up to a front is the front of what was heard
front_whole : (site : Site) (c : ℕ) (e : Exchange) (front later : List Item) → 2 ≤ site.limits.head → e.items ≡ front ++ later
    → is_whole (reading site c (up_to e front)) ≡ true → is_whole (reading site c e) ≡ true
front_whole site c e front later two items is =
    let bytes : request_bytes c e ≡ request_bytes c (up_to e front) ++ client_in later c =
    ap (λ l. e.rest ++ client_in l c) items
    ∙ ap (λ b. e.rest ++ b) (flat_map-append (bytes_heard c) front later)
    ∙ sym (append_assoc e.rest (client_in front c) (client_in later c)) in
    whole_still (reading site c (up_to e front)) (reading site c e)
    (subst (λ b. Becomes (reading site c (up_to e front)) (read_request site.limits b)) (sym bytes)
    (readings_become site.limits (request_bytes c (up_to e front)) (client_in later c) two)) is

pub answered_are_read : AnsweredAreRead
answered_are_read site c e legs continued looked more two is =
    let front = is.begun.front in
    let f : Found (is_first_byte c (length (continue_part site c e))) [] e.items front =
    found (is_first_byte c (length (continue_part site c e))) [] e.items front is.begun.begins in
    let at : as_begun site c e ≡ up_to e front = ap (λ (o : Option (List Item)). up_to e (unwrap_or o e.items)) is.begun.begins in
    front_whole site c e front f.later two (f.within ∙ ap (λ g. g ++ f.later) (sym f.ends))
    (open_is_whole site c (up_to e front) (ap (closes_now site c) (sym at) ∙ is.closes_is))
