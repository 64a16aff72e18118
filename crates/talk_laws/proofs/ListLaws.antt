-- The items of an exchange and of its connection, with one more.
use Rattle.std.proofs.Common.{◌≡◌, ◌≤◌, ℕ, ◌+◌, Bool, true, false, List, [], ◌∷◌, ◌++◌, refl, sym, ap, ◌∙◌, append_assoc, arith}
use Rattle.std.specs.Prelude.{◌||◌, ◌&&◌, ◌==◌, not, nat_lt, if◌then◌else◌, count_by}
use Rattle.std.specs.List.{list_any}
use Rattle.std.proofs.lemmas.Bool.{and_parts, eqb-true, false≢true, le-ltb, lt-ltb, ltb-false, ltb-true, or_parts}
use Rattle.std.proofs.lemmas.List.Folds.{list_any-append}
use Rattle.host_trace.specs.declared.items.Act.{Act}
use Rattle.host_trace.specs.declared.items.Event.{Event}
use Rattle.host_trace.specs.declared.items.Event.TheVariants.{ClientBytes, ClientEof, WsBad, WsBinary, WsClosed, WsText}
use Rattle.host_trace.specs.declared.items.Item.{Item}
use Rattle.host_trace.specs.declared.items.Item.TheVariants.{In, Out}
use Rattle.host_trace.specs.Fits.{is_asked, is_asked_upgraded, is_piece}
use Rattle.host_trace.specs.Kinds.{is_client_answer, is_want_client}
use Rattle.host_trace.specs.Projections.{client_wanted, shut, upgraded}
use Rattle.host_trace.proofs.FirstLaws.{count_by-push, list_any-push}
use Rattle.own_traces.specs.OwnFits.{fits_own}
use Rattle.trace_model.specs.Exchange.{Exchange, all_of, pushed}
use Rattle.talk_laws.specs.Http.{AskedInTurn}

pub or_false : (b : Bool) → (b || false) ≡ b
or_false true = refl
or_false false = refl

pub all_push : (e : Exchange) (x : Item) → all_of (pushed e x) ≡ all_of e ++ x ∷ []
all_push e x = sym (append_assoc e.before e.items (x ∷ []))

pub any_push : (test : Item → Bool) (e : Exchange) (x : Item) → list_any test (all_of (pushed e x)) ≡ (list_any test (all_of e) || test x)
any_push test e x = ap (list_any test) (all_push e x) ∙ list_any-push test (all_of e) x

pub any_still : (test : Item → Bool) (e : Exchange) (x : Item) → test x ≡ false → list_any test (all_of (pushed e x)) ≡ list_any test (all_of e)
any_still test e x none = any_push test e x ∙ ap (λ b. list_any test (all_of e) || b) none ∙ or_false _

pub any_parts : (test : Item → Bool) (e : Exchange) → list_any test (all_of e) ≡ false → (list_any test e.before ≡ false) × (list_any test e.items ≡ false)
any_parts test e none = or_parts (list_any test e.before) (list_any test e.items) (sym (list_any-append test e.before e.items) ∙ none)

pub any_within : (test : Item → Bool) (e : Exchange) → list_any test e.before ≡ false → list_any test (all_of e) ≡ list_any test e.items
any_within test e none = list_any-append test e.before e.items ∙ ap (λ b. b || list_any test e.items) none

-- ---- the questions to the client

counts : (test : Item → Bool) (e : Exchange) (x : Item) → count_by test (all_of (pushed e x)) ≡ count_by test (all_of e) + (if test x then 1 else 0)
counts test e x = ap (count_by test) (all_push e x) ∙ count_by-push test (all_of e) x

-- an item that asks nothing
pub once_heard : (c : ℕ) (e : Exchange) (x : Item) → is_want_client c x ≡ false → (is_client_answer c x ≡ true → client_wanted (all_of e) c ≡ true)
    → AskedInTurn c (all_of e) → AskedInTurn c (all_of (pushed e x))
once_heard c e x quiet asked a = go (is_client_answer c x) refl (counts (is_client_answer c) e x)
  where
    same : count_by (is_want_client c) (all_of (pushed e x)) ≡ count_by (is_want_client c) (all_of e) + 0
    same = counts (is_want_client c) e x ∙ ap (λ b. count_by (is_want_client c) (all_of e) + (if b then 1 else 0)) quiet

    go : (b : Bool) → is_client_answer c x ≡ b → count_by (is_client_answer c) (all_of (pushed e x)) ≡ count_by (is_client_answer c) (all_of e) + (if b then 1 else 0)
        → AskedInTurn c (all_of (pushed e x))
    go true answers more =
        let below = ltb-true (count_by (is_client_answer c) (all_of e)) (count_by (is_want_client c) (all_of e)) (asked answers) in
        let most = a.once in
        record { answered = omega (arith, same, more, below); once = omega (arith, same, more, most) }
    go false none more =
        let below = a.answered in
        let most = a.once in
        record { answered = omega (arith, same, more, below); once = omega (arith, same, more, most) }

-- an act that asks nothing
pub once_act : (c : ℕ) (e : Exchange) (act : Act) → is_want_client c (Out act) ≡ false → AskedInTurn c (all_of e) → AskedInTurn c (all_of (pushed e (Out act)))
once_act c e act quiet a = once_heard c e (Out act) quiet (λ answers. absurd (false≢true answers)) a

pub wanted_still : (c : ℕ) (e : Exchange) (x : Item) → is_want_client c x ≡ false → is_client_answer c x ≡ false → client_wanted (all_of (pushed e x)) c ≡ client_wanted (all_of e) c
wanted_still c e x quiet none =
    let asks : count_by (is_want_client c) (all_of (pushed e x)) ≡ count_by (is_want_client c) (all_of e) =
    counts (is_want_client c) e x ∙ ap (λ b. count_by (is_want_client c) (all_of e) + (if b then 1 else 0)) quiet ∙ omega arith in
    let answers : count_by (is_client_answer c) (all_of (pushed e x)) ≡ count_by (is_client_answer c) (all_of e) =
    counts (is_client_answer c) e x ∙ ap (λ b. count_by (is_client_answer c) (all_of e) + (if b then 1 else 0)) none ∙ omega arith in
    ap (λ n. nat_lt n (count_by (is_want_client c) (all_of (pushed e x)))) answers ∙ ap (λ n. nat_lt (count_by (is_client_answer c) (all_of e)) n) asks

-- an answer leaves no question
pub wanted_none : (c : ℕ) (e : Exchange) (x : Item) → is_want_client c x ≡ false → is_client_answer c x ≡ true → AskedInTurn c (all_of e) → client_wanted (all_of (pushed e x)) c ≡ false
wanted_none c e x quiet answers a =
    let asks = counts (is_want_client c) e x ∙ ap (λ b. count_by (is_want_client c) (all_of e) + (if b then 1 else 0)) quiet in
    let more = counts (is_client_answer c) e x ∙ ap (λ b. count_by (is_client_answer c) (all_of e) + (if b then 1 else 0)) answers in
    let most = a.once in
    le-ltb _ _ (omega (arith, asks, more, most))

-- .. and a question where there is none is the only one
pub once_asked : (c : ℕ) (e : Exchange) (x : Item) → is_client_answer c x ≡ false → client_wanted (all_of e) c ≡ false → AskedInTurn c (all_of e) → AskedInTurn c (all_of (pushed e x))
once_asked c e x none free a = go (is_want_client c x) (counts (is_want_client c) e x)
  where
    at_most : count_by (is_want_client c) (all_of e) ≤ count_by (is_client_answer c) (all_of e)
    at_most = ltb-false _ _ free

    same : count_by (is_client_answer c) (all_of (pushed e x)) ≡ count_by (is_client_answer c) (all_of e) + 0
    same = counts (is_client_answer c) e x ∙ ap (λ b. count_by (is_client_answer c) (all_of e) + (if b then 1 else 0)) none

    go : (b : Bool) → count_by (is_want_client c) (all_of (pushed e x)) ≡ count_by (is_want_client c) (all_of e) + (if b then 1 else 0) → AskedInTurn c (all_of (pushed e x))
    go b more =
        let below = a.answered in
        record { answered = grown b more below; once = bound b more }
      where
        grown : (b : Bool) → count_by (is_want_client c) (all_of (pushed e x)) ≡ count_by (is_want_client c) (all_of e) + (if b then 1 else 0)
            → count_by (is_client_answer c) (all_of e) ≤ count_by (is_want_client c) (all_of e)
            → count_by (is_client_answer c) (all_of (pushed e x)) ≤ count_by (is_want_client c) (all_of (pushed e x))
        grown true more below = omega (arith, same, more, below)
        grown false more below = omega (arith, same, more, below)

        bound : (b : Bool) → count_by (is_want_client c) (all_of (pushed e x)) ≡ count_by (is_want_client c) (all_of e) + (if b then 1 else 0)
            → count_by (is_want_client c) (all_of (pushed e x)) ≤ count_by (is_client_answer c) (all_of (pushed e x)) + 1
        bound true more = omega (arith, same, more, at_most)
        bound false more = omega (arith, same, more, at_most)

-- a question stands where it was just asked
pub wanted_now : (c : ℕ) (e : Exchange) (x : Item) → is_want_client c x ≡ true → is_client_answer c x ≡ false → AskedInTurn c (all_of e) → client_wanted (all_of (pushed e x)) c ≡ true
wanted_now c e x asks none a =
    let more = counts (is_want_client c) e x ∙ ap (λ b. count_by (is_want_client c) (all_of e) + (if b then 1 else 0)) asks in
    let same = counts (is_client_answer c) e x ∙ ap (λ b. count_by (is_client_answer c) (all_of e) + (if b then 1 else 0)) none in
    let below = a.answered in
    lt-ltb _ _ (omega (arith, same, more, below))

-- the client answers where it was asked
http_asked : (L : List Item) (c d : ℕ) → (c == d) ≡ true → is_asked L d ≡ true → client_wanted L c ≡ true
http_asked L c d same is = ap (client_wanted L) (eqb-true c d same) ∙ (and_parts (not (shut L d) && not (upgraded L d)) (client_wanted L d) is).1

socket_asked : (L : List Item) (c d : ℕ) → (c == d) ≡ true → is_asked_upgraded L d ≡ true → client_wanted L c ≡ true
socket_asked L c d same is = ap (client_wanted L) (eqb-true c d same) ∙ (and_parts (not (shut L d) && upgraded L d) (client_wanted L d) is).1

pub last_one : (b : Bool) → (b || false) ≡ true → b ≡ true
last_one true is = refl
last_one false is = absurd (false≢true is)

pub last_two : (b : Bool) → (b || false || false) ≡ true → b ≡ true
last_two true is = refl
last_two false is = absurd (false≢true is)

last_three : (b : Bool) → (b || false || false || false) ≡ true → b ≡ true
last_three true is = refl
last_three false is = absurd (false≢true is)

last_four : (b : Bool) → (b || false || false || false || false) ≡ true → b ≡ true
last_four true is = refl
last_four false is = absurd (false≢true is)

last_five : (b : Bool) → (b || false || false || false || false || false) ≡ true → b ≡ true
last_five true is = refl
last_five false is = absurd (false≢true is)

pub answer_asked : (n c : ℕ) (L : List Item) (ev : Event) → fits_own n L ev ≡ true → is_client_answer c (In ev) ≡ true → client_wanted L c ≡ true
answer_asked n c L (ClientBytes d bytes) fits is = http_asked L c d (last_five (c == d) is) (and_parts (is_asked L d) (is_piece bytes) fits).0
answer_asked n c L (ClientEof d) fits is = http_asked L c d (last_four (c == d) is) fits
answer_asked n c L (WsText d bytes) fits is = socket_asked L c d (last_three (c == d) is) fits
answer_asked n c L (WsBinary d) fits is = socket_asked L c d (last_two (c == d) is) fits
answer_asked n c L (WsClosed d) fits is = socket_asked L c d (last_one (c == d) is) fits
answer_asked n c L (WsBad d) fits is = socket_asked L c d is fits
answer_asked n c L ev fits is = absurd (false≢true is)
