-- The answer of an exchange that goes on stays: that of a refused request and of a broken one, and that of an exchange
-- for which a child was started. Its legs only grow.
use Rattle.std.proofs.Common.{◌≡◌, ◌≢◌, ◌≤◌, ℕ, zero, suc, Bool, true, false, List, [], ◌∷◌, ◌++◌, map, Option, Some, None, Result, Ok, Err, refl, sym, ap, subst, ◌∙◌, append-nil, append_assoc}
use Rattle.std.specs.Prelude.{if◌then◌else◌, not, ◌&&◌, ◌||◌, ◌==◌}
use Rattle.std.proofs.lemmas.Bool.{false≢true}
use Rattle.host_base.specs.declared.cause.Cause.{Cause}
use Rattle.host_base.specs.declared.request.Request.{Request}
use Rattle.host_base.specs.declared.site.Mapped.{Mapped}
use Rattle.host_base.specs.declared.site.ScriptKind.{ScriptKind}
use Rattle.host_base.specs.declared.site.ScriptKind.TheVariants.{Cgi, Nph, WebSocket}
use Rattle.host_base.specs.declared.site.Site.{Site}
use Rattle.host_trace.specs.declared.items.Event.TheVariants.{ClientEof, Tick}
use Rattle.host_trace.specs.declared.items.Item.{Item}
use Rattle.host_trace.specs.declared.items.Item.TheVariants.{In}
use Rattle.host_trace.specs.First.{last_of, or_else}
use Rattle.host_trace.specs.Decider.{Outcome, derived, failed, unanswered}
use Rattle.host_trace.specs.Kinds.{bytes_heard, child_of}
use Rattle.host_trace.specs.Projections.{child_out, children, children_of, shut}
use Rattle.host_trace.proofs.FirstLaws.{first_front-push, or_else-some, flat_map-push}
use Rattle.host_trace.proofs.ProjectionLaws.{children-push}
use Rattle.reply_kinds.specs.declared.derived.Derived.{Derived}
use Rattle.reply_kinds.specs.declared.derived.Derived.TheVariants as Output
use Rattle.reply_kinds.specs.Derived.{derived_of}
use Rattle.request_reader.specs.Request.{Reading, Whole, More, Bad, is_begun, is_length, with_body}
use Rattle.request_reader.specs.RequestLaws.{Becomes}
use Rattle.ws_handshake.specs.Handshake.{handshake}
use Rattle.trace_child.specs.Words.{is_filled}
use Rattle.trace_child.specs.Decided.{decides_run, decided_at, outcome_at}
use Rattle.trace_child.proofs.DecidedLaws.{decided_at-push}
use Rattle.trace_model.specs.Readings.{is_whole, if_length}
use Rattle.trace_model.specs.Exchange.{Exchange, pushed, request_bytes, reading, has_start, has_final}
use Rattle.trace_model.specs.Breaks.{breaks, broken, is_breakable, is_idle_end}
use Rattle.trace_model.specs.Places.{place_of, kind_of, origins_of}
use Rattle.trace_model.specs.Legs.{Leg, leg_of, run_of}
use Rattle.trace_model.specs.Answer.{Walk, undecided, faulted, answer, answer_at, walk, walk_by, walk_by_break, walk_from, at_hop, at_place, at_script, at_handshake, at_start, at_leg, at_run, at_decider, at_outcome, at_output, request_of_hop}
use Rattle.trace_model.specs.Exchanges.{current}
use Rattle.trace_model.proofs.ExchangeLaws.{request_bytes-push, with_items, EndsNone, current-append, current_after-on}
use Rattle.request_reader.proofs.Becoming.{readings_become}

-- ---- what is first stays first

pub broken-push : (site : Site) (c : ℕ) (e : Exchange) (x : Item) (front : List Item) →
    broken site c e ≡ Some front → broken site c (pushed e x) ≡ Some front
broken-push site c e x front is = first_front-push (breaks site c e) e.items x ∙ or_else-some _ _ front is

-- once a child was started nothing breaks the request
and_end : (a : Bool) → (a && false) ≡ false
and_end true = refl
and_end false = refl

started_holds : (site : Site) (c : ℕ) (e : Exchange) → has_start c e ≡ true → is_breakable site c e e.items ≡ false
started_holds site c e begun = go (not (shut e.before c || shut e.items c)) (has_start c e) begun
  where
    go : (b s : Bool) → s ≡ true → (b && not (s || has_final site c e) && is_begun (request_bytes c e)) ≡ false
    go true true is = refl
    go false true is = refl
    go b false is = absurd (false≢true is)

no_break : (site : Site) (c : ℕ) (e : Exchange) (x : Item) → has_start c e ≡ true → breaks site c e e.items x ≡ false
no_break site c e (In (ClientEof d)) begun =
    ap (λ b. c == d && not (is_whole (reading site c e)) && b) (started_holds site c e begun) ∙ and_end (c == d && not (is_whole (reading site c e)))
no_break site c e (In (Tick secs)) begun =
    ap (λ b. is_idle_end site.limits c e.items && b) (started_holds site c e begun) ∙ and_end (is_idle_end site.limits c e.items)
no_break site c e _ begun = refl

pub unbroken-push : (site : Site) (c : ℕ) (e : Exchange) (x : Item) → has_start c e ≡ true → broken site c e ≡ None → broken site c (pushed e x) ≡ None
unbroken-push site c e x begun none =
    first_front-push (breaks site c e) e.items x
    ∙ ap (λ first. or_else first (if breaks site c e e.items x then Some (e.items ++ x ∷ []) else None)) none
    ∙ ap (λ (b : Bool). if b then Some (e.items ++ x ∷ []) else None) (no_break site c e x begun)

is_longer : (xs ys : List ℕ) → is_filled xs ≡ true → is_filled (xs ++ ys) ≡ true
is_longer [] ys is = absurd (false≢true is)
is_longer (a ∷ xs) ys is = refl

pub has_start-push : (c : ℕ) (e : Exchange) (x : Item) → has_start c e ≡ true → has_start c (pushed e x) ≡ true
has_start-push c e x is = ap (λ ks. is_filled ks) (children-push e.items x c) ∙ is_longer (children e.items c) _ is

-- ---- the walk: an answer that there is stays, and the legs are there still

pub record SameLeg (was now : Leg) : Type 0 where
  pub child : now.child ≡ was.child
  pub hop : now.hop ≡ was.hop
  pub kind : now.kind ≡ was.kind

-- the legs are there still, in their places, and more may follow
abbrev pub Grow : List Leg → List Leg → Type 0
Grow [] now = Unit {0}
Grow (leg ∷ legs) [] = ⊥
Grow (leg ∷ legs) (later ∷ laters) = SameLeg leg later × Grow legs laters

pub record Keeps (was now : Walk) : Type 0 where
  pub answers : answer_at was.stage ≢ undecided → answer_at now.stage ≡ answer_at was.stage
  pub legs : Grow was.legs now.legs

abbrev KeepEach : (List ℕ → Walk) → (List ℕ → Walk) → Type 0
KeepEach next later = (location : List ℕ) → Keeps (next location) (later location)

output_keeps : (was now : Leg) (next later : List ℕ → Walk) (output : Derived) → KeepEach next later → Keeps (at_output was next output) (at_output now later output)
output_keeps was now next later (Output.Hop location) each = each location
output_keeps was now next later (Output.Reply reply) each = record { answers = λ some. refl; legs = tt }
output_keeps was now next later (Output.Raw bytes) each = record { answers = λ some. refl; legs = tt }
output_keeps was now next later (Output.Bad cause) each = record { answers = λ some. refl; legs = tt }

same_leg : (hop : ℕ) (kind : ScriptKind) (request : Request) (body : List ℕ) (k : ℕ) → SameLeg (leg_of hop kind request k) (leg_of hop kind (with_body request body) k)
same_leg hop kind request body k = record { child = refl; hop = refl; kind = refl }

mapped_grow : (hop : ℕ) (kind : ScriptKind) (request : Request) (body ks others : List ℕ) →
    Grow (map (leg_of hop kind request) ks) (map (leg_of hop kind (with_body request body)) (ks ++ others))
mapped_grow hop kind request body [] others = tt
mapped_grow hop kind request body (k ∷ ks) others = (same_leg hop kind request body k, mapped_grow hop kind request body ks others)

-- a handshake looks at no body
handshake-with_body : (request : Request) (body : List ℕ) (origins : Option (List (List ℕ))) → handshake (with_body request body) origins ≡ handshake request origins
unfolding handshake
handshake-with_body request body None = refl
handshake-with_body request body (Some origins) = refl

-- an exchange with one more item, whose request may have more of its body
module _ (site : Site) (c : ℕ) (e : Exchange) (x : Item) (request : Request) (body : List ℕ) (hop : ℕ) (next later : List ℕ → Walk) (each : KeepEach next later) where
  outcome_keeps : (kind : ScriptKind) (k : ℕ) (front : List Item) (o : Outcome) →
      Keeps (at_outcome site c e (leg_of hop kind request k) next front o) (at_outcome site c (pushed e x) (leg_of hop kind (with_body request body) k) later front o)
  outcome_keeps kind k front derived =
      output_keeps (leg_of hop kind request k) (leg_of hop kind (with_body request body) k) next later (derived_of kind (child_out front k)) each
  outcome_keeps kind k front (failed cause) = record { answers = λ some. refl; legs = tt }
  outcome_keeps kind k front unanswered = record { answers = λ some. refl; legs = tt }

  decider_keeps : (kind : ScriptKind) (k : ℕ) (front : List Item) (o : Option Item) →
      Keeps (at_decider site c e (leg_of hop kind request k) next front o) (at_decider site c (pushed e x) (leg_of hop kind (with_body request body) k) later front o)
  decider_keeps kind k front None = record { answers = λ some. absurd (some refl); legs = tt }
  decider_keeps kind k front (Some y) = outcome_keeps kind k front (outcome_at (run_of site c e (leg_of hop kind request k)) y)

  run_keeps : (kind : ScriptKind) (k : ℕ) (front : Option (List Item)) (now : Option (List Item)) → now ≡ or_else front (if decides_run (run_of site c e (leg_of hop kind request k)) e.items x then Some (e.items ++ x ∷ []) else None)
      → Keeps (at_run site c e (leg_of hop kind request k) next front) (at_run site c (pushed e x) (leg_of hop kind (with_body request body) k) later now)
  run_keeps kind k None now is = record { answers = λ some. absurd (some refl); legs = tt }
  run_keeps kind k (Some front) now is = rw is (decider_keeps kind k front (last_of front))

  leg_keeps : (kind : ScriptKind) (k : ℕ) → Keeps (at_leg site c e next (leg_of hop kind request k)) (at_leg site c (pushed e x) later (leg_of hop kind (with_body request body) k))
  leg_keeps kind k =
      let run = run_of site c e (leg_of hop kind request k) in
      let keeps = run_keeps kind k (decided_at run e.items) (decided_at run (e.items ++ x ∷ [])) (decided_at-push run e.items x) in
      record { answers = keeps.answers; legs = (same_leg hop kind request body k, keeps.legs) }

  start_keeps : (mapped : Mapped) (kind : ScriptKind) (ks others : List ℕ) →
      Keeps (at_start site c e hop request mapped kind next ks) (at_start site c (pushed e x) hop (with_body request body) mapped kind later (ks ++ others))
  start_keeps mapped kind [] others = record { answers = λ some. absurd (some refl); legs = tt }
  start_keeps mapped kind (k ∷ ks) others = leg_keeps kind k

  handshake_keeps : (mapped : Mapped) (value : Result (List ℕ) Cause) →
      Keeps (at_handshake c e hop request mapped value) (at_handshake c (pushed e x) hop (with_body request body) mapped value)
  handshake_keeps mapped (Ok value) = record {
    answers = λ some. refl;
    legs = rw (flat_map-push (child_of c e.number hop) e.items x)
        (mapped_grow hop WebSocket request body (children_of e.items c e.number hop) (child_of c e.number hop x));
  }
  handshake_keeps mapped (Err cause) = record { answers = λ some. refl; legs = tt }

  script_keeps : (mapped : Mapped) (kind : ScriptKind) →
      Keeps (at_script site c e hop request mapped next kind) (at_script site c (pushed e x) hop (with_body request body) mapped later kind)
  script_keeps mapped WebSocket =
      subst (λ value. Keeps (at_handshake c e hop request mapped (handshake request (origins_of site mapped))) (at_handshake c (pushed e x) hop (with_body request body) mapped value))
      (sym (handshake-with_body request body (origins_of site mapped))) (handshake_keeps mapped (handshake request (origins_of site mapped)))
  script_keeps mapped Cgi =
      rw (flat_map-push (child_of c e.number hop) e.items x) (start_keeps mapped Cgi (children_of e.items c e.number hop) (child_of c e.number hop x))
  script_keeps mapped Nph =
      rw (flat_map-push (child_of c e.number hop) e.items x) (start_keeps mapped Nph (children_of e.items c e.number hop) (child_of c e.number hop x))

  place_keeps : (place : Result Mapped Cause) →
      Keeps (at_place site c e hop request next place) (at_place site c (pushed e x) hop (with_body request body) later place)
  place_keeps (Err cause) = record { answers = λ some. refl; legs = tt }
  place_keeps (Ok mapped) = script_keeps mapped (kind_of site mapped)

  hop_keeps : Keeps (at_hop site c e hop request next) (at_hop site c (pushed e x) hop (with_body request body) later)
  hop_keeps = place_keeps (place_of site request)

walk_keeps : (site : Site) (c : ℕ) (e : Exchange) (x : Item) (left hop : ℕ) (request : Request) (body : List ℕ) →
    Keeps (walk_from site c e left hop request) (walk_from site c (pushed e x) left hop (with_body request body))
walk_keeps site c e x zero hop request body = hop_keeps site c e x request body hop _ _ (λ location. record { answers = λ some. refl; legs = tt })
walk_keeps site c e x (suc left) hop request body =
    hop_keeps site c e x request body hop _ _ (λ location. walk_keeps site c e x left (suc hop) (request_of_hop request location) [])

-- ---- the answer

pub grown : (site : Site) (c : ℕ) (e : Exchange) (x : Item) → 2 ≤ site.limits.head → Becomes (reading site c e) (reading site c (pushed e x))
grown site c e x two = rw (request_bytes-push c e x) (readings_become site.limits (request_bytes c e) (bytes_heard c x) two)

-- where a child was started, by what the reading is and becomes
module _ (site : Site) (c : ℕ) (e : Exchange) (x : Item) where
  from_start : (request : Request) (body : List ℕ) →
      Keeps (walk_from site c e site.limits.redirects 0 request) (walk_from site c (pushed e x) site.limits.redirects 0 (with_body request body))
  from_start request body = walk_keeps site c e x site.limits.redirects 0 request body

  none_yet : (b : Option (List Item)) (now : Walk) → b ≡ None → Keeps (walk_by_break site c e b None) now
  none_yet None now none = record { answers = λ some. absurd (some refl); legs = tt }
  none_yet (Some front) now none = absurd (cc)

  by_walk : (was now : Walk) (request request' : Request) (body : List ℕ) → was ≡ walk_from site c e site.limits.redirects 0 request
      → request' ≡ with_body request body → now ≡ walk_from site c (pushed e x) site.limits.redirects 0 request' → Keeps was now
  by_walk was now request request' body is more then_is = rw (is, then_is, more) (from_start request body)

  -- a request of known length that goes on, whole or not
  length_keeps : (request : Request) (due : Bool) (now : Reading) → is_length request.framing ≡ true → broken site c e ≡ None → broken site c (pushed e x) ≡ None
      → Becomes (More (Some request) due) now → Keeps (walk_by site c e (More (Some request) due)) (walk_by site c (pushed e x) now)
  length_keeps request due (Whole request' used due') is none still grows =
      by_walk _ _ request request' (request.body ++ grows.0.0)
      (ap (λ (b : Bool). walk_by_break site c e (broken site c e) (if b then Some request else None)) is ∙ ap (λ b. walk_by_break site c e b (Some request)) none)
      grows.0.1 (ap (λ b. walk_by_break site c (pushed e x) b (Some request')) still)
  length_keeps request due (More (Some request') due') is none still grows =
      by_walk _ _ request request' (request.body ++ grows.0.0)
      (ap (λ (b : Bool). walk_by_break site c e (broken site c e) (if b then Some request else None)) is ∙ ap (λ b. walk_by_break site c e b (Some request)) none)
      grows.0.1
      (ap (λ (b : Bool). walk_by_break site c (pushed e x) (broken site c (pushed e x)) (if b then Some request' else None)) (ap (λ r. is_length r.framing) grows.0.1 ∙ is)
      ∙ ap (λ b. walk_by_break site c (pushed e x) b (Some request')) still)
  length_keeps request due (More None due') is none still grows = absurd grows
  length_keeps request due (Bad cause bare) is none still grows = absurd (false≢true (sym grows.0 ∙ is))

  begun_keeps : (was now : Reading) → broken site c e ≡ None → broken site c (pushed e x) ≡ None → Becomes was now
      → Keeps (walk_by site c e was) (walk_by site c (pushed e x) now)
  begun_keeps (Bad cause bare) now none still grows = rw grows (record { answers = λ some. refl; legs = tt })
  begun_keeps (Whole request used due) now none still grows =
      by_walk _ _ request request request.body (ap (λ b. walk_by_break site c e b (Some request)) none) refl
      (ap (walk_by site c (pushed e x)) grows ∙ ap (λ b. walk_by_break site c (pushed e x) b (Some request)) still)
  begun_keeps (More None due) now none still grows = none_yet (broken site c e) (walk_by site c (pushed e x) now) none
  begun_keeps (More (Some request) due) now none still grows = go (is_length request.framing) refl
    where
      go : (b : Bool) → is_length request.framing ≡ b → Keeps (walk_by site c e (More (Some request) due)) (walk_by site c (pushed e x) now)
      go true is = length_keeps request due now is none still grows
      go false is = rw is (none_yet (broken site c e) (walk_by site c (pushed e x) now) none)

pub walk-push : (site : Site) (c : ℕ) (e : Exchange) (x : Item) → 2 ≤ site.limits.head → has_start c e ≡ true → broken site c e ≡ None
    → Keeps (walk site c e) (walk site c (pushed e x))
walk-push site c e x two begun none =
    begun_keeps site c e x (reading site c e) (reading site c (pushed e x)) none (unbroken-push site c e x begun none) (grown site c e x two)

-- the answer of an exchange that goes on stays with the next item, whatever it is
pub answer-push : (site : Site) (c : ℕ) (e : Exchange) (x : Item) → 2 ≤ site.limits.head → has_start c e ≡ true → broken site c e ≡ None
    → answer site c e ≢ undecided → answer site c (pushed e x) ≡ answer site c e
answer-push site c e x two begun none = (walk-push site c e x two begun none).answers

-- .. that of a refused request
pub answer-push-rejected : (site : Site) (c : ℕ) (e : Exchange) (x : Item) (cause : Cause) (bare : Bool) → 2 ≤ site.limits.head
    → reading site c e ≡ Bad cause bare → answer site c (pushed e x) ≡ faulted cause
answer-push-rejected site c e x cause bare two is =
    let grows : Becomes (Bad cause bare) (reading site c (pushed e x)) = rw is at (grown site c e x two) in
    ap (λ r. answer_at (walk_by site c (pushed e x) r).stage) grows

-- .. and that of a broken one, to which no byte is heard any more
pub answer-push-broken : (site : Site) (c : ℕ) (e : Exchange) (x : Item) (front : List Item) → broken site c e ≡ Some front
    → reading site c (pushed e x) ≡ reading site c e → answer site c (pushed e x) ≡ answer site c e
answer-push-broken site c e x front is same = go (reading site c e) (reading site c (pushed e x)) same
  where
    both : (request : Option Request) → answer_at (walk_by_break site c (pushed e x) (broken site c (pushed e x)) request).stage ≡ answer_at (walk_by_break site c e (broken site c e) request).stage
    both request = rw (is, broken-push site c e x front is) refl

    go : (was now : Reading) → now ≡ was → answer_at (walk_by site c (pushed e x) now).stage ≡ answer_at (walk_by site c e was).stage
    go (Bad cause bare) now same = rw same refl
    go (Whole request used due) now same = rw same (both (Some request))
    go (More request due) now same = rw same (both (if_length request))

-- ---- .. with all that follows while the exchange goes on

pub answer-on : (site : Site) (c : ℕ) (e : Exchange) (items : List Item) → 2 ≤ site.limits.head → has_start c e ≡ true → broken site c e ≡ None
    → answer site c e ≢ undecided → answer site c (with_items e items) ≡ answer site c e
answer-on site c e [] two begun none some = ap (λ l. answer site c (record e { items = l })) (append-nil e.items)
answer-on site c e (x ∷ items) two begun none some =
    let one = answer-push site c e x two begun none some in
    ap (λ l. answer site c (record e { items = l })) (sym (append_assoc e.items (x ∷ []) items))
    ∙ (answer-on site c (pushed e x) items two (has_start-push c e x begun) (unbroken-push site c e x begun none) (λ is. some (sym one ∙ is)) ∙ one)

-- in the words of a connection's items: the answer of the exchange that goes on stays while none ends
pub answers-stay : (site : Site) (c : ℕ) (L further : List Item) → 2 ≤ site.limits.head → has_start c (current site c L) ≡ true
    → broken site c (current site c L) ≡ None → answer site c (current site c L) ≢ undecided → EndsNone site c (current site c L) further
    → answer site c (current site c (L ++ further)) ≡ answer site c (current site c L)
answers-stay site c L further two begun none some on =
    ap (λ e. answer site c e) (current-append site c L further ∙ current_after-on site c (current site c L) further on)
    ∙ answer-on site c (current site c L) further two begun none some
