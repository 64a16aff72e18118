-- One turn: an event, and perhaps a question.
use Rattle.std.proofs.Common.{◌≡◌, ◌≢◌, ℕ, ◌+◌, Bool, true, false, List, [], ◌∷◌, ◌++◌, Option, Some, None, refl, sym, ◌∙◌, ap, subst, map, append-nil, append_assoc, zero-add, add-zero, arith}
use Rattle.std.specs.Prelude.{◌||◌, ◌&&◌, not, is_some, nat_lt, slice_get, count_by, if◌then◌else◌}
use Rattle.std.specs.List.{list_any, list_all}
use Rattle.std.proofs.lemmas.Bool.Decides.{nat_tests}
use Rattle.std.proofs.lemmas.List.Folds.{list_all-append}
use Rattle.host_base.specs.declared.cause.Cause.TheVariants.{Incomplete}
use Rattle.host_base.specs.declared.launch.Peer.{Peer}
use Rattle.host_base.specs.declared.limits.Limits.{Limits}
use Rattle.host_base.specs.declared.site.Site.{Site}
use Rattle.host_trace.specs.declared.items.Act.{Act}
use Rattle.host_trace.specs.declared.items.Act.TheVariants.{WantClient}
use Rattle.host_trace.specs.declared.items.Event.{Event}
use Rattle.host_trace.specs.declared.items.Item.{Item}
use Rattle.host_trace.specs.declared.items.Item.TheVariants.{In, Out}
use Rattle.host_trace.specs.Kinds.{peer_of_item, is_accepted, is_client_answer, is_client_eof, is_client_gone, is_stop, is_want_client}
use Rattle.host_trace.specs.Projections.{accepted_count, client_in, event_count, is_known, peer_of, peers, stopped, upgraded}
use Rattle.host_trace.specs.declared.outside.Acted.{Acted}
use Rattle.host_trace.specs.declared.outside.Acted.TheVariants.{Done}
use Rattle.host_trace.specs.Fits.{fits}
use Rattle.host_trace.specs.Told.{ActsOn, Hears, added_by}
use Rattle.host_trace.specs.Trace.{after_step, end_of, step_of, steps}
use Rattle.host_trace.proofs.FirstLaws.{count_by-push, list_any-push, flat_map-push}
use Rattle.host_trace.proofs.ProjectionLaws.{accepted_count-push, client_in-push, event_count-push, stopped-push}
use Rattle.host_trace.proofs.StepLaws.{steps-append}
use Rattle.request_reader.specs.Request.{Reading, Whole, More, Bad, is_begun, read_request}
use Rattle.explain.specs.Explained.{AsksAlone, ends_where, first_reading, is_asking, is_explained, is_unasked}
use Rattle.explain.specs.Inputs.{KnowsInputs, bytes_of, ending_of_reading, goes_on, heard_of, input_of, is_answer, peer_after}
use Rattle.explain.specs.Steps.{Stands, IsEnded, IsLost, Turned}
use Rattle.explain.specs.declared.first.First.{First}
use Rattle.explain.specs.declared.input.Ending.{Ending}
use Rattle.explain.specs.declared.input.Ending.TheVariants as Ends
use Rattle.explain.specs.declared.input.Heard.{Heard}
use Rattle.explain.specs.declared.input.Heard.TheVariants.{Passed, Asks, Ended, NoMemory}
use Rattle.explain.specs.declared.input.Input.{Input}
use Rattle.explain.specs.declared.input.Input.TheVariants as Is
use Rattle.explain.proofs.EventLaws.{says, reply_is, peer_is, some_peer, is_eof, is_gone, is_accept, is_reply}

-- ---- counts of steps

-- one more step is counted by its end
ends_after : (test : List Item → Bool) (T : List Item) (event : Event) (acts : List Act) → ends_where test T ≡ 0 →
    ends_where test (after_step T event acts) ≡ (if test (after_step T event acts) then 1 else 0)
ends_after test T event acts none =
    ap (λ l. count_by (λ s. test (end_of s)) l) (steps-append T event acts)
    ∙ (count_by-push (λ s. test (end_of s)) (steps T) (step_of T event acts)
    ∙ (ap (λ n. n + (if test (after_step T event acts) then 1 else 0)) none ∙ zero-add (if test (after_step T event acts) then 1 else 0)))

none_by : (test : List Item → Bool) (T : List Item) → ends_where test T ≡ (if test T then 1 else 0) → test T ≡ false → ends_where test T ≡ 0
none_by test T e f = e ∙ ap (λ b. if b then 1 else 0) f

one_by : (test : List Item → Bool) (T : List Item) → ends_where test T ≡ (if test T then 1 else 0) → test T ≡ true → ends_where test T ≡ 1
one_by test T e f = e ∙ ap (λ b. if b then 1 else 0) f

-- ---- what an event adds

-- events and questions upgrade nothing
plain_of : (T : List Item) (d : ℕ) → list_all is_asking T ≡ true → upgraded T d ≡ false
plain_of [] d e = refl
plain_of (In event ∷ T) d e = plain_of T d e
plain_of (Out (WantClient c) ∷ T) d e = plain_of T d (right (is_want_client 0 (Out (WantClient c))) (list_all is_asking T) e)
  where
    right : (a b : Bool) → (a && b) ≡ true → b ≡ true
    right true b e = e
    right false b e = absurd (cc)
plain_of (Out _ ∷ T) d e = absurd (cc)

-- the client has ended its input or is gone, or Stop was heard
abbrev rest_of : List Item → Bool
rest_of T = list_any (is_client_eof 0) T || (list_any (is_client_gone 0) T || stopped T)

or_true : (b : Bool) → (b || true) ≡ true
or_true true = refl
or_true false = refl

swap_or : (a b c d e f : Bool) → ((a || b) || ((c || d) || (e || f))) ≡ ((a || (c || e)) || (b || (d || f)))
swap_or true b c d e f = refl
swap_or false true c d e f = sym (or_true (c || e))
swap_or false false true d e f = refl
swap_or false false false true e f = sym (or_true e)
swap_or false false false false e f = refl

abbrev ends_input : Input → Bool
ends_input input = is_eof input || is_gone input

rest_is : (T : List Item) (event : Event) → rest_of (T ++ In event ∷ []) ≡ (rest_of T || ends_input (input_of event))
rest_is T event =
    let s = says event in
    rw (list_any-push (is_client_eof 0) T (In event), list_any-push (is_client_gone 0) T (In event), stopped-push T (In event))
    (swap_or (list_any (is_client_eof 0) T) (is_client_eof 0 (In event)) (list_any (is_client_gone 0) T) (is_client_gone 0 (In event)) (stopped T) (is_stop (In event))
    ∙ ap (λ b. rest_of T || b) (ap (λ b. b || (is_client_gone 0 (In event) || is_stop (In event))) s.eof ∙ ap (λ b. is_eof (input_of event) || b) s.gone))

-- ---- what a trace says of the first client

record Sums (T : List Item) (peer : Option Peer) (bytes : List ℕ) (eof rest known : Bool) (answers wants events : ℕ) : Type 0 where
  peer_is : peer_of T 0 ≡ peer
  bytes_is : client_in T 0 ≡ bytes
  eof_is : list_any (is_client_eof 0) T ≡ eof
  rest_is : rest_of T ≡ rest
  known_is : is_known T 0 ≡ known
  answers_is : count_by (is_client_answer 0) T ≡ answers
  wants_is : count_by (is_want_client 0) T ≡ wants
  events_is : event_count T ≡ events
  alone : list_all is_asking T ≡ true

known_or : (n : ℕ) (b : Bool) → nat_lt 0 (n + (if b then 1 else 0)) ≡ (nat_lt 0 n || b)
known_or n true = grind (arith, nat_tests)
known_or n false = grind (arith, nat_tests)

sums_event : (limit : ℕ) (T : List Item) (event : Event) (peer : Option Peer) (bytes : List ℕ) (eof rest known : Bool) (answers wants events : ℕ) →
    Sums T peer bytes eof rest known answers wants events → fits limit T event ≡ true →
    Sums (T ++ In event ∷ []) (peer_after peer (input_of event)) (bytes ++ bytes_of (input_of event)) (eof || is_eof (input_of event)) (rest || ends_input (input_of event))
    (known || is_accept (input_of event)) (answers + (if is_reply (input_of event) then 1 else 0)) wants (events + 1)
sums_event limit T event peer bytes eof rest known answers wants events s fit =
    let e = says event in
    record {
      peer_is = peer_is T event ∙ ap (λ p. peer_after p (input_of event)) s.peer_is;
      bytes_is = client_in-push T (In event) 0 ∙ (ap (λ more. client_in T 0 ++ more) e.bytes ∙ ap (λ b. b ++ bytes_of (input_of event)) s.bytes_is);
      eof_is = list_any-push (is_client_eof 0) T (In event) ∙ (ap (λ b. list_any (is_client_eof 0) T || b) e.eof ∙ ap (λ b. b || is_eof (input_of event)) s.eof_is);
      rest_is = rest_is T event ∙ ap (λ b. b || ends_input (input_of event)) s.rest_is;
      known_is =
          ap (λ n. nat_lt 0 n) (accepted_count-push T (In event))
          ∙ (known_or (accepted_count T) (is_accepted (In event))
          ∙ (ap (λ b. is_known T 0 || b) e.accept ∙ ap (λ b. b || is_accept (input_of event)) s.known_is));
      answers_is =
          count_by-push (is_client_answer 0) T (In event)
          ∙ (ap (λ b. count_by (is_client_answer 0) T + (if b then 1 else 0)) (reply_is limit T event (λ d. plain_of T d s.alone) fit)
          ∙ ap (λ n. n + (if is_reply (input_of event) then 1 else 0)) s.answers_is);
      wants_is = count_by-push (is_want_client 0) T (In event) ∙ (add-zero (count_by (is_want_client 0) T) ∙ s.wants_is);
      events_is = event_count-push T (In event) ∙ ap (λ n. n + 1) s.events_is;
      alone = list_all-append is_asking T (In event ∷ []) ∙ ap (λ b. b && true) s.alone;
    }

question : Item
question = Out (WantClient 0)

or_false : (b : Bool) → (b || false) ≡ b
or_false true = refl
or_false false = refl

or_none : (a b c : Bool) → ((a || false) || ((b || false) || (c || false))) ≡ (a || (b || c))
or_none a b c = rw (or_false a, or_false b, or_false c) refl

sums_question : (T : List Item) (peer : Option Peer) (bytes : List ℕ) (eof rest known : Bool) (answers wants events : ℕ) →
    Sums T peer bytes eof rest known answers wants events → Sums (T ++ question ∷ []) peer bytes eof rest known answers (wants + 1) events
unfolding question
sums_question T peer bytes eof rest known answers wants events s =
    record {
      peer_is = ap (λ ps. slice_get ps 0) (flat_map-push peer_of_item T question ∙ append-nil (peers T)) ∙ s.peer_is;
      bytes_is = client_in-push T question 0 ∙ (append-nil (client_in T 0) ∙ s.bytes_is);
      eof_is = list_any-push (is_client_eof 0) T question ∙ (or_false (list_any (is_client_eof 0) T) ∙ s.eof_is);
      rest_is =
          rw (list_any-push (is_client_eof 0) T question, list_any-push (is_client_gone 0) T question, stopped-push T question)
          (or_none (list_any (is_client_eof 0) T) (list_any (is_client_gone 0) T) (stopped T) ∙ s.rest_is);
      known_is = ap (λ n. nat_lt 0 n) (accepted_count-push T question ∙ add-zero (accepted_count T)) ∙ s.known_is;
      answers_is = count_by-push (is_client_answer 0) T question ∙ (add-zero (count_by (is_client_answer 0) T) ∙ s.answers_is);
      wants_is = count_by-push (is_want_client 0) T question ∙ ap (λ n. n + 1) s.wants_is;
      events_is = event_count-push T question ∙ (add-zero (event_count T) ∙ s.events_is);
      alone = list_all-append is_asking T (question ∷ []) ∙ ap (λ b. b && true) s.alone;
    }

-- ---- by what is made of an input

not_passed : (b : Bool) (e : Ending) → (if b then Ended e else Asks) ≡ Passed → ⊥
not_passed true e is = absurd (cc)
not_passed false e is = absurd (cc)

record WhenPassed (peer : Option Peer) (input : Input) : Type 0 where
  bytes : bytes_of input ≡ []
  ends : ends_input input ≡ false
  reply : is_reply input ≡ false
  known : (is_some peer || is_accept input) ≡ is_some peer

when_passed : (limits : Limits) (peer : Option Peer) (bytes : List ℕ) (input : Input) → heard_of limits peer bytes input ≡ Passed → WhenPassed peer input
when_passed limits (Some peer) bytes (Is.Accepted new) is = record { bytes = refl; ends = refl; reply = refl; known = refl }
when_passed limits None bytes (Is.Accepted new) is = absurd (cc)
when_passed limits peer bytes (Is.Bytes more) is = absurd (not_passed (is_answer (read_request limits (bytes ++ more))) _ is)
when_passed limits peer bytes Is.Eof is = absurd (cc)
when_passed limits peer bytes Is.Gone is = absurd (cc)
when_passed limits peer bytes Is.NoRoom is = absurd (cc)
when_passed limits peer bytes Is.Other is = record { bytes = refl; ends = refl; reply = refl; known = or_false (is_some peer) }

record WhenAsks (limits : Limits) (peer : Option Peer) (bytes : List ℕ) (input : Input) : Type 0 where
  open_yet : is_answer (read_request limits (bytes ++ bytes_of input)) ≡ false
  ends : ends_input input ≡ false
  counts : (if is_reply input then 1 else 0) + (if is_some peer || is_accept input then 1 else 0) ≡ (if is_some peer then 1 else 0) + 1

asks_more : (b : Bool) (e : Ending) → (if b then Ended e else Asks) ≡ Asks → b ≡ false
asks_more true e is = absurd (cc)
asks_more false e is = refl

reply_counts : (b : Bool) → 1 + (if b || false then 1 else 0) ≡ (if b then 1 else 0) + 1
reply_counts true = refl
reply_counts false = refl

when_asks : (limits : Limits) (peer : Option Peer) (bytes : List ℕ) (input : Input) → is_answer (read_request limits bytes) ≡ false →
    heard_of limits peer bytes input ≡ Asks → WhenAsks limits peer bytes input
when_asks limits (Some peer) bytes (Is.Accepted new) none is = absurd (cc)
when_asks limits None bytes (Is.Accepted new) none is = record { open_yet = rw (append-nil bytes) none; ends = refl; counts = refl }
when_asks limits peer bytes (Is.Bytes more) none is =
    record { open_yet = asks_more (is_answer (read_request limits (bytes ++ more))) _ is; ends = refl; counts = reply_counts (is_some peer) }
when_asks limits peer bytes Is.Eof none is = absurd (cc)
when_asks limits peer bytes Is.Gone none is = absurd (cc)
when_asks limits peer bytes Is.NoRoom none is = absurd (cc)
when_asks limits peer bytes Is.Other none is = absurd (cc)

record WhenEnded (limits : Limits) (peer : Option Peer) (bytes : List ℕ) (input : Input) (ending : Ending) : Type 0 where
  explained : (is_answer (read_request limits (bytes ++ bytes_of input)) || ends_input input) ≡ true
  ending_is : ending ≡ ending_of_reading (read_request limits (bytes ++ bytes_of input)) (is_eof input && is_begun (bytes ++ bytes_of input))
  peer_is : peer_after peer input ≡ peer

ends_more : (b : Bool) (e e' : Ending) → (if b then Ended e else Asks) ≡ Ended e' → (b ≡ true) × (e' ≡ e)
ends_more true e e' is = (refl, cc)
ends_more false e e' is = absurd (cc)

open_ending : (reading : Reading) (cut : Bool) → is_answer reading ≡ false → ending_of_reading reading cut ≡ (if cut then Ends.Refused Incomplete else Ends.Nothing)
open_ending (Whole request used due) cut none = absurd (cc)
open_ending (Bad cause bare) cut none = absurd (cc)
open_ending (More request due) cut none = refl

same_peer : (peer : Option Peer) (input : Input) → is_accept input ≡ false → peer_after peer input ≡ peer
same_peer (Some peer) input none = refl
same_peer None (Is.Accepted new) none = absurd (cc)
same_peer None (Is.Bytes more) none = refl
same_peer None Is.Eof none = refl
same_peer None Is.Gone none = refl
same_peer None Is.NoRoom none = refl
same_peer None Is.Other none = refl

not_ended : (b : Bool) (e : Ending) → (if b then Passed else Asks) ≡ Ended e → ⊥
not_ended true e is = absurd (cc)
not_ended false e is = absurd (cc)

when_ended : (limits : Limits) (peer : Option Peer) (bytes : List ℕ) (input : Input) (ending : Ending) → is_answer (read_request limits bytes) ≡ false →
    heard_of limits peer bytes input ≡ Ended ending → WhenEnded limits peer bytes input ending
when_ended limits peer bytes (Is.Accepted new) ending none is = absurd (not_ended (is_some peer) ending is)
when_ended limits peer bytes (Is.Bytes more) ending none is =
    let m = ends_more (is_answer (read_request limits (bytes ++ more))) _ ending is in
    record { explained = rw m.0 refl; ending_is = m.1; peer_is = same_peer peer (Is.Bytes more) refl }
when_ended limits peer bytes Is.Eof ending none is =
    let e : ending ≡ (if is_begun bytes then Ends.Refused Incomplete else Ends.Nothing) = cc in
    record {
      explained = or_true (is_answer (read_request limits (bytes ++ [])));
      ending_is = rw (append-nil bytes) (e ∙ sym (open_ending (read_request limits bytes) (is_begun bytes) none));
      peer_is = same_peer peer Is.Eof refl;
    }
when_ended limits peer bytes Is.Gone ending none is =
    let e : ending ≡ Ends.Nothing = cc in
    record {
      explained = or_true (is_answer (read_request limits (bytes ++ [])));
      ending_is = rw (append-nil bytes) (e ∙ sym (open_ending (read_request limits bytes) false none));
      peer_is = same_peer peer Is.Gone refl;
    }
when_ended limits peer bytes Is.NoRoom ending none is = absurd (cc)
when_ended limits peer bytes Is.Other ending none is = absurd (cc)

-- ---- the turn

left_false : (a b : Bool) → (a || b) ≡ false → a ≡ false
left_false true b e = absurd (cc)
left_false false b e = refl

right_false : (a b : Bool) → (a || b) ≡ false → b ≡ false
right_false true b e = absurd (cc)
right_false false b e = e

unasked_not : (known : Bool) (answers wants : ℕ) → answers + (if known then 1 else 0) ≡ wants → (known && not (nat_lt answers wants)) ≡ false
unasked_not true answers wants e =
    let l : nat_lt answers wants ≡ true = grind (arith, nat_tests, e) in rw l refl
unasked_not false answers wants e = refl

sums_of : (site : Site) (first : First) (turns : ℕ) (T : List Item) → Stands site first turns T →
    Sums T (peer_of T 0) (client_in T 0) false false (is_some (peer_of T 0)) (count_by (is_client_answer 0) T) (count_by (is_want_client 0) T) turns
sums_of site first turns T s =
    let r = right_false (is_answer (first_reading site T)) (rest_of T) s.open_yet in
    record {
      peer_is = refl;
      bytes_is = refl;
      eof_is = left_false (list_any (is_client_eof 0) T) _ r;
      rest_is = r;
      known_is = s.known;
      answers_is = refl;
      wants_is = refl;
      events_is = s.heard;
      alone = s.alone;
    }

explained_by : (site : Site) (T : List Item) (bytes : List ℕ) (rest b : Bool) → client_in T 0 ≡ bytes → rest_of T ≡ rest →
    (is_answer (read_request site.limits bytes) || rest) ≡ b → is_explained site T ≡ b
explained_by site T bytes rest b bytes_is rest_is e = rw (bytes_is, rest_is) e

unasked_by : (T : List Item) (known : Bool) (answers wants : ℕ) → is_known T 0 ≡ known → count_by (is_client_answer 0) T ≡ answers → count_by (is_want_client 0) T ≡ wants →
    answers + (if known then 1 else 0) ≡ wants → is_unasked T ≡ false
unasked_by T known answers wants k a w e = rw (k, a, w) (unasked_not known answers wants e)

-- nothing has ended after one more step
stands_after : (site : Site) (first : First) (turns : ℕ) (T : List Item) (event : Event) (acts : List Act) (peer : Option Peer) (bytes : List ℕ) (eof rest known : Bool) (answers wants : ℕ) →
    Sums (after_step T event acts) peer bytes eof rest known answers wants turns → KnowsInputs first site.limits peer bytes →
    ends_where is_unasked T ≡ 0 → ends_where (is_explained site) T ≡ 0 →
    (is_answer (read_request site.limits bytes) || rest) ≡ false → known ≡ is_some peer → answers + (if known then 1 else 0) ≡ wants →
    Stands site first turns (after_step T event acts)
stands_after site first turns T event acts peer bytes eof rest known answers wants s knows asks never open_yet some counts =
    let U = after_step T event acts in
    let o : is_explained site U ≡ false = explained_by site U bytes rest false s.bytes_is s.rest_is open_yet in
    let u : is_unasked U ≡ false = unasked_by U known answers wants s.known_is s.answers_is s.wants_is counts in
    record {
      knows = rw (s.peer_is, s.bytes_is) knows;
      open_yet = o;
      alone = s.alone;
      known = s.known_is ∙ (some ∙ ap is_some (sym s.peer_is));
      asked = rw (s.answers_is, s.known_is, s.wants_is) counts;
      asks = none_by is_unasked U (ends_after is_unasked T event acts asks) u;
      never = none_by (is_explained site) U (ends_after (is_explained site) T event acts never) o;
      heard = s.events_is;
    }

-- by what is made of an event: what follows it, with a question where one is due
abbrev pub After : Site → First → ℕ → Heard → List Item → Event → Type 0
After site first turns Passed T event = Stands site first (turns + 1) (after_step T event [])
After site first turns Asks T event = Stands site first (turns + 1) (after_step T event (WantClient 0 ∷ []))
After site first turns (Ended ending) T event = IsEnded site first.peer (turns + 1) ending (after_step T event [])
After site first turns NoMemory T event = IsLost site (turns + 1) (after_step T event [])

passed_counts : (a w : ℕ) (k : Bool) (r : Bool) (k' : Bool) → r ≡ false → k' ≡ k → a + (if k then 1 else 0) ≡ w → a + (if r then 1 else 0) + (if k' then 1 else 0) ≡ w
passed_counts a w k false k' r e c = rw (e, add-zero a) c
passed_counts a w k true k' r e c = absurd (cc)

asks_counts : (a w : ℕ) (r k k' : Bool) → (if r then 1 else 0) + (if k' then 1 else 0) ≡ (if k then 1 else 0) + 1 → a + (if k then 1 else 0) ≡ w →
    a + (if r then 1 else 0) + (if k' then 1 else 0) ≡ w + 1
asks_counts a w r k k' e c = omega (arith, e, c)

both_false : (a b : Bool) → a ≡ false → b ≡ false → (a || b) ≡ false
both_false a b e f = rw (e, f) refl

pub after_event : (site : Site) (first first' : First) (turns limit : ℕ) (T : List Item) (event : Event) (heard : Heard) →
    Stands site first turns T → fits limit T event ≡ true →
    (heard ≢ NoMemory → heard ≡ heard_of site.limits (peer_of T 0) (client_in T 0) (input_of event)) →
    (goes_on heard ≡ true → KnowsInputs first' site.limits (peer_after (peer_of T 0) (input_of event)) (client_in T 0 ++ bytes_of (input_of event))) →
    (goes_on heard ≡ false → first'.peer ≡ first.peer) → After site first' turns heard T event
unfolding question
after_event site first first' turns limit T event Passed s fit is knows same =
    let i = input_of event in
    let t = sums_event limit T event _ _ _ _ _ _ _ _ (sums_of site first turns T s) fit in
    let h : heard_of site.limits (peer_of T 0) (client_in T 0) i ≡ Passed = sym (is (λ e. absurd (cc))) in
    let w = when_passed site.limits (peer_of T 0) (client_in T 0) i h in
    let none = left_false (is_answer (first_reading site T)) (rest_of T) s.open_yet in
    let counts : count_by (is_client_answer 0) T + (if is_some (peer_of T 0) then 1 else 0) ≡ count_by (is_want_client 0) T = rw (sym s.known) s.asked in
    stands_after site first' (turns + 1) T event [] _ _ _ _ _ _ _ t (knows refl) s.asks s.never
    (both_false _ _ (rw (w.bytes, append-nil (client_in T 0)) none) w.ends)
    (sym (some_peer (peer_of T 0) i))
    (passed_counts _ _ (is_some (peer_of T 0)) (is_reply i) _ w.reply w.known counts)
after_event site first first' turns limit T event Asks s fit is knows same =
    let i = input_of event in
    let t = sums_event limit T event _ _ _ _ _ _ _ _ (sums_of site first turns T s) fit in
    let v = sums_question _ _ _ _ _ _ _ _ _ t in
    let joined : (T ++ In event ∷ []) ++ question ∷ [] ≡ after_step T event (WantClient 0 ∷ []) = append_assoc T (In event ∷ []) (question ∷ []) in
    let h : heard_of site.limits (peer_of T 0) (client_in T 0) i ≡ Asks = sym (is (λ e. absurd (cc))) in
    let none = left_false (is_answer (first_reading site T)) (rest_of T) s.open_yet in
    let w = when_asks site.limits (peer_of T 0) (client_in T 0) i none h in
    let counts : count_by (is_client_answer 0) T + (if is_some (peer_of T 0) then 1 else 0) ≡ count_by (is_want_client 0) T = rw (sym s.known) s.asked in
    stands_after site first' (turns + 1) T event (WantClient 0 ∷ []) _ _ _ _ _ _ _ (rw joined at v) (knows refl) s.asks s.never
    (both_false _ _ w.open_yet w.ends)
    (sym (some_peer (peer_of T 0) i))
    (asks_counts _ _ (is_reply i) (is_some (peer_of T 0)) _ w.counts counts)
after_event site first first' turns limit T event (Ended ending) s fit is knows same =
    let i = input_of event in
    let U = after_step T event [] in
    let t = sums_event limit T event _ _ _ _ _ _ _ _ (sums_of site first turns T s) fit in
    let h : heard_of site.limits (peer_of T 0) (client_in T 0) i ≡ Ended ending = sym (is (λ e. absurd (cc))) in
    let none = left_false (is_answer (first_reading site T)) (rest_of T) s.open_yet in
    let w = when_ended site.limits (peer_of T 0) (client_in T 0) i ending none h in
    let x : is_explained site U ≡ true = explained_by site U _ _ true t.bytes_is t.rest_is w.explained in
    record {
      alone = record { alone = t.alone; asks = ends_after is_unasked T event [] s.asks };
      explained = x;
      first = one_by (is_explained site) U (ends_after (is_explained site) T event [] s.never) x;
      heard = t.events_is;
      text = rw (same refl ∙ s.knows.peer_is, t.peer_is, w.peer_is, t.bytes_is, t.eof_is, sym w.ending_is) refl;
    }
after_event site first first' turns limit T event NoMemory s fit is knows same =
    let t = sums_event limit T event _ _ _ _ _ _ _ _ (sums_of site first turns T s) fit in
    record {
      alone = record { alone = t.alone; asks = ends_after is_unasked T event [] s.asks };
      first = ends_after (is_explained site) T event [] s.never;
      heard = t.events_is;
    }

-- ---- over what the outside tells

-- what the call of `hear` says
pub record Hearing (first first' : First) (input : Input) (heard : Heard) : Type 0 where
  pub is : (limits : Limits) (peer : Option Peer) (bytes : List ℕ) → KnowsInputs first limits peer bytes → heard ≢ NoMemory → heard ≡ heard_of limits peer bytes input
  pub knows : (limits : Limits) (peer : Option Peer) (bytes : List ℕ) → KnowsInputs first limits peer bytes → goes_on heard ≡ true →
      KnowsInputs first' limits (peer_after peer input) (bytes ++ bytes_of input)
  pub same : goes_on heard ≡ false → first'.peer ≡ first.peer

pub hearing : (first first' : First) (input : Input) (event : Event) (heard : Heard) → input ≡ input_of event → Hearing first first' input heard →
    Hearing first first' (input_of event) heard
hearing first first' input event heard same h = subst (λ i. Hearing first first' i heard) same h

after_told : (site : Site) (first first' : First) (turns limit : ℕ) (before mid : Option (List Item)) (event : Event) (heard : Heard) →
    Hears limit before event mid → Hearing first first' (input_of event) heard → (T M : List Item) → before ≡ Some T → Stands site first turns T → mid ≡ Some M →
    (M ≡ T ++ In event ∷ []) × After site first' turns heard T event
after_told site first first' turns limit before mid event heard hears h T M was stands told =
    let a = hears M told in
    let same : a.was ≡ T = cc in
    let fit : fits limit T event ≡ true = ap (λ (t : List Item). fits limit t event) (sym same) ∙ a.fits_then in (
      a.grew ∙ ap (λ (t : List Item). t ++ In event ∷ []) same,
      after_event site first first' turns limit T event heard stands fit (h.is site.limits _ _ stands.knows) (h.knows site.limits _ _ stands.knows) h.same,
    )

pub asked_turn : (site : Site) (first first' : First) (turns limit : ℕ) (before mid after : Option (List Item)) (event : Event) (acted : Acted) (heard : Heard) →
    Hears limit before event mid → ActsOn mid (WantClient 0) acted after → acted ≡ Done → heard ≡ Asks → Hearing first first' (input_of event) heard →
    (T U : List Item) → before ≡ Some T → Stands site first turns T → after ≡ Some U → Turned site first' turns heard U
asked_turn site first first' turns limit before mid after event acted heard hears acts done asks h T U was stands told =
    let a = acts U told in
    let m = after_told site first first' turns limit before mid event heard hears h T a.was was stands a.told in
    let r : After site first' turns Asks T event = subst (λ x. After site first' turns x T event) asks m.1 in
    let u : U ≡ after_step T event (WantClient 0 ∷ []) =
    a.grew ∙ (ap (λ x. a.was ++ map Out (added_by (WantClient 0) x)) done
    ∙ (ap (λ (t : List Item). t ++ Out (WantClient 0) ∷ []) m.0 ∙ append_assoc T (In event ∷ []) (Out (WantClient 0) ∷ []))) in
    rw (asks, u) r

quiet : (site : Site) (first : First) (turns : ℕ) (heard : Heard) (T : List Item) (event : Event) → heard ≢ Asks → After site first turns heard T event →
    Turned site first turns heard (T ++ In event ∷ [])
quiet site first turns Passed T event not r = r
quiet site first turns Asks T event not r = absurd (not refl)
quiet site first turns (Ended ending) T event not r = r
quiet site first turns NoMemory T event not r = r

pub quiet_turn : (site : Site) (first first' : First) (turns limit : ℕ) (before mid : Option (List Item)) (event : Event) (heard : Heard) →
    Hears limit before event mid → heard ≢ Asks → Hearing first first' (input_of event) heard →
    (T U : List Item) → before ≡ Some T → Stands site first turns T → mid ≡ Some U → Turned site first' turns heard U
quiet_turn site first first' turns limit before mid event heard hears not h T U was stands told =
    let m = after_told site first first' turns limit before mid event heard hears h T U was stands told in
    rw m.0 (quiet site first' turns heard T event not m.1)
