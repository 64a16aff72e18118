-- What fits a trace fits the list of its connection, and names what was accepted or started.
use Rattle.std.proofs.Common.{◌≡◌, ℕ, ◌+◌, ◌<◌, Bool, true, false, List, [], ◌∷◌, ◌++◌, refl, sym, ◌∙◌, ap, subst, arith, inl, inr, length}
use Rattle.std.specs.Prelude.{◌==◌, ◌||◌, ◌&&◌, not, filter, count_by, nat_lt, nat_le}
use Rattle.std.specs.List.{list_any, flat_map}
use Rattle.std.proofs.lemmas.Bool.{cases_lt, or_cases, or_parts, and_parts, eqb-true, false≢true, cond-false, ltb-true, leb-true, le-ltb}
use Rattle.std.proofs.lemmas.List.Sums.{length-filter}
use Rattle.host_trace.specs.declared.items.Event.{Event}
use Rattle.host_trace.specs.declared.items.Event.TheVariants.{Accepted, ClientBytes, ClientEof, ClientGone, Wrote, Started, StartFailed, StartFull, ChildBytes, ChildEof, ChildBroken, Took, InputGone, Exited, WsText, WsBinary, WsClosed, WsBad, NoRoom, Tick, Stop}
use Rattle.host_trace.specs.declared.items.Item.{Item}
use Rattle.host_trace.specs.declared.items.Item.TheVariants.{In}
use Rattle.host_trace.specs.Kinds.{names, names_child, is_upgrade, is_client_answer, is_want_client, bytes_written, is_start, is_started}
use Rattle.host_trace.specs.Projections.{own, is_own, children, start_count, accepted_count, shut, stopped, upgraded, client_wanted, child_wanted, client_out, sent_of_phase, left_of_phase, start_stands, start_answered, started, exited, input_ended, output_ended, child_in, took_sum}
use Rattle.host_trace.specs.Fits.{fits, is_open, is_asked, is_piece, may_leave, is_start_open, is_output_asked}
use Rattle.own_traces.specs.Whose.{has}
use Rattle.own_traces.specs.Between.{Between}
use Rattle.own_traces.specs.OwnFits.{fits_own, was_accepted, is_open_own}
use Rattle.own_traces.specs.OwnLaws.{NamesKnown}
use Rattle.own_traces.proofs.KeptLaws.{none-narrower}
use Rattle.own_traces.proofs.NameLaws.{upgrade_names, want_names, written_names, start_names, started_names}
use Rattle.own_traces.proofs.SameLaws.{same-shut, same-asked, same-asked_upgraded, same-leave, same-open, same-output, same-take, same-input, same-exited, stopped-own}

-- ---- what fits a trace fits the list of its connection

any_false : {X : Type 0} (xs : List X) → list_any (λ x. false) xs ≡ false
any_false [] = refl
any_false (x ∷ xs) = any_false xs

or_end : (a : Bool) → (a || false || false) ≡ a
or_end true = refl
or_end false = refl

and_true : (a : Bool) → (a && not false) ≡ a
and_true true = refl
and_true false = refl

conn_is : (c d : ℕ) (ks : List ℕ) → ((c == d) || list_any (λ k. false) ks || false || false) ≡ true → c ≡ d
conn_is c d ks h = elim (or_cases (c == d) (list_any (λ k. false) ks) (sym (or_end _) ∙ h)) [
  | inl e ↦ eqb-true c d e
  | inr e ↦ absurd (false≢true (sym (any_false ks) ∙ e))
]

child_is : (k : ℕ) (ks : List ℕ) → (list_any (λ j. j == k) ks || false || false) ≡ true → has ks k ≡ true
child_is k ks h = sym (or_end _) ∙ h

first_is : (c n : ℕ) (ks : List ℕ) → ((n == c) || false || list_any (λ k. false) ks || false || false) ≡ true → n ≡ c
first_is c n ks h = elim (or_cases ((n == c) || false) (list_any (λ k. false) ks) (sym (or_end _) ∙ h)) [
  | inl e ↦ elim (or_cases (n == c) false e) [ inl is ↦ eqb-true n c is | inr other ↦ absurd (false≢true other) ]
  | inr e ↦ absurd (false≢true (sym (any_false ks) ∙ e))
]

open-own : (T : List Item) (c : ℕ) → Between T → is_open_own (own T c) c ≡ is_open T c
open-own T c b = (λ i. b.accepts c i && not (same-shut c (own T c) T (b.conns c) i))

pub fits-own : (limit : ℕ) (T : List Item) (c : ℕ) (event : Event) → Between T →
    is_own c (children T c) (accepted_count T) (In event) ≡ true → fits_own limit (own T c) event ≡ fits limit T event
fits-own limit T c (ClientBytes d bytes) b is =
    let e : c ≡ d = conn_is c d (children T c) is in
    subst (λ (i : ℕ). fits_own limit (own T i) (ClientBytes d bytes) ≡ fits limit T (ClientBytes d bytes)) (sym e) (ap (λ a. a && is_piece bytes) (same-asked d (own T d) T (b.conns d)))
fits-own limit T c (ClientEof d) b is =
    let e : c ≡ d = conn_is c d (children T c) is in
    subst (λ (i : ℕ). fits_own limit (own T i) (ClientEof d) ≡ fits limit T (ClientEof d)) (sym e) (same-asked d (own T d) T (b.conns d))
fits-own limit T c (Wrote d n) b is =
    let e : c ≡ d = conn_is c d (children T c) is in
    subst (λ (i : ℕ). fits_own limit (own T i) (Wrote d n) ≡ fits limit T (Wrote d n)) (sym e) (same-leave d (own T d) T (b.conns d) n)
fits-own limit T c (WsText d bytes) b is =
    let e : c ≡ d = conn_is c d (children T c) is in
    subst (λ (i : ℕ). fits_own limit (own T i) (WsText d bytes) ≡ fits limit T (WsText d bytes)) (sym e) (same-asked_upgraded d (own T d) T (b.conns d))
fits-own limit T c (WsBinary d) b is =
    let e : c ≡ d = conn_is c d (children T c) is in
    subst (λ (i : ℕ). fits_own limit (own T i) (WsBinary d) ≡ fits limit T (WsBinary d)) (sym e) (same-asked_upgraded d (own T d) T (b.conns d))
fits-own limit T c (WsClosed d) b is =
    let e : c ≡ d = conn_is c d (children T c) is in
    subst (λ (i : ℕ). fits_own limit (own T i) (WsClosed d) ≡ fits limit T (WsClosed d)) (sym e) (same-asked_upgraded d (own T d) T (b.conns d))
fits-own limit T c (WsBad d) b is =
    let e : c ≡ d = conn_is c d (children T c) is in
    subst (λ (i : ℕ). fits_own limit (own T i) (WsBad d) ≡ fits limit T (WsBad d)) (sym e) (same-asked_upgraded d (own T d) T (b.conns d))
fits-own limit T c (ClientGone d) b is =
    let e : c ≡ d = conn_is c d (children T c) is in
    subst (λ (i : ℕ). fits_own limit (own T i) (ClientGone d) ≡ fits limit T (ClientGone d)) (sym e) (open-own T d b)
fits-own limit T c (NoRoom d) b is =
    let e : c ≡ d = conn_is c d (children T c) is in
    subst (λ (i : ℕ). fits_own limit (own T i) (NoRoom d) ≡ fits limit T (NoRoom d)) (sym e) (open-own T d b)
fits-own limit T c (Started d) b is = same-open d (own T c) T (b.kids c d (child_is d (children T c) is))
fits-own limit T c (StartFailed d) b is = same-open d (own T c) T (b.kids c d (child_is d (children T c) is))
fits-own limit T c (StartFull d seen) b is = ap (λ a. a && seen == limit) (same-open d (own T c) T (b.kids c d (child_is d (children T c) is)))
fits-own limit T c (ChildBytes d bytes) b is = ap (λ a. a && is_piece bytes) (same-output d (own T c) T (b.kids c d (child_is d (children T c) is)))
fits-own limit T c (ChildEof d) b is = same-output d (own T c) T (b.kids c d (child_is d (children T c) is))
fits-own limit T c (ChildBroken d) b is = same-output d (own T c) T (b.kids c d (child_is d (children T c) is))
fits-own limit T c (Took d n) b is = same-take d (own T c) T (b.kids c d (child_is d (children T c) is)) n
fits-own limit T c (InputGone d) b is = same-input d (own T c) T (b.kids c d (child_is d (children T c) is))
fits-own limit T c (Exited d) b is = same-exited d (own T c) T (b.kids c d (child_is d (children T c) is))
fits-own limit T c (Accepted peer) b is =
    let e : accepted_count T ≡ c = first_is c (accepted_count T) (children T c) is in
    let none : was_accepted (own T c) ≡ false = b.accepts c ∙ le-ltb c (accepted_count T) (omega (arith, e)) in
    (λ i. not (stopped-own T c b i) && not (none i)) ∙ and_true (not (stopped T))
fits-own limit T c (Tick secs) b is = refl
fits-own limit T c Stop b is = ap not (stopped-own T c b)

-- ---- what it names was accepted, or started

count-none : {X : Type 0} (p : X → Bool) (xs : List X) → list_any p xs ≡ false → count_by p xs ≡ 0
count-none {X} p xs e = sym (length-filter p xs) ∙ ap length (filter-none xs e)
  where
    filter-none : (xs : List X) → list_any p xs ≡ false → filter p xs ≡ []
    filter-none [] e = refl
    filter-none (x ∷ xs) e = cond-false (p x) (x ∷ filter p xs) (filter p xs) (or_parts (p x) (list_any p xs) e).0 ∙ filter-none xs (or_parts (p x) (list_any p xs) e).1

known_by : (T : List Item) (c : ℕ) → Between T → ((list_any (names c) T ≡ false) → ⊥) → c < accepted_count T
known_by T c b h = elim (cases_lt c (accepted_count T)) [ inl lt ↦ lt | inr le ↦ absurd (h (b.known c le)) ]

wanted-known : (T : List Item) (c : ℕ) → Between T → client_wanted T c ≡ true → c < accepted_count T
wanted-known T c b w = known_by T c b (λ none.
    let zero_wants = count-none (is_want_client c) T (none-narrower (is_want_client c) (names c) (want_names c) T none) in
    let lt = ltb-true (count_by (is_client_answer c) T) (count_by (is_want_client c) T) w in
    omega (arith, zero_wants, lt))

leave-known : (T : List Item) (c n : ℕ) → Between T → may_leave T c n ≡ true → c < accepted_count T
leave-known T c n b f = known_by T c b (λ none.
    let p = and_parts (not (shut T c) && nat_le 1 n) (nat_le (left_of_phase T c + n) (sent_of_phase T c)) f in
    let one = leb-true 1 n (and_parts (not (shut T c)) (nat_le 1 n) p.0).1 in
    let le = leb-true (left_of_phase T c + n) (sent_of_phase T c) p.1 in
    let zero_sent : sent_of_phase T c ≡ 0 =
    cond-false (upgraded T c) _ (length (client_out T c)) (none-narrower (is_upgrade c) (names c) (upgrade_names c) T none)
    ∙ ap length (flat-none (bytes_written c) (names c) (written_names c) T none) in
    omega (arith, one, le, zero_sent))
  where
    flat-none : {X A : Type 0} (f : X → List A) (q : X → Bool) → ((x : X) → q x ≡ false → f x ≡ []) → (xs : List X) → list_any q xs ≡ false → flat_map f xs ≡ []
    flat-none f q h [] e = refl
    flat-none f q h (x ∷ xs) e = ap (λ l. l ++ flat_map f xs) (h x (or_parts (q x) (list_any q xs) e).0) ∙ flat-none f q h xs (or_parts (q x) (list_any q xs) e).1

at_conn : (T : List Item) (c d : ℕ) → (c == d) ≡ true → d < accepted_count T → c < accepted_count T
at_conn T c d n lt = let e = eqb-true c d n in omega (arith, e, lt)

pub fits-known : (limit : ℕ) (T : List Item) (event : Event) (c : ℕ) → Between T → fits limit T event ≡ true → names c (In event) ≡ true → c < accepted_count T
fits-known limit T (ClientBytes d bytes) c b f n = at_conn T c d n (wanted-known T d b (and_parts (not (shut T d) && not (upgraded T d)) (client_wanted T d) (and_parts (is_asked T d) (is_piece bytes) f).0).1)
fits-known limit T (ClientEof d) c b f n = at_conn T c d n (wanted-known T d b (and_parts (not (shut T d) && not (upgraded T d)) (client_wanted T d) f).1)
fits-known limit T (ClientGone d) c b f n = at_conn T c d n (ltb-true d (accepted_count T) (and_parts (nat_lt d (accepted_count T)) (not (shut T d)) f).0)
fits-known limit T (NoRoom d) c b f n = at_conn T c d n (ltb-true d (accepted_count T) (and_parts (nat_lt d (accepted_count T)) (not (shut T d)) f).0)
fits-known limit T (Wrote d m) c b f n = at_conn T c d n (leave-known T d m b f)
fits-known limit T (WsText d bytes) c b f n = at_conn T c d n (wanted-known T d b (and_parts (not (shut T d) && upgraded T d) (client_wanted T d) f).1)
fits-known limit T (WsBinary d) c b f n = at_conn T c d n (wanted-known T d b (and_parts (not (shut T d) && upgraded T d) (client_wanted T d) f).1)
fits-known limit T (WsClosed d) c b f n = at_conn T c d n (wanted-known T d b (and_parts (not (shut T d) && upgraded T d) (client_wanted T d) f).1)
fits-known limit T (WsBad d) c b f n = at_conn T c d n (wanted-known T d b (and_parts (not (shut T d) && upgraded T d) (client_wanted T d) f).1)
fits-known limit T (Accepted peer) c b f n = absurd (false≢true n)
fits-known limit T (Started d) c b f n = absurd (false≢true n)
fits-known limit T (StartFailed d) c b f n = absurd (false≢true n)
fits-known limit T (StartFull d seen) c b f n = absurd (false≢true n)
fits-known limit T (ChildBytes d bytes) c b f n = absurd (false≢true n)
fits-known limit T (ChildEof d) c b f n = absurd (false≢true n)
fits-known limit T (ChildBroken d) c b f n = absurd (false≢true n)
fits-known limit T (Took d m) c b f n = absurd (false≢true n)
fits-known limit T (InputGone d) c b f n = absurd (false≢true n)
fits-known limit T (Exited d) c b f n = absurd (false≢true n)
fits-known limit T (Tick secs) c b f n = absurd (false≢true n)
fits-known limit T Stop c b f n = absurd (false≢true n)

begun_by : (T : List Item) (k d : ℕ) (p : Item → Bool) → Between T → ((x : Item) → names_child d x ≡ false → p x ≡ false) → list_any p T ≡ true → (k == d) ≡ true → k < start_count T
begun_by T k d p b h is n = elim (cases_lt d (start_count T)) [
  | inl lt ↦ (let e = eqb-true k d n in omega (arith, e, lt))
  | inr le ↦ absurd (false≢true (sym (none-narrower p (names_child d) h T (b.named d le)) ∙ is))
]

pub fits-started : (limit : ℕ) (T : List Item) (event : Event) (k : ℕ) → Between T → fits limit T event ≡ true → names_child k (In event) ≡ true → k < start_count T
fits-started limit T (Started d) k b f n = begun_by T k d (is_start d) b (start_names d) (and_parts (start_stands T d) (not (start_answered T d)) f).0 n
fits-started limit T (StartFailed d) k b f n = begun_by T k d (is_start d) b (start_names d) (and_parts (start_stands T d) (not (start_answered T d)) f).0 n
fits-started limit T (StartFull d seen) k b f n = begun_by T k d (is_start d) b (start_names d) (and_parts (start_stands T d) (not (start_answered T d)) (and_parts (is_start_open T d) (seen == limit) f).0).0 n
fits-started limit T (ChildBytes d bytes) k b f n = begun_by T k d (is_started d) b (started_names d) (and_parts (started T d) (not (output_ended T d)) (and_parts (started T d && not (output_ended T d)) (child_wanted T d) (and_parts (is_output_asked T d) (is_piece bytes) f).0).0).0 n
fits-started limit T (ChildEof d) k b f n = begun_by T k d (is_started d) b (started_names d) (and_parts (started T d) (not (output_ended T d)) (and_parts (started T d && not (output_ended T d)) (child_wanted T d) f).0).0 n
fits-started limit T (ChildBroken d) k b f n = begun_by T k d (is_started d) b (started_names d) (and_parts (started T d) (not (output_ended T d)) (and_parts (started T d && not (output_ended T d)) (child_wanted T d) f).0).0 n
fits-started limit T (Took d m) k b f n = begun_by T k d (is_started d) b (started_names d) (and_parts (started T d) (nat_le 1 m) (and_parts (started T d && nat_le 1 m) (nat_le (took_sum T d + m) (length (child_in T d))) f).0).0 n
fits-started limit T (InputGone d) k b f n = begun_by T k d (is_started d) b (started_names d) (and_parts (started T d) (not (input_ended T d)) f).0 n
fits-started limit T (Exited d) k b f n = begun_by T k d (is_started d) b (started_names d) (and_parts (started T d) (not (exited T d)) f).0 n
fits-started limit T (Accepted peer) k b f n = absurd (false≢true n)
fits-started limit T (ClientBytes d bytes) k b f n = absurd (false≢true n)
fits-started limit T (ClientEof d) k b f n = absurd (false≢true n)
fits-started limit T (ClientGone d) k b f n = absurd (false≢true n)
fits-started limit T (Wrote d m) k b f n = absurd (false≢true n)
fits-started limit T (WsText d bytes) k b f n = absurd (false≢true n)
fits-started limit T (WsBinary d) k b f n = absurd (false≢true n)
fits-started limit T (WsClosed d) k b f n = absurd (false≢true n)
fits-started limit T (WsBad d) k b f n = absurd (false≢true n)
fits-started limit T (NoRoom d) k b f n = absurd (false≢true n)
fits-started limit T (Tick secs) k b f n = absurd (false≢true n)
fits-started limit T Stop k b f n = absurd (false≢true n)

pub names_known : (limit : ℕ) (T : List Item) (event : Event) → Between T → fits limit T event ≡ true → NamesKnown T event
names_known limit T event b f = record {
  conns = λ c n. fits-known limit T event c b f n;
  kids = λ k n. fits-started limit T event k b f n;
}
