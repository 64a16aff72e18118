-- The tally of a connection, with one item more.
use Rattle.std.proofs.Common.{◌≡◌, ℕ, ◌+◌, Bool, true, false, List, [], ◌∷◌, ◌++◌, refl, ◌∙◌, ap, add-zero, length, length-append, inl, inr, Option, Some, None, IfSome, IsNone, subst}
use Rattle.std.specs.Prelude.{sum_by, ◌||◌, if◌then◌else◌}
use Rattle.std.specs.List.{list_any}
use Rattle.std.proofs.lemmas.Bool.{cond-false, cases_Bool}
use Rattle.std.proofs.lemmas.List.Sums.{sum_by-append}
use Rattle.host_trace.specs.declared.items.Event.TheVariants.{ClientBytes, ClientEof, WsText, WsBinary, WsClosed, WsBad, Wrote}
use Rattle.host_trace.specs.declared.items.Act.TheVariants.{WantClient, Write, Shut, Upgrade, Says}
use Rattle.host_trace.specs.declared.items.Item.{Item}
use Rattle.host_trace.specs.declared.items.Event.{Event}
use Rattle.host_trace.specs.declared.items.Act.{Act}
use Rattle.host_trace.specs.declared.items.Item.TheVariants.{In, Out}
use Rattle.host_trace.specs.Kinds.{names, is_client_answer, is_want_client, is_shut, is_upgrade, bytes_written, count_wrote, texts_said}
use Rattle.host_trace.specs.Projections.{said, sent_of_phase, left_of_phase, said_len, wrote_sum, client_out}
use Rattle.host_trace.specs.First.{since}
use Rattle.host_trace.proofs.FirstLaws.{count_by-push, list_any-push, since-push}
use Rattle.host_trace.proofs.ProjectionLaws.{said-push, wrote_sum-push, client_out-push}
use Rattle.trace_tallies.specs.Sums.{texts_len}
use Rattle.trace_tallies.specs.declared.client_tally.ClientTally.{ClientTally}
use Rattle.trace_tallies.specs.ClientTallies.{client_tally, client_with, client_heard, client_asked, sent_with, left_with, holds_client}

same : (w w' a a' s s' l l' : ℕ) (b b' u u' : Bool) → w ≡ w' → a ≡ a' → s ≡ s' → l ≡ l' → b ≡ b' → u ≡ u' →
    (let one : ClientTally = record { wants = w; answers = a; sent = s; left = l; is_shut = b; is_upgraded = u } in
    let two : ClientTally = record { wants = w'; answers = a'; sent = s'; left = l'; is_shut = b'; is_upgraded = u' } in one ≡ two)
same w w' a a' s s' l l' b b' u u' p q r t v z = rw (p, q, r, t, v, z) refl

-- ---- an item that doesn't name it counts nothing

no_want : (c : ℕ) (x : Item) → names c x ≡ false → is_want_client c x ≡ false
no_want c (Out (WantClient d)) other = other
no_want c _ other = refl

no_answer : (c : ℕ) (x : Item) → names c x ≡ false → is_client_answer c x ≡ false
no_answer c (In (ClientBytes d bytes)) other = rw other refl
no_answer c (In (ClientEof d)) other = rw other refl
no_answer c (In (WsText d bytes)) other = rw other refl
no_answer c (In (WsBinary d)) other = rw other refl
no_answer c (In (WsClosed d)) other = rw other refl
no_answer c (In (WsBad d)) other = rw other refl
no_answer c _ other = refl

no_shut : (c : ℕ) (x : Item) → names c x ≡ false → is_shut c x ≡ false
no_shut c (Out (Shut d why)) other = other
no_shut c _ other = refl

no_upgrade : (c : ℕ) (x : Item) → names c x ≡ false → is_upgrade c x ≡ false
no_upgrade c (Out (Upgrade d rest)) other = other
no_upgrade c _ other = refl

no_bytes : (c : ℕ) (x : Item) → names c x ≡ false → bytes_written c x ≡ []
no_bytes c (Out (Write d bytes)) other = cond-false _ _ _ other
no_bytes c _ other = refl

no_texts : (c : ℕ) (x : Item) → names c x ≡ false → texts_said c x ≡ []
no_texts c (Out (Says d texts)) other = cond-false _ _ _ other
no_texts c _ other = refl

nothing_left : (c : ℕ) (x : Item) → names c x ≡ false → count_wrote c x ≡ 0
nothing_left c (In (Wrote d n)) other = cond-false _ _ _ other
nothing_left c _ other = refl

or_no : (a b : Bool) → b ≡ false → (a || b) ≡ a
or_no true b fails = refl
or_no false b fails = fails

counts_none : (n : ℕ) (b : Bool) → b ≡ false → n + (if b then 1 else 0) ≡ n
counts_none n b fails = rw fails (add-zero n)

adds_none : (n m : ℕ) → m ≡ 0 → n + m ≡ n
adds_none n m fails = rw fails (add-zero n)

phase_rests : (b u : Bool) (n more others : ℕ) → u ≡ false → more ≡ 0 → others ≡ 0 → (if b then n + more else (if u then 0 else n + others)) ≡ n
phase_rests true u n more others fails none none' = adds_none n more none
phase_rests false u n more others fails none none' = cond-false u _ _ fails ∙ adds_none n others none'

pub client_rests : (c : ℕ) (x : Item) (tally : ClientTally) → names c x ≡ false → client_with c x tally ≡ tally
client_rests c x tally other =
    same _ _ _ _ _ _ _ _ _ _ _ _
    (counts_none tally.wants _ (no_want c x other))
    (counts_none tally.answers _ (no_answer c x other))
    (phase_rests tally.is_upgraded (is_upgrade c x) tally.sent _ _ (no_upgrade c x other)
    (ap (sum_by length) (no_texts c x other)) (ap length (no_bytes c x other)))
    (phase_rests tally.is_upgraded (is_upgrade c x) tally.left _ _ (no_upgrade c x other)
    (nothing_left c x other) (nothing_left c x other))
    (or_no tally.is_shut _ (no_shut c x other))
    (or_no tally.is_upgraded _ (no_upgrade c x other))

-- ---- the trace with one item more

since_none : (test : Item → Bool) (T : List Item) → list_any test T ≡ false → since test T ≡ []
since_none test [] none = refl
since_none test (x ∷ T) none =
    elim (cases_Bool (test x)) [
      | inl holds ↦ absurd (yes_no (test x) (list_any test T) holds none)
      | inr fails ↦ cond-false (test x) T (since test T) fails ∙ since_none test T (rest_no (test x) (list_any test T) fails none)
    ]
  where
    yes_no : (a b : Bool) → a ≡ true → (a || b) ≡ false → ⊥
    yes_no true b holds none = cc
    yes_no false b holds none = cc

    rest_no : (a b : Bool) → a ≡ false → (a || b) ≡ false → b ≡ false
    rest_no true b fails none = absurd (cc)
    rest_no false b fails none = none

-- a count of a phase: of all items before the first Upgrade, and of those since it
phase_push : (test : Item → Bool) (whole later : List Item → ℕ) (more others : Item → ℕ) →
    ((T : List Item) (x : Item) → whole (T ++ x ∷ []) ≡ whole T + others x) →
    ((T : List Item) (x : Item) → later (T ++ x ∷ []) ≡ later T + more x) → later [] ≡ 0 →
    (T : List Item) (x : Item) →
    (if list_any test (T ++ x ∷ []) then later (since test (T ++ x ∷ [])) else whole (T ++ x ∷ []))
    ≡ (if list_any test T then (if list_any test T then later (since test T) else whole T) + more x
    else (if test x then 0 else (if list_any test T then later (since test T) else whole T) + others x))
phase_push test whole later more others whole_push later_push none T x =
    rw (list_any-push test T x, since-push test T x) (by_cases (list_any test T) refl)
  where
    by_cases : (b : Bool) → list_any test T ≡ b →
        (if b || test x then later (since test T ++ (if b then x ∷ [] else [])) else whole (T ++ x ∷ []))
        ≡ (if b then (if b then later (since test T) else whole T) + more x
        else (if test x then 0 else (if b then later (since test T) else whole T) + others x))
    by_cases true is = later_push (since test T) x
    by_cases false is = rw (since_none test T is) (begins (test x))
      where
        begins : (u : Bool) → (if u then later [] else whole (T ++ x ∷ [])) ≡ (if u then 0 else whole T + others x)
        begins true = none
        begins false = whole_push T x

said_len-push : (T : List Item) (x : Item) (c : ℕ) → said_len (T ++ x ∷ []) c ≡ said_len T c + texts_len c x
said_len-push T x c = ap (sum_by length) (said-push T x c) ∙ sum_by-append length (said T c) (texts_said c x)

out_len-push : (T : List Item) (x : Item) (c : ℕ) → length (client_out (T ++ x ∷ []) c) ≡ length (client_out T c) + length (bytes_written c x)
out_len-push T x c = ap length (client_out-push T x c) ∙ length-append (client_out T c) (bytes_written c x)

sent-push : (T : List Item) (x : Item) (c : ℕ) → sent_of_phase (T ++ x ∷ []) c ≡ sent_with c x (client_tally T c)
sent-push T x c =
    phase_push (is_upgrade c) (λ T. length (client_out T c)) (λ T. said_len T c) (texts_len c) (λ x. length (bytes_written c x))
    (λ T x. out_len-push T x c) (λ T x. said_len-push T x c) refl T x

left-push : (T : List Item) (x : Item) (c : ℕ) → left_of_phase (T ++ x ∷ []) c ≡ left_with c x (client_tally T c)
left-push T x c =
    phase_push (is_upgrade c) (λ T. wrote_sum T c) (λ T. wrote_sum T c) (count_wrote c) (count_wrote c)
    (λ T x. wrote_sum-push T x c) (λ T x. wrote_sum-push T x c) refl T x

pub client_tally-push : (T : List Item) (x : Item) (c : ℕ) → client_tally (T ++ x ∷ []) c ≡ client_with c x (client_tally T c)
client_tally-push T x c =
    same _ _ _ _ _ _ _ _ _ _ _ _
    (count_by-push (is_want_client c) T x)
    (count_by-push (is_client_answer c) T x)
    (sent-push T x c)
    (left-push T x c)
    (list_any-push (is_shut c) T x)
    (list_any-push (is_upgrade c) T x)

-- ---- one event, and one act

or_none : (b : Bool) → (b || false) ≡ b
or_none true = refl
or_none false = refl

phase_same : (b : Bool) (n : ℕ) → (if b then n + 0 else (if false then 0 else n + 0)) ≡ n
phase_same true n = add-zero n
phase_same false n = add-zero n

phase_adds : (b : Bool) (n m : ℕ) → (if b then n + m else (if false then 0 else n + m)) ≡ n + m
phase_adds true n m = refl
phase_adds false n m = refl

phase_left : (b u : Bool) (n : ℕ) → (if b then n + 0 else (if u then 0 else n + 0)) ≡ (if b then n else (if u then 0 else n))
phase_left true u n = add-zero n
phase_left false true n = refl
phase_left false false n = add-zero n

pub heard_with : (c : ℕ) (event : Event) (t : ClientTally) → client_with c (In event) t ≡ client_heard c event t
heard_with c event t =
    same _ _ _ _ _ _ _ _ _ _ _ _
    (add-zero t.wants) refl (phase_same t.is_upgraded t.sent) (phase_adds t.is_upgraded t.left (count_wrote c (In event))) (or_none t.is_shut) (or_none t.is_upgraded)

pub asked_with : (c : ℕ) (act : Act) (t : ClientTally) → client_with c (Out act) t ≡ client_asked c act t
asked_with c act t =
    same _ _ _ _ _ _ _ _ _ _ _ _
    refl (add-zero t.answers) refl (phase_left t.is_upgraded (is_upgrade c (Out act)) t.left) refl refl

pub heard_push : (T : List Item) (event : Event) (c : ℕ) → client_tally (T ++ In event ∷ []) c ≡ client_heard c event (client_tally T c)
heard_push T event c = client_tally-push T (In event) c ∙ heard_with c event (client_tally T c)

pub asked_push : (T : List Item) (act : Act) (c : ℕ) → client_tally (T ++ Out act ∷ []) c ≡ client_asked c act (client_tally T c)
asked_push T act c = client_tally-push T (Out act) c ∙ asked_with c act (client_tally T c)

-- ---- a tally that is there goes on with the trace

pub goes_on : (o : Option ClientTally) (a b : ClientTally) → IfSome o (λ t. t ≡ a) → a ≡ b → IfSome o (λ t. t ≡ b)
goes_on None a b h e = tt
goes_on (Some t) a b h e = h ∙ e

pub none_with : (o : Option ClientTally) (a b : ClientTally) → (IsNone o → holds_client a ≡ false) → a ≡ b → IsNone o → holds_client b ≡ false
none_with o a b h e none = subst (λ t. holds_client t ≡ false) e (h none)
