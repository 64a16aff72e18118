-- Small laws: tests that name a child, and words that leave the old value.
use Rattle.std.proofs.Common.{◌≡◌, ℕ, zero, suc, ◌+◌, ◌-◌, List, [], ◌∷◌, ◌++◌, Bool, true, false, ◌||◌, refl, sym, ◌∙◌, ap, append-nil, arith, add-zero, length, inl, inr}
use Rattle.std.specs.Prelude.{if◌then◌else◌, count_by, ◌==◌, ◌⊎◌}
use Rattle.std.specs.List.{list_any, fold}
use Rattle.std.proofs.lemmas.Bool.{or_parts, or_left, or_right}
use Rattle.host_trace.specs.declared.items.Event.TheVariants.{Started, StartFailed, StartFull, ChildBytes, ChildEof, ChildBroken, Took, InputGone, Exited}
use Rattle.host_trace.specs.declared.items.Act.TheVariants.{Start, Feed, EndInput, Kill, Release, WantChild}
use Rattle.host_trace.specs.declared.items.Item.{Item}
use Rattle.host_trace.specs.declared.items.Item.TheVariants.{In, Out}
use Rattle.host_trace.specs.First.{since}
use Rattle.host_trace.specs.Kinds.{is_start, is_started, is_start_answer, is_exited, is_input_end, is_output_end, is_kill, is_want_child, is_child_answer, is_child_eof, is_feed, is_end_input, output_heard, input_fed, count_took, names_child}
use Rattle.host_trace.specs.Account.{is_refusal}
use Rattle.host_trace.proofs.FirstLaws.{list_any-push, count_by-push, since-push}
use Rattle.child_core.specs.View.{asked_by, ticked, more_if, more_by, less_by}
use Rattle.child_core.specs.Knows.{one_if}

pub tells : (b : Bool) → (b ≡ true) ⊎ (b ≡ false)
tells true = inl refl
tells false = inr refl

pub contra : (a b : Bool) → (a ≡ true → b ≡ true) → b ≡ false → a ≡ false
contra true b f e = absurd (let g = f refl in cc)
contra false b f e = refl

pub or_swap : (a b : Bool) → (b || a) ≡ (a || b)
or_swap true true = refl
or_swap true false = refl
or_swap false true = refl
or_swap false false = refl

pub any-push : (test : Item → Bool) (V : List Item) (x : Item) (a : Bool) → a ≡ list_any test V → (test x || a) ≡ list_any test (V ++ x ∷ [])
any-push test V x a e = ap (λ b. test x || b) e ∙ (or_swap (list_any test V) (test x) ∙ sym (list_any-push test V x))

pub any-stays : (test : Item → Bool) (L : List Item) (x : Item) → list_any test L ≡ true → list_any test (L ++ x ∷ []) ≡ true
any-stays test L x e = list_any-push test L x ∙ or_left _ _ e

pub any-new : (test : Item → Bool) (L : List Item) (x : Item) → test x ≡ true → list_any test (L ++ x ∷ []) ≡ true
any-new test L x e = list_any-push test L x ∙ or_right _ _ e

pub since_begun : (test : Item → Bool) (L : List Item) (x : Item) → list_any test L ≡ true → since test (L ++ x ∷ []) ≡ since test L ++ x ∷ []
since_begun test L x e = since-push test L x ∙ rw e refl

pub since_none : (test : Item → Bool) (L : List Item) → list_any test L ≡ false → since test L ≡ []
since_none test [] e = refl
since_none test (x ∷ L) e =
    let p = or_parts (test x) (list_any test L) e in
    rw p.0 (since_none test L p.1)

pub since_first : (test : Item → Bool) (L : List Item) (x : Item) → list_any test L ≡ false → since test (L ++ x ∷ []) ≡ []
since_first test L x e = since-push test L x ∙ rw (e, since_none test L e) refl

-- ---- counts

-- at most one item passes
pub once-push : (test : Item → Bool) (L : List Item) (x : Item) (a : Bool) → (test x ≡ true → a ≡ false) → count_by test L ≡ one_if a → count_by test (L ++ x ∷ []) ≡ one_if (test x || a)
once-push test L x a new e = count_by-push test L x ∙ go (test x) a new e
  where
    go : (t a : Bool) → (t ≡ true → a ≡ false) → count_by test L ≡ one_if a → count_by test L + (if t then 1 else 0) ≡ one_if (t || a)
    go true true new e = absurd (let f : true ≡ false = new refl in cc)
    go true false new e = omega arith
    go false a new e = add-zero _ ∙ e

asked-count : (wx ax asked : Bool) (n m : ℕ) →
    (wx ≡ true → asked ≡ false) → (ax ≡ true → asked ≡ true) → (wx ≡ true → ax ≡ false) → n ≡ m + one_if asked →
    n + one_if wx ≡ m + one_if ax + one_if (asked_by wx ax asked)
asked-count true true asked n m asks answers apart e = absurd (let f : true ≡ false = apart refl in cc)
asked-count true false true n m asks answers apart e = absurd (let f : true ≡ false = asks refl in cc)
asked-count true false false n m asks answers apart e = omega arith
asked-count false true true n m asks answers apart e = omega arith
asked-count false true false n m asks answers apart e = absurd (let f : false ≡ true = answers refl in cc)
asked-count false false asked n m asks answers apart e = omega arith

-- a question and its answers
pub asked-push : (w a : Item → Bool) (V : List Item) (x : Item) (asked : Bool) →
    (w x ≡ true → asked ≡ false) → (a x ≡ true → asked ≡ true) → (w x ≡ true → a x ≡ false) →
    count_by w V ≡ count_by a V + one_if asked →
    count_by w (V ++ x ∷ []) ≡ count_by a (V ++ x ∷ []) + one_if (asked_by (w x) (a x) asked)
asked-push w a V x asked asks answers apart known =
    rw (count_by-push w V x, count_by-push a V x) (asked-count (w x) (a x) asked (count_by w V) (count_by a V) asks answers apart known)

pub apart : (k : ℕ) (x : Item) → is_want_child k x ≡ true → is_child_answer k x ≡ false
apart k (Out a) e = refl
apart k (In i) e = absurd (cc)

-- ---- words that leave the old value

pub more_if-counts : (bytes old : List ℕ) → more_if bytes true old ≡ old ++ bytes
more_if-counts [] old = sym (append-nil old)
more_if-counts (b ∷ bytes) old = refl

pub more_by-is : (bytes : List ℕ) (n : ℕ) → more_by bytes n ≡ n + length bytes
more_by-is [] n = sym (add-zero n)
more_by-is (b ∷ bytes) n = refl

pub less_by-is : (m n : ℕ) → less_by m n ≡ n - m
less_by-is zero n = omega arith
less_by-is (suc m) n = refl

pub ticked-is : (b : Bool) (n : ℕ) → ticked b n ≡ n - one_if b
ticked-is true n = refl
ticked-is false n = omega arith

-- ---- tests that name a child

or_first : (a : Bool) → (a || false) ≡ true → a ≡ true
or_first true e = refl
or_first false e = e

or_firsts : (a : Bool) → (a || false || false) ≡ true → a ≡ true
or_firsts true e = refl
or_firsts false e = e

pub start_names : (k : ℕ) (x : Item) → is_start k x ≡ true → names_child k x ≡ true
start_names k (Out (Start d c j hop launch)) e = e
start_names k _ e = absurd (cc)

pub started_names : (k : ℕ) (x : Item) → is_started k x ≡ true → names_child k x ≡ true
started_names k (In (Started d)) e = e
started_names k _ e = absurd (cc)

pub refusal_names : (k : ℕ) (x : Item) → is_refusal k x ≡ true → names_child k x ≡ true
refusal_names k (In (StartFailed d)) e = or_first (k == d) e
refusal_names k (In (StartFull d seen)) e = e
refusal_names k _ e = absurd (cc)

pub start_answer_names : (k : ℕ) (x : Item) → is_start_answer k x ≡ true → names_child k x ≡ true
start_answer_names k (In (Started d)) e = or_firsts (k == d) e
start_answer_names k (In (StartFailed d)) e = or_first (k == d) e
start_answer_names k (In (StartFull d seen)) e = e
start_answer_names k _ e = absurd (cc)

pub exited_names : (k : ℕ) (x : Item) → is_exited k x ≡ true → names_child k x ≡ true
exited_names k (In (Exited d)) e = e
exited_names k _ e = absurd (cc)

pub input_names : (k : ℕ) (x : Item) → is_input_end k x ≡ true → names_child k x ≡ true
input_names k (In (InputGone d)) e = e
input_names k (Out (EndInput d)) e = or_first (k == d) e
input_names k _ e = absurd (cc)

pub output_names : (k : ℕ) (x : Item) → is_output_end k x ≡ true → names_child k x ≡ true
output_names k (In (ChildEof d)) e = or_firsts (k == d) e
output_names k (In (ChildBroken d)) e = or_first (k == d) e
output_names k (Out (Release d)) e = e
output_names k _ e = absurd (cc)

pub kill_names : (k : ℕ) (x : Item) → is_kill k x ≡ true → names_child k x ≡ true
kill_names k (Out (Kill d)) e = e
kill_names k _ e = absurd (cc)

pub want_names : (k : ℕ) (x : Item) → is_want_child k x ≡ true → names_child k x ≡ true
want_names k (Out (WantChild d)) e = e
want_names k _ e = absurd (cc)

pub answer_names : (k : ℕ) (x : Item) → is_child_answer k x ≡ true → names_child k x ≡ true
answer_names k (In (ChildBytes d bytes)) e = or_firsts (k == d) e
answer_names k (In (ChildEof d)) e = or_first (k == d) e
answer_names k (In (ChildBroken d)) e = e
answer_names k _ e = absurd (cc)

pub eof_names : (k : ℕ) (x : Item) → is_child_eof k x ≡ true → names_child k x ≡ true
eof_names k (In (ChildEof d)) e = e
eof_names k _ e = absurd (cc)

pub feed_names : (k : ℕ) (x : Item) → is_feed k x ≡ true → names_child k x ≡ true
feed_names k (Out (Feed d bytes)) e = e
feed_names k _ e = absurd (cc)

pub end_input_names : (k : ℕ) (x : Item) → is_end_input k x ≡ true → names_child k x ≡ true
end_input_names k (Out (EndInput d)) e = e
end_input_names k _ e = absurd (cc)

pub no_output : (k : ℕ) (x : Item) → names_child k x ≡ false → output_heard k x ≡ []
no_output k (In (ChildBytes d bytes)) e = rw e refl
no_output k _ e = refl

pub no_input : (k : ℕ) (x : Item) → names_child k x ≡ false → input_fed k x ≡ []
no_input k (Out (Feed d bytes)) e = rw e refl
no_input k _ e = refl

pub no_took : (k : ℕ) (x : Item) → names_child k x ≡ false → count_took k x ≡ 0
no_took k (In (Took d n)) e = rw e refl
no_took k _ e = refl

-- no item of a list passes a test that names the child, where none names it
pub none : (test : Item → Bool) (k : ℕ) (L : List Item) → ((y : Item) → test y ≡ true → names_child k y ≡ true) → list_any (names_child k) L ≡ false → list_any test L ≡ false
none test k [] f e = refl
none test k (x ∷ L) f e =
    let p = or_parts (names_child k x) (list_any (names_child k) L) e in
    rw (contra (test x) (names_child k x) (f x) p.0) (none test k L f p.1)

pub none_count : (test : Item → Bool) (n : ℕ) (L : List Item) → list_any test L ≡ false → fold (λ (n : ℕ) (y : Item). n + (if test y then 1 else 0)) n L ≡ n
none_count test n [] e = refl
none_count test n (x ∷ L) e =
    let p = or_parts (test x) (list_any test L) e in
    let z : n + (if test x then 1 else 0) ≡ n = rw p.0 (add-zero n) in
    ap (λ m. fold (λ (n : ℕ) (y : Item). n + (if test y then 1 else 0)) m L) z ∙ none_count test n L p.1
