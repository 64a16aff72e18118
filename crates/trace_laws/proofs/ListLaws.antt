-- Lists of items: where a split lies once one item more stands, what stays with more items, and which children they have.
use Rattle.std.proofs.Common.{◌≡◌, ℕ, zero, suc, ◌<◌, Bool, true, false, List, [], ◌∷◌, ◌++◌, refl, sym, ◌∙◌, ap, arith, inl, inr}
use Rattle.std.specs.Prelude.{◌==◌, ◌||◌, ◌&&◌, if◌then◌else◌}
use Rattle.std.specs.List.{list_all, list_any}
use Rattle.std.proofs.lemmas.Bool.{cases_lt, or_cases, or_left, or_right, and_parts, and_from, eqb-true, eq-eqb, false≢true, false_from_ne_true}
use Rattle.std.proofs.lemmas.Grind.{flat_map-append}
use Rattle.std.proofs.lemmas.List.Folds.{list_any-append}
use Rattle.host_base.specs.declared.launch.Launch.{Launch}
use Rattle.host_trace.specs.declared.items.Act.TheVariants.{Start}
use Rattle.host_trace.specs.declared.items.Item.{Item}
use Rattle.host_trace.specs.declared.items.Item.TheVariants.{Out}
use Rattle.host_trace.specs.Account.{settled, is_refusal}
use Rattle.host_trace.specs.Kinds.{child_started, is_exited, is_input_end, is_output_end, is_start}
use Rattle.host_trace.specs.Projections.{children, start_stands}
use Rattle.own_traces.specs.Whose.{has, numbers_below}
use Rattle.trace_model.specs.Good.{begins_with_event}

-- ---- a split of a list with one item more

pub data Split (L p q : List Item) (x y : Item) : Type 0 where
  within : (r : List Item) → L ≡ p ++ y ∷ r → Split L p q x y
  at_end : L ≡ p → x ≡ y → Split L p q x y

head_same : (x y : Item) (xs ys : List Item) → x ∷ xs ≡ y ∷ ys → x ≡ y
head_same x y xs ys e = cc

tail_same : (x y : Item) (xs ys : List Item) → x ∷ xs ≡ y ∷ ys → xs ≡ ys
tail_same x y xs ys e = cc

not_none : {X : Type 0} (p q : List Item) (y : Item) → [] ≡ p ++ y ∷ q → X
not_none [] q y e = absurd (cc)
not_none (z ∷ p) q y e = absurd (cc)

further : (w z : Item) (L p q : List Item) (x y : Item) → w ≡ z → Split L p q x y → Split (w ∷ L) (z ∷ p) q x y
further w z L p q x y same (within r is) = within r (ap (λ a. a ∷ L) same ∙ ap (λ l. z ∷ l) is)
further w z L p q x y same (at_end is last) = at_end (ap (λ a. a ∷ L) same ∙ ap (λ l. z ∷ l) is) last

pub split : (L p q : List Item) (x y : Item) → L ++ x ∷ [] ≡ p ++ y ∷ q → Split L p q x y
split [] [] q x y e = at_end refl (head_same x y [] q e)
split [] (z ∷ p) q x y e = not_none p q y (tail_same x z [] (p ++ y ∷ q) e)
split (w ∷ L) [] q x y e = within L (ap (λ a. a ∷ L) (head_same w y (L ++ x ∷ []) q e))
split (w ∷ L) (z ∷ p) q x y e =
    further w z L p q x y (head_same w z (L ++ x ∷ []) (p ++ y ∷ q) e) (split L p q x y (tail_same w z (L ++ x ∷ []) (p ++ y ∷ q) e))

-- .. and a front of it
pub data Front (L p : List Item) (x : Item) : Type 0 where
  shorter : (r : List Item) → L ≡ p ++ r → Front L p x
  whole : L ++ x ∷ [] ≡ p → Front L p x

further_front : (w z : Item) (L p : List Item) (x : Item) → w ≡ z → Front L p x → Front (w ∷ L) (z ∷ p) x
further_front w z L p x same (shorter r is) = shorter r (ap (λ a. a ∷ L) same ∙ ap (λ l. z ∷ l) is)
further_front w z L p x same (whole is) = whole (ap (λ a. a ∷ (L ++ x ∷ [])) same ∙ ap (λ l. z ∷ l) is)

pub no_more : (p q : List Item) → [] ≡ p ++ q → [] ≡ p
no_more [] q e = refl
no_more (z ∷ p) q e = absurd (cc)

pub front : (L p q : List Item) (x : Item) → L ++ x ∷ [] ≡ p ++ q → Front L p x
front L [] q x e = shorter L refl
front [] (z ∷ p) q x e =
    whole (ap (λ a. a ∷ []) (head_same x z [] (p ++ q) e) ∙ ap (λ l. z ∷ l) (no_more p q (tail_same x z [] (p ++ q) e)))
front (w ∷ L) (z ∷ p) q x e =
    further_front w z L p x (head_same w z (L ++ x ∷ []) (p ++ q) e) (front L p q x (tail_same w z (L ++ x ∷ []) (p ++ q) e))

-- ---- the first item

pub begins-append : (L more : List Item) → begins_with_event L ≡ true → begins_with_event more ≡ true → begins_with_event (L ++ more) ≡ true
begins-append [] more first rest = rest
begins-append (x ∷ L) more first rest = first

-- .. is that of a list which has one
pub begins-filled : (test : Item → Bool) (L more : List Item) → list_any test L ≡ true → begins_with_event L ≡ true → begins_with_event (L ++ more) ≡ true
begins-filled test [] more some first = absurd (false≢true some)
begins-filled test (x ∷ L) more some first = first

-- ---- what holds of some items holds with more

pub any-left : (test : Item → Bool) (xs ys : List Item) → list_any test xs ≡ true → list_any test (xs ++ ys) ≡ true
any-left test xs ys is = list_any-append test xs ys ∙ or_left _ _ is

pub any-right : (test : Item → Bool) (xs ys : List Item) → list_any test ys ≡ true → list_any test (xs ++ ys) ≡ true
any-right test xs ys is = list_any-append test xs ys ∙ or_right _ _ is

settled_as : (xs ys : List Item) (k : ℕ) → ((test : Item → Bool) → list_any test xs ≡ true → list_any test ys ≡ true) → settled xs k ≡ true → settled ys k ≡ true
settled_as xs ys k more is = elim (or_cases (list_any (is_refusal k) xs) (list_any (is_exited k) xs && list_any (is_input_end k) xs && list_any (is_output_end k) xs) is) [
  | inl refused ↦ or_left _ _ (more (is_refusal k) refused)
  | inr over ↦
      let outer = and_parts (list_any (is_exited k) xs && list_any (is_input_end k) xs) (list_any (is_output_end k) xs) over in
      let inner = and_parts (list_any (is_exited k) xs) (list_any (is_input_end k) xs) outer.0 in
      or_right (list_any (is_refusal k) ys) _
      (and_from _ _ (and_from _ _ (more (is_exited k) inner.0) (more (is_input_end k) inner.1)) (more (is_output_end k) outer.1))
]

pub settled-left : (xs ys : List Item) (k : ℕ) → settled xs k ≡ true → settled (xs ++ ys) k ≡ true
settled-left xs ys k is = settled_as xs (xs ++ ys) k (λ test. any-left test xs ys) is

pub settled-right : (xs ys : List Item) (k : ℕ) → settled ys k ≡ true → settled (xs ++ ys) k ≡ true
settled-right xs ys k is = settled_as ys (xs ++ ys) k (λ test. any-right test xs ys) is

-- .. so what is not settled with more was not before
pub unsettled-left : (xs ys : List Item) (k : ℕ) → settled (xs ++ ys) k ≡ false → settled xs k ≡ false
unsettled-left xs ys k is = false_from_ne_true _ (λ was. false≢true (sym is ∙ settled-left xs ys k was))

pub unsettled-right : (xs ys : List Item) (k : ℕ) → settled (xs ++ ys) k ≡ false → settled ys k ≡ false
unsettled-right xs ys k is = false_from_ne_true _ (λ was. false≢true (sym is ∙ settled-right xs ys k was))

-- ---- children

pub has-append : (ks js : List ℕ) (k : ℕ) → has (ks ++ js) k ≡ (has ks k || has js k)
has-append ks js k = list_any-append (λ j. j == k) ks js

pub children-append : (xs ys : List Item) (c : ℕ) → children (xs ++ ys) c ≡ children xs c ++ children ys c
children-append xs ys c = flat_map-append (child_started c) xs ys

-- the Start of a child of c, in the items that have it
pub record HasStart (c : ℕ) (items : List Item) (k : ℕ) : Type 0 where
  pub before : List Item
  pub exchange : ℕ
  pub hop : ℕ
  pub launch : Launch
  pub later : List Item
  pub stands : items ≡ before ++ Out (Start k c exchange hop launch) ∷ later

start_behind : (c : ℕ) (x : Item) (items : List Item) (k : ℕ) → HasStart c items k → HasStart c (x ∷ items) k
start_behind c x items k s = record {
  before = x ∷ s.before;
  exchange = s.exchange;
  hop = s.hop;
  launch = s.launch;
  later = s.later;
  stands = ap (λ l. x ∷ l) s.stands;
}

start_here : (c d k m j hop : ℕ) (launch : Launch) (items : List Item) → (c ≡ d) → (m ≡ k) → HasStart c (Out (Start m d j hop launch) ∷ items) k
start_here c d k m j hop launch items mine same = record {
  before = [];
  exchange = j;
  hop = hop;
  launch = launch;
  later = items;
  stands = ap (λ (n : ℕ). Out (Start m n j hop launch) ∷ items) (sym mine) ∙ ap (λ (n : ℕ). Out (Start n c j hop launch) ∷ items) same;
}

pub has_start_of : (c : ℕ) (items : List Item) (k : ℕ) → has (children items c) k ≡ true → HasStart c items k
has_start_of c [] k is = absurd (false≢true is)
has_start_of c (Out (Start m d j hop launch) ∷ items) k is = go (has_start_of c items k) (c == d) refl is
  where
    go : (has (children items c) k ≡ true → HasStart c items k) → (b : Bool) → (c == d) ≡ b
        → has ((if b then m ∷ [] else []) ++ children items c) k ≡ true → HasStart c (Out (Start m d j hop launch) ∷ items) k
    go behind true mine is = elim (or_cases (m == k) (has (children items c) k) is) [
      | inl same ↦ start_here c d k m j hop launch items (eqb-true c d mine) (eqb-true m k same)
      | inr later ↦ start_behind c (Out (Start m d j hop launch)) items k (behind later)
    ]
    go behind false mine is = start_behind c (Out (Start m d j hop launch)) items k (behind is)
has_start_of c (x ∷ items) k is = start_behind c x items k (has_start_of c items k is)

start_found : (before : List Item) (k c j hop : ℕ) (launch : Launch) (later : List Item) → start_stands (before ++ Out (Start k c j hop launch) ∷ later) k ≡ true
start_found before k c j hop launch later = any-right (is_start k) before (Out (Start k c j hop launch) ∷ later) (or_left _ _ (eq-eqb k k refl))

pub start_stands_of : (c : ℕ) (items : List Item) (k : ℕ) → has (children items c) k ≡ true → start_stands items k ≡ true
start_stands_of c items k is =
    let s = has_start_of c items k is in
    ap (λ (l : List Item). start_stands l k) s.stands ∙ start_found s.before k c s.exchange s.hop s.launch s.later

-- ---- the numbers below a number

all-append : (test : ℕ → Bool) (ks js : List ℕ) → list_all test ks ≡ true → list_all test js ≡ true → list_all test (ks ++ js) ≡ true
all-append test [] js first rest = rest
all-append test (k ∷ ks) js first rest =
    let parts = and_parts (test k) (list_all test ks) first in and_from _ _ parts.0 (all-append test ks js parts.1 rest)

all-left : (test : ℕ → Bool) (ks js : List ℕ) → list_all test (ks ++ js) ≡ true → list_all test ks ≡ true
all-left test [] js all = refl
all-left test (k ∷ ks) js all = let parts = and_parts (test k) (list_all test (ks ++ js)) all in and_from _ _ parts.0 (all-left test ks js parts.1)

all-right : (test : ℕ → Bool) (ks js : List ℕ) → list_all test (ks ++ js) ≡ true → list_all test js ≡ true
all-right test [] js all = all
all-right test (k ∷ ks) js all = all-right test ks js (and_parts (test k) (list_all test (ks ++ js)) all).1

pub all_below : (test : ℕ → Bool) (n : ℕ) → ((k : ℕ) → k < n → test k ≡ true) → list_all test (numbers_below n) ≡ true
all_below test zero each = refl
all_below test (suc n) each =
    all-append test (numbers_below n) (n ∷ []) (all_below test n (λ k lt. each k (omega (arith, lt)))) (and_from _ _ (each n (omega arith)) refl)

pub each_below : (test : ℕ → Bool) (n k : ℕ) → list_all test (numbers_below n) ≡ true → k < n → test k ≡ true
each_below test zero k all lt = absurd (omega (arith, lt))
each_below test (suc n) k all lt = elim (cases_lt k n) [
  | inl below ↦ each_below test n k (all-left test (numbers_below n) (n ∷ []) all) below
  | inr last ↦
      let e : n ≡ k = omega (arith, lt, last) in
      ap test (sym e) ∙ (and_parts (test n) true (all-right test (numbers_below n) (n ∷ []) all)).0
]
