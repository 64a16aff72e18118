-- An exchange as a part of its connection's items goes on with the next item.
use Rattle.std.proofs.Common.{◌≡◌, ℕ, ◌+◌, ◌-◌, ◌<◌, ◌≤◌, ◌∙◌, Bool, true, false, ◌||◌, List, [], ◌∷◌, ◌++◌, refl, sym, ap, arith, add-one, length, take, drop, get_or, length-drop}
use Rattle.std.proofs.Math.Seq.{take-add, take-suc, drop-cons}
use Rattle.std.proofs.lemmas.List.{get_or-drop}
use Rattle.host_base.specs.declared.site.Site.{Site}
use Rattle.host_trace.specs.declared.items.Item.{Item}
use Rattle.trace_model.specs.Closes.{closes}
use Rattle.trace_model.specs.Exchange.{Exchange, pushed}
use Rattle.trace_model.specs.Exchanges.{current_after, following, has_ended, left_over, next_of}
use Rattle.judge_cut.specs.Views.{exchange_at}

joined : {X : Type 0} (xs : List X) (start end : ℕ) → start ≤ end → take start xs ++ take (end - start) (drop start xs) ≡ take end xs
joined xs start end le =
    let all : start + (end - start) ≡ end = omega arith in sym (take-add start (end - start) xs) ∙ ap (λ n. take n xs) all

none : {X : Type 0} (xs : List X) (end : ℕ) → take (end - end) xs ≡ []
none xs end = let nothing : end - end ≡ 0 = omega arith in ap (λ n. take n xs) nothing

one_more : {X : Type 0} (xs : List X) (start end : ℕ) (x : X) → start ≤ end → end < length xs → x ≡ get_or xs end x
    → take (end + 1 - start) (drop start xs) ≡ take (end - start) (drop start xs) ++ x ∷ []
one_more xs start end x le inside is =
    let count : end + 1 - start ≡ (end - start) + 1 = omega arith in
    let within : end - start < length (drop start xs) = omega (arith, length-drop start xs) in
    let place : start + (end - start) ≡ end = omega arith in
    let there : get_or (drop start xs) (end - start) x ≡ x = get_or-drop start xs (end - start) x ∙ ap (λ n. get_or xs n x) place ∙ sym is in
    ap (λ n. take n (drop start xs)) count ∙ ap (λ n. take n (drop start xs)) (add-one (end - start)) ∙ take-suc (drop start xs) (end - start) x within ∙ ap (λ y. take (end - start) (drop start xs) ++ y ∷ []) there

pub follows : (site : Site) (c : ℕ) (own : List Item) (number : ℕ) (rest next_rest : List ℕ) (closed now_closed : Bool) (start end : ℕ) → start ≤ end
    → next_rest ≡ left_over site c (exchange_at own number rest closed start end)
    → now_closed ≡ (closed || closes site c (exchange_at own number rest closed start end))
    → exchange_at own (number + 1) next_rest now_closed end end ≡ following site c (exchange_at own number rest closed start end)
follows site c own number rest next_rest closed now_closed start end le is_rest is_closed =
    rw (is_rest, is_closed, joined own start end le, none (drop end own) end) refl

pub pushed_at : (own : List Item) (number : ℕ) (rest : List ℕ) (closed : Bool) (start end : ℕ) (x : Item) → start ≤ end → end < length own → x ≡ get_or own end x
    → exchange_at own number rest closed start (end + 1) ≡ pushed (exchange_at own number rest closed start end) x
pushed_at own number rest closed start end x le inside is = rw (one_more own start end x le inside is) refl

pub next_ended : (site : Site) (c : ℕ) (e longer next : Exchange) (x : Item) (b : Bool) → longer ≡ pushed e x → b ≡ has_ended site c longer → b ≡ true
    → next ≡ following site c longer → next ≡ next_of site c e x
next_ended site c e longer next x b is ends so follow = let h : has_ended site c (pushed e x) ≡ true = ap (has_ended site c) (sym is) ∙ sym ends ∙ so in rw (follow, is, h) refl

pub next_open : (site : Site) (c : ℕ) (e longer : Exchange) (x : Item) (b : Bool) → longer ≡ pushed e x → b ≡ has_ended site c longer → b ≡ false
    → longer ≡ next_of site c e x
next_open site c e longer x b is ends so = let h : has_ended site c (pushed e x) ≡ false = ap (has_ended site c) (sym is) ∙ sym ends ∙ so in rw (h) is

pub goes_on : (site : Site) (c : ℕ) (own : List Item) (e next : Exchange) (i : ℕ) (x : Item) → i < length own → x ≡ get_or own i x
    → next ≡ next_of site c e x → current_after site c next (drop (i + 1) own) ≡ current_after site c e (drop i own)
goes_on site c own e next i x inside is follow = rw (follow, add-one, drop-cons own i x inside, ← is) refl
