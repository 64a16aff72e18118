-- One more item, and what a test of two parts says.
use Rattle.std.proofs.Common.{◌≡◌, Bool, true, false, List, [], ◌∷◌, ◌++◌, refl, sym, ◌∙◌, ap, append-nil, append_assoc}
use Rattle.std.specs.Prelude.{◌&&◌}
use Rattle.std.proofs.lemmas.Bool.{false≢true}
use Rattle.trace_child.specs.Words.{implies, each_from, each}

pub implied : (a b : Bool) → implies a b ≡ true → a ≡ true → b ≡ true
implied true b both is = both
implied false b both is = absurd (false≢true is)

pub implies_from : (a b : Bool) → (a ≡ true → b ≡ true) → implies a b ≡ true
implies_from true b from = from refl
implies_from false b from = refl

and_assoc : (a b c : Bool) → (a && (b && c)) ≡ ((a && b) && c)
and_assoc true b c = refl
and_assoc false b c = refl

pub and_end : (a : Bool) → (a && true) ≡ a
and_end true = refl
and_end false = refl

each_from-push : {X : Type 0} (test : List X → X → Bool) (before items : List X) (x : X) →
    each_from test before (items ++ x ∷ []) ≡ (each_from test before items && test (before ++ items) x)
each_from-push test before [] x = and_end (test before x) ∙ ap (λ l. test l x) (sym (append-nil before))
each_from-push test before (y ∷ items) x =
    ap (λ b. test before y && b) (each_from-push test (before ++ y ∷ []) items x ∙ ap (λ l. each_from test (before ++ y ∷ []) items && test l x) (append_assoc before (y ∷ []) items))
    ∙ and_assoc (test before y) (each_from test (before ++ y ∷ []) items) (test (before ++ y ∷ items) x)

-- one more item passes after those before it
pub each-push : {X : Type 0} (test : List X → X → Bool) (items : List X) (x : X) → each test (items ++ x ∷ []) ≡ (each test items && test items x)
each-push test items x = each_from-push test [] items x
