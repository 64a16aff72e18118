-- One variable after another.
use Rattle.std.proofs.Common.{◌≡◌, Bool, List, ◌++◌, filter, sym, ap, ◌∙◌, append_assoc}
use Rattle.std.specs.Prelude.{Result, Ok, Err, OnOk, IfOk}
use Rattle.std.proofs.lemmas.List.Elements.{filter-append}

pub on_ok : {A E : Type 0} (r : Result A E) (P Q : Type 0) → (P → Q) → OnOk r P → OnOk r Q
on_ok (Ok x) P Q goes holds = goes holds
on_ok (Err e) P Q goes holds = tt

-- those that pass of the first ones, and then of the next ones
pub kept_next : {X : Type 0} (p : X → Bool) (old mid new front back : List X) → mid ≡ old ++ filter p front → new ≡ mid ++ filter p back
    → new ≡ old ++ filter p (front ++ back)
kept_next {X} p old mid new front back one two =
    two ∙ ap (λ (l : List X). l ++ filter p back) one ∙ append_assoc old (filter p front) (filter p back)
    ∙ ap (λ (l : List X). old ++ l) (sym (filter-append p front back))

pub if_ok : {A E : Type 0} (r : Result A E) (P Q : A → Type 0) → ((x : A) → P x → Q x) → IfOk r P → IfOk r Q
if_ok (Ok x) P Q goes holds = goes x holds
if_ok (Err e) P Q goes holds = tt
