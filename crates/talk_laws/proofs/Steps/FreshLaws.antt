-- No item of a step names a child from the next number on.
use Rattle.std.proofs.Common.{◌≡◌, ◌≤◌, ℕ, Bool, true, false, ◌||◌, ◌++◌, List, [], ◌∷◌, map, refl, sym, ap, ◌∙◌}
use Rattle.std.specs.List.{list_any}
use Rattle.std.proofs.lemmas.List.{map-append}
use Rattle.std.proofs.lemmas.List.Folds.{list_any-append}
use Rattle.host_trace.specs.declared.items.Act.{Act}
use Rattle.host_trace.specs.declared.items.Act.TheVariants as Does
use Rattle.host_trace.specs.declared.items.Event.{Event}
use Rattle.host_trace.specs.declared.items.Item.{Item}
use Rattle.host_trace.specs.declared.items.Item.TheVariants.{In, Out}
use Rattle.host_trace.specs.Kinds.{names_child}
use Rattle.host_trace.specs.Trace.{after_step}
use Rattle.trace_model.specs.Exchange.{Exchange, all_of}

-- acts on the connection alone name no child
abbrev pub IsOfConn : Act → Type 0
IsOfConn (Does.WantClient c) = Unit {0}
IsOfConn (Does.Shut c why) = Unit {0}
IsOfConn act = ⊥

abbrev pub AreOfConn : List Act → Type 0
AreOfConn [] = Unit {0}
AreOfConn (act ∷ acts) = IsOfConn act × AreOfConn acts

unnamed_one : (k : ℕ) (act : Act) → IsOfConn act → names_child k (Out act) ≡ false
unnamed_one k (Does.WantClient c) s = refl
unnamed_one k (Does.Shut c why) s = refl
unnamed_one k _ s = absurd s

unnamed : (k : ℕ) (acts : List Act) → AreOfConn acts → list_any (names_child k) (map Out acts) ≡ false
unnamed k [] s = refl
unnamed k (act ∷ acts) s = ap (λ (b : Bool). b || list_any (names_child k) (map Out acts)) (unnamed_one k act s.0) ∙ unnamed k acts s.1

-- where the items up to the last acts on the child are those of an exchange that names none
pub fresh_then : (L : List Item) (ev : Event) (acts tail : List Act) (e : Exchange) (next : ℕ) → all_of e ≡ (L ++ In ev ∷ []) ++ map Out acts
    → ((k : ℕ) → next ≤ k → list_any (names_child k) (all_of e) ≡ false) → AreOfConn tail
    → (k : ℕ) → next ≤ k → list_any (names_child k) (after_step L ev (acts ++ tail)) ≡ false
fresh_then L ev acts tail e next items fresh of_conn k most =
    let before : list_any (names_child k) ((L ++ In ev ∷ []) ++ map Out acts) ≡ false = ap (list_any (names_child k)) (sym items) ∙ fresh k most in
    ap (list_any (names_child k)) (split L ev acts tail)
    ∙ (list_any-append (names_child k) ((L ++ In ev ∷ []) ++ map Out acts) (map Out tail) ∙ (ap (λ (b : Bool). b || list_any (names_child k) (map Out tail)) before ∙ unnamed k tail of_conn))
  where
    split : (L : List Item) (ev : Event) (acts tail : List Act) → after_step L ev (acts ++ tail) ≡ ((L ++ In ev ∷ []) ++ map Out acts) ++ map Out tail
    split [] ev acts tail = ap (λ (l : List Item). In ev ∷ l) (map-append Out acts tail)
    split (x ∷ L) ev acts tail = ap (λ (l : List Item). x ∷ l) (split L ev acts tail)
