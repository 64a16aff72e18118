-- Moves, one after the other, and the cut into exchanges.
use Rattle.std.proofs.Common.{◌≡◌, ℕ, zero, suc, Bool, true, false, List, [], ◌∷◌, ◌++◌, map, length, drop, refl, sym, ap, ◌∙◌}
use Rattle.host_base.specs.declared.site.Site.{Site}
use Rattle.host_trace.specs.declared.items.Act.{Act}
use Rattle.host_trace.specs.declared.items.Act.TheVariants.{Write}
use Rattle.host_trace.specs.declared.items.Item.TheVariants.{Out}
use Rattle.trace_model.specs.Exchange.{Exchange, continue_part, continue_text, pushed}
use Rattle.trace_model.specs.Exchanges.{current_after, following, has_ended, next_by}
use Rattle.conn_laws.proofs.EndLaws.{not_whole}
use Rattle.conn_laws.specs.Moves.{Move, gives, continues, settles, acts_of, moved, AreInStep, AllBelong}

-- ---- one after the other

pub acts_of-append : (xs ys : List Move) → acts_of (xs ++ ys) ≡ acts_of xs ++ acts_of ys
acts_of-append [] ys = refl
acts_of-append (gives act ∷ xs) ys = ap (λ (l : List Act). act ∷ l) (acts_of-append xs ys)
acts_of-append (continues c ∷ xs) ys = ap (λ (l : List Act). Write c continue_text ∷ l) (acts_of-append xs ys)
acts_of-append (settles ending ∷ xs) ys = acts_of-append xs ys

pub moved-append : (site : Site) (c : ℕ) (e : Exchange) (xs ys : List Move) → moved site c e (xs ++ ys) ≡ moved site c (moved site c e xs) ys
moved-append site c e [] ys = refl
moved-append site c e (gives act ∷ xs) ys = moved-append site c (pushed e (Out act)) xs ys
moved-append site c e (continues d ∷ xs) ys = moved-append site c (pushed e (Out (Write d continue_text))) xs ys
moved-append site c e (settles ending ∷ xs) ys = moved-append site c (following site c e) xs ys

pub in_step_parts : (site : Site) (c : ℕ) (e : Exchange) (xs ys : List Move) → AreInStep site c e (xs ++ ys)
    → AreInStep site c e xs × AreInStep site c (moved site c e xs) ys
in_step_parts site c e [] ys a = (tt, a)
in_step_parts site c e (gives act ∷ xs) ys a =
    let r = in_step_parts site c (pushed e (Out act)) xs ys a.1 in ((a.0, r.0), r.1)
in_step_parts site c e (continues d ∷ xs) ys a =
    let r = in_step_parts site c (pushed e (Out (Write d continue_text))) xs ys a.2 in ((a.0, a.1, r.0), r.1)
in_step_parts site c e (settles ending ∷ xs) ys a =
    let r = in_step_parts site c (following site c e) xs ys a.1 in ((a.0, r.0), r.1)

pub belong_together : (site : Site) (c : ℕ) (e : Exchange) (xs ys : List Move) → AllBelong site c e xs → AllBelong site c (moved site c e xs) ys
    → AllBelong site c e (xs ++ ys)
belong_together site c e [] ys a b = b
belong_together site c e (gives act ∷ xs) ys a b = (a.0, belong_together site c (pushed e (Out act)) xs ys a.1 b)
belong_together site c e (continues d ∷ xs) ys a b = (a.0, belong_together site c (pushed e (Out (Write d continue_text))) xs ys a.1 b)
belong_together site c e (settles ending ∷ xs) ys a b = belong_together site c (following site c e) xs ys a b

-- ---- the cut

abbrev none : List ℕ
none = []

drop-nil : (n : ℕ) → drop n none ≡ none
drop-nil zero = refl
drop-nil (suc n) = refl

-- an exchange that begins has not ended
begins_unended : (site : Site) (c : ℕ) (e : Exchange) → has_ended site c (following site c e) ≡ false
begins_unended site c e = (not_whole site c (following site c e)).unwritten (drop-nil (length (continue_part site c (following site c e))))

-- where it has ended, the one that follows
abbrev next : Site → ℕ → Exchange → Exchange
next site c e = next_by site c e (has_ended site c e)

next_same : (site : Site) (c : ℕ) (e : Exchange) → has_ended site c e ≡ false → next site c e ≡ e
next_same site c e on = ap (λ (b : Bool). next_by site c e b) on

next_over : (site : Site) (c : ℕ) (e : Exchange) → has_ended site c e ≡ true → next site c e ≡ following site c e
next_over site c e over = ap (λ (b : Bool). next_by site c e b) over

moves_lead : (site : Site) (c : ℕ) (e : Exchange) (moves : List Move) → AreInStep site c e moves
    → current_after site c (next site c e) (map Out (acts_of moves)) ≡ next site c (moved site c e moves)
moves_lead site c e [] a = refl
moves_lead site c e (gives act ∷ moves) a =
    ap (λ (d : Exchange). current_after site c d (map Out (acts_of (gives act ∷ moves)))) (next_same site c e a.0)
    ∙ moves_lead site c (pushed e (Out act)) moves a.1
moves_lead site c e (continues d ∷ moves) a =
    ap (λ (f : Exchange). current_after site c f (map Out (acts_of (continues d ∷ moves)))) (next_same site c e a.0)
    ∙ moves_lead site c (pushed e (Out (Write d continue_text))) moves a.2
moves_lead site c e (settles ending ∷ moves) a =
    ap (λ (d : Exchange). current_after site c d (map Out (acts_of moves)))
    (next_over site c e a.0.over ∙ sym (next_same site c (following site c e) (begins_unended site c e)))
    ∙ moves_lead site c (following site c e) moves a.1

pub moves_cut : (site : Site) (c : ℕ) (e : Exchange) (moves : List Move) → AreInStep site c e moves → has_ended site c (moved site c e moves) ≡ false
    → current_after site c (next_by site c e (has_ended site c e)) (map Out (acts_of moves)) ≡ moved site c e moves
moves_cut site c e moves a later = moves_lead site c e moves a ∙ next_same site c (moved site c e moves) later
