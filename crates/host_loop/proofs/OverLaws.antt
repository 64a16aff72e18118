-- When a trace is over: at the end of which step Stop was heard and all is settled.
use Rattle.std.proofs.Common.{◌≡◌, ℕ, ◌+◌, zero-add, List, [], ◌∷◌, ◌++◌, cond, Bool, true, false, ◌&&◌, refl, ◌∙◌, ap, map, arith}
use Rattle.std.specs.Prelude.{if◌then◌else◌, count_by}
use Rattle.std.specs.List.{fold}
use Rattle.std.proofs.lemmas.Grind.{fold-append}
use Rattle.host_trace.specs.declared.items.Act.{Act}
use Rattle.host_trace.specs.declared.items.Event.{Event}
use Rattle.host_trace.specs.declared.items.Item.{Item}
use Rattle.host_trace.specs.declared.items.Item.TheVariants.{In, Out}
use Rattle.host_trace.specs.Kinds.{is_event}
use Rattle.host_trace.specs.Projections.{event_count}
use Rattle.host_trace.specs.Trace.{after_step, step_of, end_of, steps}
use Rattle.host_trace.proofs.FirstLaws.{count_by-push}
use Rattle.host_trace.proofs.StepLaws.{steps-append}
use Rattle.host_loop.specs.Served.{is_over, over_count}

count_from : (n : ℕ) (acts : List Act) → fold (λ (n : ℕ) (x : Item). n + cond (is_event x) 1 0) n (map Out acts) ≡ n
count_from n [] = refl
count_from n (a ∷ acts) =
    let e : n + 0 ≡ n = omega arith in
    ap (λ m. fold (λ (n : ℕ) (x : Item). n + cond (is_event x) 1 0) m (map Out acts)) e ∙ count_from n acts

pub counted : (T : List Item) (event : Event) (acts : List Act) → event_count ((T ++ In event ∷ []) ++ map Out acts) ≡ event_count T + 1
counted T event acts =
    let f = λ (n : ℕ) (x : Item). n + cond (is_event x) 1 0 in
    fold-append f 0 (T ++ In event ∷ []) (map Out acts) ∙ (count_from _ acts ∙ fold-append f 0 T (In event ∷ []))

pub over_after : (T : List Item) (event : Event) (acts : List Act) → over_count T ≡ 0 →
    over_count (after_step T event acts) ≡ (if is_over (after_step T event acts) then 1 else 0)
over_after T event acts none =
    ap (λ l. count_by (λ s. is_over (end_of s)) l) (steps-append T event acts)
    ∙ (count_by-push (λ s. is_over (end_of s)) (steps T) (step_of T event acts)
    ∙ (ap (λ n. n + (if is_over (after_step T event acts) then 1 else 0)) none ∙ zero-add (if is_over (after_step T event acts) then 1 else 0)))

-- where it isn't over it has never been
pub never_over : (U : List Item) → over_count U ≡ (if is_over U then 1 else 0) → is_over U ≡ false → over_count U ≡ 0
never_over U e f = e ∙ ap (λ b. if b then 1 else 0) f

pub first_over : (U : List Item) → over_count U ≡ (if is_over U then 1 else 0) → is_over U ≡ true → over_count U ≡ 1
first_over U e f = e ∙ ap (λ b. if b then 1 else 0) f

pub not_settled : (a b : Bool) → b ≡ false → a && b ≡ false
not_settled true b e = e
not_settled false b e = refl

pub not_stopped : (a b : Bool) → a ≡ false → a && b ≡ false
not_stopped true b e = absurd (cc)
not_stopped false b e = refl

pub and_true : (a b : Bool) → a ≡ true → b ≡ true → a && b ≡ true
and_true true b d e = e
and_true false b d e = absurd (cc)
