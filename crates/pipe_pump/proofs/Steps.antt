-- What a pump keeps from step to step.
use Rattle.std.proofs.Common.{◌≡◌, ℕ, ◌+◌, ◌≤◌, List, [], ◌++◌, length, take, Option, sym, ap, ◌∙◌, append_assoc, arith}
use Rattle.std.proofs.lemmas.Grind.{common_steps}
use Rattle.std.proofs.lemmas.List.{append-nil}
use Rattle.std.specs.Prelude.{is_some}
use Rattle.std.specs.declared.alloc.Global.{Global}
use Rattle.rtrb.specs.Ring.{SameConsumer, SameProducer}
use Rattle.rtrb.specs.declared.consumer.Consumer.{Consumer}
use Rattle.rtrb.specs.declared.producer.Producer.{Producer}
use Rattle.rtrb.specs.declared.AnyItems.{AnyItems}
use Rattle.pipe_pump.specs.declared.hand.Hand.{Hand}
use Rattle.pipe_pump.specs.Hands.{mark_of, IsMarkFor}
use Rattle.pipe_pump.specs.Moved.{Moves}

-- the end of a ring stays its end
pub same_consumer_two : (a b c : Consumer ℕ Global AnyItems) → SameConsumer a b → SameConsumer b c → SameConsumer a c
same_consumer_two a b c s t = ((t.0.0 ∙ s.0.0, t.0.1 ∙ s.0.1, t.0.2 ∙ s.0.2, t.0.3 ∙ s.0.3), t.1 ∙ s.1)

pub same_producer_two : (a b c : Producer ℕ Global AnyItems) → SameProducer a b → SameProducer b c → SameProducer a c
same_producer_two a b c s t = ((t.0.0 ∙ s.0.0, t.0.1 ∙ s.0.1, t.0.2 ∙ s.0.2, t.0.3 ∙ s.0.3), t.1 ∙ s.1)

-- .. and a mark is of it
pub mark_kept : (before after : List Hand) (a b : Consumer ℕ Global AnyItems) → after ≡ before → SameConsumer a b → IsMarkFor before a → IsMarkFor after b
mark_kept before after a b e s m =
    (ap (λ w. is_some (mark_of w)) e ∙ m.0, λ q f. let p = m.1 q (sym (ap (λ w. mark_of w) e) ∙ f) in (s.0.0 ∙ p.0, s.0.1 ∙ p.1, s.0.2 ∙ p.2, s.0.3 ∙ p.3))

-- ---- from ring to pipe

pub moves_same : (b a : Option (List ℕ)) (xs ys zs : List ℕ) → zs ≡ ys → Moves b a xs ys → Moves b a xs zs
moves_same b a xs ys zs e g = record { piece = g.piece; grew = e ∙ g.grew; took = g.took }

-- no byte was taken out
pub none_taken : (xs ys bytes : List ℕ) (n : ℕ) → ys ≡ xs ++ take n bytes → n ≡ 0 → ys ≡ xs
none_taken xs ys bytes n e z = e ∙ (ap (λ k. xs ++ take k bytes) z ∙ append-nil xs)

-- so many were
pub taken_total : (xs ys bytes : List ℕ) (n t : ℕ) → ys ≡ xs ++ take n bytes → n ≤ length bytes → length xs ≡ t → length ys ≡ t + n
taken_total xs ys bytes n t e h k = ap length e ∙ grind (arith, common_steps)

-- ---- from pipe to ring

-- a part of what was left is put
pub put_part : (was now rest put left all : List ℕ) → was ++ rest ≡ all → put ++ left ≡ rest → now ≡ was ++ put → now ++ left ≡ all
put_part was now rest put left all e p s =
    ap (λ w. w ++ left) s ∙ (append_assoc was put left ∙ (ap (λ w. was ++ w) p ∙ e))

pub put_all : (now left all : List ℕ) → now ++ left ≡ all → left ≡ [] → now ≡ all
put_all now left all e l = sym (append-nil now) ∙ (ap (λ w. now ++ w) (sym l) ∙ e)
