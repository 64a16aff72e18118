-- What is counted of a child goes on with each item.
use Rattle.std.proofs.Common.{◌≡◌, ℕ, ◌+◌, ◌∙◌, true, false, List, [], ◌∷◌, ◌++◌, refl, sym, length, if◌then◌else◌, length-append}
use Rattle.std.proofs.lemmas.List.{append-nil}
use Rattle.host_trace.specs.declared.items.Item.{Item}
use Rattle.host_trace.specs.First.{since}
use Rattle.host_trace.specs.Kinds.{is_start, is_tick, output_heard}
use Rattle.host_trace.specs.Projections.{start_stands}
use Rattle.host_trace.proofs.FirstLaws.{since-push}
use Rattle.host_trace.proofs.ProjectionLaws.{child_out-push, start_stands-push, tick_count-push}
use Rattle.judge_child.specs.declared.decided.Counted.{Counted}
use Rattle.judge_child.specs.Counts.{IsCounted}

-- the Start stands
pub counted_after : (a : Counted) (k : ℕ) (front : List Item) (x : Item) (n t : ℕ) → a.started ≡ true → IsCounted a k front
    → n ≡ length (output_heard k x) → t ≡ (if is_tick x then 1 else 0)
    → IsCounted (record { started = a.started; output = a.output + n; ticks = a.ticks + t }) k (front ++ x ∷ [])
counted_after a k front x n t stands was output tick =
    let so : start_stands front k ≡ true = sym was.started ∙ stands in
    let more : since (is_start k) (front ++ x ∷ []) ≡ since (is_start k) front ++ x ∷ [] = since-push (is_start k) front x ∙ (rw so refl) in
    record {
      started = stands ∙ sym (start_stands-push front x k ∙ (rw so refl));
      output = rw (more, child_out-push, length-append, output, was.output) refl;
      ticks = rw (more, tick_count-push, tick, was.ticks) refl;
    }

-- it doesn't stand before the item
pub counted_before : (a : Counted) (k : ℕ) (front : List Item) (x : Item) (s : _) → a.started ≡ false → IsCounted a k front → s ≡ is_start k x
    → IsCounted (record { started = s; output = a.output; ticks = a.ticks }) k (front ++ x ∷ [])
counted_before a k front x s stands was is =
    let so : start_stands front k ≡ false = sym was.started ∙ stands in
    let more : since (is_start k) (front ++ x ∷ []) ≡ since (is_start k) front = since-push (is_start k) front x ∙ (rw (so, append-nil) refl) in
    record {
      started = is ∙ sym (start_stands-push front x k ∙ (rw so refl));
      output = rw more was.output;
      ticks = rw more was.ticks;
    }
