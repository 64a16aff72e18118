-- What the pump of a child's input left.
use Rattle.std.proofs.Common.{◌≡◌, ◌≤◌, ℕ, List, true, false, Option, Some, None, is_some, is_none, unwrap_or, refl, sym, ◌∙◌, ap, subst, arith}
use Rattle.host_base.specs.Outsides.{Rose}
use Rattle.pipe_pump.specs.declared.ends.PumpDone.{PumpDone}
use Rattle.pipe_pump.specs.declared.feed_ring.FeedRing.{FeedRing}
use Rattle.pipe_pump.specs.Rings.{SameFeedRing}
use Rattle.pipe_pump.proofs.Handed.{fed_end_two}
use Rattle.pump_pool.specs.Pumped.{PumpedIn}
use Rattle.std.specs.Option.{IfSome}
use Rattle.std_spawner.specs.declared.pipes.ChildInput.{ChildInput}
use Rattle.std_spawner.specs.Inputs.{IsInputEnd, IsInputEndOf}

-- of the ring as it was given
pub end_of : (a b : FeedRing) (d : PumpDone ChildInput) → SameFeedRing a b → IsInputEnd b d → IsInputEnd a d
end_of a b d s h = record { of_feed = fed_end_two a b d.ring s h.of_feed; whole = h.whole; closed = h.closed }

-- of the ring that is known by its mark
pub input_end : (m : Option FeedRing) (f : FeedRing) (d : PumpDone ChildInput) → ((g : FeedRing) → m ≡ Some g → g ≡ f) → IsInputEndOf m d → IsInputEnd f d
input_end None f d s h = absurd h
input_end (Some g) f d s h = subst (λ x. IsInputEnd x d) (s g refl) h

-- .. by what the pump says
pub pumped_end : (taken : ChildInput → Option (List ℕ)) (faults : ChildInput → ℕ) (a ring : FeedRing) (pipe : ChildInput) (d : PumpDone ChildInput)
    → SameFeedRing a ring → PumpedIn taken faults (λ p. is_none p.side) ring pipe d → IsInputEnd a d
pumped_end taken faults a ring pipe d s h = record { of_feed = fed_end_two a ring d.ring s h.of_ring; whole = h.whole; closed = h.closed }

-- .. where it left anything
pub input_end_if : (m : Option FeedRing) (f : FeedRing) (o : Option (PumpDone ChildInput)) → ((g : FeedRing) → m ≡ Some g → g ≡ f)
    → IfSome o (IsInputEndOf m) → IfSome o (IsInputEnd f)
input_end_if m f None s h = tt
input_end_if m f (Some d) s h = input_end m f d s h

-- a count that rose after it may have
pub rose_later : (a b c : ℕ) → a ≤ b → Rose b c → Rose a c
rose_later a b c h k = omega arith

-- a mark is one
pub marked : (m : Option FeedRing) (f g : FeedRing) → m ≡ Some f → m ≡ Some g → g ≡ f
marked m f g a b = ap (λ o. unwrap_or o f) (sym b ∙ a)

pub unmarked : (m : Option FeedRing) (f g : FeedRing) → m ≡ None → m ≡ Some f → g ≡ f
unmarked m f g a b = let no : false ≡ true = ap (λ o. is_some o) (sym a ∙ b) in absurd (cc)
