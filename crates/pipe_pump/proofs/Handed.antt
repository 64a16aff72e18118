-- What a pump gave back.
use Rattle.std.proofs.Common.{◌∙◌}
use Rattle.pipe_pump.specs.declared.ends.RingEnd.{RingEnd}
use Rattle.pipe_pump.specs.declared.ends.RingEnd.TheVariants.{Output, Input}
use Rattle.pipe_pump.specs.declared.feed_ring.FeedRing.{FeedRing}
use Rattle.pipe_pump.specs.Rings.{IsFeedEndOf, SameFeedRing}

-- it is the end of the ring as that was before, too
pub fed_end_two : (a b : FeedRing) (end : RingEnd) → SameFeedRing a b → IsFeedEndOf b end → IsFeedEndOf a end
fed_end_two a b (Output p) s h = absurd h
fed_end_two a b (Input c p) s h = ((h.0.0 ∙ s.0.0, h.0.1 ∙ s.0.1, h.0.2 ∙ s.0.2, h.0.3 ∙ s.0.3), h.1 ∙ s.1)
