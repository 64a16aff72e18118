-- Words on the ends of rings.
use Rattle.std.specs.Prelude.{◌≡◌, ℕ, List, [], Some, None, is_some, Bool, true, false}
use Rattle.rtrb.specs.Ring.{sent, received, known_items, known_free, producer_capacity, IsPair, SameProducer, SameConsumer}
use Rattle.std.specs.declared.alloc.Global.{Global}
use Rattle.rtrb.specs.declared.producer.Producer.{Producer}
use Rattle.rtrb.specs.declared.AnyItems.{AnyItems}
use Rattle.pipe_pump.specs.Hands.{IsMarkFor}
use Rattle.pipe_pump.specs.declared.ends.RingEnd.{RingEnd}
use Rattle.pipe_pump.specs.declared.ends.RingEnd.TheVariants.{Output, Input}
use Rattle.pipe_pump.specs.declared.from_pipe.PumpRing.{PumpRing}
use Rattle.pipe_pump.specs.declared.tap.Tap.{Tap}
use Rattle.pipe_pump.specs.declared.feed_ring.FeedRing.{FeedRing}
use Rattle.pipe_pump.specs.declared.feeder.Feeder.{Feeder}
use Rattle.pipe_pump.specs.declared.feed_state.FeedState.{FeedState}
use Rattle.pipe_pump.specs.declared.feed_state.FeedState.TheVariants.{Open, Ended}

-- ---- a ring from a pump to a tap

-- nothing was put into the ring
abbrev pub IsFreshRing : PumpRing → Type 0
IsFreshRing ring = sent ring.producer ≡ []

-- the ring of the pump is the one of the tap
abbrev pub IsRingOf : PumpRing → Tap → Type 0
IsRingOf ring tap = IsPair ring.producer tap.consumer

-- what a pump gave back is the end of the ring that it was given
abbrev pub IsEndOf : PumpRing → RingEnd → Type 0
IsEndOf ring (Output p) = SameProducer ring.producer p
IsEndOf ring (Input c p) = ⊥

-- the pump gave back the other end of the tap's ring
abbrev pub IsOtherEnd : RingEnd → Tap → Type 0
IsOtherEnd (Output p) tap = IsPair p tap.consumer
IsOtherEnd (Input c p) tap = ⊥

-- all bytes that a pump put into the ring
abbrev pub put_in : RingEnd → List ℕ
put_in (Output p) = sent p
put_in (Input c p) = []

-- how many places of the ring the pump knows to be free
abbrev pub known_room : RingEnd → ℕ
known_room (Output p) = known_free p
known_room (Input c p) = 0

-- what a tap handed up, and what it knows to stand in its ring
abbrev pub handed_up : Tap → List ℕ
handed_up tap = received tap.consumer

abbrev pub standing : Tap → List ℕ
standing tap = known_items tap.consumer

-- the tap of the same ring
abbrev pub SameTap : Tap → Tap → Type 0
SameTap a b = SameConsumer a.consumer b.consumer

-- the tap has the pump's end of its ring, and so knows all that stands in it
abbrev pub is_finished : Tap → Bool
is_finished tap = is_some tap.producer

-- ---- a ring from a feeder to a pump

-- the end by which a feeder puts bytes in, or did before the feed was ended
abbrev pub producer_of : FeedState → Producer ℕ Global AnyItems
producer_of (Open p) = p
producer_of (Ended m) = m.value

-- the mark is of the ring, and no byte was taken out yet
abbrev pub IsFreshFeed : FeedRing → Type 0
IsFreshFeed ring = IsMarkFor (received ring.hand) ring.source.consumer × (received ring.source.consumer ≡ [])

-- the pump takes out what the feeder is given, and has the other end of what that is ended by
abbrev pub IsFeedOf : FeedRing → Feeder → Type 0
IsFeedOf ring feeder = IsPair (producer_of feeder.state) ring.source.consumer × IsPair feeder.hand ring.hand

-- the feeder of the same ring
abbrev pub SameFeeder : Feeder → Feeder → Type 0
SameFeeder a b = SameProducer (producer_of a.state) (producer_of b.state) × SameProducer a.hand b.hand

-- the pump's end of the same ring
abbrev pub SameFeedRing : FeedRing → FeedRing → Type 0
SameFeedRing a b = SameConsumer a.source.consumer b.source.consumer

-- what a pump gave back is the end of the ring that it was given
abbrev pub IsFeedEndOf : FeedRing → RingEnd → Type 0
IsFeedEndOf ring (Output p) = ⊥
IsFeedEndOf ring (Input c p) = SameConsumer ring.source.consumer c

-- all bytes that a pump took out of the ring
abbrev pub popped : RingEnd → List ℕ
popped (Output p) = []
popped (Input c p) = received c

-- the bytes that it knows to stand in the ring
abbrev pub known_left : RingEnd → List ℕ
known_left (Output p) = []
known_left (Input c p) = known_items c

-- the feed was ended, and all that was fed was taken out
abbrev pub IsWholeFeed : RingEnd → Type 0
IsWholeFeed (Output p) = ⊥
IsWholeFeed (Input c None) = ⊥
IsWholeFeed (Input c (Some p)) = IsPair p c × (received c ≡ sent p)

-- all bytes that a feeder was given
abbrev pub fed_state : FeedState → List ℕ
fed_state (Open p) = sent p
fed_state (Ended m) = sent m.value

abbrev pub fed : Feeder → List ℕ
fed feeder = fed_state feeder.state

abbrev pub is_open_state : FeedState → Bool
is_open_state (Open p) = true
is_open_state (Ended m) = false

abbrev pub is_open : Feeder → Bool
is_open feeder = is_open_state feeder.state

-- how many places the ring has
abbrev pub places_of : FeedState → ℕ
places_of (Open p) = producer_capacity p
places_of (Ended m) = producer_capacity m.value

abbrev pub places : Feeder → ℕ
places feeder = places_of feeder.state

-- and how many of them the feeder knows to be free
abbrev pub known_places_of : FeedState → ℕ
known_places_of (Open p) = known_free p
known_places_of (Ended m) = 0

abbrev pub known_places : Feeder → ℕ
known_places feeder = known_places_of feeder.state
