-- What a real child tells of itself.
use Rattle.std.specs.Prelude.{◌≡◌, ◌≤◌, Bool, None, false}
use Rattle.pipe_pump.specs.declared.from_pipe.PumpRing.{PumpRing}
use Rattle.pipe_pump.specs.declared.feed_ring.FeedRing.{FeedRing}
use Rattle.host_base.specs.declared.launch.Launch.{Launch}
use Rattle.pump_pool.specs.Pumps.{ring_of}
use Rattle.std_spawner.specs.Programs.{has_gone}
use Rattle.std_spawner.specs.NewsEnds.{launch_heard}
use Rattle.child_edge.specs.Kids.{KidTells}
use Rattle.std_spawner.specs.declared.kid.StdKid.{StdKid}

abbrev pub kid_tells : {R T : Type 0} → StdKid R T → KidTells
kid_tells kid =
    record {
      launch = launch_heard kid.listener;
      ring = ring_of kid.output;
      feed = kid.feed.value;
      birth = kid.birth;
      out_end = kid.out_end;
      in_end = kid.in_end;
      reaped = kid.reaped;
      kills = kid.kills;
      faults = kid.faults;
      out_looks = kid.out_looks;
      in_looks = kid.in_looks;
      reap_looks = kid.reap_looks;
      start_looks = kid.start_looks;
    }

-- .. of the program that the loop has taken: it does where that has exited, or is to be ended
abbrev pub is_gone : {R T : Type 0} → StdKid R T → Bool
is_gone kid = has_gone kid.program

-- it was just handed over by this launch, on these rings
pub record IsNewStdKid {R T : Type 0} (launch : Launch) (ring : PumpRing) (feed : FeedRing) (kid : StdKid R T) : Type 0 where
  pub of_launch : launch_heard kid.listener ≡ launch
  pub of_ring : ring_of kid.output ≡ ring
  pub of_feed : kid.feed.value ≡ feed
  pub unborn : kid.birth ≡ None
  pub out_open : kid.out_end ≡ None
  pub in_open : kid.in_end ≡ None
  pub running : kid.reaped ≡ false

-- what failed of it may have changed, and nothing else that it tells; nor what the loop has of it
pub record SameButFaults {R T : Type 0} (old new : StdKid R T) : Type 0 where
  pub count : old.faults ≤ new.faults
  pub rest : kid_tells new ≡ record (kid_tells old) { faults = new.faults }
  pub program : new.program ≡ old.program

-- what failed of it may have changed, and nothing else that it tells; nor the ring of its input
pub record SameButInput {R T : Type 0} (old new : StdKid R T) : Type 0 where
  pub count : old.faults ≤ new.faults
  pub rest : kid_tells new ≡ record (kid_tells old) { faults = new.faults }
