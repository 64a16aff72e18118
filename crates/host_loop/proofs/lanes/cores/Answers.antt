-- One core more.
use Rattle.std.proofs.Common.{rules}
use Rattle.std.proofs.lemmas.List.Elements.{All-push}
use Rattle.host_loop.specs.Loops.{HasHeardNothing}
use Rattle.host_loop.proofs.lanes.cores.Goals as goal

pub loop-i-preserved : goal.loop-i-preserved
loop-i-preserved g c = record {
  count = search rules;
  room = search rules;
  each = rw c.push_reserved.ensures.items (All-push (HasHeardNothing c.args.site.now) c.loop-i.cores.items c.in_ok-new.field-0 c.loop-i.invariant.each (record { stands = c.in_ok-new.ensures.stands; sound = c.in_ok-new.ensures.sound; site_is = c.in_ok-new.ensures.site; accepted = c.in_ok-new.ensures.accepted }));
}
