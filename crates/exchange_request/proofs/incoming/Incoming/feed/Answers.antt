use Rattle.std.proofs.Common.{refl}
use Rattle.exchange_request.proofs.KnowsLaws.{knows_fed}
use Rattle.exchange_request.proofs.incoming.Incoming.feed.Goals as goal

pub returns-clause-ok : goal.returns-clause-ok
returns-clause-ok c heard taken k two =
    knows_fed c.args.self.now _ heard c.args.bytes.now taken two (record {
      limits = refl;
      reader = c.feed.ensures.limits;
      manner = refl;
      whole = refl;
      due = refl;
      fresh = refl;
      unread = c.feed.ensures.unread;
      heard = c.in_ok-feed.ensures.ok;
    }) k
