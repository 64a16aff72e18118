use Rattle.own_traces.proofs.FitLaws.{fits-own}
use Rattle.own_traces.proofs.laws.own_events_fit.Goals as goal

pub returns : goal.returns
returns c = fits-own
