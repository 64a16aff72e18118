-- A run over the list of a sample is the run of the sample.
use Rattle.std.proofs.Common.{◌≡◌, ℕ, true, List, [], Option, refl}
use Rattle.std.proofs.lemmas.Bool.{and_parts}
use Rattle.host_trace.specs.declared.items.Item.{Item}
use Rattle.host_trace.specs.Account.{all_settled}
use Rattle.host_trace.specs.Projections.{stopped}
use Rattle.sample_parts.specs.Listed.{sample_events}
use Rattle.sample_run.specs.Played.{IsPlayedWorld}
use Rattle.sample_run.specs.Run.{HasSampleRun, sample_site}
use Rattle.sample_run.proofs.RunLaws.{run_is}
use Rattle.sample_parts.proofs.StopLaws.{sample_stops_last}

pub has_run : (seed count : ℕ) (given : Option (List (List Item))) → IsPlayedWorld sample_site (sample_events seed count) given → HasSampleRun seed count given
has_run seed count given w =
    let T = w.trace in
    let stop : stopped T ≡ true = (and_parts (stopped T) (all_settled T) w.played.served.over).0 in
    record {
      trace = T;
      told = w.told;
      run = record {
        heard = run_is sample_site.limits.children T [] T (sample_events seed count) refl refl stop (sample_stops_last seed count) w.played.takes;
        good = w.played.good;
        over = w.played.served;
      };
    }
