-- Behind each event in whose step memory may be taken only for a cause, it is known what is due.
use Rattle.std.proofs.Common.{◌≡◌, ℕ, true, false, List, refl, sym, ◌∙◌}
use Rattle.host_trace.specs.declared.items.Event.{Event}
use Rattle.host_trace.specs.declared.items.Event.TheVariants.{Accepted, ClientGone, Exited, InputGone, Stop, Tick, WsBad, WsBinary, WsClosed}
use Rattle.host_trace.specs.declared.items.Item.{Item}
use Rattle.own_traces.specs.OwnFits.{fits_own}
use Rattle.trace_model.specs.Exchange.{Exchange}
use Rattle.trace_model.specs.Legs.{Leg as Started}
use Rattle.http_conn.specs.HttpConn.{HttpConn}
use Rattle.http_conn.specs.Hears.{Hears}
use Rattle.http_conn.specs.Kept.{site_of}
use Rattle.http_stage_laws.specs.HeardStages.{AtRest}
use Rattle.good_step_laws.specs.Shuts.Memory.{KnownBy, MemoryIsKnown, Resting}
use Rattle.good_step_laws.proofs.Steps.ExitLaws.{exit_known}
use Rattle.good_step_laws.proofs.Steps.FollowWords.{heard, little_shut, lost_same, then_e}
use Rattle.good_step_laws.proofs.Steps.StillLaws.{still_rests}
use Rattle.good_step_laws.proofs.Steps.StillWords.{is_still}
use Rattle.good_step_laws.proofs.Steps.TickLaws.{tick_known}

module _ (old new : HttpConn) (L : List Item) (e : Exchange) (legs : List Started) (n : ℕ) (rest : AtRest old L e legs n) (found : new.lost ≡ false) where
  module _ (ev : Event) (fits : fits_own (site_of old).limits.children L ev ≡ true) (h : Hears old ev new) where
    rests : is_still ev ≡ true → Resting (then_e old new L e legs n ev rest fits h) new
    rests still = still_rests old new L e legs n ev rest fits h still (sym (lost_same old new L e legs n ev rest fits h) ∙ found)

  pub known_by : (ev : Event) (fits : fits_own (site_of old).limits.children L ev ≡ true) (h : Hears old ev new)
      → KnownBy ev (then_e old new L e legs n ev rest fits h) new (heard old new L e legs n ev rest fits h).standing.over
  known_by (Accepted peer) fits h = rests (Accepted peer) fits h refl
  known_by (ClientGone d) fits h = rests (ClientGone d) fits h refl
  known_by (InputGone k) fits h = rests (InputGone k) fits h refl
  known_by (WsBinary d) fits h = rests (WsBinary d) fits h refl
  known_by (WsClosed d) fits h = rests (WsClosed d) fits h refl
  known_by (WsBad d) fits h = rests (WsBad d) fits h refl
  known_by Stop fits h = rests Stop fits h refl
  known_by (Tick secs) fits h = tick_known old L e legs n secs rest fits new h found
  known_by (Exited k) fits h = exit_known old L e legs n k rest fits new h found
  known_by ev fits h = tt

-- So it is with each event that fits.
pub events_know_memory : (old new : HttpConn) (L : List Item) (e : Exchange) (legs : List Started) (n : ℕ) (ev : Event) (rest : AtRest old L e legs n)
    (fits : fits_own (site_of old).limits.children L ev ≡ true) (h : Hears old ev new)
    → MemoryIsKnown ev (then_e old new L e legs n ev rest fits h) new (heard old new L e legs n ev rest fits h).standing.over
events_know_memory old new L e legs n ev rest fits h =
    record { shut = little_shut old new L e legs n ev rest fits h; known = λ found. known_by old new L e legs n rest found ev fits h }
