-- Where the model lets memory be wanting for a reply.
use Rattle.std.specs.Prelude.{ℕ, ◌≡◌, true, false}
use Rattle.host_base.specs.declared.site.Site.{Site}
use Rattle.host_trace.specs.Projections.{child_out}
use Rattle.trace_model.specs.Answer.{running, answer, is_final, stage}
use Rattle.trace_model.specs.Demands.{is_live, waits_its_turn}
use Rattle.trace_model.specs.Exchange.{Exchange, all_of, has_final}
use Rattle.trace_model.specs.Legs.{Leg}
use Rattle.trace_model.specs.Standing.{stands_whole}
use Rattle.trace_model.specs.TakesNoMemory.{lacks_reply}
use Rattle.exchange_reply.specs.Leg.{has_ticked}
use Rattle.exchange_reply.specs.Standings.{is_due}

-- A reply that is due and of which nothing stands is lacked, so a Tick that is to begin it may find no memory.
abbrev pub DuesAreLacked : Type 0
DuesAreLacked = (site : Site) (c : ℕ) (e : Exchange) (leg : Leg) → is_live c (all_of e) ≡ true → stage site c e ≡ running leg
    → is_due leg.kind (child_out e.items leg.child) (has_ticked e leg) ≡ true → has_final site c e ≡ false → lacks_reply site c e ≡ true

-- So is an answer that is there, doesn't wait its turn, and doesn't stand whole.
abbrev pub AnswersAreLacked : Type 0
AnswersAreLacked = (site : Site) (c : ℕ) (e : Exchange) → is_live c (all_of e) ≡ true → is_final (answer site c e) ≡ true
    → waits_its_turn (stage site c e) ≡ false → stands_whole site c e ≡ false → lacks_reply site c e ≡ true
