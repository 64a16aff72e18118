-- An answer that there is stands whole. Where its children are settled its exchange has then ended, by the cut, so at a
-- step's end such an answer is seen only of an exchange with a child that is not settled.
use Rattle.std.specs.Prelude.{ℕ, Bool, true, not, ◌&&◌}
use Rattle.host_base.specs.declared.site.Site.{Site}
use Rattle.host_trace.specs.declared.items.Act.{Act}
use Rattle.host_trace.specs.declared.items.Act.TheVariants.{Write}
use Rattle.host_trace.specs.declared.items.Item.TheVariants.{Out}
use Rattle.trace_child.specs.Words.{implies}
use Rattle.trace_model.specs.Answer.{stage}
use Rattle.trace_model.specs.Demands.{must_answer, waits_its_turn, may_go_on}
use Rattle.trace_model.specs.Exchange.{Exchange, pushed, has_final}
use Rattle.trace_model.specs.Standing.{stands_whole}

abbrev pub answers : Site → ℕ → Exchange → Bool
answers site c e = implies (must_answer site c e) (stands_whole site c e)

-- An answer that was found at a refused target, at one local redirect too many or at an accepted handshake begins no
-- sooner than a Start may come there.
abbrev pub begins_in_turn : Site → ℕ → Exchange → Act → Bool
begins_in_turn site c e (Write d bytes) =
    implies (not (has_final site c e) && has_final site c (pushed e (Out (Write d bytes))) && waits_its_turn (stage site c e)) (may_go_on c e)
begins_in_turn site c e _ = true
