-- The run of a talk's child: what there is for its input are the texts of its client, each as a line.
use Rattle.std.specs.Prelude.{ℕ, true, List, filter}
use Rattle.host_base.specs.declared.limits.Limits.{Limits}
use Rattle.host_trace.specs.declared.items.Item.{Item}
use Rattle.host_trace.specs.Projections.{heard}
use Rattle.line_messages.specs.Lines.{input}
use Rattle.trace_child.specs.Words.{until}
use Rattle.trace_child.specs.Run.{Offer}
use Rattle.trace_model.specs.Talk.{ends_input, is_short}
use Rattle.child_core.specs.Setting.{Setting}

-- the texts that are fed: those that the client sent while the input was open, but one that is too long
abbrev pub texts_taken : ℕ → ℕ → ℕ → List Item → List (List ℕ)
texts_taken c k limit items = filter (is_short limit) (heard (until (ends_input k) items) c)

abbrev pub offered_to : ℕ → ℕ → ℕ → List Item → Offer
offered_to c k limit items = record { body = input (texts_taken c k limit items); whole = true }

abbrev pub setting : ℕ → ℕ → Limits → Setting
setting c k limits = record { conn = c; limits = limits; offered = offered_to c k limits.ws_text }
