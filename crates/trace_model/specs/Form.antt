-- When each act of a connection may stand, and in which order the acts of a step come.
use Rattle.std.specs.Prelude.{ℕ, Bool, true, false, not, ◌+◌, ◌&&◌, ◌||◌, nat_le, if◌then◌else◌, List, [], ◌∷◌, length}
use Rattle.host_base.specs.declared.site.Site.{Site}
use Rattle.host_trace.specs.declared.items.Act.{Act}
use Rattle.host_trace.specs.declared.items.Act.TheVariants.{WantClient, Write, Shut, Start, Feed, EndInput, WantChild, Kill, Release, Upgrade, Says, CloseWs}
use Rattle.host_trace.specs.declared.items.Item.{Item}
use Rattle.host_trace.specs.declared.items.Item.TheVariants.{Out}
use Rattle.host_trace.specs.Account.{has_unsettled}
use Rattle.host_trace.specs.Projections.{client_wanted, pending, upgraded}
use Rattle.host_trace.specs.Trace.{Step}
use Rattle.trace_child.specs.Words.{is_filled}
use Rattle.trace_child.specs.ChildForm.{may_be_given}
use Rattle.trace_model.specs.Answer.{Stage, refused, stage}
use Rattle.trace_model.specs.Demands.{is_live}
use Rattle.trace_model.specs.Exchange.{Exchange, pushed, all_of}
use Rattle.trace_model.specs.Exchanges.{current, next_of, has_ended}
use Rattle.trace_model.specs.Steps.{heard_of}

-- So many bytes more find a place among those that wait to be sent: 262,144 may wait when output is asked for, a piece of
-- it has at most 65,536, and 16,384 are for the head of a reply and what frames its body.
abbrev pub has_place : ℕ → List Item → ℕ → Bool
has_place c L n = nat_le (pending L c + n) 344064

-- The act may come next after these items of its connection: of the connection nothing but between its Accepted and its
-- Shut; one question at a time; a byte and a text at least; HTTP before the Upgrade, where its bytes find a place, and a
-- WebSocket after it. What may be given to a child is said with the rules on children.
abbrev pub may_come : List Item → Act → Bool
may_come L (WantClient c) = is_live c L && not (client_wanted L c)
may_come L (Write c bytes) = is_live c L && not (upgraded L c) && is_filled bytes && has_place c L (length bytes)
may_come L (Shut c why) = is_live c L
may_come L (Start k c j hop launch) = is_live c L && may_be_given L (Start k c j hop launch)
may_come L (Feed k bytes) = may_be_given L (Feed k bytes)
may_come L (EndInput k) = may_be_given L (EndInput k)
may_come L (WantChild k) = may_be_given L (WantChild k)
may_come L (Kill k) = may_be_given L (Kill k)
may_come L (Release k) = may_be_given L (Release k)
may_come L (Upgrade c rest) = is_live c L && not (upgraded L c)
may_come L (Says c texts) = is_live c L && upgraded L c && is_filled texts
may_come L (CloseWs c code) = is_live c L && upgraded L c

abbrev pub comes_in_form : Exchange → Act → Bool
comes_in_form e act = may_come (all_of e) act

-- the place of an act in its step
abbrev pub rank : Act → ℕ
rank (Write c bytes) = 0
rank (Upgrade c rest) = 1
rank (Says c texts) = 2
rank (CloseWs c code) = 3
rank (Feed k bytes) = 4
rank (EndInput k) = 5
rank (Kill k) = 6
rank (Release k) = 7
rank (WantChild k) = 8
rank (Shut c why) = 9
rank (Start k c j hop launch) = 10
rank (WantClient c) = 11

-- a local redirect leads to a target that is refused, or there was one too many
abbrev pub is_refused : Stage → Bool
is_refused (refused cause) = true
is_refused _ = false

-- the act settles the last child for which such a refusal waited
abbrev pub ends_the_wait : Site → ℕ → Exchange → Act → Bool
ends_the_wait site c e act =
    has_unsettled e.items c && not (has_unsettled (pushed e (Out act)).items c) && is_refused (stage site c e)

abbrev pub begins_anew : Site → ℕ → Exchange → Act → Bool
begins_anew site c e act = has_ended site c (pushed e (Out act)) || ends_the_wait site c e act

-- The acts of one exchange come in the order of their places. Where it ends within a step, those of the next follow it;
-- and where a refusal waited for a child, it follows the act that settles it.
abbrev pub is_ordered : Site → ℕ → Exchange → ℕ → List Act → Bool
is_ordered site c e least [] = true
is_ordered site c e least (act ∷ acts) =
    nat_le least (rank act)
    && is_ordered site c (next_of site c e (Out act)) (if begins_anew site c e act then 0 else rank act) acts

abbrev pub order : Site → ℕ → Step → Bool
order site c s = is_ordered site c (current site c (heard_of s)) 0 s.acts
