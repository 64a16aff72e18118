-- What an event makes of the run of a hop's child, in the words of its calls.
use Rattle.std.specs.Prelude.{ℕ, zero, suc, Bool, ◌==◌, ◌-◌, List, length, drop, Option, Some, None, if◌then◌else◌}
use Rattle.host_base.specs.declared.site.Site.{Site}
use Rattle.host_trace.specs.declared.items.Event.{Event}
use Rattle.host_trace.specs.declared.items.Event.TheVariants.{ClientBytes, ClientEof, ClientGone, WsBinary, WsBad, NoRoom}
use Rattle.host_trace.specs.declared.items.Item.{Item}
use Rattle.host_trace.specs.declared.items.Item.TheVariants.{In}
use Rattle.child_core.specs.declared.ending.Ending.TheVariants.{Gone, Dropped, Refused, Incomplete}
use Rattle.child_core.specs.View.{View, Note, plain}
use Rattle.child_core.specs.Calls.{heard, ended, offered}
use Rattle.trace_model.specs.Exchange.{Exchange, pushed, reading}
use Rattle.trace_model.specs.Legs.{Leg}
use Rattle.trace_model.specs.Readings.{body_of, headed, is_whole}

-- the body of the request as far as it was heard
abbrev pub body_heard : Site → ℕ → Exchange → List ℕ
body_heard site c e = body_of (headed (reading site c e))

-- what came of it with an item
abbrev pub body_more : Site → ℕ → Exchange → Item → List ℕ
body_more site c e x = drop (length (body_heard site c e)) (body_heard site c (pushed e x))

-- an item brings more of the body for the child of the first hop
abbrev pub note_at : Site → ℕ → Exchange → ℕ → Bool → Item → Note
note_at site c e zero found x = record plain { more = body_more site c e x; last = is_whole (reading site c (pushed e x)); found = found }
note_at site c e (suc hop) found x = record plain { found = found }

-- it is offered what came of the body
abbrev pub offered_by : Site → ℕ → Exchange → ℕ → Item → View → View
offered_by site c e zero x v = offered v (body_more site c e x) (is_whole (reading site c (pushed e x)))
offered_by site c e (suc hop) x v = v

-- the client ended its input: within the body this ends the run
abbrev pub cut_by : Site → ℕ → Exchange → ℕ → View → View
cut_by site c e zero v = if is_whole (reading site c e) then v else ended v Incomplete
cut_by site c e (suc hop) v = v

-- what an event makes of the run, by whether there was room for its output
abbrev pub heard_by : Site → ℕ → Exchange → ℕ → Bool → Event → View → View
heard_by site c e hop found (ClientBytes d bytes) v = if c == d then offered_by site c e hop (In (ClientBytes d bytes)) v else v
heard_by site c e hop found (ClientEof d) v = if c == d then cut_by site c e hop v else v
heard_by site c e hop found (ClientGone d) v = if c == d then ended v Gone else v
heard_by site c e hop found (WsBinary d) v = if c == d then ended v Refused else v
heard_by site c e hop found (WsBad d) v = if c == d then ended v Gone else v
heard_by site c e hop found (NoRoom d) v = if c == d then ended v Dropped else v
heard_by site c e hop found ev v = heard v ev found

-- the hop of the last of these legs
abbrev pub last_hop : List Leg → ℕ
last_hop legs = length legs - 1

abbrev pub run_heard : Site → ℕ → Exchange → List Leg → Bool → Event → Option View → Option View
run_heard site c e legs found ev None = None
run_heard site c e legs found ev (Some v) = Some (heard_by site c e (last_hop legs) found ev v)
