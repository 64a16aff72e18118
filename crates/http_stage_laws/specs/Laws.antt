-- What a connection makes ready leads from stage to stage.
use Rattle.std.specs.Prelude.{ℕ, ◌≡◌, ◌≤◌, ◌&&◌, Bool, true, false, List, [], ◌∷◌, ◌++◌, Option, Some}
use Rattle.std.specs.List.{list_any}
use Rattle.host_base.specs.declared.launch.Launch.{Launch}
use Rattle.host_trace.specs.declared.items.Act.{Act}
use Rattle.host_trace.specs.declared.items.Act.TheVariants.{Start, Write}
use Rattle.host_trace.specs.declared.items.Item.TheVariants.{Out}
use Rattle.host_trace.specs.Kinds.{bytes_written, child_started, names_child}
use Rattle.child_core.specs.View.{View}
use Rattle.trace_model.specs.Exchange.{Exchange, continue_text, pushed, request_bytes}
use Rattle.trace_model.specs.Exchanges.{following, has_ended}
use Rattle.trace_model.specs.Demands.{must_hear}
use Rattle.trace_model.specs.Shuts.{why_due}
use Rattle.conn_flags.specs.View.{has_room, is_live}
use Rattle.trace_model.specs.Standing.{stands_whole}
use Rattle.child_core.specs.Due.{acted, acting}
use Rattle.trace_model.specs.Legs.{Leg as Started}
use Rattle.http_conn.specs.HttpConn.{HttpConn}
use Rattle.exchange_reply.specs.StepRules.{wrote}
use Rattle.exchange_stage.specs.declared.stage.Leg.{Leg}
use Rattle.exchange_stage.specs.declared.stage.Stage.TheVariants.{Finishing, Running, Starting}
use Rattle.exchange_laws.specs.Items.{is_calm, is_unanswered}
use Rattle.exchange_laws.specs.OfRun.{leg_held}
use Rattle.exchange_laws.specs.Rules.{IsUnended}
use Rattle.exchange_laws.specs.Unanswered.{is_awaited}
use Rattle.child_laws.specs.Children.{KnowsChildren}
use Rattle.child_laws.specs.Laws.{with_acts}
use Rattle.conn_laws.specs.Moves.{HasEnded}
use Rattle.http_conn.specs.Begins.{ReadiesAnswer, ReadiesHop}
use Rattle.http_conn.specs.Kept.{StandsFor, flags_of, number_of, site_of}
use Rattle.http_conn.specs.Moves.{losing}
use Rattle.http_conn.specs.Ready.{Looked}
use Rattle.http_conn.specs.Reasons.{hears_at, is_done_with, why_of}
use Rattle.http_conn.specs.Settles.{Follows, ending_of, is_answered, is_over, stood}
use Rattle.http_conn.specs.Writes.{continued, wrote as wrote_of}
use Rattle.http_stage_laws.specs.Staged.{Lost, MayAnswer, MayHop, MayAsk, MaySettle, MayShut, Staged}

-- A look at what was heard ..
abbrev pub LooksAreStaged : Type 0
LooksAreStaged = (old new : HttpConn) (e : Exchange) (legs : List Started) → StandsFor old e → Staged old e legs → old.lost ≡ false → e.closed ≡ false
    → Looked old new → Staged new e legs

-- .. what is made ready of an answer ..
abbrev pub AnswersAreStaged : Type 0
AnswersAreStaged = (old new : HttpConn) (stamp : Option ℕ) (e : Exchange) (legs : List Started) → MayAnswer old e legs stamp
    → ReadiesAnswer old.stage stamp old new → Staged new e legs

-- .. and of a hop.
abbrev pub HopsAreStaged : Type 0
HopsAreStaged = (old new : HttpConn) (stamp : Option ℕ) (e : Exchange) (legs : List Started) → MayHop old e legs stamp
    → ReadiesHop old.stage stamp old new → Staged new e legs

-- ---- the end of an exchange

-- The exchange has ended exactly where the connection takes it for ended, unless the whole output of a run stands already
-- that is not taken for its end yet.
abbrev pub EndsAreTaken : Type 0
EndsAreTaken = (conn : HttpConn) (e : Exchange) (legs : List Started) (early : Bool) (next : ℕ) → Staged conn e legs
    → KnowsChildren (site_of conn) (number_of conn) e early next legs conn.run → IsUnended (site_of conn) (number_of conn) e legs conn.stage
    → has_ended (site_of conn) (number_of conn) e ≡ is_over conn

-- .. and then what is held of it is so.
abbrev pub EndsAreNoticed : Type 0
EndsAreNoticed = (conn : HttpConn) (e : Exchange) (legs : List Started) → 2 ≤ (site_of conn).limits.head → MaySettle conn e legs → is_over conn ≡ true
    → HasEnded (site_of conn) (number_of conn) e (ending_of conn)

-- ---- acts

-- 100 Continue ..
abbrev pub ContinuesAreStaged : Type 0
ContinuesAreStaged = (conn : HttpConn) (e : Exchange) (legs : List Started) → 2 ≤ (site_of conn).limits.head → Staged conn e legs → is_unanswered conn.stage ≡ true
    → conn.continued ≡ false → is_awaited (site_of conn) (number_of conn) e ≡ true
    → Staged (continued true conn) (pushed e (Out (Write (number_of conn) continue_text))) legs

-- .. a part of a reply ..
abbrev pub PartsAreStaged : Type 0
PartsAreStaged = (conn : HttpConn) (e : Exchange) (legs : List Started) (leg : Leg) → 2 ≤ (site_of conn).limits.head → Staged conn e legs → conn.stage ≡ Running leg
    → Staged (record (wrote_of leg.text true conn) { stage = Running (record leg { text = [] }) }) (wrote (number_of conn) e leg.text) legs

-- .. the rest of an answer ..
abbrev pub RestsAreStaged : Type 0
RestsAreStaged = (conn : HttpConn) (e : Exchange) (legs : List Started) (text : List ℕ) (closes : Bool) → 2 ≤ (site_of conn).limits.head → Staged conn e legs
    → conn.stage ≡ Finishing text closes → conn.closes ≡ false → Staged (stood closes (wrote_of text true conn)) (wrote (number_of conn) e text) legs

-- .. and a Start, by a number that no item names.
abbrev pub StartsAreStaged : Type 0
StartsAreStaged = (conn : HttpConn) (e : Exchange) (legs : List Started) (leg : Leg) (launch : Launch) (body : List ℕ) (whole : Bool) (v : View) → 2 ≤ (site_of conn).limits.head
    → Staged conn e legs → conn.stage ≡ Starting leg launch body whole → list_any (names_child v.number) e.items ≡ false → v.output ≡ []
    → Staged (record conn { run = Some v; stage = Running leg }) (pushed e (Out (Start v.number (number_of conn) e.number leg.hop launch))) (legs ++ leg_held leg v.number ∷ [])

-- An act that is none of these leaves the stage ..
abbrev pub OthersAreStaged : Type 0
OthersAreStaged = (conn : HttpConn) (e : Exchange) (legs : List Started) (act : Act) → 2 ≤ (site_of conn).limits.head → Staged conn e legs → is_calm legs conn.stage ≡ true
    → bytes_written (number_of conn) (Out act) ≡ [] → child_started (number_of conn) (Out act) ≡ [] → Staged conn (pushed e (Out act)) legs

-- .. and so do all that are due for the child.
abbrev pub ServesAreStaged : Type 0
ServesAreStaged = (conn : HttpConn) (e : Exchange) (legs : List Started) (may : Bool) (v : View) → 2 ≤ (site_of conn).limits.head → Staged conn e legs
    → is_calm legs conn.stage ≡ true → conn.run ≡ Some v → Staged (record conn { run = Some (acted may v) }) (with_acts e (acting may v)) legs

-- ---- the next exchange

-- The exchange that follows one that has ended is read.
abbrev pub NextAreStaged : Type 0
NextAreStaged = (old new : HttpConn) (e : Exchange) (legs : List Started) → Staged old e legs → is_over old ≡ true → has_ended (site_of old) (number_of old) e ≡ true
    → Follows old new → Staged new (following (site_of old) (number_of old) e) []

-- ---- memory runs out

abbrev pub LossesAreStaged : Type 0
LossesAreStaged = (conn : HttpConn) (e : Exchange) (legs : List Started) → Staged conn e legs
    → (is_answered conn.stage ≡ false → stands_whole (site_of conn) (number_of conn) e ≡ false) → Lost (losing conn) e legs

-- ---- the end of a step

-- The connection is to be shut for the reason for which it shuts, or for none.
abbrev pub WhysAreDue : Type 0
WhysAreDue = (conn : HttpConn) (e : Exchange) (legs : List Started) → 2 ≤ (site_of conn).limits.head → MayShut conn e legs
    → why_due (site_of conn) (number_of conn) e ≡ why_of conn (is_done_with conn (request_bytes (number_of conn) e))

-- Its client is to be heard exactly where it is live, has room, and hears at its stage.
abbrev pub AsksAreDue : Type 0
AsksAreDue = (conn : HttpConn) (e : Exchange) (legs : List Started) → MayAsk conn e legs
    → must_hear (site_of conn) (number_of conn) e ≡ (is_live (flags_of conn) && has_room (flags_of conn) && hears_at conn conn.stage)
