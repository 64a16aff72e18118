-- What is made ready of an exchange's answer.
use Rattle.std.specs.Prelude.{ℕ, suc, ◌≡◌, ◌⊎◌, Bool, true, false, not, ◌&&◌, ◌||◌, nat_le, List, [], ◌++◌, Option, Some, None, if◌then◌else◌}
use Rattle.host_base.specs.declared.cause.Cause.{Cause}
use Rattle.host_base.specs.declared.cause.Cause.TheVariants.{RedirectLoop}
use Rattle.host_base.specs.declared.request.Request.{Request}
use Rattle.host_base.specs.declared.site.ScriptKind.{ScriptKind}
use Rattle.host_base.specs.declared.site.Site.{Site}
use Rattle.reply_kinds.specs.Derived.{is_header_whole}
use Rattle.reply_stream.specs.declared.asked.Asked.{Asked}
use Rattle.reply_stream.specs.declared.stream.Last.{Last}
use Rattle.reply_stream.specs.declared.stream.Last.TheVariants as Ended
use Rattle.reply_stream.specs.Writing.{Stood, is_begun}
use Rattle.trace_child.specs.Words.{is_filled}
use Rattle.child_core.specs.declared.ending.Outcome.{Outcome}
use Rattle.child_core.specs.declared.ending.Outcome.TheVariants.{Failed, Output}
use Rattle.child_core.specs.Calls.{drained}
use Rattle.child_core.specs.View.{View}
use Rattle.trace_model.specs.Answer.{request_of_hop}
use Rattle.trace_model.specs.Closes.{is_nph, persists_by}
use Rattle.trace_model.specs.Readings.{headed, is_head_request, is_whole}
use Rattle.exchange_request.specs.Knows.{Finds, KnowsRequest, is_read, is_ready, limits_of, reading_of}
use Rattle.exchange_request.specs.declared.found.Found.{Found}
use Rattle.exchange_request.specs.declared.found.Found.TheVariants as Seen
use Rattle.exchange_reply.specs.declared.reply.LegReply.{LegReply}
use Rattle.exchange_reply.specs.Reply.{Gives, KnowsReply, MayEndWithout, MayTickWithout, SpellsFault, closes_of}
use Rattle.exchange_reply.specs.Standings.{Ends}
use Rattle.exchange_stage.specs.declared.stage.Leg.{Leg}
use Rattle.exchange_stage.specs.declared.stage.Stage.{Stage}
use Rattle.exchange_stage.specs.declared.stage.Stage.TheVariants.{Finishing, Interrupted, Refused, Rejected, Running, Unstarted}
use Rattle.http_state.specs.declared.conn.HttpConn.{HttpConn}
use Rattle.http_state.specs.Kept.{is_reading, site_of}

-- ---- the run

abbrev pub outcome_of_run : Option View → Option Outcome
outcome_of_run None = None
outcome_of_run (Some v) = v.outcome

-- the output that was heard and not drained
abbrev pub undrained : Option View → List ℕ
undrained None = []
undrained (Some v) = v.output

abbrev pub drained_run : Option View → Option View
drained_run None = None
drained_run (Some v) = Some (drained v)

-- ---- the request

-- these bytes were heard for the request, and looked at as far as they are its own
pub record ReadsAll (conn : HttpConn) (bytes : List ℕ) : Type 0 where
  pub taken : ℕ
  pub knows : KnowsRequest conn.request bytes taken
  pub looked : is_read conn.request ≡ true

-- whether an answer of a script of this kind that begins now closes the connection (RFC 9112 9.3 and 9.6)
abbrev pub closes_with : HttpConn → ScriptKind → List ℕ → Bool
closes_with conn kind bytes =
    is_nph kind || not (persists_by (headed (reading_of conn.request bytes)) && is_whole (reading_of conn.request bytes))

-- ---- a look at what was heard

abbrev pub LooksTo : Found → HttpConn → HttpConn → Type 0
LooksTo Seen.More old new = new ≡ record old { request = new.request }
LooksTo (Seen.Ready request) old new = new ≡ record old { request = new.request; stage = Unstarted 0 request }
LooksTo (Seen.Refused cause bare) old new = new ≡ record old { request = new.request; stage = Rejected cause bare }

-- the request was looked at while it was read, and this was found
pub record Looks (old new : HttpConn) : Type 0 where
  pub reading : is_reading old.stage ≡ true
  pub found : Found
  pub to : LooksTo found old new
  pub limits : limits_of new.request ≡ limits_of old.request
  pub finds : (bytes : List ℕ) → KnowsRequest old.request bytes 0 → is_ready old.request ≡ false → Finds bytes found new.request

-- .. or it was not
abbrev pub Looked : HttpConn → HttpConn → Type 0
Looked old new = (new ≡ old) ⊎ Looks old new

-- ---- the host's own reply

-- with this text the whole answer stands
pub record Faults (cause : Cause) (bare closes : Bool) (stamp : Option ℕ) (old new : HttpConn) : Type 0 where
  pub text : List ℕ
  pub spells : SpellsFault cause bare closes stamp text
  pub is : new ≡ record old { stage = Finishing text closes }

-- ---- while the output goes on

-- a byte of the reply was written, or none was
abbrev pub HasBegun : LegReply → Bool → Type 0
HasBegun reply begun = (asked : Asked) (told : List ℕ) (ticked : Bool) (stood : Stood) → KnowsReply reply asked told ticked stood → begun ≡ is_begun stood

-- what the reply gives for this output, whatever it knew before
abbrev pub HearsPiece : LegReply → List ℕ → Bool → Option ℕ → List ℕ → LegReply → Type 0
HearsPiece old piece closes stamp text new =
    (asked : Asked) (told : List ℕ) (ticked : Bool) (stood : Stood) → KnowsReply old asked told ticked stood
    → Gives asked (told ++ piece) ticked closes stamp stood text new

-- .. or for a Tick
abbrev pub HearsTick : LegReply → Bool → Option ℕ → List ℕ → LegReply → Type 0
HearsTick old closes stamp text new =
    (asked : Asked) (told : List ℕ) (ticked : Bool) (stood : Stood) → KnowsReply old asked told ticked stood
    → Gives asked told (ticked || is_header_whole asked.kind told) closes stamp stood text new

-- .. or for this output and a Tick behind it: the text of the one, and then that of the other
pub record HearsBoth (old : LegReply) (piece : List ℕ) (closes : Bool) (stamp : Option ℕ) (text : List ℕ) (new : LegReply) : Type 0 where
  pub mid : LegReply
  pub first : List ℕ
  pub more : List ℕ
  pub heard : HearsPiece old piece closes stamp first mid
  pub ticked : HearsTick mid closes stamp more new
  pub text_is : text ≡ first ++ more

-- the reply was told what came, and this is to be written now
pub record Tells (leg : Leg) (stamp : Option ℕ) (old new : HttpConn) : Type 0 where
  pub text : List ℕ
  pub reply : LegReply
  pub closes : Bool
  pub closes_is : (bytes : List ℕ) → ReadsAll old bytes → closes ≡ closes_with old leg.kind bytes
  pub is : new ≡ record old { run = drained_run old.run; stage = Running (record leg { reply = reply; ticked = false; text = text }) }
  pub piece : leg.ticked ≡ false → HearsPiece leg.reply (undrained old.run) closes stamp text reply
  pub none : leg.ticked ≡ false → undrained old.run ≡ [] → text ≡ []
  pub tick : leg.ticked ≡ true → undrained old.run ≡ [] → HearsTick leg.reply closes stamp text reply
  pub filled : leg.ticked ≡ true → undrained old.run ≡ [] → is_filled text ≡ true → HasBegun leg.reply false
  pub both : leg.ticked ≡ true → HearsBoth leg.reply (undrained old.run) closes stamp text reply

-- ---- once it has ended

-- a local redirect leads to the next hop, or there is one too many
abbrev pub stage_of_hop : Site → ℕ → Request → List ℕ → Stage
stage_of_hop site hop request location =
    if nat_le site.limits.redirects hop then Refused RedirectLoop else Unstarted (suc hop) (request_of_hop request location)

-- what the reply comes to at its end, whatever it knew before
abbrev pub EndsAs : LegReply → Bool → Option ℕ → Last → Type 0
EndsAs reply closes stamp last =
    (asked : Asked) (told : List ℕ) (ticked : Bool) (stood : Stood) → KnowsReply reply asked told ticked stood
    → Ends asked told closes stamp stood last

-- whether the connection closes after it
abbrev pub ClosesBy : LegReply → Bool → Bool → Type 0
ClosesBy reply closes_now closes =
    (asked : Asked) (told : List ℕ) (ticked : Bool) (stood : Stood) → KnowsReply reply asked told ticked stood → closes ≡ closes_of stood closes_now

abbrev pub EndsWith : Leg → Bool → Option ℕ → HttpConn → HttpConn → Last → Type 0
EndsWith leg closes_now stamp old new (Ended.Written text) =
    (closes : Bool) × ClosesBy leg.reply closes_now closes × (new ≡ record old { stage = Finishing text closes })
EndsWith leg closes_now stamp old new (Ended.Hop location) = new ≡ record old { stage = stage_of_hop (site_of old) leg.hop leg.request location }
EndsWith leg closes_now stamp old new (Ended.Bad cause) = Faults cause (is_head_request (Some leg.request)) closes_now stamp old new

pub record Concludes (leg : Leg) (stamp : Option ℕ) (old new : HttpConn) : Type 0 where
  pub closes_now : Bool
  pub closes_is : (bytes : List ℕ) → ReadsAll old bytes → closes_now ≡ closes_with old leg.kind bytes
  pub last : Last
  pub ends : EndsAs leg.reply closes_now stamp last
  pub with : EndsWith leg closes_now stamp old new last

-- memory may run out for its end, whatever it knew before
abbrev pub Lacks : LegReply → Type 0
Lacks reply = (asked : Asked) (told : List ℕ) (ticked : Bool) (stood : Stood) → KnowsReply reply asked told ticked stood → MayEndWithout asked told stood

-- ---- its run failed

abbrev pub BreaksBy : Leg → Cause → Bool → Option ℕ → HttpConn → HttpConn → Bool → Type 0
BreaksBy leg cause closes stamp old new true = new ≡ record old { cut = Some cause }
BreaksBy leg cause closes stamp old new false =
    (text : List ℕ) × (new ≡ record old { stage = Finishing text closes })
    × ((asked : Asked) (told : List ℕ) (ticked : Bool) (stood : Stood) → KnowsReply leg.reply asked told ticked stood → SpellsFault cause asked.head_only closes stamp text)

pub record Breaks (leg : Leg) (cause : Cause) (stamp : Option ℕ) (old new : HttpConn) : Type 0 where
  pub closes : Bool
  pub closes_is : (bytes : List ℕ) → ReadsAll old bytes → closes ≡ closes_with old leg.kind bytes
  pub begun : Bool
  pub begun_is : HasBegun leg.reply begun
  pub by : BreaksBy leg cause closes stamp old new begun

-- ---- memory may run out

-- for a Tick, whatever the reply knew before
abbrev pub LacksTick : LegReply → Type 0
LacksTick reply = (asked : Asked) (told : List ℕ) (ticked : Bool) (stood : Stood) → KnowsReply reply asked told ticked stood → MayTickWithout asked told ticked stood

-- for a reply, by what decided its run: where output or a Tick came, where the output ended, and where none had begun
abbrev pub MayLackReply : Option Outcome → Leg → Option View → Type 0
MayLackReply None leg run = undrained run ≡ [] → (leg.ticked ≡ true) × LacksTick leg.reply
MayLackReply (Some Output) leg run = Lacks leg.reply
MayLackReply (Some (Failed cause)) leg run = HasBegun leg.reply false
MayLackReply (Some outcome) leg run = ⊥

-- for what is due of an answer
abbrev pub MayLack : HttpConn → Stage → Type 0
MayLack conn (Rejected cause bare) = Unit {0}
MayLack conn (Interrupted cause) = Unit {0}
MayLack conn (Running leg) = MayLackReply (outcome_of_run conn.run) leg conn.run
MayLack conn stage = ⊥

-- for a hop, or what was found on the way to it
abbrev pub waits_at : Stage → Bool
waits_at (Refused cause) = true
waits_at (Unstarted hop request) = true
waits_at stage = false
