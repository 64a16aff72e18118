-- What each part of a step does.
use Rattle.std.specs.Prelude.{ℕ, zero, suc, ◌≡◌, ◌<◌, ◌+◌, Bool, true, false, not, ◌&&◌, List, [], ◌∷◌, Option, Some, None}
use Rattle.host_base.specs.declared.launch.Launch.{Launch}
use Rattle.host_base.specs.declared.site.ScriptKind.{ScriptKind}
use Rattle.host_base.specs.declared.site.Site.{Site}
use Rattle.host_trace.specs.declared.items.Act.TheVariants.{Shut, Start, WantClient}
use Rattle.host_trace.specs.declared.items.Item.TheVariants.{Out}
use Rattle.host_trace.specs.declared.items.Why.{Why}
use Rattle.host_trace.specs.Kinds.{is_no_memory}
use Rattle.child_core.specs.declared.ending.Outcome.TheVariants.{Output}
use Rattle.child_core.specs.Calls.{offered}
use Rattle.child_core.specs.Due.{acted, acting, is_feed_due}
use Rattle.child_core.specs.View.{View, begun}
use Rattle.trace_child.specs.Words.{is_filled}
use Rattle.conn_flags.specs.View.{has_room, is_live, noted}
use Rattle.request_reader.specs.Request.{is_whole_head}
use Rattle.exchange_request.specs.Knows.{KnowsRequest, is_looked_at, is_ready, kept_of, limits_of}
use Rattle.exchange_stage.specs.declared.stage.Leg.{Leg}
use Rattle.exchange_stage.specs.declared.stage.Stage.{Stage}
use Rattle.exchange_stage.specs.declared.stage.Stage.TheVariants.{Finishing, Running, Starting}
use Rattle.conn_laws.specs.Moves.{Move, continues, gives}
use Rattle.http_state.specs.declared.conn.HttpConn.{HttpConn}
use Rattle.http_state.specs.Begins.{ReadiesAnswer, ReadiesHop}
use Rattle.http_state.specs.Kept.{is_reading, site_of}
use Rattle.http_state.specs.Moves.{given_up_by, losing}
use Rattle.http_state.specs.Ready.{Lacks, Looks, MayLack, outcome_of_run, waits_at}
use Rattle.http_state.specs.Tells.{TellsAsk, TellsContinue, TellsEnding, TellsMore, TellsTurn, TellsWhy}
use Rattle.http_state.specs.Settles.{stood}
use Rattle.http_conn.specs.Writes.{acts_written, continued, wrote}
pub use Rattle.http_state.specs.Deeds.{Deed, Ends, EndsBy, GivesUp, Loses, Nothing, Or, Part, Then, gives_all, the_one, the_other}

-- ---- what came is looked at, and 100 Continue written

-- the request was looked at
pub record LooksAt (old : HttpConn) (n : ℕ) (moves : List Move) (new : HttpConn) : Type 0 where
  pub none : moves ≡ []
  pub found : new.lost ≡ false
  pub looked : Looks old new

-- memory ran out for it: a whole head was heard
pub record LosesLook (old : HttpConn) (n : ℕ) (moves : List Move) (new : HttpConn) : Type 0 where
  pub loses : Loses old n moves new
  pub heard : (bytes : List ℕ) → KnowsRequest old.request bytes 0 → is_ready old.request ≡ false → is_whole_head (limits_of old.request) bytes ≡ true

-- nothing ends the connection, and bytes came that nobody has looked at while the request is read
abbrev pub ReadsBy : Bool → Bool → Deed
ReadsBy false true old n moves new = Or LooksAt LosesLook old n moves new
ReadsBy _ _ old n moves new = Nothing old n moves new

pub record ReadsOn (old : HttpConn) (n : ℕ) (moves : List Move) (new : HttpConn) : Type 0 where
  pub ending : Bool
  pub tells : TellsEnding old ending
  pub by : ReadsBy ending (is_reading old.stage && not (is_looked_at old.request)) old n moves new

pub record Continues (old : HttpConn) (n : ℕ) (moves : List Move) (new : HttpConn) : Type 0 where
  pub moves_are : moves ≡ continues old.flags.c ∷ []
  pub is : new ≡ continued true old

abbrev pub LetsOnBy : Bool → Deed
LetsOnBy true old n moves new = Or Continues Loses old n moves new
LetsOnBy false old n moves new = Nothing old n moves new

pub record LetsOn (old : HttpConn) (n : ℕ) (moves : List Move) (new : HttpConn) : Type 0 where
  pub due : Bool
  pub tells : TellsContinue old due
  pub by : LetsOnBy due old n moves new

-- ---- the answer

-- what is due of it was made ready
pub record MakesReady (stamp : Option ℕ) (old : HttpConn) (n : ℕ) (moves : List Move) (new : HttpConn) : Type 0 where
  pub none : moves ≡ []
  pub found : new.lost ≡ false
  pub readies : ReadiesAnswer old.stage stamp old new

-- memory ran out for it; where the output has ended, the reply had not
pub record LosesReady (old : HttpConn) (n : ℕ) (moves : List Move) (new : HttpConn) : Type 0 where
  pub loses : Loses old n moves new
  pub lacks : (leg : Leg) → old.stage ≡ Running leg → outcome_of_run old.run ≡ Some Output → Lacks leg.reply
  pub may : MayLack old old.stage

-- a part of a reply is written
pub record WritesPart (leg : Leg) (old : HttpConn) (n : ℕ) (moves : List Move) (new : HttpConn) : Type 0 where
  pub moves_are : moves ≡ gives_all (acts_written old.flags.c leg.text true)
  pub is : new ≡ record (wrote leg.text true old) { stage = Running (record leg { text = [] }) }

-- .. or all that is left of the answer
pub record WritesRest (text : List ℕ) (closes : Bool) (old : HttpConn) (n : ℕ) (moves : List Move) (new : HttpConn) : Type 0 where
  pub moves_are : moves ≡ gives_all (acts_written old.flags.c text true)
  pub is : new ≡ stood closes (wrote text true old)

-- no room was found for this text
pub record LosesText (text : List ℕ) (old : HttpConn) (n : ℕ) (moves : List Move) (new : HttpConn) : Type 0 where
  pub filled : is_filled text ≡ true
  pub loses : Loses old n moves new

abbrev pub FinishesBy : List ℕ → Bool → Deed
FinishesBy text closes = Or (Then (Part (WritesRest text closes)) (Part Ends)) (Part (LosesText text))

abbrev pub GivesBy : Stage → Deed
GivesBy (Running leg) old n moves new = Or (Part (WritesPart leg)) (Part (LosesText leg.text)) old n moves new
GivesBy (Finishing text closes) old n moves new = FinishesBy text closes old n moves new
GivesBy _ old n moves new = Nothing old n moves new

-- what is ready of the answer is given
abbrev pub Gives : Deed
Gives old n moves new = GivesBy old.stage old n moves new

abbrev pub AnswersBy : Bool → Option ℕ → Deed
AnswersBy true stamp old n moves new = Nothing old n moves new
AnswersBy false stamp old n moves new = Or (Then (Part (MakesReady stamp)) Gives) (Part LosesReady) old n moves new

-- unless something ends the connection
pub record AnswersOn (stamp : Option ℕ) (old : HttpConn) (n : ℕ) (moves : List Move) (new : HttpConn) : Type 0 where
  pub ending : Bool
  pub tells : TellsEnding old ending
  pub by : AnswersBy ending stamp old n moves new

abbrev pub Answers : Option ℕ → Deed
Answers stamp = Then (Part ReadsOn) (Then (Part LetsOn) (AnswersOn stamp))

-- ---- the child

-- what is due for it is given
pub record ServesRun (v : View) (old : HttpConn) (n : ℕ) (moves : List Move) (new : HttpConn) : Type 0 where
  pub moves_are : moves ≡ gives_all (acting (has_room old.flags) v)
  pub is : new ≡ record old { run = Some (acted (has_room old.flags) v) }

abbrev pub ServesBy : Option View → Deed
ServesBy None old n moves new = Nothing old n moves new
ServesBy (Some v) old n moves new = Part (ServesRun v) old n moves new

abbrev pub ServesChild : Deed
ServesChild old n moves new = ServesBy old.run old n moves new

-- a Feed is due for it
pub record Feeds (run : Option View) : Type 0 where
  pub v : View
  pub run_is : run ≡ Some v
  pub due : is_feed_due v ≡ true

-- no room was found for a Feed: the connection is over, and its child given up
pub record LosesFeed (old : HttpConn) (n : ℕ) (moves : List Move) (new : HttpConn) : Type 0 where
  pub none : moves ≡ []
  pub v : View
  pub run : old.run ≡ Some v
  pub due : is_feed_due v ≡ true
  pub is : new ≡ losing old

-- .. and what is due is given to the child then
abbrev pub ServesOrLoses : Deed
ServesOrLoses = Or ServesChild (Then (Part LosesFeed) ServesChild)

abbrev pub Handles : Deed
Handles = Then ServesOrLoses (Part Ends)

-- ---- a hop

pub record MakesHopReady (stamp : Option ℕ) (old : HttpConn) (n : ℕ) (moves : List Move) (new : HttpConn) : Type 0 where
  pub none : moves ≡ []
  pub found : new.lost ≡ false
  pub readies : ReadiesHop old.stage stamp old new

-- the script of the hop is started, and this is its run
pub record StartsRun (leg : Leg) (launch : Launch) (v : View) (old : HttpConn) (n : ℕ) (moves : List Move) (new : HttpConn) : Type 0 where
  pub moves_are : moves ≡ gives (Start n old.flags.c old.number leg.hop launch) ∷ []
  pub is : new ≡ record old { run = Some v; stage = Running leg }

-- the run of the next child, to which this input was offered
abbrev pub run_begun : Site → ℕ → ScriptKind → List ℕ → Bool → View
run_begun site n kind body whole = offered (begun n kind site.limits) body whole

abbrev pub StartsScript : Leg → Launch → List ℕ → Bool → Deed
StartsScript leg launch body whole old n moves new = StartsRun leg launch (run_begun (site_of old) n leg.kind body whole) old n moves new

abbrev pub GivesHopBy : Stage → Deed
GivesHopBy (Finishing text closes) old n moves new = FinishesBy text closes old n moves new
GivesHopBy (Starting leg launch body whole) old n moves new = Or (Part (StartsScript leg launch body whole)) (Part Loses) old n moves new
GivesHopBy _ old n moves new = Nothing old n moves new

-- what is ready of the hop is given
abbrev pub GivesHop : Deed
GivesHop old n moves new = GivesHopBy old.stage old n moves new

-- memory ran out for it
pub record LosesHop (old : HttpConn) (n : ℕ) (moves : List Move) (new : HttpConn) : Type 0 where
  pub loses : Loses old n moves new
  pub waits : waits_at old.stage ≡ true

abbrev pub BeginsBy : Bool → Option ℕ → Deed
BeginsBy true stamp old n moves new = Or (Then (Part (MakesHopReady stamp)) GivesHop) (Part LosesHop) old n moves new
BeginsBy false stamp old n moves new = Nothing old n moves new

-- where it has its turn
pub record Begins (stamp : Option ℕ) (old : HttpConn) (n : ℕ) (moves : List Move) (new : HttpConn) : Type 0 where
  pub turn : Bool
  pub tells : TellsTurn old turn
  pub by : BeginsBy turn stamp old n moves new

-- ---- exchange after exchange

-- a round, where something may go on
pub record Round (stamp : Option ℕ) (old : HttpConn) (n : ℕ) (moves : List Move) (new : HttpConn) : Type 0 where
  pub more : TellsMore old true
  pub does : Then (Answers stamp) (Begins stamp) old n moves new

-- so many of them
abbrev pub Rounds : ℕ → Option ℕ → Deed
Rounds zero stamp old n moves new = Nothing old n moves new
Rounds (suc turns) stamp old n moves new = Then (Rounds turns stamp) (Round stamp) old n moves new

-- .. or some number of them
abbrev pub SomeRounds : Option ℕ → Deed
SomeRounds stamp old n moves new = (turns : ℕ) × Rounds turns stamp old n moves new

-- something might go on, and doesn't: memory counts as wanting
pub record LosesTurn (old : HttpConn) (n : ℕ) (moves : List Move) (new : HttpConn) : Type 0 where
  pub more : TellsMore old true
  pub loses : Loses old n moves new

-- as long as something may go on
pub record RoundsOn (stamp : Option ℕ) (old : HttpConn) (n : ℕ) (moves : List Move) (new : HttpConn) : Type 0 where
  pub turns : ℕ
  pub does : Then (Rounds turns stamp) (Or Nothing (Part LosesTurn)) old n moves new
  pub rests : TellsMore new false
  -- where there was no round nothing is given up
  pub none : turns ≡ 0 → new ≡ old
  -- .. nor before there was one for each byte that is kept, and two more
  pub enough : turns < kept_of old.request + 2 → new ≡ does.mid

abbrev pub Serves : Option ℕ → Deed
Serves stamp = Then (Answers stamp) (Then Handles (RoundsOn stamp))

-- ---- the end of a step

pub record Shuts (why : Why) (old : HttpConn) (n : ℕ) (moves : List Move) (new : HttpConn) : Type 0 where
  pub moves_are : moves ≡ gives (Shut old.flags.c why) ∷ []
  pub is : new ≡ record old { flags = noted old.flags (Out (Shut old.flags.c why)); run = given_up_by (is_no_memory why) old.run }

abbrev pub ShutsBy : Option Why → Deed
ShutsBy None old n moves new = Nothing old n moves new
ShutsBy (Some why) old n moves new = Shuts why old n moves new

-- it is shut, where that is due
pub record Closes (old : HttpConn) (n : ℕ) (moves : List Move) (new : HttpConn) : Type 0 where
  pub why : Option Why
  pub tells : TellsWhy old why
  pub by : ShutsBy why old n moves new

pub record Asks (old : HttpConn) (n : ℕ) (moves : List Move) (new : HttpConn) : Type 0 where
  pub moves_are : moves ≡ gives (WantClient old.flags.c) ∷ []
  pub is : new ≡ record old { flags = noted old.flags (Out (WantClient old.flags.c)) }

abbrev pub WantsBy : Bool → Deed
WantsBy true old n moves new = Asks old n moves new
WantsBy false old n moves new = Nothing old n moves new

-- its client is asked, where it must be heard
pub record Wants (old : HttpConn) (n : ℕ) (moves : List Move) (new : HttpConn) : Type 0 where
  pub due : Bool
  pub tells : TellsAsk old due
  pub by : WantsBy due old n moves new

-- a step, behind its event
abbrev pub Steps : Option ℕ → Deed
Steps stamp = Then (Serves stamp) (Then (Part Closes) (Part Wants))
