-- What the reply of a leg gives, hands out and fails with.
use Rattle.std.proofs.Common.{◌≡◌, ℕ, ◌==◌, Bool, true, false, ◌||◌, List, [], ◌++◌, length, Option, Some, None, Result, Ok, Err, IfOk, OnErr, refl, sym, ap, ◌∙◌, subst}
use Rattle.std.proofs.lemmas.Bool.{false≢true}
use Rattle.host_base.specs.declared.cause.Cause.{Cause}
use Rattle.reply_kinds.specs.Derived.{is_header_whole}
use Rattle.reply_stream.specs.declared.asked.Asked.{Asked}
use Rattle.reply_stream.specs.declared.stream.Last.{Last}
use Rattle.reply_stream.specs.declared.stream.Last.TheVariants as Ended
use Rattle.reply_stream.specs.Writing.{Stood, nothing, begun, is_begun}
use Rattle.exchange_reply.specs.declared.reply.LegReply.{LegReply}
use Rattle.exchange_reply.specs.Reply.{Fails, Gives, KnowsReply, MayEndWithout, MayTickWithout, SpellsFault}
use Rattle.exchange_reply.specs.Standings.{Ends}
use Rattle.exchange_reply.proofs.KnownLaws.{gives_tick}
use Rattle.reply_stream.specs.declared.stage.Flow.{Flow}
use Rattle.reply_stream.specs.declared.stage.Stage.{Stage as At}
use Rattle.reply_stream.specs.declared.stage.Stage.TheVariants.{Going, Ready, Settled, Waiting}
use Rattle.reply_stream.specs.Hearing.{Told}
use Rattle.reply_stream.specs.Stages.{IsAtStage}
use Rattle.reply_stream.proofs.StageLaws.{going_tick}
use Rattle.http_state.specs.Ready.{EndsAs, HearsPiece, HearsTick, Lacks, LacksTick}

pub hears_piece : {E : Type 0} (result : Result (List ℕ) E) (old new : LegReply) (piece : List ℕ) (closes : Bool) (now : Option ℕ)
    → ((asked : Asked) (told : List ℕ) (ticked : Bool) (stood : Stood) → KnowsReply old asked told ticked stood
    → IfOk result (λ text. Gives asked (told ++ piece) ticked closes now stood text new))
    → IfOk result (λ text. HearsPiece old piece closes now text new)
hears_piece (Ok text) old new piece closes now h = h
hears_piece (Err e) old new piece closes now h = tt

pub hears_tick : {E : Type 0} (result : Result (List ℕ) E) (old new : LegReply) (closes : Bool) (now : Option ℕ)
    → ((asked : Asked) (told : List ℕ) (ticked : Bool) (stood : Stood) → KnowsReply old asked told ticked stood
    → IfOk result (λ text. Gives asked told (ticked || is_header_whole asked.kind told) closes now stood text new))
    → IfOk result (λ text. HearsTick old closes now text new)
hears_tick (Ok text) old new closes now h = h
hears_tick (Err e) old new closes now h = tt

-- a reply that has begun writes nothing for a Tick
begun_going : (asked : Asked) (told : List Told) (held : List ℕ) (stage : At) (close : Bool) (stamp : Option ℕ) (bytes : List ℕ) → IsAtStage asked told held stage (begun close stamp bytes)
    → (flow : Flow) × (stage ≡ Going flow)
begun_going asked told held (Going flow) close stamp bytes is = (flow, refl)
begun_going asked told held _ close stamp bytes is = absurd is

pub begun_ticks : (reply : LegReply) (closes : Bool) (now : Option ℕ)
    → ((asked : Asked) (told : List ℕ) (ticked : Bool) (stood : Stood) → KnowsReply reply asked told ticked stood → true ≡ is_begun stood) → HearsTick reply closes now [] reply
begun_ticks reply closes now has asked told ticked nothing k = absurd (false≢true (sym (has asked told ticked nothing k)))
begun_ticks reply closes now has asked told ticked (begun close stamp bytes) k =
    let going = begun_going asked k.told reply.stream.held reply.stream.stage close stamp bytes k.is_at.stage_is in
    gives_tick asked told ticked closes now (begun close stamp bytes) [] reply reply k refl k.closes_is (going_tick asked k.told closes now (begun close stamp bytes) reply.stream going.0 going.1 k.is_at)

-- memory ran out for the Tick that came
pub lacks_tick : {E : Type 0} (result : Result (List ℕ) E) (reply : LegReply) (came : Bool) → came ≡ true
    → ((asked : Asked) (told : List ℕ) (ticked : Bool) (stood : Stood) → KnowsReply reply asked told ticked stood → OnErr result (MayTickWithout asked told ticked stood))
    → OnErr result ((came ≡ true) × LacksTick reply)
lacks_tick (Ok text) reply came is m = tt
lacks_tick (Err e) reply came is m = (is, m)

pub not_empty : (text piece : List ℕ) → (length piece == 0) ≡ false → piece ≡ [] → text ≡ []
not_empty text piece some none = absurd (false≢true (sym some ∙ ap (λ (l : List ℕ). length l == 0) none))

-- ---- the run failed

pub record FailsSome (asked : Asked) (cause : Cause) (closes : Bool) (now : Option ℕ) (stood : Stood) (text : List ℕ) : Type 0 where
  pub unbegun : false ≡ is_begun stood
  pub spells : SpellsFault cause asked.head_only closes now text

fails_by : (asked : Asked) (cause : Cause) (closes : Bool) (now : Option ℕ) (stood : Stood) (text : List ℕ) → Fails asked cause closes now stood (Some text)
    → FailsSome asked cause closes now stood text
fails_by asked cause closes now nothing text f = record { unbegun = refl; spells = f }
fails_by asked cause closes now (begun close stamp bytes) text f = absurd f

pub fails_with : (asked : Asked) (cause : Cause) (closes : Bool) (now : Option ℕ) (stood : Stood) (found : Option (List ℕ)) (text : List ℕ) → found ≡ Some text
    → Fails asked cause closes now stood found → FailsSome asked cause closes now stood text
fails_with asked cause closes now stood found text is f =
    fails_by asked cause closes now stood text (subst (λ (o : Option (List ℕ)). Fails asked cause closes now stood o) is f)

cuts_by : (asked : Asked) (cause : Cause) (closes : Bool) (now : Option ℕ) (stood : Stood) → Fails asked cause closes now stood None → true ≡ is_begun stood
cuts_by asked cause closes now nothing f = absurd f
cuts_by asked cause closes now (begun close stamp bytes) f = refl

pub fails_without : (asked : Asked) (cause : Cause) (closes : Bool) (now : Option ℕ) (stood : Stood) (found : Option (List ℕ)) → found ≡ None
    → Fails asked cause closes now stood found → true ≡ is_begun stood
fails_without asked cause closes now stood found is f = cuts_by asked cause closes now stood (subst (λ (o : Option (List ℕ)). Fails asked cause closes now stood o) is f)

-- ---- its output has ended

pub ends_as : (reply : LegReply) (closes : Bool) (now : Option ℕ) (found last : Last) → found ≡ last → EndsAs reply closes now found → EndsAs reply closes now last
ends_as reply closes now found last is e = subst (λ (l : Last). EndsAs reply closes now l) is e

-- .. in a hop, or in no reply at all: nothing was written
hop_lacks : (asked : Asked) (told : List ℕ) (closes : Bool) (now : Option ℕ) (stood : Stood) (location : List ℕ) → Ends asked told closes now stood (Ended.Hop location)
    → MayEndWithout asked told stood
hop_lacks asked told closes now nothing location e = tt
hop_lacks asked told closes now (begun close stamp bytes) location e = absurd e

pub lacks_hop : (reply : LegReply) (closes : Bool) (now : Option ℕ) (location : List ℕ) → EndsAs reply closes now (Ended.Hop location) → Lacks reply
lacks_hop reply closes now location e asked told ticked stood k = hop_lacks asked told closes now stood location (e asked told ticked stood k)

bad_lacks : (asked : Asked) (told : List ℕ) (closes : Bool) (now : Option ℕ) (stood : Stood) (cause : Cause) → Ends asked told closes now stood (Ended.Bad cause)
    → MayEndWithout asked told stood
bad_lacks asked told closes now nothing cause e = tt
bad_lacks asked told closes now (begun close stamp bytes) cause e = absurd e

pub lacks_bad : (reply : LegReply) (closes : Bool) (now : Option ℕ) (cause : Cause) → EndsAs reply closes now (Ended.Bad cause) → Lacks reply
lacks_bad reply closes now cause e asked told ticked stood k = bad_lacks asked told closes now stood cause (e asked told ticked stood k)
